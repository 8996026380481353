-- The bits of a message, component by component: numbers up to 127 and strings inside the octets in which they stand are in range.
-- Assumes nothing.
use Prim.Native.Nat.{ℕ, ◌+◌, ◌-◌, ◌*◌, ◌/◌, ◌^◌, ◌<◌, ◌≤◌}
use mathlib.Core.Path.{◌≡◌, refl, ap, ap₂, sym, ◌∙◌}
use mathlib.Core.Bool.{true, ◌&&◌}
use mathlib.Core.List.{List, [], ◌∷◌, ◌++◌, append_assoc, append-nil}
use native.Mathlib.Omega.{arith}
use lib.Dec.{ltb}
use lib.ListN.{length, take, drop, length-append, length-drop}
use borrow.Author.Tests.{lt-ltb}
use Rattle.refusals.specs.Check.{first_of}
use Rattle.refusals.proofs.Tests.{and_true}
use Rattle.bits.specs.Bits.{bits}
use Rattle.bits.specs.Strings.{is_inside}
use Rattle.bits.proofs.Laws.{below_drop, bits_small, length_bits}
use Rattle.bits.proofs.Strings.{inside_le}
use Rattle.apdu_format.specs.Component.{Component, choice, integer, string_form, string_length, string_octets, container}
use Rattle.apdu_format.specs.Rules.{shape, raw, checks_of, brings, announced, content}
use Rattle.apdu_format.specs.Reading.{Value, fields, string, numbers_of, value_at, sum, need}
use Rattle.apdu_format.specs.Writing.{Pen, fields_fit, bits_of, fits, is_value, written, none, in_range, encode, size}
use Rattle.apdu_format.proofs.Values.{fits_value, length_value}
use Rattle.apdu.specs.Values.{num, str, head_values}
use Rattle.apdu_writing.specs.Quill.{pen_at, writes}
use Rattle.apdu_writing.proofs.Levels.{writes_none}
use Rattle.attribute_promises.proofs.Plain.{stepped, fit}

-- ---- components one behind the other

-- from the components is and the values vs to what is left of both, with at most n bits
pub record Writes (is : List Component) (vs : List Value) (room : ℕ) (js : List Component) (rest : List Value) (left n : ℕ) : Type 0 where
  pub w : List ℕ
  pub so : (b : List ℕ) → writes is (pen_at vs room b) ≡ writes js (pen_at rest left (b ++ w))
  pub long : length w ≤ n

pub one : (i : Component) (is : List Component) (v : Value) (rest : List Value) (room : ℕ) {js : List Component} {left n : ℕ} → is_value i room v ≡ true
    → (brings i (numbers_of v) ++ is) ≡ js → room - announced i (numbers_of v) ≡ left → need (shape i) ≤ n → Writes (i ∷ is) (v ∷ rest) room js rest left n
one i is v rest room h e f k =
    let w = bits_of (shape i) v in
    record {
      w = w;
      so = λ b. stepped i is v rest room b h ∙ ap₂ (λ (l : List Component) (k : ℕ). writes l (pen_at rest k (b ++ w))) e f;
      long = omega (arith, k, length_value (shape i) v (fit i room v h));
    }

pub joined : {is js ks : List Component} {us vs ws : List Value} {room left last n m : ℕ} → Writes is us room js vs left n → Writes js vs left ks ws last m → Writes is us room ks ws last (n + m)
joined {is} {js} {ks} {us} {vs} {ws} {room} {left} {last} a c =
    record {
      w = a.w ++ c.w;
      so = λ b. a.so b ∙ c.so (b ++ a.w) ∙ ap (λ (l : List ℕ). writes ks (pen_at ws last l)) (append_assoc b a.w c.w);
      long = omega (arith, a.long, c.long, length-append a.w c.w);
    }

pub within : {is js : List Component} {us vs : List Value} {room left n : ℕ} (m : ℕ) → Writes is us room js vs left n → n ≤ m → Writes is us room js vs left m
within m a h = record { w = a.w; so = a.so; long = omega (arith, h, a.long) }

pub nothing : (is : List Component) (vs : List Value) (room : ℕ) → Writes is vs room is vs room 0
nothing is vs room = record { w = []; so = λ b. ap (λ (l : List ℕ). writes is (pen_at vs room l)) (sym (append-nil b)); long = omega arith }

-- ---- numbers and strings

number_fine : (room n : ℕ) → n < 128 → is_value integer room (num n) ≡ true
unfolding is_value fits fields_fit shape checks_of first_of numbers_of
number_fine room n h = let e : ltb n (2 ^ 7) ≡ true = lt-ltb n (2 ^ 7) h in and_true (and_true refl (and_true e refl)) refl

pub number : (n : ℕ) (is : List Component) (rest : List Value) (room : ℕ) → n < 128 → Writes (integer ∷ is) (num n ∷ rest) room is rest room 8
unfolding brings announced shape need sum
number n is rest room h = one integer is (num n) rest room (number_fine room n h) refl (omega arith) (omega arith)

module _ (s : List ℕ) (start n : ℕ) (inside : is_inside (length s) start n ≡ true) (short : n < 128) (is : List Component) (rest : List Value) (room : ℕ) where
  abbrev octets : Value
  octets = string start (take (8 * n) (drop start (bits s)))

  length_fine : is_value string_length room (fields (n ∷ [])) ≡ true
  unfolding is_value fits fields_fit shape checks_of first_of
  length_fine = let e : ltb n (2 ^ 7) ≡ true = lt-ltb n (2 ^ 7) short in and_true (and_true e refl) refl

  octets_fine : is_value (string_octets n) room octets ≡ true
  unfolding is_value shape checks_of first_of value_at need
  octets_fine =
      let l = drop start (bits s) in
      let k : 8 * n ≤ length l = omega (arith, inside_le (length s) start n inside, length_bits s, length-drop start (bits s)) in
      and_true (fits_value (raw n) start l (below_drop start (bits_small s)) k) refl

  string_written : Writes (string_form ∷ is) (str s start n ++ rest) room is rest room (8 + 8 * n)
  unfolding brings announced shape need sum numbers_of is_value fits fields_fit checks_of first_of
  string_written =
      let a : Writes (string_form ∷ is) (str s start n ++ rest) room (string_length ∷ is) (fields (n ∷ []) ∷ octets ∷ rest) room 1 =
      one string_form is (fields (0 ∷ [])) (fields (n ∷ []) ∷ octets ∷ rest) room refl refl (omega arith) (omega arith) in
      let b : Writes (string_length ∷ is) (fields (n ∷ []) ∷ octets ∷ rest) room (string_octets n ∷ is) (octets ∷ rest) room 7 =
      one string_length is (fields (n ∷ [])) (octets ∷ rest) room length_fine refl (omega arith) (omega arith) in
      let c : Writes (string_octets n ∷ is) (octets ∷ rest) room is rest room (8 * n) = one (string_octets n) is octets rest room octets_fine refl (omega arith) (omega arith) in
      within (8 + 8 * n) (joined a (joined b c)) (omega arith)

  -- a container with that string
  pub box_written : Writes (container 1 ∷ is) (head_values s 2 n start ++ rest) room is rest room (16 + 8 * n)
  unfolding head_values brings content announced shape need sum numbers_of is_value fits fields_fit checks_of first_of
  box_written =
      let a : Writes (container 1 ∷ is) (head_values s 2 n start ++ rest) room (string_form ∷ is) (str s start n ++ rest) room 8 =
      one (container 1) is (num 2) (str s start n ++ rest) room refl refl (omega arith) (omega arith) in
      within (16 + 8 * n) (joined a string_written) (omega arith)

-- ---- the whole

-- such a message passes 23, and its size is known
pub finished : {vs : List Value} {left n : ℕ} → Writes (choice ∷ []) vs 32 [] [] left n → (in_range vs ≡ true) × (size vs ≤ n / 8)
unfolding in_range written writes encode size none
finished {vs} {left} {n} a =
    let z = a.so [] ∙ writes_none (pen_at [] left ([] ++ a.w)) in
    let e : size vs ≡ length a.w / 8 = ap (λ (p : Pen). length p.out / 8) z in
    (ap (λ (p : Pen). p.ok && none p.left) z, omega (arith, e, a.long))
