-- The components, one by one: which values are in range, and what they bring.
-- Assumes nothing.
use Prim.Native.Nat.{ℕ, zero, suc, ◌+◌, ◌*◌, ◌≤◌, ◌<◌}
use mathlib.Core.Path.{◌≡◌, refl, ap, sym, ◌∙◌}
use mathlib.Core.List.{List, [], ◌∷◌, ◌++◌}
use mathlib.Core.Bool.{Bool, true, false, ◌&&◌, not}
use mathlib.Core.Logic.{inl}
use native.Mathlib.Omega.{arith}
use lib.ListN.{length, take, drop, length-drop}
use lib.Seq.{drop-drop, take-add, length-take-le}
use lib.Dec.{ltb}
use borrow.Author.Tests.{le-leb, ltb-true, not-true, not-false}
use Rattle.refusals.specs.Check.{pick, first_of}
use Rattle.refusals.proofs.Tests.{by_cases, and_true, and_right}
use Rattle.bits.specs.Bits.{bits, digits, put_bits, write_field, field}
use Rattle.bits.specs.Strings.{is_inside, string_at, write_fits, write_string}
use Rattle.bits.proofs.Laws.{bits_small, below_drop, below_take, length_bits, digits_number}
use Rattle.bits.proofs.Strings.{inside_le}
use Rattle.apdu_format.proofs.Values.{fits_value}
use Rattle.apdu_format.specs.Component.{Component, integer, string_form, string_length, string_octets}
use Rattle.apdu_format.specs.Rules.{raw, shape, checks_of, brings, announced, when}
use Rattle.apdu_format.specs.Reading.{Value, fields, string, numbers_of, sum, need, value_at}
use Rattle.apdu_format.specs.Writing.{bits_of, fits, is_value, field_bits, fields_fit}
use Rattle.apdu_format.proofs.Tests.{never, both}
use Rattle.apdu.specs.Values.{num, str, if}
use Rattle.apdu.proofs.Laws.{and_unit}
use Rattle.apdu_writing.specs.declared.quill.Quill.{Quill}
use Rattle.apdu_writing.specs.Quill.{behind, Put, Moves, Puts}
use Rattle.apdu_writing.proofs.Chains.{nothing, idle, then}
use Rattle.apdu_writing.proofs.Leaves.{packed, pack, leaf, leaf_two, in_number}

-- ---- numbers

number_range : (room n : ℕ) → ltb n 128 ≡ is_value integer room (num n)
unfolding is_value fits shape fields_fit checks_of first_of numbers_of
number_range room n = sym (and_unit (ltb n 128 && true) ∙ and_unit (ltb n 128))

pub number_by : (n : ℕ) {c r : Quill} {o o' : List ℕ} → Put 1 (ltb n 128) c r (write_field o (8 * c.at) 8 n) o o' → Puts true (integer ∷ []) c r o o' (num n ∷ [])
unfolding brings announced sum
number_by n {c} {r} {o} p =
    leaf integer (num n) p (in_number integer (1 ∷ 7 ∷ []) (0 ∷ n ∷ []) n (ltb n 128) c.room o (8 * c.at) (unfold shape in refl) (omega arith) (number_range c.room n) (λ g. unfold packed in omega arith)) refl

-- ---- optional components

module _ {is : List Component} {c r : Quill} {o o' : List ℕ} {vs : List Value} (p : Bool) where
  pub there : p ≡ true → Puts true is c r o o' vs → Puts true (when p is) c r o o' (if p vs)
  there e m = rw e m

  pub there_sound : {s : Bool} → p ≡ true → Puts s is c r o o' vs → Puts (pick p s true) (when p is) c r o o' (if p vs)
  there_sound e m = rw e m

module _ (is : List Component) (c : Quill) (o : List ℕ) (vs : List Value) (p : Bool) (no : p ≡ false) where
  pub absent : Puts true (when p is) c c o o (if p vs)
  absent = rw no (nothing [] c o)

  pub absent_sound : (s : Bool) → Puts (pick p s true) (when p is) c c o o (if p vs)
  absent_sound s = rw no (nothing [] c o)

-- ---- octet strings

-- the bits of a string that is inside
pub string_bits : (s : List ℕ) (start n : ℕ) → start + 8 * n ≤ 8 * length s → bits (string_at s start n) ≡ take (8 * n) (drop start (bits s))
unfolding string_at bits field
string_bits s start zero h = refl
string_bits s start (suc n) h =
    let l = drop start (bits s) in
    let m : 8 * suc n ≤ length l = omega (arith, length-drop start (bits s), length_bits s) in
    let e : 8 * suc n ≡ 8 + 8 * n = omega arith in
    ap (λ (k : List ℕ). k ++ bits (string_at s (start + 8) n)) (digits_number 8 l (below_drop start (bits_small s)) (omega arith))
    ∙ ap (λ (k : List ℕ). take 8 l ++ k) (string_bits s (start + 8) n (omega arith) ∙ ap (take (8 * n)) (sym (drop-drop 8 start (bits s))))
    ∙ sym (take-add 8 (8 * n) l) ∙ ap (λ (k : ℕ). take k l) (sym e)

module _ (s : List ℕ) (start n : ℕ) where
  abbrev octets_value : Value
  octets_value = string start (take (8 * n) (drop start (bits s)))

  octets_range : (room : ℕ) → is_inside (length s) start n ≡ true → is_value (string_octets n) room octets_value ≡ true
  unfolding is_value shape checks_of first_of value_at need
  octets_range room h =
      let k = inside_le (length s) start n h in
      let m : 8 * n ≤ length (drop start (bits s)) = omega (arith, length-drop start (bits s), length_bits s) in
      and_true (fits_value (raw n) start (drop start (bits s)) (below_drop start (bits_small s)) m) refl

  inside_is : (m at : ℕ) → at + 8 * n ≤ 8 * m → is_inside m at n ≡ true
  unfolding is_inside
  inside_is m at f = le-leb _ _ f

  pub octets_put : (o : List ℕ) (at : ℕ) → is_inside (length s) start n ≡ true → at + 8 * n ≤ 8 * length o
      → write_string s start n o at ≡ put_bits o at (bits (string_at s start n))
  unfolding write_string write_fits
  octets_put o at h f = rw (h, inside_is (length o) at f)

  octets_written : (o : List ℕ) (at : ℕ) → is_inside (length s) start n ≡ true → at + 8 * n ≤ 8 * length o
      → write_string s start n o at ≡ put_bits o at (take (8 * n) (drop start (bits s)))
  octets_written o at h f = octets_put o at h f ∙ ap (put_bits o at) (string_bits s start n (inside_le (length s) start n h))

  module _ {c r : Quill} {o o' : List ℕ} (p : Put n (is_inside (length s) start n) c r (write_string s start n o (8 * c.at)) o o') where
    octets_inside : is_inside (length s) start n ≡ true → Puts true (string_octets n ∷ []) c r o o' (octets_value ∷ [])
    unfolding bits_of shape announced brings
    octets_inside h =
        let k = inside_le (length s) start n h in
        leaf (string_octets n) octets_value p
        (record {
          range = h ∙ sym (octets_range c.room h);
          small = λ g. below_take (8 * n) (below_drop start (bits_small s));
          long = λ g. length-take-le (8 * n) (drop start (bits s)) (omega (arith, length-drop start (bits s), length_bits s));
          put = λ g f. octets_written o (8 * c.at) h f;
        })
        refl

    octets_outside : is_inside (length s) start n ≡ false → Puts false (string_octets n ∷ []) c r o o' (octets_value ∷ [])
    unfolding behind
    octets_outside h = record { good = λ g. never (sym (ap (λ (z : Quill). z.ok) p.is ∙ and_right c.ok h) ∙ g); bad = λ g k. inl refl }

    pub octets_by : Puts (is_inside (length s) start n) (string_octets n ∷ []) c r o o' (octets_value ∷ [])
    octets_by = by_cases (is_inside (length s) start n) (λ h. rw h (octets_inside h)) (λ h. rw h (octets_outside h))

form_bits : (n : ℕ) → field_bits (1 ∷ 7 ∷ []) (0 ∷ n ∷ []) ≡ bits_of (shape string_form) (fields (0 ∷ [])) ++ bits_of (shape string_length) (fields (n ∷ []))
unfolding bits_of shape field_bits digits numbers_of
form_bits n = refl

-- the form and the length of a string are one octet
form_length : (n : ℕ) → ltb n 128 ≡ true → digits 8 n ≡ bits_of (shape string_form) (fields (0 ∷ [])) ++ bits_of (shape string_length) (fields (n ∷ []))
unfolding packed sum fields_fit
form_length n g =
    let v : n ≡ packed (1 ∷ 7 ∷ []) (0 ∷ n ∷ []) = omega arith in
    let f : fields_fit (1 ∷ 7 ∷ []) (0 ∷ n ∷ []) ≡ true = rw g in
    ap (digits 8) v ∙ pack (1 ∷ 7 ∷ []) (0 ∷ n ∷ []) f ∙ form_bits n

-- a length that was written is small
pub short_by : {n : ℕ} {c r : Quill} {x o o' : List ℕ} → Put 1 (ltb n 128) c r x o o' → not r.ok ≡ false → n < 128
unfolding behind
short_by {n} {c} {r} p h = ltb-true n 128 (both c.ok (ltb n 128) (sym (ap (λ (z : Quill). z.ok) p.is) ∙ not-false r.ok h)).1

-- an octet string: its form and its length, and its octets
module _ (s : List ℕ) (start n : ℕ) {c e : Quill} {o o₁ : List ℕ} (long : Put 1 (ltb n 128) c e (write_field o (8 * c.at) 8 n) o o₁) where
  length_by : Moves true (string_form ∷ []) (string_octets n ∷ []) c e o o₁ (fields (0 ∷ []) ∷ fields (n ∷ []) ∷ [])
  unfolding brings announced numbers_of
  length_by =
      leaf_two string_form string_length (fields (0 ∷ [])) (fields (n ∷ [])) n long (omega arith) refl refl refl
      (unfold is_value fits shape fields_fit checks_of first_of numbers_of in refl)
      (unfold is_value fits shape fields_fit checks_of first_of numbers_of in sym (and_unit (ltb n 128 && true) ∙ and_unit (ltb n 128)))
      (form_length n)

  pub string_by : {r : Quill} {o₂ : List ℕ} → Put n (is_inside (length s) start n) e r (write_string s start n o₁ (8 * e.at)) o₁ o₂
      → Puts (is_inside (length s) start n) (string_form ∷ []) c r o o₂ (str s start n)
  string_by p = then length_by (octets_by s start n p)

  pub string_stopped : not e.ok ≡ true → Puts (is_inside (length s) start n) (string_form ∷ []) c e o o₁ (str s start n)
  string_stopped h = let no = not-true e.ok h in then length_by (idle no no)
