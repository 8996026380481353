-- Strings, lists of ids and containers that agree.
-- Assumes nothing.
use Prim.Native.Nat.{ℕ, zero, suc, ◌+◌, ◌*◌}
use mathlib.Core.Path.{◌≡◌, refl, ap, sym, ◌∙◌}
use mathlib.Core.List.{List, [], ◌∷◌, ◌++◌, append-nil}
use mathlib.Core.Bool.{Bool, true, false, ◌&&◌, ◌||◌}
use native.Mathlib.Omega.{arith}
use native.Mathlib.Numerals.{add-one}
use lib.Dec.{eqb}
use lib.ListN.{length, take, drop}
use borrow.Author.Tests.{eq-eqb, eqb-true}
use Rattle.refusals.specs.Check.{pick}
use Rattle.bits.specs.Bits.{bits, number, octets, field}
use Rattle.bits.specs.Strings.{is_inside, string_at, same_octets, same_string}
use Rattle.bits.proofs.Laws.{bits_small, below_drop, number_lt, number_add, octets_bits}
use Rattle.bits.proofs.Strings.{inside_le, length_string, string_snoc, string_small}
use Rattle.apdu_format.specs.Rules.{shape}
use Rattle.apdu_format.specs.Reading.{string, fields_of, value_at}
use Rattle.apdu_format.proofs.Tests.{never, both}
use Rattle.apdu.specs.Values.{num, str, id_at, ids_at, id_list, head_values}
use Rattle.apdu.specs.Sound.{part_fits}
use Rattle.apdu.proofs.Laws.{and_unit}
use Rattle.apdu_writing.proofs.Components.{string_bits}
use Rattle.apdu_same.specs.Comparison.{same_value}
use Rattle.apdu_same.specs.Walk.{same_part, same_head, Agree}
use Rattle.apdu_same.proofs.Agreement.{agree_none, agree_one, agree_then, agree_field, agree_number}

-- ---- tests of the same

pub tests_same : (a b : Bool) → (a ≡ true → b ≡ true) → (b ≡ true → a ≡ true) → a ≡ b
tests_same true b f g = sym (f refl)
tests_same false true f g = g refl
tests_same false false f g = refl

pub same_refl : (l : List ℕ) → same_octets l l ≡ true
unfolding same_octets
same_refl [] = refl
same_refl (x ∷ l) = rw (eq-eqb x x refl) (same_refl l)

pub same_eq : (l m : List ℕ) → same_octets l m ≡ true → l ≡ m
unfolding same_octets
same_eq [] [] e = refl
same_eq [] (y ∷ m) e = never e
same_eq (x ∷ l) [] e = never e
same_eq (x ∷ l) (y ∷ m) e =
    let h = both (eqb x y) (same_octets l m) e in
    ap (λ (z : ℕ). z ∷ l) (eqb-true x y h.0) ∙ ap (λ (k : List ℕ). y ∷ k) (same_eq l m h.1)

pub eq_same : (l m : List ℕ) → l ≡ m → same_octets l m ≡ true
eq_same l m e = rw e (same_refl m)

same_snoc : (l m : List ℕ) (x y : ℕ) → length l ≡ length m → same_octets (l ++ (x ∷ [])) (m ++ (y ∷ [])) ≡ (same_octets l m && eqb x y)
unfolding same_octets
same_snoc [] [] x y e = and_unit (eqb x y)
same_snoc [] (b ∷ m) x y e = absurd (omega arith)
same_snoc (a ∷ l) [] x y e = absurd (omega arith)
same_snoc (a ∷ l) (b ∷ m) x y e =
    ap (λ (z : Bool). eqb a b && z) (same_snoc l m x y (omega arith)) ∙ and_assoc (eqb a b) (same_octets l m) (eqb x y)
  where
    and_assoc : (a b c : Bool) → (a && (b && c)) ≡ ((a && b) && c)
    and_assoc true b c = refl
    and_assoc false b c = refl

-- ---- strings

module _ (s : List ℕ) (start : ℕ) (t : List ℕ) (at n : ℕ) (here : is_inside (length s) start n ≡ true) (there : is_inside (length t) at n ≡ true) where
  abbrev bits_here : List ℕ
  bits_here = take (8 * n) (drop start (bits s))

  abbrev bits_there : List ℕ
  bits_there = take (8 * n) (drop at (bits t))

  inside_same : same_string s start t at n ≡ same_octets (string_at s start n) (string_at t at n)
  unfolding same_string
  inside_same = rw (here, there)

  back : (u : List ℕ) (from : ℕ) → octets n (bits (string_at u from n)) ≡ string_at u from n
  back u from =
      ap (octets n) (sym (append-nil (bits (string_at u from n))))
      ∙ ap (λ (k : ℕ). octets k (bits (string_at u from n) ++ [])) (sym (length_string u from n)) ∙ octets_bits (string_at u from n) [] (string_small u from n)

  bits_string : same_octets bits_here bits_there ≡ same_string s start t at n
  bits_string =
      let a = string_bits s start n (inside_le (length s) start n here) in
      let b = string_bits t at n (inside_le (length t) at n there) in
      tests_same (same_octets bits_here bits_there) (same_octets (string_at s start n) (string_at t at n))
      (λ e. eq_same (string_at s start n) (string_at t at n) (sym (back s start) ∙ ap (octets n) (a ∙ same_eq bits_here bits_there e ∙ sym b) ∙ back t at))
      (λ e. eq_same bits_here bits_there (sym a ∙ ap bits (same_eq (string_at s start n) (string_at t at n) e) ∙ b))
      ∙ sym inside_same

  agree_string : Agree (string start bits_here ∷ []) (string at bits_there ∷ []) (same_string s start t at n)
  unfolding same_value
  agree_string = rw (← bits_string) (agree_one (string start bits_here) (string at bits_there))

module _ (s : List ℕ) (start n : ℕ) (t : List ℕ) (at m : ℕ) (here : is_inside (length s) start n ≡ true) (there : is_inside (length t) at m ≡ true) where
  pub strings_agree : Agree (str s start n) (str t at m) (same_part s start n t at m)
  unfolding same_part
  strings_agree =
      agree_then (agree_field 0 0)
      (λ z. agree_then (agree_field n m) (λ e. let k = eqb-true n m e in rw (← k) (agree_string s start t at n here (rw (← k) at there))))

-- ---- lists of ids

id_octet : (s : List ℕ) (start : ℕ) (t : List ℕ) (at : ℕ) → same_value (id_at s start) (id_at t at) ≡ eqb (field s start 8) (field t at 8)
unfolding same_value same_octets shape value_at fields_of field
id_octet s start t at =
    let l = drop start (bits s) in
    let m = drop at (bits t) in
    let a = number_add 1 7 l in
    let b = number_add 1 7 m in
    let c = number_lt 7 (drop 1 l) (below_drop 1 (below_drop start (bits_small s))) in
    let d = number_lt 7 (drop 1 m) (below_drop 1 (below_drop at (bits_small t))) in
    tests_same (eqb (number 1 l) (number 1 m) && (eqb (number 7 (drop 1 l)) (number 7 (drop 1 m)) && true)) (eqb (number 8 l) (number 8 m))
    (λ e. let h = both (eqb (number 1 l) (number 1 m)) (eqb (number 7 (drop 1 l)) (number 7 (drop 1 m)) && true) e in
    let p = eqb-true (number 1 l) (number 1 m) h.0 in
    let q = eqb-true (number 7 (drop 1 l)) (number 7 (drop 1 m)) (sym (and_unit (eqb (number 7 (drop 1 l)) (number 7 (drop 1 m)))) ∙ h.1) in
    eq-eqb (number 8 l) (number 8 m) (omega (arith, a, b, p, q)))
    (λ e. let h = eqb-true (number 8 l) (number 8 m) e in
    let p : number 1 l ≡ number 1 m = omega (arith, a, b, c, d) in
    let q : number 7 (drop 1 l) ≡ number 7 (drop 1 m) = omega (arith, a, b, c, d) in
    rw (eq-eqb (number 1 l) (number 1 m) p, eq-eqb (number 7 (drop 1 l)) (number 7 (drop 1 m)) q))

ids_octets : (s : List ℕ) (start : ℕ) (t : List ℕ) (at n : ℕ) → Agree (ids_at s start n) (ids_at t at n) (same_octets (string_at s start n) (string_at t at n))
unfolding ids_at
ids_octets s start t at zero = unfold string_at same_octets in agree_none
ids_octets s start t at (suc n) =
    rw more
    (agree_then (ids_octets s start t at n)
    (λ e. rw (← id_octet s (start + 8 * n) t (at + 8 * n)) (agree_one (id_at s (start + 8 * n)) (id_at t (at + 8 * n)))))
  where
    more : same_octets (string_at s start (suc n)) (string_at t at (suc n)) ≡ (same_octets (string_at s start n) (string_at t at n) && eqb (field s (start + 8 * n) 8) (field t (at + 8 * n) 8))
    more =
        ap (λ (k : ℕ). same_octets (string_at s start k) (string_at t at k)) (sym (add-one n))
        ∙ ap (λ (l : List ℕ). same_octets l (string_at t at (n + 1))) (string_snoc s start n)
        ∙ ap (λ (l : List ℕ). same_octets (string_at s start n ++ (field s (start + 8 * n) 8 ∷ [])) l) (string_snoc t at n)
        ∙ same_snoc (string_at s start n) (string_at t at n) (field s (start + 8 * n) 8) (field t (at + 8 * n) 8) (length_string s start n ∙ sym (length_string t at n))

module _ (s : List ℕ) (start n : ℕ) (t : List ℕ) (at m : ℕ) (here : is_inside (length s) start n ≡ true) (there : is_inside (length t) at m ≡ true) where
  pub ids_agree : Agree (id_list s start n) (id_list t at m) (same_part s start n t at m)
  unfolding same_part
  ids_agree =
      agree_then (agree_number n m)
      (λ e. let k = eqb-true n m e in
      rw (← k)
      (agree_then place (λ z. rw (inside_same s start t at n here (rw (← k) at there)) (ids_octets s start t at n))))
    where
      place : Agree (string start [] ∷ []) (string at [] ∷ []) true
      place = unfold same_value same_octets in agree_one (string start []) (string at [])

-- ---- containers up to their rows

module _ (s : List ℕ) (n start : ℕ) (t : List ℕ) (m at : ℕ) where
  content_agrees : (x y : Bool) → pick x (is_inside (length s) start n) (pick y (is_inside (length s) start n) true) ≡ true
      → pick x (is_inside (length t) at m) (pick y (is_inside (length t) at m) true) ≡ true
      → Agree (pick x (str s start n) (pick y (id_list s start n) (num n ∷ []))) (pick x (str t at m) (pick y (id_list t at m) (num m ∷ [])))
      (eqb n m && pick (x || y) (same_string s start t at n) true)
  content_agrees true y f g = unfold same_part in strings_agree s start n t at m f g
  content_agrees false true f g = unfold same_part in ids_agree s start n t at m f g
  content_agrees false false f g = rw (and_unit (eqb n m)) (agree_number n m)

pub head_agrees : (s : List ℕ) (k n start : ℕ) (t : List ℕ) (l m at : ℕ) → part_fits (length s) k n start ≡ true → part_fits (length t) l m at ≡ true
    → Agree (head_values s k n start) (head_values t l m at) (same_head s k n start t l m at)
unfolding part_fits head_values same_head
head_agrees s k n start t l m at f g =
    agree_then (agree_number k l)
    (λ e. let j = eqb-true k l e in rw (← j) (content_agrees s n start t m at (eqb k 2) (eqb k 8) f (rw (← j) at g)))

-- two heads that agree announce the same rows
pub head_same : (s : List ℕ) (k n start : ℕ) (t : List ℕ) (l m at : ℕ) → same_head s k n start t l m at ≡ true → (k ≡ l) × (n ≡ m)
unfolding same_head
head_same s k n start t l m at e =
    let h = both (eqb k l) (eqb n m && pick (eqb k 2 || eqb k 8) (same_string s start t at n) true) e in
    let i = both (eqb n m) (pick (eqb k 2 || eqb k 8) (same_string s start t at n) true) h.1 in
    (eqb-true k l h.0, eqb-true n m i.0)
