-- Parts of a list of 32 places.
-- Assumes nothing.
use Prim.Native.Nat.{ℕ, ◌+◌, ◌-◌, ◌≤◌, ◌<◌}
use mathlib.Core.Path.{◌≡◌, refl, ap, sym, ◌∙◌}
use mathlib.Core.List.{List, map}
use native.Mathlib.Omega.{arith}
use lib.ListN.{length, length-map, length-take, take, drop, get_or, length-drop}
use lib.Seq.{take_all, length-take-le, get_or-take, get_or-drop}
use lib.Dec.{ltb}
use borrow.Author.Tests.{ltb-true, ltb-false, lt-ltb, le-ltb}
use Rattle.refusals.proofs.Tests.{by_test}
use Rattle.apdu.specs.Tables.{lesser}

-- an array of structs is as long as its values
pub long : (A B : Type 0) (f : A → B) (l : List A) (n : ℕ) → length (map f l) ≡ n → length l ≡ n
long A B f l n e = sym (length-map l f) ∙ e

pub lesser_length : {A : Type 0} (n : ℕ) (l : List A) {most : ℕ} → length l ≡ most → length (take n l) ≡ lesser most n
unfolding lesser
lesser_length n l {most} e =
    by_test (λ (k : ℕ). length (take n l) ≡ k) (ltb most n)
    (λ h. ap length (take_all n l (omega (arith, ltb-true most n h))) ∙ e) (λ h. length-take-le n l (omega (arith, ltb-false most n h)))

module _ (most n : ℕ) where
  pub lesser_none : most ≡ 0 → 0 ≡ lesser most n
  unfolding lesser
  lesser_none e = by_test (λ (k : ℕ). 0 ≡ k) (ltb most n) (λ h. sym e) (λ h. omega (arith, ltb-false most n h))

  pub lesser_most : most < n → most ≡ lesser most n
  unfolding lesser
  lesser_most h = rw (lt-ltb most n h)

  pub lesser_all : n ≤ most → n ≡ lesser most n
  unfolding lesser
  lesser_all h = rw (le-ltb most n h)

-- the places from first on, as many as there are
pub part_length : {A : Type 0} (table : List A) (first count : ℕ) {n : ℕ} → length table ≡ 32 → n ≡ lesser (32 - first) count → n ≡ length (take count (drop first table))
part_length table first count e f = f ∙ sym (lesser_length count (drop first table) (length-drop first table ∙ ap (λ (k : ℕ). k - first) e))

pub part_place : {A : Type 0} (d : A) (table : List A) (first count i : ℕ) {n : ℕ} → n ≡ length (take count (drop first table)) → i < n
    → get_or table (first + i) d ≡ get_or (take count (drop first table)) i d
part_place d table first count i e h =
    sym (get_or-drop first table i d) ∙ sym (get_or-take count (drop first table) i d (omega (arith, length-take count (drop first table))))

-- as many of a list as there are
pub lesser_take : {A : Type 0} (n : ℕ) (l : List A) → take (lesser (length l) n) l ≡ take n l
unfolding lesser
lesser_take n l = by_test (λ (k : ℕ). take k l ≡ take n l) (ltb (length l) n) (λ h. take_all (length l) l (omega arith) ∙ sym (take_all n l (omega (arith, ltb-true (length l) n h)))) (λ h. refl)
