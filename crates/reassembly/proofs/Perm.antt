-- Lists that differ only in order.
use mathlib.Core.Path.{◌≡◌, refl, ap, ◌∙◌}
use mathlib.Core.Bool.{Bool, true, false}
use mathlib.Core.List.{List, [], ◌∷◌, ◌++◌}
use Prim.Native.Nat.{ℕ, suc, ◌+◌, ◌≤◌}
use native.Mathlib.Omega.{arith}
use lib.ListN.{length}
use Rattle.refusals.specs.Check.{pick}
use Rattle.slots.specs.Slots.{total}
use Rattle.reassembly.specs.Ledger.{those}

pub data Perm {A : Type 0} : List A → List A → Type 0 where
  none : Perm [] []
  skip : (x : A) {l m : List A} → Perm l m → Perm (x ∷ l) (x ∷ m)
  swap : (x y : A) (l : List A) → Perm (x ∷ y ∷ l) (y ∷ x ∷ l)
  trans : {l m n : List A} → Perm l m → Perm m n → Perm l n

module _ {A : Type 0} where
  pub perm_refl : (l : List A) → Perm l l
  perm_refl [] = none
  perm_refl (x ∷ l) = skip x (perm_refl l)

  pub perm_sym : {l m : List A} → Perm l m → Perm m l
  perm_sym none = none
  perm_sym (skip x p) = skip x (perm_sym p)
  perm_sym (swap x y l) = swap y x l
  perm_sym (trans p q) = trans (perm_sym q) (perm_sym p)

  pub perm_length : {l m : List A} → Perm l m → length l ≡ length m
  perm_length none = refl
  perm_length (skip x p) = ap suc (perm_length p)
  perm_length (swap x y l) = refl
  perm_length (trans p q) = perm_length p ∙ perm_length q

  pub perm_total : (f : A → ℕ) {l m : List A} → Perm l m → total f l ≡ total f m
  unfolding total
  perm_total f none = refl
  perm_total f (skip x p) = ap (λ (n : ℕ). f x + n) (perm_total f p)
  perm_total f (swap x y l) = omega arith
  perm_total f (trans p q) = perm_total f p ∙ perm_total f q

  skip_if : (b : Bool) (x : A) {l m : List A} → Perm l m → Perm (pick b (x ∷ l) l) (pick b (x ∷ m) m)
  skip_if true x p = skip x p
  skip_if false x p = p

  swap_if : (b c : Bool) (x y : A) (l : List A) → Perm (pick b (x ∷ pick c (y ∷ l) l) (pick c (y ∷ l) l)) (pick c (y ∷ pick b (x ∷ l) l) (pick b (x ∷ l) l))
  swap_if true true x y l = swap x y l
  swap_if true false x y l = perm_refl (x ∷ l)
  swap_if false true x y l = perm_refl (y ∷ l)
  swap_if false false x y l = perm_refl l

  pub perm_those : (f : A → Bool) {l m : List A} → Perm l m → Perm (those f l) (those f m)
  unfolding those
  perm_those f none = none
  perm_those f (skip x p) = skip_if (f x) x (perm_those f p)
  perm_those f (swap x y l) = swap_if (f x) (f y) x y (those f l)
  perm_those f (trans p q) = trans (perm_those f p) (perm_those f q)

  pub perm_middle : (x : A) (l m : List A) → Perm (x ∷ l ++ m) (l ++ x ∷ m)
  perm_middle x [] m = perm_refl (x ∷ m)
  perm_middle x (y ∷ l) m = trans (swap x y (l ++ m)) (skip y (perm_middle x l m))

  -- a list of one element has no other order
  pub perm_one : {l m : List A} → Perm l m → length l ≤ 1 → l ≡ m
  perm_one none h = refl
  perm_one (skip x p) h = ap (λ l. x ∷ l) (perm_one p (omega arith))
  perm_one (swap x y l) h = absurd (omega arith)
  perm_one (trans p q) h = perm_one p h ∙ perm_one q (omega (arith, perm_length p))
