-- Laws of words. Assumes nothing.
use mathlib.Core.Path.{◌≡◌, refl, ap, sym, ◌∙◌}
use Rattle.std.proofs.Common.{Result, Ok, Err}
use Rattle.std.specs.Result.{OkIff, result_unwrap_or}
use Rattle.std.proofs.lemmas.Result.{OkIff-at_ok, OkIff-at_err}
use mathlib.Core.Bool.{false}
use mathlib.Core.List.{List}
use Prim.Native.Nat.{ℕ, ◌≤◌, ◌<◌, ◌-◌, ◌^◌}
use native.Mathlib.Omega.{arith}
use lib.Dec.{ltb, leb}
use lib.ListN.{length, get_or, get_or-eq_default}
use borrow.Author.Tests.{lt-ltb, le-ltb, lt-leb, ltb-true, ltb-false}
use Rattle.refusals.proofs.Tests.{by_cases}
use Rattle.words.specs.Word.{narrow_to}

pub narrow_small : (bits x : ℕ) → x < 2 ^ bits → x ≡ narrow_to bits x
unfolding narrow_to
narrow_small bits x h = rw (lt-ltb x (2 ^ bits) h)

pub narrow_large : (bits x : ℕ) → 2 ^ bits ≤ x → 2 ^ bits - 1 ≡ narrow_to bits x
unfolding narrow_to
narrow_large bits x h = rw (le-ltb x (2 ^ bits) h)

-- a number that is too large for eight bits is above each bound below 255
pub narrow_above : (most x : ℕ) → most < 255 → 2 ^ 8 ≤ x → leb (narrow_to 8 x) most ≡ false
narrow_above most x m h = ap (λ (k : ℕ). leb k most) (sym (narrow_large 8 x h)) ∙ lt-leb 255 most m

-- a word that is not 0 stands inside
pub word_inside : (words : List ℕ) (at : ℕ) → 0 < get_or words at 0 → at < length words
word_inside words at h =
    by_cases (ltb at (length words)) (λ t. ltb-true at (length words) t)
    (λ t. absurd (omega (arith, get_or-eq_default words 0 (ltb-false at (length words) t))))

-- a number that is converted where it fits, and otherwise is the largest
pub narrowed : {E : Type 0} (bits x : ℕ) (r : Result ℕ E) → OkIff r (x < 2 ^ bits) x → result_unwrap_or r (2 ^ bits - 1) ≡ narrow_to bits x
narrowed {E} bits x (Ok y) h = let k : (x < 2 ^ bits) × (y ≡ x) = OkIff-at_ok {T = ℕ} {E = E} (Ok y) (x < 2 ^ bits) x y h refl in k.1 ∙ narrow_small bits x k.0
narrowed {E} bits x (Err e) h = let n : x < 2 ^ bits → ⊥ = OkIff-at_err {T = ℕ} {E = E} (Err e) (x < 2 ^ bits) x e h refl in narrow_large bits x (omega (arith, n))
