-- What the quill's functions answer, one law for each way out.
-- Assumes nothing.
use Prim.Native.Nat.{ℕ, ◌+◌, ◌<◌, min}
use mathlib.Core.Path.{◌≡◌, ap, sym, ◌∙◌}
use mathlib.Core.List.{List}
use mathlib.Core.Bool.{Bool, true, false, ◌&&◌, not}
use native.Mathlib.Omega.{arith}
use lib.Dec.{ltb}
use borrow.Author.Tests.{ltb-true, ltb-false, not-true, not-false}
use Rattle.refusals.proofs.Tests.{by_test}
use Rattle.apdu_writing.specs.declared.quill.Quill.{Quill}
use Rattle.apdu_writing.specs.Quill.{quill, far, least, behind, Put, spent}

-- ---- places

pub least_is : (n : ℕ) → min n far ≡ least n
unfolding least
least_is n = by_test (λ (k : ℕ). min n far ≡ k) (ltb n far) (λ h. let l = ltb-true n far h in omega arith) (λ h. let l = ltb-false n far h in omega arith)

-- ---- put

module _ {k : ℕ} {fine : Bool} {c : Quill} {x o : List ℕ} where
  pub put_stopped : not c.ok ≡ true → Put k fine c c x o o
  unfolding behind
  put_stopped h = let n = not-true c.ok h in record { is = rw n; out = rw n }

  pub put_wrong : not c.ok ≡ false → fine ≡ false → Put k fine c (quill c.at c.room false) x o o
  unfolding behind
  put_wrong h f = let n = not-false c.ok h in record { is = rw (n, f); out = rw (n, f) }

  pub put_done : not c.ok ≡ false → fine ≡ true → {o' : List ℕ} → o' ≡ x → {at : ℕ} → at ≡ least (c.at + k) → Put k fine c (quill at c.room c.ok) x o o'
  unfolding behind
  put_done h f e a = let n = not-false c.ok h in record { is = rw (n, f) (ap (λ (i : ℕ). quill i c.room true) a); out = rw (n, f) e }

-- octets that may be written, by a test and its law
module _ (fine : Bool) {r x : Bool} (e : r ≡ x) where
  pub both_not : not (fine && r) ≡ true → (fine && x) ≡ false
  both_not h = ap (λ (b : Bool). fine && b) (sym e) ∙ not-true (fine && r) h

  pub both_so : not (fine && r) ≡ false → (fine && x) ≡ true
  both_so h = ap (λ (b : Bool). fine && b) (sym e) ∙ not-false (fine && r) h

-- ---- spend

pub spent_all : (n : ℕ) (c : Quill) → c.room < n → quill c.at 0 c.ok ≡ spent n c
unfolding spent
spent_all n c h = ap (λ (k : ℕ). quill c.at k c.ok) (omega arith)
