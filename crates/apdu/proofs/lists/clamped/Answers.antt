-- The two ways of `lesser`.
-- Assumes nothing.
use Prim.Native.Nat.{ℕ, ◌-◌}
use mathlib.Core.Path.{◌≡◌}
use native.Mathlib.Omega.{arith}
use borrow.Author.Tests.{ltb-true, ltb-false}
use lib.Dec.{ltb}
use Rattle.refusals.proofs.Tests.{by_test}
use Rattle.apdu.specs.Tables.{lesser}
use Rattle.apdu.proofs.lists.clamped.Goals as goal

pub returns : goal.returns
unfolding lesser
returns c =
    let most = 32 - c.args.first in
    let n = c.args.count in
    (by_test (λ (k : ℕ). c.min.result ≡ k) (ltb most n) (λ h. omega (arith, ltb-true most n h)) (λ h. omega (arith, ltb-false most n h)), omega arith)
