-- `bits::string::first_bits_clear` meets its contract: it tests each octet inside. Assumes nothing.
use mathlib.Core.Path.{sym, ◌∙◌, refl}
use native.Mathlib.Omega.{arith}
use Prim.Native.Nat.{◌<◌, ◌≤◌}
use Rattle.std.proofs.Common.{rules}
use borrow.Author.Tests.{tests}
use Rattle.std.proofs.lemmas.Iterator.{serves_from_Range, cases_from_all, YieldsList-from_range}
use Rattle.bits.proofs.Strings.{inside_le, octet_at, clear_decided, clear_outside}
use Rattle.bits.proofs.string.first_bits_clear.Goals as goal

pub all-requires-clause-callable : goal.all-requires-clause-callable
all-requires-clause-callable c =
    let h = inside_le _ _ _ (sym c.if-inside.ensures) in
    serves_from_Range (λ x q r. search rules) (λ x a b. search rules)

pub returns-then-inside : goal.returns-then-inside
returns-then-inside c =
    let a = c.args in
    clear_decided _ _ _ (sym c.if-inside.ensures)
    (cases_from_all _ _ _ (λ k. octet_at a.s.now a.start k < 128) (λ k. 128 ≤ octet_at a.s.now a.start k) c.all.ensures.ran (YieldsList-from_range 0 a.n a.n refl (omega arith)) (λ x q k. search (rules, tests)) (λ x q k. search (rules, tests)))

pub returns-else-inside : goal.returns-else-inside
returns-else-inside c = c.if-inside.false ∙ clear_outside _ _ _ (sym c.if-inside.ensures)
