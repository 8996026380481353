-- `bits::string::same_string` meets its contract: both parts are inside, and each octet is compared. Assumes nothing.
use native.Mathlib.Omega.{arith}
use mathlib.Core.Path.{◌≡◌, refl, sym}
use Rattle.std.proofs.Common.{rules}
use borrow.Author.Tests.{tests}
use Rattle.std.proofs.lemmas.Iterator.{serves_from_Range, cases_from_all, YieldsList-from_range}
use Rattle.bits.proofs.Strings.{inside_le, octet_at, same_decided, outside_first, outside_second}
use Rattle.bits.proofs.Aligned.{same_aligned}
use Rattle.bits.proofs.string.same_string.Goals as goal
use Rattle.bits.proofs.string.same_string.Goals.{then-not-inside-via-then-not-inside, then-not-inside-via-else-not-inside+then-not-inside-2}

pub returns-then-not-inside : goal.returns-then-not-inside
returns-then-not-inside c =
    elim c.then-not-inside.branch [
      | then-not-inside-via-then-not-inside w ↦ outside_first _ _ _ _ _ (sym w.if-not-inside.ensures)
      | then-not-inside-via-else-not-inside+then-not-inside-2 w ↦
          outside_second _ _ _ _ _ (sym w.if-not-inside.ensures) (sym w.if-not-inside-2.ensures)
    ]

pub same_octets-requires : goal.same_octets-requires
same_octets-requires c = omega (arith, inside_le _ _ _ (sym c.if-not-inside.ensures), inside_le _ _ _ (sym c.if-not-inside-2.ensures))

pub returns-then-start-at-eq0 : goal.returns-then-start-at-eq0
returns-then-start-at-eq0 c =
    same_aligned _ _ _ _ _ (omega arith) (sym c.if-not-inside.ensures) (sym c.if-not-inside-2.ensures) c.same_octets.ensures

pub all-requires-clause-callable : goal.all-requires-clause-callable
all-requires-clause-callable c =
    let h = inside_le _ _ _ (sym c.if-not-inside.ensures) in
    let i = inside_le _ _ _ (sym c.if-not-inside-2.ensures) in
    serves_from_Range (λ x q r. search rules) (λ x a b. search rules)

pub returns : goal.returns
returns c =
    let a = c.args in
    same_decided _ _ _ _ _ (sym c.if-not-inside.ensures) (sym c.if-not-inside-2.ensures)
    (cases_from_all _ _ _ (λ k. octet_at a.s.now a.start k ≡ octet_at a.t.now a.at k) (λ k. octet_at a.s.now a.start k ≡ octet_at a.t.now a.at k → ⊥) c.all.ensures.ran (YieldsList-from_range 0 a.n a.n refl (omega arith)) (λ x q k. search (rules, tests)) (λ x q k. search (rules, tests)))
