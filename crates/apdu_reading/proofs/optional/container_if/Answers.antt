-- By whether it is there.
-- Assumes nothing.
use mathlib.Core.Path.{◌≡◌}
use borrow.Author.Rules.{rules}
use Rattle.apdu_reading.proofs.Absent.{head_there, head_absent}
use Rattle.apdu_reading.proofs.optional.container_if.Goals as goal

pub returns-then-p : goal.returns-then-p
returns-then-p c = head_there _ _ _ c.if-p.true c.container.ensures

pub returns-else-p : goal.returns-else-p
returns-else-p c =
    let kind : c.default.result.kind ≡ 0 = search rules in
    let n : c.default.result.n ≡ 0 = search rules in
    let start : c.default.result.start ≡ 0 = search rules in
    rw (kind, n, start) (head_absent _ _ _ c.if-p.false)
