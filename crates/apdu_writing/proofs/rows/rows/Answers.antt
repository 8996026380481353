use Rattle.std.proofs.Common.{rules}
use native.Mathlib.Omega.{arith}
use mathlib.Core.Path.{◌≡◌, refl, sym, ◌∙◌}
use lib.ListN.{length}
use borrow.Author.Tests.{eqb-true, eqb-false}
use Rattle.apdu_writing.proofs.RowLists.{run_none, run_more, run_over, run_short, run_done, part_in, part_end, is_due}
use Rattle.apdu.specs.Values.{empty_row}
use Rattle.apdu.proofs.Tables.{long, part_length, part_place}
use Rattle.apdu_writing.proofs.rows.rows.Goals as goal

pub loop-i-init : goal.loop-i-init
loop-i-init c = (refl, run_none _ _ _ _ _)

pub returns-then-finished : goal.returns-then-finished
returns-then-finished c = let t : length c.args.table ≡ 32 = search (rules, long) in run_over _ _ c.loop-i.invariant.1 (part_in _ _ _ t c.clamped-n.ensures.0 c.loop-i-test.true) (eqb-true _ _ (sym c.finished.ensures ∙ c.if-finished.true)) c.halt.ensures

pub next_row-t-requires : goal.next_row-t-requires
next_row-t-requires c = is_due _ c.finished.ensures c.if-finished.false

pub loop-i-preserved : goal.loop-i-preserved
loop-i-preserved c = let a = c.args in let t : length a.table ≡ 32 = search (rules, long) in (c.next_row-t.auto.out ∙ c.loop-i.invariant.0, run_more _ _ c.loop-i.invariant.1 (part_place empty_row a.table a.first a.count _ (part_length a.table a.first a.count t c.clamped-n.ensures.0) c.loop-i-test.true) (part_in _ _ _ t c.clamped-n.ensures.0 c.loop-i-test.true) (eqb-false _ _ (sym c.finished.ensures ∙ c.if-finished.false)) c.next_row-t.ensures)

pub returns-then-finished-2 : goal.returns-then-finished-2
returns-then-finished-2 c = let t : length c.args.table ≡ 32 = search (rules, long) in run_done _ _ c.loop-i.invariant.1 (part_end _ _ _ t c.clamped-n.ensures.0 (omega arith) c.loop-i-test.false) (eqb-true _ _ (sym c.finished-2.ensures ∙ c.if-finished-2.true))

pub returns-else-finished-2 : goal.returns-else-finished-2
returns-else-finished-2 c = let t : length c.args.table ≡ 32 = search (rules, long) in run_short _ _ c.loop-i.invariant.1 (part_end _ _ _ t c.clamped-n.ensures.0 (omega arith) c.loop-i-test.false) (eqb-false _ _ (sym c.finished-2.ensures ∙ c.if-finished-2.false)) c.halt-else-finished-2.ensures
