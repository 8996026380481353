use Rattle.std.proofs.Common.{rules}
use native.Mathlib.Omega.{arith}
use mathlib.Core.Path.{◌≡◌, sym, ◌∙◌}
use lib.ListN.{length}
use Rattle.apdu.specs.Values.{empty_row}
use Rattle.apdu.proofs.Tables.{long, part_length, part_place}
use Rattle.apdu_same.proofs.RowLists.{rows_lengths, rows_all, row_same, row_other, rows_none}
use Rattle.apdu_same.proofs.rows.rows.Goals as goal

pub returns-then-n-clamped : goal.returns-then-n-clamped
returns-then-n-clamped c =
    let t : length c.args.table ≡ 32 = search (rules, long) in
    let u : length c.args.other ≡ 32 = search (rules, long) in
    rows_lengths _ _ _ _ (λ e. c.if-n-clamped.true (part_length _ c.args.first c.args.count t c.clamped-n.ensures.0 ∙ e ∙ sym (part_length _ c.args.from c.args.size u c.clamped.ensures.0)))

pub loop-i-init : goal.loop-i-init
loop-i-init c =
    let t : length c.args.table ≡ 32 = search (rules, long) in
    let u : length c.args.other ≡ 32 = search (rules, long) in
    (part_length _ c.args.first c.args.count t c.clamped-n.ensures.0, c.if-n-clamped.false ∙ part_length _ c.args.from c.args.size u c.clamped.ensures.0, rows_all _ _ _ _)

pub returns-then-not-row : goal.returns-then-not-row
returns-then-not-row c =
    let l = c.loop-i in
    let h = c.loop-i-test.true in
    let a = c.args in
    sym (l.invariant.2 ∙ row_other _ _ _ _ l.i (part_place empty_row a.table a.first a.count l.i l.invariant.0 h) (part_place empty_row a.other a.from a.size l.i l.invariant.1 h) (omega arith) (omega arith) c.row.ensures c.if-not-row.true)

pub loop-i-preserved : goal.loop-i-preserved
loop-i-preserved c =
    let l = c.loop-i in
    let h = c.loop-i-test.true in
    let a = c.args in
    (l.invariant.0, l.invariant.1, l.invariant.2 ∙ row_same _ _ _ _ l.i (part_place empty_row a.table a.first a.count l.i l.invariant.0 h) (part_place empty_row a.other a.from a.size l.i l.invariant.1 h) (omega arith) (omega arith) c.row.ensures c.if-not-row.false)

pub returns : goal.returns
returns c = let l = c.loop-i in sym (l.invariant.2 ∙ rows_none _ _ _ _ l.i (omega arith) (omega arith))
