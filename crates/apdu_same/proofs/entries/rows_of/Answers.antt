use Rattle.std.proofs.Common.{rules, length-take-le}
use native.Mathlib.Omega.{arith}
use mathlib.Core.Path.{◌≡◌, refl, ◌∙◌}
use lib.ListN.{length, take}
use Rattle.apdu.proofs.Tables.{long}
use Rattle.apdu_same.proofs.EntryLists.{rows_none_yet, rows_more, rows_end, rows_clamped}
use Rattle.apdu_same.proofs.entries.rows_of.Goals as goal

pub loop-entry-init : goal.loop-entry-init
loop-entry-init c = (omega arith, rows_none_yet (take c.clamped.result c.args.list))

pub overflow_add-used : goal.overflow_add-used
overflow_add-used c =
    let t : length c.args.list ≡ 32 = search (rules, long) in
    let k = length-take-le c.clamped.result c.args.list (omega (arith, c.clamped.ensures.1)) in
    omega (arith, c.entry_rows-used.ensures.1, c.clamped.ensures.1)

pub loop-entry-preserved : goal.loop-entry-preserved
loop-entry-preserved c =
    let l = c.loop-entry in
    (omega (arith, c.entry_rows-used.ensures.1), rows_more _ _ refl c.entry_rows-used.ensures.0 c.loop-entry-test.true l.invariant.1)

pub returns : goal.returns
returns c =
    let l = c.loop-entry in
    let t : length c.args.list ≡ 32 = search (rules, long) in
    let k = length-take-le c.clamped.result c.args.list (omega (arith, c.clamped.ensures.1)) in
    (rows_end _ _ c.loop-entry-test.false l.invariant.1 ∙ rows_clamped _ c.args.n t c.clamped.ensures.0, omega (arith, c.clamped.ensures.1))
