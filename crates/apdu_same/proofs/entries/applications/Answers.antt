use Rattle.std.proofs.Common.{rules}
use native.Mathlib.Omega.{arith}
use mathlib.Core.Path.{◌≡◌, sym, ◌∙◌}
use lib.ListN.{length}
use Rattle.apdu.specs.Values.{empty_entry}
use Rattle.apdu.proofs.Tables.{long, part_length, part_place}
use Rattle.apdu_same.proofs.EntryLists.{entries_all, entries_none, entry_other, entry_passed, rows_same, rows_other}
use Rattle.apdu_same.proofs.entries.applications.Goals.{else-lists_rows-via-then-lists_rows+else-not-rows, else-lists_rows-via-else-lists_rows}
use Rattle.apdu_same.proofs.entries.applications.Goals as goal

pub loop-i-init : goal.loop-i-init
loop-i-init c =
    let t : length c.args.list ≡ 32 = search (rules, long) in
    let u : length c.args.other ≡ 32 = search (rules, long) in
    let k = c.clamped-k.ensures in
    (part_length _ c.args.from c.args.n t k.0, part_length _ c.args.from c.args.n u k.0, omega arith, omega arith, entries_all _ _ _ _ _ _ _ _)

pub returns-then-not-entry : goal.returns-then-not-entry
returns-then-not-entry c =
    let l = c.loop-i in
    let h = c.loop-i-test.true in
    let a = c.args in
    sym (l.invariant.4 ∙ entry_other _ _ _ _ _ _ l.i l.used l.gone (part_place empty_entry a.list a.from a.n l.i l.invariant.0 h) (part_place empty_entry a.other a.from a.n l.i l.invariant.1 h) (omega arith) (omega arith) c.entry.ensures c.if-not-entry.true)

pub returns-then-not-rows : goal.returns-then-not-rows
returns-then-not-rows c =
    let l = c.loop-i in
    let h = c.loop-i-test.true in
    let a = c.args in
    sym (l.invariant.4 ∙ rows_other _ _ _ _ _ _ l.i l.used l.gone (part_place empty_entry a.list a.from a.n l.i l.invariant.0 h) (part_place empty_entry a.other a.from a.n l.i l.invariant.1 h) (omega arith) (omega arith) c.entry.ensures c.if-not-entry.false c.entry_rows-own.ensures.0 c.entry_rows-theirs.ensures.0 c.lists_rows.ensures c.if-lists_rows.true c.rows.ensures c.if-not-rows.true)

pub overflow_add-used : goal.overflow_add-used
overflow_add-used c = omega (arith, c.entry_rows-own.ensures.1, c.loop-i.invariant, c.requires)

pub overflow_add-gone : goal.overflow_add-gone
overflow_add-gone c = omega (arith, c.entry_rows-theirs.ensures.1, c.loop-i.invariant, c.requires)

pub loop-i-preserved : goal.loop-i-preserved
loop-i-preserved c =
    let l = c.loop-i in
    let h = c.loop-i-test.true in
    let a = c.args in (
      l.invariant.0,
      l.invariant.1,
      omega (arith, c.entry_rows-own.ensures.1),
      omega (arith, c.entry_rows-theirs.ensures.1),
      l.invariant.4
          ∙ elim c.else-lists_rows.branch [
            | else-lists_rows-via-then-lists_rows+else-not-rows w ↦ rows_same _ _ _ _ _ _ l.i l.used l.gone (part_place empty_entry a.list a.from a.n l.i l.invariant.0 h) (part_place empty_entry a.other a.from a.n l.i l.invariant.1 h) (omega arith) (omega arith) c.entry.ensures c.if-not-entry.false c.entry_rows-own.ensures.0 c.entry_rows-theirs.ensures.0 c.lists_rows.ensures w.if-lists_rows.true w.rows.ensures w.if-not-rows.false
            | else-lists_rows-via-else-lists_rows w ↦ entry_passed _ _ _ _ _ _ l.i l.used l.gone (part_place empty_entry a.list a.from a.n l.i l.invariant.0 h) (part_place empty_entry a.other a.from a.n l.i l.invariant.1 h) (omega arith) (omega arith) c.entry.ensures c.if-not-entry.false c.entry_rows-own.ensures.0 c.entry_rows-theirs.ensures.0 c.lists_rows.ensures w.if-lists_rows.false
          ],
    )

pub returns : goal.returns
returns c = let l = c.loop-i in sym (l.invariant.4 ∙ entries_none _ _ _ _ _ _ l.i l.used l.gone (omega arith) (omega arith))
