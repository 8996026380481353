use mathlib.Core.Path.{◌≡◌, ◌∙◌}
use mathlib.Core.Bool.{◌||◌}
use lib.Dec.{eqb}
use borrow.Author.Tests.{eq-eqb, ne_eqb}
use mathlib.Core.Logic.{inl, inr}
use native.Mathlib.Omega.{arith}
use Rattle.apdu_reading.proofs.EntryLaws.{entry_alone}
use Rattle.apdu_reading.proofs.StoreLaws.{stored_none, stored_more, stored_all}
use Rattle.apdu_reading.proofs.ListLaws.{list_ready, nothing_stored, both_whole, none_read, upto_ready, upto_more, upto_both}
use Rattle.apdu_reading.proofs.FrontLaws.{message_told}
use Rattle.apdu_reading.proofs.applications.application_lists.Goals as goal
use Rattle.apdu_reading.proofs.applications.application_lists.Goals.{then-round-eq0, else-round-eq0, then-h-eq0, else-h-eq0, then-end-ne0, else-end-ne0}

pub loop-round-init : goal.loop-round-init
loop-round-init c = none_read _ _ _ (nothing_stored _ c.no_rows-rows.ensures c.no_entries-entries.ensures c.requires.1.room)

pub overflow_add-mandatory : goal.overflow_add-mandatory
overflow_add-mandatory c = omega (arith, (upto_ready _ _ _ _ _ _ _ c.loop-round-test.true c.loop-round.invariant).1)

pub loop-i-init : goal.loop-i-init
loop-i-init c = let u = upto_ready _ _ _ _ _ _ _ c.loop-round-test.true c.loop-round.invariant in (stored_none _ _ _ (list_ready _ _ _ _ u.0 c.count_if-cursor.ensures), omega (arith, u.1, c.count_if-cursor.ensures.small))

pub loop-round-preserved : goal.loop-round-preserved
loop-round-preserved c =
    let there : c.if-round-eq0.count_if ≡ (eqb c.loop-round.round 0 || c.args.f.has_others) =
    elim c.if-round-eq0.branch [
      | then-round-eq0 w ↦ rw (w.count_if-is, eq-eqb _ _ w.if-round-eq0.true)
      | else-round-eq0 w ↦ rw (w.count_if-is, ne_eqb _ _ w.if-round-eq0.false)
    ] in
    upto_more _ _ _ _ _ _ _ c.loop-round-test.true c.loop-round.invariant (rw there at c.count_if-cursor.ensures) (stored_all c.loop-i.invariant.0 c.loop-i.auto.i-end c.loop-i-test.false)

pub loop-i-preserved : goal.loop-i-preserved
loop-i-preserved c =
    elim c.if-h-eq0.branch [
      | then-h-eq0 w ↦ (
        rw (w.cursor-is, w.used-is, w.lists-is)
            (stored_more _ _ _ _ c.loop-i.invariant.0 (entry_alone _ _ c.loop-i.invariant.0.ready.free c.entry_head-h.ensures w.if-h-eq0.true) (omega (arith, c.loop-i-test.true, c.loop-i.invariant.1))),
        c.loop-i.invariant.1,
      )
      | else-h-eq0 w ↦ (
        rw (w.cursor-is, w.used-is, w.lists-is)
            (stored_more _ _ _ _ c.loop-i.invariant.0 w.with_rows-t.ensures (omega (arith, c.loop-i-test.true, c.loop-i.invariant.1))),
        c.loop-i.invariant.1,
      )
    ]

pub returns : goal.returns
returns c =
    message_told _ c.requires.0 _ (c.link_end-e.ensures.whole (both_whole _ _ _ (upto_both _ _ _ _ _ _ _ c.loop-round-test.false c.loop-round.invariant))) c.ended-end.ensures c.answer_of.ensures c.place_of.ensures
    (elim c.if-end-ne0.branch [ then-end-ne0 w ↦ inl (w.if-end-ne0.true, w.lists-is ∙ w.cleared-lists.ensures) | else-end-ne0 w ↦ inr (w.if-end-ne0.false, w.lists-is) ])
