use mathlib.Core.Path.{refl}
use mathlib.Core.List.{[], ◌∷◌}
use Rattle.apdu.specs.Values.{rows_of}
use Rattle.apdu_text.proofs.Inking.{leaves_all, leaves_at}
use Rattle.apdu_text.proofs.Applications.{rest_more, rest_all, few_rows, entries_more, entries_last, entries_end, entries_write}
use Rattle.apdu_text.proofs.pen.Pen.entries.Goals as goal
use Rattle.apdu_text.proofs.pen.Pen.entries.Goals.{then-i-entries, else-i-entries}

pub entry-requires : goal.entry-requires
entry-requires c = few_rows _ _ _ c.requires c.loop-i.invariant.0 c.front.ensures

pub loop-i-init : goal.loop-i-init
unfolding rows_of
loop-i-init c = (refl, leaves_all _ _)

pub loop-i-preserved : goal.loop-i-preserved
loop-i-preserved c =
    let a = c.args in
    let l = c.loop-i in
    let k = c.entry_rows-own.ensures.0 in
    let e = rw c.front.ensures at c.entry.ensures in (
      rest_more a.entries.now l.i a.rows.now k c.loop-i-test.true l.invariant.0 c.behind-rest.ensures,
      elim c.if-i-entries.branch [
        | then-i-entries w ↦
            leaves_at w.self-is (entries_more a.entries.now l.i a.s.now l.rest.now (93 ∷ []) k c.behind-rest.ensures l.invariant.1 e w.if-i-entries.true w.character-then-i-entries.ensures)
        | else-i-entries w ↦ leaves_at w.self-is (entries_last a.entries.now l.i a.s.now l.rest.now (93 ∷ []) k c.behind-rest.ensures l.invariant.1 e c.loop-i-test.true w.if-i-entries.false)
      ],
    )

pub returns : goal.returns
returns c =
    let a = c.args in
    let l = c.loop-i in (
      entries_write _ _ _ _ c.word.ensures c.character.ensures (entries_end a.entries.now l.i a.s.now l.rest.now (93 ∷ []) l.invariant.1 c.loop-i-test.false c.character-2.ensures),
      rest_all a.entries.now l.i a.rows.now c.loop-i-test.false l.invariant.0,
    )
