use native.Mathlib.Omega.{arith}
use Prim.Native.Nat.{◌-◌, ◌≤◌}
use mathlib.Core.Path.{◌≡◌, refl, ap, ◌∙◌}
use lib.ListN.{length, set, length-set}
use Rattle.apdu_text.specs.Parts.{seam}
use Rattle.apdu_text.specs.Ink.{stack_of}
use Rattle.apdu_text.proofs.Inking.{writes_as}
use Rattle.apdu_text.proofs.Flat.{rows_start, rows_none, rows_closed, rows_end, rows_closing, rows_opening, rows_as, open_front, open_some, open_length}
use Rattle.apdu_text.proofs.pen.Pen.rows.Goals as goal
use Rattle.apdu_text.proofs.pen.Pen.rows.Goals.{then-more-eq0, else-more-eq0}

pub returns-then-n-eq0 : goal.returns-then-n-eq0
returns-then-n-eq0 c = rows_none _ _ _ _ c.if-n-eq0.true

pub loop-row-init : goal.loop-row-init
unfolding stack_of
loop-row-init c = (omega arith, refl, rows_start _ _ _ _ c.if-n-eq0.false)

pub returns-then-depth-eq0 : goal.returns-then-depth-eq0
returns-then-depth-eq0 c = rows_closed c.args.s.now c.args.rows.now c.loop-row.row-index c.loop-row.due c.loop-row.depth c.loop-row.invariant.2 c.if-depth-eq0.true

pub loop-row-preserved : goal.loop-row-preserved
loop-row-preserved c =
    let l = c.loop-row in
    let x = c.saturating_sub.result in
    let due = set l.due (l.depth - 1) x in
    let long : length due ≡ 33 = length-set l.due (l.depth - 1) x ∙ l.invariant.1 in
    let fits : l.depth ≤ length due = omega arith in
    let none : l.depth - 0 ≡ l.depth = omega arith in
    let more = rw (c.from.ensures, c.from-in-loop-row.ensures) at c.announces-more.ensures in
    elim c.if-more-eq0.branch [
      | then-more-eq0 w ↦
          let some = w.going_on-depth.ensures in (
            omega (arith, w.depth-is, some.1, open_length due l.depth refl fits),
            ap length w.due-is ∙ long,
            rows_as _ _ w.due-is w.depth-is w.self-is
                (rows_closing _ c.args.rows.now l.row-index l.due l.depth x c.loop-row-test.true (omega arith) (omega arith) c.saturating_sub.ensures l.invariant.2 c.row_front.ensures more w.if-more-eq0.true
                (writes_as (ap seam (open_front due l.depth refl fits)) w.seam.ensures) _ (open_some due l.depth refl fits some.1 some.0)),
          )
      | else-more-eq0 w ↦ (
        omega (arith, w.depth-is),
        ap length w.due-is ∙ length-set due l.depth c.announces-more.result ∙ long,
        rows_as _ _ w.due-is w.depth-is w.self-is
            (rows_opening _ c.args.rows.now l.row-index l.due l.depth x c.loop-row-test.true (omega arith) (omega arith) c.saturating_sub.ensures l.invariant.2 c.row_front.ensures more w.if-more-eq0.false (omega arith)),
      )
    ]

pub returns : goal.returns
returns c = rows_end c.args.s.now c.args.rows.now c.loop-row.row-index c.loop-row.due c.loop-row.depth c.loop-row.invariant.2 (omega arith)
