use Rattle.std.proofs.Common.{◌∙◌, inl, inr, arith}
use Rattle.words.proofs.RowLaws.{rows_first, rows_next, rows_all, left_over, too_many, rows_read, unpacking_rows, other_rows_length, large_id, other_area}
use Rattle.words.proofs.directory_words.directory_in.Goals as goal

pub returns-then-words-ne0 : goal.returns-then-words-ne0
returns-then-words-ne0 c = record {
  answer = c.not_sound.ensures ∙ elim c.then-words-ne0.either [ inl h ↦ left_over _ h | inr h ↦ too_many _ h.0 h.1 ];
  unpacking = unpacking_rows;
  other_length = other_rows_length;
  large_id = large_id;
  other_area = other_area;
}

pub loop-i-init : goal.loop-i-init
loop-i-init c = rows_first _ _ c.empty-d.ensures

pub bounds-d-i : goal.bounds-d-i
bounds-d-i c = omega (arith, c.loop-i.invariant.long)

pub loop-i-preserved : goal.loop-i-preserved
loop-i-preserved c =
    let l = c.loop-i in
    rows_next _ _ l.d.rows l.i c.loop-i-test.true c.if-n-gt-MOST_ROWS.false c.row_in.ensures l.invariant

pub returns : goal.returns
returns c =
    let all = rows_all _ _ c.loop-i.d.rows c.loop-i.i (omega arith) c.loop-i.invariant in
    record { answer = rows_read _ c.if-words-ne0.false c.if-n-gt-MOST_ROWS.false all; unpacking = unpacking_rows; other_length = other_rows_length; large_id = large_id; other_area = other_area }
