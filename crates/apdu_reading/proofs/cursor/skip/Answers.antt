-- By the ways of `piece_of`, as `piece`, with the value and the start set.
-- Assumes nothing.
use Rattle.apdu_reading.proofs.Pieces.{all_there, skip_stopped, skip_cut, skip_past}
use native.Mathlib.Omega.{arith}
use Rattle.apdu_reading.proofs.cursor.skip.Goals as goal

pub returns-then-c-ne0 : goal.returns-then-c-ne0
returns-then-c-ne0 c = skip_stopped _ _ c.if-c-ne0.true c.marked.ensures

pub returns-then-not-inside : goal.returns-then-not-inside
returns-then-not-inside c =
    skip_cut _ _ c.inside.ensures c.marked-then-not-inside.ensures c.if-c-ne0.false
    c.if-not-inside.true-raw c.faulty.ensures

pub overflow_mul-n : goal.overflow_mul-n
overflow_mul-n c = omega (arith, all_there _ _ _ c.inside.ensures c.if-not-inside.false-raw)

pub moved-requires : goal.moved-requires
moved-requires c = omega (arith, all_there _ _ _ c.inside.ensures c.if-not-inside.false-raw)

pub returns : goal.returns
returns c =
    skip_past _ _ c.inside.ensures c.marked-2.ensures c.if-c-ne0.false
    c.if-not-inside.false-raw c.moved.ensures
