-- It is measured, and written where it has room.
-- Assumes nothing.
use native.Mathlib.Omega.{arith}
use mathlib.Core.Path.{sym, ◌∙◌}
use Rattle.apdu_text.proofs.Inking.{no_room, room_for}
use Rattle.apdu_text.proofs.append.append.Goals as goal

pub returns-then-out-measure : goal.returns-then-out-measure
returns-then-out-measure g c =
    let m = c.requires.1.1 _ _ c.write.ensures in
    no_room _ _ _ m.place (omega arith)

pub returns : goal.returns
returns g c =
    let m = c.requires.1.1 _ _ c.write.ensures in
    let w = c.requires.1.1 _ _ c.write-2.ensures in
    let h = c.out-1.given in
    room_for _ _ _ m.place (omega arith) (omega arith) w.place (c.out-1.given.1.1 (sym w.same) ∙ w.octets)
