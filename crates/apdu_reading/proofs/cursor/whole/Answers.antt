-- By the ways of `piece_of`, as `piece`: the bits are read as one octet, or out of two.
-- Assumes nothing.
use mathlib.Core.Path.{refl, ◌∙◌}
use Prim.Native.Nat.{◌+◌, ◌/◌}
use Rattle.bits.proofs.Aligned.{read_octet, read_two}
use Rattle.apdu_reading.proofs.Pieces.{by_stopped, by_cut, by_begins}
use native.Mathlib.Omega.{arith}
use Rattle.apdu_reading.proofs.cursor.whole.Goals as goal

pub returns-then-c-ne0 : goal.returns-then-c-ne0
returns-then-c-ne0 c = by_stopped _ _ _ _ c.if-c-ne0.true c.faulty.ensures

pub returns-then-s-i : goal.returns-then-s-i
returns-then-s-i c = by_cut _ _ _ _ c.if-c-ne0.false c.faulty-then-s-i.ensures (omega arith)

pub returns-then-skip-eq0 : goal.returns-then-skip-eq0
returns-then-skip-eq0 c =
    let i = c.args.c.at / 8 in
    by_begins _ _ _ _ c.if-c-ne0.false refl
    (c.from.ensures ∙ read_octet _ _ 8 refl c.if-skip-eq0.true refl (c.type_inv.s i).fits) c.moved.ensures (omega arith)

pub returns : goal.returns
returns c =
    let i = c.args.c.at / 8 in
    by_begins _ _ _ _ c.if-c-ne0.false refl
    (rw (c.from-2.ensures, c.from-3.ensures) (read_two _ _ refl (c.type_inv.s i).fits refl (c.type_inv.s (i + 1)).fits refl))
    c.moved-2.ensures (omega arith)
