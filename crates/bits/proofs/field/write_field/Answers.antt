-- `bits::field::write_field` meets its contract: it writes where the octets that hold the field are there. Assumes nothing.
use native.Mathlib.Omega.{arith}
use Rattle.bits.proofs.Laws.{octets_known}
use Rattle.bits.proofs.Outcomes.{write_wide, write_short, write_whole}
use Rattle.bits.proofs.Aligned.{write_octet}
use Rattle.bits.proofs.field.write_field.Goals as goal

pub returns-then-width-gt-WIDEST : goal.returns-then-width-gt-WIDEST
returns-then-width-gt-WIDEST c = write_wide _ _ _ _ (omega arith)

pub returns-then-out-first : goal.returns-then-out-first
returns-then-out-first c = write_short _ _ _ _ (omega arith) (omega arith)

pub returns-then-skip-eq0 : goal.returns-then-skip-eq0
returns-then-skip-eq0 c =
    let a = c.args in
    write_octet a.out.now a.at a.width a.v (octets_known _ c.slice_known-1.given) (omega arith) (omega arith) (omega arith)

pub returns-then-out-first-2 : goal.returns-then-out-first-2
returns-then-out-first-2 c = write_short _ _ _ _ (omega arith) (omega arith)

pub returns : goal.returns
returns c = write_whole _ _ _ _ (omega arith) (omega arith) c.put_field.ensures
