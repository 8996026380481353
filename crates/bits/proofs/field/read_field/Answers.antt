-- `bits::field::read_field` meets its contract: a place is an octet and a bit within it. Assumes nothing.
use native.Mathlib.Omega.{arith}
use mathlib.Core.Path.{◌∙◌}
use Rattle.bits.proofs.Outcomes.{read_wide, read_narrow}
use Rattle.bits.proofs.Aligned.{read_octet}
use Rattle.bits.proofs.field.read_field.Goals as goal

pub returns-then-width-gt-WIDEST : goal.returns-then-width-gt-WIDEST
returns-then-width-gt-WIDEST c = read_wide _ _ _ (omega arith)

pub returns-then-at-eq0 : goal.returns-then-at-eq0
returns-then-at-eq0 c = read_octet _ _ _ (omega arith) (omega arith) (c.from.ensures ∙ c.octet.ensures) (omega arith)

pub returns : goal.returns
returns c = read_narrow _ _ _ (omega arith) c.field_in.ensures
