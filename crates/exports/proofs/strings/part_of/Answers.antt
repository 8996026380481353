-- `exports::strings::part_of` meets its contract. Assumes nothing.
use Rattle.std.proofs.Common.{arith, refl}
use Rattle.exports.proofs.StringLaws.{part_credentials, part_parameter, part_row, part_entry, part_none}
use Rattle.exports.proofs.strings.part_of.Goals as goal

pub returns-in-0 : goal.returns-in-0
returns-in-0 c = part_credentials _ _ _ c.in-0.is c.credentials_of.ensures

pub returns-in-1 : goal.returns-in-1
returns-in-1 c = part_parameter _ _ _ (omega arith) c.in-1.is c.parameter_of.ensures

pub returns-in-2-to-33 : goal.returns-in-2-to-33
returns-in-2-to-33 c = part_row _ _ _ (omega arith) (omega arith) (omega arith) c.row_string.ensures

pub returns-in-34-to-65 : goal.returns-in-34-to-65
returns-in-34-to-65 c = part_entry _ _ _ (omega arith) (omega arith) (omega arith) (omega arith) c.entry_string.ensures

pub returns-in_default : goal.returns-in_default
returns-in_default c = part_none _ _ _ (omega arith) (omega arith) (omega arith) (omega arith) refl
