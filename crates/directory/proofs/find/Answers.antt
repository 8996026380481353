-- `directory::find`: more than 32 rows have none.
use Rattle.std.proofs.Common.{◌∙◌, sym}
use Rattle.directory.proofs.Looking.{find_many, few_finding}
use Rattle.directory.proofs.find.Goals as goal

pub returns-in_err-listed : goal.returns-in_err-listed
returns-in_err-listed c = c.from_residual.ensures ∙ find_many _ _ c.in_err-listed.ensures

pub returns : goal.returns
returns c = rw (c.first_row.ensures, c.in_ok-listed.ensures.1) (sym (few_finding _ (rw c.in_ok-listed.ensures.1 at c.in_ok-listed.ensures.0) _))
