-- `worked_examples::run_cases` meets its contract: that the marked cases hold is a fact of the definitions. Assumes nothing.
use Rattle.worked_examples.proofs.MarkedCases.{marked_cases_hold}
use Rattle.worked_examples.proofs.run_cases.Goals as goal

pub returns-in_err-run : goal.returns-in_err-run
returns-in_err-run g c = record { marked = marked_cases_hold }

pub returns-in_err-run-2 : goal.returns-in_err-run-2
returns-in_err-run-2 g c = record { marked = marked_cases_hold }

pub returns : goal.returns
returns g c = record { marked = marked_cases_hold }
