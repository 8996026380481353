-- What is written.
-- Assumes nothing.
use Rattle.apdu_text.specs.Lines.{totals_text}
use Rattle.apdu_text.proofs.append.append_totals.Given as goal

abbrev pub ghost-append : goal.ghost-append
ghost-append a = totals_text a.write.0.now.messages a.write.0.now.refused a.write.0.now.same
