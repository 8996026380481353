-- What is written.
-- Assumes nothing.
use Rattle.apdu_text.specs.Parts.{decimal}
use Rattle.apdu_text.proofs.append.append_decimal.Given as goal

abbrev pub ghost-append : goal.ghost-append
ghost-append a = decimal a.write.0.now
