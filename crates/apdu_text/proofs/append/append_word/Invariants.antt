-- What is written.
-- Assumes nothing.
use Rattle.apdu_text.proofs.append.append_word.Given as goal

abbrev pub ghost-append : goal.ghost-append
ghost-append a = a.write.0.now
