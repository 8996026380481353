-- What is written.
-- Assumes nothing.
use Rattle.apdu_text.specs.Lines.{refusal_text}
use Rattle.apdu_text.proofs.append.append_refusal.Given as goal

abbrev pub ghost-append : goal.ghost-append
ghost-append a = refusal_text a.write.0.now a.write.1.now
