-- What is written.
-- Assumes nothing.
use Rattle.apdu_text.specs.MessageText.{message_text}
use Rattle.apdu_text.proofs.append.append_message.Given as goal

abbrev pub ghost-append : goal.ghost-append
ghost-append a = message_text a.write.0.now a.write.1.now a.write.2.now a.write.3.now
