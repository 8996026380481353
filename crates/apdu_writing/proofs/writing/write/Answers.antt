-- The message is written to a page aside and copied from there; each way out is a check.
-- Assumes nothing.
use Prim.Native.Nat.{ℕ}
use lib.ListN.{length-replicate}
use Rattle.apdu_writing.proofs.Answers.{writes_23, writes_21, writes_22, writes_octets, blank}
use Rattle.apdu_writing.specs.Answer.{answer_of}
use Rattle.apdu_writing.proofs.writing.write.Goals as goal

pub returns-then-not-end : goal.returns-then-not-end
unfolding answer_of
returns-then-not-end c = writes_23 _ _ _ _ _ c.put_message-end.ensures c.if-not-end.true

pub returns-then-octets-gt-LONGEST_MESSAGE : goal.returns-then-octets-gt-LONGEST_MESSAGE
unfolding answer_of
returns-then-octets-gt-LONGEST_MESSAGE c = writes_21 _ _ _ _ _ c.put_message-end.ensures c.if-not-end.false c.if-octets-gt-LONGEST_MESSAGE.true

pub returns-then-out-octets : goal.returns-then-out-octets
unfolding answer_of
returns-then-out-octets c = writes_22 _ _ _ _ _ c.put_message-end.ensures c.if-not-end.false c.if-octets-gt-LONGEST_MESSAGE.false c.if-out-octets.true

pub returns : goal.returns
unfolding answer_of
returns c =
    writes_octets _ _ _ _ _ c.put_message-end.ensures c.if-not-end.false c.if-octets-gt-LONGEST_MESSAGE.false c.if-out-octets.false (blank 512) (length-replicate {A = ℕ} 512 0) c.copy_string-copied.ensures.1
