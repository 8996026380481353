-- `put_octets` goes by the three ways of `behind`: stopped before, not fine or outside, written.
-- Assumes nothing.
use Rattle.apdu_writing.proofs.Quills.{put_stopped, put_wrong, put_done, both_not, both_so}
use Rattle.apdu_writing.proofs.quill.put_octets.Goals as goal

pub returns-then-not-c : goal.returns-then-not-c
returns-then-not-c c = put_stopped c.if-not-c.true

pub returns-then-not-whole : goal.returns-then-not-whole
returns-then-not-whole c = put_wrong c.if-not-c.false (both_not c.args.fine c.inside.ensures c.if-not-whole.true-raw)

pub returns : goal.returns
returns c = put_done c.if-not-c.false (both_so c.args.fine c.inside.ensures c.if-not-whole.false-raw) c.write_string-w.ensures.1 c.beyond.ensures
