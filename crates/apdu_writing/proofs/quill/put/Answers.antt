-- `put` goes by the three ways of `behind`: stopped before, out of range, written.
-- Assumes nothing.
use Rattle.apdu_writing.proofs.Quills.{put_stopped, put_wrong, put_done}
use borrow.Author.Tests.{not-true, not-false}
use Rattle.apdu_writing.proofs.quill.put.Goals as goal

pub returns-then-not-c : goal.returns-then-not-c
returns-then-not-c c = put_stopped c.if-not-c.true

pub returns-then-not-fine : goal.returns-then-not-fine
returns-then-not-fine c = put_wrong c.if-not-c.false (not-true _ c.if-not-fine.true-raw)

pub returns : goal.returns
returns c = put_done c.if-not-c.false (not-false _ c.if-not-fine.false-raw) c.write_field-w.ensures.1 c.beyond.ensures
