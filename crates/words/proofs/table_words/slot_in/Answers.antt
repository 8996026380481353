-- `words::table_words::slot_in` meets its contract: each field is its word. Assumes nothing.
use Rattle.words.proofs.table_words.slot_in.Goals as goal

pub returns : goal.returns
returns c =
    λ i. record {
      lid = c.word.ensures i;
      number = c.word-2.ensures i;
      next = c.word-3.ensures i;
      held = c.word-4.ensures i;
      tick = c.word-5.ensures i;
    }
