-- Before each turn the word is that of the slots from i on.
use Rattle.std.proofs.Common.{◌≡◌, drop}
use Rattle.slots.specs.Slots.{word_of}
use Rattle.words.specs.TableWords.{slots_in}
use Rattle.words.proofs.table_words.busy_of.Given as goal

abbrev pub invariant-loop-i : goal.invariant-loop-i
invariant-loop-i l = l.busy ≡ word_of (drop l.i (slots_in l.words))
