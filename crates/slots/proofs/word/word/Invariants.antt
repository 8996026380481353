-- The word is made highest slot first: w is that of the slots behind those that are left.
use Rattle.std.proofs.Common.{◌≡◌}
use Rattle.slots.specs.Slots.{word_of}
use Rattle.slots.proofs.WordLaws.{word_before}
use Rattle.slots.proofs.word.word.Given as goal

abbrev pub invariant-loop-slot : goal.invariant-loop-slot
invariant-loop-slot l = word_of l.fn.slots ≡ word_before l.slot-iterator.iter.rest.now l.w
