-- The slot at the pair's index, or a free one past the last, holds the octets.
use Rattle.std.proofs.Common.{rules}
use Rattle.slots.specs.Slots.{held_for}
use Rattle.slots.proofs.lookup.held_for.Goals as goal

pub returns : goal.returns
unfolding held_for
returns c = search rules
