-- Only the slots of a sound table are summed, none of more than 512 octets.
use Rattle.std.proofs.Common.{rules}
use Rattle.slots.specs.Slots.{held_in}
use Rattle.slots.proofs.SoundLaws.{slots_small}
use Rattle.slots.proofs.lookup.held_in.Goals as goal

pub held_sum-requires : goal.held_sum-requires
held_sum-requires c = slots_small c.args.table (search rules)

pub returns-then-sound : goal.returns-then-sound
unfolding held_in
returns-then-sound c = search rules

pub returns-else-sound : goal.returns-else-sound
unfolding held_in
returns-else-sound c = search rules
