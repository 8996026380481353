-- The checks 2 and 3 go before; then the slots of the LID are freed.
use Rattle.std.proofs.Common.{◌≡◌, true, false, rules}
use Rattle.refusals.specs.Check.{first_of}
use Rattle.slots.specs.Slots.{is_sound, lid_in_range}
use Rattle.slots.specs.Sweep.{release_of, swept_by}
use Rattle.slots.proofs.sweep.release.Goals as goal

pub returns-then-not-sound : goal.returns-then-not-sound
unfolding release_of swept_by first_of
returns-then-not-sound c =
    let u : is_sound c.args.table.now ≡ false = search rules in
    record { answer_is = rw u; table_is = rw u }

pub returns-then-not-lid_in_range : goal.returns-then-not-lid_in_range
unfolding release_of swept_by first_of
returns-then-not-lid_in_range c =
    let u : is_sound c.args.table.now ≡ true = search rules in
    let v : lid_in_range c.args.lid ≡ false = search rules in
    record { answer_is = rw (u, v); table_is = rw (u, v) }

pub returns : goal.returns
unfolding release_of swept_by first_of
returns c =
    let u : is_sound c.args.table.now ≡ true = search rules in
    let v : lid_in_range c.args.lid ≡ true = search rules in
    record { answer_is = rw (u, v) (search rules); table_is = rw (u, v) (search rules) }
