-- The one check holds for a table that is not sound, and else the aged slots are freed.
use Rattle.std.proofs.Common.{◌≡◌, true, false, rules}
use Rattle.refusals.specs.Check.{first_of}
use Rattle.slots.specs.Slots.{is_sound}
use Rattle.slots.specs.Sweep.{expiry_of, swept_by}
use Rattle.slots.proofs.sweep.expire.Goals as goal

pub returns-then-not-sound : goal.returns-then-not-sound
unfolding expiry_of swept_by first_of
returns-then-not-sound c =
    let u : is_sound c.args.table.now ≡ false = search rules in
    record { answer_is = rw u; table_is = rw u }

pub returns : goal.returns
unfolding expiry_of swept_by first_of
returns c =
    let u : is_sound c.args.table.now ≡ true = search rules in
    record { answer_is = rw u (search rules); table_is = rw u (search rules) }
