-- The word is compared first, then each slot, then the pairs: together this is 01's soundness.
use Rattle.std.proofs.Common.{◌≡◌, ◌&&◌, eqb, ◌∙◌, rules}
use Rattle.slots.specs.Slots.{word_of}
use Rattle.slots.proofs.SoundLaws.{fine, sound_is}
use Rattle.slots.proofs.soundness.sound.Goals as goal

pub returns-then-each_sound : goal.returns-then-each_sound
returns-then-each_sound c =
    let t = c.args.table in
    let e : c.pairs_differ.result ≡ (eqb t.busy (word_of t.slots) && fine t.slots) = search rules in
    e ∙ sound_is t

pub returns-else-each_sound : goal.returns-else-each_sound
returns-else-each_sound c =
    let t = c.args.table in
    let e : c.if-table-word.value ≡ (eqb t.busy (word_of t.slots) && fine t.slots) = search rules in
    e ∙ sound_is t
