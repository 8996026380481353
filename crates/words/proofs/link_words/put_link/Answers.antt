use Rattle.std.proofs.Common.{◌≡◌, refl}
use Rattle.words.specs.LinkWords.{phase_number, phase_beacon, phase_lid}
use Rattle.words.proofs.LinkLaws.{put_none, put_each, unpacking_put_link}
use Rattle.words.proofs.link_words.put_link.Goals as goal
use Rattle.words.proofs.link_words.put_link.Goals.{in-Sleeping, in-Looking, in-Ready}

pub returns-then-words-ne-LINK_WORDS : goal.returns-then-words-ne-LINK_WORDS
returns-then-words-ne-LINK_WORDS c = record { answer = put_none c.args.link c.args.words.now c.if-words-ne-LINK_WORDS.true; unpacking = unpacking_put_link }

pub returns : goal.returns
returns c =
    let link = c.args.link in
    let parts : (c.match-link.phase.0 ≡ phase_number link.phase) × (c.match-link.phase.1 ≡ phase_beacon link.phase) × (c.match-link.phase.2 ≡ phase_lid link.phase) =
    elim c.match-link.branch [
      | in-Sleeping w ↦ rw (w.phase-is, w.in-Sleeping.is) (refl, refl, refl)
      | in-Looking w ↦ rw (w.phase-is, w.in-Looking.is) (refl, refl, refl)
      | in-Ready w ↦ rw (w.phase-is, w.in-Ready.is) (refl, refl, refl)
    ] in
    record { answer = put_each link c.args.words.now c.if-words-ne-LINK_WORDS.false parts.0 parts.1 parts.2 (cc); unpacking = unpacking_put_link }
