use Rattle.directory.proofs.Looking.{unsound_answer, known_answer}
use Rattle.directory.proofs.knows.Goals as goal

pub returns-then-not-list_sound : goal.returns-then-not-list_sound
returns-then-not-list_sound c = unsound_answer _ _ _ _ c.list_sound.ensures c.if-not-list_sound.true

pub returns : goal.returns
returns c = rw (c.is_some.ensures, c.first_row.ensures, c.from.ensures) (known_answer _ _ _ _ c.list_sound.ensures c.if-not-list_sound.false)
