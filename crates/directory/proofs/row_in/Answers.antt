use Rattle.directory.proofs.Looking.{unsound_row, found_row, found_inside}
use Rattle.directory.proofs.row_in.Goals as goal

pub returns-then-not-list_sound-clause-row : goal.returns-then-not-list_sound-clause-row
returns-then-not-list_sound-clause-row c = unsound_row _ _ _ _ c.list_sound.ensures c.if-not-list_sound.true

pub returns-clause-row : goal.returns-clause-row
returns-clause-row c = rw (c.unwrap_or.ensures, c.first_row.ensures, c.from.ensures) (found_row _ _ _ _ c.list_sound.ensures c.if-not-list_sound.false)

pub returns-clause-inside : goal.returns-clause-inside
returns-clause-inside c = rw (c.unwrap_or.ensures, c.first_row.ensures, c.from.ensures) (found_inside _ _ _ _ c.list_sound.ensures c.if-not-list_sound.false)
