-- `bench_lines::text::append_heading` meets its contract: it is asked for as many octets as the heading has. Assumes nothing.
use mathlib.Core.Path.{refl}
use Rattle.bench_lines.specs.Text.{heading_text}
use Rattle.bench_lines.proofs.Appending.{room_found, no_room, room_for}
use Rattle.bench_lines.proofs.text.append_heading.Goals as goal

pub returns-then-not-has_room : goal.returns-then-not-has_room
unfolding heading_text
returns-then-not-has_room c = no_room _ _ heading_text c.has_room.ensures refl c.if-not-has_room.true

pub put_word-requires : goal.put_word-requires
put_word-requires c = room_found _ _ _ c.has_room.ensures c.if-not-has_room.false

pub returns : goal.returns
unfolding heading_text
returns c = room_for _ _ heading_text c.has_room.ensures refl c.if-not-has_room.false c.put_word.ensures
