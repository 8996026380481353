-- `bench_lines::text::append_answer` meets its contract: it is asked for as many octets as its fields have, one behind the other. Assumes nothing.
use native.Mathlib.Omega.{arith}
use Rattle.bench_lines.specs.Text.{answer_line_text}
use Rattle.bench_lines.proofs.Appending.{length_number, length_line, room_found, no_room, four_appended}
use Rattle.bench_lines.proofs.text.append_answer.Goals as goal

pub returns-then-not-has_room : goal.returns-then-not-has_room
returns-then-not-has_room c =
    no_room _ _ _ c.has_room.ensures
    (length_line c.args.line c.args.answer c.args.octets c.args.dropped c.width_of.ensures.0 c.answer_octets.ensures.0 c.width_of-2.ensures.0 c.width_of-3.ensures.0)
    c.if-not-has_room.true

pub put_number-second-requires : goal.put_number-second-requires
put_number-second-requires c =
    omega (
      arith,
      room_found _ _ _ c.has_room.ensures c.if-not-has_room.false,
      length_number c.args.line 32,
      length_number c.args.octets 32,
      length_number c.args.dropped 10,
      c.width_of.ensures.0,
      c.answer_octets.ensures.0,
      c.width_of-2.ensures.0,
      c.width_of-3.ensures.0,
    )

pub put_answer-third-requires : goal.put_answer-third-requires
put_answer-third-requires c =
    omega (
      arith,
      room_found _ _ _ c.has_room.ensures c.if-not-has_room.false,
      length_number c.args.line 32,
      length_number c.args.octets 32,
      length_number c.args.dropped 10,
      c.put_number-second.ensures.place,
      c.width_of.ensures.0,
      c.answer_octets.ensures.0,
      c.width_of-2.ensures.0,
      c.width_of-3.ensures.0,
    )

pub put_number-fourth-requires : goal.put_number-fourth-requires
put_number-fourth-requires c =
    omega (
      arith,
      room_found _ _ _ c.has_room.ensures c.if-not-has_room.false,
      length_number c.args.line 32,
      length_number c.args.octets 32,
      length_number c.args.dropped 10,
      c.put_number-second.ensures.place,
      c.put_answer-third.ensures.place,
      c.width_of.ensures.0,
      c.answer_octets.ensures.0,
      c.width_of-2.ensures.0,
      c.width_of-3.ensures.0,
    )

pub put_number-requires : goal.put_number-requires
put_number-requires c =
    omega (
      arith,
      room_found _ _ _ c.has_room.ensures c.if-not-has_room.false,
      length_number c.args.line 32,
      length_number c.args.octets 32,
      length_number c.args.dropped 10,
      c.put_number-second.ensures.place,
      c.put_answer-third.ensures.place,
      c.put_number-fourth.ensures.place,
      c.width_of.ensures.0,
      c.answer_octets.ensures.0,
      c.width_of-2.ensures.0,
      c.width_of-3.ensures.0,
    )

pub returns : goal.returns
unfolding answer_line_text
returns c =
    four_appended _ _ _ _ _ _ c.has_room.ensures
    (length_line c.args.line c.args.answer c.args.octets c.args.dropped c.width_of.ensures.0 c.answer_octets.ensures.0 c.width_of-2.ensures.0 c.width_of-3.ensures.0)
    c.if-not-has_room.false c.put_number-second.ensures c.put_answer-third.ensures c.put_number-fourth.ensures c.put_number.ensures
