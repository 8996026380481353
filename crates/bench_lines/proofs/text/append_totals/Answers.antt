-- `bench_lines::text::append_totals` meets its contract: it is asked for as many octets as its fields have, one behind the other. Assumes nothing.
use native.Mathlib.Omega.{arith}
use Rattle.bench_lines.specs.Text.{accepted_word, delivered_word, dropped_word, held_word, totals_text}
use Rattle.bench_lines.proofs.Appending.{length_named, length_totals, room_found, no_room, four_appended}
use Rattle.bench_lines.proofs.text.append_totals.Goals as goal

pub returns-then-not-has_room : goal.returns-then-not-has_room
returns-then-not-has_room c =
    no_room _ _ _ c.has_room.ensures
    (length_totals c.args.totals c.width_of.ensures.0 c.width_of-2.ensures.0 c.width_of-3.ensures.0 c.width_of-4.ensures.0)
    c.if-not-has_room.true

pub put_named-second-requires : goal.put_named-second-requires
put_named-second-requires c =
    omega (
      arith,
      room_found _ _ _ c.has_room.ensures c.if-not-has_room.false,
      length_named accepted_word c.args.totals.accepted 32,
      c.width_of.ensures.0,
      c.width_of-2.ensures.0,
      c.width_of-3.ensures.0,
      c.width_of-4.ensures.0,
    )

pub put_named-third-requires : goal.put_named-third-requires
put_named-third-requires c =
    omega (
      arith,
      room_found _ _ _ c.has_room.ensures c.if-not-has_room.false,
      length_named accepted_word c.args.totals.accepted 32,
      length_named delivered_word c.args.totals.delivered 32,
      c.put_named-second.ensures.place,
      c.width_of.ensures.0,
      c.width_of-2.ensures.0,
      c.width_of-3.ensures.0,
      c.width_of-4.ensures.0,
    )

pub put_named-fourth-requires : goal.put_named-fourth-requires
put_named-fourth-requires c =
    omega (
      arith,
      room_found _ _ _ c.has_room.ensures c.if-not-has_room.false,
      length_named accepted_word c.args.totals.accepted 32,
      length_named delivered_word c.args.totals.delivered 32,
      length_named dropped_word c.args.totals.dropped 32,
      c.put_named-second.ensures.place,
      c.put_named-third.ensures.place,
      c.width_of.ensures.0,
      c.width_of-2.ensures.0,
      c.width_of-3.ensures.0,
      c.width_of-4.ensures.0,
    )

pub put_named-requires : goal.put_named-requires
put_named-requires c =
    omega (
      arith,
      room_found _ _ _ c.has_room.ensures c.if-not-has_room.false,
      length_named accepted_word c.args.totals.accepted 32,
      length_named delivered_word c.args.totals.delivered 32,
      length_named dropped_word c.args.totals.dropped 32,
      length_named held_word c.args.totals.held 10,
      c.put_named-second.ensures.place,
      c.put_named-third.ensures.place,
      c.put_named-fourth.ensures.place,
      c.width_of.ensures.0,
      c.width_of-2.ensures.0,
      c.width_of-3.ensures.0,
      c.width_of-4.ensures.0,
    )

pub returns : goal.returns
unfolding totals_text
returns c =
    four_appended _ _ _ _ _ _ c.has_room.ensures
    (length_totals c.args.totals c.width_of.ensures.0 c.width_of-2.ensures.0 c.width_of-3.ensures.0 c.width_of-4.ensures.0)
    c.if-not-has_room.false c.put_named-second.ensures c.put_named-third.ensures c.put_named-fourth.ensures c.put_named.ensures
