-- `exports::headers::semuryeon_header_write` meets its contract: the writer's, of the header that is handed in. Assumes nothing.
use mathlib.Core.Path.{◌≡◌}
use mathlib.Core.Bool.{not}
use lib.Dec.{eqb}
use Rattle.exports.specs.Headers.{header_from, written_number}
use Rattle.exports.proofs.HeaderLaws.{written_by, unpacking_written, large_number}
use Rattle.exports.proofs.headers.semuryeon_header_write.Goals as goal

pub returns-in-Ok : goal.returns-in-Ok
unfolding header_from written_number
returns-in-Ok c =
    let header : _ ≡ header_from c.args.last c.args.number c.args.counter =
    λ i. record { last = not (eqb c.args.last 0); number = c.narrow.ensures i; counter = c.args.counter } in
    let written = written_by (header_from c.args.last c.args.number c.args.counter) _ c.args.out.now _ _ _ header c.in-Ok.ensures.answer c.packed.ensures.answer in
    record { answer = written; unpacking = unpacking_written; large_number = large_number }

pub returns-in-Err : goal.returns-in-Err
unfolding header_from written_number
returns-in-Err c =
    let header : _ ≡ header_from c.args.last c.args.number c.args.counter =
    λ i. record { last = not (eqb c.args.last 0); number = c.narrow.ensures i; counter = c.args.counter } in
    let written = written_by (header_from c.args.last c.args.number c.args.counter) _ c.args.out.now _ _ _ header c.in-Err.ensures.answer c.refused.ensures in
    record { answer = written; unpacking = unpacking_written; large_number = large_number }
