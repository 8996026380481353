-- `bench_lines::text::put_named` meets its contract: the number stands behind the word. Assumes nothing.
use native.Mathlib.Omega.{arith}
use Rattle.bench_lines.proofs.Appending.{length_number, length_named, named_placed}
use Rattle.bench_lines.proofs.text.put_named.Goals as goal

pub put_word-next-requires : goal.put_word-next-requires
put_word-next-requires c = omega (arith, length_named c.args.word.now c.args.n c.args.end)

pub put_number-requires : goal.put_number-requires
put_number-requires c =
    omega
    (arith, c.put_word-next.ensures.place, length_named c.args.word.now c.args.n c.args.end, length_number c.args.n c.args.end)

pub returns : goal.returns
returns c =
    named_placed _ _ (omega (arith, length_named c.args.word.now c.args.n c.args.end)) c.put_word-next.ensures c.put_number.ensures
