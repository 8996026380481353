-- `bench_lines::text::put_word` meets its contract: it copies the whole word. Assumes nothing.
use native.Mathlib.Numerals.{add-one}
use native.Mathlib.Omega.{arith}
use lib.Seq.{paste-zero, paste-suc}
use Rattle.bench_lines.proofs.Appending.{word_copied}
use Rattle.bench_lines.proofs.text.put_word.Goals as goal

pub loop-k-init : goal.loop-k-init
loop-k-init c = paste-zero c.args.out.now c.args.at c.args.word.now

pub loop-k-preserved : goal.loop-k-preserved
loop-k-preserved c =
    let a = c.args in
    rw (add-one, c.loop-k.invariant) (paste-suc a.out.now a.at a.word.now c.loop-k.k 0 (omega arith) (omega arith))

pub returns : goal.returns
returns c = word_copied _ _ _ c.loop-k.invariant (omega arith)
