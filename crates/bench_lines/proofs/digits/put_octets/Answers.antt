use native.Mathlib.Omega.{arith}
use Prim.Native.Nat.{◌+◌, ◌*◌}
use Rattle.bench_lines.proofs.Spelling.{octet_more, octets_whole, digit_below}
use Rattle.bench_lines.proofs.digits.put_octets.Goals as goal

pub octet_of-requires : goal.octet_of-requires
octet_of-requires c =
    let s = c.args.s.now in
    let k = c.loop-k.k in
    (digit_below 16 s (2 * k) c.requires.2 (omega arith), digit_below 16 s (2 * k + 1) c.requires.2 (omega arith))

pub loop-k-preserved : goal.loop-k-preserved
loop-k-preserved c = octet_more _ _ _ c.loop-k.invariant c.octet_of.ensures (omega arith) (omega arith)

pub returns : goal.returns
returns c = octets_whole c.args.s.now c.args.out.now c.loop-k.k c.loop-k.invariant (omega arith)
