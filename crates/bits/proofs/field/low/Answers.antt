-- `bits::field::low` meets its contract: a mask of k ones keeps the remainder by 2^k. Assumes nothing.
use native.Mathlib.Omega.{arith}
use Rattle.bits.proofs.Window.{low_mask}
use Rattle.bits.proofs.field.low.Goals as goal

pub returns : goal.returns
returns c = low_mask c.args.v c.args.k (omega arith)
