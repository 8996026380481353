-- `bits::field::put_window` meets its contract. The invariant: what is left of the number, written before what is written, is the whole.
-- Assumes nothing.
use Rattle.bits.proofs.Window.{Left}
use Rattle.bits.proofs.field.put_window.Given as goal

abbrev pub invariant-loop-k : goal.invariant-loop-k
invariant-loop-k l = Left l.initial.out l.first l.n l.v l.out l.k l.rest
