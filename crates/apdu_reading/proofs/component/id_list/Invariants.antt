-- `id_list` reads its count and then one id a turn: the loop has read as many ids behind the count as it has turned.
-- Assumes nothing.
use Rattle.apdu_reading.proofs.Strings.{Ids}
use Rattle.apdu_reading.proofs.component.id_list.Given as goal

abbrev pub invariant-loop : goal.invariant-loop
invariant-loop l = Ids l.s l.d l.counter l.e
