-- The rounds are the lists, and in each round the entries are read one by one. With what stands behind them the message is whole.
-- Assumes nothing.
use Prim.Native.Nat.{◌+◌, ◌≤◌}
use Rattle.apdu_reading.proofs.Stores.{Stored, Upto}
use Rattle.apdu_reading.proofs.applications.application_lists.Given as goal

abbrev pub invariant-loop-i : goal.invariant-loop-i
invariant-loop-i l = Stored l.s l.mandatory (record { rows = record { cursor = l.initial.cursor; used = l.initial.used; rows = l.initial.lists.rows }; entries = l.initial.lists.entries }) l.i (record { rows = record { cursor = l.cursor; used = l.used; rows = l.lists.rows }; entries = l.lists.entries }) × (l.mandatory + l.others ≤ 32)

abbrev pub invariant-loop-round : goal.invariant-loop-round
invariant-loop-round l = Upto l.s l.f.has_others (record { rows = record { cursor = l.initial.cursor; used = l.initial.used; rows = l.initial.lists.rows }; entries = l.initial.lists.entries }) l.round l.mandatory l.others (record { rows = record { cursor = l.cursor; used = l.used; rows = l.lists.rows }; entries = l.lists.entries })
