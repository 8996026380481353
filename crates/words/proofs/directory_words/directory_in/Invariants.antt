-- The rows set so far, with those that are left, are all rows.
use Rattle.words.proofs.RowLaws.{RowsIn}
use Rattle.words.proofs.directory_words.directory_in.Given as goal

abbrev pub invariant-loop-i : goal.invariant-loop-i
invariant-loop-i l = RowsIn l.words l.n l.d.rows l.i
