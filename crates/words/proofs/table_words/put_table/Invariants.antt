-- After each turn of the loop the words up to that slot are the table's.
use Rattle.std.proofs.Common.{◌≡◌, ◌+◌, ◌*◌, ◌∷◌, length, take}
use Rattle.words.specs.TableWords.{slots_words}
use Rattle.words.proofs.table_words.put_table.Given as goal

abbrev pub invariant-loop-i : goal.invariant-loop-i
invariant-loop-i l = (length l.words ≡ 41) × (take (1 + 5 * l.i) l.words ≡ l.fn.table.busy ∷ slots_words (take l.i l.slot-items))
