-- Containers up to their rows, and the next row. No public contract cites these.
-- Assumes nothing.
use Rattle.std.specs.Prelude.{ℕ, suc, ◌+◌, ◌≤◌, ◌≡◌, List, [], ◌∷◌, true, length}
use Rattle.apdu_format.specs.Component.{container}
use Rattle.apdu_format.specs.Rules.{times}
use Rattle.apdu.specs.declared.lists.Row.{Row}
use Rattle.apdu.specs.Values.{head_values, row_values}
use Rattle.apdu_writing.specs.declared.quill.Quill.{Quill}
use Rattle.apdu.specs.declared.due.Due.{Due}
use Rattle.apdu_writing.specs.declared.container.RowPut.{RowPut}
use Rattle.apdu.specs.Sound.{part_fits, nested}
use Rattle.apdu.specs.RowCounters.{row, total, due_list}
use Rattle.apdu_writing.specs.Quill.{Moves}

-- a container is written up to its rows
abbrev pub Opens : List ℕ → ℕ → ℕ → ℕ → ℕ → Quill → Quill → List ℕ → List ℕ → Type 0
Opens s d k n start c r o o' = Moves (part_fits (length s) k n start) (container d ∷ []) (times (nested k n) (row (suc d))) c r o o' (head_values s k n start)

-- no container is written deeper than 4
pub record Deep (d : ℕ) (r : Quill) : Type 0 where
  pub so : r.ok ≡ true → d ≤ 4

-- one row is written
pub record Next (s : List ℕ) (w : Row) (u : Due) (c : Quill) (r : RowPut) (o o' : List ℕ) : Type 0 where
  pub so : Moves (part_fits (length s) w.kind w.n w.start) (due_list u) (due_list r.due) c r.quill o o' (row_values s w)
  pub sums : r.quill.ok ≡ true → total r.due + 1 ≡ total u + nested w.kind w.n
