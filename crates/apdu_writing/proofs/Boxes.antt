-- Containers and attribute lists with their rows.
-- Assumes nothing.
use Prim.Native.Nat.{ℕ}
use mathlib.Core.Path.{◌≡◌, ap, sym, ◌∙◌}
use mathlib.Core.List.{List, [], ◌∷◌}
use mathlib.Core.Bool.{true}
use lib.ListN.{length, take}
use Rattle.apdu_format.specs.Component.{container, row_count}
use Rattle.apdu_format.specs.Rules.{times}
use Rattle.apdu.specs.declared.lists.Row.{Row}
use Rattle.apdu.specs.Values.{num, rows_values, container_values}
use Rattle.apdu.proofs.Dues.{two, one, due_two, due_one, total_two, total_one}
use Rattle.apdu_writing.specs.declared.quill.Quill.{Quill}
use Rattle.apdu.specs.Sound.{nested, rows_sound, container_sound}
use Rattle.apdu_writing.specs.Quill.{Moves, Puts, halted}
use Rattle.apdu.specs.RowCounters.{row, total, due_list}
use Rattle.apdu_writing.specs.Rows.{Opens}
use Rattle.apdu_writing.proofs.Chains.{then}
use Rattle.apdu_writing.proofs.RowLists.{run_none, run_done, run_short}

module _ (s : List ℕ) (n : ℕ) (rs : List Row) {c d r : Quill} {o o₁ o₂ : List ℕ} where
  pub box_by : (k start : ℕ) {m : ℕ} → m ≡ nested k n → Opens s 1 k n start c d o o₁ → Puts (rows_sound (length s) (total (two m)) rs) (due_list (two m)) d r o₁ o₂ (rows_values s rs)
      → Puts (container_sound (length s) k n start rs) (container 1 ∷ []) c r o o₂ (container_values s k n start rs)
  unfolding container_sound
  box_by k start e p q = then p (rw e at (rw (total_two, due_two) at q))

  pub list_by : Moves true (row_count 1 ∷ []) (times n (row 1)) c d o o₁ (num n ∷ []) → Puts (rows_sound (length s) (total (one n)) rs) (due_list (one n)) d r o₁ o₂ (rows_values s rs)
      → Puts (rows_sound (length s) n rs) (row_count 1 ∷ []) c r o o₂ (num n ∷ rows_values s rs)
  list_by p q = then p (rw (total_one, due_one) at q)

pub none_taken : {A : Type 0} (k : ℕ) (l : List A) → k ≡ 0 → take k l ≡ []
none_taken k l e = ap (λ (i : ℕ). take i l) e

-- a container behind which no row stands: as announced, or not
module _ (s : List ℕ) (k n start : ℕ) (rs : List Row) {m : ℕ} {c d : Quill} {o o₁ : List ℕ} (e : m ≡ nested k n) (none : rs ≡ []) (p : Opens s 1 k n start c d o o₁) where
  at_end : 0 ≡ length rs
  at_end = ap length (sym none)

  pub box_closed : m ≡ 0 → Puts (container_sound (length s) k n start rs) (container 1 ∷ []) c d o o₁ (container_values s k n start rs)
  box_closed z = box_by s n rs k start e p (run_done s rs (run_none s rs (two m) d o₁) at_end (total_two m ∙ z))

  pub box_short : (m ≡ 0 → ⊥) → {r : Quill} → r ≡ halted d → Puts (container_sound (length s) k n start rs) (container 1 ∷ []) c r o o₁ (container_values s k n start rs)
  box_short z h = box_by s n rs k start e p (run_short s rs (run_none s rs (two m) d o₁) at_end (λ t. z (sym (total_two m) ∙ t)) h)
