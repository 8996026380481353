-- Attribute rows of two records: the loop that compares them, and what it says of their values.
-- Assumes nothing.
use Prim.Native.Nat.{ℕ, zero, suc, ◌+◌, ◌<◌}
use mathlib.Core.Path.{◌≡◌, refl, ap, sym, ◌∙◌}
use mathlib.Core.List.{List, [], ◌∷◌}
use mathlib.Core.Bool.{Bool, true, false, ◌&&◌}
use native.Mathlib.Omega.{arith}
use native.Mathlib.Numerals.{add-one}
use lib.Dec.{eqb}
use lib.ListN.{length, drop, get_or}
use lib.Seq.{drop-cons}
use borrow.Author.Tests.{eqb-true}
use Rattle.refusals.specs.Check.{pick}
use Rattle.refusals.proofs.Tests.{and_right}
use Rattle.apdu_format.proofs.Tests.{never, both}
use Rattle.apdu.specs.declared.lists.Row.{Row}
use Rattle.apdu.specs.Values.{num, empty_row, row_values, rows_values, container_values}
use Rattle.apdu.specs.Sound.{nested, part_fits, parts_fit, closes, rows_sound, container_sound}
use Rattle.apdu_same.specs.Walk.{same_head, same_row, same_rows, same_box, same_list, Agree}
use Rattle.apdu_same.proofs.Agreement.{agree_none, agree_then, agree_number}
use Rattle.apdu_same.proofs.Leaves.{head_agrees, head_same}

-- ---- the loop

pub rows_lengths : (s : List ℕ) (vs : List Row) (t : List ℕ) (ws : List Row) → (length vs ≡ length ws → ⊥) → false ≡ same_rows s vs t ws
unfolding same_rows
rows_lengths s [] t [] h = absurd (h refl)
rows_lengths s [] t (w ∷ ws) h = refl
rows_lengths s (v ∷ vs) t [] h = refl
rows_lengths s (v ∷ vs) t (w ∷ ws) h = sym (and_right (same_row s v t w) (sym (rows_lengths s vs t ws (λ e. h (ap suc e)))))

module _ (s : List ℕ) (vs : List Row) (t : List ℕ) (ws : List Row) where
  -- what is left to compare after i rows
  unfoldable pub RowsLeft : ℕ → Bool
  RowsLeft i = same_rows s (drop i vs) t (drop i ws)

  pub rows_all : same_rows s vs t ws ≡ RowsLeft 0
  unfolding RowsLeft
  rows_all = refl

  module _ (i : ℕ) {v w : Row} (e : v ≡ get_or vs i empty_row) (f : w ≡ get_or ws i empty_row) (h : i < length vs) (k : i < length ws) where
    row_left : RowsLeft i ≡ (same_row s v t w && RowsLeft (i + 1))
    unfolding RowsLeft same_rows
    row_left = rw (drop-cons vs i empty_row h, drop-cons ws i empty_row k, e, f, add-one i)

    module _ {r : Bool} (g : r ≡ same_row s v t w) where
      pub row_same : r ≡ true → RowsLeft i ≡ RowsLeft (i + 1)
      row_same j = row_left ∙ rw (← g, j)

      pub row_other : r ≡ false → RowsLeft i ≡ false
      row_other j = row_left ∙ rw (← g, j)

  pub rows_none : (i : ℕ) → i ≡ length vs → i ≡ length ws → RowsLeft i ≡ true
  unfolding RowsLeft
  rows_none i e f = rw (past i vs e, past i ws f) (unfold same_rows in refl)
    where
      past : (i : ℕ) (l : List Row) → i ≡ length l → drop i l ≡ []
      past zero [] h = refl
      past zero (x ∷ l) h = absurd (omega arith)
      past (suc i) [] h = refl
      past (suc i) (x ∷ l) h = past i l (omega arith)

-- ---- the values

module _ (s : List ℕ) (t : List ℕ) where
  row_agrees : (v w : Row) → part_fits (length s) v.kind v.n v.start ≡ true → part_fits (length t) w.kind w.n w.start ≡ true
      → Agree (row_values s v) (row_values t w) (same_row s v t w)
  unfolding row_values same_row
  row_agrees v w f g =
      agree_then (agree_number v.id w.id) (λ e. head_agrees s v.kind v.n v.start t w.kind w.n w.start f g)

  row_nested : (v w : Row) → same_row s v t w ≡ true → nested v.kind v.n ≡ nested w.kind w.n
  unfolding same_row
  row_nested v w e =
      let h = both (eqb v.id w.id) (same_head s v.kind v.n v.start t w.kind w.n w.start) e in
      let k = head_same s v.kind v.n v.start t w.kind w.n w.start h.1 in
      ap (λ (i : ℕ). nested i v.n) k.0 ∙ ap (nested w.kind) k.1

  -- as many rows are announced in both as long as they agree, so they end together
  pub rows_agree : (n : ℕ) (vs ws : List Row) → parts_fit (length s) vs ≡ true → parts_fit (length t) ws ≡ true → closes n vs ≡ true → closes n ws ≡ true
      → Agree (rows_values s vs) (rows_values t ws) (same_rows s vs t ws)
  unfolding parts_fit closes rows_values same_rows
  rows_agree zero [] [] f g h k = agree_none
  rows_agree zero [] (w ∷ ws) f g h k = never k
  rows_agree zero (v ∷ vs) ws f g h k = never h
  rows_agree (suc n) [] ws f g h k = never h
  rows_agree (suc n) (v ∷ vs) [] f g h k = never k
  rows_agree (suc n) (v ∷ vs) (w ∷ ws) f g h k =
      let f' = both (part_fits (length s) v.kind v.n v.start) (parts_fit (length s) vs) f in
      let g' = both (part_fits (length t) w.kind w.n w.start) (parts_fit (length t) ws) g in
      agree_then (row_agrees v w f'.0 g'.0)
      (λ e. rows_agree (nested v.kind v.n + n) vs ws f'.1 g'.1 h (ap (λ (i : ℕ). closes (i + n) ws) (row_nested v w e) ∙ k))

  pub list_agrees : (n : ℕ) (vs : List Row) (m : ℕ) (ws : List Row) → rows_sound (length s) n vs ≡ true → rows_sound (length t) m ws ≡ true
      → Agree (num n ∷ rows_values s vs) (num m ∷ rows_values t ws) (same_list s n vs t m ws)
  unfolding rows_sound same_list
  list_agrees n vs m ws f g =
      let f' = both (parts_fit (length s) vs) (closes n vs) f in
      let g' = both (parts_fit (length t) ws) (closes m ws) g in
      agree_then (agree_number n m) (λ e. rows_agree n vs ws f'.0 g'.0 f'.1 (ap (λ (i : ℕ). closes i ws) (eqb-true n m e) ∙ g'.1))

  -- the rows of a container, if it announces any
  module _ (vs ws : List Row) (f : parts_fit (length s) vs ≡ true) (g : parts_fit (length t) ws ≡ true) where
    nested_agree : (x : Bool) (n : ℕ) → closes (pick x n 0) vs ≡ true → closes (pick x n 0) ws ≡ true
        → Agree (rows_values s vs) (rows_values t ws) (pick x (same_rows s vs t ws) true)
    nested_agree true n h k = rows_agree n vs ws f g h k
    nested_agree false n h k = rw (empty vs h, empty ws k) (unfold rows_values in agree_none)
      where
        empty : (l : List Row) → closes 0 l ≡ true → l ≡ []
        empty [] e = refl
        empty (v ∷ l) e = unfold closes in never e

  pub box_agrees : (k n start : ℕ) (vs : List Row) (l m at : ℕ) (ws : List Row) → container_sound (length s) k n start vs ≡ true
      → container_sound (length t) l m at ws ≡ true → Agree (container_values s k n start vs) (container_values t l m at ws) (same_box s k n start vs t l m at ws)
  unfolding container_sound rows_sound same_box
  box_agrees k n start vs l m at ws f g =
      let f' = both (part_fits (length s) k n start) (parts_fit (length s) vs && closes (nested k n) vs) f in
      let f'' = both (parts_fit (length s) vs) (closes (nested k n) vs) f'.1 in
      let g' = both (part_fits (length t) l m at) (parts_fit (length t) ws && closes (nested l m) ws) g in
      let g'' = both (parts_fit (length t) ws) (closes (nested l m) ws) g'.1 in
      agree_then (head_agrees s k n start t l m at f'.0 g'.0)
      (λ e. let i = head_same s k n start t l m at e in
      nested_agree vs ws f''.0 g''.0 (eqb k 9) n f''.1
      (ap (λ (j : ℕ). closes (nested j n) ws) i.0 ∙ ap (λ (j : ℕ). closes (nested l j) ws) i.1 ∙ g''.1))
