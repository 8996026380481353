-- Laws of application entries one after the other, each with its rows.
-- Assumes nothing.
use Prim.Native.Nat.{ℕ, ◌+◌, ◌≤◌, ◌<◌}
use mathlib.Core.Path.{◌≡◌, ap, sym, ◌∙◌}
use mathlib.Core.List.{List, [], ◌∷◌, ◌++◌, append_assoc}
use native.Mathlib.Omega.{arith}
use native.Mathlib.Numerals.{add-one}
use lib.ListN.{length, length-take, length-drop, take, drop, get_or, drop_of_length-le}
use lib.Seq.{take_all, take-suc, drop-cons, drop-drop}
use Rattle.apdu.specs.declared.lists.Row.{Row}
use Rattle.apdu.specs.declared.lists.Entry.{Entry}
use Rattle.apdu.specs.declared.records.Message.{Message}
use Rattle.apdu.specs.Values.{entry_rows, rows_of, empty_entry}
use Rattle.apdu.proofs.Laws.{rows_of_snoc}
use Rattle.apdu_text.specs.Parts.{between, entry_text, entries_text, entry_list}
use Rattle.apdu_text.specs.MessageText.{message_text}
use Rattle.apdu_text.specs.Ink.{Writes}
use Rattle.apdu_text.specs.declared.pen.Pen.{Pen}
use Rattle.apdu_text.proofs.Inking.{Leaves, leaves_more, leaves_as, leaves_end, writes_then}

module _ (all : List Entry) (i : ℕ) where
  abbrev this : Entry
  this = get_or all i empty_entry

  first : i < length all → drop i all ≡ this ∷ drop (i + 1) all
  first h = drop-cons all i empty_entry h ∙ ap (λ (k : ℕ). this ∷ drop k all) (sym (add-one i))

  -- the rows behind those of the first entries
  pub rest_more : (rows : List Row) {rest own : List Row} {n : ℕ} → n ≡ entry_rows this → i < length all → rest ≡ drop (rows_of (take i all)) rows → own ≡ drop n rest
      → own ≡ drop (rows_of (take (i + 1) all)) rows
  rest_more rows {rest} {own} {n} o h e f =
      let t : rows_of (take (i + 1) all) ≡ rows_of (take i all) + entry_rows this =
      ap (λ (k : ℕ). rows_of (take k all)) (add-one i) ∙ ap rows_of (take-suc all i empty_entry h) ∙ rows_of_snoc (take i all) this in
      f ∙ ap (λ (k : ℕ). drop k rest) o ∙ ap (drop (entry_rows this)) e ∙ drop-drop (entry_rows this) (rows_of (take i all)) rows ∙ ap (λ (k : ℕ). drop k rows) (sym t)

  pub rest_all : (rows : List Row) {rest : List Row} → length all ≤ i → rest ≡ drop (rows_of (take i all)) rows → rest ≡ drop (rows_of all) rows
  rest_all rows h e = e ∙ ap (λ (l : List Entry). drop (rows_of l) rows) (take_all i all h)

  module _ (s : List ℕ) (rest : List Row) {own : List Row} {n : ℕ} (end : List ℕ) (k : n ≡ entry_rows this) (f : own ≡ drop n rest) {text : List ℕ} {o p : Pen}
      (l : Leaves text o (entries_text s (drop i all) rest ++ end) p) where
    entry_first : i < length all
        → entries_text s (drop i all) rest ++ end
        ≡ entry_text s this (take n rest) ++ (between (drop (i + 1) all) ++ (entries_text s (drop (i + 1) all) own ++ end))
    unfolding entries_text
    entry_first h =
        rw (first h, f, k)
        (append_assoc (entry_text s this (take (entry_rows this) rest)) (between (drop (i + 1) all) ++ entries_text s (drop (i + 1) all) (drop (entry_rows this) rest)) end
        ∙ ap (λ (t : List ℕ). entry_text s this (take (entry_rows this) rest) ++ t)
        (append_assoc (between (drop (i + 1) all)) (entries_text s (drop (i + 1) all) (drop (entry_rows this) rest)) end))

    module _ {q : Pen} (e : Writes (entry_text s this (take n rest)) p q) where
      pub entries_more : i + 1 < length all → {u : Pen} → Writes (44 ∷ []) q u → Leaves text o (entries_text s (drop (i + 1) all) own ++ end) u
      unfolding between
      entries_more h x =
          let some : between (drop (i + 1) all) ≡ 44 ∷ [] = ap (λ (k : List Entry). between k) (drop-cons all (i + 1) empty_entry h) in
          let begun = leaves_more (leaves_as (entry_first (omega arith)) l) e in
          leaves_more {a = 44 ∷ []} (rw some at begun) x

      pub entries_last : i < length all → length all ≤ i + 1 → Leaves text o (entries_text s (drop (i + 1) all) own ++ end) q
      unfolding between
      entries_last h g =
          let none : between (drop (i + 1) all) ≡ [] = ap (λ (j : List Entry). between j) (drop_of_length-le all g) in
          let begun = leaves_more (leaves_as (entry_first h) l) e in
          rw none at begun

  pub entries_end : (s : List ℕ) (rest : List Row) (end : List ℕ) {text : List ℕ} {o p q : Pen} → Leaves text o (entries_text s (drop i all) rest ++ end) p → length all ≤ i → Writes end p q
      → Writes text o q
  unfolding entries_text
  entries_end s rest end l h x = leaves_end (leaves_as (ap (λ (j : List Entry). entries_text s j rest ++ end) (drop_of_length-le all h)) l) x

-- a part of the rows has no more of them
pub few_rows : (rows : List Row) (k n : ℕ) {rest own : List Row} → length rows ≤ 32 → rest ≡ drop k rows → own ≡ take n rest → length own ≤ 32
few_rows rows k n {rest} {own} h e f = omega (arith, ap length e, ap length f, length-drop k rows, length-take n rest)

pub entries_write : (name s : List ℕ) (es : List Entry) (rs : List Row) {o p q r : Pen} → Writes name o p → Writes (91 ∷ []) p q → Writes (entries_text s es rs ++ (93 ∷ [])) q r
    → Writes (name ++ entry_list s es rs) o r
unfolding entry_list
entries_write name s es rs a b c = writes_then a (writes_then b c)

pub few_left : (rows : List Row) (k : ℕ) {rest : List Row} → length rows ≤ 32 → rest ≡ drop k rows → length rest ≤ 32
few_left rows k {rest} h e = omega (arith, ap length e, length-drop k rows)

pub entries_as : (name s : List ℕ) {es fs : List Entry} {rs qs : List Row} {o q : Pen} → es ≡ fs → rs ≡ qs → Writes (name ++ entry_list s es rs) o q → Writes (name ++ entry_list s fs qs) o q
entries_as name s e f x = rw (e, f) at x

-- a message of the kind that it is
pub message_writes : (s : List ℕ) {m k : Message} (es : List Entry) (rs : List Row) {o q : Pen} → m ≡ k → Writes (message_text s k es rs) o q → Writes (message_text s m es rs) o q
message_writes s es rs e x = rw (← e) at x
