-- Laws of rows that lie flat: what is left of them, and the open lists.
-- Assumes nothing.
use Prim.Native.Nat.{ℕ, zero, suc, ◌+◌, ◌-◌, ◌≤◌, ◌<◌}
use mathlib.Core.Path.{◌≡◌, refl, ap, sym, ◌∙◌}
use mathlib.Core.Bool.{true, false}
use mathlib.Core.List.{List, [], ◌∷◌, ◌++◌, append_assoc}
use native.Mathlib.Omega.{arith}
use native.Mathlib.Numerals.{add-one}
use lib.Dec.{eqb}
use lib.ListN.{length, take, drop, get_or, set, length-set, drop_of_length-le}
use lib.Seq.{drop-cons, get_or-set_same, get_or-set_other, length-take-le}
use borrow.Author.Tests.{eq-eqb, ne_eqb}
use Rattle.refusals.specs.Check.{pick}
use Rattle.apdu.specs.declared.lists.Row.{Row}
use Rattle.apdu.specs.Values.{empty_row}
use Rattle.apdu.specs.Sound.{nested}
use Rattle.apdu.proofs.Tables.{part_place}
use Rattle.apdu_text.specs.Words.{refused_with, at_place, messages_are, refused_are, same_are}
use Rattle.apdu_text.specs.Parts.{decimal, when, seam, going_on, opened, row_front, rows_text}
use Rattle.apdu_text.specs.Lines.{refusal_text, totals_text}
use Rattle.apdu_text.specs.Ink.{Writes, stack_of}
use Rattle.apdu_text.specs.declared.pen.Pen.{Pen}
use Rattle.apdu_text.proofs.Inking.{Leaves, leaves_all, leaves_more, leaves_none, leaves_as, none_writes, writes_then, writes_as}
use Rattle.apdu_text.proofs.Pieces.{stack_front}

-- ---- refusals

pub refusal_writes : (number position : ℕ) {b : mathlib.Core.Bool.Bool} → b ≡ mathlib.Core.Bool.not (eqb number 0) → {o p q : Pen} → Writes (refused_with ++ decimal number) o p
    → Writes (when b (at_place ++ decimal position)) p q → Writes (refusal_text number position) o q
unfolding refusal_text
refusal_writes number position e x y =
    writes_as (append_assoc refused_with (decimal number) _ ∙ ap (λ (t : List ℕ). refused_with ++ (decimal number ++ t)) (ap (λ (b : mathlib.Core.Bool.Bool). when b (at_place ++ decimal position)) e ∙ turned (eqb number 0)))
    (writes_then x y)
  where
    turned : (b : mathlib.Core.Bool.Bool) → when (mathlib.Core.Bool.not b) (at_place ++ decimal position) ≡ pick b [] (at_place ++ decimal position)
    turned true = refl
    turned false = refl

pub totals_write : (messages refused same : ℕ) {o p q r u : Pen} → Writes (messages_are ++ decimal messages) o p → Writes (refused_are ++ decimal refused) p q
    → Writes (same_are ++ decimal same) q r → Writes (10 ∷ []) r u → Writes (totals_text messages refused same) o u
unfolding totals_text
totals_write messages refused same a b c d =
    writes_then a (writes_then b (writes_then c d))

pub rows_announced : (s : List ℕ) (rs : List Row) {n k : ℕ} {o q : Pen} → n ≡ k → Writes (rows_text s (opened n []) rs) o q → Writes (rows_text s (opened k []) rs) o q
rows_announced s rs e x = rw e at x

-- ---- open lists in an array

stack_keeps : (due : List ℕ) (j x k : ℕ) → k ≤ j → stack_of (set due j x) k ≡ stack_of due k
unfolding stack_of
stack_keeps due j x zero h = refl
stack_keeps due j x (suc k) h =
    let other : k ≡ j → ⊥ = λ e. absurd (omega arith) in
    rw (get_or-set_other due j k x 0 other, stack_keeps due j x k (omega arith))

-- those at its front
pub stack_take : (due : List ℕ) (n k : ℕ) → k ≤ n → stack_of (take n due) k ≡ stack_of due k
unfolding stack_of
stack_take due n zero h = refl
stack_take due n (suc k) h = rw (lib.Seq.get_or-take n due k 0 (omega arith), stack_take due n k (omega arith))

-- the open lists as the code takes them, a part of the array
module _ (due : List ℕ) (m : ℕ) {d : ℕ} (e : m ≡ d) (h : d ≤ length due) where
  pub open_length : length (take m due) ≡ d
  open_length = length-take-le m due (omega arith) ∙ e

  pub open_front : stack_of (take m due) (length (take m due)) ≡ stack_of due d
  open_front = ap (stack_of (take m due)) open_length ∙ stack_take due m d (omega arith)

  pub open_some : {r : ℕ} → r ≤ length (take m due) → stack_of (take m due) r ≡ going_on (stack_of (take m due) (length (take m due))) → stack_of due r ≡ going_on (stack_of due d)
  open_some {r} k g = sym (stack_take due m r (omega (arith, open_length))) ∙ g ∙ ap going_on open_front

module _ (due : List ℕ) (depth : ℕ) (x : ℕ) where
  -- the innermost count is another
  stack_set : 0 < depth → depth ≤ length due → stack_of (set due (depth - 1) x) depth ≡ x ∷ stack_of due (depth - 1)
  stack_set h k =
      stack_front (set due (depth - 1) x) depth h
      ∙ rw (get_or-set_same due (depth - 1) x 0 (omega arith), stack_keeps due (depth - 1) x (depth - 1) (omega arith))

  -- one list more
  stack_push : depth < length due → stack_of (set due depth x) (depth + 1) ≡ x ∷ stack_of due depth
  unfolding stack_of
  stack_push h = rw (add-one, get_or-set_same due depth x 0 h, stack_keeps due depth x depth (omega arith))

-- ---- rows, one more

none_open : (s : List ℕ) (rs : List Row) → rows_text s [] rs ≡ []
unfolding rows_text
none_open s [] = refl
none_open s (r ∷ rs) = refl

none_left : (s d : List ℕ) → rows_text s d [] ≡ []
unfolding rows_text
none_left s [] = refl
none_left s (x ∷ d) = refl

module _ (s : List ℕ) (rs : List Row) (i : ℕ) (due : List ℕ) (depth : ℕ) {text : List ℕ} {o : Pen} {p : Pen}
    (l : Leaves text o (rows_text s (stack_of due depth) (drop i rs)) p) where
  pub rows_closed : depth ≡ 0 → Writes text o p
  unfolding stack_of
  rows_closed e = leaves_none (leaves_as (ap (λ (k : ℕ). rows_text s (stack_of due k) (drop i rs)) e ∙ none_open s (drop i rs)) l)

  pub rows_end : length rs ≤ i → Writes text o p
  rows_end h = leaves_none (leaves_as (ap (rows_text s (stack_of due depth)) (drop_of_length-le rs h) ∙ none_left s (stack_of due depth)) l)

module _ (s : List ℕ) (all : List Row) (i : ℕ) (due : List ℕ) (depth x : ℕ) where
  abbrev row : Row
  row = get_or all i empty_row

  abbrev more : ℕ
  more = nested row.kind row.n

  abbrev due' : List ℕ
  due' = set due (depth - 1) x

  module _ (h : i < length all) (some : 0 < depth) (fits : depth ≤ length due) (less : x ≡ get_or due (depth - 1) 0 - 1) where
    row_first : rows_text s (stack_of due depth) (drop i all)
        ≡ row_front s row ++ (when (eqb more 0) (seam (stack_of due' depth)) ++ rows_text s (pick (eqb more 0) (going_on (stack_of due' depth)) (more ∷ stack_of due' depth)) (drop (i + 1) all))
    unfolding rows_text
    row_first = rw (stack_set due depth x some fits, less) (rw (drop-cons all i empty_row h, ← add-one i, stack_front due depth some))

    module _ {text : List ℕ} {o : Pen} {p : Pen} (l : Leaves text o (rows_text s (stack_of due depth) (drop i all)) p)
        {q : Pen} (front : Writes (row_front s row) p q) {k : ℕ} (e : k ≡ more) where
      pub rows_closing : k ≡ 0 → {u : Pen} → Writes (seam (stack_of due' depth)) q u → (d : ℕ) → stack_of due' d ≡ going_on (stack_of due' depth)
          → Leaves text o (rows_text s (stack_of due' d) (drop (i + 1) all)) u
      rows_closing z w d g =
          let y : eqb more 0 ≡ true = eq-eqb more 0 (sym e ∙ z) in
          let begun = leaves_more (leaves_as row_first l) front in
          leaves_as (ap (λ (o : List ℕ). rows_text s o (drop (i + 1) all)) (sym g)) (leaves_more {a = seam (stack_of due' depth)} (rw y at begun) w)

      pub rows_opening : (k ≡ 0 → ⊥) → depth < length due → Leaves text o (rows_text s (stack_of (set due' depth k) (depth + 1)) (drop (i + 1) all)) q
      rows_opening z n =
          let y : eqb more 0 ≡ false = ne_eqb more 0 (λ v. z (e ∙ v)) in
          let b : stack_of (set due' depth k) (depth + 1) ≡ more ∷ stack_of due' depth = stack_push due' depth k (rw length-set n) ∙ ap (λ (j : ℕ). j ∷ stack_of due' depth) e in
          let begun = leaves_more (leaves_as row_first l) front in
          leaves_as (ap (λ (o : List ℕ). rows_text s o (drop (i + 1) all)) (sym b)) (rw y at begun)

-- the loop's start
pub rows_start : (s : List ℕ) (rs : List Row) (n : ℕ) (o : Pen) → (n ≡ 0 → ⊥) → Leaves (rows_text s (opened n []) rs) o (rows_text s (n ∷ []) rs) o
unfolding opened
rows_start s rs n o e =
    leaves_as (ap (λ (d : List ℕ). rows_text s d rs) (open_one n e)) (leaves_all (rows_text s (opened n []) rs) o)
  where
    open_one : (n : ℕ) → (n ≡ 0 → ⊥) → opened n [] ≡ n ∷ []
    open_one n e = rw (ne_eqb n 0 e)

pub rows_none : (s : List ℕ) (rs : List Row) (n : ℕ) (o : Pen) → n ≡ 0 → Writes (rows_text s (opened n []) rs) o o
unfolding opened
rows_none s rs n o e = writes_as (rw (eq-eqb n 0 e) (sym (none_open s rs))) (none_writes o)

pub rows_as : {text : List ℕ} {o : Pen} (s : List ℕ) (rs : List Row) {due e : List ℕ} {depth d : ℕ} {p q : Pen} → due ≡ e → depth ≡ d → p ≡ q
    → Leaves text o (rows_text s (stack_of e d) rs) q → Leaves text o (rows_text s (stack_of due depth) rs) p
rows_as s rs a b c l = rw (a, b, c) l

-- ---- a part of a table

pub part_at : {A : Type 0} (table : List A) (first count i : ℕ) (d : A) → i < length (take count (drop first table))
    → drop i (take count (drop first table)) ≡ get_or table (first + i) d ∷ drop (i + 1) (take count (drop first table))
part_at table first count i d h =
    let p = take count (drop first table) in
    drop-cons p i d h ∙ rw (← part_place d table first count i refl h, ← add-one i)
