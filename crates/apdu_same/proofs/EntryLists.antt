-- Application entries of two records: the loop that compares them, and what it says of their values.
-- Assumes nothing.
use Prim.Native.Nat.{ℕ, zero, suc, ◌+◌, ◌≤◌, ◌<◌}
use mathlib.Core.Path.{◌≡◌, refl, ap, sym, ◌∙◌}
use mathlib.Core.List.{List, [], ◌∷◌, ◌++◌}
use mathlib.Core.Bool.{Bool, true, false, ◌&&◌}
use native.Mathlib.Omega.{arith}
use native.Mathlib.Numerals.{add-one}
use lib.Dec.{eqb}
use lib.ListN.{length, take, drop, get_or}
use lib.Seq.{drop-cons, drop-drop, take-suc}
use borrow.Author.Tests.{eqb-true}
use Rattle.std.proofs.Common.{take_all}
use Rattle.refusals.specs.Check.{pick}
use Rattle.apdu_format.proofs.Tests.{both}
use Rattle.apdu.specs.declared.lists.Row.{Row}
use Rattle.apdu.specs.declared.lists.Entry.{Entry}
use Rattle.apdu.specs.Values.{bit_of, num, empty_entry, entry_values, entries_values, entry_rows, rows_of}
use Rattle.apdu.specs.Sound.{entry_sound, entries_sound}
use Rattle.apdu.specs.Tables.{lesser}
use Rattle.apdu.proofs.Tables.{lesser_take}
use Rattle.apdu.proofs.Laws.{rows_of_snoc, own_values}
use Rattle.apdu_same.specs.Walk.{same_if, same_head, same_rows, same_box, same_entry, lists_rows, same_entries, same_applications, Agree}
use Rattle.apdu_same.proofs.Agreement.{agree_as, agree_none, agree_then, agree_number, begin, then, step_if, before, given, Lead, lead_last, lead_more, lead_agrees, flag_first}
use Rattle.apdu_same.proofs.RowLists.{box_agrees}

-- ---- how many rows the first entries have

pub rows_none_yet : (es : List Entry) → 0 ≡ rows_of (take 0 es)
unfolding rows_of
rows_none_yet es = refl

pub rows_more : (es : List Entry) (i : ℕ) {e : Entry} {own used : ℕ} → e ≡ get_or es i empty_entry → own ≡ entry_rows e → i < length es → used ≡ rows_of (take i es)
    → used + own ≡ rows_of (take (i + 1) es)
rows_more es i {e} f o h g =
    rw (o, g) (sym (rows_of_snoc (take i es) e))
    ∙ ap (λ (x : Entry). rows_of (take i es ++ (x ∷ []))) f ∙ ap rows_of (sym (take-suc es i empty_entry h)) ∙ ap (λ (k : ℕ). rows_of (take k es)) (sym (add-one i))

pub rows_end : (es : List Entry) (i : ℕ) {used : ℕ} → length es ≤ i → used ≡ rows_of (take i es) → used ≡ rows_of es
rows_end es i h g = g ∙ ap rows_of (take_all i es h)

-- of an array, as many as there are
pub rows_clamped : (es : List Entry) (n : ℕ) {k : ℕ} → length es ≡ 32 → k ≡ lesser 32 n → rows_of (take k es) ≡ rows_of (take n es)
rows_clamped es n e f = ap (λ (k : ℕ). rows_of (take k es)) (f ∙ ap (λ (k : ℕ). lesser k n) (sym e)) ∙ ap rows_of (lesser_take n es)

pub rows_whole : (es : List Entry) (n i : ℕ) {used : ℕ} → length es ≡ 32 → i ≡ lesser 32 n → used ≡ rows_of (take i es) → used ≡ rows_of (take n es)
rows_whole es n i e f g = g ∙ rows_clamped es n e f

-- ---- one entry

module _ (s : List ℕ) (e : Entry) (t : List ℕ) (f : Entry) where
  abbrev lead : Bool
  lead = eqb (bit_of e.has_eid) (bit_of f.has_eid) && (eqb (bit_of e.has_parameter) (bit_of f.has_parameter) && eqb e.aid f.aid)

  abbrev head : Bool
  head = same_head s e.kind e.n e.start t f.kind f.n f.start

  pub entry_by : {a b i r : Bool} → a ≡ eqb (bit_of e.has_eid) (bit_of f.has_eid) → b ≡ eqb (bit_of e.has_parameter) (bit_of f.has_parameter)
      → i ≡ same_if (a && (b && eqb e.aid f.aid)) e.has_eid (eqb e.eid f.eid) → r ≡ same_if i e.has_parameter head → r ≡ same_entry s e t f
  unfolding same_entry
  entry_by {b = b} p q g h =
      h
      ∙ ap (λ (x : Bool). same_if x e.has_parameter head)
      (g
      ∙ ap (λ (x : Bool). same_if x e.has_eid (eqb e.eid f.eid))
      (ap (λ (x : Bool). x && (b && eqb e.aid f.aid)) p
      ∙ ap (λ (x : Bool). eqb (bit_of e.has_eid) (bit_of f.has_eid) && (x && eqb e.aid f.aid)) q))

-- ---- the loop

module _ (s : List ℕ) (es : List Entry) (vs : List Row) (t : List ℕ) (fs : List Entry) (ws : List Row) where
  -- what is left to compare after i entries, whose rows end at used and gone
  unfoldable pub EntriesLeft : ℕ → ℕ → ℕ → Bool
  EntriesLeft i used gone = same_entries s (drop i es) (drop used vs) t (drop i fs) (drop gone ws)

  pub entries_all : (first at : ℕ) → same_entries s es (drop first vs) t fs (drop at ws) ≡ EntriesLeft 0 first at
  unfolding EntriesLeft
  entries_all first at = refl

  pub entries_none : (i used gone : ℕ) → i ≡ length es → i ≡ length fs → EntriesLeft i used gone ≡ true
  unfolding EntriesLeft
  entries_none i used gone e f = rw (past i es e, past i fs f) (unfold same_entries in refl)
    where
      past : (i : ℕ) (l : List Entry) → i ≡ length l → drop i l ≡ []
      past zero [] h = refl
      past zero (x ∷ l) h = absurd (omega arith)
      past (suc i) [] h = refl
      past (suc i) (x ∷ l) h = past i l (omega arith)

  module _ (i used gone : ℕ) {e f : Entry} (p : e ≡ get_or es i empty_entry) (q : f ≡ get_or fs i empty_entry) (h : i < length es) (k : i < length fs) where
    -- so many rows of either
    abbrev rows : ℕ → ℕ → Bool
    rows n m = same_rows s (take n (drop used vs)) t (take m (drop gone ws))

    entry_left : EntriesLeft i used gone
        ≡ ((same_entry s e t f && pick (lists_rows e) (rows (entry_rows e) (entry_rows f)) true) && EntriesLeft (i + 1) (used + entry_rows e) (gone + entry_rows f))
    unfolding EntriesLeft same_entries
    entry_left =
        rw (drop-cons es i empty_entry h, drop-cons fs i empty_entry k, ← p, ← q, add-one i, ← drop-drop (entry_rows e) used vs, ← drop-drop (entry_rows f) gone ws)

    module _ {r : Bool} (g : r ≡ same_entry s e t f) where
      pub entry_other : r ≡ false → EntriesLeft i used gone ≡ false
      entry_other j = entry_left ∙ rw (← g, j)

      module _ {l : Bool} {own theirs : ℕ} (j : r ≡ true) (u : own ≡ entry_rows e) (v : theirs ≡ entry_rows f) (m : l ≡ lists_rows e) where
        pub entry_passed : l ≡ false → EntriesLeft i used gone ≡ EntriesLeft (i + 1) (used + own) (gone + theirs)
        entry_passed z = entry_left ∙ rw (← g, j, ← m, z, u, v)

        module _ {x : Bool} (y : l ≡ true) (z : x ≡ rows own theirs) where
          pub rows_same : x ≡ true → EntriesLeft i used gone ≡ EntriesLeft (i + 1) (used + own) (gone + theirs)
          rows_same o = entry_left ∙ rw (← g, j, ← m, y, ← u, ← v, ← z, o)

          pub rows_other : x ≡ false → EntriesLeft i used gone ≡ false
          rows_other o = entry_left ∙ rw (← g, j, ← m, y, ← u, ← v, ← z, o)

-- ---- the values

-- the rows of a parameter are compared behind its head
boxed : (a p h k r : Bool) → same_if a p (h && pick k r true) ≡ (same_if a p h && pick (p && k) r true)
unfolding same_if
boxed true true h k r = refl
boxed true false h k r = refl
boxed false p h k r = refl

module _ (s t : List ℕ) where
  entry_agrees : (e : Entry) (vs : List Row) (f : Entry) (ws : List Row) → entry_sound (length s) e vs ≡ true → entry_sound (length t) f ws ≡ true
      → Agree (entry_values s e vs) (entry_values t f ws) (same_entry s e t f && pick (lists_rows e) (same_rows s vs t ws) true)
  unfolding entry_sound entry_values same_entry lists_rows same_box
  entry_agrees e vs f ws p q =
      agree_as (boxed (same_if (lead s e t f) e.has_eid (eqb e.eid f.eid)) e.has_parameter (head s e t f) (eqb e.kind 9) (same_rows s vs t ws))
      ((then {b = true} (begin (lead_agrees leads))
      (then (step_if (λ a. (flags a).0) refl (λ a b. agree_number e.eid f.eid))
      (step_if (λ a. params a) refl
      (λ a b. box_agrees s t e.kind e.n e.start vs f.kind f.n f.start ws (given _ _ b p) (given _ _ (sym (params a) ∙ b) q))))).so refl)
    where
      leads : Lead (bit_of e.has_eid ∷ bit_of e.has_parameter ∷ 0 ∷ e.aid ∷ []) (bit_of f.has_eid ∷ bit_of f.has_parameter ∷ 0 ∷ f.aid ∷ []) (lead s e t f)
      leads = lead_more refl (lead_more refl (lead_more {r = true} refl (lead_last e.aid f.aid refl)))

      flags : lead s e t f ≡ true → (e.has_eid ≡ f.has_eid) × (e.has_parameter ≡ f.has_parameter)
      flags a =
          let k = flag_first e.has_eid f.has_eid (bit_of e.has_parameter ∷ 0 ∷ e.aid ∷ []) (bit_of f.has_parameter ∷ 0 ∷ f.aid ∷ []) (sym leads.is ∙ a) in
          (k.0, (flag_first e.has_parameter f.has_parameter (0 ∷ e.aid ∷ []) (0 ∷ f.aid ∷ []) k.1).0)

      params : same_if (lead s e t f) e.has_eid (eqb e.eid f.eid) ≡ true → e.has_parameter ≡ f.has_parameter
      params a = (flags (before (lead s e t f) e.has_eid (eqb e.eid f.eid) a)).1

  entries_agree : (es : List Entry) (vs : List Row) (fs : List Entry) (ws : List Row) → length es ≡ length fs → entries_sound (length s) es vs ≡ true
      → entries_sound (length t) fs ws ≡ true → Agree (entries_values s es vs) (entries_values t fs ws) (same_entries s es vs t fs ws)
  unfolding entries_sound entries_values same_entries
  entries_agree [] vs [] ws h p q = agree_none
  entries_agree [] vs (f ∷ fs) ws h p q = absurd (omega arith)
  entries_agree (e ∷ es) vs [] ws h p q = absurd (omega arith)
  entries_agree (e ∷ es) vs (f ∷ fs) ws h p q =
      let p' = both (entry_sound (length s) e (take (entry_rows e) vs)) (entries_sound (length s) es (drop (entry_rows e) vs)) p in
      let q' = both (entry_sound (length t) f (take (entry_rows f) ws)) (entries_sound (length t) fs (drop (entry_rows f) ws)) q in
      agree_then (entry_agrees e (take (entry_rows e) vs) f (take (entry_rows f) ws) p'.0 q'.0)
      (λ z. entries_agree es (drop (entry_rows e) vs) fs (drop (entry_rows f) ws) (omega arith) p'.1 q'.1)

  -- lists of n and m entries, each at the front of as many
  pub applications_agree : (n m : ℕ) (es fs : List Entry) (vs ws : List Row) → length es ≡ length fs → entries_sound (length s) (take n es) vs ≡ true
      → entries_sound (length t) (take m fs) ws ≡ true
      → Agree (num n ∷ entries_values s (take n es) (take (rows_of (take n es)) vs)) (num m ∷ entries_values t (take m fs) (take (rows_of (take m fs)) ws))
      (same_applications s n (take n es) vs t m (take n fs) ws)
  unfolding same_applications
  applications_agree n m es fs vs ws h p q =
      agree_then (agree_number n m)
      (λ e. let k = eqb-true n m e in
      rw (← k, ← own_values s (take n es) vs, ← own_values t (take n fs) ws)
      (entries_agree (take n es) vs (take n fs) ws (fronts n es fs h) p (rw (← k) at q)))
    where
      fronts : (n : ℕ) (es fs : List Entry) → length es ≡ length fs → length (take n es) ≡ length (take n fs)
      fronts zero es fs h = refl
      fronts (suc n) [] [] h = refl
      fronts (suc n) [] (f ∷ fs) h = absurd (omega arith)
      fronts (suc n) (e ∷ es) [] h = absurd (omega arith)
      fronts (suc n) (e ∷ es) (f ∷ fs) h = ap suc (fronts n es fs (omega arith))
