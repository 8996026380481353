-- Application entries: entries of the same values, each with its own rows, are the same, and so are their rows.
-- Assumes nothing.
use Prim.Native.Nat.{ℕ, suc, ◌≤◌, min}
use mathlib.Core.Path.{◌≡◌, refl, ap, sym, ◌∙◌}
use mathlib.Core.Bool.{Bool, true, false}
use mathlib.Core.List.{List, [], ◌∷◌, ◌++◌, append_assoc}
use native.Mathlib.Omega.{arith}
use lib.ListN.{length, take, drop, get_or, length-take, length-drop}
use lib.Seq.{take-add}
use Rattle.apdu_format.specs.Reading.{Value}
use Rattle.apdu_format.proofs.Tests.{never, both}
use Rattle.apdu.specs.declared.lists.Row.{Row}
use Rattle.apdu.specs.declared.lists.Entry.{Entry}
use Rattle.apdu.specs.Values.{if, num_if, container_values, entry_values, entry_rows, entries_values, rows_of, list_values, empty_row, empty_entry}
use Rattle.apdu.specs.Tidy.{Absent, row_tidy, RowsTidy, entry_tidy, ListsTidy}
use Rattle.apdu.specs.Sound.{sound_if, count_if, entry_sound, entries_sound}
use Rattle.apdu.proofs.Laws.{own_values, tidy_rows}
use Rattle.apdu.proofs.SameFields.{bit_same, number_same}
use Rattle.apdu.proofs.SameRows.{array_same, each_taken, each_behind, EachRow, empty_row_law, box_same}

-- ---- one entry

pub record EntrySame (e f : Entry) (rs qs : List Row) (us vs : List Value) : Type 0 where
  pub entry : e ≡ f
  pub rows : take (entry_rows e) rs ≡ take (entry_rows f) qs
  pub behind : us ≡ vs

module _ (s : List ℕ) (z : ℕ) where
  entry_same : (e f : Entry) (rs qs : List Row) (us vs : List Value) → entry_tidy e → entry_tidy f → EachRow rs → EachRow qs
      → entry_rows e ≤ length rs → entry_rows f ≤ length qs → entry_sound z e (take (entry_rows e) rs) ≡ true → entry_sound z f (take (entry_rows f) qs) ≡ true
      → (entry_values s e (take (entry_rows e) rs) ++ us) ≡ (entry_values s f (take (entry_rows f) qs) ++ vs) → EntrySame e f rs qs us vs
  unfolding entry_values entry_sound
  entry_same e f rs qs us vs t u o o' i j c d h =
      let p = bit_same e.has_eid f.has_eid cc in
      let q = bit_same e.has_parameter f.has_parameter cc in
      let a : e.aid ≡ f.aid = cc in
      let box : Entry → List Row → List Value = λ x l. if x.has_parameter (container_values s x.kind x.n x.start (take (entry_rows x) l)) in
      let number : Entry → List Value = λ x. num_if x.has_eid x.eid in
      let g : ((number e ++ box e rs) ++ us) ≡ ((number f ++ box f qs) ++ vs) = cc in
      let g' : (number e ++ (box e rs ++ us)) ≡ (number f ++ (box f qs ++ vs)) = sym (append_assoc (number e) (box e rs) us) ∙ g ∙ append_assoc (number f) (box f qs) vs in
      let x = number_same e.has_eid f.has_eid e.eid f.eid (box e rs ++ us) (box f qs ++ vs) p t.0 u.0 g' in
      let y = box_same s e.has_parameter f.has_parameter e.kind e.n e.start (entry_rows e) rs f.kind f.n f.start (entry_rows f) qs z us vs q
      (own e t) (own f u) t.2 u.2 o o' (few e.has_parameter (entry_rows e) rs i) (few f.has_parameter (entry_rows f) qs j) c d x.behind in
      let w : e.rows ≡ f.rows = sym (tidy_rows e t) ∙ y.count ∙ tidy_rows f u in
      record {
        entry = λ i.
            record {
              has_eid = p i;
              has_parameter = q i;
              aid = a i;
              eid = x.number i;
              kind = y.kind i;
              n = y.number i;
              start = y.place i;
              rows = w i;
            };
        rows = y.rows;
        behind = y.behind;
      }
    where
      own : (x : Entry) → entry_tidy x → Absent x.has_parameter (x.kind ∷ x.n ∷ x.start ∷ entry_rows x ∷ [])
      own x t = rw (tidy_rows x t) t.1

      few : (p : Bool) (n : ℕ) (l : List Row) → n ≤ length l → count_if p n ≤ length l
      few true n l h = h
      few false n l h = omega arith

-- ---- entries in their order

abbrev pub EachEntry : List Entry → Type 0
EachEntry es = (j : ℕ) → entry_tidy (get_or es j empty_entry)

pub empty_entry_law : entry_tidy empty_entry
empty_entry_law = (record { are = λ h. (refl, tt) }, record { are = λ h. (refl, (refl, (refl, (refl, tt)))) }, record { are = λ h. (refl, tt) })

record EntriesSame (es fs : List Entry) (rs qs : List Row) (us vs : List Value) : Type 0 where
  entries : es ≡ fs
  rows : take (rows_of es) rs ≡ take (rows_of fs) qs
  behind : us ≡ vs

-- a list of entries with its count, from the front of an array of entries and of an array of rows
pub record ApplicationsSame (n : ℕ) (es : List Entry) (rs : List Row) (m : ℕ) (fs : List Entry) (qs : List Row) (us vs : List Value) : Type 0 where
  pub count : n ≡ m
  pub entries : take n es ≡ take m fs
  pub rows : take (rows_of (take n es)) rs ≡ take (rows_of (take m fs)) qs
  pub behind : us ≡ vs

module _ (s : List ℕ) (z : ℕ) where
  entries_same : (es fs : List Entry) (rs qs : List Row) (us vs : List Value) → length es ≡ length fs → EachEntry es → EachEntry fs → EachRow rs → EachRow qs
      → rows_of es ≤ length rs → rows_of fs ≤ length qs → entries_sound z es rs ≡ true → entries_sound z fs qs ≡ true
      → (entries_values s es rs ++ us) ≡ (entries_values s fs qs ++ vs) → EntriesSame es fs rs qs us vs
  unfolding entries_values entries_sound rows_of
  entries_same [] [] rs qs us vs l t u o o' i j c d h = record { entries = refl; rows = refl; behind = h }
  entries_same [] (f ∷ fs) rs qs us vs l t u o o' i j c d h = absurd (omega arith)
  entries_same (e ∷ es) [] rs qs us vs l t u o o' i j c d h = absurd (omega arith)
  entries_same (e ∷ es) (f ∷ fs) rs qs us vs l t u o o' i j c d h =
      let ve = entry_values s e (take (entry_rows e) rs) in
      let vf = entry_values s f (take (entry_rows f) qs) in
      let more = drop (entry_rows e) rs in
      let others = drop (entry_rows f) qs in
      let g = sym (append_assoc ve (entries_values s es more) us) ∙ h ∙ append_assoc vf (entries_values s fs others) vs in
      let c' = both (entry_sound z e (take (entry_rows e) rs)) (entries_sound z es more) c in
      let d' = both (entry_sound z f (take (entry_rows f) qs)) (entries_sound z fs others) d in
      let x = entry_same s z e f rs qs (entries_values s es more ++ us) (entries_values s fs others ++ vs) (t 0) (u 0) o o' (omega arith) (omega arith) c'.0 d'.0 g in
      let y = entries_same es fs more others us vs (omega arith) (λ n. t (suc n)) (λ n. u (suc n)) (each_behind row_tidy empty_row empty_row_law (entry_rows e) rs o)
      (each_behind row_tidy empty_row empty_row_law (entry_rows f) qs o') (omega (arith, length-drop (entry_rows e) rs)) (omega (arith, length-drop (entry_rows f) qs)) c'.1 d'.1 x.behind in
      record {
        entries = λ n. x.entry n ∷ y.entries n;
        rows = take-add (entry_rows e) (rows_of es) rs ∙ (λ n. x.rows n ++ y.rows n) ∙ sym (take-add (entry_rows f) (rows_of fs) qs);
        behind = y.behind;
      }

  module _ (n : ℕ) (es : List Entry) (rs : List Row) (m : ℕ) (fs : List Entry) (qs : List Row) (us vs : List Value) (l : length es ≡ length fs)
      (t : EachEntry es) (u : EachEntry fs) (o : EachRow rs) (o' : EachRow qs) where
    pub applications_same : rows_of (take n es) ≤ length rs → rows_of (take m fs) ≤ length qs → entries_sound z (take n es) rs ≡ true → entries_sound z (take m fs) qs ≡ true
        → (list_values s n (take n es) rs ++ us) ≡ (list_values s m (take m fs) qs ++ vs) → ApplicationsSame n es rs m fs qs us vs
    applications_same i j c d h =
        let e : n ≡ m = cc in
        let own : (entries_values s (take n es) (take (rows_of (take n es)) rs) ++ us) ≡ (entries_values s (take m fs) (take (rows_of (take m fs)) qs) ++ vs) = cc in
        let g : (entries_values s (take n es) rs ++ us) ≡ (entries_values s (take m fs) qs ++ vs)
        = ap (λ (l : List Value). l ++ us) (own_values s (take n es) rs) ∙ own ∙ ap (λ (l : List Value). l ++ vs) (sym (own_values s (take m fs) qs)) in
        let k : length (take n es) ≡ length (take m fs) = length-take n es ∙ (λ i. min (e i) (l i)) ∙ sym (length-take m fs) in
        let x = entries_same (take n es) (take m fs) rs qs us vs k (each_taken entry_tidy empty_entry empty_entry_law n es t) (each_taken entry_tidy empty_entry empty_entry_law m fs u) o o' i j c d g in
        record { count = e; entries = x.entries; rows = x.rows; behind = x.behind }

    -- if it is there
    pub applications_if_same : (p q : Bool) → p ≡ q → Absent p (n ∷ []) → Absent q (m ∷ []) → count_if p (rows_of (take n es)) ≤ length rs → count_if q (rows_of (take m fs)) ≤ length qs
        → sound_if p (entries_sound z (take n es) rs) ≡ true → sound_if q (entries_sound z (take m fs) qs) ≡ true
        → (if p (list_values s n (take n es) rs) ++ us) ≡ (if q (list_values s m (take m fs) qs) ++ vs) → ApplicationsSame n es rs m fs qs us vs
    applications_if_same true true e x y i j c d h = applications_same i j c d h
    applications_if_same true false e x y i j c d h = never (sym e)
    applications_if_same false true e x y i j c d h = never e
    applications_if_same false false e x y i j c d h =
        let a : n ≡ 0 = (x.are refl).0 in
        let b : m ≡ 0 = (y.are refl).0 in
        record { count = a ∙ sym b; entries = rw (a, b); rows = rw (a, b) (unfold rows_of in refl); behind = h }

-- ---- arrays

pub lists_same : (n m : ℕ) (es fs : List Entry) (rs qs : List Row) → n ≡ m → length es ≡ length fs → length rs ≡ length qs → ListsTidy n es rs → ListsTidy m fs qs
    → take n es ≡ take m fs → take (rows_of (take n es)) rs ≡ take (rows_of (take m fs)) qs → (es ≡ fs) × (rs ≡ qs)
lists_same n m es fs rs qs c l k t u e f =
    let u' : ListsTidy n fs qs = rw (← c) at u in
    let e' : take n es ≡ take n fs = e ∙ ap (λ (i : ℕ). take i fs) (sym c) in
    let f' : take (rows_of (take n es)) rs ≡ take (rows_of (take n es)) qs = f ∙ ap (λ (l : List Entry). take (rows_of l) qs) (sym e) in
    let w : RowsTidy (rows_of (take n es)) qs = rw (← e') at u'.rows in (
      array_same empty_entry n es fs l e' t.entries.rest u'.entries.rest,
      array_same empty_row (rows_of (take n es)) rs qs k f' t.rows.rest w.rest,
    )
