-- The strings of a sound and tidy record lie inside the message: a container's, and those of the rows and entries of a list. Rows and entries beyond the
-- used ones are no strings.
-- Assumes nothing.
use Prim.Native.Nat.{ℕ, zero, suc, ◌+◌, ◌-◌, ◌<◌}
use mathlib.Core.Bool.{Bool, true, false, ◌&&◌}
use mathlib.Core.Path.{◌≡◌, refl, ap, subst, ◌∙◌}
use mathlib.Core.List.{List, [], ◌∷◌}
use native.Mathlib.Omega.{arith}
use lib.Dec.{eqb, ltb}
use lib.ListN.{get_or, take, drop}
use lib.Seq.{get_or-drop, take-add}
use borrow.Author.Tests.{eqb-true, ltb-true, ltb-false}
use Rattle.std.specs.Prelude.{Option, Some, None}
use Rattle.refusals.specs.Check.{pick}
use Rattle.refusals.proofs.Tests.{by_cases, and_true}
use Rattle.bits.specs.Strings.{is_inside}
use Rattle.apdu_format.specs.Component.{octet_string}
use Rattle.apdu_format.proofs.Tests.{both}
use Rattle.apdu.specs.declared.lists.Row.{Row}
use Rattle.apdu.specs.declared.lists.Entry.{Entry}
use Rattle.apdu.specs.Values.{empty_row, empty_entry, entry_rows, rows_of}
use Rattle.apdu.specs.Sound.{part_fits, parts_fit, closes, rows_sound, nested, container_sound, sound_if, entry_sound, entries_sound}
use Rattle.apdu.specs.Tidy.{Absent, RowsTidy, EntriesTidy, ListsTidy, entry_tidy}
use Rattle.apdu.proofs.Laws.{own_sound, sound_append}
use Rattle.exports.specs.declared.strings.StringPart.{StringPart}
use Rattle.exports.specs.Strings.{part, row_string, entry_string}

pub if_there : (p b : Bool) → sound_if p b ≡ true → p ≡ true → b ≡ true
if_there p b e h = rw h at e

pub first_there_law : (p b rest : Bool) → (sound_if p b && rest) ≡ true → p ≡ true → b ≡ true
first_there_law p b rest e h = if_there p b (both (sound_if p b) rest e).0 h

module _ (octets : ℕ) where
  abbrev pub Inside : Option StringPart → Type 0
  Inside None = Unit {0}
  Inside (Some p) = is_inside octets p.start p.length ≡ true

  -- one that is inside where it is present
  pub inside_if : (present : Bool) (start n : ℕ) → (present ≡ true → is_inside octets start n ≡ true) → Inside (part present start n)
  inside_if true start n h = h refl
  inside_if false start n h = tt

  -- ---- containers

  part_inside : (kind n start : ℕ) → part_fits octets kind n start ≡ true → Inside (part (eqb kind octet_string) start n)
  unfolding part_fits
  part_inside kind n start e = inside_if (eqb kind octet_string) start n (λ h. rw h at e)

  -- one that is there, or has kind 0
  pub container_inside : (has : Bool) (kind n start : ℕ) (rest : List ℕ) (own : List Row) → sound_if has (container_sound octets kind n start own) ≡ true
      → Absent has (kind ∷ rest) → Inside (part (eqb kind octet_string) start n)
  unfolding container_sound
  container_inside has kind n start rest own e a =
      let c = container_sound octets kind n start own in
      by_cases has
      (λ t. part_inside kind n start (both (part_fits octets kind n start) (rows_sound octets (nested kind n) own) (if_there has c e t)).0)
      (λ f.
      inside_if (eqb kind octet_string) start n
      (λ h. let z : kind ≡ 0 = (a.are f).0 in let k : kind ≡ 2 = eqb-true kind octet_string h in absurd (omega arith)))

  -- and its rows
  pub list_fits : (n : ℕ) (own : List Row) → rows_sound octets n own ≡ true → parts_fit octets own ≡ true
  unfolding rows_sound
  list_fits n own e = (both (parts_fit octets own) (closes n own) e).0

  rows_fit : (kind n start : ℕ) (own : List Row) → container_sound octets kind n start own ≡ true → parts_fit octets own ≡ true
  unfolding container_sound
  rows_fit kind n start own e = list_fits (nested kind n) own (both (part_fits octets kind n start) (rows_sound octets (nested kind n) own) e).1

  -- ---- rows

  empty_row_law : Inside (row_string empty_row)
  empty_row_law = tt

  row_at : (used : ℕ) (rs : List Row) (j : ℕ) → parts_fit octets (take used rs) ≡ true → j < used → Inside (row_string (get_or rs j empty_row))
  unfolding parts_fit
  row_at zero rs j e k = absurd (omega arith)
  row_at (suc used) [] j e k = empty_row_law
  row_at (suc used) (r ∷ rs) zero e k =
      part_inside r.kind r.n r.start (both (part_fits octets r.kind r.n r.start) (parts_fit octets (take used rs)) e).0
  row_at (suc used) (r ∷ rs) (suc j) e k =
      row_at used rs j (both (part_fits octets r.kind r.n r.start) (parts_fit octets (take used rs)) e).1 (omega arith)

  abbrev pub RowsInside : List Row → Type 0
  RowsInside rs = (j : ℕ) → Inside (row_string (get_or rs j empty_row))

  pub rows_inside : (used : ℕ) (rs : List Row) → parts_fit octets (take used rs) ≡ true → RowsTidy used rs → RowsInside rs
  rows_inside used rs e t j =
      by_cases (ltb j used) (λ b. row_at used rs j e (ltb-true j used b)) (λ b. rw (t.rest j (ltb-false j used b)) empty_row_law)

  pub no_rows : (rs : List Row) → RowsTidy 0 rs → RowsInside rs
  unfolding parts_fit
  no_rows rs t = rows_inside 0 rs refl t

  -- the rows of what is there, or none
  pub rows_if : (has b : Bool) (used : ℕ) (rs : List Row) → sound_if has b ≡ true → (b ≡ true → parts_fit octets (take used rs) ≡ true)
      → (has ≡ false → used ≡ 0) → RowsTidy used rs → RowsInside rs
  rows_if has b used rs e f z t = by_cases has (λ h. rows_inside used rs (f (if_there has b e h)) t) (λ h. no_rows rs (rw (z h) at t))

  -- those of a container
  pub own_rows : (has : Bool) (kind n start used : ℕ) (rs : List Row) → sound_if has (container_sound octets kind n start (take used rs)) ≡ true
      → Absent has (kind ∷ n ∷ start ∷ used ∷ []) → RowsTidy used rs → RowsInside rs
  own_rows has kind n start used rs e a t =
      rows_if has (container_sound octets kind n start (take used rs)) used rs e (rows_fit kind n start (take used rs)) (λ f. (a.are f).1.1.1.0) t

  -- ---- entries

  empty_entry_law : Inside (entry_string empty_entry)
  empty_entry_law = tt

  entry_at : (n : ℕ) (es : List Entry) (rs : List Row) (j : ℕ) → entries_sound octets (take n es) rs ≡ true → entry_tidy (get_or es j empty_entry) → j < n
      → Inside (entry_string (get_or es j empty_entry))
  unfolding entries_sound entry_sound
  entry_at zero es rs j e t k = absurd (omega arith)
  entry_at (suc n) [] rs j e t k = empty_entry_law
  entry_at (suc n) (x ∷ es) rs zero e t k =
      container_inside x.has_parameter x.kind x.n x.start (x.n ∷ x.start ∷ x.rows ∷ []) (take (entry_rows x) rs)
      (both (entry_sound octets x (take (entry_rows x) rs)) (entries_sound octets (take n es) (drop (entry_rows x) rs)) e).0 t.1
  entry_at (suc n) (x ∷ es) rs (suc j) e t k =
      entry_at n es (drop (entry_rows x) rs) j
      (both (entry_sound octets x (take (entry_rows x) rs)) (entries_sound octets (take n es) (drop (entry_rows x) rs)) e).1 t (omega arith)

  abbrev pub EntriesInside : List Entry → Type 0
  EntriesInside es = (j : ℕ) → Inside (entry_string (get_or es j empty_entry))

  pub no_entries_law : (es : List Entry) → EntriesTidy 0 es → EntriesInside es
  no_entries_law es t j = rw (t.rest j (omega arith)) empty_entry_law

  -- an entry's own rows
  entry_fits : (x : Entry) (rs : List Row) → entry_sound octets x (take (entry_rows x) rs) ≡ true → parts_fit octets (take (entry_rows x) rs) ≡ true
  unfolding entry_sound entry_rows parts_fit
  entry_fits x rs e = by x.has_parameter e
    where
      by : (b : Bool) → sound_if b (container_sound octets x.kind x.n x.start (take (pick b x.rows 0) rs)) ≡ true
          → parts_fit octets (take (pick b x.rows 0) rs) ≡ true
      by true e = rows_fit x.kind x.n x.start (take x.rows rs) e
      by false e = refl

  entries_row : (es : List Entry) (rs : List Row) (j : ℕ) → entries_sound octets es rs ≡ true → j < rows_of es → Inside (row_string (get_or rs j empty_row))
  unfolding entries_sound rows_of
  entries_row [] rs j e k = absurd (omega arith)
  entries_row (x ∷ es) rs j e k =
      let p = both (entry_sound octets x (take (entry_rows x) rs)) (entries_sound octets es (drop (entry_rows x) rs)) e in
      by_cases (ltb j (entry_rows x))
      (λ b. row_at (entry_rows x) rs j (entry_fits x rs p.0) (ltb-true j (entry_rows x) b))
      (λ b.
      let i = ltb-false j (entry_rows x) b in
      let z : entry_rows x + (j - entry_rows x) ≡ j = omega (arith, i) in
      subst (λ (r : Row). Inside (row_string r)) (get_or-drop (entry_rows x) rs (j - entry_rows x) empty_row ∙ ap (λ (k : ℕ). get_or rs k empty_row) z)
      (entries_row es (drop (entry_rows x) rs) (j - entry_rows x) p.1 (omega (arith, i))))

  -- n entries with their rows
  module _ (n : ℕ) (es : List Entry) (rs : List Row) (e : entries_sound octets (take n es) rs ≡ true) (t : ListsTidy n es rs) where
    pub list_rows_law : RowsInside rs
    list_rows_law j =
        let used = rows_of (take n es) in
        by_cases (ltb j used) (λ b. entries_row (take n es) rs j e (ltb-true j used b)) (λ b. rw (t.rows.rest j (ltb-false j used b)) empty_row_law)

    pub list_entries : EntriesInside es
    list_entries j =
        by_cases (ltb j n) (λ b. entry_at n es rs j e (t.each j) (ltb-true j n b)) (λ b. rw (t.entries.rest j (ltb-false j n b)) empty_entry_law)

  -- two lists of entries are one
  pub joined : (a b : ℕ) (has : Bool) (es : List Entry) (rs : List Row) → entries_sound octets (take a es) (take (rows_of (take a es)) rs) ≡ true
      → sound_if has (entries_sound octets (take b (drop a es)) (drop (rows_of (take a es)) rs)) ≡ true → (has ≡ false → b ≡ 0)
      → entries_sound octets (take (a + b) es) rs ≡ true
  unfolding entries_sound
  joined a b has es rs e f z =
      let q = entries_sound octets (take b (drop a es)) (drop (rows_of (take a es)) rs) in
      let second : q ≡ true = by_cases has (λ h. if_there has q f h) (λ h. rw (z h)) in
      rw (take-add a b es, sound_append octets (take a es) (take b (drop a es)) rs) (and_true (own_sound octets (take a es) rs ∙ e) second)
