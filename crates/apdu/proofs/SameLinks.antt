-- BST and VST: records with the same values are the same, and so are their entries and rows.
-- Assumes nothing.
use Prim.Native.Nat.{ℕ, ◌+◌, ◌≤◌}
use mathlib.Core.Path.{◌≡◌, refl, ap, sym, ◌∙◌}
use mathlib.Core.Bool.{Bool, true, false, ◌&&◌}
use mathlib.Core.List.{List, [], ◌∷◌, ◌++◌}
use native.Mathlib.Omega.{arith}
use lib.ListN.{length, take, drop, length-drop}
use lib.Seq.{take-add}
use Rattle.bits.specs.Strings.{is_inside}
use Rattle.apdu_format.specs.Reading.{Value, fields}
use Rattle.apdu_format.proofs.Tests.{never, both}
use Rattle.apdu.specs.declared.lists.Row.{Row}
use Rattle.apdu.specs.declared.lists.Entry.{Entry}
use Rattle.apdu.specs.declared.records.Bst.{Bst}
use Rattle.apdu.specs.declared.records.Vst.{Vst}
use Rattle.apdu.specs.Values.{bit_of, if, id_list, list_values, rows_of, bst_values, vst_values, empty_row, empty_entry}
use Rattle.apdu.specs.Tidy.{Absent, row_tidy, entry_tidy, bst_tidy, vst_tidy, ListsTidy}
use Rattle.apdu.specs.Sound.{sound_if, count_if, entries_sound, bst_sound, vst_sound}
use Rattle.apdu.proofs.Laws.{own_sound, rows_of_append}
use Rattle.apdu.proofs.SameFields.{bit_same, ids_given}
use Rattle.apdu.proofs.SameRows.{each_behind, empty_row_law}
use Rattle.apdu.proofs.SameEntries.{empty_entry_law, applications_same, applications_if_same, lists_same}

-- a message with what stands beside it
pub record MessageSame {A : Type 0} (m k : A) (es fs : List Entry) (rs qs : List Row) : Type 0 where
  pub message : m ≡ k
  pub entries : es ≡ fs
  pub rows : rs ≡ qs

status_same : (p q : Bool) (a b : ℕ) → p ≡ q → Absent p (a ∷ []) → Absent q (b ∷ []) → (if p (fields (a ∷ []) ∷ []) ++ []) ≡ (if q (fields (b ∷ []) ∷ []) ++ []) → a ≡ b
status_same true true a b e x y h = cc
status_same true false a b e x y h = never (sym e)
status_same false true a b e x y h = never e
status_same false false a b e x y h = (x.are refl).0 ∙ sym (y.are refl).0

-- the rows of a BST
abbrev present : Bst → List Entry → ℕ
present m es = rows_of (take m.mandatory es) + count_if m.has_others (rows_of (take m.others (drop m.mandatory es)))

-- the rows of two lists of entries, one behind the other
two_lists : (a b : ℕ) (es : List Entry) (rs : List Row)
    → take (rows_of (take (a + b) es)) rs ≡ take (rows_of (take a es)) rs ++ take (rows_of (take b (drop a es))) (drop (rows_of (take a es)) rs)
two_lists a b es rs =
    ap (λ (l : List Entry). take (rows_of l) rs) (take-add a b es) ∙ ap (λ (n : ℕ). take n rs) (rows_of_append (take a es) (take b (drop a es)))
    ∙ take-add (rows_of (take a es)) (rows_of (take b (drop a es))) rs

module _ (s : List ℕ) (es fs : List Entry) (rs qs : List Row) (l : length es ≡ length fs) (k : length rs ≡ length qs) where
  pub vst_same : (m n : Vst) → vst_tidy m → vst_tidy n → ListsTidy m.applications es rs → ListsTidy n.applications fs qs
      → rows_of (take m.applications es) ≤ length rs → rows_of (take n.applications fs) ≤ length qs
      → vst_sound (length s) m es rs ≡ true → vst_sound (length s) n fs qs ≡ true → vst_values s m es rs ≡ vst_values s n fs qs → MessageSame m n es fs rs qs
  unfolding vst_values vst_sound
  vst_same m n t u v w i j c d h =
      let a : m.fill ≡ n.fill = cc in
      let p : m.profile ≡ n.profile = cc in
      let class_of : Vst → List Value = λ x. fields (bit_of x.has_status ∷ x.class ∷ []) ∷ fields (x.maker ∷ []) ∷ if x.has_status (fields (x.status ∷ []) ∷ []) in
      let g : (list_values s m.applications (take m.applications es) rs ++ (class_of m ++ [])) ≡ (list_values s n.applications (take n.applications fs) qs ++ (class_of n ++ [])) = cc in
      let x = applications_same s (length s) m.applications es rs n.applications fs qs (class_of m ++ []) (class_of n ++ []) l v.each w.each v.rows.each w.rows.each i j c d g in
      let y : (class_of m ++ []) ≡ (class_of n ++ []) = x.behind in
      let b = bit_same m.has_status n.has_status cc in
      let e : m.class ≡ n.class = cc in
      let f : m.maker ≡ n.maker = cc in
      let z = status_same m.has_status n.has_status m.status n.status b t u cc in
      let o = lists_same m.applications n.applications es fs rs qs x.count l k v w x.entries x.rows in
      record {
        message = λ r. record { fill = a r; profile = p r; applications = x.count r; class = e r; maker = f r; has_status = b r; status = z r };
        entries = o.0;
        rows = o.1;
      }

  pub bst_same : (m n : Bst) → bst_tidy m → bst_tidy n → ListsTidy (m.mandatory + m.others) es rs → ListsTidy (n.mandatory + n.others) fs qs
      → present m es ≤ length rs → present n fs ≤ length qs
      → bst_sound (length s) m es rs ≡ true → bst_sound (length s) n fs qs ≡ true → bst_values s m es rs ≡ bst_values s n fs qs → MessageSame m n es fs rs qs
  unfolding bst_values bst_sound
  bst_same m n t u v w i j c d h =
      let p = bit_same m.has_others n.has_others cc in
      let a : m.manufacturer ≡ n.manufacturer = cc in
      let b : m.individual ≡ n.individual = cc in
      let e : m.time ≡ n.time = cc in
      let f : m.profile ≡ n.profile = cc in
      let ids : Bst → List Value = λ x. id_list s x.profiles x.profile_count ++ [] in
      let second : Bst → List Entry → List Row → List Value = λ x l r. if x.has_others (list_values s x.others (take x.others (drop x.mandatory l)) (drop (rows_of (take x.mandatory l)) r)) in
      let g : (list_values s m.mandatory (take m.mandatory es) rs ++ (second m es rs ++ ids m)) ≡ (list_values s n.mandatory (take n.mandatory fs) qs ++ (second n fs qs ++ ids n)) = cc in
      let c' = parts m es rs c in
      let d' = parts n fs qs d in
      let x = applications_same s (length s) m.mandatory es rs n.mandatory fs qs (second m es rs ++ ids m) (second n fs qs ++ ids n) l v.each w.each v.rows.each w.rows.each
      (omega arith) (omega arith) c'.0 d'.0 g in
      let y = applications_if_same s (length s) m.others (drop m.mandatory es) (drop (rows_of (take m.mandatory es)) rs) n.others (drop n.mandatory fs) (drop (rows_of (take n.mandatory fs)) qs)
      (ids m) (ids n) (omega (arith, length-drop m.mandatory es, length-drop n.mandatory fs, x.count, l))
      (each_behind entry_tidy empty_entry empty_entry_law m.mandatory es v.each) (each_behind entry_tidy empty_entry empty_entry_law n.mandatory fs w.each)
      (each_behind row_tidy empty_row empty_row_law (rows_of (take m.mandatory es)) rs v.rows.each) (each_behind row_tidy empty_row empty_row_law (rows_of (take n.mandatory fs)) qs w.rows.each)
      m.has_others n.has_others p t u
      (omega (arith, length-drop (rows_of (take m.mandatory es)) rs)) (omega (arith, length-drop (rows_of (take n.mandatory fs)) qs)) c'.1 d'.1 x.behind in
      let z = ids_given s m.profiles m.profile_count n.profiles n.profile_count [] [] y.behind in
      let o = lists_same (m.mandatory + m.others) (n.mandatory + n.others) es fs rs qs (λ r. x.count r + y.count r) l k v w
      (take-add m.mandatory m.others es ∙ (λ r. x.entries r ++ y.entries r) ∙ sym (take-add n.mandatory n.others fs))
      (two_lists m.mandatory m.others es rs ∙ (λ r. x.rows r ++ y.rows r) ∙ sym (two_lists n.mandatory n.others fs qs)) in
      record {
        message = λ r.
            record {
              manufacturer = a r;
              individual = b r;
              time = e r;
              profile = f r;
              mandatory = x.count r;
              has_others = p r;
              others = y.count r;
              profiles = z.place r;
              profile_count = z.long r;
            };
        entries = o.0;
        rows = o.1;
      }
    where
      parts : (m : Bst) (es : List Entry) (rs : List Row) → bst_sound (length s) m es rs ≡ true
          → (entries_sound (length s) (take m.mandatory es) rs ≡ true)
          × (sound_if m.has_others (entries_sound (length s) (take m.others (drop m.mandatory es)) (drop (rows_of (take m.mandatory es)) rs)) ≡ true)
      parts m es rs c =
          let first = take m.mandatory es in
          let second = sound_if m.has_others (entries_sound (length s) (take m.others (drop m.mandatory es)) (drop (rows_of first) rs)) in
          let inside = is_inside (length s) m.profiles m.profile_count in
          let x = both (entries_sound (length s) first (take (rows_of first) rs)) (second && inside) c in
          (own_sound (length s) first rs ∙ x.0, (both second inside x.1).0)
