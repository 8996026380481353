-- Each component, from its piece: the tests that the code makes of the number read are the checks of the definitions.
-- Assumes nothing.
use Prim.Native.Nat.{ℕ, suc, ◌+◌, ◌-◌, ◌*◌, ◌/◌, ◌%◌, ◌≤◌, ◌<◌}
use mathlib.Core.Path.{◌≡◌, refl, ap, sym, ◌∙◌}
use mathlib.Core.List.{List, [], ◌∷◌}
use mathlib.Core.Bool.{Bool, true, false, not, ◌||◌}
use native.Mathlib.Nat.{add-zero}
use native.Mathlib.Omega.{arith}
use lib.ListN.{length, get_or, drop}
use lib.Seq.{drop-drop}
use lib.Dec.{ltb, leb, eqb}
use borrow.Author.Tests.{le-ltb, le-leb, lt-leb, eqb-true, eqb-false, ltb-true, ltb-false}
use Rattle.refusals.specs.Check.{pick, Check, check, first_of}
use Rattle.refusals.proofs.Tests.{by_cases}
use Rattle.bits.specs.Bits.{bits, number, field, read_field}
use Rattle.bits.proofs.Laws.{field_lt, field_add}
use Rattle.apdu_format.specs.Limits.{most_counted, deepest}
use Rattle.apdu_format.specs.Component.{Component, choice, lead, integer, fixed, string_form, string_length, string_octets, id_count, list_start, row_count, entry_count, entry, container, class}
use Rattle.apdu_format.specs.Table.{table, layout_of}
use Rattle.apdu_format.specs.Rules.{extensible, shape, begins, is_set, after, known_kind, checks_of, announced}
use Rattle.apdu_format.specs.Reading.{numbers_of, sum, need, fields_of, value_at}
use Rattle.apdu_reading.specs.declared.cursor.Cursor.{Cursor}
use Rattle.apdu_reading.specs.Cursor.{cursor, component, judged_by, piece_of, spent}
use Rattle.apdu_reading.proofs.Pieces.{sees, checks_at, judged_all, spent_by, piece_stopped, piece_cut, piece_read, Good, good, fine, component_is, unspent, judged_none, judged_next, judged_last, judged_as, judged_clean}

-- ---- an octet: its top bit, and the rest

unfoldable pub top : List ℕ → ℕ → ℕ
top s at = number 1 (drop at (bits s))

unfoldable pub rest : List ℕ → ℕ → ℕ
rest s at = number 7 (drop 1 (drop at (bits s)))

pub octet : (s : List ℕ) (at : ℕ) → read_field s at 8 ≡ top s at * 128 + rest s at
unfolding read_field field top rest
octet s at = field_add s at 1 7 ∙ rw (drop-drop 1 at (bits s))

pub top_lt : (s : List ℕ) (at : ℕ) → top s at < 2
unfolding field top
top_lt s at = field_lt s at 1

pub rest_lt : (s : List ℕ) (at : ℕ) → rest s at < 128
unfolding field rest
rest_lt s at = rw (drop-drop 1 at (bits s)) (field_lt s (at + 1) 7)

-- what a piece without a fault is
pub piece_good : (s : List ℕ) (w : ℕ) (b : Bool) (c : Cursor) → (piece_of s w b c).fault ≡ 0
    → (c.fault ≡ 0) × (c.at + w ≤ 8 * length s) × (piece_of s w b c ≡ cursor (c.at + w) (pick b c.at c.begun) c.room 0 0 (read_field s c.at w) 0)
piece_good s w b c h =
    by_cases (eqb c.fault 0)
    (λ p. by_cases (ltb (8 * length s) (c.at + w))
    (λ q. let e : ◌≡◌ {A = ℕ} 13 0 = ap (λ (d : Cursor). d.fault) (piece_cut s w b c (eqb-true _ _ p) (ltb-true _ _ q)) ∙ h in absurd (omega arith))
    (λ q. (eqb-true _ _ p, ltb-false _ _ q, piece_read s w b c (eqb-true _ _ p) (ltb-false _ _ q))))
    (λ p. absurd (eqb-false _ _ p (ap (λ (d : Cursor). d.fault) (piece_stopped s w b c (eqb-false _ _ p)) ∙ h)))

piece_value : (s : List ℕ) (w : ℕ) (b : Bool) (c : Cursor) → (piece_of s w b c).fault ≡ 0 → (piece_of s w b c).value ≡ read_field s c.at w
piece_value s w b c h = ap (λ (d : Cursor). d.value) (piece_good s w b c h).2

-- ---- components of an extension bit and a number

top_test : (s : List ℕ) (at v : ℕ) → v ≡ read_field s at 8 → leb 128 v ≡ eqb (top s at) 1
top_test s at v e =
    let o = octet s at in
    let l = top_lt s at in
    let r = rest_lt s at in
    by_cases (eqb (top s at) 1)
    (λ p. let t : top s at ≡ 1 = eqb-true _ _ p in let k : 128 ≤ v = omega arith in rw (p, le-leb _ _ k))
    (λ p. let t : top s at ≡ 1 → ⊥ = eqb-false (top s at) 1 p in let k : v < 128 = omega arith in rw (p, lt-leb _ _ k))

pub numbers_are : (s : List ℕ) (i : Component) (c : Cursor) → shape i ≡ extensible → numbers_of (sees s i c) ≡ top s c.at ∷ rest s c.at ∷ []
unfolding value_at numbers_of fields_of top rest
numbers_are s i c e = rw e

integer_judged : (s : List ℕ) (c : Cursor) → judged_all c (check 16 (eqb (top s c.at) 1) ∷ []) (piece_of s 8 true c) ≡ component s integer c
unfolding shape need sum begins checks_of announced
integer_judged s c = rw (numbers_are s integer c refl) at (unspent s integer c refl)

pub integer_is : (s : List ℕ) (c : Cursor) {p : Cursor} → p ≡ piece_of s 8 true c → judged_by c 16 (leb 128 p.value) p ≡ component s integer c
integer_is s c {p} e =
    rw e
    (judged_as c 16 (leb 128 (piece_of s 8 true c).value) (eqb (top s c.at) 1) (piece_of s 8 true c) (λ h. top_test s c.at _ (piece_value s 8 true c h))
    ∙ sym (judged_last c 15 (eqb (top s c.at) 1) (piece_of s 8 true c))
    ∙ integer_judged s c)

-- the number of an integer that was read
pub record Read (s : List ℕ) (c d : Cursor) : Type 0 where
  pub clean : c.fault ≡ 0
  pub there : c.at + 8 ≤ 8 * length s
  pub bit : top s c.at ≡ 0
  pub value : d.value ≡ rest s c.at
  pub is : d ≡ cursor (c.at + 8) c.at c.room 0 0 (rest s c.at) 0

-- a check that does not refuse
unchecked : (b : Bool) (n : ℕ) → ◌≡◌ {A = ℕ} (pick b (suc n) 0) 0 → b ≡ false
unchecked true n h = absurd (omega arith)
unchecked false n h = refl

integer_checked : (s : List ℕ) (c : Cursor) → Good s integer c → ◌≡◌ {A = ℕ} (pick (eqb (top s c.at) 1) 16 0) 0
unfolding shape checks_of first_of
integer_checked s c g = rw (numbers_are s integer c refl) at g.right

integer_there : (s : List ℕ) (c : Cursor) → Good s integer c → c.at + 8 ≤ 8 * length s
unfolding shape need sum
integer_there s c g = g.there

integer_fine : (s : List ℕ) (c : Cursor) → Good s integer c → component s integer c ≡ cursor (c.at + 8) c.at c.room 0 0 (read_field s c.at 8) 0
unfolding shape need sum begins announced
integer_fine s c g = let z : c.room - 0 ≡ c.room = omega arith in rw z at (fine s integer c g.clean g.there g.right)

pub integer_read : (s : List ℕ) (c : Cursor) {d : Cursor} → d ≡ component s integer c → d.fault ≡ 0 → Read s c d
integer_read s c {d} e h =
    let g = good s integer c (sym (ap (λ (q : Cursor). q.fault) e) ∙ h) in
    let t : eqb (top s c.at) 1 ≡ false = unchecked (eqb (top s c.at) 1) 15 (integer_checked s c g) in
    let o = octet s c.at in
    let l = top_lt s c.at in
    let u : top s c.at ≡ 1 → ⊥ = eqb-false (top s c.at) 1 t in
    let z : top s c.at ≡ 0 = omega arith in
    let v : read_field s c.at 8 ≡ rest s c.at = omega arith in
    let i : d ≡ cursor (c.at + 8) c.at c.room 0 0 (rest s c.at) 0 = e ∙ integer_fine s c g ∙ rw v in
    record { clean = g.clean; there = integer_there s c g; bit = z; value = ap (λ (q : Cursor). q.value) i; is = i }

-- a component with an extension bit whose other checks are ts
pub record Extended (i : Component) (ts : ℕ → ℕ → List Check) : Type 0 where
  pub small : shape i ≡ extensible
  pub first : begins i ≡ true
  pub form : (room x y : ℕ) → checks_of i room (x ∷ y ∷ []) ≡ check 16 (eqb x 1) ∷ ts room y

module _ {i : Component} {ts : ℕ → ℕ → List Check} (k : Extended i ts) (s : List ℕ) (c : Cursor) {d : Cursor} (e : d ≡ component s integer c) where
  checks_are : checks_at s i c ≡ check 16 (eqb (top s c.at) 1) ∷ ts c.room (rest s c.at)
  checks_are = rw (numbers_are s i c k.small) (k.form c.room (top s c.at) (rest s c.at))

  piece_same : piece_of s (need (shape i)) (begins i) c ≡ piece_of s 8 true c
  unfolding need sum
  piece_same = rw (k.small, k.first)

  integer_same : judged_by c 16 (eqb (top s c.at) 1) (piece_of s 8 true c) ≡ d
  integer_same =
      sym (judged_as c 16 (leb 128 (piece_of s 8 true c).value) (eqb (top s c.at) 1) (piece_of s 8 true c) (λ h. top_test s c.at _ (piece_value s 8 true c h)))
      ∙ integer_is s c refl ∙ sym e

  -- it is an integer, judged by them
  pub extended_is : judged_all c (ts c.room (rest s c.at)) d ≡ judged_all c (checks_at s i c) (piece_of s (need (shape i)) (begins i) c)
  extended_is =
      sym
      (rw (checks_are, piece_same)
      (judged_next c 15 (eqb (top s c.at) 1) (ts c.room (rest s c.at)) (piece_of s 8 true c) ∙ ap (judged_all c (ts c.room (rest s c.at))) integer_same))

  pub value_of : d.fault ≡ 0 → d.value ≡ rest s c.at
  value_of h = (integer_read s c e h).value

-- ---- counts and container kinds

pub count_extended : Extended id_count (λ room v. check 18 (ltb most_counted v) ∷ [])
unfolding shape begins checks_of
count_extended = record { small = refl; first = refl; form = λ room x y. refl }

pub entries_extended : Extended entry_count (λ room v. check 18 (ltb most_counted v) ∷ [])
unfolding shape begins checks_of
entries_extended = record { small = refl; first = refl; form = λ room x y. refl }

pub rows_extended : (k : ℕ) → Extended (row_count k) (λ room v. check 18 (ltb most_counted v || ltb room v) ∷ [])
unfolding shape begins checks_of
rows_extended k = record { small = refl; first = refl; form = λ room x y. refl }

pub kind_extended : (k : ℕ) → Extended (container k) (λ room v. check 19 (ltb deepest k) ∷ check 17 (not (known_kind v)) ∷ [])
unfolding shape begins checks_of
kind_extended k = record { small = refl; first = refl; form = λ room x y. refl }

module _ (s : List ℕ) (c : Cursor) {d : Cursor} (e : d ≡ component s integer c) where
  pub id_count_is : judged_by c 18 (ltb most_counted d.value) d ≡ component s id_count c
  unfolding announced
  id_count_is =
      judged_as c 18 (ltb most_counted d.value) (ltb most_counted (rest s c.at)) d (λ h. ap (ltb most_counted) (integer_read s c e h).value)
      ∙ sym (judged_last c 17 (ltb most_counted (rest s c.at)) d) ∙ extended_is count_extended s c e ∙ unspent s id_count c refl

  pub entry_count_is : judged_by c 18 (ltb most_counted d.value) d ≡ component s entry_count c
  unfolding announced
  entry_count_is =
      judged_as c 18 (ltb most_counted d.value) (ltb most_counted (rest s c.at)) d (λ h. ap (ltb most_counted) (integer_read s c e h).value)
      ∙ sym (judged_last c 17 (ltb most_counted (rest s c.at)) d) ∙ extended_is entries_extended s c e ∙ unspent s entry_count c refl

  -- what a count of rows announces is spent
  rows_spent : (room n : ℕ) → n ≡ rest s c.at → (f : Cursor) → (f.fault ≡ 0 → (f.value ≡ n) × (f.value ≤ f.room)) → spent f ≡ spent_by n f
  unfolding spent spent_by
  rows_spent room n q f h =
      by_cases (eqb f.fault 0)
      (λ p. let k = h (eqb-true _ _ p) in let z : f.fault ≡ 0 = eqb-true _ _ p in let l : ltb f.room f.value ≡ false = le-ltb _ _ k.1 in let v : f.value ≡ n = k.0 in rw (p, l, v, z))
      (λ p. rw p)

  few : (a b : Bool) → (a || b) ≡ false → b ≡ false
  few true b h = absurd (let y : ◌≡◌ {A = ℕ} 0 1 = cc in omega arith)
  few false b h = h

  pub row_count_is : (k : ℕ) → spent (judged_by c 18 (ltb most_counted d.value || ltb c.room d.value) d) ≡ component s (row_count k) c
  unfolding announced
  row_count_is k =
      let n = rest s c.at in
      let t = ltb most_counted n || ltb c.room n in
      let j : judged_by c 18 (ltb most_counted d.value || ltb c.room d.value) d ≡ judged_by c 18 t d =
      judged_as c 18 (ltb most_counted d.value || ltb c.room d.value) t d (λ h. ap (λ (v : ℕ). ltb most_counted v || ltb c.room v) (integer_read s c e h).value) in
      ap spent j
      ∙ rows_spent c.room n refl (judged_by c 18 t d)
      (λ h.
      let q = judged_clean c 17 t d h in
      let r = integer_read s c e q.2 in
      let w : n ≤ c.room = ltb-false c.room n (few (ltb most_counted n) (ltb c.room n) q.1) in
      rw (q.0, r.is) (refl, w))
      ∙ ap (spent_by n) (sym (judged_last c 17 t d) ∙ extended_is (rows_extended k) s c e)
      ∙ ap (λ (fs : List ℕ). spent_by (after fs) (judged_all c (checks_at s (row_count k) c) (piece_of s (need (shape (row_count k))) (begins (row_count k)) c)))
      (sym (numbers_are s (row_count k) c (rows_extended k).small))
      ∙ component_is s (row_count k) c

  pub kind_is : (k : ℕ) {f : Cursor} → f ≡ judged_by c 19 (ltb deepest k) d → judged_by c 17 (not (known_kind f.value)) f ≡ component s (container k) c
  unfolding announced
  kind_is k {f} g =
      let n = rest s c.at in
      judged_as c 17 (not (known_kind f.value)) (not (known_kind n)) f
      (λ h.
      let q = judged_clean c 18 (ltb deepest k) d (sym (ap (λ (x : Cursor). x.fault) g) ∙ h) in
      let v : f.value ≡ n = ap (λ (x : Cursor). x.value) (g ∙ q.0) ∙ (integer_read s c e q.2).value in
      ap (λ (v : ℕ). not (known_kind v)) v)
      ∙ ap (judged_by c 17 (not (known_kind n))) g
      ∙ sym (judged_last c 16 (not (known_kind n)) (judged_by c 19 (ltb deepest k) d))
      ∙ sym (judged_next c 18 (ltb deepest k) (check 17 (not (known_kind n)) ∷ []) d)
      ∙ extended_is (kind_extended k) s c e ∙ unspent s (container k) c refl

-- ---- components without a check

module _ (s : List ℕ) (c : Cursor) where
  pub length_is : piece_of s 7 false c ≡ component s string_length c
  unfolding shape need sum begins checks_of announced
  length_is = sym (judged_none c (piece_of s 7 false c)) ∙ unspent s string_length c refl

  pub octets_is : (n : ℕ) → piece_of s (8 * n) false c ≡ component s (string_octets n) c
  unfolding shape need begins checks_of announced
  octets_is n = sym (judged_none c (piece_of s (8 * n) false c)) ∙ unspent s (string_octets n) c refl

  pub start_is : piece_of s 0 false c ≡ component s list_start c
  unfolding shape need begins checks_of announced
  start_is = sym (judged_none c (piece_of s 0 false c)) ∙ unspent s list_start c refl

  pub class_is_law : piece_of s 16 true c ≡ component s class c
  unfolding shape need sum begins checks_of announced
  class_is_law = sym (judged_none c (piece_of s 16 true c)) ∙ unspent s class c refl

  pub fixed_is : (n : ℕ) → piece_of s (8 * n) true c ≡ component s (fixed n) c
  unfolding shape need sum begins checks_of announced
  fixed_is n = sym (judged_none c (piece_of s (8 * n) true c)) ∙ rw add-zero at (unspent s (fixed n) c refl)

  pub lead_is : (k w : ℕ) → sum (layout_of k).after ≡ w → piece_of s w false c ≡ component s (lead k) c
  unfolding shape need begins checks_of announced
  lead_is k w e = sym (judged_none c (piece_of s w false c)) ∙ rw e at (unspent s (lead k) c refl)

-- ---- the extension bit of a string, an entry's octet, the choice

one_bit : (s : List ℕ) (at v : ℕ) → v ≡ read_field s at 1 → eqb v 1 ≡ is_set (number 1 (drop at (bits s)) ∷ []) 0
unfolding read_field field
one_bit s at v e = rw e

pub form_is : (s : List ℕ) (c : Cursor) {p : Cursor} → p ≡ piece_of s 1 true c → judged_by c 16 (eqb p.value 1) p ≡ component s string_form c
unfolding shape need sum begins checks_of announced value_at numbers_of fields_of
form_is s c {p} e =
    rw e
    (judged_as c 16 (eqb (piece_of s 1 true c).value 1) (is_set (number 1 (drop c.at (bits s)) ∷ []) 0) (piece_of s 1 true c) (λ h. one_bit s c.at _ (piece_value s 1 true c h))
    ∙ sym (judged_last c 15 (is_set (number 1 (drop c.at (bits s)) ∷ []) 0) (piece_of s 1 true c))
    ∙ unspent s string_form c refl)

choice_test : (s : List ℕ) (at v : ℕ) → v ≡ read_field s at 4 → leb 10 v ≡ leb (length table) (get_or (number 4 (drop at (bits s)) ∷ []) 0 0)
unfolding read_field field
choice_test s at v e = rw e

pub choice_is : (s : List ℕ) (c : Cursor) {p : Cursor} → p ≡ piece_of s 4 true c → judged_by c 15 (leb 10 p.value) p ≡ component s choice c
unfolding shape need sum begins checks_of announced value_at numbers_of fields_of
choice_is s c {p} e =
    rw e
    (judged_as c 15 (leb 10 (piece_of s 4 true c).value) (leb (length table) (get_or (number 4 (drop c.at (bits s)) ∷ []) 0 0)) (piece_of s 4 true c)
    (λ h. choice_test s c.at _ (piece_value s 4 true c h))
    ∙ sym (judged_last c 14 (leb (length table) (get_or (number 4 (drop c.at (bits s)) ∷ []) 0 0)) (piece_of s 4 true c))
    ∙ unspent s choice c refl)

-- an octet of bits 1, 1, 1 and 5
pub entry_bits : (s : List ℕ) (at v : ℕ) → v ≡ read_field s at 8 → fields_of (1 ∷ 1 ∷ 1 ∷ 5 ∷ []) (drop at (bits s)) ≡ v / 128 ∷ v / 64 % 2 ∷ v / 32 % 2 ∷ v % 32 ∷ []
unfolding read_field field fields_of
entry_bits s at v e =
    let l = drop at (bits s) in
    let a : v ≡ field s at 1 * 128 + field s (at + 1) 7 = e ∙ field_add s at 1 7 in
    let b : field s (at + 1) 7 ≡ field s (at + 1) 1 * 64 + field s (at + 1 + 1) 6 = field_add s (at + 1) 1 6 in
    let d : field s (at + 1 + 1) 6 ≡ field s (at + 1 + 1) 1 * 32 + field s (at + 1 + 1 + 1) 5 = field_add s (at + 1 + 1) 1 5 in
    let x0 = field_lt s at 1 in
    let x1 = field_lt s (at + 1) 1 in
    let x2 = field_lt s (at + 1 + 1) 1 in
    let x3 = field_lt s (at + 1 + 1 + 1) 5 in
    let y0 : field s at 1 ≡ v / 128 = omega arith in
    let y1 : field s (at + 1) 1 ≡ v / 64 % 2 = omega arith in
    let y2 : field s (at + 1 + 1) 1 ≡ v / 32 % 2 = omega arith in
    let y3 : field s (at + 1 + 1 + 1) 5 ≡ v % 32 = omega arith in
    rw (drop-drop 1 at (bits s), drop-drop 1 (at + 1) (bits s), drop-drop 1 (at + 1 + 1) (bits s), y0, y1, y2, y3)

pub entry_is : (s : List ℕ) (c : Cursor) {p : Cursor} → p ≡ piece_of s 8 true c → judged_by c 16 (eqb (p.value / 32 % 2) 1) p ≡ component s entry c
unfolding shape need sum begins checks_of announced value_at numbers_of
entry_is s c {p} e =
    let v = read_field s c.at 8 in
    rw e
    (judged_as c 16 (eqb ((piece_of s 8 true c).value / 32 % 2) 1) (eqb (v / 32 % 2) 1) (piece_of s 8 true c) (λ h. ap (λ (v : ℕ). eqb (v / 32 % 2) 1) (piece_value s 8 true c h))
    ∙ sym (judged_last c 15 (eqb (v / 32 % 2) 1) (piece_of s 8 true c))
    ∙ rw (entry_bits s c.at v refl) at (unspent s entry c refl))
