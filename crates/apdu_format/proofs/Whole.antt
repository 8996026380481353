-- A message takes whole octets: the pieces of each of 01's components do together.
-- Assumes nothing.
use Prim.Native.Nat.{ℕ, zero, suc, ◌+◌, ◌*◌, ◌/◌, ◌%◌, ◌≤◌}
use mathlib.Core.Path.{◌≡◌, refl}
use mathlib.Core.List.{List, [], ◌∷◌, ◌++◌}
use mathlib.Core.Bool.{Bool, true, false, ◌&&◌}
use native.Mathlib.Omega.{arith}
use lib.ListN.{length, get_or, length-append}
use lib.Dec.{eqb}
use borrow.Author.Tests.{eqb-true}
use Rattle.bits.specs.Bits.{Bits}
use Rattle.bits.proofs.Laws.{below_nil, below_append}
use Rattle.refusals.specs.Check.{first_of}
use Rattle.apdu_format.specs.Component.{Component, choice, lead, integer, fixed, string_form, string_length, string_octets, id_count, list_start, row_count, entry_count, entry, container, class}
use Rattle.apdu_format.specs.Table.{Part, always, given, Layout, layout, table, layout_of}
use Rattle.apdu_format.specs.Rules.{shape, checks_of, brings, present, times, when, is_set, after}
use Rattle.apdu_format.specs.Reading.{Value, numbers_of, sum, need, through, levels}
use Rattle.apdu_format.specs.Writing.{bits_of, fits, is_value, Pen, PenStep, put_value, put_first, put, puts, pen, written, encode, size}
use Rattle.refusals.proofs.Tests.{by_test}
use Rattle.apdu_format.proofs.Tests.{both, never}
use Rattle.apdu_format.proofs.Values.{length_value, small_value}
use Rattle.apdu_format.proofs.Rereading.{puts_ok}
use Rattle.apdu_format.proofs.Levels.{height, height_pos, Low, by_content, brings_low}

-- the bits of its octet that stand before a piece
owed : Component → ℕ
owed choice = 0
owed (lead k) = 4
owed integer = 0
owed (fixed n) = 0
owed string_form = 0
owed string_length = 1
owed (string_octets n) = 0
owed id_count = 0
owed list_start = 0
owed (row_count d) = 0
owed entry_count = 0
owed entry = 0
owed (container d) = 0
owed class = 0

owing : List Component → ℕ
owing [] = 0
owing (i ∷ is) = owed i + owing is

owing_append : (is js : List Component) → owing (is ++ js) ≡ owing is + owing js
unfolding owing
owing_append [] js = omega arith
owing_append (i ∷ is) js = let h = owing_append is js in omega arith

owing_times : (n : ℕ) (is : List Component) → owing is ≡ 0 → owing (times n is) ≡ 0
unfolding times owing
owing_times zero is h = refl
owing_times (suc n) is h = let a = owing_append is (times n is) in let b = owing_times n is h in omega arith

owing_when : (p : Bool) (is : List Component) → owing is ≡ 0 → owing (when p is) ≡ 0
unfolding owing
owing_when true is h = h
owing_when false is h = refl

-- two lists that owe nothing
owing_both : (is js : List Component) → owing is ≡ 0 → owing js ≡ 0 → owing (is ++ js) ≡ 0
owing_both is js h k = let a = owing_append is js in omega arith

-- ---- the table, line by line

free_part : Part → Bool
free_part (always i) = eqb (owed i) 0
free_part (given n i) = eqb (owed i) 0

free_parts : List Part → Bool
free_parts [] = true
free_parts (p ∷ ps) = free_part p && free_parts ps

whole_line : Layout → Bool
whole_line y = eqb ((sum y.after + 4) % 8) 0 && free_parts y.body

whole_lines : List Layout → Bool
whole_lines [] = true
whole_lines (y ∷ ys) = whole_line y && whole_lines ys

whole_line_law : (ys : List Layout) (k : ℕ) → whole_lines ys ≡ true → whole_line (get_or ys k (layout (4 ∷ []) [])) ≡ true
unfolding whole_lines
whole_line_law [] k h = unfold whole_line free_parts sum in refl
whole_line_law (y ∷ ys) zero h = (both (whole_line y) (whole_lines ys) h).0
whole_line_law (y ∷ ys) (suc k) h = whole_line_law ys k (both (whole_line y) (whole_lines ys) h).1

whole_layout : (k : ℕ) → whole_line (layout_of k) ≡ true
unfolding layout_of
whole_layout k = whole_line_law table k (unfold whole_lines whole_line sum free_parts free_part owed in refl)

owing_present : (fs : List ℕ) (ps : List Part) → free_parts ps ≡ true → owing (present fs ps) ≡ 0
unfolding present free_parts free_part owing
owing_present fs [] h = refl
owing_present fs (always i ∷ ps) h =
    let q = both (eqb (owed i) 0) (free_parts ps) h in
    let a = eqb-true (owed i) 0 q.0 in
    let b = owing_present fs ps q.1 in
    omega arith
owing_present fs (given n i ∷ ps) h =
    let q = both (eqb (owed i) 0) (free_parts ps) h in
    let a = eqb-true (owed i) 0 q.0 in
    owing_both (when (is_set fs n) (i ∷ [])) (present fs ps) (owing_when (is_set fs n) (i ∷ []) (omega arith)) (owing_present fs ps q.1)

-- ---- one component

-- with the bits before it, a component takes whole octets and what it brings still owes
record Octets (i : Component) (fs : List ℕ) : Type 0 where
  n : ℕ
  is : need (shape i) + owed i ≡ 8 * n + owing (brings i fs)

octets_given : (i : Component) (fs : List ℕ) → Octets i fs
unfolding brings shape need sum owed owing
octets_given choice fs = record { n = 0; is = omega arith }
octets_given (lead k) fs =
    let q = both (eqb ((sum (layout_of k).after + 4) % 8) 0) (free_parts (layout_of k).body) (unfold whole_line in whole_layout k) in
    let a = eqb-true ((sum (layout_of k).after + 4) % 8) 0 q.0 in
    let b = owing_present fs (layout_of k).body q.1 in
    record { n = (sum (layout_of k).after + 4) / 8; is = omega arith }
octets_given integer fs = record { n = 1; is = omega arith }
octets_given (fixed n) fs = record { n = n; is = omega arith }
octets_given string_form fs = record { n = 0; is = omega arith }
octets_given string_length fs = record { n = 1; is = omega arith }
octets_given (string_octets n) fs = record { n = n; is = omega arith }
octets_given id_count fs = let a = owing_times (after fs) (integer ∷ []) refl in record { n = 1; is = omega arith }
octets_given list_start fs = record { n = 0; is = omega arith }
octets_given (row_count d) fs = let a = owing_times (after fs) (integer ∷ container d ∷ []) refl in record { n = 1; is = omega arith }
octets_given entry_count fs = let a = owing_times (after fs) (entry ∷ []) refl in record { n = 1; is = omega arith }
octets_given entry fs =
    let a = owing_both (when (is_set fs 0) (integer ∷ [])) (when (is_set fs 1) (container 1 ∷ [])) (owing_when (is_set fs 0) (integer ∷ []) refl) (owing_when (is_set fs 1) (container 1 ∷ []) refl) in
    record { n = 1; is = omega arith }
octets_given (container d) fs = let a = by_content (λ (is : List Component). owing is ≡ 0) d (after fs) refl refl refl refl refl in record { n = 1; is = omega arith }
octets_given class fs = let a = owing_when (is_set fs 0) (fixed 2 ∷ []) refl in record { n = 2; is = omega arith }

-- ---- a message

-- from p to q whole octets were written, but for what was owed before
record Wrote (is : List Component) (p q : Pen) : Type 0 where
  n : ℕ
  so : length q.out + owing is ≡ length p.out + 8 * n
  small : Bits p.out → Bits q.out

record PutWhole (i : Component) (p : Pen) (t : PenStep) (l : ℕ) : Type 0 where
  n : ℕ
  so : length t.pen.out + owed i ≡ length p.out + 8 * n + owing t.more
  low : Low l t.more
  small : Bits p.out → Bits t.pen.out

put_whole : (l : ℕ) (i : Component) (left : List Value) (room : ℕ) (ok : Bool) (out : List ℕ) → height i ≤ suc l
    → (put i (record { left = left; room = room; ok = ok; out = out })).pen.ok ≡ true
    → PutWhole i (record { left = left; room = room; ok = ok; out = out }) (put i (record { left = left; room = room; ok = ok; out = out })) l
unfolding put put_first put_value is_value
put_whole l i left room false out low = λ h. never h
put_whole l i [] room true out low = λ h. never h
put_whole l i (v ∷ vs) room true out low =
    by_test (λ (t : PenStep). t.pen.ok ≡ true → PutWhole i (record { left = v ∷ vs; room = room; ok = true; out = out }) t l) (is_value i room v)
    (λ e h.
    let q = both (fits (shape i) v) (eqb (first_of (checks_of i room (numbers_of v))) 0) e in
    let o = octets_given i (numbers_of v) in
    let m = length_value (shape i) v q.0 in
    record {
      n = o.n;
      so = omega (arith, length-append out (bits_of (shape i) v), o.is);
      low = brings_low i room (numbers_of v) l low (eqb-true _ _ q.1);
      small = λ b. below_append b (small_value (shape i) v q.0);
    })
    (λ e h. never h)

abbrev Level : ℕ → Type 0
Level l = (is : List Component) (p : Pen) → Low l is → (puts l is p).ok ≡ true → Wrote is p (puts l is p)

next_level : (l : ℕ) → Level l → Level (suc l)
unfolding puts through owing
next_level l ih [] p low h = record { n = 0; so = omega arith; small = λ b. b }
next_level l ih (i ∷ is) p low h =
    let t = put i p in
    let q = puts l t.more t.pen in
    let c = puts_ok (suc l) is q h in
    let s = put_whole l i p.left p.room p.ok p.out low.0 (puts_ok l t.more t.pen c) in
    let x = ih t.more t.pen s.low c in
    let y = next_level l ih is q low.1 h in
    record { n = s.n + x.n + y.n; so = omega (arith, s.so, x.so, y.so); small = λ b. y.small (x.small (s.small b)) }

none_low : (is : List Component) (p : Pen) → Low 0 is → Wrote is p p
unfolding owing
none_low [] p low = record { n = 0; so = omega arith; small = λ b. b }
none_low (i ∷ is) p low = absurd (omega (arith, height_pos i, low.0))

puts_whole : (l : ℕ) → Level l
puts_whole zero is p low h = unfold puts in none_low is p low
puts_whole (suc l) is p low h = next_level l (puts_whole l) is p low h

-- the bits of a message that was written
module _ (vs : List Value) (ok : (written vs).ok ≡ true) where
  whole : Wrote (choice ∷ []) (pen vs) (written vs)
  unfolding written height
  whole = puts_whole levels (choice ∷ []) (pen vs) (omega arith, tt) ok

  pub written_whole : length (encode vs) ≡ 8 * size vs
  unfolding encode size owing owed
  written_whole =
      let e = whole.so in
      omega arith

  pub written_small : Bits (encode vs)
  unfolding encode
  written_small = whole.small (below_nil (omega arith))
