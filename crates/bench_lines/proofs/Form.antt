-- Whether a line has 01's form: one law for each way out of the test, and what the form tells.
-- Assumes nothing.
use mathlib.Core.Path.{◌≡◌, refl, sym}
use mathlib.Core.Bool.{Bool, true, false, ◌&&◌}
use Prim.Native.Nat.{ℕ, ◌+◌, ◌-◌, ◌%◌, ◌≤◌, ◌<◌}
use mathlib.Core.List.{List, ◌∷◌}
use native.Mathlib.Omega.{arith}
use Rattle.std.proofs.Math.Bool.{and_assoc}
use Rattle.std.proofs.lemmas.Slice.{between_is, between_to_end}
use lib.ListN.{length, take, drop}
use lib.Seq.{slice}
use borrow.Author.Tests.{le-leb, lt-leb, lt-ltb, le-ltb, ne_eqb, leb-true, ltb-true, eqb-true}
use Rattle.bench_lines.specs.Numerals.{all_digits, spelled}
use Rattle.bench_lines.specs.Inside.{are_fields}
use Rattle.bench_lines.specs.Line.{before, first_space, second_space, lid_text, tick_text, lsdu_text, all_hold, has_form}
use Rattle.bench_lines.proofs.Spelling.{and_both}

pub and_end : (b : Bool) → (b && true) ≡ b
and_end true = refl
and_end false = refl

module _ (line : List ℕ) where
  pub too_long : 600 < length line → false ≡ has_form line
  unfolding has_form all_hold
  too_long h = simp (lt-leb _ _ h)

  module _ (short : length line ≤ 600) where
    pub no_lid : (before 32 line ≡ 7 → ⊥) → false ≡ has_form line
    unfolding has_form all_hold first_space
    no_lid k = simp (le-leb _ _ short, ne_eqb _ _ k)

    module _ (seven : before 32 line ≡ 7) {second : ℕ} (g : second ≡ 8 + before 32 (drop 8 line)) where
      first_is : first_space line ≡ 7
      unfolding first_space
      first_is = seven

      second_place_is : second_space line ≡ second
      unfolding second_space
      second_place_is = rw first_is (sym g)

      lid_is : lid_text line ≡ slice 0 7 line
      unfolding lid_text
      lid_is = rw first_is

      tick_is : tick_text line ≡ slice 8 second line
      unfolding tick_text
      tick_is = rw (first_is, second_place_is)

      lsdu_is : lsdu_text line ≡ drop (second + 1) line
      unfolding lsdu_text
      lsdu_is = rw second_place_is

      pub cut_short : length line ≤ second → false ≡ has_form line
      unfolding has_form all_hold
      cut_short h = simp (le-leb _ _ short, first_is, second_place_is, le-ltb _ _ h)

      pub fields_form : second < length line → are_fields (take 7 line) (take (second - 8) (drop 8 line)) (take (length line - (second + 1)) (drop (second + 1) line)) ≡ has_form line
      unfolding has_form all_hold are_fields
      fields_form h =
          let e : take (second - 8) (drop 8 line) ≡ slice 8 second line = between_is line 8 second in
          let f : take (length line - (second + 1)) (drop (second + 1) line) ≡ drop (second + 1) line = between_to_end line (second + 1) (length line) (omega arith) in
          rw (e, f) (sym (simp (le-leb _ _ short, first_is, second_place_is, lt-ltb _ _ h, lid_is, tick_is, lsdu_is, and_assoc, and_end)))

-- ---- what the form tells

-- the first of those that hold, and the others
held : (b : Bool) (bs : List Bool) → all_hold (b ∷ bs) ≡ true → (b ≡ true) × (all_hold bs ≡ true)
unfolding all_hold
held b bs e = and_both b (all_hold bs) e

-- a line of this form, by the place of its second space
pub record Formed (line : List ℕ) (second : ℕ) : Type 0 where
  pub short : length line ≤ 600
  pub first : first_space line ≡ 7
  pub second_is : second_space line ≡ second
  pub inside : second < length line
  pub lid : all_digits 16 (lid_text line) ≡ true
  pub ticks : 0 < length (tick_text line)
  pub tick : all_digits 10 (tick_text line) ≡ true
  pub small : spelled 10 (tick_text line) < 4294967296
  pub even : length (lsdu_text line) % 2 ≡ 0
  pub lsdu : all_digits 16 (lsdu_text line) ≡ true

pub formed : (line : List ℕ) → has_form line ≡ true → Formed line (second_space line)
unfolding has_form
formed line e =
    let p1 = held _ _ e in
    let p2 = held _ _ p1.1 in
    let p3 = held _ _ p2.1 in
    let p4 = held _ _ p3.1 in
    let p5 = held _ _ p4.1 in
    let p6 = held _ _ p5.1 in
    let p7 = held _ _ p6.1 in
    let p8 = held _ _ p7.1 in
    record {
      short = leb-true _ _ p1.0;
      first = eqb-true _ _ p2.0;
      second_is = refl;
      inside = ltb-true _ _ p3.0;
      lid = p4.0;
      ticks = ltb-true _ _ p5.0;
      tick = p6.0;
      small = ltb-true _ _ p7.0;
      even = eqb-true _ _ p8.0;
      lsdu = (held _ _ p8.1).0;
    }
