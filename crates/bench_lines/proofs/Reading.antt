-- What reading a line answers, one law for each way out.
-- Assumes nothing.
use mathlib.Core.Path.{◌≡◌, ap, sym, ◌∙◌}
use mathlib.Core.Bool.{Bool, true}
use Prim.Native.Nat.{ℕ, suc, ◌+◌, ◌-◌, ◌*◌, ◌/◌, ◌%◌, ◌^◌, ◌≤◌, ◌<◌}
use mathlib.Core.List.{List, [], ◌∷◌, ◌++◌}
use native.Mathlib.Nat.{mul-le-mul_right, mul_assoc, mul-one, one-mul, add-mul, pow-zero, pow-succ'}
use native.Mathlib.Omega.{arith}
use lib.Dec.{ltb}
use Rattle.std.proofs.lemmas.Slice.{between_is, between_to_end}
use lib.ListN.{length, take, drop, length-drop}
use lib.Seq.{slice, length-slice}
use borrow.Author.Tests.{le-leb, lt-leb, lt-ltb, ltb-true}
use Rattle.std.specs.Prelude.{Some}
use Rattle.refusals.specs.Check.{refused, accepted}
use Rattle.bench_lines.specs.Numerals.{digit_value, all_digits, spelled_after, spelled, octets_of}
use Rattle.bench_lines.specs.Inside.{small}
use Rattle.bench_lines.specs.Line.{before, first_space, second_space, lid_text, tick_text, lsdu_text, has_form, fields_of, read_line}
use Rattle.bench_lines.proofs.Spelling.{and_both}
use Rattle.bench_lines.proofs.Form.{Formed, formed}

-- digits of a base spell a number below its power
spelled_below : (base v : ℕ) (s : List ℕ) → all_digits base s ≡ true → spelled_after base v s < (v + 1) * base ^ length s
unfolding all_digits spelled_after
spelled_below base v [] e = rw (pow-zero, mul-one) (omega arith)
spelled_below base v (c ∷ s) e =
    let p = and_both (ltb (digit_value c) base) (all_digits base s) e in
    let d : digit_value c < base = ltb-true _ _ p.0 in
    let i = spelled_below base (v * base + digit_value c) s p.1 in
    let m : (v * base + digit_value c + 1) * base ^ length s ≤ (v + 1) * base * base ^ length s =
    mul-le-mul_right (base ^ length s) (omega (arith, add-mul v 1 base, one-mul base)) in
    let q : (v + 1) * base ^ suc (length s) ≡ (v + 1) * base * base ^ length s = rw (pow-succ', mul_assoc) in
    omega arith

space_order : (line : List ℕ) → first_space line < second_space line
unfolding second_space
space_order line = omega arith

-- seven hex digits spell a LID below 2^28
pub lid_below : (line : List ℕ) {second : ℕ} → Formed line second → spelled 16 (lid_text line) < 268435456
unfolding spelled lid_text
lid_below line f =
    let i = f.inside in
    let s = f.second_is in
    let h = f.first in
    let l = f.lid in
    let n : length (slice 0 7 line) ≡ 7 = length-slice 0 7 line (omega (arith, space_order line)) in
    let b = spelled_below 16 0 (slice 0 7 line) (rw h at l) in
    rw h (rw n at b)

-- ---- the ways out

module _ (line : List ℕ) {r : Bool} (is : r ≡ has_form line) (t : r ≡ true) {second : ℕ} (g : second ≡ 8 + before 32 (drop 8 line)) where
  form : has_form line ≡ true
  form = sym is ∙ t

  pub facts : Formed line second
  unfolding second_space
  facts = at_second (formed line form) (second_is (formed line form).first)
    where
      second_is : first_space line ≡ 7 → second_space line ≡ second
      second_is h = rw h (sym g)

      at_second : Formed line (second_space line) → second_space line ≡ second → Formed line second
      at_second f e = rw e at f

  -- what is left behind the second space is two digits for each octet
  behind : length (lsdu_text line) ≡ length line - second - 1
  unfolding lsdu_text
  behind =
      let s = facts.second_is in
      let i = facts.inside in
      rw s (omega (arith, length-drop (second + 1) line))

  -- the part of the line behind it is the LSDU's text
  pub part_is : take (length line - (second + 1)) (drop (second + 1) line) ≡ lsdu_text line
  unfolding lsdu_text
  part_is =
      let s = facts.second_is in
      let e : take (length line - (second + 1)) (drop (second + 1) line) ≡ drop (second + 1) line = between_to_end line (second + 1) (length line) (omega arith) in
      rw s e

  pub part_fits : (room : ℕ) → (length line - second - 1) / 2 ≤ room
      → (length (take (length line - (second + 1)) (drop (second + 1) line)) % 2 ≡ 0) × (length (take (length line - (second + 1)) (drop (second + 1) line)) / 2 ≤ room)
      × (all_digits 16 (take (length line - (second + 1)) (drop (second + 1) line)) ≡ true)
  part_fits room h = rw part_is (facts.even, omega (arith, behind), facts.lsdu)

  pub part_placed : (buffer : List ℕ) {out : List ℕ}
      → out ≡ octets_of (take (length line - (second + 1)) (drop (second + 1) line)) ++ drop (length (take (length line - (second + 1)) (drop (second + 1) line)) / 2) buffer
      → out ≡ octets_of (lsdu_text line) ++ drop ((length line - second - 1) / 2) buffer
  part_placed buffer e = rw (part_is, behind) at e

  pub lid_some : small (spelled 16 (take 7 line)) ≡ Some (spelled 16 (lid_text line))
  unfolding lid_text small
  lid_some =
      let h = facts.first in
      let b : spelled 16 (slice 0 7 line) < 268435456 = rw h at (lid_below line facts) in
      rw h (simp (lt-ltb (spelled 16 (slice 0 7 line)) 4294967296 (omega arith)))

  pub tick_some : small (spelled 10 (take (second - 8) (drop 8 line))) ≡ Some (spelled 10 (tick_text line))
  unfolding tick_text small
  tick_some =
      let h = facts.first in
      let s = facts.second_is in
      let f = facts.small in
      let b : spelled 10 (slice 8 second line) < 4294967296 = rw (h, s) at f in
      let e : take (second - 8) (drop 8 line) ≡ slice 8 second line = between_is line 8 second in
      rw (h, s, e) (simp (lt-ltb (spelled 10 (slice 8 second line)) 4294967296 b))

  octets_are : length (lsdu_text line) / 2 ≡ (length line - second - 1) / 2
  octets_are = ap (λ (n : ℕ). n / 2) behind

  module _ (room : ℕ) where
    pub buffer_too_short : room < (length line - second - 1) / 2 → refused 22 ≡ read_line line room
    unfolding read_line fields_of
    buffer_too_short h = simp (form, octets_are, lt-leb _ _ h)

    pub whole_line : {l m : ℕ} → l ≡ spelled 16 (lid_text line) → m ≡ spelled 10 (tick_text line) → (length line - second - 1) / 2 ≤ room
        → accepted (record { lid = l; tick = m; octets = (length line - second - 1) / 2 }) ≡ read_line line room
    unfolding read_line fields_of
    whole_line p q h = rw (p, q) (simp (form, octets_are, le-leb _ _ h))
