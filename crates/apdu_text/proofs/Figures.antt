-- Laws of digits and numbers as text.
-- Assumes nothing.
use Prim.Native.Nat.{ℕ, suc, ◌+◌, ◌-◌, ◌/◌, ◌%◌, ◌≤◌, ◌<◌}
use mathlib.Core.Path.{◌≡◌, refl, ap, sym, ◌∙◌}
use mathlib.Core.List.{List, [], ◌∷◌, ◌++◌}
use native.Mathlib.Omega.{arith}
use native.Mathlib.Numerals.{add-one}
use lib.ListN.{length, get_or, take, drop, set, length-set, length-drop, drop_of_length-le}
use lib.Seq.{drop-cons, take_all, drop-set-lt, get_or-set_same}
use borrow.Author.Tests.{lt-ltb, le-ltb}
use Rattle.bench_lines.specs.Numerals.{digit_for, digits_before, width, decimal_before}
use Rattle.bench_lines.specs.Line.{hex_text}
use Rattle.bench_lines.proofs.Decimal.{width_one, width_more, digits_append}
use Rattle.apdu_text.specs.Parts.{decimal}
use Rattle.apdu_text.specs.Ink.{Writes}
use Rattle.apdu_text.specs.declared.pen.Pen.{Pen}
use Rattle.apdu_text.proofs.Inking.{Leaves, leaves_more, leaves_none, leaves_as, writes_as}

pub digit_low : (d : ℕ) → d < 10 → 48 + d ≡ digit_for d
unfolding digit_for
digit_low d h = rw (lt-ltb d 10 h)

pub digit_high : (d : ℕ) → 10 ≤ d → 55 + d ≡ digit_for d
unfolding digit_for
digit_high d h = rw (le-ltb d 10 h)

-- ---- a list in turns

front : (s : List ℕ) (k : ℕ) → k < length s → drop k s ≡ get_or s k 0 ∷ drop (k + 1) s
front s k h = drop-cons s k 0 h ∙ ap (λ (i : ℕ). get_or s k 0 ∷ drop i s) (sym (add-one k))

module _ {text : List ℕ} {o : Pen} (s : List ℕ) (k : ℕ) {p : Pen} where
  pub word_more : Leaves text o (drop k s) p → k < length s → {q : Pen} → Writes (get_or s k 0 ∷ []) p q → Leaves text o (drop (k + 1) s) q
  word_more l h x = leaves_more {a = get_or s k 0 ∷ []} (leaves_as (front s k h) l) x

  pub word_end : Leaves text o (drop k s) p → length s ≤ k → Writes text o p
  word_end l h = leaves_none (leaves_as (drop_of_length-le s h) l)

  pub hex_more : Leaves text o (hex_text (drop k s)) p → k < length s → {q : Pen}
      → Writes (digit_for (get_or s k 0 / 16) ∷ (digit_for (get_or s k 0 % 16) ∷ [])) p q → Leaves text o (hex_text (drop (k + 1) s)) q
  unfolding hex_text
  hex_more l h x = leaves_more {a = digit_for (get_or s k 0 / 16) ∷ (digit_for (get_or s k 0 % 16) ∷ [])} (leaves_as (ap hex_text (front s k h)) l) x

  pub hex_end : Leaves text o (hex_text (drop k s)) p → length s ≤ k → Writes text o p
  unfolding hex_text
  hex_end l h = leaves_none (leaves_as (ap hex_text (drop_of_length-le s h)) l)

-- ---- the digits of a number, the last first

last_digit : (n : ℕ) {x : ℕ} → x ≡ 48 + n % 10 → x ≡ digit_for (n % 10)
last_digit n e = e ∙ digit_low (n % 10) (omega arith)

pub decimal_one : (n : ℕ) → n < 10 → (48 + n) ∷ [] ≡ decimal n
unfolding decimal decimal_before digits_before
decimal_one n h =
    let m : n % 10 ≡ n = omega arith in
    rw (width_one n (omega arith)) (ap (λ (d : ℕ). d ∷ []) (last_digit n (ap (λ (d : ℕ). 48 + d) (sym m))))

module _ (n rest : ℕ) (digits : List ℕ) (i : ℕ) (l : decimal n ≡ decimal_before rest (drop i digits)) (some : 0 < i) (fits : i ≤ length digits) where
  set_front : (x : ℕ) → drop (i - 1) (set digits (i - 1) x) ≡ x ∷ drop i digits
  set_front x =
      let k : suc (i - 1) ≡ i = omega arith in
      let inside : i - 1 < length digits = omega arith in
      drop-cons (set digits (i - 1) x) (i - 1) 0 (rw length-set inside)
      ∙ rw (get_or-set_same digits (i - 1) x 0 inside, drop-set-lt (suc (i - 1)) digits (i - 1) x (omega arith), k)

  pub digits_more : {x : ℕ} → x ≡ 48 + rest % 10 → 9 < rest → decimal n ≡ decimal_before (rest / 10) (drop (i - 1) (set digits (i - 1) x))
  unfolding decimal_before digits_before
  digits_more {x} e h =
      let w : width rest ≡ suc (width (rest / 10)) = width_more rest h in
      rw (set_front x, last_digit rest e) (l ∙ rw w refl)

  pub decimal_writes : {t : List ℕ} {o q : Pen} → Writes t o q → (w x : ℕ) → t ≡ take w (drop (i - 1) (set digits (i - 1) x)) → x ≡ 48 + rest % 10 → rest ≤ 9 → length digits ≤ w + (i - 1)
      → Writes (decimal n) o q
  unfolding decimal_before digits_before
  decimal_writes p w x t e h k =
      let one : width rest ≡ 1 = width_one rest h in
      writes_as
      (t ∙ take_all w (drop (i - 1) (set digits (i - 1) x)) (omega (arith, length-drop (i - 1) (set digits (i - 1) x), length-set digits (i - 1) x))
      ∙ set_front x ∙ ap (λ (y : ℕ). y ∷ drop i digits) (last_digit rest e) ∙ sym (l ∙ rw one refl)) p

-- ---- the digits of a number, the last behind the others

pub decimal_more : (n : ℕ) → 9 < n → decimal (n / 10) ++ ((48 + n % 10) ∷ []) ≡ decimal n
unfolding decimal decimal_before digits_before
decimal_more n h =
    rw (width_more n h)
    (ap (λ (d : ℕ). digits_before 10 (width (n / 10)) (n / 10) [] ++ (d ∷ [])) (last_digit n refl)
    ∙ sym (digits_append 10 (width (n / 10)) (n / 10) (digit_for (n % 10) ∷ [])))
