-- A line may come in parts, and need be kept no further than 601 characters.
-- Assumes nothing.
use mathlib.Core.Path.{◌≡◌, refl, ap, sym, ◌∙◌}
use Prim.Native.Nat.{ℕ, zero, suc, ◌+◌, ◌≤◌, ◌<◌, ◌-◌}
use mathlib.Core.List.{List, [], ◌∷◌, ◌++◌, append_assoc, append-nil, flatten}
use native.Mathlib.Omega.{arith}
use lib.Dec.{leb, ltb}
use lib.ListN.{length, take, drop, replicate, length-append, length-take, length-drop}
use lib.Seq.{take-nil, take_all, take-append_seam, take-append-le, drop-append-add, drop-drop, length-take-le}
use borrow.Author.Tests.{leb-true, leb-false, ltb-true, ltb-false}
use Rattle.refusals.specs.Check.{Answer, refused}
use Rattle.refusals.proofs.Tests.{by_cases}
use Rattle.bench_lines.specs.Numerals.{digit_value, all_digits, spelled_after, spelled}
use Rattle.bench_lines.specs.Line.{longest_line, before, first_space, second_space, lid_text, tick_text, lsdu_text, all_hold, has_form, Fields, fields_of, read_line}
use Rattle.bench_lines.specs.Splitting.{kept_line, buffer_after, LineSoFar, none_in, kept_of, with_part, with_parts}
use Rattle.bench_lines.specs.RoundTrip.{KeepingParts, ReadsAsWhole, ReadingKept}
use Rattle.bench_lines.proofs.Form.{too_long}

-- ---- parts add up

-- what is cut off stays cut off
take_part : (n : ℕ) (a b : List ℕ) → take n (take n a ++ b) ≡ take n (a ++ b)
take_part zero a b = refl
take_part (suc n) [] b = refl
take_part (suc n) (x ∷ a) b = ap (λ (l : List ℕ). x ∷ l) (take_part n a b)

-- what is put over a front changes nothing behind it
drop_over : (k l : List ℕ) (n : ℕ) → length k ≤ n → drop n (k ++ drop (length k) l) ≡ drop n l
drop_over k l n h =
    let m : n ≡ length k + (n - length k) = omega arith in
    ap (λ (i : ℕ). drop i (k ++ drop (length k) l)) m ∙ drop-append-add k (drop (length k) l) (n - length k) ∙ drop-drop (n - length k) (length k) l
    ∙ ap (λ (i : ℕ). drop i l) (sym m)

module _ (buffer : List ℕ) (held : ℕ) (one two : List ℕ) where
  abbrev first : List ℕ
  first = kept_line buffer held one

  abbrev both : List ℕ
  both = kept_line buffer held (one ++ two)

  kept_again : kept_line (buffer_after first buffer) (length first) two ≡ both
  unfolding kept_line buffer_after
  kept_again =
      let k = take (length buffer) (take held buffer ++ one) in
      let n : length (k ++ drop (length k) buffer) ≡ length buffer =
      omega (arith, length-append k (drop (length k) buffer), length-drop (length k) buffer, short) in
      rw (n, take-append_seam k (drop (length k) buffer), take_part (length buffer) (take held buffer ++ one) two, append_assoc (take held buffer) one two)
    where
      short : length (take (length buffer) (take held buffer ++ one)) ≤ length buffer
      short = omega (arith, length-take (length buffer) (take held buffer ++ one))

  longer : length first ≤ length both
  unfolding kept_line
  longer = simp (length-take, length-append) (omega arith)

  buffer_again : buffer_after both (buffer_after first buffer) ≡ buffer_after both buffer
  unfolding buffer_after
  buffer_again = ap (λ (l : List ℕ). both ++ l) (drop_over first buffer (length both) longer)

part_again : (l : LineSoFar) (one two : List ℕ) → with_part (with_part l one) two ≡ with_part l (one ++ two)
unfolding with_part
part_again l one two =
    rw (kept_again l.buffer l.held one two, buffer_again l.buffer l.held one two)

pub keeping_parts : KeepingParts
unfolding KeepingParts with_parts flatten
keeping_parts l part [] = sym (ap (with_part l) (append-nil part))
keeping_parts l part (next ∷ parts) = keeping_parts (with_part l part) next parts ∙ part_again l part (flatten (next ∷ parts))

-- ---- what is kept reads as the whole

-- the buffer's front has as much of the line as it has room for
kept_front : (buffer : List ℕ) (parts : List (List ℕ)) → kept_of (with_parts (none_in buffer) parts) ≡ take (length buffer) (flatten parts)
unfolding KeepingParts with_parts with_part kept_line buffer_after flatten
kept_front buffer [] = sym (take-nil (length buffer))
kept_front buffer (part ∷ parts) =
    let line = take (length buffer) (flatten (part ∷ parts)) in
    ap kept_of (keeping_parts (none_in buffer) part parts) ∙ take-append_seam line (drop (length line) buffer)

long_refused : (line : List ℕ) (room : ℕ) → longest_line < length line → read_line line room ≡ refused 0
unfolding read_line
long_refused line room h = simp (sym (too_long line h))

-- more characters than the longest line has are enough
enough : (line : List ℕ) (most room : ℕ) → longest_line < most → read_line (take most line) room ≡ read_line line room
enough line most room h =
    by_cases (leb (length line) most)
    (λ t. ap (λ (l : List ℕ). read_line l room) (take_all most line (leb-true (length line) most t)))
    (λ t. let g = leb-false (length line) most t in
    let n = length-take-le most line (omega arith) in
    long_refused (take most line) room (omega arith) ∙ sym (long_refused line room (omega arith)))

-- a line of 600 characters: LID 0, tick 0 and 295 octets of 0, for which an empty buffer has no room; and with a 0 more, which makes it too long
longest : List ℕ
longest = replicate 7 48 ++ (32 ∷ 48 ∷ 32 ∷ replicate 590 48)

longest_read : read_line longest 0 ≡ refused 22
unfolding longest read_line has_form all_hold first_space second_space lid_text tick_text lsdu_text before all_digits spelled spelled_after digit_value fields_of
longest_read = refl

longest_is : length longest ≡ longest_line
unfolding longest
longest_is = refl

-- and as many as it has are too few
too_few : (most : ℕ) → most ≤ longest_line → ((line : List ℕ) (room : ℕ) → read_line (take most line) room ≡ read_line line room) → ⊥
too_few most h reads =
    let over = longest ++ (48 ∷ []) in
    let m : most ≤ length longest = rw longest_is h in
    let n : longest_line < length over = omega (arith, length-append longest (48 ∷ []), longest_is) in
    let same : read_line longest 0 ≡ read_line over 0 =
    sym (reads longest 0) ∙ ap (λ (l : List ℕ). read_line l 0) (sym (take-append-le most longest (48 ∷ []) m)) ∙ reads over 0 in
    let e : ◌≡◌ {A = Answer Fields} (refused 22) (refused 0) = sym longest_read ∙ same ∙ long_refused over 0 n in
    let z : ◌≡◌ {A = ℕ} 22 0 = cc in
    omega arith

pub reading_kept : ReadingKept
unfolding ReadingKept ReadsAsWhole flatten
reading_kept buffer = (
  (λ h parts room. ap (λ (l : List ℕ). read_line l room) (kept_front buffer parts) ∙ enough (flatten parts) (length buffer) room h),
  (λ reads.
      by_cases (ltb longest_line (length buffer)) (λ t. ltb-true longest_line (length buffer) t)
      (λ t. absurd (too_few (length buffer) (ltb-false longest_line (length buffer) t)
      (λ line room. ap (λ (l : List ℕ). read_line l room) (sym (kept_front buffer (line ∷ []) ∙ ap (take (length buffer)) (append-nil line))) ∙ reads (line ∷ []) room
      ∙ ap (λ (l : List ℕ). read_line l room) (append-nil line))))),
)
