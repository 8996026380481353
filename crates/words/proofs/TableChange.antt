-- One slot put into 41 words, and the busy word counted from them: the words are those of the changed table. Assumes nothing.
use mathlib.Core.Path.{◌≡◌, refl, sym, ap, ◌∙◌}
use mathlib.Core.Bool.{not}
use mathlib.Core.List.{List, [], ◌∷◌, ◌++◌}
use Prim.Native.Nat.{ℕ, zero, suc, ◌+◌, ◌*◌, ◌≤◌, ◌<◌, ◌^◌}
use native.Mathlib.Omega.{arith}
use lib.ListN.{length, drop, length-drop, get_or, set, length-set, drop_of_length-le}
use lib.Dec.{eqb}
use native.Mathlib.Nat.{pow-suc}
use lib.Seq.{sets, drop-cons, set_out}
use borrow.Author.Tests.{eq-eqb}
use Rattle.slots.specs.declared.Slot.{Slot}
use Rattle.slots.specs.declared.Table.{Table}
use Rattle.slots.specs.Slots.{free, is_busy, bit_of, word_of, table_of}
use Rattle.slots.proofs.WordLaws.{bit_le}
use Rattle.words.specs.TableWords.{slot_words, slots_words, slot_put, table_words, table_after, slot_in, slots_in, table_held, table_in, change_after}
use Rattle.words.proofs.TableWords.{put_none}
use Rattle.words.proofs.TableLaws.{slots_unpacked, slots_long, held_in}

-- ---- the busy word is counted

pub eight_slots : (words : List ℕ) → length (slots_in words) ≡ 8
unfolding slots_in
eight_slots words = refl

-- the next counter of slot j is word 5 * j + 3
next_in : (words : List ℕ) (j : ℕ) → j < 8 → (get_or (slots_in words) j free).next ≡ get_or words (5 * j + 3) 0
unfolding slots_in
next_in words zero h = refl
next_in words (suc zero) h = refl
next_in words (suc (suc zero)) h = refl
next_in words (suc (suc (suc zero))) h = refl
next_in words (suc (suc (suc (suc zero)))) h = refl
next_in words (suc (suc (suc (suc (suc zero))))) h = refl
next_in words (suc (suc (suc (suc (suc (suc zero)))))) h = refl
next_in words (suc (suc (suc (suc (suc (suc (suc zero))))))) h = refl
next_in words (suc (suc (suc (suc (suc (suc (suc (suc j)))))))) h = absurd (omega arith)

pub count_none : (words : List ℕ) → 0 ≡ word_of (drop 8 (slots_in words))
unfolding word_of
count_none words = sym (ap word_of (drop_of_length-le (slots_in words) {i = 8} (omega (arith, eight_slots words))))

word_step : (slots : List Slot) (i : ℕ) → i < length slots → word_of (drop i slots) ≡ bit_of (is_busy (get_or slots i free)) + 2 * word_of (drop (i + 1) slots)
unfolding word_of
word_step slots i h = let k : i + 1 ≡ suc i = omega arith in rw (k, drop-cons slots i free h)

-- one turn of the loop that makes the word, highest slot first
pub count_turn : (words : List ℕ) (i w : ℕ) → i < 8 → w ≡ word_of (drop (i + 1) (slots_in words))
    → 2 * w + bit_of (not (eqb (get_or words (5 * i + 3) 0) 0)) ≡ word_of (drop i (slots_in words))
count_turn words i w h e =
    let s = word_step (slots_in words) i (omega (arith, eight_slots words)) in
    let n : bit_of (is_busy (get_or (slots_in words) i free)) ≡ bit_of (not (eqb (get_or words (5 * i + 3) 0) 0)) = ap (λ (n : ℕ). bit_of (not (eqb n 0))) (next_in words i h) in
    omega (arith, s, n, e)

word_lt : (slots : List Slot) (n : ℕ) → length slots ≤ n → word_of slots < 2 ^ n
unfolding word_of
word_lt [] zero h = omega arith
word_lt [] (suc n) h = omega (arith, word_lt [] n (omega arith), pow-suc 2 n)
word_lt (slot ∷ slots) zero h = absurd (omega arith)
word_lt (slot ∷ slots) (suc n) h = omega (arith, word_lt slots n (omega arith), bit_le (is_busy slot), pow-suc 2 n)

pub count_byte : (words : List ℕ) (i : ℕ) → word_of (drop i (slots_in words)) < 256
count_byte words i = word_lt (drop i (slots_in words)) 8 (omega (arith, length-drop i (slots_in words), eight_slots words))

-- ---- 41 words are the busy word and the words of their slots

-- the words from a place on are those of these slots
record From (words : List ℕ) (at : ℕ) (slots : List Slot) : Type 0 where
  rest : drop at words ≡ slots_words slots

slot_first : (words : List ℕ) (at : ℕ) {slots : List Slot} → at + 5 ≤ length words → From words (at + 5) slots → From words at (slot_in words at ∷ slots)
unfolding slots_words
slot_first words at h from =
    let k1 : at + 1 ≡ suc at = omega arith in
    let k2 : at + 2 ≡ suc (suc at) = omega arith in
    let k3 : at + 3 ≡ suc (suc (suc at)) = omega arith in
    let k4 : at + 4 ≡ suc (suc (suc (suc at))) = omega arith in
    let k5 : at + 5 ≡ suc (suc (suc (suc (suc at)))) = omega arith in
    let e1 = drop-cons words at 0 (omega arith) in
    let e2 = drop-cons words (suc at) 0 (omega arith) in
    let e3 = drop-cons words (suc (suc at)) 0 (omega arith) in
    let e4 = drop-cons words (suc (suc (suc at))) 0 (omega arith) in
    let e5 = drop-cons words (suc (suc (suc (suc at)))) 0 (omega arith) in
    record { rest = rw (← from.rest, k1, k2, k3, k4, k5, e1, e2, e3, e4, e5) }

slots_held : (words : List ℕ) → length words ≡ 41 → From words 1 (slots_in words)
unfolding slots_in slots_words
slots_held words n =
    let past : From words 41 [] = record { rest = drop_of_length-le words {i = 41} (omega arith) } in
    let last_two = slot_first words 31 (omega arith) (slot_first words 36 (omega arith) past) in
    let last_five = slot_first words 16 (omega arith) (slot_first words 21 (omega arith) (slot_first words 26 (omega arith) last_two)) in
    slot_first words 1 (omega arith) (slot_first words 6 (omega arith) (slot_first words 11 (omega arith) last_five))

words_held : (words : List ℕ) → length words ≡ 41 → words ≡ get_or words 0 0 ∷ slots_words (slots_in words)
words_held words n = drop-cons words 0 0 (omega arith) ∙ ap (λ (l : List ℕ). get_or words 0 0 ∷ l) (slots_held words n).rest

-- ---- a slot that is set

slot_set : (slots : List Slot) (i : ℕ) (slot : Slot) → i < length slots → sets (slots_words slots) (5 * i) (slot_words slot) ≡ slots_words (set slots i slot)
unfolding slots_words
slot_set [] i slot h = absurd (omega arith)
slot_set (s ∷ slots) zero slot h = refl
slot_set (s ∷ slots) (suc i) slot h =
    let k : 5 * suc i ≡ suc (suc (suc (suc (suc (5 * i))))) = omega arith in
    rw k (ap (λ (l : List ℕ). slot_words s ++ l) (slot_set slots i slot (omega arith)))

-- 41 words with a slot set and the busy word as it was
abbrev pub words_with : List ℕ → ℕ → Slot → List ℕ
words_with w i slot = get_or w 0 0 ∷ slots_words (set (slots_in w) i slot)

pub slot_put_law : (w' w : List ℕ) (i : ℕ) (slot : Slot) → length w ≡ 41 → i < 8 → w' ≡ slot_put w (1 + 5 * i) slot → w' ≡ words_with w i slot
unfolding slot_put
slot_put_law w' w i slot n h e =
    let k : 1 + 5 * i ≡ suc (5 * i) = omega arith in
    let words = get_or w 0 0 ∷ slots_words (slots_in w) in
    e ∙ ap (λ (l : List ℕ). sets l (1 + 5 * i) (slot_words slot)) (words_held w n) ∙ ap (λ (j : ℕ). sets words j (slot_words slot)) k
    ∙ ap (λ (l : List ℕ). get_or w 0 0 ∷ l) (slot_set (slots_in w) i slot (omega (arith, eight_slots w)))

pub slot_past : (w : List ℕ) (i : ℕ) (slot : Slot) → length w ≡ 41 → 8 ≤ i → w ≡ words_with w i slot
slot_past w i slot n h = words_held w n ∙ ap (λ (s : List Slot). get_or w 0 0 ∷ slots_words s) (sym (set_out (slots_in w) i slot (omega (arith, eight_slots w))))

-- either way there are as many words as before
pub still_41 : (w₁ w : List ℕ) (i : ℕ) (slot : Slot) → w₁ ≡ words_with w i slot → length w₁ ≡ 41
still_41 w₁ w i slot e = omega (arith, ap length e, slots_long (set (slots_in w) i slot), length-set (slots_in w) i slot, eight_slots w)

-- then the busy word
pub changed : (w₂ w₁ w : List ℕ) (i busy : ℕ) (slot : Slot) → length w ≡ 41 → w₁ ≡ words_with w i slot → busy ≡ word_of (slots_in w₁)
    → w₂ ≡ set w₁ 0 busy → w₂ ≡ change_after i slot w
unfolding change_after table_after table_words
changed w₂ w₁ w i busy slot n put count e =
    let slots = set (slots_in w) i slot in
    let eight : length slots ≡ 8 = length-set (slots_in w) i slot ∙ eight_slots w in
    let word : busy ≡ word_of slots = count ∙ ap word_of (ap slots_in put ∙ slots_unpacked (get_or w 0 0) slots eight) in
    let held : table_held w ≡ table_in w = held_in (table_held w) w n refl in
    rw (eq-eqb (length w) 41 n)
    (e ∙ ap (λ (l : List ℕ). set l 0 busy) put ∙ ap (λ (b : ℕ). b ∷ slots_words slots) word ∙ ap (λ (t : Table). table_words (table_of (set t.slots i slot))) held)

pub unchanged : (w : List ℕ) (i : ℕ) (slot : Slot) → (length w ≡ 41 → ⊥) → w ≡ change_after i slot w
unfolding change_after
unchanged w i slot h = put_none w (table_of (set (table_in w).slots i slot)) h
