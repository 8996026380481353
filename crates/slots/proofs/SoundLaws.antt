-- 01's soundness, which goes by the word, is what the code tests slot by slot.
use Rattle.std.proofs.Common.{◌≡◌, ℕ, zero, suc, ◌+◌, ◌*◌, ◌/◌, ◌%◌, ◌<◌, ◌≤◌, Bool, true, false, not, ◌&&◌, ◌||◌, eqb, leb, List, [], ◌∷◌, length, get_or, drop, sym, refl, ap, ◌∙◌, add-one, arith, drop-cons, eq-eqb, ne_eqb, eqb-true, leb-true}
use mathlib.Core.Bool.{and_assoc}
use borrow.Author.Tests.{eqb-false}
use Rattle.std.specs.List.{list_all, list_any}
use Rattle.refusals.specs.Check.{pick}
use Rattle.slots.specs.declared.Slot.{Slot}
use Rattle.slots.specs.declared.Table.{Table}
use Rattle.slots.specs.Slots.{free, is_busy, bit_of, word_of, low_bit, all_zero, busy_sound, pair_in_range, slot_octets, each_sound, busy_slots, none_shares, no_two_share, is_sound}
use Rattle.slots.specs.Model.{sound_slot, all_sound, shares_pair, none_like, both_hold, alone, distinct}
use Rattle.slots.proofs.Tests.{and_l, and_r, and_i, same_test}
use Rattle.slots.proofs.WordLaws.{half_word, low_bit_law}

-- ---- one slot

module _ (slot : Slot) where
  -- a slot that is sound by its bit is sound, and its bit is whether it is busy
  pub busy_is : busy_sound slot ≡ true → is_busy slot ≡ true
  busy_is h = ap not (ne_eqb slot.next 0 (λ e. omega (arith, leb-true 1 slot.next (first h), e)))
    where
      first : busy_sound slot ≡ true → leb 1 slot.next ≡ true
      first h =
          and_l (leb 1 slot.next) (leb slot.next slot.held)
          (and_l (leb 1 slot.next && leb slot.next slot.held) (leb slot.held slot_octets)
          (and_l (leb 1 slot.next && leb slot.next slot.held && leb slot.held slot_octets) (pair_in_range slot.lid slot.number) h))

  pub held_small : sound_slot slot ≡ true → slot.held ≤ 512
  held_small h = go (is_busy slot) h
    where
      go : (b : Bool) → pick b (busy_sound slot) (all_zero slot) ≡ true → slot.held ≤ 512
      go true h =
          leb-true slot.held slot_octets
          (and_r (leb 1 slot.next && leb slot.next slot.held) (leb slot.held slot_octets)
          (and_l (leb 1 slot.next && leb slot.next slot.held && leb slot.held slot_octets) (pair_in_range slot.lid slot.number) h))
      go false h = omega (arith, eqb-true slot.held 0 (zero_held h))
        where
          zero_held : all_zero slot ≡ true → eqb slot.held 0 ≡ true
          zero_held h =
              and_r (eqb slot.lid 0 && eqb slot.number 0 && eqb slot.next 0) (eqb slot.held 0)
              (and_l (eqb slot.lid 0 && eqb slot.number 0 && eqb slot.next 0 && eqb slot.held 0) (eqb slot.tick 0) h)

  pub next_held : sound_slot slot ≡ true → slot.next ≤ slot.held
  next_held h = go (is_busy slot) h
    where
      go : (b : Bool) → pick b (busy_sound slot) (all_zero slot) ≡ true → slot.next ≤ slot.held
      go true h =
          leb-true slot.next slot.held
          (and_r (leb 1 slot.next) (leb slot.next slot.held)
          (and_l (leb 1 slot.next && leb slot.next slot.held) (leb slot.held slot_octets)
          (and_l (leb 1 slot.next && leb slot.next slot.held && leb slot.held slot_octets) (pair_in_range slot.lid slot.number) h)))
      go false h = omega (arith, eqb-true slot.next 0 (zero_next h))
        where
          zero_next : all_zero slot ≡ true → eqb slot.next 0 ≡ true
          zero_next h =
              and_r (eqb slot.lid 0 && eqb slot.number 0) (eqb slot.next 0)
              (and_l (eqb slot.lid 0 && eqb slot.number 0 && eqb slot.next 0) (eqb slot.held 0)
              (and_l (eqb slot.lid 0 && eqb slot.number 0 && eqb slot.next 0 && eqb slot.held 0) (eqb slot.tick 0) h))

  -- all zero is the free slot
  pub zero_is : all_zero slot ≡ true → slot ≡ free
  zero_is h =
      let a = and_l (eqb slot.lid 0 && eqb slot.number 0 && eqb slot.next 0 && eqb slot.held 0) (eqb slot.tick 0) h in
      let b = and_l (eqb slot.lid 0 && eqb slot.number 0 && eqb slot.next 0) (eqb slot.held 0) a in
      let c = and_l (eqb slot.lid 0 && eqb slot.number 0) (eqb slot.next 0) b in
      let tick = eqb-true slot.tick 0 (and_r (eqb slot.lid 0 && eqb slot.number 0 && eqb slot.next 0 && eqb slot.held 0) (eqb slot.tick 0) h) in
      let held = eqb-true slot.held 0 (and_r (eqb slot.lid 0 && eqb slot.number 0 && eqb slot.next 0) (eqb slot.held 0) a) in
      let next = eqb-true slot.next 0 (and_r (eqb slot.lid 0 && eqb slot.number 0) (eqb slot.next 0) b) in
      let number = eqb-true slot.number 0 (and_r (eqb slot.lid 0) (eqb slot.number 0) c) in
      let lid = eqb-true slot.lid 0 (and_l (eqb slot.lid 0) (eqb slot.number 0) c) in
      λ i. record { lid = lid i; number = number i; next = next i; held = held i; tick = tick i }

-- ---- all slots

pub sound_at : (slots : List Slot) (i : ℕ) → all_sound slots ≡ true → sound_slot (get_or slots i free) ≡ true
unfolding all_sound
sound_at [] i h = refl
sound_at (slot ∷ slots) zero h = and_l (sound_slot slot) (all_sound slots) h
sound_at (slot ∷ slots) (suc i) h = sound_at slots i (and_r (sound_slot slot) (all_sound slots) h)

-- by the word, then slot by slot
each_split : (word : ℕ) (slots : List Slot) → each_sound word slots ≡ true → (word ≡ word_of slots) × (all_sound slots ≡ true)
unfolding each_sound word_of all_sound
each_split word [] h = (eqb-true word 0 h, refl)
each_split word (slot ∷ slots) h =
    go (each_split (word / 2) slots (and_r (pick (low_bit word) (busy_sound slot) (all_zero slot)) (each_sound (word / 2) slots) h)) (low_bit word) refl
    (and_l (pick (low_bit word) (busy_sound slot) (all_zero slot)) (each_sound (word / 2) slots) h)
  where
    go : (word / 2 ≡ word_of slots) × (all_sound slots ≡ true) → (b : Bool) → low_bit word ≡ b → pick b (busy_sound slot) (all_zero slot) ≡ true
        → (word ≡ bit_of (is_busy slot) + 2 * word_of slots) × (sound_slot slot && all_sound slots ≡ true)
    go rest true e s =
        let b = busy_is slot s in
        (rw b (omega (arith, eqb-true (word % 2) 1 e, rest.0)), rw b (and_i s rest.1))
    go rest false e s =
        let z = zero_is slot s in
        (rw z (omega (arith, eqb-false (word % 2) 1 e, rest.0)), rw z rest.1)

-- slot by slot, then by the word
each_word : (slots : List Slot) → all_sound slots ≡ true → each_sound (word_of slots) slots ≡ true
unfolding each_sound word_of all_sound
each_word [] h = refl
each_word (slot ∷ slots) h =
    let w = half_word (is_busy slot) (word_of slots) in
    rw (low_bit_law (is_busy slot) (word_of slots), w.1) (and_i (and_l (sound_slot slot) (all_sound slots) h) (each_word slots (and_r (sound_slot slot) (all_sound slots) h)))

-- the busy slots share no pair
none_busy : (slot : Slot) (slots : List Slot) → none_shares slot (busy_slots (word_of slots) slots) ≡ none_like slot slots
unfolding none_shares busy_slots word_of none_like
none_busy slot [] = refl
none_busy slot (other ∷ slots) =
    rw (low_bit_law (is_busy other) (word_of slots), (half_word (is_busy other) (word_of slots)).1, and_assoc (is_busy other) (eqb other.lid slot.lid) (eqb other.number slot.number))
    (go (is_busy other) (none_busy slot slots))
  where
    go : (b : Bool) → none_shares slot (busy_slots (word_of slots) slots) ≡ none_like slot slots
        → none_shares slot (pick b (other ∷ busy_slots (word_of slots) slots) (busy_slots (word_of slots) slots)) ≡ not (b && (eqb other.lid slot.lid && eqb other.number slot.number)) && none_like slot slots
    go true r = ap (λ (c : Bool). not (eqb other.lid slot.lid && eqb other.number slot.number) && c) r
    go false r = r

busy_distinct : (slots : List Slot) → no_two_share (busy_slots (word_of slots) slots) ≡ distinct slots
unfolding no_two_share busy_slots word_of distinct
busy_distinct [] = refl
busy_distinct (slot ∷ slots) =
    rw (low_bit_law (is_busy slot) (word_of slots), (half_word (is_busy slot) (word_of slots)).1) (go (is_busy slot) (busy_distinct slots))
  where
    go : (b : Bool) → no_two_share (busy_slots (word_of slots) slots) ≡ distinct slots
        → no_two_share (pick b (slot ∷ busy_slots (word_of slots) slots) (busy_slots (word_of slots) slots)) ≡ pick b (none_like slot slots) true && distinct slots
    go true r = λ i. none_busy slot slots i && r i
    go false r = r

-- ---- the table

-- what the word and the slots of a is_sound table are
pub record SoundTable (table : Table) : Type 0 where
  pub word : table.busy ≡ word_of table.slots
  pub each : all_sound table.slots ≡ true
  pub apart : distinct table.slots ≡ true

pub sound_parts : (table : Table) → is_sound table ≡ true → SoundTable table
unfolding is_sound
sound_parts table h =
    let s = each_split table.busy table.slots (and_l (each_sound table.busy table.slots) (no_two_share (busy_slots table.busy table.slots)) h) in
    let d = and_r (each_sound table.busy table.slots) (no_two_share (busy_slots table.busy table.slots)) h in
    record { word = s.0; each = s.1; apart = sym (ap (λ (w : ℕ). no_two_share (busy_slots w table.slots)) s.0 ∙ busy_distinct table.slots) ∙ d }

pub sound_whole : (table : Table) → SoundTable table → is_sound table ≡ true
unfolding is_sound
sound_whole table s =
    rw s.word (and_i (each_word table.slots s.each) (busy_distinct table.slots ∙ s.apart))

-- the code's test
abbrev pub fine : List Slot → Bool
fine slots = all_sound slots && distinct slots

pub sound_is : (table : Table) → eqb table.busy (word_of table.slots) && fine table.slots ≡ is_sound table
sound_is table =
    same_test (eqb table.busy (word_of table.slots) && fine table.slots) (is_sound table)
    (λ h.
    let f = and_r (eqb table.busy (word_of table.slots)) (fine table.slots) h in
    sound_whole table (record {
      word = eqb-true table.busy (word_of table.slots) (and_l (eqb table.busy (word_of table.slots)) (fine table.slots) h);
      each = and_l (all_sound table.slots) (distinct table.slots) f;
      apart = and_r (all_sound table.slots) (distinct table.slots) f;
    }))
    (λ h.
    let s = sound_parts table h in
    and_i (eq-eqb table.busy (word_of table.slots) s.word) (and_i s.each s.apart))

-- no slot of a is_sound table holds more than 512 octets
pub slots_small : (table : Table) → is_sound table ≡ true → (k : ℕ) → k < 8 → (get_or table.slots k free).held ≤ 512
slots_small table h k _ = held_small (get_or table.slots k free) (sound_at table.slots k (sound_parts table h).each)

-- ---- the iterators of the code

pub all_is : (slots : List Slot) → list_all sound_slot slots ≡ all_sound slots
unfolding all_sound
all_is [] = refl
all_is (slot ∷ slots) = ap (λ (b : Bool). sound_slot slot && b) (all_is slots)

pub alone_is : (slot : Slot) (slots : List Slot) → not (list_any (both_hold slot) slots) ≡ alone slot slots
unfolding none_like
alone_is slot [] = go (is_busy slot)
  where
    go : (b : Bool) → true ≡ pick b true true
    go true = refl
    go false = refl
alone_is slot (other ∷ slots) = go (is_busy slot) (shares_pair slot other) (list_any (both_hold slot) slots) (alone_is slot slots)
  where
    go : (b s r : Bool) → not r ≡ pick b (none_like slot slots) true → not ((b && s) || r) ≡ pick b (not s && none_like slot slots) true
    go true true r e = refl
    go true false r e = e
    go false s r e = e

pub distinct_step : (slots : List Slot) (i : ℕ) → i < length slots
    → distinct (drop i slots) ≡ alone (get_or slots i free) (drop (i + 1) slots) && distinct (drop (i + 1) slots)
unfolding distinct
distinct_step slots i h = ap distinct (drop-cons slots i free h) ∙ ap (λ (k : ℕ). alone (get_or slots i free) (drop k slots) && distinct (drop k slots)) (sym (add-one i))
