-- Unpacking what was packed gives it back: the table of a table's words is that table, and words of another length are no sound table.
-- Assumes nothing.
use mathlib.Core.Path.{◌≡◌, refl, sym, ap, ◌∙◌}
use mathlib.Core.Bool.{Bool, true, false}
use mathlib.Core.List.{List, [], ◌∷◌}
use Prim.Native.Nat.{ℕ, ◌*◌, ◌-◌, ◌^◌}
use native.Mathlib.Omega.{arith}
use lib.ListN.{length, set, length-set}
use lib.Dec.{eqb}
use Rattle.refusals.specs.Check.{pick}
use borrow.Author.Tests.{eq-eqb, ne_eqb}
use Rattle.slots.specs.declared.Slot.{Slot}
use Rattle.slots.specs.declared.Table.{Table}
use Rattle.slots.specs.Slots.{table_of, is_sound}
use Rattle.slots.proofs.WordLaws.{word_byte}
use Rattle.slots.proofs.SoundLaws.{sound_parts}
use Rattle.words.specs.TableWords.{table_length, slots_words, table_words, table_after, slots_in, table_held, no_table, table_in, change_after, UnpackingTable, UnpackingPutTable, UnpackingChange, OtherTableLength, FirstTable}

pub slots_unpacked : (busy : ℕ) (slots : List Slot) → length slots ≡ 8 → slots_in (busy ∷ slots_words slots) ≡ slots
unfolding slots_in slots_words
slots_unpacked busy (a ∷ b ∷ c ∷ d ∷ e ∷ f ∷ g ∷ h ∷ []) n = refl
slots_unpacked busy [] n = absurd (omega arith)
slots_unpacked busy (a ∷ []) n = absurd (omega arith)
slots_unpacked busy (a ∷ b ∷ []) n = absurd (omega arith)
slots_unpacked busy (a ∷ b ∷ c ∷ []) n = absurd (omega arith)
slots_unpacked busy (a ∷ b ∷ c ∷ d ∷ []) n = absurd (omega arith)
slots_unpacked busy (a ∷ b ∷ c ∷ d ∷ e ∷ []) n = absurd (omega arith)
slots_unpacked busy (a ∷ b ∷ c ∷ d ∷ e ∷ f ∷ []) n = absurd (omega arith)
slots_unpacked busy (a ∷ b ∷ c ∷ d ∷ e ∷ f ∷ g ∷ []) n = absurd (omega arith)
slots_unpacked busy (a ∷ b ∷ c ∷ d ∷ e ∷ f ∷ g ∷ h ∷ k ∷ slots) n = absurd (omega arith)

pub slots_long : (slots : List Slot) → length (slots_words slots) ≡ 5 * length slots
unfolding slots_words
slots_long [] = refl
slots_long (slot ∷ slots) = omega (arith, slots_long slots)

-- the two ways out of `table_in`
pub held_in : (t : Table) (words : List ℕ) → length words ≡ 41 → t ≡ table_held words → t ≡ table_in words
unfolding table_in
held_in t words n e = rw (eq-eqb (length words) 41 n) e

pub none_in : (t : Table) (words : List ℕ) → (length words ≡ 41 → ⊥) → t ≡ no_table → t ≡ table_in words
unfolding table_in
none_in t words h e = rw (ne_eqb (length words) 41 h) e

pub unpacking_table : UnpackingTable
unfolding UnpackingTable table_words
unpacking_table table n =
    let words = table_words table in
    sym (held_in table words (omega (arith, slots_long table.slots)) (λ i. record { busy = table.busy; slots = sym (slots_unpacked table.busy table.slots n) i }))

pub unpacking_put_table : UnpackingPutTable
unfolding UnpackingPutTable UnpackingTable table_after
unpacking_put_table table words n m = rw (eq-eqb (length words) 41 m) (unpacking_table table n)

pub eight_in : (words : List ℕ) → length (table_in words).slots ≡ 8
unfolding table_in slots_in
eight_in words = go (eqb (length words) table_length)
  where
    go : (b : Bool) → length (pick b (table_held words) no_table).slots ≡ 8
    go true = refl
    go false = refl

pub unpacking_change : UnpackingChange
unfolding UnpackingChange UnpackingPutTable change_after
unpacking_change i slot words n =
    unpacking_put_table (table_of (set (table_in words).slots i slot)) words (length-set (table_in words).slots i slot ∙ eight_in words) n

busy_ones : (words : List ℕ) → (length words ≡ 41 → ⊥) → (table_in words).busy ≡ 2 ^ 32 - 1
busy_ones words h = ap (λ (t : Table). t.busy) (sym (none_in no_table words h refl))

-- a busy word of all ones is that of no eight slots
pub other_table_length : OtherTableLength
unfolding OtherTableLength
other_table_length words h = go (is_sound (table_in words)) refl
  where
    go : (b : Bool) → is_sound (table_in words) ≡ b → b ≡ false
    go false e = refl
    go true e = absurd (omega (arith, busy_ones words h, (sound_parts (table_in words) e).word, word_byte (table_in words).slots 0 (eight_in words)))

pub first_table : FirstTable
unfolding FirstTable table_in slots_in
first_table = refl
