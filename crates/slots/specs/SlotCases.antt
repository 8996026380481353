-- Computed cases of Slots.antt and Sweep.antt (01, "Joining", first and third paragraph): small tables; whether they are sound,
-- what the counts over the word give, where a pair's slot is and what it holds, and what expiry and release answer and leave.
-- Assumes nothing.
use Rattle.std.specs.Prelude.{◌≡◌, ℕ, ◌-◌, ◌^◌, Bool, true, false, List, [], ◌∷◌, ◌++◌, map, take, replicate, Result, Ok, Err}
use Rattle.refusals.specs.Check.{refused, accepted}
use Rattle.refusals.specs.declared.Refusal.{Refusal}
use Rattle.refusals.specs.declared.Refusal.TheVariants.{TableNotSound, LidOutOfRange, NoPayload}
use Rattle.slots.specs.declared.Slot.{Slot}
use Rattle.slots.specs.declared.Table.{Table}
use Rattle.slots.specs.Slots.{empty_table, bit_at, is_sound, busy_count, is_full, lowest_free, index_of, table_of, held_for, held_in}
use Rattle.slots.specs.Sweep.{Swept, expiry_of, release_of, sweep_answer, ExpiryGives, ReleaseGives}

-- a slot (01: a place) of these numbers
abbrev pub place : (lid number next held tick : ℕ) → Slot
place lid number next held tick = record { lid = lid; number = number; next = next; held = held; tick = tick }

-- all zero
abbrev pub zeros : Slot
zeros = place 0 0 0 0 0

-- a table of that word and these slots, the others zero
abbrev pub made : ℕ → List Slot → Table
made busy slots = record { busy = busy; slots = take 8 (slots ++ replicate 8 zeros) }

-- ---- soundness

pub record Soundness : Type 0 where
  pub table : Table
  pub is : Bool

abbrev pub sound : ℕ → List Slot → Soundness
sound busy slots = record { table = made busy slots; is = true }

abbrev pub unsound : ℕ → List Slot → Soundness
unsound busy slots = record { table = made busy slots; is = false }

-- eight slots of different pairs
abbrev pub eight : List Slot
eight =
    place 1 2 1 1 0 ∷ place 1 3 1 1 0 ∷ place 1 4 1 1 0 ∷ place 1 5 1 1 0
    ∷ place 2 2 1 1 0 ∷ place 2 3 1 1 0 ∷ place 2 4 1 1 0 ∷ place 2 5 1 1 0 ∷ []

abbrev pub tables : List Soundness
tables =
    sound 0 []
    ∷ sound 255 eight
    -- the word agrees, slot i has bit i, and no bit is set above
    ∷ sound 1 (place 1 2 1 3 10 ∷ [])
    ∷ sound 4 (zeros ∷ zeros ∷ place 1 2 1 3 10 ∷ [])
    ∷ unsound 0 (place 1 2 1 3 10 ∷ [])
    ∷ unsound 2 (place 1 2 1 3 10 ∷ [])
    ∷ unsound 3 (place 1 2 1 3 10 ∷ [])
    ∷ unsound 257 (place 1 2 1 3 10 ∷ [])
    -- a free slot is all zero
    ∷ unsound 0 (place 1 0 0 0 0 ∷ [])
    ∷ unsound 0 (place 0 1 0 0 0 ∷ [])
    ∷ unsound 0 (place 0 0 1 0 0 ∷ [])
    ∷ unsound 0 (place 0 0 0 1 0 ∷ [])
    ∷ unsound 0 (place 0 0 0 0 1 ∷ [])
    -- next counter at least 1, octets held between next counter and 512
    ∷ unsound 1 (place 1 2 0 3 10 ∷ [])
    ∷ sound 1 (place 1 2 3 3 10 ∷ [])
    ∷ unsound 1 (place 1 2 4 3 10 ∷ [])
    ∷ sound 1 (place 1 2 1 512 10 ∷ [])
    ∷ unsound 1 (place 1 2 1 513 10 ∷ [])
    -- LID below 2^28, number 2 to 15
    ∷ sound 1 (place (2 ^ 28 - 1) 15 1 3 10 ∷ [])
    ∷ unsound 1 (place (2 ^ 28) 15 1 3 10 ∷ [])
    ∷ unsound 1 (place 1 16 1 3 10 ∷ [])
    ∷ unsound 1 (place 1 1 1 3 10 ∷ [])
    -- no two share LID and number
    ∷ unsound 5 (place 1 2 1 3 10 ∷ zeros ∷ place 1 2 2 4 11 ∷ [])
    ∷ unsound 7 (place 3 2 1 3 10 ∷ place 1 2 1 3 10 ∷ place 1 2 2 4 11 ∷ [])
    ∷ sound 5 (place 1 2 1 3 10 ∷ zeros ∷ place 1 3 1 3 10 ∷ [])
    ∷ sound 5 (place 1 2 1 3 10 ∷ zeros ∷ place 2 2 1 3 10 ∷ [])
    ∷ []

-- ---- counts over the word

-- the number of busy slots, whether none is free, and the lowest that is
pub record Counts : Type 0 where
  pub busy : ℕ
  pub full : Bool
  pub lowest : ℕ

abbrev pub counted : Table → Counts
counted table = record { busy = busy_count table; full = is_full table; lowest = lowest_free table }

abbrev pub counts : (busy : ℕ) → Bool → (lowest : ℕ) → Counts
counts busy full lowest = record { busy = busy; full = full; lowest = lowest }

-- ---- a table with three slots taken

abbrev pub three : Table
three = made 13 (place 1 2 1 3 10 ∷ zeros ∷ place 1 3 2 5 11 ∷ place 2 2 1 7 12 ∷ [])

-- the same with a word that says nothing of the first
abbrev pub wrong : Table
wrong = made 12 (place 1 2 1 3 10 ∷ zeros ∷ place 1 3 2 5 11 ∷ place 2 2 1 7 12 ∷ [])

-- the last of the three alone; the first two
abbrev pub last : Table
last = made 8 (zeros ∷ zeros ∷ zeros ∷ place 2 2 1 7 12 ∷ [])

abbrev pub firsts : Table
firsts = made 5 (place 1 2 1 3 10 ∷ zeros ∷ place 1 3 2 5 11 ∷ [])

-- the index of a pair's slot, and the octets that it holds
abbrev pub found : (lid number : ℕ) → List ℕ
found lid number = index_of lid number three.slots ∷ held_for three lid number ∷ []

-- ---- expiry and release

abbrev pub dropping : ℕ → Table → Swept
dropping octets table = record { answer = accepted octets; table = table }

abbrev pub refusing : ℕ → Table → Swept
refusing number table = record { answer = refused number; table = table }

abbrev pub sweeps : List Swept
sweeps =
    expiry_of 15 4 three
    ∷ expiry_of 15 6 three
    ∷ expiry_of 15 0 three
    ∷ expiry_of 11 (2 ^ 32 - 1) three
    ∷ expiry_of 15 0 wrong
    ∷ release_of 1 three
    ∷ release_of 0 three
    ∷ release_of (2 ^ 28) three
    ∷ release_of (2 ^ 28) wrong
    ∷ []

-- an answer's own octets, and a refusal's own number, whichever it is
abbrev pub answers : List (Result ℕ Refusal)
answers = Ok 6 ∷ Err TableNotSound ∷ Err LidOutOfRange ∷ Err NoPayload ∷ []

-- ---- what is proved

pub record SlotCasesHold : Type 0 where
  pub soundly : map (λ (c : Soundness). is_sound c.table) tables ≡ map (λ (c : Soundness). c.is) tables
  -- of the words 0, 101, 1111111 and 11111111 in bits
  pub counting :
      map counted (made 0 [] ∷ made 5 [] ∷ made 127 [] ∷ made 255 [] ∷ [])
      ≡ counts 0 false 0 ∷ counts 2 false 1 ∷ counts 7 false 7 ∷ counts 8 true 8 ∷ []
  pub bits : map (bit_at 5) (0 ∷ 1 ∷ 2 ∷ 3 ∷ []) ≡ true ∷ false ∷ true ∷ false ∷ []
  pub empty : empty_table ≡ made 0 []
  pub word : table_of three.slots ≡ three
  -- a pair that is not open is past the last, and so is that of a free slot
  pub finding :
      found 1 2 ∷ found 1 3 ∷ found 2 2 ∷ found 2 3 ∷ found 0 0 ∷ []
      ≡ (0 ∷ 3 ∷ []) ∷ (2 ∷ 5 ∷ []) ∷ (3 ∷ 7 ∷ []) ∷ (8 ∷ 0 ∷ []) ∷ (8 ∷ 0 ∷ []) ∷ []
  pub holding : map held_in (three ∷ last ∷ wrong ∷ empty_table ∷ []) ≡ 15 ∷ 7 ∷ 0 ∷ 0 ∷ []
  -- ages 5, 4 and 3, then 1, 0 and 2^32 - 1
  pub sweeping :
      sweeps
      ≡ dropping 8 last ∷ dropping 0 three ∷ dropping 15 empty_table ∷ dropping 7 firsts ∷ refusing 2 wrong
      ∷ dropping 8 last ∷ dropping 0 three ∷ refusing 3 three ∷ refusing 2 wrong ∷ []
  pub answering : map sweep_answer answers ≡ accepted 6 ∷ refused 2 ∷ refused 3 ∷ refused 7 ∷ []
  -- answer and table are those of the call, and no others
  pub expiry : ExpiryGives 15 4 three (Ok 8) last
  pub not_expiry_of_9 : ExpiryGives 15 4 three (Ok 9) last → ⊥
  pub not_expiry_kept : ExpiryGives 15 4 three (Ok 8) three → ⊥
  pub release : ReleaseGives 1 three (Ok 8) last
  pub not_release_of_9 : ReleaseGives 1 three (Ok 9) last → ⊥
  pub not_release_kept : ReleaseGives 1 three (Ok 8) three → ⊥
