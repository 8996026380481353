-- Cases of what no code of this crate determines: a caller's row as words, and the number of a refusal (include/semuryeon.h).
-- Assumes nothing.
use Rattle.std.specs.Prelude.{ℕ, ◌+◌, ◌*◌, ◌^◌, ◌<◌, ◌≡◌, true, false, List, [], ◌∷◌, ◌++◌}
use Rattle.directory.specs.declared.Row.{Row}
use Rattle.words.specs.Answer.{SaysRefused}
use Rattle.words.specs.Items.{words_of}
use Rattle.words.specs.RowWords.{row_words}

-- a protected row of the factory area, and an open one of the writable area
abbrev pub rows : List Row
rows =
    record { id = 5; writable = false; start = 2; length = 3; protected = true }
    ∷ record { id = 6; writable = true; start = 0; length = 9; protected = false }
    ∷ []

pub record WordCasesHold : Type 0 where
  pub packed : words_of row_words rows ≡ (5 ∷ 0 ∷ 2 ∷ 3 ∷ 1 ∷ []) ++ (6 ∷ 1 ∷ 0 ∷ 9 ∷ 0 ∷ [])
  -- an answer says that it is refused n at p exactly when it is this number, and n is not 0
  pub refused : (n p : ℕ) → n < 2 ^ 8 → (n ≡ 0 → ⊥) → p < 2 ^ 24 → SaysRefused (n + 2 ^ 16 * p) n p
  pub only : (answer n p : ℕ) → SaysRefused answer n p → (answer ≡ n + 2 ^ 16 * p) × (n ≡ 0 → ⊥)
