-- Lists as words: the words of each item, one behind the other; and so many items read at places a fixed size apart. The caller packs; only reading is code.
-- Assumes nothing.
use Rattle.std.specs.Prelude.{ℕ, zero, suc, ◌+◌, List, [], ◌∷◌, ◌++◌}

unfoldable pub words_of : {A : Type 0} → (A → List ℕ) → List A → List ℕ
words_of words [] = []
words_of words (x ∷ xs) = words x ++ words_of words xs

-- n items from a place on, each of so many words
unfoldable pub items_from : {A : Type 0} → (List ℕ → ℕ → A) → (size n : ℕ) → List ℕ → ℕ → List A
items_from item size zero words at = []
items_from item size (suc n) words at = item words at ∷ items_from item size n words (at + size)

-- each item has it
pub data All {A : Type 0} (Has : A → Type 0) : List A → Type 0 where
  none : All Has []
  more : {x : A} {xs : List A} → Has x → All Has xs → All Has (x ∷ xs)
