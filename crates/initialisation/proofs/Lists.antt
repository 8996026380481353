-- A list from one place on.
-- Assumes nothing.
use Rattle.std.proofs.Common.{◌≡◌, ℕ, ◌+◌, ◌<◌, ◌≤◌, List, [], ◌∷◌, map, length, get_or, drop, sym, ap, ◌∙◌, add-one, drop-cons, drop_of_length-le}
use lib.ListN.{length-map}

-- the length of an array, out of that of its values
pub long : (A B : Type 0) (f : A → B) (l : List A) (n : ℕ) → length (map f l) ≡ n → length l ≡ n
long A B f l n e = sym (length-map l f) ∙ e

module _ {A : Type 0} where
  pub next_more : (d : A) (l : List A) (i : ℕ) → i < length l → drop i l ≡ get_or l i d ∷ drop (i + 1) l
  next_more d l i h = drop-cons l i d h ∙ ap (λ (j : ℕ). get_or l i d ∷ drop j l) (sym (add-one i))

  pub next_none : (l : List A) (i : ℕ) → length l ≤ i → drop i l ≡ []
  next_none l i h = drop_of_length-le l {i = i} h
