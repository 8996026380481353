-- Finding a pair's slot, and sums over the slots, as the library's iterators say them.
use Rattle.std.proofs.Common.{◌≡◌, ℕ, suc, ◌+◌, ◌*◌, ◌<◌, ◌≤◌, Bool, true, false, not, cond, ltb, Some, None, List, [], ◌∷◌, ◌++◌, length, get_or, refl, ap, ◌∙◌, arith}
use borrow.Author.Tests.{ltb-false}
use Rattle.std.specs.List.{sum_by, position_or_len}
use Rattle.std.specs.Option.{unwrap_or}
use Rattle.std.proofs.lemmas.List.Sums.{sum_by-cons}
use Rattle.refusals.specs.Check.{pick}
use Rattle.slots.specs.declared.Slot.{Slot}
use Rattle.slots.specs.Slots.{free, holds_pair, index_of, total, held_of}

pub index_is : (lid number : ℕ) (slots : List Slot) → position_or_len (holds_pair lid number) slots ≡ index_of lid number slots
unfolding index_of
index_is lid number [] = refl
index_is lid number (slot ∷ slots) = go (holds_pair lid number slot) (index_is lid number slots)
  where
    go : (b : Bool) → position_or_len (holds_pair lid number) slots ≡ index_of lid number slots
        → cond (not b) (1 + position_or_len (holds_pair lid number) slots) 0 ≡ pick b 0 (index_of lid number slots + 1)
    go true e = refl
    go false e = omega (arith, e)

pub index_le : (lid number : ℕ) (slots : List Slot) → index_of lid number slots ≤ length slots
unfolding index_of
index_le lid number [] = omega arith
index_le lid number (slot ∷ slots) = go (holds_pair lid number slot) (index_le lid number slots)
  where
    go : (b : Bool) → index_of lid number slots ≤ length slots → pick b 0 (index_of lid number slots + 1) ≤ suc (length slots)
    go true h = omega arith
    go false h = omega arith

-- what `position` answers over the eight slots
pub index_or : (lid number : ℕ) (slots : List Slot) → length slots ≡ 8
    → unwrap_or (cond (ltb (position_or_len (holds_pair lid number) slots) (length slots)) (Some (position_or_len (holds_pair lid number) slots)) None) 8 ≡ index_of lid number slots
index_or lid number slots n = go (ltb (position_or_len (holds_pair lid number) slots) (length slots)) refl
  where
    go : (b : Bool) → ltb (position_or_len (holds_pair lid number) slots) (length slots) ≡ b
        → unwrap_or (cond b (Some (position_or_len (holds_pair lid number) slots)) None) 8 ≡ index_of lid number slots
    go true e = index_is lid number slots
    go false e =
        let past = ltb-false (position_or_len (holds_pair lid number) slots) (length slots) e in
        omega (arith, index_is lid number slots, index_le lid number slots, past)

-- ---- sums

pub total_is : {A : Type 0} (f : A → ℕ) (xs : List A) → sum_by f xs ≡ total f xs
unfolding total
total_is f [] = refl
total_is f (x ∷ xs) = sum_by-cons f x xs ∙ ap (λ (n : ℕ). f x + n) (total_is f xs)

-- slots of at most 512 octets each
pub total_small : (slots : List Slot) → ((k : ℕ) → k < length slots → (get_or slots k free).held ≤ 512) → total held_of slots ≤ 512 * length slots
unfolding total
total_small [] h = omega arith
total_small (slot ∷ slots) h =
    let here = h 0 (omega arith) in
    omega (arith, here, total_small slots (λ k l. h (suc k) (omega arith)))

pub total_append : {A : Type 0} (f : A → ℕ) (xs ys : List A) → total f (xs ++ ys) ≡ total f xs + total f ys
unfolding total
total_append f [] ys = omega arith
total_append f (x ∷ xs) ys = ap (λ (n : ℕ). f x + n) (total_append f xs ys) ∙ omega arith
