-- Freeing the slots that a test picks, turn by turn.
use Rattle.std.proofs.Common.{◌≡◌, ℕ, zero, suc, ◌+◌, ◌<◌, Bool, true, false, List, [], ◌∷◌, ◌++◌, length, get_or, take, drop, set, sym, refl, ap, ◌∙◌, add-zero, le_of_lt, add-one, arith, length-take-le, drop-cons, take-suc}
use lib.Seq.{set_at, append_snoc}
use Rattle.refusals.specs.Check.{pick}
use Rattle.slots.specs.declared.Slot.{Slot}
use Rattle.slots.specs.Slots.{free}
use Rattle.slots.specs.Sweep.{freed, dropped_by}

freed_append : (f : Slot → Bool) (xs ys : List Slot) → freed f (xs ++ ys) ≡ freed f xs ++ freed f ys
unfolding freed
freed_append f [] ys = refl
freed_append f (x ∷ xs) ys = ap (λ (l : List Slot). pick (f x) free x ∷ l) (freed_append f xs ys)

pub length_freed : (f : Slot → Bool) (xs : List Slot) → length (freed f xs) ≡ length xs
unfolding freed
length_freed f [] = refl
length_freed f (x ∷ xs) = ap suc (length_freed f xs)

dropped_append : (f : Slot → Bool) (xs ys : List Slot) → dropped_by f (xs ++ ys) ≡ dropped_by f xs + dropped_by f ys
unfolding dropped_by
dropped_append f [] ys = omega arith
dropped_append f (x ∷ xs) ys = ap (λ (n : ℕ). pick (f x) x.held 0 + n) (dropped_append f xs ys) ∙ omega arith

-- nothing is looked at yet
pub freed_none : (f : Slot → Bool) (slots : List Slot) → slots ≡ freed f [] ++ slots
unfolding freed
freed_none f slots = refl

pub dropped_none : (f : Slot → Bool) → ◌≡◌ {A = ℕ} 0 (dropped_by f [])
unfolding dropped_by
dropped_none f = refl

at_mid : (x : Slot) (xs ys : List Slot) (i : ℕ) → length xs ≡ i → get_or (xs ++ x ∷ ys) i free ≡ x
at_mid x [] ys zero n = refl
at_mid x [] ys (suc i) n = absurd (omega arith)
at_mid x (y ∷ xs) ys zero n = absurd (omega arith)
at_mid x (y ∷ xs) ys (suc i) n = at_mid x xs ys i (omega arith)

-- one more slot is looked at
module _ (f : Slot → Bool) (slots : List Slot) (i : ℕ) (h : i < length slots) where
  -- the slot there is as it was
  pub freed_here : (left : List Slot) → left ≡ freed f (take i slots) ++ drop i slots → get_or left i free ≡ get_or slots i free
  freed_here left e =
      let n : length (freed f (take i slots)) ≡ i = length_freed f (take i slots) ∙ length-take-le i slots (le_of_lt h) in
      ap (λ (l : List Slot). get_or l i free) (e ∙ ap (λ (l : List Slot). freed f (take i slots) ++ l) (drop-cons slots i free h))
      ∙ at_mid (get_or slots i free) (freed f (take i slots)) (drop (suc i) slots) i n

  freed_mid : freed f (take i slots) ++ pick (f (get_or slots i free)) free (get_or slots i free) ∷ drop (suc i) slots ≡ freed f (take (i + 1) slots) ++ drop (i + 1) slots
  unfolding freed
  freed_mid =
      let x = get_or slots i free in
      let y = pick (f x) free x in
      sym (append_snoc (freed f (take i slots)) y (drop (suc i) slots))
      ∙ ap (λ (l : List Slot). l ++ drop (suc i) slots) (sym (freed_append f (take i slots) (x ∷ [])) ∙ ap (freed f) (sym (take-suc slots i free h)))
      ∙ ap (λ (k : ℕ). freed f (take k slots) ++ drop k slots) (sym (add-one i))

  pub freed_yes : (left : List Slot) → f (get_or slots i free) ≡ true → left ≡ freed f (take i slots) ++ drop i slots
      → set left i free ≡ freed f (take (i + 1) slots) ++ drop (i + 1) slots
  freed_yes left t e =
      let n : length (freed f (take i slots)) ≡ i = length_freed f (take i slots) ∙ length-take-le i slots (le_of_lt h) in
      ap (λ (l : List Slot). set l i free) (e ∙ ap (λ (l : List Slot). freed f (take i slots) ++ l) (drop-cons slots i free h))
      ∙ set_at (freed f (take i slots)) (get_or slots i free) (drop (suc i) slots) free i n
      ∙ ap (λ (b : Bool). freed f (take i slots) ++ pick b free (get_or slots i free) ∷ drop (suc i) slots) (sym t)
      ∙ freed_mid

  pub freed_no : (left : List Slot) → f (get_or slots i free) ≡ false → left ≡ freed f (take i slots) ++ drop i slots
      → left ≡ freed f (take (i + 1) slots) ++ drop (i + 1) slots
  freed_no left t e =
      e ∙ ap (λ (l : List Slot). freed f (take i slots) ++ l) (drop-cons slots i free h)
      ∙ ap (λ (b : Bool). freed f (take i slots) ++ pick b free (get_or slots i free) ∷ drop (suc i) slots) (sym t)
      ∙ freed_mid

  dropped_step : dropped_by f (take (i + 1) slots) ≡ dropped_by f (take i slots) + pick (f (get_or slots i free)) (get_or slots i free).held 0
  unfolding dropped_by
  dropped_step =
      ap (λ (k : ℕ). dropped_by f (take k slots)) (add-one i) ∙ ap (dropped_by f) (take-suc slots i free h)
      ∙ dropped_append f (take i slots) (get_or slots i free ∷ []) ∙ ap (λ (k : ℕ). dropped_by f (take i slots) + k) (add-zero _)

  pub dropped_yes : (d : ℕ) → f (get_or slots i free) ≡ true → d ≡ dropped_by f (take i slots) → d + (get_or slots i free).held ≡ dropped_by f (take (i + 1) slots)
  dropped_yes d t e = rw (dropped_step, t, e)

  pub dropped_no : (d : ℕ) → f (get_or slots i free) ≡ false → d ≡ dropped_by f (take i slots) → d ≡ dropped_by f (take (i + 1) slots)
  dropped_no d t e = e ∙ rw (dropped_step, t) (omega arith)
