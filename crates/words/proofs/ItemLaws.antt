-- Items that are put as words read back; and one that is not sound makes them all so. Assumes nothing.
use mathlib.Core.Path.{◌≡◌, refl, ap, sym, ◌∙◌}
use mathlib.Core.Bool.{Bool, false}
use mathlib.Core.List.{List, [], ◌∷◌, ◌++◌, append_assoc}
use Prim.Native.Nat.{ℕ, zero, suc, ◌+◌, ◌*◌, ◌≤◌, ◌<◌}
use native.Mathlib.Omega.{arith}
use native.Mathlib.Nat.{mul-zero, mul-suc}
use lib.ListN.{length, length-append, take}
use Rattle.words.specs.Items.{words_of, items_from, All, none, more}

module _ {A : Type 0} (item : List ℕ → ℕ → A) (size : ℕ) where
  pub length_items : (n : ℕ) (words : List ℕ) (at : ℕ) → length (items_from item size n words at) ≡ n
  unfolding items_from
  length_items zero words at = refl
  length_items (suc n) words at = ap suc (length_items n words (at + size))

  -- fewer of them are the first ones
  pub take_items : (k n : ℕ) (words : List ℕ) (at : ℕ) → k ≤ n → take k (items_from item size n words at) ≡ items_from item size k words at
  unfolding items_from
  take_items zero n words at h = refl
  take_items (suc k) zero words at h = absurd (omega arith)
  take_items (suc k) (suc n) words at h = ap (λ (l : List A). item words at ∷ l) (take_items k n words (at + size) (omega arith))

module _ {A : Type 0} (words : A → List ℕ) (size : ℕ) (sized : (x : A) → length (words x) ≡ size) where
  pub length_words : (xs : List A) → length (words_of words xs) ≡ size * length xs
  unfolding words_of
  length_words [] = sym (mul-zero size)
  length_words (x ∷ xs) =
      let h : length (words_of words xs) ≡ size * length xs = length_words xs in
      let s : length (words x) ≡ size = sized x in
      let m : size * suc (length xs) ≡ size * length xs + size = mul-suc size (length xs) in
      omega (arith, length-append (words x) (words_of words xs))

  module _ (item : List ℕ → ℕ → A) (Fits : A → Type 0) (back : (p : List ℕ) (x : A) (rest : List ℕ) → Fits x → item (p ++ (words x ++ rest)) (length p) ≡ x) where
    items_behind : (p : List ℕ) (xs : List A) → All Fits xs → items_from item size (length xs) (p ++ words_of words xs) (length p) ≡ xs
    unfolding words_of items_from
    items_behind p [] none = refl
    items_behind p (x ∷ xs) (more f fs) =
        let e : length p + size ≡ length (p ++ words x) = ap (λ (k : ℕ). length p + k) (sym (sized x)) ∙ sym (length-append p (words x)) in
        ap (λ (y : A). y ∷ items_from item size (length xs) (p ++ (words x ++ words_of words xs)) (length p + size)) (back p x (words_of words xs) f)
        ∙ ap (λ (l : List A). x ∷ l)
        (ap (λ (k : ℕ). items_from item size (length xs) (p ++ (words x ++ words_of words xs)) k) e
        ∙ ap (λ (w : List ℕ). items_from item size (length xs) w (length (p ++ words x))) (sym (append_assoc p (words x) (words_of words xs)))
        ∙ items_behind (p ++ words x) xs fs)

    pub items_back : (xs : List A) → All Fits xs → items_from item size (length xs) (words_of words xs) 0 ≡ xs
    items_back xs f = items_behind [] xs f

-- ---- one that is not sound

-- a test that asks of each item, among others, whether it is sound
module _ {A : Type 0} (item : List ℕ → ℕ → A) (size : ℕ) (sound : A → Bool) (all : List A → Bool)
    (first : (x : A) (xs : List A) → sound x ≡ false → all (x ∷ xs) ≡ false) (rest : (x : A) (xs : List A) → all xs ≡ false → all (x ∷ xs) ≡ false) where
  unsound_from : (i n : ℕ) (words : List ℕ) (at : ℕ) → i < n → sound (item words (at + size * i)) ≡ false → all (items_from item size n words at) ≡ false
  unfolding items_from
  unsound_from i zero words at h e = absurd (omega arith)
  unsound_from zero (suc n) words at h e =
      let z : at + size * 0 ≡ at = omega (arith, mul-zero size) in
      first _ _ (ap (λ (k : ℕ). sound (item words k)) (sym z) ∙ e)
  unsound_from (suc i) (suc n) words at h e =
      let s : at + size * suc i ≡ at + size + size * i = omega (arith, mul-suc size i) in
      rest _ _ (unsound_from i n words (at + size) (omega arith) (ap (λ (k : ℕ). sound (item words k)) (sym s) ∙ e))

  pub one_unsound : (i n : ℕ) (words : List ℕ) → i < n → sound (item words (size * i)) ≡ false → all (items_from item size n words 0) ≡ false
  one_unsound i n words h e =
      let z : 0 + size * i ≡ size * i = omega arith in
      unsound_from i n words 0 h (ap (λ (k : ℕ). sound (item words k)) z ∙ e)
