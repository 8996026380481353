-- Laws of the elements' words: what is packed reads back, and words that are no elements are no sound ones. Assumes nothing.
use mathlib.Core.Path.{◌≡◌, refl, ap, ◌∙◌}
use mathlib.Core.Bool.{false, ◌&&◌}
use mathlib.Core.List.{List, ◌++◌}
use Prim.Native.Nat.{ℕ, zero, suc, ◌+◌, ◌*◌, ◌/◌, ◌%◌, ◌^◌, ◌<◌, ◌≤◌}
use native.Mathlib.Omega.{arith}
use lib.ListN.{length, get_or}
use lib.Dec.{eqb, leb}
use lib.Seq.{get_or-append-add, get_or-append_seam}
use borrow.Author.Tests.{eq-eqb, le-leb, eqb-true, leb-true}
use Rattle.refusals.proofs.Tests.{by_cases, and_left, and_right}
use Rattle.initialisation.specs.declared.records.Element.{Element}
use Rattle.initialisation.specs.Elements.{element_sound, each_sound, none_has, own_elements, elements_sound}
use Rattle.words.specs.Items.{words_of, items_from}
use Rattle.words.specs.Word.{narrow_to}
use Rattle.words.specs.ElementWords.{element_words, element_at, element_count, elements_in, ElementFits, UnpackingElements, OtherElementsLength, LargeElement}
use Rattle.words.proofs.Words.{narrow_small, narrow_above, word_inside}
use Rattle.words.proofs.ItemLaws.{take_items, length_words, items_back, one_unsound}

-- ---- reading back

again : (p : List ℕ) (e : Element) (rest : List ℕ) → ElementFits e → element_at (p ++ (element_words e ++ rest)) (length p) ≡ e
unfolding element_at element_words
again p e rest f =
    simp (get_or-append-add, get_or-append_seam, ← narrow_small 8 e.eid f.eid, ← narrow_small 8 e.aid f.aid, ← narrow_small 8 e.mark_length f.mark)

four : (e : Element) → length (element_words e) ≡ 4
unfolding element_words
four e = refl

-- the elements that count
own_are : (words : List ℕ) (n : ℕ) → n ≤ 8 → length words ≡ 4 * n → own_elements (elements_in words) ≡ items_from element_at 4 n words 0
unfolding elements_in element_count
own_are words n h e =
    let z : length words % 4 ≡ 0 = omega arith in
    let k : length words / 4 ≡ n = omega arith in
    simp (eq-eqb _ _ z, k, le-leb _ _ h) (take_items element_at 4 n 8 words 0 h)

pub unpacking_elements : UnpackingElements
unfolding UnpackingElements
unpacking_elements es h f =
    own_are (words_of element_words es) (length es) h (length_words element_words 4 four es) ∙ items_back element_words 4 four element_at ElementFits again es f

-- ---- what is refused

module _ (octets : ℕ) (words : List ℕ) where
  nine_unsound : element_count (length words) ≡ 9 → elements_sound octets (elements_in words) ≡ false
  unfolding elements_sound elements_in
  nine_unsound e = simp e

  -- words that are no elements are nine of them
  by_count : ((n : ℕ) → n ≤ 8 → length words ≡ 4 * n → elements_sound octets (elements_in words) ≡ false) → elements_sound octets (elements_in words) ≡ false
  unfolding element_count
  by_count few =
      by_cases (eqb (length words % 4) 0)
      (λ z.
      by_cases (leb (length words / 4) 8) (λ h. few (length words / 4) (leb-true _ _ h) (omega (arith, eqb-true (length words % 4) 0 z))) (λ h. nine_unsound (simp (z, h))))
      (λ z. nine_unsound (simp z))

  unsound_at : (n i : ℕ) → n ≤ 8 → length words ≡ 4 * n → i < n → element_sound octets (element_at words (4 * i)) ≡ false → elements_sound octets (elements_in words) ≡ false
  unfolding elements_sound each_sound
  unsound_at n i h e l u =
      and_right (leb (elements_in words).count 8)
      (ap (each_sound octets) (own_are words n h e)
      ∙ one_unsound element_at 4 (element_sound octets) (each_sound octets) (λ x xs. and_left (none_has x.eid xs && each_sound octets xs))
      (λ x xs r. and_right (element_sound octets x) (and_right (none_has x.eid xs) r)) i n words l u)

pub other_elements_length : OtherElementsLength
unfolding OtherElementsLength
other_elements_length octets words other = by_count octets words (λ n h e. absurd (other n h e))

-- a word that is too large is 255 where at most 127 or 31 are taken
large_at : (octets : ℕ) (words : List ℕ) (at k : ℕ) → k < 4 → (k ≡ 2 → ⊥) → 2 ^ 8 ≤ get_or words (at + k) 0 → element_sound octets (element_at words at) ≡ false
unfolding element_sound element_at
large_at octets words at zero l n h =
    let z : at + 0 ≡ at = omega arith in
    and_right (leb 1 (narrow_to 8 (get_or words at 0))) (and_left _ (narrow_above 127 (get_or words at 0) (omega arith) (rw z at h)))
large_at octets words at (suc zero) l n h =
    and_right (leb 1 (narrow_to 8 (get_or words at 0)))
    (and_right (leb (narrow_to 8 (get_or words at 0)) 127) (and_left _ (narrow_above 31 (get_or words (at + 1) 0) (omega arith) h)))
large_at octets words at (suc (suc zero)) l n h = absurd (n refl)
large_at octets words at (suc (suc (suc zero))) l n h =
    and_right (leb 1 (narrow_to 8 (get_or words at 0)))
    (and_right (leb (narrow_to 8 (get_or words at 0)) 127)
    (and_right (leb (narrow_to 8 (get_or words (at + 1) 0)) 31) (and_left _ (narrow_above 127 (get_or words (at + 3) 0) (omega arith) h))))
large_at octets words at (suc (suc (suc (suc k)))) l n h = absurd (omega arith)

pub large_element : LargeElement
unfolding LargeElement
large_element octets words i k l n h =
    by_count octets words
    (λ m few e. unsound_at octets words m i few e (omega (arith, word_inside words (4 * i + k) (omega arith))) (large_at octets words (4 * i) k l n h))
