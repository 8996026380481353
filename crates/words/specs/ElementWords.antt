-- The tag's elements as words, four each: eid, AID, and where the mark starts and how many octets it has. A word left over, or more than 8 elements, makes
-- nine of them, which a BST call refuses as 26.
-- Assumes nothing.
use Rattle.std.specs.Prelude.{ℕ, ◌+◌, ◌*◌, ◌/◌, ◌%◌, ◌^◌, ◌≤◌, ◌<◌, ◌≡◌, false, ◌&&◌, List, [], ◌∷◌, length, get_or, eqb, leb}
use Rattle.refusals.specs.Check.{pick}
use Rattle.initialisation.specs.declared.records.Element.{Element}
use Rattle.initialisation.specs.declared.records.Elements.{Elements}
use Rattle.initialisation.specs.Elements.{most_elements, own_elements, elements_sound}
use Rattle.words.specs.Items.{words_of, items_from, All}
use Rattle.words.specs.Word.{narrow_to}

-- ---- packing

unfoldable pub element_words : Element → List ℕ
element_words e = e.eid ∷ e.aid ∷ e.mark ∷ e.mark_length ∷ []

-- ---- unpacking

-- a number above 255 is 255, which is no eid, no AID and no mark's length
unfoldable pub element_at : List ℕ → ℕ → Element
element_at words at =
    record {
      eid = narrow_to 8 (get_or words at 0);
      aid = narrow_to 8 (get_or words (at + 1) 0);
      mark = get_or words (at + 2) 0;
      mark_length = narrow_to 8 (get_or words (at + 3) 0);
    }

-- how many elements so many words are, or 9
unfoldable pub element_count : ℕ → ℕ
element_count words = pick (eqb (words % 4) 0 && leb (words / 4) 8) (words / 4) 9

unfoldable pub elements_in : List ℕ → Elements
elements_in words = record { list = items_from element_at 4 8 words 0; count = element_count (length words) }

-- ---- promises (proofs/ElementLaws.antt proves each; `elements_in` cites them)

-- eid, AID and the mark's length have eight bits
pub record ElementFits (e : Element) : Type 0 where
  pub eid : e.eid < 2 ^ 8
  pub aid : e.aid < 2 ^ 8
  pub mark : e.mark_length < 2 ^ 8

-- up to eight elements are what their words are
unfoldable pub UnpackingElements : Type 0
UnpackingElements =
    (es : List Element) → length es ≤ most_elements → All ElementFits es → own_elements (elements_in (words_of element_words es)) ≡ es

-- words that are not four for each of up to eight are no sound elements, however many octets the marks have
unfoldable pub OtherElementsLength : Type 0
OtherElementsLength =
    (octets : ℕ) (words : List ℕ) → ((n : ℕ) → n ≤ most_elements → length words ≡ 4 * n → ⊥) → elements_sound octets (elements_in words) ≡ false

-- nor are those with an eid, an AID or a mark's length above 255
unfoldable pub LargeElement : Type 0
LargeElement =
    (octets : ℕ) (words : List ℕ) (i k : ℕ) → k < 4 → (k ≡ 2 → ⊥) → 2 ^ 8 ≤ get_or words (4 * i + k) 0 → elements_sound octets (elements_in words) ≡ false
