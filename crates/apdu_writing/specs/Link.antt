-- BST and VST in three parts: before, in and behind their application lists. No public contract cites this.
-- Assumes nothing.
use Rattle.std.specs.Prelude.{ℕ, ◌≡◌, List, [], ◌∷◌, ◌++◌, Bool, true, false, ◌&&◌, length}
use Rattle.bits.specs.Strings.{is_inside}
use Rattle.apdu_format.specs.Component.{Component, choice, class, entry_count, id_count}
use Rattle.apdu_format.specs.Rules.{when}
use Rattle.apdu_format.specs.Reading.{Value, fields}
use Rattle.apdu.specs.declared.lists.Row.{Row}
use Rattle.apdu.specs.declared.lists.Entry.{Entry}
use Rattle.apdu.specs.declared.records.Bst.{Bst}
use Rattle.apdu.specs.declared.records.Vst.{Vst}
use Rattle.apdu.specs.declared.records.Message.{Message}
use Rattle.apdu.specs.declared.records.Message.TheVariants as kind
use Rattle.apdu.specs.Values.{bit_of, num, if, id_list, bst_values, vst_values}
use Rattle.apdu.specs.Sound.{bst_sound, vst_sound, rows_fit}
use Rattle.apdu_writing.specs.declared.quill.Quill.{Quill}
use Rattle.apdu_writing.specs.declared.link.LinkFront.{LinkFront}
use Rattle.apdu_writing.specs.Quill.{Moves, Puts}

-- the values before the lists
abbrev pub bst_front : Bst → List Value
bst_front m = fields (8 ∷ []) ∷ fields (bit_of m.has_others ∷ m.manufacturer ∷ m.individual ∷ []) ∷ fields (m.time ∷ []) ∷ num m.profile ∷ []

abbrev pub vst_front : Vst → List Value
vst_front m = fields (9 ∷ []) ∷ fields (m.fill ∷ []) ∷ num m.profile ∷ []

-- the values of a configuration
abbrev pub configured : Vst → List Value
configured m = fields (bit_of m.has_status ∷ m.class ∷ []) ∷ fields (m.maker ∷ []) ∷ if m.has_status (fields (m.status ∷ []) ∷ [])

-- the values vs are written; a list of n entries, if p one of k, and the components js are left to write
pub record FrontPut (n : ℕ) (p : Bool) (k : ℕ) (js : List Component) (c : Quill) (r : LinkFront) (o o' : List ℕ) (vs : List Value) : Type 0 where
  pub so : Moves true (choice ∷ []) ((entry_count ∷ []) ++ (when p (entry_count ∷ []) ++ js)) c r.quill o o' vs
  pub first : r.first ≡ n
  pub two : r.two ≡ p
  pub second : r.second ≡ k

-- P of a BST and Q of a VST; of another message nothing
pub record ByKind (P : Bst → Type 0) (Q : Vst → Type 0) (m : Message) : Type 0 where
  pub bst : (x : Bst) → m ≡ kind.Bst x → P x
  pub vst : (x : Vst) → m ≡ kind.Vst x → Q x

-- a message up to its lists
abbrev pub LinkFrontPut : Message → Quill → LinkFront → List ℕ → List ℕ → Type 0
LinkFrontPut m c r o o' =
    ByKind (λ x. FrontPut x.mandatory x.has_others x.others (id_count ∷ []) c r o o' (bst_front x))
    (λ x. FrontPut x.applications false 0 (class ∷ []) c r o o' (vst_front x)) m

-- what stands behind its lists
abbrev pub LinkTailPut : List ℕ → Message → Quill → Quill → List ℕ → List ℕ → Type 0
LinkTailPut s m c r o o' =
    ByKind (λ x. Puts (is_inside (length s) x.profiles x.profile_count) (id_count ∷ []) c r o o' (id_list s x.profiles x.profile_count))
    (λ x. Puts true (class ∷ []) c r o o' (configured x)) m

-- a whole message
abbrev pub LinkPut : List ℕ → Message → List Entry → List Row → Quill → Quill → List ℕ → List ℕ → Type 0
LinkPut s m es rs c r o o' =
    ByKind (λ x. Puts (bst_sound (length s) x es rs && rows_fit (kind.Bst x) es) (choice ∷ []) c r o o' (fields (8 ∷ []) ∷ bst_values s x es rs))
    (λ x. Puts (vst_sound (length s) x es rs && rows_fit (kind.Vst x) es) (choice ∷ []) c r o o' (fields (9 ∷ []) ∷ vst_values s x es rs)) m
