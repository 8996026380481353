-- What the checks of a BST call tell of its records.
-- Assumes nothing.
use Rattle.std.proofs.Common.{◌≡◌, ℕ, ◌^◌, ◌<◌, true, ◌&&◌, eqb, ltb, List, [], ◌∷◌, ◌++◌, length, take, drop, sym, refl, ap, ◌∙◌, ltb-true}
use Rattle.refusals.specs.Check.{first_of}
use Rattle.refusals.proofs.Tests.{by_cases}
use Rattle.bits.specs.Strings.{is_inside}
use Rattle.apdu_format.specs.Component.{Component, choice, lead, fixed, integer, entry_count, id_count}
use Rattle.apdu_format.specs.Table.{always, given, layout_of}
use Rattle.apdu_format.specs.Rules.{shape, checks_of, brings, announced, present}
use Rattle.apdu_format.specs.Reading.{Value, fields, numbers_of}
use Rattle.apdu_format.specs.Writing.{Pen, fields_fit, bits_of, fits, is_value, written, none, in_range}
use Rattle.apdu_format.proofs.Tests.{both, never}
use Rattle.apdu.specs.declared.lists.Row.{Row}
use Rattle.apdu.specs.declared.lists.Entry.{Entry}
use Rattle.apdu.specs.declared.records.Bst.{Bst}
use Rattle.apdu.specs.declared.records.Message.TheVariants as kind
use Rattle.apdu.specs.Values.{bit_of, rows_of, bst_values, values_of}
use Rattle.apdu.specs.Sound.{sound_if, entries_sound, bst_sound, sound, well_formed}
use Rattle.apdu.proofs.Formed.{formed_ranges, formed_sound}
use Rattle.apdu_writing.specs.Quill.{pen_at, writes}
use Rattle.apdu_writing.proofs.Levels.{writes_append, writes_dead, writes_fine, writes_wrong}

-- a value that is written was in range
passes : (i : Component) (js : List Component) (room : ℕ) (v : Value) (rest : List Value) (b : List ℕ) → (writes ((i ∷ []) ++ js) (pen_at (v ∷ rest) room b)).ok ≡ true
    → is_value i room v ≡ true
passes i js room v rest b h =
    by_cases (is_value i room v) (λ t. t)
    (λ t.
    never
    (sym (ap (λ (p : Pen). p.ok) (writes_append (i ∷ []) js (pen_at (v ∷ rest) room b)) ∙ writes_dead js (writes (i ∷ []) (pen_at (v ∷ rest) room b)) (writes_wrong i room v rest b t))
    ∙ h))

module _ (s : List ℕ) (m : Bst) (es : List Entry) (rs : List Row) (formed : well_formed s (kind.Bst m) es rs ≡ true) where
  -- the list of profiles lies in the lent octets
  pub profiles_inside : is_inside (length s) m.profiles m.profile_count ≡ true
  unfolding sound bst_sound
  profiles_inside =
      let first = take m.mandatory es in
      let a = entries_sound (length s) first (take (rows_of first) rs) in
      let b = sound_if m.has_others (entries_sound (length s) (take m.others (drop m.mandatory es)) (drop (rows_of first) rs)) in
      let c = is_inside (length s) m.profiles m.profile_count in
      (both b c (both a (b && c) (formed_sound s (kind.Bst m) es rs formed)).1).1

-- a time in range, out of a message whose leading part and time come first
timed : (lead_value : List ℕ) (time : ℕ) (rest : List Value) → (writes (choice ∷ []) (pen_at (fields (8 ∷ []) ∷ fields lead_value ∷ fields (time ∷ []) ∷ rest) 32 [])).ok ≡ true
    → is_value (fixed 4) 32 (fields (time ∷ [])) ≡ true
unfolding numbers_of brings announced present layout_of
timed fs time rest h =
    let vs = fields (time ∷ []) ∷ rest in
    let b = bits_of (shape choice) (fields (8 ∷ [])) in
    let h₁ : (writes (lead 8 ∷ []) (pen_at (fields fs ∷ vs) 32 ([] ++ b))).ok ≡ true =
    sym (ap (λ (p : Pen). p.ok) (writes_fine choice 32 (fields (8 ∷ [])) (fields fs ∷ vs) [] (unfold is_value fits fields_fit shape checks_of first_of in refl))) ∙ h in
    let ok = passes (lead 8) [] 32 (fields fs) vs ([] ++ b) h₁ in
    let h₂ = sym (ap (λ (p : Pen). p.ok) (writes_fine (lead 8) 32 (fields fs) vs ([] ++ b) ok)) ∙ h₁ in
    passes (fixed 4) (present fs (always integer ∷ always entry_count ∷ given 0 entry_count ∷ always id_count ∷ [])) 32 (fields (time ∷ [])) rest (([] ++ b) ++ bits_of (shape (lead 8)) (fields fs)) h₂

in_time : (time : ℕ) → is_value (fixed 4) 32 (fields (time ∷ [])) ≡ true → time < 2 ^ 32
unfolding is_value fits fields_fit shape numbers_of
in_time time h =
    ltb-true time (2 ^ 32)
    (both (ltb time (2 ^ 32)) true (both (ltb time (2 ^ 32) && true) (eqb (first_of (checks_of (fixed 4) 32 (time ∷ []))) 0) h).0).0

pub time_fits : (s : List ℕ) (m : Bst) (es : List Entry) (rs : List Row) → well_formed s (kind.Bst m) es rs ≡ true → m.time < 2 ^ 32
unfolding in_range written writes values_of bst_values
time_fits s m es rs formed =
    let vs = values_of s (kind.Bst m) es rs in
    in_time m.time (timed (bit_of m.has_others ∷ m.manufacturer ∷ m.individual ∷ []) m.time _ (both (written vs).ok (none (written vs).left) (formed_ranges s (kind.Bst m) es rs formed)).0)
