-- BST and VST: what agrees of them piece by piece.
-- Assumes nothing.
use Prim.Native.Nat.{ℕ, ◌-◌}
use mathlib.Core.Path.{◌≡◌, refl, ap, sym, ◌∙◌}
use mathlib.Core.List.{List, [], ◌∷◌}
use mathlib.Core.Bool.{Bool, true, false, ◌&&◌, not}
use lib.Dec.{eqb}
use lib.ListN.{length, take, drop, length-drop}
use borrow.Author.Tests.{eqb-true}
use Rattle.bits.specs.Strings.{is_inside}
use Rattle.apdu_format.proofs.Tests.{both}
use Rattle.apdu.specs.declared.lists.Row.{Row}
use Rattle.apdu.specs.declared.lists.Entry.{Entry}
use Rattle.apdu.specs.declared.records.Bst.{Bst}
use Rattle.apdu.specs.declared.records.Vst.{Vst}
use Rattle.apdu.specs.Values.{bit_of, num, rows_of, entries_values, bst_values, vst_values}
use Rattle.apdu.specs.Sound.{sound_if, entries_sound, bst_sound, vst_sound}
use Rattle.apdu.proofs.Laws.{own_sound}
use Rattle.apdu_same.specs.Walk.{same_if, same_part, same_entries, same_applications, Agree, Compares}
use Rattle.apdu_same.proofs.Agreement.{agree_field, agree_number, begin, step, done, then, step_if, given, Lead, lead_more, lead_last, led, lead_agrees, lead_true, flag_first}
use Rattle.apdu_same.proofs.Leaves.{ids_agree}
use Rattle.apdu_same.proofs.EntryLists.{applications_agree}

-- ---- VST

module _ (s : List ℕ) (a : Vst) (es : List Entry) (vs : List Row) (t : List ℕ) (b : Vst) (fs : List Entry) (ws : List Row) where
  pub vst_same : {list p r : Bool} → length es ≡ 32 → length fs ≡ 32
      → list ≡ same_if (eqb a.fill b.fill && eqb a.profile b.profile) true
      (same_applications s a.applications (take a.applications es) vs t b.applications (take a.applications fs) ws)
      → p ≡ eqb (bit_of a.has_status) (bit_of b.has_status)
      → r ≡ same_if ((list && (p && eqb a.class b.class)) && eqb a.maker b.maker) a.has_status (eqb a.status b.status)
      → Compares (vst_sound (length s) a es vs) (vst_sound (length t) b fs ws) (vst_values s a es vs) (vst_values t b fs ws) r
  unfolding vst_values vst_sound
  vst_same {list} {p} {r} n m e₁ e₂ e₃ =
      record {
        so = λ f g.
            (then {b = true} (begin (agree_field a.fill b.fill))
            (then (step (eqb a.fill b.fill) (agree_number a.profile b.profile))
            (then (step_if {p = true} {q = true} (λ z. refl) e₁ (λ z w. applications_agree s t a.applications b.applications es fs vs ws (n ∙ sym m) f g))
            (then
            (then (step list (lead_agrees class))
            (then (step (list && (p && eqb a.class b.class)) (agree_field a.maker b.maker))
            (step_if status e₃ (λ z w. agree_field a.status b.status))))
            (done r))))).so refl;
      }
    where
      class : Lead (bit_of a.has_status ∷ a.class ∷ []) (bit_of b.has_status ∷ b.class ∷ []) (p && eqb a.class b.class)
      class = lead_more e₂ (lead_last a.class b.class refl)

      status : ((list && (p && eqb a.class b.class)) && eqb a.maker b.maker) ≡ true → a.has_status ≡ b.has_status
      status z =
          let k = both (list && (p && eqb a.class b.class)) (eqb a.maker b.maker) z in
          let j = both list (p && eqb a.class b.class) k.0 in
          (flag_first a.has_status b.has_status (a.class ∷ []) (b.class ∷ []) (sym class.is ∙ j.1)).0

-- ---- BST

bst_parts : (n : ℕ) (m : Bst) (es : List Entry) (vs : List Row) → bst_sound n m es vs ≡ true
    → (entries_sound n (take m.mandatory es) vs ≡ true)
    × (sound_if m.has_others (entries_sound n (take m.others (drop m.mandatory es)) (drop (rows_of (take m.mandatory es)) vs)) ≡ true)
    × (is_inside n m.profiles m.profile_count ≡ true)
unfolding bst_sound
bst_parts n m es vs f =
    let first = take m.mandatory es in
    let later = sound_if m.has_others (entries_sound n (take m.others (drop m.mandatory es)) (drop (rows_of first) vs)) in
    let last = is_inside n m.profiles m.profile_count in
    let h = both (entries_sound n first (take (rows_of first) vs)) (later && last) f in
    let k = both later last h.1 in
    (own_sound n first vs ∙ h.0, k.0, k.1)

count_agrees : (c : Bool) (s : List ℕ) (n : ℕ) (es : List Entry) (vs : List Row) (t : List ℕ) (m : ℕ) (fs : List Entry) (ws : List Row)
    → same_if c true (same_applications s n es vs t m fs ws) ≡ true → eqb n m ≡ true
unfolding same_if same_applications
count_agrees c s n es vs t m fs ws e =
    (both (eqb n m) (same_entries s es vs t fs ws) (both c (eqb n m && same_entries s es vs t fs ws) e).1).0

-- the second lists, which start behind as many entries
second_agrees : (s t : List ℕ) (n m : ℕ) (es fs : List Entry) (vs ws : List Row) {from from' used gone used' gone' : ℕ} → from ≡ from' → used ≡ used' → gone ≡ gone'
    → length es ≡ length fs → entries_sound (length s) (take n (drop from es)) (drop used' vs) ≡ true → entries_sound (length t) (take m (drop from' fs)) (drop gone' ws) ≡ true
    → Agree (num n ∷ entries_values s (take n (drop from es)) (take (rows_of (take n (drop from es))) (drop used' vs)))
    (num m ∷ entries_values t (take m (drop from' fs)) (take (rows_of (take m (drop from' fs))) (drop gone' ws)))
    (same_applications s n (take n (drop from es)) (drop used vs) t m (take n (drop from fs)) (drop gone ws))
second_agrees s t n m es fs vs ws {from} {from'} {used} {gone} {used'} {gone'} k u w h p q =
    rw (← k, u, w)
    (applications_agree s t n m (drop from es) (drop from fs) (drop used' vs) (drop gone' ws)
    (length-drop from es ∙ ap (λ (i : ℕ). i - from) h ∙ sym (length-drop from fs)) p (rw (← k) at q))

module _ (s : List ℕ) (a : Bst) (es : List Entry) (vs : List Row) (t : List ℕ) (b : Bst) (fs : List Entry) (ws : List Row) where
  abbrev first_here : List Entry
  first_here = take a.mandatory es

  abbrev first_there : List Entry
  first_there = take b.mandatory fs

  pub bst_same : {l list second r : Bool} {used gone : ℕ} → length es ≡ 32 → length fs ≡ 32 → used ≡ rows_of first_here → gone ≡ rows_of first_there
      → Lead (bit_of a.has_others ∷ a.manufacturer ∷ a.individual ∷ []) (bit_of b.has_others ∷ b.manufacturer ∷ b.individual ∷ []) l → not l ≡ false
      → list ≡ same_if (eqb a.time b.time && eqb a.profile b.profile) true (same_applications s a.mandatory first_here vs t b.mandatory (take a.mandatory fs) ws)
      → second ≡ same_if list a.has_others
      (same_applications s a.others (take a.others (drop a.mandatory es)) (drop used vs) t b.others (take a.others (drop a.mandatory fs)) (drop gone ws))
      → r ≡ same_if second true (same_part s a.profiles a.profile_count t b.profiles b.profile_count)
      → Compares (bst_sound (length s) a es vs) (bst_sound (length t) b fs ws) (bst_values s a es vs) (bst_values t b fs ws) r
  unfolding bst_values
  bst_same {l} {list} {second} {r} {used} {gone} n m u w d h e₁ e₂ e₃ =
      record {
        so = λ f g.
            let f' = bst_parts (length s) a es vs f in
            let g' = bst_parts (length t) b fs ws g in
            led d h
            (then (begin (agree_field a.time b.time))
            (then (step (eqb a.time b.time) (agree_number a.profile b.profile))
            (then
            (step_if {p = true} {q = true} (λ z. refl) e₁
            (λ z i. applications_agree s t a.mandatory b.mandatory es fs vs ws (n ∙ sym m) f'.0 g'.0))
            (then
            (step_if (λ z. flag) e₂ (λ z i. second_agrees s t a.others b.others es fs vs ws (counts z) u w (n ∙ sym m) (given _ _ i f'.1) (given _ _ (sym flag ∙ i) g'.1)))
            (then (step_if {p = true} {q = true} (λ z. refl) e₃ (λ z i. ids_agree s a.profiles a.profile_count t b.profiles b.profile_count f'.2 g'.2)) (done r))))));
      }
    where
      flag : a.has_others ≡ b.has_others
      flag = (flag_first a.has_others b.has_others (a.manufacturer ∷ a.individual ∷ []) (b.manufacturer ∷ b.individual ∷ []) (lead_true d h)).0

      counts : list ≡ true → a.mandatory ≡ b.mandatory
      counts z =
          eqb-true a.mandatory b.mandatory
          (count_agrees (eqb a.time b.time && eqb a.profile b.profile) s a.mandatory first_here vs t b.mandatory (take a.mandatory fs) ws (sym e₁ ∙ z))
