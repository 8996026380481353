-- What the calls answer fits into an answer's number: refusals are below 256, octets below 2^24; and which answers change the table. Assumes nothing.
use mathlib.Core.Path.{◌≡◌, refl, sym, subst}
use mathlib.Core.Bool.{Bool, true, false, not, true≢false, false≢true}
use mathlib.Core.List.{List, [], ◌∷◌}
use Prim.Native.Nat.{ℕ, ◌+◌, ◌*◌, ◌≤◌, ◌<◌, ◌^◌}
use native.Mathlib.Omega.{arith}
use lib.ListN.{length}
use lib.Dec.{eqb}
use borrow.Author.Tests.{eqb-true}
use Rattle.std.specs.Prelude.{Result, Ok, Err, is_ok}
use Rattle.refusals.specs.Check.{pick, Check, check, first_of, Answer, refused, accepted}
use Rattle.refusals.specs.declared.Refusal.{Refusal}
use Rattle.refusals.specs.Refusal.{number_of}
use Rattle.refusals.proofs.Tests.{numbers_to, first_le}
use Rattle.slots.specs.declared.Slot.{Slot}
use Rattle.slots.specs.declared.Table.{Table}
use Rattle.slots.specs.Slots.{lid_in_range, is_sound, table_of}
use Rattle.slots.specs.Sweep.{aged_slot, of_lid, Swept, freed, dropped_by, swept_by, expiry_of, release_of, sweep_answer, ExpiryGives, ReleaseGives}
use Rattle.slots.specs.Model.{sound_slot, all_sound}
use Rattle.slots.proofs.Tests.{and_l, and_r, not_f}
use Rattle.slots.proofs.SoundLaws.{held_small, sound_at, sound_parts}
use Rattle.reassembly.specs.declared.Accepted.{Accepted}
use Rattle.reassembly.specs.declared.Accepted.TheVariants.{Held, Whole}
use Rattle.reassembly.specs.Checks.{fragment_in, payload_of, fragment_checks}
use Rattle.reassembly.specs.Engine.{Taken, held, whole, Outcome, slot_for, facts_in, change_taken, fragment_taken, fragment_refusal, fragment_of, fragment_answer, FragmentGives}
use Rattle.reassembly.proofs.Passed.{first_clear, passed, valid_is}
use Rattle.words.specs.Answer.{UnpackingAnswer}
use Rattle.words.proofs.Answers.{unpacking_answer}
use Rattle.exports.specs.Fragments.{fragment_number, FragmentSays, sweep_number, SweepSays}
use Rattle.exports.proofs.Saying.{says_refused}

-- ---- a fragment's answer

taken_not : (x : Result Accepted Refusal) (n : ℕ) → fragment_answer x ≡ refused n → is_ok x ≡ true → ⊥
taken_not (Ok a) n e t = let z : ◌≡◌ {A = ℕ} 0 1 = cc in omega arith
taken_not (Err r) n e t = false≢true t

-- what fits
abbrev pub Small : Answer Taken → Type 0
Small (refused n) = (eqb n 0 ≡ false) × (n < 2 ^ 8)
Small (accepted (held o d)) = (o ≤ 512) × (d ≤ 512)
Small (accepted (whole o d)) = (o ≤ 512) × (d ≤ 512)

says_by : (x : Result Accepted Refusal) → Small (fragment_answer x) → FragmentSays (fragment_number x) x
unfolding fragment_number FragmentSays UnpackingAnswer
says_by (Ok (Held o d)) s = unpacking_answer 0 1 o d (omega arith) (omega arith) (omega (arith, s.0)) (omega (arith, s.1))
says_by (Ok (Whole o d)) s = unpacking_answer 0 2 o d (omega arith) (omega arith) (omega (arith, s.0)) (omega (arith, s.1))
says_by (Err r) s = says_refused (number_of r) 0 s.0 s.1 (omega arith)

module _ (lid tick : ℕ) (lsdu : List ℕ) (t : Table) (store output : List ℕ) where
  number : ℕ
  number = fragment_refusal lid lsdu t (length store) (length output)

  taken : Outcome
  taken = fragment_taken (fragment_in lsdu).last (eqb (fragment_in lsdu).counter 0) lid (fragment_in lsdu).number tick (payload_of lsdu) t store output

  none : Outcome
  unfolding number
  none = record { answer = refused number; table = t; store = store; output = output }

  -- what a fragment that no check refuses has shown
  pub record Clear : Type 0 where
    pub sound : is_sound t ≡ true
    pub long : length store ≡ 4096
    pub fits : pick (eqb (fragment_in lsdu).counter 0) 0 (slot_for lid (fragment_in lsdu).number t).held + length (payload_of lsdu) ≤ 512

  clear : number ≡ 0 → Clear
  unfolding number fragment_refusal facts_in
  clear e =
      let p = passed (length store) (length output) lid (length lsdu) (not (is_sound t)) (fragment_in lsdu) (facts_in lid (fragment_in lsdu).number t) e in
      let octets : (fragment_in lsdu).octets ≡ length (payload_of lsdu) = λ i. (valid_is lsdu p.valid i).octets in
      record { sound = not_f (is_sound t) p.table_sound; long = p.store_long; fits = omega (arith, octets, p.fits) }

  taken_small : Clear → Small taken.answer
  unfolding taken change_taken fragment_taken
  taken_small c = go (fragment_in lsdu).last
    where
      slot_small : (slot_for lid (fragment_in lsdu).number t).held ≤ 512
      slot_small = held_small (slot_for lid (fragment_in lsdu).number t) (sound_at t.slots _ (sound_parts t c.sound).each)

      dropped : (b : Bool) → pick b (slot_for lid (fragment_in lsdu).number t).held 0 ≤ 512
      dropped true = slot_small
      dropped false = omega arith

      go : (b : Bool) → Small (fragment_taken b (eqb (fragment_in lsdu).counter 0) lid (fragment_in lsdu).number tick (payload_of lsdu) t store output).answer
      go true = (c.fits, dropped (eqb (fragment_in lsdu).counter 0))
      go false = (c.fits, dropped (eqb (fragment_in lsdu).counter 0))

  number_small : number < 2 ^ 8
  unfolding number fragment_refusal numbers_to
  number_small = omega (arith, first_le 12 (fragment_checks (length store) (length output) (not (is_sound t)) lid (length lsdu) (fragment_in lsdu) (facts_in lid (fragment_in lsdu).number t)) refl)

  small : Small (fragment_of lid tick lsdu t store output).answer
  unfolding fragment_of number taken none
  small = go (eqb number 0) refl
    where
      go : (b : Bool) → eqb number 0 ≡ b → Small (pick b taken none).answer
      go true e = taken_small (clear (eqb-true number 0 e))
      go false e = (e, number_small)

  taken_accepted : (n : ℕ) → taken.answer ≡ refused n → ⊥
  unfolding taken fragment_taken
  taken_accepted n e = let z : ◌≡◌ {A = ℕ} 0 1 = cc in omega arith

  module _ (r : Result Accepted Refusal) (t' : Table) (store' output' : List ℕ) (gives : FragmentGives lid tick lsdu t store output r t' store' output') where
    pub fragment_small : Small (fragment_answer r)
    fragment_small = subst (λ (a : Answer Taken). Small a) (sym gives.answer_is) small

    pub fragment_says : FragmentSays (fragment_number r) r
    fragment_says = says_by r fragment_small

    pub fragment_clear : is_ok r ≡ true → Clear
    unfolding fragment_of number taken none
    fragment_clear h = go (eqb number 0) refl gives.answer_is
      where
        go : (b : Bool) → eqb number 0 ≡ b → fragment_answer r ≡ (pick b taken none).answer → Clear
        go true e a = clear (eqb-true number 0 e)
        go false e a = absurd (taken_not r number a h)

    pub fragment_same : is_ok r ≡ false → t' ≡ t
    unfolding fragment_of number taken none
    fragment_same h = go (eqb number 0) r h gives.answer_is gives.table_is
      where
        go : (b : Bool) (x : Result Accepted Refusal) → is_ok x ≡ false → fragment_answer x ≡ (pick b taken none).answer → t' ≡ (pick b taken none).table → t' ≡ t
        go true (Ok a) h a' e = absurd (true≢false h)
        go true (Err r) h a e = absurd (taken_accepted (number_of r) (sym a))
        go false x h a e = e

-- ---- a sweep's answer

dropped_le : (test : Slot → Bool) (slots : List Slot) → all_sound slots ≡ true → dropped_by test slots ≤ 512 * length slots
unfolding dropped_by all_sound
dropped_le test [] s = omega arith
dropped_le test (slot ∷ slots) s =
    omega (arith, one (test slot), dropped_le test slots (and_r (sound_slot slot) (all_sound slots) s))
  where
    one : (b : Bool) → pick b slot.held 0 ≤ 512
    one true = held_small slot (and_l (sound_slot slot) (all_sound slots) s)
    one false = omega arith

abbrev SweepSmall : Answer ℕ → Type 0
SweepSmall (refused n) = (eqb n 0 ≡ false) × (n < 2 ^ 8)
SweepSmall (accepted d) = d < 2 ^ 24

sweep_says_by : (x : Result ℕ Refusal) → SweepSmall (sweep_answer x) → SweepSays (sweep_number x) x
unfolding sweep_number SweepSays UnpackingAnswer
sweep_says_by (Ok d) s = unpacking_answer 0 0 d 0 (omega arith) (omega arith) s (omega arith)
sweep_says_by (Err r) s = says_refused (number_of r) 0 s.0 s.1 (omega arith)

-- a sweep whose first check is for the table, and whose numbers are at most 3
module _ (lid_check : List Check) (test : Slot → Bool) (t : Table) (eight : length t.slots ≡ 8)
    (numbers : numbers_to 3 (check 2 (not (is_sound t)) ∷ lid_check) ≡ true) where
  checks : List Check
  checks = check 2 (not (is_sound t)) ∷ lid_check

  sweep_sound : first_of checks ≡ 0 → is_sound t ≡ true
  unfolding checks
  sweep_sound e = not_f (is_sound t) (first_clear 2 _ _ (omega arith) e).0

  yes : Swept
  yes = record { answer = accepted (dropped_by test t.slots); table = table_of (freed test t.slots) }

  no : Swept
  unfolding checks
  no = record { answer = refused (first_of checks); table = t }

  sweep_small : SweepSmall (swept_by (check 2 (not (is_sound t)) ∷ lid_check) test t).answer
  unfolding swept_by checks yes no
  sweep_small = go (eqb (first_of checks) 0) refl
    where
      go : (b : Bool) → eqb (first_of checks) 0 ≡ b → SweepSmall (pick b yes no).answer
      go true e = omega (arith, dropped_le test t.slots (sound_parts t (sweep_sound (eqb-true (first_of checks) 0 e))).each, eight)
      go false e = (e, omega (arith, first_le 3 checks numbers))

  module _ (x : Result ℕ Refusal) (t' : Table) (a : sweep_answer x ≡ (swept_by (check 2 (not (is_sound t)) ∷ lid_check) test t).answer) (after : t' ≡ (swept_by (check 2 (not (is_sound t)) ∷ lid_check) test t).table) where
    sweep_says : SweepSays (sweep_number x) x
    sweep_says = sweep_says_by x (subst (λ (y : Answer ℕ). SweepSmall y) (sym a) sweep_small)

    sweep_clear : is_ok x ≡ true → is_sound t ≡ true
    unfolding swept_by checks yes no
    sweep_clear h = go (eqb (first_of checks) 0) refl x h a
      where
        go : (b : Bool) → eqb (first_of checks) 0 ≡ b → (y : Result ℕ Refusal) → is_ok y ≡ true → sweep_answer y ≡ (pick b yes no).answer → is_sound t ≡ true
        go true e y h a = sweep_sound (eqb-true (first_of checks) 0 e)
        go false e (Ok d) h a = let z : ◌≡◌ {A = ℕ} 0 1 = cc in absurd (omega arith)
        go false e (Err r) h a = absurd (false≢true h)

    sweep_same : is_ok x ≡ false → t' ≡ t
    unfolding swept_by checks yes no
    sweep_same h = go (eqb (first_of checks) 0) x h a after
      where
        go : (b : Bool) (y : Result ℕ Refusal) → is_ok y ≡ false → sweep_answer y ≡ (pick b yes no).answer → t' ≡ (pick b yes no).table → t' ≡ t
        go true (Ok d) h a e = absurd (true≢false h)
        go true (Err r) h a e = let z : ◌≡◌ {A = ℕ} 0 1 = cc in absurd (omega arith)
        go false y h a e = e

-- what is known of a sweep's answer
pub record SweepFacts (t : Table) (r : Result ℕ Refusal) (t' : Table) : Type 0 where
  pub says : SweepSays (sweep_number r) r
  pub clear : is_ok r ≡ true → is_sound t ≡ true
  pub same : is_ok r ≡ false → t' ≡ t

module _ (t : Table) (eight : length t.slots ≡ 8) (r : Result ℕ Refusal) (t' : Table) where
  pub expiry_facts : (tick limit : ℕ) → ExpiryGives tick limit t r t' → SweepFacts t r t'
  unfolding expiry_of numbers_to
  expiry_facts tick limit g = record {
    says = sweep_says [] (aged_slot tick limit) t eight refl r t' g.answer_is g.table_is;
    clear = sweep_clear [] (aged_slot tick limit) t eight refl r t' g.answer_is g.table_is;
    same = sweep_same [] (aged_slot tick limit) t eight refl r t' g.answer_is g.table_is;
  }

  pub release_facts : (lid : ℕ) → ReleaseGives lid t r t' → SweepFacts t r t'
  unfolding release_of numbers_to
  release_facts lid g =
      let lid_check = check 3 (not (lid_in_range lid)) ∷ [] in
      record {
        says = sweep_says lid_check (of_lid lid) t eight refl r t' g.answer_is g.table_is;
        clear = sweep_clear lid_check (of_lid lid) t eight refl r t' g.answer_is g.table_is;
        same = sweep_same lid_check (of_lid lid) t eight refl r t' g.answer_is g.table_is;
      }
