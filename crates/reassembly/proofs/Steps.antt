-- One call: whatever meets its contract answers as the ledger does, and stays in agreement with it.
use mathlib.Core.Path.{◌≡◌, refl, sym, ap, ◌∙◌}
use mathlib.Core.Bool.{Bool, true, false, not, ◌&&◌}
use mathlib.Core.List.{List, [], ◌∷◌}
use Prim.Native.Nat.{ℕ, ◌+◌, ◌≤◌}
use native.Mathlib.Omega.{arith}
use lib.ListN.{length}
use Rattle.std.specs.Prelude.{Result}
use lib.Dec.{eqb}
use lib.Count.{ones}
use borrow.Author.Tests.{eqb-true, leb-false}
use Rattle.refusals.specs.Check.{pick, Check, first_of, refused, accepted}
use Rattle.refusals.specs.declared.Refusal.{Refusal}
use Rattle.slots.specs.declared.Slot.{Slot}
use Rattle.slots.specs.declared.Table.{Table}
use Rattle.slots.specs.Slots.{free, is_busy, table_of, is_sound}
use Rattle.slots.specs.Sweep.{Swept, is_aged, expiry_checks, release_checks, aged_slot, of_lid, freed, dropped_by, swept_by, expiry_of, release_of, sweep_answer, ExpiryGives, ReleaseGives}
use Rattle.slots.specs.Model.{sound_slot, all_sound, shares_pair, none_like, distinct}
use Rattle.slots.proofs.Tests.{and_l, and_r, and_i}
use Rattle.slots.proofs.WordLaws.{ones_word}
use Rattle.slots.proofs.SoundLaws.{sound_whole, sound_at, next_held}
use Rattle.slots.proofs.SweepLaws.{length_freed}
use Rattle.reassembly.specs.declared.Accepted.{Accepted}
use Rattle.reassembly.specs.Checks.{FragmentFields, Facts, fragment_in, payload_of, fragment_checks}
use Rattle.reassembly.specs.Engine.{slot_for, facts_in, fragment_taken, fragment_refusal, fragment_of, fragment_answer, FragmentGives}
use Rattle.reassembly.specs.Ledger.{fragment, expiry, release, Report, refusing, dropping, Message, After, drop_those, joining, ledger_refusal, ledger_effect, ledger_step}
use Rattle.reassembly.specs.Runs.{fragment_report, sweep_report}
use Rattle.reassembly.proofs.Views.{View, view_of, view_in, drop_same, drop_count}
use Rattle.reassembly.proofs.Pairs.{Inv, facts_same}
use Rattle.reassembly.proofs.Joins.{Agrees, OutcomeAgrees, last_agrees, kept_agrees, slots, p, k, at}
use Rattle.reassembly.proofs.Passed.{Passed, passed, number_high, valid_is}

-- what is said of a definition holds of whatever equals it
moved : {report report' : Report} {t t' : Table} {store store' : List ℕ} {a : After} {n : ℕ} → report' ≡ report → t' ≡ t → store' ≡ store
    → Agrees report t store a n → Agrees report' t' store' a n
moved e f g h = rw (e, f, g) h

pub sound_known : {t : Table} {store : List ℕ} {l : List Message} → Inv t store l → is_sound t ≡ true
sound_known {t} i = sound_whole t (record { word = i.word; each = i.sound; apart = i.apart })

-- ---- expiry and release

sound_sweep : (f : Slot → Bool) (slots : List Slot) → all_sound slots ≡ true → all_sound (freed f slots) ≡ true
unfolding all_sound freed
sound_sweep f [] h = refl
sound_sweep f (p ∷ slots) h = and_i (go (f p)) (sound_sweep f slots (and_r (sound_slot p) (all_sound slots) h))
  where
    go : (b : Bool) → sound_slot (pick b free p) ≡ true
    go true = refl
    go false = and_l (sound_slot p) (all_sound slots) h

none_sweep : (f : Slot → Bool) (k : Slot) (slots : List Slot) → none_like k slots ≡ true → none_like k (freed f slots) ≡ true
unfolding none_like freed
none_sweep f k [] h = refl
none_sweep f k (p ∷ slots) h = and_i (go (f p)) (none_sweep f k slots (and_r (not (shares_pair k p)) (none_like k slots) h))
  where
    go : (b : Bool) → not (shares_pair k (pick b free p)) ≡ true
    go true = refl
    go false = and_l (not (shares_pair k p)) (none_like k slots) h

apart_sweep : (f : Slot → Bool) (slots : List Slot) → distinct slots ≡ true → distinct (freed f slots) ≡ true
unfolding distinct freed
apart_sweep f [] h = refl
apart_sweep f (p ∷ slots) h =
    and_i (go (f p) (is_busy p) refl (and_l (pick (is_busy p) (none_like p slots) true) (distinct slots) h)) (apart_sweep f slots (and_r (pick (is_busy p) (none_like p slots) true) (distinct slots) h))
  where
    go : (b c : Bool) → is_busy p ≡ c → pick c (none_like p slots) true ≡ true → pick (is_busy (pick b free p)) (none_like (pick b free p) (freed f slots)) true ≡ true
    go true c e n = refl
    go false true e n = rw e (none_sweep f p slots n)
    go false false e n = rw e

module _ (f : Slot → Bool) (g : View → Bool) (agree : (p : Slot) (store : List ℕ) → f p ≡ is_busy p && g (view_of p store))
    (t : Table) (store : List ℕ) (l : List Message) (i : Inv t store l) (checks : List Check) where
  sweep_agrees : Agrees (sweep_report (swept_by checks f t).answer) (swept_by checks f t).table store
      (pick (eqb (first_of checks) 0) (drop_those (λ m. g (view_in m)) l) (record { report = refusing (first_of checks); kept = l })) (length store)
  unfolding swept_by
  sweep_agrees = go (eqb (first_of checks) 0)
    where
      yes : Swept
      yes = record { answer = accepted (dropped_by f t.slots); table = table_of (freed f t.slots) }

      no : Swept
      no = record { answer = refused (first_of checks); table = t }

      go : (b : Bool) → Agrees
          (sweep_report (pick b yes no).answer) (pick b yes no).table
          store (pick b (drop_those (λ m. g (view_in m)) l) (record { report = refusing (first_of checks); kept = l })) (length store)
      go true = record {
        report_same = ap dropping (drop_count f g agree t.slots store l i.same);
        inv = record {
          word = refl;
          eight = length_freed f t.slots ∙ i.eight;
          sound = sound_sweep f t.slots i.sound;
          apart = apart_sweep f t.slots i.apart;
          same = drop_same f g agree t.slots store l i.same;
        };
        long = refl;
      }
      go false = record { report_same = refl; inv = i; long = refl }

module _ (t : Table) (store : List ℕ) (l : List Message) (i : Inv t store l) (r : Result ℕ Refusal) (t' : Table) where
  pub expiry_agrees : (tick limit : ℕ) → ExpiryGives tick limit t r t'
      → Agrees (sweep_report (sweep_answer r)) t' store (ledger_step (length store) (expiry tick limit) l) (length store)
  unfolding expiry_of ledger_step ledger_refusal
  expiry_agrees tick limit h =
      moved (ap sweep_report h.answer_is) h.table_is refl
      (rw (sound_known i) (sweep_agrees (aged_slot tick limit) (λ v. is_aged tick limit v.tick) (λ p s. refl) t store l i (expiry_checks false)))

  pub release_agrees : (lid : ℕ) → ReleaseGives lid t r t'
      → Agrees (sweep_report (sweep_answer r)) t' store (ledger_step (length store) (release lid) l) (length store)
  unfolding release_of ledger_step ledger_refusal
  release_agrees lid h =
      moved (ap sweep_report h.answer_is) h.table_is refl
      (rw (sound_known i) (sweep_agrees (of_lid lid) (λ v. eqb v.lid lid) (λ p s. refl) t store l i (release_checks false lid)))

-- ---- a fragment

module _ (lid tick : ℕ) (lsdu : List ℕ) (t : Table) (store output : List ℕ) (l : List Message) (i : Inv t store l) where
  taken_agrees : Passed (length store) (length output) lid (not (is_sound t)) (fragment_in lsdu) (facts_in lid (fragment_in lsdu).number t)
      → OutcomeAgrees (fragment_taken (fragment_in lsdu).last (eqb (fragment_in lsdu).counter 0) lid (fragment_in lsdu).number tick (payload_of lsdu) t store output)
      (joining (fragment_in lsdu).last (eqb (fragment_in lsdu).counter 0) lid (fragment_in lsdu).number tick (payload_of lsdu) l) (length store)
  unfolding facts_in slots p k at
  taken_agrees c = go (fragment_in lsdu).last refl
    where
      q : Slot
      q = slot_for lid (fragment_in lsdu).number t

      begins : Bool
      begins = eqb (fragment_in lsdu).counter 0

      octets : (fragment_in lsdu).octets ≡ length (payload_of lsdu)
      octets = ap (λ (x : FragmentFields). x.octets) (valid_is lsdu c.valid)

      some : 1 ≤ length (payload_of lsdu)
      some = omega (arith, octets, c.payload_some)

      fits : pick (eqb (fragment_in lsdu).counter 0) 0 (slot_for lid (fragment_in lsdu).number t).held + length (payload_of lsdu) ≤ 512
      fits = omega (arith, octets, c.fits)

      more : (b : Bool) → pick b 1 (q.next + 1) ≤ pick b 0 q.held + length (payload_of lsdu)
      more true = omega (arith, some)
      more false = omega (arith, some, next_held q (sound_at t.slots _ i.sound))

      go : (b : Bool) → (fragment_in lsdu).last ≡ b
          → OutcomeAgrees (fragment_taken b begins lid (fragment_in lsdu).number tick (payload_of lsdu) t store output) (joining b begins lid (fragment_in lsdu).number tick (payload_of lsdu) l) (length store)
      go true e =
          last_agrees lid (fragment_in lsdu).number tick (payload_of lsdu) t store output l i c.lid_ok c.number_low (number_high lsdu) some c.store_long begins fits c.output_long
      go false e =
          kept_agrees lid (fragment_in lsdu).number tick (payload_of lsdu) t store output l i c.lid_ok c.number_low (number_high lsdu) some c.store_long begins fits (more begins)
          c.opens (λ z. omega (arith, leb-false 8 (ones t.busy) (c.room e z), ap ones i.word, ones_word t.slots))

  refusal_same : fragment_refusal lid lsdu t (length store) (length output) ≡ ledger_refusal (length store) (fragment lid tick lsdu (length output)) l
  unfolding fragment_refusal ledger_refusal
  refusal_same =
      ap (λ (u : Bool). first_of (fragment_checks (length store) (length output) (not u) lid (length lsdu) (fragment_in lsdu) (facts_in lid (fragment_in lsdu).number t))) (sound_known i)
      ∙ ap (λ (x : Facts). first_of (fragment_checks (length store) (length output) false lid (length lsdu) (fragment_in lsdu) x))
      (facts_same (record { lid = lid; number = (fragment_in lsdu).number; next = 0; held = 0; tick = 0 }) t.slots store l i.apart i.same t.busy i.word)

  clear : fragment_refusal lid lsdu t (length store) (length output) ≡ 0
      → Passed (length store) (length output) lid (not (is_sound t)) (fragment_in lsdu) (facts_in lid (fragment_in lsdu).number t)
  unfolding fragment_refusal
  clear e = passed (length store) (length output) lid (length lsdu) (not (is_sound t)) (fragment_in lsdu) (facts_in lid (fragment_in lsdu).number t) e

  outcome_agrees : OutcomeAgrees (fragment_of lid tick lsdu t store output) (ledger_step (length store) (fragment lid tick lsdu (length output)) l) (length store)
  unfolding fragment_of ledger_step
  outcome_agrees = rw (sym refusal_same) (go (eqb (fragment_refusal lid lsdu t (length store) (length output)) 0) refl)
    where
      n : ℕ
      n = fragment_refusal lid lsdu t (length store) (length output)

      go : (b : Bool) → eqb (fragment_refusal lid lsdu t (length store) (length output)) 0 ≡ b
          → OutcomeAgrees
          (pick b (fragment_taken (fragment_in lsdu).last (eqb (fragment_in lsdu).counter 0) lid (fragment_in lsdu).number tick (payload_of lsdu) t store output)
          (record { answer = refused n; table = t; store = store; output = output }))
          (pick b (ledger_effect (fragment lid tick lsdu (length output)) l) (record { report = refusing n; kept = l })) (length store)
      go true e = taken_agrees (clear (eqb-true n 0 e))
      go false e = record { report_same = refl; inv = i; long = refl }

  pub fragment_agrees : (r : Result Accepted Refusal) (t' : Table) (store' output' : List ℕ) → FragmentGives lid tick lsdu t store output r t' store' output'
      → Agrees (fragment_report (fragment_answer r) output') t' store' (ledger_step (length store) (fragment lid tick lsdu (length output)) l) (length store)
  fragment_agrees r t' store' output' h = moved (λ j. fragment_report (h.answer_is j) (h.output_is j)) h.table_is h.store_is outcome_agrees
