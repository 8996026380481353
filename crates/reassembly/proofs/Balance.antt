-- Octets accepted are those delivered, dropped and kept, call by call; and what the slots hold is what the ledger keeps.
use mathlib.Core.Path.{◌≡◌, refl, sym, ap, ◌∙◌}
use mathlib.Core.Bool.{Bool, true, false, not}
use mathlib.Core.List.{List, [], ◌∷◌}
use Prim.Native.Nat.{ℕ, ◌+◌, ◌≤◌}
use native.Mathlib.Omega.{arith}
use lib.ListN.{length, drop, length-append}
use lib.Dec.{eqb}
use Rattle.refusals.specs.Check.{pick}
use Rattle.slots.specs.declared.Slot.{Slot}
use Rattle.slots.specs.Slots.{is_busy, all_zero, busy_sound, total}
use Rattle.slots.specs.Sweep.{is_aged}
use Rattle.slots.specs.Model.{sound_slot, all_sound}
use Rattle.slots.proofs.Tests.{and_l, and_r}
use Rattle.slots.proofs.SoundLaws.{zero_is}
use Rattle.reassembly.specs.Checks.{fragment_in, payload_of}
use Rattle.reassembly.specs.Ledger.{Call, fragment, expiry, release, refusing, Message, After, those, joined, octets_of, of_pair, kept_for, no_message, first_or, joining, ledger_refusal, ledger_effect, ledger_step}
use Rattle.reassembly.specs.History.{is_accepted, payload_octets, delivered_octets, dropped_octets}
use Rattle.reassembly.proofs.Perm.{perm_total}
use Rattle.reassembly.proofs.Views.{View, view_of, views, view_in, Same, total_map}
use Rattle.reassembly.proofs.Joins.{joined_snoc}

total_split : {A : Type 0} (f : A → Bool) (g : A → ℕ) (l : List A) → total g l ≡ total g (those f l) + total g (those (λ x. not (f x)) l)
unfolding total those
total_split f g [] = refl
total_split f g (x ∷ l) = go (f x) (total_split f g l)
  where
    go : (b : Bool) → total g l ≡ total g (those f l) + total g (those (λ x. not (f x)) l)
        → g x + total g l ≡ total g (pick b (x ∷ those f l) (those f l)) + total g (pick (not b) (x ∷ those (λ x. not (f x)) l) (those (λ x. not (f x)) l))
    go true r = omega (arith, r)
    go false r = omega (arith, r)

few_total : (ms : List Message) → length ms ≤ 1 → total octets_of ms ≡ octets_of (first_or no_message ms)
unfolding total joined
few_total [] h = refl
few_total (m ∷ []) h = omega arith
few_total (m ∷ n ∷ ms) h = absurd (omega arith)

-- what goes in comes out or stays
abbrev pub Balanced : Call → After → List Message → Type 0
Balanced c a l = pick (is_accepted a.report) (payload_octets c) 0 + total octets_of l ≡ delivered_octets a.report + dropped_octets a.report + total octets_of a.kept

join_kept : (last begins : Bool) (lid number tick : ℕ) (payload : List ℕ) (l : List Message) → length (those (of_pair lid number) l) ≤ 1
    → (let a = joining last begins lid number tick payload l in pick (is_accepted a.report) (length payload) 0 + total octets_of l ≡ delivered_octets a.report + dropped_octets a.report + total octets_of a.kept)
unfolding joining total joined
join_kept true true lid number tick payload l few =
    omega (arith, total_split (of_pair lid number) octets_of l, few_total (those (of_pair lid number) l) few, ap length (joined_snoc [] payload))
join_kept true false lid number tick payload l few =
    let m = kept_for lid number l in
    omega (arith, total_split (of_pair lid number) octets_of l, few_total (those (of_pair lid number) l) few, ap length (joined_snoc m.payloads payload), length-append (joined m.payloads) payload)
join_kept false true lid number tick payload l few =
    omega (arith, total_split (of_pair lid number) octets_of l, few_total (those (of_pair lid number) l) few, ap length (joined_snoc [] payload))
join_kept false false lid number tick payload l few =
    let m = kept_for lid number l in
    omega (arith, total_split (of_pair lid number) octets_of l, few_total (those (of_pair lid number) l) few, ap length (joined_snoc m.payloads payload), length-append (joined m.payloads) payload)

effect_balanced : (c : Call) (l : List Message) → ((lid number : ℕ) → length (those (of_pair lid number) l) ≤ 1) → Balanced c (ledger_effect c l) l
effect_balanced (fragment lid tick lsdu output) l few =
    join_kept (fragment_in lsdu).last (eqb (fragment_in lsdu).counter 0) lid (fragment_in lsdu).number tick (payload_of lsdu) l (few lid (fragment_in lsdu).number)
effect_balanced (expiry tick limit) l few = omega (arith, total_split (λ m. is_aged tick limit m.tick) octets_of l)
effect_balanced (release lid) l few = omega (arith, total_split (λ m. eqb m.lid lid) octets_of l)

pub step_balanced : (n : ℕ) (c : Call) (l : List Message) → ((lid number : ℕ) → length (those (of_pair lid number) l) ≤ 1) → Balanced c (ledger_step n c l) l
unfolding ledger_step
step_balanced n c l few = go (eqb (ledger_refusal n c l) 0)
  where
    go : (b : Bool) → Balanced c (pick b (ledger_effect c l) (record { report = refusing (ledger_refusal n c l); kept = l })) l
    go true = effect_balanced c l few
    go false = refl

-- ---- what the slots hold

free_held : (p : Slot) → sound_slot p ≡ true → is_busy p ≡ false → p.held ≡ 0
free_held p h b = ap (λ (s : Slot). s.held) (zero_is p (sym (ap (λ (c : Bool). pick c (busy_sound p) (all_zero p)) b) ∙ h))

held_total : (slots : List Slot) (store : List ℕ) → all_sound slots ≡ true → total (λ (p : Slot). p.held) slots ≡ total (λ (v : View). v.held) (views slots store)
unfolding total views all_sound
held_total [] store h = refl
held_total (p ∷ slots) store h = go (is_busy p) refl (held_total slots (drop 512 store) (and_r (sound_slot p) (all_sound slots) h))
  where
    go : (b : Bool) → is_busy p ≡ b → total (λ (p : Slot). p.held) slots ≡ total (λ (v : View). v.held) (views slots (drop 512 store))
        → p.held + total (λ (p : Slot). p.held) slots ≡ total (λ (v : View). v.held) (pick b (view_of p store ∷ views slots (drop 512 store)) (views slots (drop 512 store)))
    go true e r = omega (arith, r)
    go false e r = omega (arith, r, free_held p (and_l (sound_slot p) (all_sound slots) h) e)

pub held_same : (slots : List Slot) (store : List ℕ) (l : List Message) → all_sound slots ≡ true → Same slots store l → total (λ (p : Slot). p.held) slots ≡ total octets_of l
unfolding Same
held_same slots store l h same = held_total slots store h ∙ perm_total (λ (v : View). v.held) same ∙ sym (total_map (λ (v : View). v.held) view_in l)
