-- A sound table of eight slots stays one through each call. With a store of 4,096 octets it is the table of some ledger (each slot's part is cut into as many
-- payloads as it has fragments), and a call that meets its contract stays in agreement with the ledger (reassembly, proofs/Steps.antt).
-- Assumes nothing.
use mathlib.Core.Path.{◌≡◌, refl, sym, ap, ◌∙◌}
use mathlib.Core.Bool.{Bool, true, false, not, false≢true}
use mathlib.Core.List.{List, [], ◌∷◌, ◌++◌, map, append-nil}
use Prim.Native.Nat.{ℕ, zero, suc, ◌*◌, ◌≤◌}
use native.Mathlib.Omega.{arith}
use lib.ListN.{length, take, drop, length-drop, replicate, length-replicate, take-append-drop}
use lib.Seq.{length-take-le}
use lib.Dec.{eqb}
use Rattle.std.specs.Prelude.{Result}
use Rattle.refusals.specs.Check.{pick}
use Rattle.refusals.specs.declared.Refusal.{Refusal}
use Rattle.slots.specs.declared.Slot.{Slot}
use Rattle.slots.specs.declared.Table.{Table}
use Rattle.slots.specs.Slots.{is_busy, is_sound}
use Rattle.slots.specs.Sweep.{ExpiryGives, ReleaseGives}
use Rattle.slots.specs.Model.{sound_slot, all_sound}
use Rattle.slots.proofs.Tests.{and_l, and_r}
use Rattle.slots.proofs.SoundLaws.{held_small, sound_parts}
use Rattle.reassembly.specs.declared.Accepted.{Accepted}
use Rattle.reassembly.specs.Engine.{FragmentGives}
use Rattle.reassembly.specs.Ledger.{Message, joined}
use Rattle.reassembly.proofs.Perm.{perm_refl}
use Rattle.reassembly.proofs.Views.{view_of, view_in, views, Same}
use Rattle.reassembly.proofs.Pairs.{Inv}
use Rattle.reassembly.proofs.Steps.{sound_known, fragment_agrees, expiry_agrees, release_agrees}

-- ---- the ledger of a sound table

-- n payloads: one octet each, and the rest in the last
cut : ℕ → List ℕ → List (List ℕ)
cut zero s = []
cut (suc zero) s = s ∷ []
cut (suc (suc n)) s = take 1 s ∷ cut (suc n) (drop 1 s)

cut_length : (n : ℕ) (s : List ℕ) → length (cut n s) ≡ n
unfolding cut
cut_length zero s = refl
cut_length (suc zero) s = refl
cut_length (suc (suc n)) s = ap suc (cut_length (suc n) (drop 1 s))

cut_joined : (n : ℕ) (s : List ℕ) → joined (cut (suc n) s) ≡ s
unfolding cut joined
cut_joined zero s = append-nil s
cut_joined (suc n) s = ap (λ (l : List ℕ). take 1 s ++ l) (cut_joined n (drop 1 s)) ∙ take-append-drop 1 s

message_of : Slot → List ℕ → Message
message_of slot part = record { lid = slot.lid; number = slot.number; tick = slot.tick; payloads = cut slot.next (take slot.held part) }

view_is : (slot : Slot) (part : List ℕ) → is_busy slot ≡ true → slot.held ≤ length part → view_of slot part ≡ view_in (message_of slot part)
unfolding message_of
view_is slot part b h =
    let whole = sym (go slot.next b) in
    let held = sym (length-take-le slot.held part h) ∙ ap length whole in
    λ i. record { lid = slot.lid; number = slot.number; next = sym (cut_length slot.next octets) i; held = held i; tick = slot.tick; payload = whole i }
  where
    octets : List ℕ
    octets = take slot.held part

    go : (n : ℕ) → not (eqb n 0) ≡ true → joined (cut n (take slot.held part)) ≡ take slot.held part
    go zero e = absurd (false≢true e)
    go (suc n) e = cut_joined n (take slot.held part)

messages : List Slot → List ℕ → List Message
messages [] store = []
messages (slot ∷ slots) store = pick (is_busy slot) (message_of slot store ∷ messages slots (drop 512 store)) (messages slots (drop 512 store))

views_are : (slots : List Slot) (store : List ℕ) → all_sound slots ≡ true → 512 * length slots ≤ length store → views slots store ≡ map view_in (messages slots store)
unfolding views messages all_sound
views_are [] store s n = refl
views_are (slot ∷ slots) store s n =
    go (is_busy slot) refl (views_are slots (drop 512 store) (and_r (sound_slot slot) (all_sound slots) s) (omega (arith, length-drop 512 store)))
  where
    go : (b : Bool) → is_busy slot ≡ b → views slots (drop 512 store) ≡ map view_in (messages slots (drop 512 store))
        → pick b (view_of slot store ∷ views slots (drop 512 store)) (views slots (drop 512 store))
        ≡ map view_in (pick b (message_of slot store ∷ messages slots (drop 512 store)) (messages slots (drop 512 store)))
    go true e rest = λ i. view_is slot store e (omega (arith, held_small slot (and_l (sound_slot slot) (all_sound slots) s))) i ∷ rest i
    go false e rest = rest

ledger_of : (t : Table) (store : List ℕ) → length t.slots ≡ 8 → is_sound t ≡ true → length store ≡ 4096 → Inv t store (messages t.slots store)
unfolding Same
ledger_of t store eight sound long =
    let parts = sound_parts t sound in
    record {
      word = parts.word;
      eight = eight;
      sound = parts.each;
      apart = parts.apart;
      same = rw (views_are t.slots store parts.each (omega arith)) (perm_refl _);
    }

-- ---- the calls

-- the table after a call is sound and has eight slots
pub record Sound (t : Table) : Type 0 where
  pub sound : is_sound t ≡ true
  pub eight : length t.slots ≡ 8

pub fragment_stays : (lid tick : ℕ) (lsdu : List ℕ) (t : Table) (store output : List ℕ) (r : Result Accepted Refusal) (t' : Table) (store' output' : List ℕ)
    → Sound t → length store ≡ 4096 → FragmentGives lid tick lsdu t store output r t' store' output' → Sound t'
fragment_stays lid tick lsdu t store output r t' store' output' s long gives =
    let i = ledger_of t store s.eight s.sound long in
    let a = fragment_agrees lid tick lsdu t store output (messages t.slots store) i r t' store' output' gives in
    record { sound = sound_known a.inv; eight = a.inv.eight }

-- expiry and release have no store: any will do
some_store : List ℕ
some_store = replicate 4096 0

store_long : length some_store ≡ 4096
unfolding some_store
store_long = length-replicate {A = ℕ} 4096 0

module _ (t : Table) (r : Result ℕ Refusal) (t' : Table) (s : Sound t) where
  pub expiry_stays : (tick limit : ℕ) → ExpiryGives tick limit t r t' → Sound t'
  expiry_stays tick limit gives =
      let a = expiry_agrees t some_store (messages t.slots some_store) (ledger_of t some_store s.eight s.sound store_long) r t' tick limit gives in
      record { sound = sound_known a.inv; eight = a.inv.eight }

  pub release_stays : (lid : ℕ) → ReleaseGives lid t r t' → Sound t'
  release_stays lid gives =
      let a = release_agrees t some_store (messages t.slots some_store) (ledger_of t some_store s.eight s.sound store_long) r t' lid gives in
      record { sound = sound_known a.inv; eight = a.inv.eight }
