-- What the table holds of each pair is what the ledger keeps of it.
use mathlib.Core.Path.{◌≡◌, refl, sym, ap, ◌∙◌}
use mathlib.Core.Bool.{Bool, true, false, not, ◌&&◌, false≢true, true≢false}
use mathlib.Core.List.{List, [], ◌∷◌}
use Prim.Native.Nat.{ℕ, zero, suc, ◌+◌, ◌*◌, ◌≤◌}
use native.Mathlib.Omega.{arith}
use native.Mathlib.Numerals.{add-one}
use lib.ListN.{length, drop, get_or}
use lib.Dec.{eqb}
use borrow.Author.Tests.{eq-eqb, eqb-true}
use Rattle.refusals.specs.Check.{pick}
use Rattle.slots.specs.declared.Slot.{Slot}
use Rattle.slots.specs.Slots.{free, is_busy, bit_at, index_of, all_zero, busy_sound}
use Rattle.slots.specs.Model.{shares_pair, none_like}
use Rattle.slots.proofs.Tests.{and_l, and_r, and_i, not_t}
use Rattle.slots.proofs.WordLaws.{word_bit}
use Rattle.slots.proofs.SoundLaws.{sound_at, zero_is}
use Rattle.reassembly.specs.Ledger.{Message, those, of_pair}
use Rattle.reassembly.specs.History.{opened}
use Rattle.reassembly.specs.Runs.{Kept}
use Rattle.reassembly.specs.Holding.{slot_at, busy_at, HoldsAt}
use Rattle.reassembly.proofs.Changes.{slot_in, At, here, there, at_lt, found, missing}
use Rattle.reassembly.proofs.Pairs.{Inv, Pair, pair}
use Rattle.reassembly.proofs.Accounts.{open_of, open_in}

none_get : (k : Slot) (slots : List Slot) → none_like k slots ≡ true → (j : ℕ) → shares_pair k (get_or slots j free) ≡ false
unfolding none_like
none_get k [] h j = refl
none_get k (p ∷ slots) h zero = not_t (shares_pair k p) (and_l (not (shares_pair k p)) (none_like k slots) h)
none_get k (p ∷ slots) h (suc j) = none_get k slots (and_r (not (shares_pair k p)) (none_like k slots) h) j

only : {k : Slot} {slots : List Slot} {i : ℕ} → At k slots i → (j : ℕ) → shares_pair k (get_or slots j free) ≡ true → j ≡ i
only (here f n) zero s = refl
only {k} (here {p} {slots} f n) (suc j) s = absurd (true≢false (sym s ∙ none_get k slots n j))
only (there z a) zero s = absurd (true≢false (sym s ∙ z))
only (there z a) (suc j) s = ap suc (only a j s)

-- the pair's slot has the pair
key_of : (k : Slot) (slots : List Slot) → is_busy (slot_in k slots) ≡ true → shares_pair k (slot_in k slots) ≡ true
unfolding index_of
key_of k [] b = absurd (false≢true b)
key_of k (p ∷ slots) b = go (key_of k slots) (shares_pair k p) refl b
  where
    go : (is_busy (slot_in k slots) ≡ true → shares_pair k (slot_in k slots) ≡ true) → (c : Bool) → shares_pair k p ≡ c
        → is_busy (get_or (p ∷ slots) (pick c 0 (index_of k.lid k.number slots + 1)) free) ≡ true
        → shares_pair k (get_or (p ∷ slots) (pick c 0 (index_of k.lid k.number slots + 1)) free) ≡ true
    go ih true e b = e
    go ih false e b = rw add-one (ih (rw add-one at b))

-- a message's slot, and the slot's message
module _ (left : Kept) (l : List Message) (i : Inv left.table left.store l) where
  abbrev slots : List Slot
  slots = left.table.slots

  bit_is : (j : ℕ) → busy_at left j ≡ is_busy (slot_at left j)
  bit_is j = ap (λ (w : ℕ). bit_at w j) i.word ∙ word_bit slots j

  pub others_zero : (j : ℕ) → busy_at left j ≡ false → slot_at left j ≡ free
  others_zero j h =
      let s = sound_at slots j i.sound in
      zero_is (slot_at left j) (sym (ap (λ (b : Bool). pick b (busy_sound (slot_at left j)) (all_zero (slot_at left j))) (sym (bit_is j) ∙ h)) ∙ s)

  module _ (lid number : ℕ) where
    abbrev k : Slot
    k = record { lid = lid; number = number; next = 0; held = 0; tick = 0 }

    abbrev at : ℕ
    at = index_of lid number slots

    the_pair : Pair (slot_in k slots) (drop (512 * at) left.store) (those (of_pair lid number) l)
    the_pair = pair k slots left.store l i.apart i.same

    pub few_of : length (those (of_pair lid number) l) ≤ 1
    few_of = the_pair.few

    -- the pair's slot, once its message is known
    holds_message : (ms : List Message) → Pair (slot_in k slots) (drop (512 * at) left.store) ms → (tick : ℕ) (payloads : List (List ℕ)) → open_of ms ≡ opened tick payloads
        → HoldsAt left at lid number tick payloads
    holds_message [] c tick payloads e = let z : ◌≡◌ {A = ℕ} 0 1 = cc in absurd (omega arith)
    holds_message (m ∷ ms) c tick payloads e =
        let a = found k slots i.apart c.open_same in
        let s = key_of k slots c.open_same in
        let p = slot_in k slots in
        let x = eqb-true p.lid lid (and_r (is_busy p) (eqb p.lid lid) (and_l (is_busy p && eqb p.lid lid) (eqb p.number number) s)) in
        let y = eqb-true p.number number (and_r (is_busy p && eqb p.lid lid) (eqb p.number number) s) in
        let t : m.tick ≡ tick = cc in
        let q : m.payloads ≡ payloads = cc in
        rw (sym t, sym q) (record {
          inside = omega (arith, at_lt a, i.eight);
          busy = bit_is at ∙ c.open_same;
          slot = λ j. record { lid = x j; number = y j; next = c.next_same j; held = c.held_same j; tick = c.tick_same j };
          octets = rw c.held_same at c.payload_same;
        })

    pub holds_of : (tick : ℕ) (payloads : List (List ℕ)) → open_in lid number l ≡ opened tick payloads → HoldsAt left at lid number tick payloads
    holds_of tick payloads e = holds_message (those (of_pair lid number) l) the_pair tick payloads e

    -- a busy slot of the pair is the pair's slot
    pub its_slot : (j : ℕ) → shares_pair k (slot_at left j) ≡ true → j ≡ at
    its_slot j s = go (is_busy (slot_in k slots)) refl
      where
        go : (b : Bool) → is_busy (slot_in k slots) ≡ b → j ≡ at
        go true e = only (found k slots i.apart e) j s
        go false e = absurd (true≢false (sym s ∙ none_get k slots (missing k slots e) j))

    -- and its message is open
    pub its_message : is_busy (slot_in k slots) ≡ true → (payloads : List (List ℕ)) × (open_in lid number l ≡ opened (slot_in k slots).tick payloads)
    its_message b = go (those (of_pair lid number) l) the_pair
      where
        go : (ms : List Message) → Pair (slot_in k slots) (drop (512 * at) left.store) ms → (payloads : List (List ℕ)) × (open_of ms ≡ opened (slot_in k slots).tick payloads)
        go [] c = absurd (true≢false (sym b ∙ c.open_same))
        go (m ∷ ms) c = (m.payloads, ap (λ (t : ℕ). opened t m.payloads) (sym c.tick_same))

  -- a slot whose bit is set is busy, and shares its own pair
  pub own_busy : (j : ℕ) → busy_at left j ≡ true → is_busy (slot_at left j) ≡ true
  own_busy j b = sym (bit_is j) ∙ b

  pub own_pair : (j : ℕ) → busy_at left j ≡ true → shares_pair (slot_at left j) (slot_at left j) ≡ true
  own_pair j b = and_i (and_i (own_busy j b) (eq-eqb (slot_at left j).lid (slot_at left j).lid refl)) (eq-eqb (slot_at left j).number (slot_at left j).number refl)
