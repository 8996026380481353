-- What the checks ask of a pair is the same of the table and of the ledger.
use mathlib.Core.Path.{◌≡◌, refl, sym, ap, ◌∙◌}
use mathlib.Core.Bool.{Bool, true, false}
use mathlib.Core.List.{List, [], ◌∷◌, map}
use Prim.Native.Nat.{ℕ, ◌*◌, ◌≤◌}
use native.Mathlib.Omega.{arith}
use lib.ListN.{length, take, drop, length-map}
use lib.Dec.{leb}
use lib.Count.{ones}
use Rattle.slots.specs.declared.Slot.{Slot}
use Rattle.slots.specs.declared.Table.{Table}
use Rattle.slots.specs.Slots.{free, is_busy, word_of, index_of}
use Rattle.slots.specs.Model.{all_sound, distinct, count_busy}
use Rattle.slots.proofs.WordLaws.{ones_word}
use Rattle.reassembly.specs.Ledger.{Message, those, joined, octets_of, of_pair, no_message, first_or, some_in, facts_of}
use Rattle.reassembly.specs.Engine.{facts_in}
use Rattle.reassembly.proofs.Perm.{perm_those, perm_one, perm_length}
use Rattle.reassembly.proofs.Views.{View, view_of, views, view_in, Same, those_map}
use Rattle.reassembly.proofs.Changes.{slot_in, is_pair, mine, found, missing, missing_free, one_mine, none_mine, count_views}

-- the state of the engine and the ledger agree
pub record Inv (t : Table) (store : List ℕ) (l : List Message) : Type 0 where
  pub word : t.busy ≡ word_of t.slots
  pub eight : length t.slots ≡ 8
  pub sound : all_sound t.slots ≡ true
  pub apart : distinct t.slots ≡ true
  pub same : Same t.slots store l

one_map : (ms : List Message) (v : View) → v ∷ [] ≡ map view_in ms → (m : Message) × (ms ≡ m ∷ []) × (v ≡ view_in m)
one_map [] v e = absurd (omega (arith, ap length e))
one_map (m ∷ []) v e = (m, refl, ap (first_or v) e)
one_map (m ∷ n ∷ ms) v e = absurd (omega (arith, ap length e))

none_map : (ms : List Message) → [] ≡ map view_in ms → ms ≡ []
none_map [] e = refl
none_map (m ∷ ms) e = absurd (omega (arith, ap length e))

-- the pair (lid, number): its slot p with its part of the store, and its message m among the ledger's ms
pub record Pair (p : Slot) (part : List ℕ) (ms : List Message) : Type 0 where
  pub open_same : is_busy p ≡ some_in ms
  pub next_same : p.next ≡ length (first_or no_message ms).payloads
  pub held_same : p.held ≡ octets_of (first_or no_message ms)
  pub tick_same : p.tick ≡ (first_or no_message ms).tick
  pub payload_same : take p.held part ≡ joined (first_or no_message ms).payloads
  pub few : length ms ≤ 1

pair_open : (p : Slot) (part : List ℕ) (ms : List Message) → is_busy p ≡ true → view_of p part ∷ [] ≡ map view_in ms → Pair p part ms
pair_open p part ms b e =
    let o = one_map ms (view_of p part) e in
    rw o.1 (record {
      open_same = b;
      next_same = ap (λ (v : View). v.next) o.2;
      held_same = ap (λ (v : View). v.held) o.2;
      tick_same = ap (λ (v : View). v.tick) o.2;
      payload_same = ap (λ (v : View). v.payload) o.2;
      few = omega arith;
    })

pair_closed : (p : Slot) (part : List ℕ) (ms : List Message) → p ≡ free → [] ≡ map view_in ms → Pair p part ms
unfolding joined
pair_closed p part ms f e = rw (f, none_map ms e) (record { open_same = refl; next_same = refl; held_same = refl; tick_same = refl; payload_same = refl; few = omega arith })

module _ (k : Slot) (slots : List Slot) (store : List ℕ) (l : List Message) (apart : distinct slots ≡ true) (same : Same slots store l) where
  abbrev pub its : List Message
  its = those (of_pair k.lid k.number) l

  all_mine : length (mine k (views slots store)) ≤ 1 → mine k (views slots store) ≡ map view_in its
  unfolding Same
  all_mine h = perm_one (perm_those (is_pair k) same) h ∙ sym (those_map (is_pair k) view_in l)

  pub pair : Pair (slot_in k slots) (drop (512 * index_of k.lid k.number slots) store) its
  pair = go (is_busy (slot_in k slots)) refl
    where
      go : (b : Bool) → is_busy (slot_in k slots) ≡ b → Pair (slot_in k slots) (drop (512 * index_of k.lid k.number slots) store) its
      go true e =
          let o = one_mine store (found k slots apart e) e in
          pair_open (slot_in k slots) _ its e (sym o ∙ all_mine (omega (arith, ap length o)))
      go false e =
          let o = none_mine k slots store (missing k slots e) in
          pair_closed (slot_in k slots) _ its (missing_free k slots e) (sym o ∙ all_mine (omega (arith, ap length o)))

  pub count_same : count_busy slots ≡ length l
  unfolding Same
  count_same = count_views slots store ∙ perm_length same ∙ length-map l view_in

  pub facts_same : (busy : ℕ) → busy ≡ word_of slots → facts_in k.lid k.number (record { busy = busy; slots = slots }) ≡ facts_of k.lid k.number l
  unfolding facts_in facts_of
  facts_same busy e =
      let full = ap ones e ∙ ones_word slots ∙ count_same in
      λ i. record { is_open = pair.open_same i; expected = pair.next_same i; held = pair.held_same i; full = leb 8 (full i) }
