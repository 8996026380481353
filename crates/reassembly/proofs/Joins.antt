-- An accepted fragment: the engine and the ledger answer the same and stay in agreement.
use mathlib.Core.Path.{◌≡◌, refl, sym, ap, ◌∙◌}
use mathlib.Core.Bool.{Bool, true, false, not}
use mathlib.Core.List.{List, [], ◌∷◌, ◌++◌, map, append_assoc, append-nil}
use Prim.Native.Nat.{ℕ, ◌+◌, ◌-◌, ◌*◌, ◌≤◌, ◌<◌, ◌^◌}
use native.Mathlib.Omega.{arith}
use lib.ListN.{length, take, drop, set, length-append, length-set}
use lib.Seq.{paste, take-paste, take_all, length-paste}
use borrow.Author.Tests.{ne_eqb, lt-ltb, le-leb}
use Rattle.refusals.specs.Check.{pick}
use Rattle.slots.specs.declared.Slot.{Slot}
use Rattle.slots.specs.declared.Table.{Table}
use Rattle.slots.specs.Slots.{free, is_busy, word_of, table_of, index_of, lowest_free}
use Rattle.slots.specs.Model.{sound_slot, count_busy, first_free}
use Rattle.slots.proofs.WordLaws.{trailing_word}
use lib.Count.{count_trailing_zeros}
use Rattle.reassembly.specs.Ledger.{Message, Report, dropping, delivering, After, those, joined, octets_of, of_pair, kept_for, joining, all_but}
use Rattle.reassembly.specs.Engine.{Outcome, change_taken, fragment_taken}
use Rattle.reassembly.specs.Runs.{fragment_report}
use Rattle.reassembly.proofs.Perm.{Perm, skip, trans, perm_those}
use Rattle.reassembly.proofs.Views.{views, view_in, Same, those_map}
use Rattle.reassembly.proofs.Changes.{slot_in, is_pair, others, found, missing, free_at, At, at_lt, view_with, put, clear_pair, sound_set, distinct_put, distinct_clear}
use Rattle.reassembly.proofs.Pairs.{Inv, Pair, pair}

pub joined_snoc : (xs : List (List ℕ)) (y : List ℕ) → joined (xs ++ (y ∷ [])) ≡ joined xs ++ y
unfolding joined
joined_snoc [] y = append-nil y
joined_snoc (x ∷ xs) y = ap (λ (l : List ℕ). x ++ l) (joined_snoc xs y) ∙ sym (append_assoc x (joined xs) y)

length_snoc : {A : Type 0} (xs : List A) (y : A) → length (xs ++ (y ∷ [])) ≡ length xs + 1
length_snoc xs y = length-append xs (y ∷ [])

-- the octets written are the message
written : (output m : List ℕ) → length m ≤ length output → take (length m) (paste output 0 m (length m)) ≡ m
written output m h =
    let z : 0 + length m ≡ length m = omega arith in
    ap (λ (j : ℕ). take j (paste output 0 m (length m))) (sym z) ∙ take-paste output 0 m (length m) (omega arith) (omega arith) ∙ take_all (length m) m (omega arith)

sound_busy : (q : Slot) → 1 ≤ q.next → q.lid < 2 ^ 28 → 2 ≤ q.number → q.number ≤ 15 → q.next ≤ q.held → q.held ≤ 512 → sound_slot q ≡ true
sound_busy q a b c d e f =
    rw (ne_eqb q.next 0 (λ z. omega (arith, z)), le-leb 1 q.next a, le-leb q.next q.held e, le-leb q.held 512 f, lt-ltb q.lid (2 ^ 28) b, le-leb 2 q.number c, le-leb q.number 15 d)

-- what one call has to show: its report, and the table and the store after it
pub record Agrees (report : Report) (t : Table) (store : List ℕ) (a : After) (n : ℕ) : Type 0 where
  pub report_same : report ≡ a.report
  pub inv : Inv t store a.kept
  pub long : length store ≡ n

abbrev pub OutcomeAgrees : Outcome → After → ℕ → Type 0
OutcomeAgrees o a n = Agrees (fragment_report o.answer o.output) o.table o.store a n

-- the trailing zeros of a right word's complement
pub lowest_is : (t : Table) → t.busy ≡ word_of t.slots → length t.slots ≡ 8 → lowest_free t ≡ first_free t.slots
lowest_is t w n = ap (λ (b : ℕ). count_trailing_zeros 32 ((2 ^ 32 - 1) - b)) w ∙ trailing_word 32 t.slots (omega arith)

-- a fragment's pair, and what the checks have shown
module _ (lid number tick : ℕ) (payload : List ℕ) (t : Table) (store output : List ℕ) (l : List Message) (i : Inv t store l)
    (lid_ok : lid < 2 ^ 28) (number_low : 2 ≤ number) (number_high : number ≤ 15) (payload_some : 1 ≤ length payload) (long : length store ≡ 4096) where
  unfoldable pub slots : List Slot
  slots = t.slots

  unfoldable pub k : Slot
  k = record { lid = lid; number = number; next = 0; held = 0; tick = 0 }

  unfoldable pub p : Slot
  unfolding slots k
  p = slot_in k slots

  unfoldable pub at : ℕ
  unfolding slots
  at = index_of lid number slots

  m : Message
  m = kept_for lid number l

  its_pair : Pair p (drop (512 * at) store) (those (of_pair lid number) l)
  unfolding p at slots k
  its_pair = pair k slots store l i.apart i.same

  -- what stays of the others
  rest_same : Perm (others k (views slots store)) (map view_in (all_but lid number l))
  unfolding slots k Same
  rest_same = rw (those_map (λ v. not (is_pair k v)) view_in l) (perm_those (λ v. not (is_pair k v)) i.same)

  cleared : Inv (table_of (set slots at free)) store (all_but lid number l)
  unfolding slots at k Same
  cleared = record {
    word = refl;
    eight = length-set slots at free ∙ i.eight;
    sound = sound_set slots at free i.sound refl;
    apart = distinct_clear slots at i.apart;
    same = rw (clear_pair k slots store i.apart) rest_same;
  }

  -- the octets that go before the payload
  head_of : Bool → List ℕ
  unfolding m
  head_of begins = joined (pick begins [] m.payloads)

  head_is : (begins : Bool) → take (pick begins 0 p.held) (drop (512 * at) store) ≡ head_of begins
  unfolding head_of m joined
  head_is true = refl
  head_is false = its_pair.payload_same

  head_long : (begins : Bool) → pick begins 0 p.held ≡ length (head_of begins)
  unfolding head_of m joined
  head_long true = refl
  head_long false = its_pair.held_same

  dropped_same : (begins : Bool) → pick begins p.held 0 ≡ pick begins (octets_of m) 0
  unfolding m
  dropped_same true = its_pair.held_same
  dropped_same false = refl

  pub last_agrees : (begins : Bool) → pick begins 0 p.held + length payload ≤ 512 → 512 ≤ length output
      → OutcomeAgrees (fragment_taken true begins lid number tick payload t store output) (joining true begins lid number tick payload l) (length store)
  unfolding change_taken fragment_taken joining p at slots k m head_of
  last_agrees begins le room =
      let whole_is = joined_snoc (pick begins [] m.payloads) payload in
      let n : pick begins 0 p.held + length payload ≡ length (head_of begins ++ payload) = omega (arith, head_long begins, length-append (head_of begins) payload) in
      record {
        report_same = rw (dropped_same begins, head_is begins, n, whole_is) (ap (delivering (pick begins (octets_of m) 0)) (written output (head_of begins ++ payload) (omega arith)));
        inv = cleared;
        long = refl;
      }

  -- the slot that a fragment not marked last takes, and what it then says
  spot : ℕ
  unfolding slots
  spot = pick (is_busy p) at (first_free slots)

  entry : Bool → Slot
  entry begins = record { lid = lid; number = number; next = pick begins 1 (p.next + 1); held = pick begins 0 p.held + length payload; tick = pick begins tick p.tick }

  message : Bool → Message
  unfolding m
  message begins = record { lid = lid; number = number; tick = pick begins tick m.tick; payloads = pick begins [] m.payloads ++ (payload ∷ []) }

  -- the pair is open, or the fragment begins and there is a free slot
  spot_at : (begins : Bool) → (begins ≡ false → is_busy p ≡ true) → (is_busy p ≡ false → count_busy slots < 8) → At (entry begins) slots spot
  unfolding spot at slots k entry p
  spot_at begins opens free_one = go (is_busy p) refl
    where
      go : (b : Bool) → is_busy p ≡ b → At (entry begins) slots (pick b at (first_free slots))
      go true e = found (entry begins) slots i.apart e
      go false e = free_at (entry begins) slots (missing (entry begins) slots e) (omega (arith, free_one e, i.eight))

  entry_next : (begins : Bool) → pick begins 1 (p.next + 1) ≡ length (pick begins [] m.payloads ++ (payload ∷ []))
  unfolding m
  entry_next true = refl
  entry_next false = omega (arith, its_pair.next_same, length_snoc m.payloads payload)

  entry_tick : (begins : Bool) → pick begins tick p.tick ≡ pick begins tick m.tick
  unfolding m
  entry_tick true = refl
  entry_tick false = its_pair.tick_same

  -- the payloads held stand in the slot's part
  spot_head : (begins : Bool) → (begins ≡ false → is_busy p ≡ true) → take (pick begins 0 p.held) (drop (512 * spot) store) ≡ head_of begins
  unfolding spot head_of m joined
  spot_head true opens = refl
  spot_head false opens = rw (opens refl) its_pair.payload_same

  entry_view : (begins : Bool) → (begins ≡ false → is_busy p ≡ true)
      → view_with (entry begins) (take (pick begins 0 p.held) (drop (512 * spot) store) ++ payload) ≡ view_in (message begins)
  unfolding entry message m head_of
  entry_view begins opens =
      let w = joined_snoc (pick begins [] m.payloads) payload in
      let payload_is = ap (λ (x : List ℕ). x ++ payload) (spot_head begins opens) ∙ sym w in
      let held_is : pick begins 0 p.held + length payload ≡ length (joined (pick begins [] m.payloads ++ (payload ∷ []))) =
      omega (arith, head_long begins, length-append (head_of begins) payload, ap length w) in
      λ j. record { lid = lid; number = number; next = entry_next begins j; held = held_is j; tick = entry_tick begins j; payload = payload_is j }

  entry_busy : (begins : Bool) → is_busy (entry begins) ≡ true
  unfolding entry
  entry_busy true = refl
  entry_busy false = ap not (ne_eqb (p.next + 1) 0 (λ e. omega (arith, e)))

  entry_sound_law : (begins : Bool) → pick begins 0 p.held + length payload ≤ 512 → pick begins 1 (p.next + 1) ≤ pick begins 0 p.held + length payload → sound_slot (entry begins) ≡ true
  unfolding entry
  entry_sound_law begins le more = sound_busy (entry begins) (next_some begins) lid_ok number_low number_high more le
    where
      next_some : (begins : Bool) → 1 ≤ pick begins 1 (p.next + 1)
      next_some true = omega arith
      next_some false = omega arith

  pub kept_agrees : (begins : Bool) → pick begins 0 p.held + length payload ≤ 512 → pick begins 1 (p.next + 1) ≤ pick begins 0 p.held + length payload
      → (begins ≡ false → is_busy p ≡ true) → (is_busy p ≡ false → count_busy slots < 8)
      → OutcomeAgrees (fragment_taken false begins lid number tick payload t store output) (joining false begins lid number tick payload l) (length store)
  unfolding change_taken fragment_taken joining p at slots k m spot entry message Same
  kept_agrees begins le more opens free_one =
      let a = spot_at begins opens free_one in
      let e = entry_view begins opens in
      let moved = put store payload (pick begins 0 p.held) a (entry_busy begins) refl le (omega (arith, i.eight)) i.sound in
      let tail : Perm (view_with (entry begins) (take (pick begins 0 p.held) (drop (512 * spot) store) ++ payload) ∷ others k (views slots store)) (view_in (message begins) ∷ map view_in (all_but lid number l)) =
      rw e (skip (view_in (message begins)) rest_same) in
      rw (lowest_is t i.word i.eight) (record {
        report_same = ap dropping (dropped_same begins);
        inv = record {
          word = refl;
          eight = length-set slots spot (entry begins) ∙ i.eight;
          sound = sound_set slots spot (entry begins) i.sound (entry_sound_law begins le more);
          apart = distinct_put a i.apart;
          same = trans moved tail;
        };
        long = length-paste store (512 * spot + pick begins 0 p.held) payload (length payload) (omega (arith, at_lt a, i.eight)) (omega arith);
      })
