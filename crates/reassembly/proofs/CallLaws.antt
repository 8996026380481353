-- The fragment call: from what its callees give to the definition.
use mathlib.Core.Path.{◌≡◌, refl, sym, ap, ◌∙◌}
use mathlib.Core.Logic.{⊎_elim}
use mathlib.Core.Bool.{Bool, true, false, not, ◌&&◌, false≢true}
use mathlib.Core.List.{List, [], ◌∷◌, ◌++◌}
use Prim.Native.Nat.{ℕ, suc, ◌+◌, ◌-◌, ◌*◌, ◌≤◌, ◌<◌}
use native.Mathlib.Omega.{arith}
use native.Mathlib.Numerals.{add-one}
use native.Mathlib.Nat.{eq-or-lt_of_le}
use lib.ListN.{length, get_or, take, drop, length-drop, get_or-eq_default}
use lib.Seq.{take_all}
use lib.Count.{ones}
use lib.Dec.{eqb}
use borrow.Author.Tests.{eq-eqb, leb-false}
use Rattle.std.specs.Prelude.{Ok, Err}
use Rattle.refusals.specs.Check.{pick, Check, first_of, Answer, refused, accepted}
use Rattle.refusals.specs.declared.Refusal.{Refusal}
use Rattle.refusals.specs.declared.Refusal.TheVariants as refusal
use Rattle.refusals.specs.Refusal.{number_of}
use Rattle.header.specs.Header.{header_length}
use Rattle.slots.specs.declared.Slot.{Slot}
use Rattle.slots.specs.declared.Table.{Table}
use Rattle.slots.specs.Slots.{slot_count, free, is_busy, bit_of, index_of, lowest_free, is_sound}
use Rattle.slots.specs.Model.{count_busy, first_free}
use Rattle.slots.proofs.Tests.{not_f, and_l}
use Rattle.slots.proofs.LookupLaws.{index_le}
use Rattle.slots.proofs.WordLaws.{ones_word}
use Rattle.slots.proofs.SoundLaws.{sound_parts, sound_at, held_small, next_held}
use Rattle.reassembly.specs.declared.Arrival.{Arrival}
use Rattle.reassembly.specs.declared.Change.{Change}
use Rattle.reassembly.specs.Checks.{FragmentFields, Facts, fragment_in, payload_of, lsdu_checks, header_checks, pair_checks}
use Rattle.reassembly.specs.Engine.{Taken, slot_for, facts_from, facts_in, fragment_refusal, change_taken, fragment_taken, fragment_of, change_of, taken_of, changed_by, ChangeGives, FragmentGives}
use Rattle.reassembly.specs.Accept.{AcceptAsks, AcceptGives}
use Rattle.reassembly.proofs.Joins.{lowest_is}
use Rattle.reassembly.proofs.Passed.{Numbered, first_append, Passed, passed, valid_is, valid_refusal, no_fields}
use Rattle.reassembly.proofs.Headed.{header_in, payload_long}

free_lt : (slots : List Slot) → count_busy slots < length slots → first_free slots < length slots
unfolding count_busy first_free
free_lt [] h = absurd (omega arith)
free_lt (slot ∷ slots) h = go (is_busy slot) (free_lt slots) h
  where
    go : (b : Bool) → (count_busy slots < length slots → first_free slots < length slots) → bit_of b + count_busy slots < suc (length slots) → pick b (first_free slots + 1) 0 < suc (length slots)
    go true ih g = omega (arith, ih (omega arith))
    go false ih g = omega arith

-- the slot at a pair's index is busy, or free past the last
pub shut_is : (lid number : ℕ) (slots : List Slot) → is_busy (get_or slots (index_of lid number slots) free) ≡ false → get_or slots (index_of lid number slots) free ≡ free
unfolding index_of
shut_is lid n [] h = refl
shut_is lid n (slot ∷ slots) h = go (is_busy slot && eqb slot.lid lid && eqb slot.number n) refl (shut_is lid n slots) h
  where
    go : (b : Bool) → is_busy slot && eqb slot.lid lid && eqb slot.number n ≡ b
        → (is_busy (get_or slots (index_of lid n slots) free) ≡ false → get_or slots (index_of lid n slots) free ≡ free)
        → is_busy (get_or (slot ∷ slots) (pick b 0 (index_of lid n slots + 1)) free) ≡ false → get_or (slot ∷ slots) (pick b 0 (index_of lid n slots + 1)) free ≡ free
    go true e ih h = absurd (false≢true (sym h ∙ and_l (is_busy slot) (eqb slot.lid lid) (and_l (is_busy slot && eqb slot.lid lid) (eqb slot.number n) e)))
    go false e ih h =
        let s = ap (λ (k : ℕ). get_or (slot ∷ slots) k free) (add-one (index_of lid n slots)) in
        s ∙ ih (ap is_busy (sym s) ∙ h)

-- a busy slot stands in the table, and what it holds in the store
module _ (slots : List Slot) (i : ℕ) (n : length slots ≡ 8) (le : i ≤ 8) where
  taken_in : (lowest : ℕ) → (is_busy (get_or slots i free) ≡ false → lowest < 8) → pick (is_busy (get_or slots i free)) i lowest < 8
  taken_in lowest spare = go (is_busy (get_or slots i free)) refl
    where
      go : (b : Bool) → is_busy (get_or slots i free) ≡ b → pick b i lowest < 8
      go true b = ⊎_elim (λ h. absurd (false≢true (sym (ap is_busy (get_or-eq_default slots free {n = i} (omega arith))) ∙ b))) (λ h. h) (eq-or-lt_of_le le)
      go false b = spare b

  held_in : (get_or slots i free).held ≤ 512 → 512 * i + (get_or slots i free).held ≤ 4096
  held_in h = ⊎_elim (λ g. omega (arith, ap (λ (s : Slot). s.held) (get_or-eq_default slots free {n = i} (omega arith)))) (λ g. omega arith) (eq-or-lt_of_le le)

abbrev pub arrival_of : ℕ → ℕ → FragmentFields → ℕ → Arrival
arrival_of lid tick f index = record { lid = lid; number = f.number; tick = tick; last = f.last; begins = eqb f.counter 0; index = index }

-- the part of an LSDU behind all but so many octets
abbrev pub tail_of : List ℕ → ℕ → List ℕ
tail_of lsdu octets = take (length lsdu - (length lsdu - octets)) (drop (length lsdu - octets) lsdu)

-- no refusal has the number 0
not_0 : (e : Refusal) → eqb (number_of e) 0 ≡ false
not_0 refusal.StoreOrOutputLength = refl
not_0 refusal.TableNotSound = refl
not_0 refusal.LidOutOfRange = refl
not_0 refusal.LsduLength = refl
not_0 refusal.HeaderNotValid = refl
not_0 refusal.NumberReserved = refl
not_0 refusal.NoPayload = refl
not_0 refusal.NotOpen = refl
not_0 refusal.NoFreeSlot = refl
not_0 refusal.CounterNotExpected = refl
not_0 refusal.CounterExhausted = refl
not_0 refusal.MessageTooLong = refl
not_0 refusal.CutShort = refl
not_0 refusal.OctetsLeft = refl
not_0 refusal.ChoiceUnknown = refl
not_0 refusal.ExtensionBit = refl
not_0 refusal.ContainerKind = refl
not_0 refusal.CountTooLarge = refl
not_0 refusal.TooDeep = refl
not_0 refusal.ApduTooLong = refl
not_0 refusal.OutputTooSmall = refl
not_0 refusal.RecordOutOfRange = refl
not_0 refusal.NotServed = refl
not_0 refusal.LinkNotReady = refl
not_0 refusal.ListNotSound = refl

-- the two lists of checks, as the callees go through them
module _ (lid : ℕ) (lsdu : List ℕ) (t : Table) (store output : List ℕ) where
  abbrev early_list : Bool → List Check
  early_list fine = lsdu_checks (length store) (length output) (not fine) lid (length lsdu)

  abbrev late_list : FragmentFields → Facts → List Check
  late_list f x = header_checks f ++ pair_checks f x

  abbrev number : ℕ
  number = fragment_refusal lid lsdu t (length store) (length output)

  by_lists : number ≡ pick (eqb (first_of (early_list (is_sound t))) 0) (first_of (late_list (fragment_in lsdu) (facts_in lid (fragment_in lsdu).number t))) (first_of (early_list (is_sound t)))
  unfolding fragment_refusal Numbered
  by_lists = first_append (early_list (is_sound t)) (late_list (fragment_in lsdu) (facts_in lid (fragment_in lsdu).number t)) (omega arith, (omega arith, (omega arith, (omega arith, tt))))

  -- what the callees found
  pub record Looked (f : FragmentFields) (slot : Slot) (index late : ℕ) : Type 0 where
    pub fields : f ≡ fragment_in lsdu
    pub found : index ≡ index_of lid (fragment_in lsdu).number t.slots
    pub read : slot ≡ slot_for lid (fragment_in lsdu).number t
    pub refusal : number ≡ late
    pub eight : length t.slots ≡ slot_count

module _ {lid : ℕ} {lsdu : List ℕ} {t : Table} {store output : List ℕ} where
  pub look : {fine : Bool} {f : FragmentFields} {slot : Slot} {x : Facts} {index early late : ℕ}
      → length t.slots ≡ slot_count → fine ≡ is_sound t → early ≡ first_of (early_list lid lsdu t store output fine) → early ≡ 0
      → f ≡ fragment_in lsdu → index ≡ index_of lid f.number t.slots → slot ≡ get_or t.slots index free
      → x ≡ facts_from slot t → late ≡ first_of (late_list lid lsdu t store output f x)
      → Looked lid lsdu t store output f slot index late
  unfolding facts_in
  look eight sound first none fields found at-index facts second =
      let at = found ∙ ap (λ (g : FragmentFields). index_of lid g.number t.slots) fields in
      let read = at-index ∙ ap (λ (k : ℕ). get_or t.slots k free) at in
      let early = sym (first ∙ ap (λ (b : Bool). first_of (early_list lid lsdu t store output b)) sound) ∙ none in
      let late = second ∙ λ k. first_of (late_list lid lsdu t store output (fields k) ((facts ∙ ap (λ (y : Slot). facts_from y t) read) k)) in
      record { fields = fields; found = at; read = read; refusal = by_lists lid lsdu t store output ∙ rw early (sym late); eight = eight }

  -- ---- refusals

  pub refusal_gives : {tick : ℕ} (e : Refusal) → number lid lsdu t store output ≡ number_of e → ChangeGives lid tick lsdu t store output (Err e) store output
  unfolding change_of fragment_of
  refusal_gives e h =
      let q = ap (λ (n : ℕ). eqb n 0) h ∙ not_0 e in
      record { change_is = rw q (ap refused (sym h)); store_is = rw q; output_is = rw q }

  pub early_gives : {tick : ℕ} {fine : Bool} (e : Refusal) → fine ≡ is_sound t → number_of e ≡ first_of (early_list lid lsdu t store output fine)
      → ChangeGives lid tick lsdu t store output (Err e) store output
  early_gives e sound first =
      let n = first ∙ ap (λ (b : Bool). first_of (early_list lid lsdu t store output b)) sound in
      refusal_gives e (by_lists lid lsdu t store output ∙ rw (sym n, not_0 e))

  pub header_gives : {tick : ℕ} {fine : Bool} (e : Refusal) → fine ≡ is_sound t → 0 ≡ first_of (early_list lid lsdu t store output fine)
      → no_fields ≡ fragment_in lsdu → number_of e ≡ 5 → ChangeGives lid tick lsdu t store output (Err e) store output
  unfolding first_of
  header_gives e sound none fields h =
      let early = sym (none ∙ ap (λ (b : Bool). first_of (early_list lid lsdu t store output b)) sound) in
      let late = ap (λ (f : FragmentFields). first_of (late_list lid lsdu t store output f (facts_in lid f.number t))) (sym fields) in
      refusal_gives e (by_lists lid lsdu t store output ∙ rw early late ∙ sym h)

  -- ---- no refusal

  module _ {f : FragmentFields} {slot : Slot} {index late : ℕ} (l : Looked lid lsdu t store output f slot index late) (no_late : late ≡ 0) where
    clear : Passed (length store) (length output) lid (not (is_sound t)) (fragment_in lsdu) (facts_in lid (fragment_in lsdu).number t)
    unfolding fragment_refusal
    clear =
        passed (length store) (length output) lid (length lsdu) (not (is_sound t)) (fragment_in lsdu) (facts_in lid (fragment_in lsdu).number t)
        (l.refusal ∙ no_late)

    octets_are : f.octets ≡ length (payload_of lsdu)
    octets_are = ap (λ (x : FragmentFields). x.octets) (l.fields ∙ valid_is lsdu clear.valid)

    pub octets_in_law : f.octets ≤ length lsdu
    octets_in_law = omega (arith, octets_are, payload_long lsdu)

    tail_is : tail_of lsdu f.octets ≡ payload_of lsdu
    unfolding payload_of
    tail_is =
        let start : length lsdu - f.octets ≡ header_length lsdu = omega (arith, octets_are, payload_long lsdu, header_in lsdu (valid_refusal lsdu clear.valid)) in
        rw start (take_all (length lsdu - header_length lsdu) (drop (header_length lsdu) lsdu) (omega (arith, length-drop (header_length lsdu) lsdu)))

    asks_at : (tick : ℕ)
        → AcceptAsks (arrival_of lid tick (fragment_in lsdu) (index_of lid (fragment_in lsdu).number t.slots))
        (slot_for lid (fragment_in lsdu).number t) (lowest_free t) (payload_of lsdu) store output
    unfolding facts_in
    asks_at tick =
        let n = l.eight in
        let s = sound_parts t (not_f (is_sound t) clear.table_sound) in
        let index = index_of lid (fragment_in lsdu).number t.slots in
        let slot = slot_for lid (fragment_in lsdu).number t in
        let each = sound_at t.slots index s.each in
        let octets = ap (λ (x : FragmentFields). x.octets) (valid_is lsdu clear.valid) in
        let le : index ≤ 8 = omega (arith, index_le lid (fragment_in lsdu).number t.slots) in
        let count = ap ones s.word ∙ ones_word t.slots in
        let spare : (fragment_in lsdu).last ≡ false → is_busy slot ≡ false → first_free t.slots < length t.slots =
        λ last shut. free_lt t.slots (omega (arith, leb-false 8 (ones t.busy) (clear.room last shut), count)) in
        record {
          long = clear.store_long;
          room = clear.output_long;
          part_in = held_in t.slots index n le (held_small slot each);
          few = omega (arith, held_small slot each, next_held slot each);
          fits = omega (arith, octets, clear.fits);
          slot_within = λ last. taken_in t.slots index n le (lowest_free t) (λ shut. omega (arith, lowest_is t s.word n, spare last shut));
        }

    pub asks : {tick lowest : ℕ} → lowest ≡ lowest_free t
        → AcceptAsks (arrival_of lid tick f index) slot lowest (tail_of lsdu f.octets) store output
    asks {tick = tick} low =
        coe 1 0 (k. AcceptAsks (arrival_of lid tick (l.fields k) (l.found k)) (l.read k) (low k) (tail_is k) store output) (asks_at tick)

    pub gives : {tick lowest : ℕ} {r : Change} {store' output' : List ℕ} → lowest ≡ lowest_free t
        → AcceptGives (arrival_of lid tick f index) slot lowest (tail_of lsdu f.octets) store output r store' output'
        → ChangeGives lid tick lsdu t store output (Ok r) store' output'
    unfolding change_of fragment_of
    gives {tick = tick} {r = r} {store' = store'} {output' = output'} low g =
        let moved = coe 0 1 (k. AcceptGives (arrival_of lid tick (l.fields k) (l.found k)) (l.read k) (low k) (tail_is k) store output r store' output') g in
        let none = eq-eqb (number lid lsdu t store output) 0 (l.refusal ∙ no_late) in
        record {
          change_is = rw none (ap accepted (moved.change_is t (record { index_is = refl; slot_is = refl; lowest_is = refl })));
          store_is = rw none (moved.store_is t (record { index_is = refl; slot_is = refl; lowest_is = refl }));
          output_is = rw none (moved.output_is t (record { index_is = refl; slot_is = refl; lowest_is = refl }));
        }

-- ---- the change, made in the table

-- what a call answers and leaves in the table, by what it changes
answered : Answer Change → Answer Taken
answered (refused n) = refused n
answered (accepted c) = accepted (taken_of c.accepted)

left : Table → Answer Change → Table
left t (refused n) = t
left t (accepted c) = changed_by t c

-- the change that a call tells is the one that the call makes
change_makes : (lid tick : ℕ) (lsdu : List ℕ) (t : Table) (store output : List ℕ)
    → let c = change_of lid tick lsdu t (length store) (length output) in
    let o = fragment_of lid tick lsdu t store output in
    (answered c ≡ o.answer) × (left t c ≡ o.table)
unfolding change_of fragment_of change_taken fragment_taken answered left
change_makes lid tick lsdu t store output = go (eqb n 0) (fragment_in lsdu).last
  where
    n : ℕ
    n = fragment_refusal lid lsdu t (length store) (length output)

    begins : Bool
    begins = eqb (fragment_in lsdu).counter 0

    go : (b last : Bool)
        → let c = pick b (accepted (change_taken last begins lid (fragment_in lsdu).number tick (length (payload_of lsdu)) t)) (refused n) in
        let o = pick b (fragment_taken last begins lid (fragment_in lsdu).number tick (payload_of lsdu) t store output) (record { answer = refused n; table = t; store = store; output = output }) in
        (answered c ≡ o.answer) × (left t c ≡ o.table)
    go true true = (refl, refl)
    go true false = (refl, refl)
    go false last = (refl, refl)

module _ {lid tick : ℕ} {lsdu : List ℕ} {t : Table} {store output store' output' : List ℕ} where
  pub refused_gives : {e : Refusal} → ChangeGives lid tick lsdu t store output (Err e) store' output'
      → FragmentGives lid tick lsdu t store output (Err e) t store' output'
  unfolding answered left
  refused_gives g =
      let m = change_makes lid tick lsdu t store output in
      record {
        answer_is = ap answered g.change_is ∙ m.0;
        table_is = ap (left t) g.change_is ∙ m.1;
        store_is = g.store_is;
        output_is = g.output_is;
      }

  pub change_gives : {c : Change} {after : Table} → ChangeGives lid tick lsdu t store output (Ok c) store' output' → after ≡ changed_by t c
      → FragmentGives lid tick lsdu t store output (Ok c.accepted) after store' output'
  unfolding answered left
  change_gives g e =
      let m = change_makes lid tick lsdu t store output in
      record {
        answer_is = ap answered g.change_is ∙ m.0;
        table_is = e ∙ ap (left t) g.change_is ∙ m.1;
        store_is = g.store_is;
        output_is = g.output_is;
      }
