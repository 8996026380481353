-- An accepted fragment: from what the callees of `accept` give to the definition.
use mathlib.Core.Path.{◌≡◌, refl, sym, ap, ◌∙◌}
use mathlib.Core.Bool.{Bool, true, false}
use mathlib.Core.List.{List, ◌++◌}
use Prim.Native.Nat.{ℕ, ◌+◌, ◌-◌, ◌≤◌}
use native.Mathlib.Omega.{arith}
use lib.ListN.{length, take, drop, length-append, length-drop}
use lib.Seq.{paste, take-paste, drop-paste, take_all, take-length, drop-drop, length-take-le}
use Rattle.refusals.specs.Check.{pick}
use Rattle.slots.specs.declared.Slot.{Slot}
use Rattle.slots.specs.declared.Table.{Table}
use Rattle.slots.specs.Slots.{free, is_busy, index_of, lowest_free}
use Rattle.reassembly.specs.declared.Arrival.{Arrival}
use Rattle.reassembly.specs.declared.Change.{Change}
use Rattle.reassembly.specs.declared.Accepted.TheVariants.{Held, Whole}
use Rattle.reassembly.specs.Engine.{put_at, part_at, slot_for, change_taken, fragment_taken}
use Rattle.reassembly.specs.Accept.{DeliverAsks, DeliverGives, KeepAsks, KeepGives, AcceptAsks, Found, AcceptGives}

-- ---- copies

-- a copy of a part of the store
pub part_pasted : (output store : List ℕ) (at held : ℕ) → at + held ≤ length store
    → paste output 0 (take (at + held - at) (drop at store)) (length (take (at + held - at) (drop at store))) ≡ paste output 0 (take held (drop at store)) held
part_pasted output store at held h =
    let e : at + held - at ≡ held = omega arith in
    let n : length (take held (drop at store)) ≡ held = length-take-le held (drop at store) (omega (arith, length-drop at store)) in
    rw e (ap (λ (k : ℕ). paste output 0 (take held (drop at store)) k) n)

-- a copy behind a copy at the front
pub two_pastes : (output a x : List ℕ) (n : ℕ) → length a ≡ n → n + length x ≤ length output
    → paste (paste output 0 a n) n x (length x) ≡ put_at output 0 (a ++ x)
two_pastes output a x n la le =
    let d = paste output 0 a n in
    let m = length x in
    let z : 0 + n ≡ n = omega arith in
    let all : length (a ++ x) ≡ n + m = omega (arith, length-append a x) in
    let zz : 0 + length (a ++ x) ≡ n + m = omega arith in
    let front : take n d ≡ a = ap (λ (k : ℕ). take k d) (sym z) ∙ take-paste output 0 a n (omega arith) (omega arith) ∙ take_all n a (omega arith) in
    let back : drop n d ≡ drop n output = ap (λ (k : ℕ). drop k d) (sym z) ∙ drop-paste output 0 a n (omega arith) (omega arith) ∙ ap (λ (k : ℕ). drop k output) z in
    let far : drop (n + m) d ≡ drop (n + m) output = sym (drop-drop m n d) ∙ ap (drop m) back ∙ drop-drop m n output in
    ap (λ (l : List ℕ). (l ++ take m x) ++ drop (n + m) d) front
    ∙ ap (λ (l : List ℕ). (a ++ l) ++ drop (n + m) d) (take-length x)
    ∙ ap (λ (l : List ℕ). (a ++ x) ++ l) far
    ∙ sym (ap (λ (l : List ℕ). l ++ drop (0 + length (a ++ x)) output) (take-length (a ++ x)) ∙ ap (λ (k : ℕ). (a ++ x) ++ drop k output) zz)

-- ---- the calls of `accept`

less : (b : Bool) (n : ℕ) → pick b 0 n ≤ n
less true n = omega arith
less false n = omega arith

module _ {a : Arrival} {slot : Slot} {lowest : ℕ} {payload store output : List ℕ} (asks : AcceptAsks a slot lowest payload store output) where
  pub deliver_asks : {before : ℕ} → before ≡ pick a.begins 0 slot.held → DeliverAsks a.index before payload store output
  deliver_asks e = record {
    part_in = omega (arith, less a.begins slot.held);
    long = asks.long;
    fits = omega arith;
    room = asks.room;
  }

  pub keep_asks : {before taken : ℕ} → before ≡ pick a.begins 0 slot.held → a.last ≡ false → taken ≡ pick (is_busy slot) a.index lowest
      → KeepAsks taken before payload store
  keep_asks b l e = record { slot_within = omega (arith, asks.slot_within l); long = asks.long; fits = omega arith }

-- ---- what they give

-- what the code finds, of a table that has the pair's slot there
module _ {a : Arrival} {slot : Slot} {lowest : ℕ} {t : Table} (f : Found a slot lowest t) where
  before_is : {before : ℕ} → before ≡ pick a.begins 0 slot.held → before ≡ pick a.begins 0 (slot_for a.lid a.number t).held
  before_is b = b ∙ ap (λ (s : Slot). pick a.begins 0 s.held) f.slot_is

  dropped_is : {dropped : ℕ} → dropped ≡ pick a.begins slot.held 0 → dropped ≡ pick a.begins (slot_for a.lid a.number t).held 0
  dropped_is d = d ∙ ap (λ (s : Slot). pick a.begins s.held 0) f.slot_is

  taken_is : {taken : ℕ} → taken ≡ pick (is_busy slot) a.index lowest
      → taken ≡ pick (is_busy (slot_for a.lid a.number t)) (index_of a.lid a.number t.slots) (lowest_free t)
  taken_is e = e ∙ λ k. pick (is_busy (f.slot_is k)) (f.index_is k) (f.lowest_is k)

module _ {a : Arrival} {slot : Slot} {lowest before dropped : ℕ} {payload store output : List ℕ} {r : Change}
    (b : before ≡ pick a.begins 0 slot.held) (d : dropped ≡ pick a.begins slot.held 0) where
  pub deliver_gives : {output' : List ℕ} → a.last ≡ true → DeliverGives a.index before dropped payload store output r output'
      → AcceptGives a slot lowest payload store output r store output'
  unfolding change_taken fragment_taken
  deliver_gives l h = record {
    change_is = λ t f. h.change_is
        ∙ rw l (λ k. record { accepted = Whole (before_is f b k + length payload) (dropped_is f d k); slot = free; index = f.index_is k });
    store_is = λ t f. rw l refl;
    output_is = λ t f. h.output_is
        ∙ rw l (λ k. put_at output 0 (take (before_is f b k) (drop (part_at (f.index_is k)) store) ++ payload));
  }

  pub keep_gives : {taken next tick : ℕ} {store' : List ℕ} → a.last ≡ false → taken ≡ pick (is_busy slot) a.index lowest
      → next ≡ pick a.begins 1 (slot.next + 1) → tick ≡ pick a.begins a.tick slot.tick
      → KeepGives taken (record { lid = a.lid; number = a.number; next = next; held = before + length payload; tick = tick }) before dropped payload store r store'
      → AcceptGives a slot lowest payload store output r store' output
  unfolding change_taken fragment_taken
  keep_gives l e n c h = record {
    change_is = λ t f.
        let n' = n ∙ ap (λ (s : Slot). pick a.begins 1 (s.next + 1)) f.slot_is in
        let c' = c ∙ ap (λ (s : Slot). pick a.begins a.tick s.tick) f.slot_is in
        let slot' : ◌≡◌ {A = Slot} _ _ = λ k. record { lid = a.lid; number = a.number; next = n' k; held = before_is f b k + length payload; tick = c' k } in
        h.change_is ∙ rw l (λ k. record { accepted = Held (before_is f b k + length payload) (dropped_is f d k); slot = slot' k; index = taken_is f e k });
    store_is = λ t f. h.store_is ∙ rw l (λ k. put_at store (part_at (taken_is f e k) + before_is f b k) payload);
    output_is = λ t f. rw l refl;
  }
