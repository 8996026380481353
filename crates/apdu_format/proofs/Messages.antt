-- From components to whole messages: what is accepted, what is refused and where.
-- Assumes nothing.
use Prim.Native.Nat.{ℕ, ◌+◌, ◌*◌, ◌≤◌}
use mathlib.Core.Path.{◌≡◌, refl, ap, sym, ◌∙◌}
use mathlib.Core.List.{List, [], ◌∷◌, ◌++◌, append-nil, map}
use mathlib.Core.Bool.{true}
use native.Mathlib.Omega.{arith}
use lib.ListN.{length, drop, drop_of_length-le}
use lib.Dec.{ltb, eqb}
use borrow.Author.Tests.{le-ltb, ltb-true, ltb-false, eqb-true, eqb-false}
use Rattle.bits.specs.Bits.{bits}
use Rattle.bits.proofs.Laws.{bits_small, length_bits}
use Rattle.apdu_format.specs.Limits.{longest_message}
use Rattle.apdu_format.specs.Component.{choice}
use Rattle.apdu_format.specs.Reading.{Value, octet_of, run, levels, runs, start, Outcome, refused, message, outcome, read_front, alone, read_message}
use Rattle.apdu_format.specs.Writing.{Pen, puts, pen, written, none, in_range, encode}
use Rattle.apdu_format.specs.RoundTrip.{unplaced, ReadAs, Encodes}
use Rattle.refusals.proofs.Tests.{by_test}
use Rattle.apdu_format.proofs.Tests.{both, never}
use Rattle.apdu_format.proofs.Rewriting.{run_wrote, pen_at}
use Rattle.apdu_format.proofs.Rereading.{Ahead, puts_back}
use Rattle.apdu_format.proofs.Places.{Within, run_within}

front_within : (s : List ℕ) → Within (length s) (run (bits s) levels (choice ∷ []) start)
front_within s =
    run_within (bits s) (length s) (length_bits s) levels (choice ∷ []) start
    (record { at = omega arith; begun = omega arith; position = omega arith; fault = omega arith })

-- ---- what is read can be written

-- a message at the front of s: its values are in range, its bits are those of s up to its end
record FrontWritten (s : List ℕ) (vs : List Value) (end : ℕ) : Type 0 where
  ranges : in_range vs ≡ true
  long : length (encode vs) ≡ end
  within : end ≤ 8 * length s
  is : bits s ≡ encode vs ++ drop end (bits s)

abbrev FrontTold : List ℕ → Outcome → Type 0
FrontTold s (refused k p) = Unit {0}
FrontTold s (message vs end) = FrontWritten s vs end

front_written : (s : List ℕ) → FrontTold s (read_front s)
unfolding read_front runs outcome in_range encode written none
front_written s =
    let d = run (bits s) levels (choice ∷ []) start in
    by_test (FrontTold s) (eqb d.fault 0)
    (λ p.
    let r = run_wrote (bits s) (bits_small s) levels (choice ∷ []) start (eqb-true _ _ p) in
    let w : puts levels (choice ∷ []) (pen r.vs) ≡ pen_at [] d.room r.w = rw append-nil at (r.writes [] []) in
    let e : encode r.vs ≡ r.w = ap (λ (p : Pen). p.out) w in
    let i = front_within s in
    record {
      ranges = rw (r.log, w);
      long = rw (r.log, e) (omega (arith, r.to));
      within = i.at;
      is = rw (r.log, e) r.ahead;
    })
    (λ p. tt)

abbrev Told : List ℕ → Outcome → Type 0
Told s (refused k p) = Unit {0}
Told s (message vs end) = Encodes s vs × (end ≡ 8 * length s)

alone_written : (s : List ℕ) → length s ≤ longest_message → (o : Outcome) → FrontTold s o → Told s (alone s o)
unfolding alone
alone_written s k (refused n p) h = tt
alone_written s k (message vs end) h =
    by_test (Told s) (ltb end (8 * length s))
    (λ p. tt)
    (λ p.
    let e : end ≡ 8 * length s = omega (arith, ltb-false end (8 * length s) p, h.within) in
    let n : length (bits s) ≤ end = omega (arith, length_bits s) in (
      record {
        ranges = h.ranges;
        short = k;
        is = h.is ∙ ap (λ (l : List ℕ). encode vs ++ l) (drop_of_length-le (bits s) n) ∙ append-nil (encode vs);
      },
      e,
    ))

pub read_told : (s : List ℕ) → Told s (read_message s)
unfolding read_message
read_told s =
    by_test (Told s) (ltb longest_message (length s)) (λ p. tt) (λ p. alone_written s (ltb-false _ _ p) (read_front s) (front_written s))

-- ---- what is written can be read

none_left : (vs : List Value) → none vs ≡ true → vs ≡ []
unfolding none
none_left [] h = refl
none_left (v ∷ vs) h = never h

pub in_range_law : (vs : List Value) → in_range vs ≡ true → ((written vs).ok ≡ true) × ((written vs).left ≡ [])
unfolding in_range
in_range_law vs h =
    let q = both (written vs).ok (none (written vs).left) h in
    (q.0, none_left (written vs).left q.1)

pub written_read : (s : List ℕ) (vs : List Value) → Encodes s vs → ReadAs s vs
unfolding read_message alone read_front runs outcome written encode
written_read s vs h =
    let q = in_range_law vs h.ranges in
    let r = puts_back levels (choice ∷ []) (pen vs) q.0 in
    let e : bits s ≡ r.w = h.is ∙ r.out in
    let a : Ahead (bits s) 0 r.w [] = record { within = omega arith; is = e ∙ sym (append-nil r.w) } in
    let n : 0 + length r.w ≡ 8 * length s = omega (arith, length_bits s, ap length e) in
    let l : vs ≡ r.vs = r.left ∙ ap (λ (l : List Value). r.vs ++ l) q.1 ∙ append-nil r.vs in
    let m : 8 * length s ≤ 0 + length r.w = omega arith in
    record {
      us = r.us (bits s) 0;
      is = rw (le-ltb _ _ h.short, r.reads (bits s) 0 0 [] [] a, le-ltb _ _ m, n);
      same = record { so = r.same (bits s) 0 [] a ∙ ap (map unplaced) (sym l) };
    }

-- ---- where a message is refused, and with which numbers

abbrev At : ℕ → Outcome → Type 0
At n (refused k p) = (p ≤ n) × (1 ≤ k) × (k ≤ 21)
At n (message vs end) = end ≤ 8 * n

nonzero : {k : ℕ} → (k ≡ 0 → ⊥) → 1 ≤ k
nonzero h = omega (arith, h)

pub front_inside : (s : List ℕ) → At (length s) (read_front s)
unfolding read_front runs outcome
front_inside s =
    let d = run (bits s) levels (choice ∷ []) start in
    let i = front_within s in
    by_test (At (length s)) (eqb d.fault 0) (λ p. i.at) (λ p. (i.position, nonzero (eqb-false d.fault 0 p), i.fault))

alone_inside : (s : List ℕ) (o : Outcome) → At (length s) o → At (length s) (alone s o)
unfolding alone octet_of
alone_inside s (refused k p) h = h
alone_inside s (message vs end) h = by_test (At (length s)) (ltb end (8 * length s)) (λ p. (omega (arith, ltb-true end (8 * length s) p), omega arith, omega arith)) (λ p. h)

pub read_inside : (s : List ℕ) → At (length s) (read_message s)
unfolding read_message
read_inside s =
    by_test (At (length s)) (ltb longest_message (length s)) (λ p. (omega (arith, ltb-true longest_message (length s) p), omega arith, omega arith)) (λ p. alone_inside s (read_front s) (front_inside s))
