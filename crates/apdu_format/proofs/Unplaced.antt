-- Where strings stand plays no part in writing: messages that are the same have the same bits, and messages in range with the same octets are the same.
-- Assumes nothing.
use Prim.Native.Nat.{ℕ, zero, suc, ◌*◌, ◌/◌}
use mathlib.Core.Path.{◌≡◌, refl, ap, sym, ◌∙◌}
use mathlib.Core.Bool.{Bool, true, false}
use mathlib.Core.List.{List, [], ◌∷◌, map}
use lib.ListN.{length}
use Rattle.refusals.specs.Check.{pick}
use Rattle.refusals.proofs.Tests.{by_cases}
use Rattle.bits.specs.Bits.{octets}
use Rattle.apdu_format.specs.Component.{Component, choice}
use Rattle.apdu_format.specs.Rules.{Shape, widths, raw, shape}
use Rattle.apdu_format.specs.Reading.{Value, fields, string, numbers_of, through, levels, message}
use Rattle.apdu_format.specs.Writing.{bits_of, fits, is_value, Pen, PenStep, broken, put_value, put_first, put, puts, pen, written, encode, size, encoded_octets}
use Rattle.apdu_format.specs.RoundTrip.{unplaced, Same, ReadAs, SameEncoded}
use Rattle.apdu_format.proofs.RoundTrip.{encoded, read_written}

-- ---- one component

numbers_unplaced : (v : Value) → numbers_of (unplaced v) ≡ numbers_of v
unfolding numbers_of unplaced
numbers_unplaced (fields fs) = refl
numbers_unplaced (string at l) = refl

fits_unplaced : (h : Shape) (v : Value) → fits h (unplaced v) ≡ fits h v
unfolding fits unplaced
fits_unplaced (widths ws) (fields fs) = refl
fits_unplaced (widths ws) (string at l) = refl
fits_unplaced (raw n) (fields fs) = refl
fits_unplaced (raw n) (string at l) = refl

bits_unplaced : (h : Shape) (v : Value) → bits_of h (unplaced v) ≡ bits_of h v
unfolding bits_of numbers_of unplaced
bits_unplaced (widths ws) (fields fs) = refl
bits_unplaced (widths ws) (string at l) = refl
bits_unplaced (raw n) (fields fs) = refl
bits_unplaced (raw n) (string at l) = refl

ranged_unplaced : (i : Component) (room : ℕ) (v : Value) → is_value i room (unplaced v) ≡ is_value i room v
unfolding is_value
ranged_unplaced i room v = rw (fits_unplaced (shape i) v, numbers_unplaced v)

-- ---- one step

-- the same pen before values without places
abbrev before : Pen → Pen
before p = record { left = map unplaced p.left; room = p.room; ok = p.ok; out = p.out }

abbrev after : PenStep → PenStep
after t = record { pen = before t.pen; more = t.more }

value_put : (i : Component) (p : Pen) (v : Value) (vs : List Value) → put_value i (before p) (unplaced v) (map unplaced vs) ≡ after (put_value i p v vs)
unfolding put_value
value_put i p v vs =
    by_cases (is_value i p.room v)
    (λ t. rw (ranged_unplaced i p.room v, numbers_unplaced v, bits_unplaced (shape i) v, t))
    (λ t. rw (ranged_unplaced i p.room v, t))

first_put : (i : Component) (p : Pen) (vs : List Value) → put_first i (before p) (map unplaced vs) ≡ after (put_first i p vs)
unfolding put_first
first_put i p [] = refl
first_put i p (v ∷ vs) = value_put i p v vs

put_unplaced : (i : Component) (p : Pen) → put i (before p) ≡ after (put i p)
unfolding put
put_unplaced i p = so p.ok (put_first i p p.left) (first_put i p p.left)
  where
    so : (b : Bool) (u : PenStep) {t : PenStep} → t ≡ after u → pick b t broken ≡ after (pick b u broken)
    so true u h = h
    so false u h = refl

-- ---- a message

through_unplaced : (f : Component → Pen → Pen) → ((i : Component) (p : Pen) → f i (before p) ≡ before (f i p)) → (is : List Component) (p : Pen)
    → through f is (before p) ≡ before (through f is p)
unfolding through
through_unplaced f h [] p = refl
through_unplaced f h (i ∷ is) p = ap (through f is) (h i p) ∙ through_unplaced f h is (f i p)

puts_unplaced : (l : ℕ) (is : List Component) (p : Pen) → puts l is (before p) ≡ before (puts l is p)
unfolding puts
puts_unplaced zero is p = refl
puts_unplaced (suc l) is p =
    through_unplaced (λ i p. let t = put i p in puts l t.more t.pen)
    (λ i p. ap (λ (t : PenStep). puts l t.more t.pen) (put_unplaced i p) ∙ puts_unplaced l (put i p).more (put i p).pen) is p

encode_unplaced : (vs : List Value) → encode (map unplaced vs) ≡ encode vs
unfolding encode written
encode_unplaced vs = ap (λ (p : Pen). p.out) (puts_unplaced levels (choice ∷ []) (pen vs))

same_encode : (us vs : List Value) → Same us vs → encode us ≡ encode vs
same_encode us vs h = sym (encode_unplaced us) ∙ ap encode h.so ∙ encode_unplaced vs

-- octets are read as one message only
octets_same : (s : List ℕ) (us vs : List Value) → ReadAs s us → ReadAs s vs → Same us vs
octets_same s us vs a b =
    let e : message a.us (8 * length s) ≡ message b.us (8 * length s) = sym a.is ∙ b.is in
    let f : a.us ≡ b.us = cc in
    record { so = sym a.same.so ∙ ap (map unplaced) f ∙ b.same.so }

pub same_encoded : SameEncoded
unfolding SameEncoded encoded_octets size
same_encoded us vs h k m n = (
  (λ e. ap (λ (l : List ℕ). octets (length l / 8) l) (same_encode us vs e)),
  (λ e.
      let a = read_written (encoded_octets us) us (encoded us h m) in
      let b = read_written (encoded_octets vs) vs (encoded vs k n) in
      octets_same (encoded_octets us) us vs a (rw (← e) at b)),
)
