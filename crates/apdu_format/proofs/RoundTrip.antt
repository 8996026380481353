-- Demand 2 for messages, over all ten kinds and nested to depth 4, from Messages.antt and the files that it uses.
-- Assumes nothing.
use Prim.Native.Nat.{ℕ, ◌*◌, ◌≤◌}
use mathlib.Core.Path.{◌≡◌, ap, sym, ◌∙◌}
use mathlib.Core.List.{List, [], ◌∷◌, ◌++◌, append-nil}
use mathlib.Core.Bool.{true}
use native.Mathlib.Omega.{arith}
use lib.ListN.{length}
use Rattle.bits.specs.Bits.{Octets, bits, octets}
use Rattle.bits.proofs.Laws.{octets_bits, bits_octets, length_octets, length_bits}
use Rattle.apdu_format.specs.Limits.{longest_message}
use Rattle.apdu_format.specs.Component.{choice}
use Rattle.apdu_format.specs.Reading.{Value, levels, refused, message, read_message}
use Rattle.apdu_format.specs.Writing.{in_range, encode, size, encoded_octets}
use Rattle.apdu_format.specs.RoundTrip.{ReadAs, Encodes, ReadingEncoded, EncodingRead, OneEncoding, EncodingsAccepted, LevelsSuffice}
use Rattle.apdu_format.proofs.Messages as m
use Rattle.apdu_format.proofs.Levels.{height, run_levels}
use Rattle.apdu_format.proofs.Whole.{written_whole, written_small}

-- reading what was written gives the same message
pub read_written : (s : List ℕ) (vs : List Value) → Encodes s vs → ReadAs s vs
read_written s vs h = m.written_read s vs h

pub reading_encoded : ReadingEncoded
unfolding ReadingEncoded
reading_encoded s vs h = read_written s vs h

-- what was read is in range, and writing it gives the same octets
pub written_read : (s : List ℕ) (vs : List Value) (end : ℕ) → read_message s ≡ message vs end → Encodes s vs
written_read s vs end h = (rw h at (m.read_told s)).0

pub encoding_read : EncodingRead
unfolding EncodingRead
encoding_read s vs end h = let t : Encodes s vs × (end ≡ 8 * length s) = rw h at (m.read_told s) in (t.1, t.0)

-- the octets that writing gives are whole, and they encode the message
pub encoded : (vs : List Value) → in_range vs ≡ true → size vs ≤ longest_message → Encodes (encoded_octets vs) vs
unfolding encoded_octets
encoded vs h k =
    let ok = (m.in_range_law vs h).0 in
    record {
      ranges = h;
      short = omega (arith, length_octets (size vs) (encode vs));
      is = bits_octets (size vs) (encode vs) (written_small vs ok) (written_whole vs ok);
    }

-- so they are the octets that were read
pub same_octets_law : (s : List ℕ) (vs : List Value) → Octets s → Encodes s vs → encoded_octets vs ≡ s
unfolding encoded_octets
same_octets_law s vs o h =
    let n : size vs ≡ length s = omega (arith, written_whole vs (m.in_range_law vs h.ranges).0, length_bits s, ap length h.is) in
    ap (octets (size vs)) (sym h.is ∙ sym (append-nil (bits s))) ∙ ap (λ (n : ℕ). octets n (bits s ++ [])) n ∙ octets_bits s [] o

pub one_encoding : OneEncoding
unfolding OneEncoding
one_encoding vs h k = (encoded vs h k, λ s o e. sym (same_octets_law s vs o e))

-- reading accepts exactly the octets of messages in range
pub encodings_accepted : EncodingsAccepted
unfolding EncodingsAccepted
encodings_accepted s = (
  (λ a. record { vs = a.vs; is = written_read s a.vs a.end a.is }),
  (λ e. let r = read_written s e.vs e.is in record { vs = r.us; end = 8 * length s; is = r.is }),
)

-- the position of a refusal is at most the message's length
pub refused_inside : (s : List ℕ) (k p : ℕ) → read_message s ≡ refused k p → p ≤ length s
refused_inside s k p h = (rw h at (m.read_inside s)).0

-- and its number at most 21, which is never 0
pub refused_known : (s : List ℕ) (k p : ℕ) → read_message s ≡ refused k p → (1 ≤ k) × (k ≤ 21)
refused_known s k p h = let i : (p ≤ length s) × (1 ≤ k) × (k ≤ 21) = rw h at (m.read_inside s) in (i.1, i.2)

pub levels_suffice : LevelsSuffice
unfolding LevelsSuffice height
levels_suffice b l d h = run_levels b l levels (choice ∷ []) d (omega arith, tt) (omega arith, tt)
