-- Demand 2 for messages, about records, from the round trips of their values.
-- Assumes nothing.
use Prim.Native.Nat.{ℕ, ◌≤◌, ◌<◌}
use mathlib.Core.Path.{◌≡◌, refl, ap, sym, ◌∙◌}
use mathlib.Core.List.{List, ◌++◌}
use mathlib.Core.Bool.{true, false}
use native.Mathlib.Omega.{arith}
use lib.ListN.{length, take, drop}
use lib.Seq.{take_at}
use lib.Dec.{ltb, eqb}
use borrow.Author.Tests.{lt-ltb, le-ltb, eqb-true}
use Rattle.refusals.specs.Check.{first_of}
use Rattle.refusals.proofs.Tests.{by_cases}
use Rattle.bits.specs.Bits.{Octets}
use Rattle.bits.proofs.Laws.{length_octets}
use Rattle.apdu_format.specs.Limits.{longest_message}
use Rattle.apdu_format.specs.Reading.{Value, message}
use Rattle.apdu_format.specs.Writing.{encode, size, encoded_octets}
use Rattle.apdu_format.specs.RoundTrip.{Same, ReadAs, Encodes}
use Rattle.apdu_format.proofs.RoundTrip.{same_octets_law}
use Rattle.apdu.specs.declared.lists.Row.{Row}
use Rattle.apdu.specs.declared.lists.Entry.{Entry}
use Rattle.apdu.specs.declared.lists.Lists.{Lists}
use Rattle.apdu.specs.declared.records.Message.{Message}
use Rattle.apdu.specs.Values.{values_of}
use Rattle.apdu.specs.Sound.{well_formed}
use Rattle.apdu.proofs.Formed.{formed_by}
use Rattle.apdu_reading.specs.declared.front.Answer.{Answer}
use Rattle.apdu_reading.specs.declared.front.Answer.TheVariants as answer
use Rattle.apdu_reading.specs.declared.front.Reading.{Reading}
use Rattle.apdu_reading.specs.Answers.{told, outcome_of, sound_by, few_by, Reads}
use Rattle.apdu_reading.proofs.Encoded.{record_encodes}
use Rattle.apdu_writing.specs.Answer.{octets, write_refusal, answered, write_answer, write_output}
use Rattle.apdu_writing.proofs.RoundTrip.{written_reads}
use Rattle.apdu_rewriting.specs.RoundTrip.{Writes, WrittenBack, WritingRead, same_by, ReadingWritten, Accepts, ReadingExact}

-- ---- writing what was read

module _ (s : List ℕ) (r : Reading) (m : Message) (o : Octets s) (reads : Reads s r) (is : r.answer ≡ answer.Message m) where
  abbrev es : List Entry
  es = r.lists.entries

  abbrev rs : List Row
  rs = r.lists.rows

  abbrev vs : List Value
  vs = values_of s m es rs

  encodes : Encodes s vs
  encodes = record_encodes s r reads.outcome m is

  formed : well_formed s m es rs ≡ true
  unfolding sound_by few_by
  formed = formed_by s m es rs encodes.ranges (rw is at reads.sound.is) (rw is at reads.few.is)

  same : encoded_octets vs ≡ s
  same = same_octets_law s vs o encodes

  long : size vs ≡ length s
  unfolding encoded_octets
  long = sym (length_octets (size vs) (encode vs)) ∙ ap length same

  no_21 : ltb longest_message (size vs) ≡ false
  no_21 = le-ltb longest_message (size vs) (omega (arith, encodes.short, long))

  fits : (n : ℕ) → length s ≤ n → write_refusal s m es rs n ≡ 0
  unfolding write_refusal first_of
  fits n k = rw (formed, no_21, le-ltb n (size vs) (omega (arith, long)))

  too_small : (n : ℕ) → n < length s → write_refusal s m es rs n ≡ 22
  unfolding write_refusal first_of
  too_small n k = rw (formed, no_21, lt-ltb n (size vs) (omega (arith, long)))

  pub back : WrittenBack s m es rs
  unfolding write_answer write_output answered
  back =
      record {
        written = λ out k. record { answer = rw (fits (length out) k, long); output = rw (fits (length out) k, same, long) };
        small = λ out k. record { answer = rw (too_small (length out) k); output = rw (too_small (length out) k) };
      }

pub writing_read : WritingRead
unfolding WritingRead
writing_read s r m o h is = back s r m o h is

-- ---- reading what was written

answered_octets : (k n i : ℕ) → answered k n ≡ octets i → (k ≡ 0) × (n ≡ i)
unfolding answered
answered_octets k n i h =
    by_cases (eqb k 0)
    (λ t. (eqb-true k 0 t, let h' : octets n ≡ octets i = rw t at h in cc))
    (λ t. by_cases (eqb k 21) (λ u. let z = rw (t, u) at h in (cc, cc)) (λ u. let z = rw (t, u) at h in (cc, cc)))

module _ (s t : List ℕ) (m : Message) (es : List Entry) (rs : List Row) (out : List ℕ) (w : Writes s t m es rs out) where
  abbrev theirs : List Value
  theirs = values_of t m es rs

  passes : (write_refusal t m es rs (length out) ≡ 0) × (size theirs ≡ length s)
  unfolding write_answer
  passes = answered_octets (write_refusal t m es rs (length out)) (size theirs) (length s) w.answer

  their_octets : encoded_octets theirs ≡ s
  unfolding write_output encoded_octets
  their_octets =
      let n : length (encoded_octets theirs) ≡ length s = length_octets (size theirs) (encode theirs) ∙ passes.1 in
      let e : encoded_octets theirs ++ drop (size theirs) out ≡ s ++ drop (length s) out = rw passes.0 at w.output in
      sym (take_at (encoded_octets theirs) (drop (size theirs) out) (length s) n) ∙ ap (take (length s)) e ∙ take_at s (drop (length s) out) (length s) refl

  read_as : ReadAs s theirs
  read_as = rw their_octets at (written_reads t m es rs out passes.0)

told_same : (s : List ℕ) (l : Lists) (end : ℕ) (a : Answer) (us vs : List Value) (n : ℕ) → told s l end a ≡ message us n → Same us vs → same_by s l vs a
unfolding told same_by
told_same s l end (answer.Message m) us vs n e h = let f : values_of s m l.entries l.rows ≡ us = cc in rw f h
told_same s l end (answer.Refused k p) us vs n e h = let z : ◌≡◌ {A = ℕ} 0 1 = cc in absurd (omega arith)

pub reading_written : ReadingWritten
unfolding ReadingWritten outcome_of
reading_written s t m es rs out r w h =
    let a = read_as s t m es rs out w in
    told_same s r.lists r.end r.answer a.us (values_of t m es rs) _ (h.outcome ∙ a.is) a.same

-- ---- reading accepts exactly what writing gives

same_accepted : (s : List ℕ) (r : Reading) (vs : List Value) (a : Answer) → r.answer ≡ a → same_by s r.lists vs a → Accepts r
unfolding same_by
same_accepted s r vs (answer.Message m) e h = record { m = m; is = e }
same_accepted s r vs (answer.Refused k p) e h = absurd h

pub reading_exact : ReadingExact
unfolding ReadingExact ReadingWritten
reading_exact s r o h = (
  (λ a.
      record {
        t = s;
        m = a.m;
        es = r.lists.entries;
        rs = r.lists.rows;
        out = s;
        is = (back s r a.m o h a.is).written s (omega arith);
      }),
  (λ w.
      same_accepted s r (values_of w.t w.m w.es w.rs) r.answer refl
      (reading_written s w.t w.m w.es w.rs w.out r w.is h)),
)
