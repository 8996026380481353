-- What is read out of a header's number is the header, and of a written one its octets; and a number that is too large stays out of range. Assumes nothing.
use mathlib.Core.Path.{◌≡◌, refl, sym, ap, ◌∙◌}
use mathlib.Core.Bool.{Bool, true, false}
use mathlib.Core.List.{List}
use Prim.Native.Nat.{ℕ, zero, suc, ◌≤◌, ◌<◌}
use native.Mathlib.Omega.{arith}
use lib.ListN.{length}
use lib.Dec.{eqb, ltb}
use borrow.Author.Tests.{ne_eqb, lt-ltb, ltb-true, ltb-false}
use Rattle.refusals.specs.Check.{pick, first_of, Answer, accepted, decided}
use Rattle.refusals.proofs.Tests.{by_cases, numbers_to, first_le}
use Rattle.bits.specs.Bits.{Octets}
use Rattle.header.specs.declared.Header.{Header}
use Rattle.header.specs.declared.HeaderRead.{HeaderRead}
use Rattle.header.specs.Header.{bit_of, end_bit, length_for, header_of, header_length, read_refusal, read_header, write_refusal, write_header, output_after}
use Rattle.header.proofs.WritingBack.{again}
use Rattle.words.specs.Answer.{answer_number, SaysRefused, UnpackingAnswer}
use Rattle.words.specs.Word.{narrow_to}
use Rattle.words.proofs.Answers.{unpacking_answer}
use Rattle.words.proofs.Words.{narrow_small, narrow_large}
use Rattle.exports.specs.Headers.{size_and_mark, read_number, header_from, written_number, HeaderSays, ReadSays, WrittenSays, UnpackingRead, UnpackingWritten, LargeNumber}
use Rattle.exports.proofs.Saying.{says, says_refused}

-- a header has one to three octets
length_small : (s : List ℕ) → header_length s ≤ 3
unfolding header_length
length_small s = go (eqb (end_bit s 0) 1) (eqb (end_bit s 1) 1)
  where
    go : (a b : Bool) → pick a 1 (pick b 2 3) ≤ 3
    go true b = omega arith
    go false true = omega arith
    go false false = omega arith

size_is : (s : List ℕ) (n : ℕ) (f : HeaderRead) → decided n (record { header = header_of s; size = header_length s }) ≡ accepted f → f.size ≡ header_length s
unfolding decided
size_is s zero f e = let q : ◌≡◌ {A = HeaderRead} (record { header = header_of s; size = header_length s }) f = cc in ap (λ (x : HeaderRead). x.size) (sym q)
size_is s (suc n) f e = let z : ◌≡◌ {A = ℕ} 0 1 = cc in absurd (omega arith)

mark_small : (last : Bool) → bit_of last ≤ 1
mark_small true = omega arith
mark_small false = omega arith

header_says : (s : List ℕ) (f : HeaderRead) → Octets s → read_header s ≡ accepted f → HeaderSays (read_number (accepted f)) f
unfolding UnpackingAnswer read_header read_number
header_says s f octets e =
    let range = (again s f octets e).in_range in
    let size : f.size ≤ 3 = omega (arith, size_is s (read_refusal s) f e, length_small s) in
    let mark = mark_small f.header.last in
    let t =
    unpacking_answer 0 f.header.number f.header.counter (size_and_mark f.size f.header.last) (omega arith) (omega (arith, range.number)) (omega (arith, range.counter)) (omega (arith, mark)) in
    record {
      number_is = t.number_is;
      kind_is = t.kind_is;
      first_is = t.first_is;
      size_is = omega (arith, t.second_is, mark, size);
      last_is = omega (arith, t.second_is, mark, size);
    }

-- refusals are the checks' numbers, none above 23
refusal_says : (n : ℕ) → suc n ≤ 23 → SaysRefused (answer_number (suc n) 0 0 0) (suc n) 0
refusal_says n h = says_refused (suc n) 0 (ne_eqb (suc n) 0 (λ e. omega (arith, e))) (omega arith) (omega arith)

read_five : (s : List ℕ) → read_refusal s ≤ 23
unfolding read_refusal numbers_to
read_five s = first_le 23 _ refl

write_number : (h : Header) (room : ℕ) → write_refusal h room ≤ 23
unfolding write_refusal numbers_to
write_number h room = first_le 23 _ refl

octets_small : (counter : ℕ) → length_for counter ≤ 3
unfolding length_for
octets_small counter = go (ltb counter 4) (ltb counter 512)
  where
    go : (a b : Bool) → pick a 1 (pick b 2 3) ≤ 3
    go true b = omega arith
    go false true = omega arith
    go false false = omega arith

pub unpacking_read : UnpackingRead
unfolding UnpackingRead ReadSays read_header read_number decided
unpacking_read s octets = go (read_refusal s) refl (read_five s)
  where
    fields : HeaderRead
    fields = record { header = header_of s; size = header_length s }

    go : (n : ℕ) → read_refusal s ≡ n → n ≤ 23 → ReadSays (read_number (decided n fields)) (decided n fields)
    go zero e h = header_says s fields octets (ap (λ (k : ℕ). decided k fields) e)
    go (suc n) e h = refusal_says n h

pub unpacking_written : UnpackingWritten
unfolding UnpackingWritten WrittenSays write_header written_number decided
unpacking_written h room = go (write_refusal h room) (write_number h room)
  where
    go : (n : ℕ) → n ≤ 23 → let a = decided n (length_for h.counter) in WrittenSays (written_number a) a
    go zero le = says 0 0 (length_for h.counter) (omega arith) (omega arith) (omega (arith, octets_small h.counter))
    go (suc n) le = refusal_says n le

-- a number that is narrowed stays above 15
still_above : (number : ℕ) → 15 < number → ltb 15 (narrow_to 8 number) ≡ true
still_above number h =
    by_cases (ltb number 256)
    (λ t. ap (ltb 15) (sym (narrow_small 8 number (ltb-true number 256 t))) ∙ lt-ltb 15 number h)
    (λ t. ap (ltb 15) (sym (narrow_large 8 number (ltb-false number 256 t))))

pub large_number : LargeNumber
unfolding LargeNumber header_from write_header write_refusal first_of decided
large_number last number counter room h = rw (still_above number h)

-- the writer's contract, of the header that is handed in
pub written_by : (h' h : Header) (out out' : List ℕ) (r : ℕ) (a : Answer ℕ) → h ≡ h' → (a ≡ write_header h (length out)) × (out' ≡ output_after a h out)
    → r ≡ written_number a → (r ≡ written_number (write_header h' (length out))) × (out' ≡ output_after (write_header h' (length out)) h' out)
written_by h' h out out' r a e g n =
    let is : a ≡ write_header h' (length out) = g.0 ∙ ap (λ (x : Header). write_header x (length out)) e in
    (n ∙ ap written_number is, g.1 ∙ λ i. output_after (is i) (e i) out)
