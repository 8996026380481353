-- A line joined: what its reading and the fragment call promise is what the contract of a line asks. Assumes nothing.
use mathlib.Core.Path.{◌≡◌, refl, sym, ap, subst, ◌∙◌}
use mathlib.Core.Bool.{Bool, true, false}
use mathlib.Core.List.{List, ◌++◌}
use Prim.Native.Nat.{ℕ, ◌/◌}
use native.Mathlib.Omega.{arith}
use lib.ListN.{length, take, drop}
use lib.Seq.{take_at}
use lib.Dec.{leb}
use Rattle.refusals.specs.Check.{pick, Answer, refused, accepted}
use Rattle.slots.specs.declared.Table.{Table}
use Rattle.slots.specs.Slots.{held_for}
use Rattle.std.specs.Prelude.{Result, Ok, Err, IsErrAnd, MatchResult}
use Rattle.refusals.specs.declared.Refusal.{Refusal}
use Rattle.refusals.specs.Refusal.{number_of}
use Rattle.reassembly.specs.declared.Accepted.{Accepted}
use Rattle.reassembly.specs.Checks.{fragment_in}
use Rattle.bench_lines.specs.Numerals.{octets_of}
use Rattle.bench_lines.specs.Line.{Fields, lsdu_text, has_form, fields_of, read_line, line_refusal_number, line_answer, lsdu_after}
use Rattle.bench_lines.specs.declared.Line.{Line}
use Rattle.bench_lines.specs.declared.LineRefusal.{LineRefusal}
use Rattle.bench_lines.proofs.Spelling.{length_octets}
use Rattle.bench_joining.specs.declared.Columns.{Columns}
use Rattle.bench_joining.specs.Columns.{numbered, columns_of, refused_with}
use Rattle.bench_joining.specs.Joined.{columns_after, LsduJoined, LineJoined, lsdu_of, LineTaken}

-- ---- an LSDU

-- what the header tells, and the octets held for its pair, make the columns
pub shown_is : (answer : Result Accepted ℕ) (lid : ℕ) (lsdu : List ℕ) (after : Table) {number payload held : ℕ} {r : Columns}
    → number ≡ (fragment_in lsdu).number → payload ≡ (fragment_in lsdu).octets → held ≡ held_for after lid number → r ≡ columns_of answer held payload
    → r ≡ columns_after answer lid lsdu after
unfolding columns_after
shown_is answer lid lsdu after p q h e = e ∙ rw (h, p, q) refl

-- what is shown of an answer whose refusal `map_err` has turned into its number
pub numbers_shown : (call : Result Accepted Refusal) (answer : Result Accepted ℕ) (lid : ℕ) (lsdu : List ℕ) (after : Table) {r : Columns}
    → MatchResult call (λ taken. answer ≡ Ok taken) (λ refusal. IsErrAnd answer (λ number. number ≡ number_of refusal))
    → r ≡ columns_after answer lid lsdu after → r ≡ columns_after (numbered call) lid lsdu after
numbers_shown (Ok taken) answer lid lsdu after e s = s ∙ ap (λ (x : Result Accepted ℕ). columns_after x lid lsdu after) e
numbers_shown (Err refusal) (Ok taken) lid lsdu after e s = elim e [ ]
numbers_shown (Err refusal) (Err number) lid lsdu after e s = s ∙ ap (λ (n : ℕ). columns_after (Err n) lid lsdu after) e

-- ---- a line

-- what is read of a line are its fields
read_fields : (line : List ℕ) (room : ℕ) (f : Fields) → accepted f ≡ read_line line room → f ≡ fields_of line
unfolding read_line
read_fields line room f e = go (has_form line) (leb (fields_of line).octets room) e
  where
    go : (a b : Bool) → accepted f ≡ pick a (pick b (accepted (fields_of line)) (refused 22)) (refused 0) → f ≡ fields_of line
    go true true e = cc
    go true false e = let z : ◌≡◌ {A = ℕ} 0 1 = cc in absurd (omega arith)
    go false b e = let z : ◌≡◌ {A = ℕ} 0 1 = cc in absurd (omega arith)

-- the front of the buffer is the LSDU
front_is : (line : List ℕ) (room : ℕ) (f : Fields) (lsdu : List ℕ) → accepted f ≡ read_line line room → take f.octets (octets_of (lsdu_text line) ++ drop f.octets lsdu) ≡ lsdu_of line
unfolding lsdu_of fields_of
front_is line room f lsdu e =
    let n : f.octets ≡ length (lsdu_text line) / 2 = ap (λ (x : Fields). x.octets) (read_fields line room f e) in
    take_at (octets_of (lsdu_text line)) (drop f.octets lsdu) f.octets (length_octets (lsdu_text line) ∙ sym n)

module _ (line : List ℕ) (table table' : Table) (lsdu store output lsdu' store' output' : List ℕ) (r : Columns) (a : Result Line LineRefusal)
    (got : (line_answer a ≡ read_line line (length lsdu)) × (lsdu' ≡ lsdu_after (line_answer a) line lsdu)) where
  pub line_joined : {l t n : ℕ} {part : List ℕ} → a ≡ Ok (record { lid = l; tick = t; octets = n }) → part ≡ take n lsdu'
      → LsduJoined l t part table store output r table' store' output'
      → LineTaken line table lsdu store output r table' lsdu' store' output'
  unfolding lsdu_after LineJoined
  line_joined {l} {t} {n} {part} e p j =
      let f : Fields = record { lid = l; tick = t; octets = n } in
      let is : accepted f ≡ read_line line (length lsdu) = sym (ap line_answer e) ∙ got.0 in
      let buffer : lsdu' ≡ octets_of (lsdu_text line) ++ drop n lsdu = got.1 ∙ ap (λ (x : Result Line LineRefusal). lsdu_after (line_answer x) line lsdu) e in
      let whole : part ≡ lsdu_of line = p ∙ ap (take n) buffer ∙ front_is line (length lsdu) f lsdu is in
      record {
        joined =
            subst (λ (x : Answer Fields). LineJoined x (lsdu_of line) table store output r table' store' output') is
            (subst (λ (x : List ℕ). LsduJoined l t x table store output r table' store' output') whole j);
        lsdu_is = got.1 ∙ ap (λ (x : Answer Fields). lsdu_after x line lsdu) got.0;
      }

  pub line_refused : (k : LineRefusal) {number : ℕ} → a ≡ Err k → number ≡ line_refusal_number k → table' ≡ table → r ≡ refused_with number 0 → store' ≡ store → output' ≡ output
      → LineTaken line table lsdu store output r table' lsdu' store' output'
  unfolding LineJoined
  line_refused k e n t c s o =
      let is : refused (line_refusal_number k) ≡ read_line line (length lsdu) = sym (ap line_answer e) ∙ got.0 in
      record {
        joined =
            subst (λ (x : Answer Fields). LineJoined x (lsdu_of line) table store output r table' store' output') is
            (record { table_is = t; columns_are = rw n at c; store_is = s; output_is = o });
        lsdu_is = got.1 ∙ ap (λ (x : Answer Fields). lsdu_after x line lsdu) got.0;
      }
