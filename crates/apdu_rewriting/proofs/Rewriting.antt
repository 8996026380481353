-- The two ways of `rewrite`: reading refuses, or what was read is written back.
-- Assumes nothing.
use Prim.Native.Nat.{ℕ}
use mathlib.Core.Path.{◌≡◌, sym, ◌∙◌}
use mathlib.Core.List.{List}
use lib.ListN.{length}
use lib.Dec.{ltb}
use borrow.Author.Tests.{ltb-true, ltb-false}
use Rattle.std.specs.Prelude.{Result}
use Rattle.refusals.proofs.Tests.{by_cases}
use Rattle.bits.specs.Bits.{Octets}
use Rattle.apdu_format.specs.Reading.{message, read_message}
use Rattle.apdu_format.specs.Reading.{refused as unread}
use Rattle.apdu.specs.declared.records.Message.{Message}
use Rattle.apdu.specs.Values.{values_of}
use Rattle.apdu_reading.specs.declared.front.Answer.TheVariants as answer
use Rattle.apdu_reading.specs.declared.front.Reading.{Reading}
use Rattle.apdu_reading.specs.Answers.{told, outcome_of, Reads}
use Rattle.apdu_writing.specs.declared.writing.WriteRefusal.{WriteRefusal}
use Rattle.apdu_writing.specs.Answer.{write_answer, write_output}
use Rattle.apdu_writing.specs.Answer as writing
use Rattle.apdu_rewriting.specs.declared.Rewritten.{Rewritten}
use Rattle.apdu_rewriting.specs.declared.Rewritten.TheVariants as rewritten
use Rattle.apdu_rewriting.specs.Rewriting.{answer_of, answer_to, rewrite_answer, output_for, rewrite_output}
use Rattle.apdu_rewriting.specs.RoundTrip.{WrittenBack}
use Rattle.apdu_rewriting.proofs.RoundTrip.{back}

-- what `rewrite` ensures
abbrev Rewrites : List ℕ → List ℕ → Rewritten → List ℕ → Type 0
Rewrites s out q out' = (answer_of q ≡ rewrite_answer s (length out)) × (out' ≡ rewrite_output s out)

module _ (s out : List ℕ) (r : Reading) (e : Reads s r) where
  pub reading_refuses : (k p : ℕ) → r.answer ≡ answer.Refused k p → Rewrites s out (rewritten.Refused k p) out
  unfolding answer_of rewrite_answer answer_to rewrite_output output_for outcome_of told
  reading_refuses k p h =
      let u : read_message s ≡ unread k p = sym e.outcome ∙ rw h in
      (rw u, rw u)

  pub writes_back : Octets s → (m : Message) → r.answer ≡ answer.Message m → (w : Result ℕ WriteRefusal) {out' : List ℕ}
      → (writing.answer_of w ≡ write_answer s m r.lists.entries r.lists.rows (length out)) × (out' ≡ write_output s m r.lists.entries r.lists.rows out)
      → Rewrites s out (rewritten.Written w) out'
  unfolding answer_of rewrite_answer answer_to rewrite_output output_for outcome_of told
  writes_back o m h w f =
      let u : read_message s ≡ message (values_of s m r.lists.entries r.lists.rows) r.end = sym e.outcome ∙ rw h in
      let b : WrittenBack s m r.lists.entries r.lists.rows = back s r m o e h in
      by_cases (ltb (length out) (length s))
      (λ t. let x = b.small out (ltb-true (length out) (length s) t) in (f.0 ∙ x.answer ∙ rw (u, t), f.1 ∙ x.output ∙ rw (u, t)))
      (λ t. let x = b.written out (ltb-false (length out) (length s) t) in (f.0 ∙ x.answer ∙ rw (u, t), f.1 ∙ x.output ∙ rw (u, t)))
