-- Writing what was read (01, "Messages"): reading's refusal; then 22 where the output is shorter than the message; then the message's own octets.
-- Assumes nothing.
use Rattle.std.specs.Prelude.{ℕ, List, ◌++◌, length, drop, ltb}
use Rattle.refusals.specs.Check.{pick}
use Rattle.apdu_format.specs.Reading.{Outcome, message, read_message}
use Rattle.apdu_format.specs.Reading.{refused as unread}
use Rattle.apdu_writing.specs.Answer.{Answer, refused, refused_at, octets}
use Rattle.apdu_writing.specs.Answer as writing
use Rattle.apdu_rewriting.specs.declared.Rewritten.{Rewritten}
use Rattle.apdu_rewriting.specs.declared.Rewritten.TheVariants as rewritten

unfoldable pub answer_of : Rewritten → Answer
answer_of (rewritten.Refused k p) = refused_at k p
answer_of (rewritten.Written w) = writing.answer_of w

-- s was read so, and the output has n octets
unfoldable pub answer_to : List ℕ → ℕ → Outcome → Answer
answer_to s n (unread k p) = refused_at k p
answer_to s n (message vs end) = pick (ltb n (length s)) (refused 22) (octets (length s))

unfoldable pub rewrite_answer : List ℕ → ℕ → Answer
rewrite_answer s n = answer_to s n (read_message s)

-- the output afterwards: the octets of s from its front and every other octet as it was; a refusal changes nothing
unfoldable pub output_for : List ℕ → List ℕ → Outcome → List ℕ
output_for s out (unread k p) = out
output_for s out (message vs end) = pick (ltb (length out) (length s)) out (s ++ drop (length s) out)

unfoldable pub rewrite_output : List ℕ → List ℕ → List ℕ
rewrite_output s out = output_for s out (read_message s)
