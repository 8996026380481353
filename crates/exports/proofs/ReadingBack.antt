-- What `check` and `rewrite` put into an answer is taken out of it again: positions and octets are at most 512, and no refusal of reading has a number
-- above 21.
-- Assumes nothing.
use Prim.Native.Nat.{ℕ, ◌<◌, ◌≤◌}
use mathlib.Core.Path.{◌≡◌, refl, sym, ◌∙◌}
use mathlib.Core.Bool.{true}
use mathlib.Core.List.{List, [], ◌∷◌}
use native.Mathlib.Omega.{arith}
use lib.ListN.{length}
use lib.Dec.{ltb}
use borrow.Author.Tests.{ne_eqb, ltb-true, ltb-false}
use Rattle.refusals.proofs.Tests.{by_test, by_cases}
use Rattle.apdu_format.specs.Rules.{shape}
use Rattle.apdu_format.specs.Reading.{Value, fields, string, through, Outcome, refused, message, read_message}
use Rattle.apdu_format.specs.Writing.{fields_fit, fits, is_value, put_value, put_first, put, puts, written, in_range}
use Rattle.apdu_format.proofs.Tests.{never}
use Rattle.apdu_format.proofs.RoundTrip.{written_read, refused_inside, refused_known}
use Rattle.apdu_writing.specs.Answer as writing
use Rattle.apdu_rewriting.specs.Rewriting.{answer_to, rewrite_answer}
use Rattle.words.specs.Answer.{SaysRefused}
use Rattle.exports.specs.Messages.{refusal_at, choice_in, check_number, written_number, CheckSays, RewrittenSays, UnpackingCheck, UnpackingRewritten}
use Rattle.exports.proofs.Saying.{says, says_refused}

-- ---- reading

too_long : (s : List ℕ) → ltb 512 (length s) ≡ true → read_message s ≡ refused 21 512
unfolding read_message
too_long s t = rw t

pub position_small : (s : List ℕ) (k p : ℕ) → read_message s ≡ refused k p → p ≤ 512
position_small s k p e =
    by_cases (ltb 512 (length s))
    (λ t. let u : refused 21 512 ≡ refused k p = sym (too_long s t) ∙ e in let z : p ≡ 512 = cc in omega arith)
    (λ t. let a : p ≤ length s = refused_inside s k p e in let b : length s ≤ 512 = ltb-false 512 (length s) t in omega arith)

pub message_short : (s : List ℕ) (vs : List Value) (end : ℕ) → read_message s ≡ message vs end → length s ≤ 512
message_short s vs end e =
    by_cases (ltb 512 (length s))
    (λ t. let u : refused 21 512 ≡ message vs end = sym (too_long s t) ∙ e in let z : ◌≡◌ {A = ℕ} 0 1 = cc in absurd (omega arith))
    (λ t. ltb-false 512 (length s) t)

-- the choice has four bits
choice_small : (vs : List Value) → in_range vs ≡ true → choice_in vs < 16
unfolding in_range written puts through put put_first put_value is_value fits fields_fit shape choice_in
choice_small [] e = never e
choice_small (string at l ∷ vs) e = never e
choice_small (fields [] ∷ vs) e = never e
choice_small (fields (n ∷ m ∷ ns) ∷ vs) e = by_cases (ltb n 16) (λ t. ltb-true n 16 t) (λ t. never (rw t at e))
choice_small (fields (n ∷ []) ∷ vs) e = by_cases (ltb n 16) (λ t. ltb-true n 16 t) (λ t. never (rw t at e))

module _ (s : List ℕ) where
  pub read_refused : (k p : ℕ) → read_message s ≡ refused k p → SaysRefused (refusal_at k p) k p
  read_refused k p e =
      let known = refused_known s k p e in
      says_refused k p (ne_eqb k 0 (λ z. omega (arith, known.0))) (omega (arith, known.1)) (position_small s k p e)

  checked_says : (o : Outcome) → read_message s ≡ o → CheckSays (check_number o) o
  unfolding check_number CheckSays
  checked_says (refused k p) e = read_refused k p e
  checked_says (message vs end) e =
      says 0 (choice_in vs) 0 (omega arith) (omega (arith, choice_small vs (written_read s vs end e).ranges)) (omega arith)

  rewritten_says : (n : ℕ) (o : Outcome) → read_message s ≡ o → RewrittenSays (written_number (answer_to s n o)) (answer_to s n o)
  unfolding answer_to written_number RewrittenSays
  rewritten_says n (refused k p) e = read_refused k p e
  rewritten_says n (message vs end) e =
      by_test (λ (a : writing.Answer). RewrittenSays (written_number a) a) (ltb n (length s)) (λ t. says_refused 22 0 refl (omega arith) (omega arith))
      (λ t. says 0 0 (length s) (omega arith) (omega arith) (message_short s vs end e))

pub unpacking_check : UnpackingCheck
unfolding UnpackingCheck
unpacking_check s = checked_says s (read_message s) refl

pub unpacking_rewritten : UnpackingRewritten
unfolding UnpackingRewritten rewrite_answer
unpacking_rewritten s room = rewritten_says s room (read_message s) refl
