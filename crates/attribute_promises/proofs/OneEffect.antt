-- One effect for each request: octets have one reading, so they have one effect, and what the call answers tells the outcome. So what holds of that effect
-- holds of the call.
-- Assumes nothing.
use Prim.Native.Nat.{ℕ}
use mathlib.Core.Path.{◌≡◌, refl, ap, sym, ◌∙◌}
use mathlib.Core.List.{List}
use Rattle.apdu_reading.specs.declared.front.Reading.{Reading}
use Rattle.apdu_reading.specs.Answers.{Reads, ReadOnce}
use Rattle.apdu_reading.proofs.Once.{read_once}
use Rattle.attributes.specs.declared.answers.RequestOutcome.{RequestOutcome}
use Rattle.attributes.specs.declared.answers.RequestOutcome.TheVariants as outcome
use Rattle.attributes.specs.declared.answers.RequestAnswer.{RequestAnswer}
use Rattle.attributes.specs.Serving as serving
use Rattle.attributes.specs.Serving.{Tag, Effect, effect, requested, told_of, Answered}
use Rattle.attribute_promises.specs.Promises.{OneEffect, Determined}

pub one_effect : OneEffect
unfolding OneEffect ReadOnce
one_effect tag s out r q a b = ap (λ (x : Reading). requested tag s x out) (read_once s r q a b)

-- ---- the call

-- the answer that says so
unfoldable pub case_of : serving.Outcome → RequestOutcome
case_of (serving.refused k) = outcome.Refused k
case_of (serving.refused_at k p) = outcome.RefusedAt k p
case_of serving.silent = outcome.NoReply
case_of (serving.replied n) = outcome.Reply n

case_told : (o : RequestOutcome) → case_of (told_of o) ≡ o
unfolding case_of told_of
case_told (outcome.Refused k) = refl
case_told (outcome.RefusedAt k p) = refl
case_told outcome.NoReply = refl
case_told (outcome.Reply n) = refl

-- the case of an answer that tells this outcome
pub case_of_law : (o : RequestOutcome) {z : serving.Outcome} → told_of o ≡ z → o ≡ case_of z
case_of_law o h = sym (case_told o) ∙ ap case_of h

pub answer_same : (a b : RequestAnswer) → told_of a.outcome ≡ told_of b.outcome → a ≡ b
answer_same a b h = let e : a.outcome ≡ b.outcome = case_of_law a.outcome h ∙ case_told b.outcome in ap (λ (o : RequestOutcome). record { outcome = o }) e

module _ {tag : Tag} {s out : List ℕ} {a : RequestAnswer} {w o : List ℕ} (x : Answered tag s out a w o) (r : Reading) (reads : Reads s r) where
  -- whichever reading of s it is that the answer speaks of
  pub answered_is : effect (told_of a.outcome) w o ≡ requested tag s r out
  unfolding OneEffect
  answered_is = x.is ∙ one_effect tag s out x.reading r x.reads reads

  pub from_answered : (P : Effect → Type 0) → P (requested tag s r out) → P (effect (told_of a.outcome) w o)
  from_answered P p = rw answered_is p

pub determined : Determined
unfolding Determined
determined tag s out a b w w' o o' x y =
    let e = answered_is x y.reading y.reads ∙ sym y.is in (
      answer_same a b (ap (λ (z : Effect). z.outcome) e),
      ap (λ (z : Effect). z.writable) e,
      ap (λ (z : Effect). z.output) e,
    )
