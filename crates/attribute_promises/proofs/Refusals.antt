-- A refused call changes nothing. Most refusals come before anything is written; the reply of a SET that has written is never refused, for its numbers are
-- those of the request, and reading has found them in range.
-- Assumes nothing.
use Prim.Native.Nat.{ℕ, ◌≤◌}
use mathlib.Core.Path.{◌≡◌, refl, ap, sym, ◌∙◌}
use mathlib.Core.Bool.{Bool, true, false}
use mathlib.Core.List.{List}
use native.Mathlib.Omega.{arith}
use lib.Dec.{eqb}
use lib.ListN.{length}
use borrow.Author.Tests.{eqb-true, ltb-false}
use Rattle.refusals.proofs.Tests.{by_test, by_cases, first_none}
use Rattle.apdu_format.proofs.Tests.{never}
use Rattle.apdu.specs.declared.records.Message.TheVariants as kind
use Rattle.apdu.specs.declared.records.SetRequest.{SetRequest}
use Rattle.apdu_reading.specs.declared.front.Reading.{Reading}
use Rattle.apdu_reading.specs.Answers.{Reads}
use Rattle.apdu_reading.proofs.Encoded.{record_encodes}
use Rattle.apdu_writing.specs.Answer.{write_refusal, answered, write_answer, write_output}
use Rattle.attributes.specs.declared.answers.RequestOutcome.{RequestOutcome}
use Rattle.attributes.specs.Serving.{writes as outcome_by}
use Rattle.attributes.specs.Serving.{least_output, Attribute, Tag, Reply, Outcome, refused, refused_at, silent, replied, Effect, effect, no_entries, sent, set_status, set_reply, setting, requested, told_of}
use Rattle.attribute_promises.specs.Promises.{RefusalKeeps}
use Rattle.attribute_promises.proofs.OneEffect.{from_answered}
use Rattle.attribute_promises.proofs.Cases.{first_check, by_request}
use Rattle.attribute_promises.proofs.Repeated.{Repeats, set_repeats}
use Rattle.attribute_promises.proofs.Replies.{set_fine, sent_fine}

-- a refusal, with a position or without
unfoldable is_refusal : Outcome → Bool
is_refusal (refused k) = true
is_refusal (refused_at k p) = true
is_refusal silent = false
is_refusal (replied n) = false

-- what a refused call leaves
record Unchanged (tag : Tag) (out : List ℕ) (e : Effect) : Type 0 where
  so : is_refusal e.outcome ≡ true → (e.writable ≡ tag.writable) × (e.output ≡ out)

-- ---- the call

module _ (tag : Tag) (s out : List ℕ) where
  abbrev Same : Effect → Type 0
  Same e = Unchanged tag out e

  sent_output : (q : Reply) (w : List ℕ) → is_refusal (sent q w out).outcome ≡ true → (sent q w out).output ≡ out
  unfolding sent is_refusal outcome_by write_answer write_output answered
  sent_output q w h =
      by_cases (eqb (write_refusal q.lent q.message no_entries q.attributes (length out)) 0) (λ t. never (rw t at h)) (λ t. rw t)

  sent_same : (q : Reply) → Same (sent q tag.writable out)
  unfolding sent
  sent_same q = record { so = λ h. (refl, sent_output q tag.writable h) }

  refused_same : (o : Outcome) → Same (effect o tag.writable out)
  refused_same o = record { so = λ h. (refl, refl) }

  module _ (room : least_output ≤ length out) (m : SetRequest) (attributes : List Attribute) (g : Repeats m.eid m.has_iid m.iid) where
    reply_sent : (w : List ℕ) → is_refusal (sent (set_reply s m 0) w out).outcome ≡ false
    unfolding is_refusal
    reply_sent w = ap is_refusal (sent_fine (set_reply s m 0) (set_fine s m 0 g (omega arith)) w out room)

    set_same : Same (setting tag s m attributes out)
    unfolding setting is_refusal
    set_same =
        by_test Same m.mode
        (λ t.
        by_cases (eqb (set_status tag s m attributes) 0)
        (λ u. let e : set_status tag s m attributes ≡ 0 = eqb-true _ _ u in rw e (record { so = λ h. never (sym (reply_sent _) ∙ h) }))
        (λ u. rw u (sent_same (set_reply s m (set_status tag s m attributes)))))
        (λ t. record { so = λ h. never h })

  requested_same : (r : Reading) → Reads s r → Same (requested tag s r out)
  requested_same r reads =
      by_request tag s out Same sent_same (λ k. refused_same (refused k)) (λ k p. refused_same (refused_at k p)) r
      (λ t m e.
      let room = ltb-false (length out) least_output (first_none 0 _ _ (eqb-true (first_check tag out) 0 t)).0 in
      set_same room m r.lists.rows (set_repeats s m r.lists.entries r.lists.rows (record_encodes s r reads.outcome (kind.SetRequest m) e).ranges))

pub refusal_keeps : RefusalKeeps
unfolding RefusalKeeps is_refusal told_of
refusal_keeps tag s out a w o x =
    let u = from_answered x x.reading x.reads (Unchanged tag out) (requested_same tag s out x.reading x.reads) in
    (λ k h. u.so (ap (λ (z : RequestOutcome). is_refusal (told_of z)) h), λ k p h. u.so (ap (λ (z : RequestOutcome). is_refusal (told_of z)) h))
