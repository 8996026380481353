-- The call has 01's refusals and no others: of a request that passes 1, 26, reading and 24 the reply is never refused. Statuses are at most 2, or the 3 of a
-- GET whose values are too long; the rest of each reply is proved fine in Replies.antt and GetValues.antt.
-- Assumes nothing.
use Prim.Native.Nat.{ℕ, ◌≤◌}
use mathlib.Core.Path.{◌≡◌, refl, ap, sym, ◌∙◌, subst}
use mathlib.Core.Bool.{Bool, true}
use mathlib.Core.List.{List, [], ◌∷◌}
use mathlib.Core.Logic.{inl, inr}
use native.Mathlib.Omega.{arith}
use lib.Dec.{eqb, ltb}
use lib.ListN.{length, take}
use borrow.Author.Tests.{ltb-false}
use Rattle.refusals.specs.Check.{first_of}
use Rattle.refusals.proofs.Tests.{by_test, by_cases, numbers_to, first_le}
use Rattle.apdu_format.specs.Reading.{read_message}
use Rattle.apdu_format.specs.Reading.{refused as unread, message as read}
use Rattle.apdu_format.specs.Writing.{in_range}
use Rattle.apdu_format.proofs.Tests.{never}
use Rattle.apdu.specs.declared.records.Message.{Message}
use Rattle.apdu.specs.declared.records.Message.TheVariants as kind
use Rattle.apdu.specs.declared.records.SetRequest.{SetRequest}
use Rattle.apdu.specs.declared.records.GetRequest.{GetRequest}
use Rattle.apdu.specs.Values.{values_of}
use Rattle.apdu.specs.Sound.{sound}
use Rattle.apdu_reading.specs.declared.front.Answer.{Answer}
use Rattle.apdu_reading.specs.declared.front.Answer.TheVariants as answer
use Rattle.apdu_reading.specs.declared.front.Reading.{Reading}
use Rattle.apdu_reading.specs.Answers.{told, outcome_of, sound_by, Reads}
use Rattle.apdu_reading.proofs.Encoded.{record_encodes}
use Rattle.directory.specs.declared.Row.{Row}
use Rattle.directory.specs.Directory.{sound_directory}
use Rattle.attributes.specs.declared.answers.RequestOutcome.{RequestOutcome}
use Rattle.attributes.specs.declared.answers.RequestOutcome.TheVariants as outcome
use Rattle.attributes.specs.Serving.{least_output, Attribute, Tag, Reply, Outcome, refused, refused_at, silent, replied, Effect, sent, too_long, get_fault, get_faults, get_status, get_reply, getting, set_fault, set_faults, set_status, setting, served, carried, by_reading, requested, told_of}
use Rattle.attributes.proofs.Ranges.{read_fits, fits_get}
use Rattle.attribute_promises.specs.Promises.{Refusal, none, number, number_at, Refuses, first_refusal, refusal_of, unreadable, unserved, RefusesOnly}
use Rattle.attribute_promises.proofs.OneEffect.{answered_is}
use Rattle.attribute_promises.proofs.Repeated.{Repeats, set_repeats, get_repeats, echoes}
use Rattle.attribute_promises.proofs.Replies.{Fine, sent_fine, set_fine, get_fine, echo_fine}
use Rattle.attribute_promises.proofs.GetValues.{values_sent}

-- ---- what an outcome refuses

unfoldable refusal_in : Outcome → Refusal
refusal_in (refused k) = number k
refusal_in (refused_at k p) = number_at k p
refusal_in silent = none
refusal_in (replied n) = none

outcome_refuses : (o : RequestOutcome) → Refuses (refusal_in (told_of o)) o
unfolding refusal_in told_of
outcome_refuses (outcome.Refused k) = refl
outcome_refuses (outcome.RefusedAt k p) = refl
outcome_refuses outcome.NoReply = inl refl
outcome_refuses (outcome.Reply n) = inr (record { n = n; is = refl })

-- ---- statuses

get_numbers : (rows : List Row) (exact : Bool) (ids : List ℕ) → numbers_to 2 (get_faults rows exact ids) ≡ true
unfolding get_faults get_fault numbers_to
get_numbers rows exact [] = refl
get_numbers rows exact (id ∷ ids) = get_numbers rows exact ids

set_numbers : (rows : List Row) (exact : Bool) (l : List Attribute) → numbers_to 2 (set_faults rows exact l) ≡ true
unfolding set_faults set_fault numbers_to
set_numbers rows exact [] = refl
set_numbers rows exact (a ∷ l) = set_numbers rows exact l

module _ (tag : Tag) (s : List ℕ) where
  get_status_small : (m : GetRequest) → get_status tag s m ≤ 2
  unfolding get_status numbers_to
  get_status_small m = first_le 2 _ (get_numbers tag.directory _ _)

  set_status_small : (m : SetRequest) (attributes : List Attribute) → set_status tag s m attributes ≤ 2
  unfolding set_status numbers_to
  set_status_small m attributes = first_le 2 _ (set_numbers tag.directory _ (take m.count attributes))

-- ---- a request that is served

module _ (tag : Tag) (s out : List ℕ) (room : least_output ≤ length out) where
  abbrev Answers : Effect → Type 0
  Answers e = refusal_in e.outcome ≡ none

  sent_answers : (q : Reply) (w : List ℕ) → Fine q → Answers (sent q w out)
  unfolding refusal_in
  sent_answers q w f = ap refusal_in (sent_fine q f w out room)

  set_answers : (m : SetRequest) (attributes : List Attribute) → Repeats m.eid m.has_iid m.iid → Answers (setting tag s m attributes out)
  unfolding setting refusal_in
  set_answers m attributes g =
      by_test Answers m.mode (λ t. sent_answers _ _ (set_fine s m (set_status tag s m attributes) g (omega (arith, set_status_small tag s m attributes)))) (λ t. refl)

  module _ (fine : sound_directory (length tag.factory) (length tag.writable) tag.directory ≡ true) where
    get_answers : (m : GetRequest) → m.count ≤ 16 → Repeats m.eid m.has_iid m.iid → Answers (getting tag s m out)
    unfolding getting refusal_in
    get_answers m few g =
        by_test Answers (eqb (get_status tag s m) 0)
        (λ t.
        by_test Answers (too_long (sent (get_reply tag s m) tag.writable out).outcome)
        (λ u. sent_answers _ _ (get_fine s m 3 g (omega arith)))
        (λ u. ap refusal_in (values_sent tag s m fine few g tag.writable out room u)))
        (λ t. sent_answers _ _ (get_fine s m (get_status tag s m) g (omega (arith, get_status_small tag s m))))

    module _ (r : Reading) (reads : Reads s r) where
      in_range_law : (m : Message) → r.answer ≡ answer.Message m → in_range (values_of s m r.lists.entries r.lists.rows) ≡ true
      in_range_law m e = (record_encodes s r reads.outcome m e).ranges

      inside : (m : Message) → r.answer ≡ answer.Message m → sound (length s) m r.lists.entries r.lists.rows ≡ true
      unfolding sound_by
      inside m e = rw e at reads.sound.is

      carried_answers : (m : Message) → r.answer ≡ answer.Message m → served m ≡ true → Answers (carried tag s m r.lists.rows out)
      unfolding carried served sound
      carried_answers (kind.ActionRequest m) e h =
          sent_answers _ _ (echo_fine s m (echoes s m r.lists.entries r.lists.rows h (in_range_law (kind.ActionRequest m) e) (inside (kind.ActionRequest m) e)))
      carried_answers (kind.ActionResponse m) e h = never h
      carried_answers (kind.EventRequest m) e h = never h
      carried_answers (kind.EventResponse m) e h = never h
      carried_answers (kind.SetRequest m) e h = set_answers m r.lists.rows (set_repeats s m r.lists.entries r.lists.rows (in_range_law (kind.SetRequest m) e))
      carried_answers (kind.SetResponse m) e h = never h
      carried_answers (kind.GetRequest m) e h =
          get_answers m (fits_get (read_fits s r reads e) refl).few
          (get_repeats s m r.lists.entries r.lists.rows (in_range_law (kind.GetRequest m) e))
      carried_answers (kind.GetResponse m) e h = never h
      carried_answers (kind.Bst m) e h = never h
      carried_answers (kind.Vst m) e h = never h

      -- ---- any answer of reading

      answer_refuses : (a : Answer) → r.answer ≡ a → refusal_in (by_reading tag s a r.lists.rows out).outcome ≡ first_refusal (unreadable (read_message s) ∷ unserved a ∷ [])
      unfolding by_reading refusal_in first_refusal unreadable unserved outcome_of told
      answer_refuses (answer.Refused k p) e = let h : read_message s ≡ unread k p = sym reads.outcome ∙ rw e in rw h
      answer_refuses (answer.Message m) e =
          let h : read_message s ≡ read (values_of s m r.lists.entries r.lists.rows) r.end = sym reads.outcome ∙ rw e in
          by_cases (served m) (λ t. rw (h, t) (carried_answers m e t)) (λ t. rw (h, t))

-- ---- the call

pub refuses_only : RefusesOnly
unfolding RefusesOnly requested first_of refusal_in first_refusal
refuses_only tag s out a w o x r reads =
    subst (λ (z : Refusal). Refuses z a.outcome) {y = refusal_of tag s out r.answer}
    (ap (λ (e : Effect). refusal_in e.outcome) (answered_is x r reads)
    ∙ by_cases (ltb (length out) least_output)
    (λ t. rw t)
    (λ t.
    by_cases (sound_directory (length tag.factory) (length tag.writable) tag.directory)
    (λ u. rw (t, u) (answer_refuses tag s out (ltb-false (length out) least_output t) u r reads r.answer refl))
    (λ u. rw (t, u))))
    (outcome_refuses a.outcome)
