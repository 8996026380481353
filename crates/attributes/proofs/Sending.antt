-- A reply that is sent: what writing answers, and when two replies are the same.
-- Assumes nothing.
use Prim.Native.Nat.{ℕ}
use mathlib.Core.Path.{◌≡◌, ◌∙◌}
use mathlib.Core.Bool.{true}
use mathlib.Core.List.{List}
use lib.Dec.{eqb}
use lib.ListN.{length}
use Rattle.refusals.proofs.Tests.{by_cases}
use Rattle.apdu_format.proofs.Tests.{never}
use Rattle.apdu.specs.declared.lists.Entry.{Entry}
use Rattle.apdu.specs.declared.records.Message.{Message}
use Rattle.apdu.specs.Values.{values_of}
use Rattle.apdu.specs.Sound.{well_formed}
use Rattle.std.proofs.Common.{Result, Ok, Err}
use Rattle.apdu_writing.specs.declared.writing.WriteRefusal.{WriteRefusal}
use Rattle.apdu_writing.specs.declared.writing.WriteRefusal.TheVariants as refusal
use Rattle.apdu_writing.specs.Answer.{answer_of, write_refusal, answered, write_answer, write_output}
use Rattle.attributes.specs.declared.answers.RequestOutcome.TheVariants as told
use Rattle.attributes.specs.declared.answers.RequestAnswer.{RequestAnswer}
use Rattle.attributes.specs.Serving.{Attribute, Reply, no_entries, writes, sent, too_long, told_of}
use Rattle.attributes.specs.Inside.{Sends}

module _ (m : Message) (attributes : List Attribute) (lent out : List ℕ) (es : List Entry) (x : Result ℕ WriteRefusal) {out' : List ℕ} (none : es ≡ no_entries)
    (is : (answer_of x ≡ write_answer lent m es attributes (length out)) × (out' ≡ write_output lent m es attributes out)) where
  abbrev reply : Reply
  reply = record { message = m; attributes = attributes; lent = lent }

  sends : {r : RequestAnswer} → writes (answer_of x) ≡ told_of r.outcome → Sends reply out r out'
  sends e = record { so = λ w. unfold sent in rw (← e, is.0, is.1, none) }

  pub sends_23 : {k : WriteRefusal} → x ≡ Err k → k ≡ refusal.RecordOutOfRange → Sends reply out (record { outcome = told.Refused 23 }) out'
  unfolding writes answer_of told_of
  sends_23 e f = sends (rw (e, f))

  pub sends_21 : {p : ℕ} {k : WriteRefusal} → x ≡ Err k → k ≡ refusal.MessageTooLong p → Sends reply out (record { outcome = told.RefusedAt 21 p }) out'
  unfolding writes answer_of told_of
  sends_21 e f = sends (rw (e, f))

  pub sends_22 : {k : WriteRefusal} → x ≡ Err k → k ≡ refusal.OutputTooSmall → Sends reply out (record { outcome = told.Refused 22 }) out'
  unfolding writes answer_of told_of
  sends_22 e f = sends (rw (e, f))

  pub sends_octets : {n : ℕ} → x ≡ Ok n → Sends reply out (record { outcome = told.Reply n }) out'
  unfolding writes answer_of told_of
  sends_octets e = sends (rw e)

-- the reply that was meant
pub sends_same : {q r : Reply} {out out' : List ℕ} {a : RequestAnswer} → ((w : List ℕ) → sent q w out ≡ sent r w out) → Sends q out a out' → Sends r out a out'
sends_same e h = record { so = λ w. h.so w ∙ e w }

-- replies with the same values that are both in range or both not
module _ (q r : Reply)
    (values : values_of q.lent q.message no_entries q.attributes ≡ values_of r.lent r.message no_entries r.attributes)
    (formed : well_formed q.lent q.message no_entries q.attributes ≡ well_formed r.lent r.message no_entries r.attributes) where
  refusal_same : (n : ℕ) → write_refusal q.lent q.message no_entries q.attributes n ≡ write_refusal r.lent r.message no_entries r.attributes n
  unfolding write_refusal
  refusal_same n = rw (values, formed)

  pub sent_same : (w out : List ℕ) → sent q w out ≡ sent r w out
  unfolding sent write_answer write_output
  sent_same w out = rw (values, refusal_same (length out))

-- a reply that is too long leaves the output as it was
pub long_kept : (r : Reply) (w out : List ℕ) → too_long (sent r w out).outcome ≡ true → (sent r w out).output ≡ out
unfolding sent write_answer write_output answered writes too_long
long_kept r w out h =
    by_cases (eqb (write_refusal r.lent r.message no_entries r.attributes (length out)) 0)
    (λ t. never (rw t at h))
    (λ t. rw t)
