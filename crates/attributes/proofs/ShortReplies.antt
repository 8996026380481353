-- No reply is longer than 512 octets, whatever is requested: a longer one is refused by writing.
-- Assumes nothing.
use Prim.Native.Nat.{ℕ, ◌≤◌}
use mathlib.Core.Path.{◌≡◌, refl, ap, sym, ◌∙◌}
use mathlib.Core.Bool.{Bool, true, false, not}
use mathlib.Core.List.{List, [], ◌∷◌}
use native.Mathlib.Omega.{arith}
use lib.Dec.{eqb, ltb}
use lib.ListN.{length}
use borrow.Author.Tests.{eqb-true, ltb-false}
use Rattle.refusals.specs.Check.{check, first_of}
use Rattle.refusals.proofs.Tests.{by_test, by_cases, first_none}
use Rattle.apdu_format.proofs.Tests.{never}
use Rattle.apdu_format.specs.Writing.{size}
use Rattle.apdu.specs.declared.records.Message.{Message}
use Rattle.apdu.specs.declared.records.Message.TheVariants as kind
use Rattle.apdu.specs.Values.{values_of}
use Rattle.apdu.specs.Sound.{well_formed}
use Rattle.apdu_reading.specs.declared.front.Answer.{Answer}
use Rattle.apdu_reading.specs.declared.front.Answer.TheVariants as answer
use Rattle.apdu_reading.specs.declared.front.Reading.{Reading}
use Rattle.apdu_writing.specs.Answer.{write_refusal, answered, write_answer}
use Rattle.directory.specs.Directory.{sound_directory}
use Rattle.attributes.specs.Serving.{least_output, Attribute, Tag, Reply, Outcome, refused, refused_at, silent, replied, Effect, no_entries, writes, sent, too_long, get_status, get_reply, getting, setting, served, carried, by_reading, requested}

abbrev is_reply : Outcome → Bool
is_reply (refused k) = false
is_reply (refused_at k p) = false
is_reply silent = false
is_reply (replied n) = true

-- ---- a reply that is sent

module _ (q : Reply) (w out : List ℕ) where
  abbrev refusal : ℕ
  refusal = write_refusal q.lent q.message no_entries q.attributes (length out)

  abbrev long : ℕ
  long = size (values_of q.lent q.message no_entries q.attributes)

  -- it is sent only where writing refuses nothing
  pub sent_none : (n : ℕ) → (sent q w out).outcome ≡ replied n → (refusal ≡ 0) × (long ≡ n)
  unfolding sent writes write_answer answered
  sent_none n h =
      by_cases (eqb refusal 0)
      (λ t. let e : replied long ≡ replied n = rw t at h in (eqb-true refusal 0 t, cc))
      (λ t. by_cases (eqb refusal 21) (λ u. never (ap is_reply (rw (t, u) at h))) (λ u. never (ap is_reply (rw (t, u) at h))))

  short_size : refusal ≡ 0 → long ≤ 512
  unfolding write_refusal
  short_size h = ltb-false 512 long (first_none 20 (ltb 512 long) _ (first_none 22 (not (well_formed q.lent q.message no_entries q.attributes)) _ h).1).0

-- ---- every call

abbrev Short : Effect → Type 0
Short e = (n : ℕ) → e.outcome ≡ replied n → n ≤ 512

none : (o : Outcome) → is_reply o ≡ false → (n : ℕ) → o ≡ replied n → n ≤ 512
none o e n h = never (sym e ∙ ap is_reply h)

module _ (tag : Tag) (s out : List ℕ) where
  sent_short : (q : Reply) (w : List ℕ) → Short (sent q w out)
  sent_short q w n h = let k = sent_none q w out n h in omega (arith, k.1, short_size q w out k.0)

  carried_short : (m : Message) (attributes : List Attribute) → Short (carried tag s m attributes out)
  unfolding carried getting setting
  carried_short (kind.ActionRequest m) attributes = sent_short _ _
  carried_short (kind.ActionResponse m) attributes = none (refused 24) refl
  carried_short (kind.EventRequest m) attributes = none (refused 24) refl
  carried_short (kind.EventResponse m) attributes = none (refused 24) refl
  carried_short (kind.SetRequest m) attributes = by_test Short m.mode (λ t. sent_short _ _) (λ t. none silent refl)
  carried_short (kind.SetResponse m) attributes = none (refused 24) refl
  carried_short (kind.GetRequest m) attributes =
      by_test Short (eqb (get_status tag s m) 0)
      (λ t. by_test Short (too_long (sent (get_reply tag s m) tag.writable out).outcome) (λ u. sent_short _ _) (λ u. sent_short _ _))
      (λ t. sent_short _ _)
  carried_short (kind.GetResponse m) attributes = none (refused 24) refl
  carried_short (kind.Bst m) attributes = none (refused 24) refl
  carried_short (kind.Vst m) attributes = none (refused 24) refl

  read_short : (a : Answer) (attributes : List Attribute) → Short (by_reading tag s a attributes out)
  unfolding by_reading
  read_short (answer.Refused k p) attributes = none (refused_at k p) refl
  read_short (answer.Message m) attributes = by_test Short (served m) (λ t. carried_short m attributes) (λ t. none (refused 24) refl)

  pub requested_short : (r : Reading) (n : ℕ) → (requested tag s r out).outcome ≡ replied n → n ≤ 512
  unfolding requested
  requested_short r =
      let first = first_of (check 1 (ltb (length out) least_output) ∷ check 26 (not (sound_directory (length tag.factory) (length tag.writable) tag.directory)) ∷ []) in
      by_test Short (eqb first 0) (λ t. read_short r.answer r.lists.rows) (λ t. none (refused first) refl)
