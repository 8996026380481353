-- What is taken out of the numbers of the request and lookup calls is what they answer; and an id that is too large is unknown. Assumes nothing.
use Prim.Native.Nat.{ℕ, suc, ◌<◌, ◌≤◌}
use mathlib.Core.Path.{◌≡◌, refl, ap, sym, subst, ◌∙◌}
use mathlib.Core.Bool.{Bool, true, false, not}
use mathlib.Core.List.{List, [], ◌∷◌}
use native.Mathlib.Omega.{arith}
use lib.Dec.{eqb, ltb, leb}
use lib.ListN.{length}
use borrow.Author.Tests.{ne_eqb, le-ltb, ltb-true, ltb-false, leb-true}
use Rattle.refusals.specs.Check.{pick, check, first_of, decided}
use Rattle.refusals.proofs.Tests.{by_test, by_cases, numbers_to, first_le}
use Rattle.apdu_format.specs.Reading.{read_message}
use Rattle.apdu_format.proofs.Tests.{both}
use Rattle.apdu_format.proofs.RoundTrip.{refused_known}
use Rattle.apdu.specs.declared.lists.Entry.{Entry}
use Rattle.apdu.specs.declared.lists.Lists.{Lists}
use Rattle.apdu.specs.declared.records.Message.{Message}
use Rattle.apdu.specs.declared.records.Message.TheVariants as kind
use Rattle.apdu_reading.specs.declared.front.Answer.{Answer}
use Rattle.apdu_reading.specs.declared.front.Answer.TheVariants as answer
use Rattle.apdu_reading.specs.declared.front.Reading.{Reading}
use Rattle.apdu_reading.specs.Answers.{told, outcome_of}
use Rattle.apdu_writing.specs.Answer as writing
use Rattle.apdu_writing.specs.Answer.{write_refusal, answered, write_answer}
use Rattle.directory.specs.declared.Row.{Row}
use Rattle.directory.specs.Directory.{row_sound, each_sound, all_apart, sound_directory, index_of, known_in, knowing}
use Rattle.attributes.specs.Serving.{least_output, Attribute, Tag, Reply, Outcome, refused, refused_at, silent, replied, Effect, no_entries, writes, sent, too_long, get_status, get_reply, getting, setting, served, carried, by_reading, requested, told_of}
use Rattle.attributes.proofs.ShortReplies.{requested_short}
use Rattle.words.specs.Answer.{answer_number, Says, SaysRefused}
use Rattle.words.specs.Word.{narrow_to}
use Rattle.words.proofs.Words.{narrow_small, narrow_large}
use Rattle.exports.specs.Messages.{refusal_number}
use Rattle.exports.specs.AttributeCalls.{outcome_number, lookup_number, OutcomeSays, LookupSays, UnpackingRequest, UnpackingLookup, LargeSought}
use Rattle.exports.proofs.Saying.{says, says_refused}
use Rattle.exports.proofs.ReadingBack.{position_small}

-- ---- request: which refusals there are

abbrev Known : Outcome → Type 0
Known (refused k) = (eqb k 0 ≡ false) × (k < 256)
Known (refused_at k p) = (eqb k 0 ≡ false) × (k < 256) × (p ≤ 512)
Known silent = Unit {0}
Known (replied n) = Unit {0}

abbrev KnownBy : Effect → Type 0
KnownBy e = Known e.outcome

not_served : Known (refused 24)
not_served = (refl, omega arith)

write_number : (s : List ℕ) (m : Message) (es : List Entry) (rs : List Attribute) (n : ℕ) → write_refusal s m es rs n ≤ 23
unfolding write_refusal numbers_to
write_number s m es rs n = first_le 23 _ refl

module _ (tag : Tag) (s out : List ℕ) where
  sent_known : (q : Reply) (w : List ℕ) → KnownBy (sent q w out)
  unfolding sent writes write_answer answered
  sent_known q w =
      let k = write_refusal q.lent q.message no_entries q.attributes (length out) in
      by_test (λ (a : writing.Answer). Known (writes a)) (eqb k 0) (λ t. tt)
      (λ t.
      by_test (λ (a : writing.Answer). Known (writes a)) (eqb k 21) (λ u. (refl, omega arith, omega arith))
      (λ u. (t, omega (arith, write_number q.lent q.message no_entries q.attributes (length out)))))

  carried_known : (m : Message) (attributes : List Attribute) → KnownBy (carried tag s m attributes out)
  unfolding carried getting setting
  carried_known (kind.ActionRequest m) attributes = sent_known _ _
  carried_known (kind.ActionResponse m) attributes = not_served
  carried_known (kind.EventRequest m) attributes = not_served
  carried_known (kind.EventResponse m) attributes = not_served
  carried_known (kind.SetRequest m) attributes = by_test KnownBy m.mode (λ t. sent_known _ _) (λ t. tt)
  carried_known (kind.SetResponse m) attributes = not_served
  carried_known (kind.GetRequest m) attributes =
      by_test KnownBy (eqb (get_status tag s m) 0)
      (λ t. by_test KnownBy (too_long (sent (get_reply tag s m) tag.writable out).outcome) (λ u. sent_known _ _) (λ u. sent_known _ _))
      (λ t. sent_known _ _)
  carried_known (kind.GetResponse m) attributes = not_served
  carried_known (kind.Bst m) attributes = not_served
  carried_known (kind.Vst m) attributes = not_served

  read_known : (lists : Lists) (end : ℕ) (a : Answer) → told s lists end a ≡ read_message s → KnownBy (by_reading tag s a lists.rows out)
  unfolding told by_reading
  read_known lists end (answer.Refused k p) e =
      let known = refused_known s k p (sym e) in
      (ne_eqb k 0 (λ z. omega (arith, known.0)), omega (arith, known.1), position_small s k p (sym e))
  read_known lists end (answer.Message m) e = by_test KnownBy (served m) (λ t. carried_known m lists.rows) (λ t. not_served)

  requested_known : (r : Reading) → outcome_of s r ≡ read_message s → KnownBy (requested tag s r out)
  unfolding requested outcome_of numbers_to
  requested_known r e =
      let checks = check 1 (ltb (length out) least_output) ∷ check 26 (not (sound_directory (length tag.factory) (length tag.writable) tag.directory)) ∷ [] in
      by_test KnownBy (eqb (first_of checks) 0) (λ t. read_known r.lists r.end r.answer e)
      (λ t. (t, omega (arith, first_le 26 checks refl)))

outcome_says : (o : Outcome) → Known o → ((n : ℕ) → o ≡ replied n → n ≤ 512) → OutcomeSays (outcome_number o) o
unfolding outcome_number OutcomeSays
outcome_says (refused k) h short = says_refused k 0 h.0 h.1 (omega arith)
outcome_says (refused_at k p) h short = says_refused k p h.0 h.1 h.2
outcome_says silent h short = says 0 0 0 (omega arith) (omega arith) (omega arith)
outcome_says (replied n) h short = says 0 1 n (omega arith) (omega arith) (short n refl)

pub unpacking_request : UnpackingRequest
unfolding UnpackingRequest
unpacking_request tag s out r w out' g =
    let a = g.answered in
    let o = told_of g.call.outcome in
    let is : o ≡ (requested tag s a.reading out).outcome = ap (λ (x : Effect). x.outcome) a.is in
    let known = subst Known (sym is) (requested_known tag s out a.reading a.reads.outcome) in
    subst (λ (k : ℕ). OutcomeSays k o) (sym g.is) (outcome_says o known (λ n e. requested_short tag s out a.reading n (sym is ∙ e)))

-- ---- lookup

known_says : (short known : Bool)
    → let r = pick short (refusal_number 22) (answer_number 0 (pick known 1 0) 0 0) in
    pick short (SaysRefused r 22 0) (Says r 0 (pick known 1 0) 0 0)
known_says true known = says_refused 22 0 refl (omega arith) (omega arith)
known_says false true = says 0 1 0 (omega arith) (omega arith) (omega arith)
known_says false false = says 0 0 0 (omega arith) (omega arith) (omega arith)

pub unpacking_lookup : UnpackingLookup
unfolding UnpackingLookup knowing first_of decided lookup_number LookupSays
unpacking_lookup f w rows id n = go (sound_directory f w rows)
  where
    go : (b : Bool) → let a = decided (first_of (check 26 (not b) ∷ [])) (known_in id rows) in LookupSays (lookup_number a n) a n
    go true = known_says (ltb n 3) (known_in id rows)
    go false = says_refused 26 0 refl (omega arith) (omega arith)

-- ---- an id that is too large

no_row : (f w : ℕ) (rows : List Row) (id : ℕ) → each_sound f w rows ≡ true → 127 < id → index_of id rows ≡ length rows
unfolding each_sound row_sound index_of
no_row f w [] id e h = refl
no_row f w (row ∷ rows) id e h =
    let each = both (row_sound f w row) (each_sound f w rows) e in
    let small : row.id ≤ 127 = leb-true row.id 127 (both (leb row.id 127) _ each.0).0 in
    rw (ne_eqb row.id id (λ z. omega (arith, z))) (ap suc (no_row f w rows id each.1 h))

still_above : (id : ℕ) → 127 < id → 127 < narrow_to 8 id
still_above id h =
    by_cases (ltb id 256)
    (λ t. omega (arith, h, narrow_small 8 id (ltb-true id 256 t)))
    (λ t. omega (arith, narrow_large 8 id (ltb-false id 256 t)))

pub large_sought : LargeSought
unfolding LargeSought knowing known_in sound_directory first_of decided
large_sought f w rows id e h =
    let each = (both (each_sound f w rows) (all_apart rows) (both (leb (length rows) 32) _ e).1).0 in
    let index = no_row f w rows (narrow_to 8 id) each (still_above id h) in
    rw (e, le-ltb (index_of (narrow_to 8 id) rows) (length rows) (omega (arith, index)))
