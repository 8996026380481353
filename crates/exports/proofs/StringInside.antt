-- Every string of what reading makes lies inside the message, whichever its number. So 22 is given just where the output is shorter, else the string's
-- octets stand at the output's front; and what is taken out of the number is what is answered. Assumes nothing.
use Prim.Native.Nat.{ℕ, ◌+◌, ◌-◌, ◌<◌, ◌≤◌}
use mathlib.Core.Bool.{true, false, ◌&&◌}
use mathlib.Core.Path.{◌≡◌, refl, ap, sym, subst}
use mathlib.Core.List.{List, [], ◌∷◌, ◌++◌}
use native.Mathlib.Omega.{arith}
use lib.Dec.{eqb, leb, ltb}
use lib.ListN.{length, take, drop}
use borrow.Author.Tests.{le-leb, lt-leb}
use Rattle.std.specs.Prelude.{Option, Some, None}
use Rattle.refusals.proofs.Tests.{by_test}
use Rattle.bits.specs.Strings.{is_inside, string_at, copy_fits, copy_string}
use Rattle.bits.proofs.Strings.{inside_le}
use Rattle.apdu_format.specs.Reading.{read_message}
use Rattle.apdu_format.proofs.Tests.{both}
use Rattle.apdu.specs.declared.lists.Row.{Row}
use Rattle.apdu.specs.declared.lists.Entry.{Entry}
use Rattle.apdu.specs.declared.lists.Lists.{Lists}
use Rattle.apdu.specs.declared.records.Bst.{Bst}
use Rattle.apdu.specs.declared.records.Request.{Request}
use Rattle.apdu.specs.declared.records.Message.{Message}
use Rattle.apdu.specs.declared.records.Message.TheVariants as kind
use Rattle.apdu.specs.Values.{rows_of}
use Rattle.apdu.specs.Sound.{container_sound, rows_sound, sound_if, entries_sound, request_sound, action_response_sound, set_request_sound, get_request_sound, get_response_sound, bst_sound, vst_sound, sound}
use Rattle.apdu.specs.Tidy.{Absent, message_tidy}
use Rattle.apdu_reading.specs.declared.front.Answer.{Answer}
use Rattle.apdu_reading.specs.declared.front.Answer.TheVariants as answer
use Rattle.apdu_reading.specs.Answers.{told, outcome_of, tidy_by, sound_by}
use Rattle.words.specs.Answer.{Says, SaysRefused}
use Rattle.exports.specs.declared.strings.StringPart.{StringPart}
use Rattle.exports.specs.Strings.{credentials_in, parameter_in, string_part, string_number, string_output, field_number, field_output, PartTold, FieldTold, EachString}
use Rattle.exports.proofs.PartsInside.{Inside, inside_if, first_there_law, container_inside, list_fits, RowsInside, rows_inside, no_rows, rows_if, own_rows, EntriesInside, no_entries_law, list_rows_law, list_entries, joined}
use Rattle.exports.proofs.Saying.{says, says_refused}
use Rattle.exports.proofs.ReadingBack.{message_short, read_refused}

-- ---- which part

module _ (octets : ℕ) (es : List Entry) (rs : List Row) where
  credentials_inside : (m : Message) → sound octets m es rs ≡ true → Inside octets (credentials_in m)
  unfolding sound request_sound set_request_sound get_request_sound
  credentials_inside (kind.ActionRequest m) e = inside_if octets m.has_credentials _ _ (first_there_law m.has_credentials _ _ e)
  credentials_inside (kind.ActionResponse m) e = tt
  credentials_inside (kind.EventRequest m) e = inside_if octets m.has_credentials _ _ (first_there_law m.has_credentials _ _ e)
  credentials_inside (kind.EventResponse m) e = tt
  credentials_inside (kind.SetRequest m) e = inside_if octets m.has_credentials _ _ (first_there_law m.has_credentials _ _ e)
  credentials_inside (kind.SetResponse m) e = tt
  credentials_inside (kind.GetRequest m) e = inside_if octets m.has_credentials _ _ (first_there_law m.has_credentials _ _ e)
  credentials_inside (kind.GetResponse m) e = tt
  credentials_inside (kind.Bst m) e = tt
  credentials_inside (kind.Vst m) e = tt

  request_second : (m : Request) → request_sound octets m rs ≡ true
      → sound_if m.has_parameter (container_sound octets m.kind m.n m.start (take m.rows rs)) ≡ true
  unfolding request_sound
  request_second m e =
      (both (sound_if m.has_credentials (is_inside octets m.credentials m.credentials_length))
      (sound_if m.has_parameter (container_sound octets m.kind m.n m.start (take m.rows rs))) e).1

  parameter_inside : (m : Message) → sound octets m es rs ≡ true → message_tidy m es rs → Inside octets (parameter_in m)
  unfolding sound action_response_sound message_tidy
  parameter_inside (kind.ActionRequest m) e t = container_inside octets m.has_parameter m.kind _ _ _ _ (request_second m e) t.0.1
  parameter_inside (kind.ActionResponse m) e t = container_inside octets m.has_parameter m.kind _ _ _ _ e t.0.1
  parameter_inside (kind.EventRequest m) e t = container_inside octets m.has_parameter m.kind _ _ _ _ (request_second m e) t.0.1
  parameter_inside (kind.EventResponse m) e t = tt
  parameter_inside (kind.SetRequest m) e t = tt
  parameter_inside (kind.SetResponse m) e t = tt
  parameter_inside (kind.GetRequest m) e t = tt
  parameter_inside (kind.GetResponse m) e t = tt
  parameter_inside (kind.Bst m) e t = tt
  parameter_inside (kind.Vst m) e t = tt

  bst_sound_law : (m : Bst) → bst_sound octets m es rs ≡ true → Absent m.has_others (m.others ∷ [])
      → entries_sound octets (take (m.mandatory + m.others) es) rs ≡ true
  unfolding bst_sound
  bst_sound_law m e a =
      let first = take m.mandatory es in
      let p = entries_sound octets first (take (rows_of first) rs) in
      let q = sound_if m.has_others (entries_sound octets (take m.others (drop m.mandatory es)) (drop (rows_of first) rs)) in
      let r = is_inside octets m.profiles m.profile_count in
      joined octets m.mandatory m.others m.has_others es rs (both p (q && r) e).0 (both q r (both p (q && r) e).1).0 (λ f. (a.are f).0)

  lists_inside : (m : Message) → sound octets m es rs ≡ true → message_tidy m es rs → RowsInside octets rs × EntriesInside octets es
  unfolding sound action_response_sound set_request_sound get_response_sound vst_sound message_tidy
  lists_inside (kind.ActionRequest m) e t =
      (own_rows octets m.has_parameter m.kind m.n m.start m.rows rs (request_second m e) t.0.1 t.2, no_entries_law octets es t.1)
  lists_inside (kind.ActionResponse m) e t = (own_rows octets m.has_parameter m.kind m.n m.start m.rows rs e t.0.1 t.2, no_entries_law octets es t.1)
  lists_inside (kind.EventRequest m) e t =
      (own_rows octets m.has_parameter m.kind m.n m.start m.rows rs (request_second m e) t.0.1 t.2, no_entries_law octets es t.1)
  lists_inside (kind.EventResponse m) e t = (no_rows octets rs t.2, no_entries_law octets es t.1)
  lists_inside (kind.SetRequest m) e t = (
    rows_inside octets m.rows rs
        (list_fits octets m.count (take m.rows rs)
        (both (sound_if m.has_credentials (is_inside octets m.credentials m.credentials_length))
        (rows_sound octets m.count (take m.rows rs)) e).1) t.2,
    no_entries_law octets es t.1,
  )
  lists_inside (kind.SetResponse m) e t = (no_rows octets rs t.2, no_entries_law octets es t.1)
  lists_inside (kind.GetRequest m) e t = (no_rows octets rs t.2, no_entries_law octets es t.1)
  lists_inside (kind.GetResponse m) e t = (
    rows_if octets m.has_attributes (rows_sound octets m.count (take m.rows rs)) m.rows rs e
        (list_fits octets m.count (take m.rows rs)) (λ f. (t.0.1.are f).1.0) t.2,
    no_entries_law octets es t.1,
  )
  lists_inside (kind.Bst m) e t =
      let n = m.mandatory + m.others in
      let f = bst_sound_law m e t.0 in
      (list_rows_law octets n es rs f t.1, list_entries octets n es rs f t.1)
  lists_inside (kind.Vst m) e t = (list_rows_law octets m.applications es rs e t.1, list_entries octets m.applications es rs e t.1)

string_inside : (octets : ℕ) (m : Message) (l : Lists) (field : ℕ) → sound octets m l.entries l.rows ≡ true → message_tidy m l.entries l.rows
    → Inside octets (string_part m l field)
unfolding string_part
string_inside octets m l field e t =
    let i = lists_inside octets l.entries l.rows m e t in
    by_test (Inside octets) (eqb field 0) (λ b. credentials_inside octets l.entries l.rows m e)
    (λ b.
    by_test (Inside octets) (eqb field 1) (λ b. parameter_inside octets l.entries l.rows m e t)
    (λ b.
    by_test (Inside octets) (ltb field 34) (λ b. i.0 (field - 2))
    (λ b. by_test (Inside octets) (ltb field 66) (λ b. i.1 (field - 34)) (λ b. tt))))

-- ---- what is answered

module _ (s : List ℕ) (p : StringPart) (out : List ℕ) (inside : is_inside (length s) p.start p.length ≡ true) (short : length s ≤ 512) where
  output_small : length out < p.length → SaysRefused (string_number s (Some p) out) 22 0 × (string_output s (Some p) out ≡ out)
  unfolding string_number string_output copy_string copy_fits
  output_small h =
      let f : leb (0 + p.length) (length out) ≡ false = lt-leb (0 + p.length) (length out) (omega arith) in
      (rw (inside, f) (says_refused 22 0 refl (omega arith) (omega arith)), rw (inside, f))

  output_large : p.length ≤ length out
      → Says (string_number s (Some p) out) 0 1 p.length 0 × (string_output s (Some p) out ≡ string_at s p.start p.length ++ drop p.length out)
  unfolding string_number string_output copy_string copy_fits
  output_large h =
      let z : 0 + p.length ≡ p.length = omega arith in
      let f : leb (0 + p.length) (length out) ≡ true = le-leb (0 + p.length) (length out) (omega arith) in
      let n : p.length ≤ 512 = omega (arith, inside_le (length s) p.start p.length inside) in (
        rw (inside, f) (says 0 1 p.length (omega arith) (omega arith) n),
        rw (inside, f) (ap (λ (k : ℕ). string_at s p.start p.length ++ drop k out) z),
      )

part_told : (s : List ℕ) (p : Option StringPart) (out : List ℕ) → Inside (length s) p → length s ≤ 512 → PartTold s p out (string_number s p out) (string_output s p out)
unfolding string_number string_output
part_told s None out inside short = (says 0 0 0 (omega arith) (omega arith) (omega arith), refl)
part_told s (Some p) out inside short = record { small = output_small s p out inside short; large = output_large s p out inside short }

module _ (s : List ℕ) (l : Lists) (end field : ℕ) (out : List ℕ) where
  field_told : (a : Answer) → told s l end a ≡ read_message s → tidy_by l end a → sound_by (length s) l a
      → FieldTold s l field out a (field_number s l field out a) (field_output s l field out a)
  unfolding told tidy_by sound_by field_number field_output FieldTold
  field_told (answer.Refused k p) e t h = (read_refused s k p (sym e), refl)
  field_told (answer.Message m) e t h = part_told s (string_part m l field) out (string_inside (length s) m l field h t) (message_short s _ _ (sym e))

pub each_string : EachString
unfolding EachString outcome_of
each_string s field out r out' g =
    let l = g.reading.lists in
    let a = g.reading.answer in
    subst (λ (k : ℕ). FieldTold s l field out a k out') (sym g.is)
    (subst (λ (o : List ℕ). FieldTold s l field out a (field_number s l field out a) o) (sym g.output_is)
    (field_told s l g.reading.end field out a g.reads.outcome g.reads.tidy.is g.reads.sound.is))
