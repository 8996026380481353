-- The VST of a taken pair passes the writer: its values are in range, its mark is inside, and it is short.
-- Assumes nothing.
use Rattle.std.proofs.Common.{◌≡◌, ℕ, ◌+◌, ◌-◌, ◌*◌, ◌/◌, ◌^◌, ◌<◌, ◌≤◌, Bool, true, false, ◌&&◌, eqb, ltb, leb, List, [], ◌∷◌, ◌++◌, length, take, drop, set, replicate, sym, refl, ap, ◌∙◌, append_assoc, append-nil, arith, length-append, length-drop, length-take-le, ltb-true, le-ltb, lt-ltb, le-leb, leb-true}
use Rattle.refusals.specs.Check.{pick, first_of}
use Rattle.refusals.proofs.Tests.{by_test}
use Rattle.bits.specs.Bits.{bits}
use Rattle.bits.specs.Strings.{is_inside}
use Rattle.bits.proofs.Laws.{length_bits, bits_small, below_drop}
use Rattle.bits.proofs.Strings.{inside_le}
use Rattle.apdu_format.specs.Component.{Component, choice, lead, integer, fixed, string_form, string_length, string_octets, entry_count, entry, container, class}
use Rattle.apdu_format.specs.Table.{layout_of}
use Rattle.apdu_format.specs.Rules.{raw, shape, checks_of, brings, announced, present, times, content}
use Rattle.apdu_format.specs.Reading.{Value, fields, string, numbers_of, need, sum, value_at}
use Rattle.apdu_format.specs.Writing.{Pen, fields_fit, bits_of, fits, is_value, written, none, in_range, encode, size}
use Rattle.apdu_format.proofs.Tests.{both}
use Rattle.apdu_format.proofs.Values.{length_value, fits_value}
use Rattle.apdu.specs.declared.lists.Row.{Row}
use Rattle.apdu.specs.declared.lists.Entry.{Entry}
use Rattle.apdu.specs.declared.records.Message.{Message}
use Rattle.apdu.specs.declared.records.Vst.{Vst}
use Rattle.apdu.specs.declared.records.Message.TheVariants as kind
use Rattle.apdu.specs.Values.{bit_of, num, if, head_values, rows_values, entry_values, entries_values, entry_rows, rows_of, vst_values, values_of, empty_entry}
use Rattle.apdu.specs.Sound.{sound_if, part_fits, parts_fit, closes, rows_sound, container_sound, entry_sound, entries_sound, vst_sound, sound, rows_present, rows_fit, well_formed}
use Rattle.std.specs.Prelude.{Result, Ok, Err}
use Rattle.std.specs.Result.{result_unwrap_or}
use Rattle.apdu_writing.specs.declared.writing.WriteRefusal.{WriteRefusal}
use Rattle.apdu_writing.specs.declared.writing.WriteRefusal.TheVariants as refusal
use Rattle.apdu_writing.specs.Answer.{answer_of, write_refusal, answered, write_answer, write_output}
use Rattle.apdu_writing.specs.Answer.{octets as octets_written}
use Rattle.apdu_writing.specs.Quill.{pen_at, writes}
use Rattle.apdu_writing.proofs.Levels.{writes_none, writes_append, writes_fine}
use Rattle.initialisation.specs.declared.records.Element.{Element}
use Rattle.initialisation.specs.declared.records.Configuration.{Configuration}
use Rattle.initialisation.specs.Elements.{element_sound}
use Rattle.initialisation.specs.declared.hearing.Taken.{Taken}
use Rattle.initialisation.specs.Hearing.{configuration_in_range, entry_of, mark_of, vst_of, vst_for}
use Rattle.initialisation.specs.Searching.{Sends}

-- ---- values that are written for components, n bits in all

record Written (is : List Component) (vs : List Value) (n : ℕ) : Type 0 where
  w : List ℕ
  so : (rest : List Value) (b : List ℕ) → writes is (pen_at (vs ++ rest) 32 b) ≡ pen_at rest 32 (b ++ w)
  long : length w ≡ n

nil : Written [] [] 0
nil = record { w = []; so = λ rest b. writes_none (pen_at rest 32 b) ∙ rw append-nil; long = refl }

infixr 5 ◌then◌
◌then◌ : {is js : List Component} {us vs : List Value} {m n : ℕ} → Written is us m → Written js vs n → Written (is ++ js) (us ++ vs) (m + n)
◌then◌ {is} {js} {us} {vs} p q =
    record {
      w = p.w ++ q.w;
      so = λ rest b.
          rw (append_assoc us vs rest)
          (writes_append is js (pen_at (us ++ (vs ++ rest)) 32 b) ∙ ap (writes js) (p.so (vs ++ rest) b) ∙ q.so rest (b ++ p.w)
          ∙ ap (pen_at rest 32) (append_assoc b p.w q.w));
      long = let l = p.long in let r = q.long in length-append p.w q.w ∙ omega arith;
    }

-- a component that announces no rows, with what it brings
one : (i : Component) (v : Value) {us : List Value} {n : ℕ} → is_value i 32 v ≡ true → announced i (numbers_of v) ≡ 0
    → Written (brings i (numbers_of v)) us n → Written (i ∷ []) (v ∷ us) (need (shape i) + n)
one i v {us} {n} ok a q =
    record {
      w = bits_of (shape i) v ++ q.w;
      so = λ rest b. writes_fine i 32 v (us ++ rest) b ok ∙ rw a (q.so rest (b ++ bits_of (shape i) v) ∙ ap (pen_at rest 32) (append_assoc b (bits_of (shape i) v) q.w));
      long =
          let l = q.long in
          length-append (bits_of (shape i) v) q.w ∙ ap (λ (k : ℕ). k + length q.w) (length_value (shape i) v (fit i v ok)) ∙ omega arith;
    }
  where
    fit : (i : Component) (v : Value) → is_value i 32 v ≡ true → fits (shape i) v ≡ true
    fit i v ok = (both (fits (shape i) v) (eqb (first_of (checks_of i 32 (numbers_of v))) 0) (unfold is_value in ok)).0

-- ---- numbers

number_written : (n : ℕ) → n < 128 → Written (integer ∷ []) (num n ∷ []) 8
unfolding is_value fits fields_fit shape checks_of first_of numbers_of brings announced need sum
number_written n h = one integer (num n) (rw (lt-ltb n 128 h)) refl nil

word_written : (n : ℕ) → n < 2 ^ 16 → Written (fixed 2 ∷ []) (fields (n ∷ []) ∷ []) 16
unfolding is_value fits fields_fit shape checks_of first_of numbers_of brings announced need sum
word_written n h = one (fixed 2) (fields (n ∷ [])) (rw (lt-ltb n (2 ^ 16) h)) refl nil

-- ---- the mark

module _ (s : List ℕ) (start n : ℕ) (few : n ≤ 127) (inside : start + 8 * n ≤ 8 * length s) where
  abbrev octets : Value
  octets = string start (take (8 * n) (drop start (bits s)))

  octets_fit : fits (raw n) octets ≡ true
  unfolding value_at need
  octets_fit =
      let a = length_bits s in
      let b = length-drop start (bits s) in
      fits_value (raw n) start (drop start (bits s)) (below_drop start (bits_small s)) (omega arith)

  string_written : Written (string_form ∷ []) (fields (0 ∷ []) ∷ fields (n ∷ []) ∷ octets ∷ []) (8 + 8 * n)
  string_written = form
    where
      last : Written (string_octets n ∷ []) (octets ∷ []) (8 * n + 0)
      last = unfold is_value shape checks_of first_of numbers_of brings announced need in one (string_octets n) octets (rw octets_fit) refl nil

      middle : Written (string_length ∷ []) (fields (n ∷ []) ∷ octets ∷ []) (7 + (8 * n + 0))
      middle = unfold is_value fits fields_fit shape checks_of first_of numbers_of brings announced need sum in one string_length (fields (n ∷ [])) (rw (lt-ltb n 128 (omega arith))) refl last

      form : Written (string_form ∷ []) (fields (0 ∷ []) ∷ fields (n ∷ []) ∷ octets ∷ []) (8 + 8 * n)
      form =
          let e : 1 + (7 + (8 * n + 0)) ≡ 8 + 8 * n = omega arith in
          rw (← e) (unfold is_value fits fields_fit shape checks_of first_of numbers_of brings announced need sum in one string_form (fields (0 ∷ [])) refl refl middle)

  mark_written : Written (container 1 ∷ []) (head_values s 2 n start ++ []) (8 + (8 + 8 * n))
  unfolding is_value fits fields_fit shape checks_of first_of numbers_of brings announced need sum content head_values
  mark_written = one (container 1) (num 2) refl refl string_written

-- ---- an entry with an eid, and with a parameter or not

entry_written : (q : Bool) (aid eid : ℕ) {mark : List Value} {m : ℕ} → aid < 32 → eid < 128 → (q ≡ true → Written (container 1 ∷ []) mark m)
    → Written (entry ∷ []) ((fields (1 ∷ bit_of q ∷ 0 ∷ aid ∷ []) ∷ []) ++ ((num eid ∷ []) ++ if q mark)) (8 + (8 + pick q m 0))
unfolding is_value fits fields_fit shape checks_of first_of numbers_of brings announced need sum
entry_written true aid eid a e p = one entry (fields (1 ∷ 1 ∷ 0 ∷ aid ∷ [])) (rw (lt-ltb aid 32 a)) refl (number_written eid e then p refl)
entry_written false aid eid a e p = one entry (fields (1 ∷ 0 ∷ 0 ∷ aid ∷ [])) (rw (lt-ltb aid 32 a)) refl (number_written eid e then nil)

-- ---- a configuration with its status

configuration_written : (class' maker status : ℕ) → class' < 2 ^ 15 → maker < 2 ^ 16 → status < 2 ^ 16
    → Written (class ∷ []) (fields (1 ∷ class' ∷ []) ∷ fields (maker ∷ []) ∷ fields (status ∷ []) ∷ []) (16 + (16 + 16))
unfolding is_value fits fields_fit shape checks_of first_of numbers_of brings announced need sum
configuration_written class' maker status a b d =
    one class (fields (1 ∷ class' ∷ [])) (rw (lt-ltb class' (2 ^ 15) a)) refl (word_written maker b then word_written status d)

-- ---- the message

module _ (profile : ℕ) {list tail : List Value} {m n : ℕ} (small : profile < 128) (entry_is : Written (entry ∷ []) list m) (tail_is : Written (class ∷ []) tail n) where
  body_written : Written (integer ∷ entry_count ∷ class ∷ []) ((num profile ∷ []) ++ ((num 1 ∷ (list ++ [])) ++ (tail ++ []))) (8 + ((8 + (m + 0)) + (n + 0)))
  body_written = number_written profile small then (count then (tail_is then nil))
    where
      count : Written (entry_count ∷ []) (num 1 ∷ (list ++ [])) (8 + (m + 0))
      count = unfold is_value fits fields_fit shape checks_of first_of numbers_of brings announced need sum times in one entry_count (num 1) refl refl (entry_is then nil)

  message_written : Written (choice ∷ []) (fields (9 ∷ []) ∷ fields (0 ∷ []) ∷ ((num profile ∷ []) ++ ((num 1 ∷ (list ++ [])) ++ (tail ++ [])))) (4 + (4 + (8 + ((8 + (m + 0)) + (n + 0)))))
  unfolding is_value fits fields_fit shape checks_of first_of numbers_of brings announced need sum present layout_of
  message_written = one choice (fields (9 ∷ [])) refl refl (one (lead 9) (fields (0 ∷ [])) refl refl body_written)

-- what is written is in range, and so long
module _ {vs : List Value} {n : ℕ} (p : Written (choice ∷ []) vs n) where
  is_written : written vs ≡ pen_at [] 32 p.w
  unfolding written writes
  is_written = ap (λ (l : List Value). writes (choice ∷ []) (pen_at l 32 [])) (sym (append-nil vs)) ∙ p.so [] []

  in_range_law : in_range vs ≡ true
  unfolding in_range none
  in_range_law = rw is_written

  size_is : size vs ≡ n / 8
  unfolding size encode
  size_is = ap (λ (q : Pen). length q.out / 8) is_written ∙ ap (λ (k : ℕ). k / 8) p.long

-- ---- the VST of what is taken

-- what the checks say of a profile, an element and a configuration
pub record Sendable (marks : List ℕ) (t : Taken) (k : Configuration) : Type 0 where
  pub served : t.profile ≤ 1
  pub sound : element_sound (length marks) t.element ≡ true
  pub ranges : configuration_in_range k ≡ true

-- an element's ranges
record Ranges (octets : ℕ) (e : Element) : Type 0 where
  eid : e.eid ≤ 127
  aid : e.aid ≤ 31
  few : e.mark_length ≤ 127
  inside : is_inside octets (8 * e.mark) e.mark_length ≡ true

element_ranges : (octets : ℕ) (e : Element) → element_sound octets e ≡ true → Ranges octets e
unfolding element_sound
element_ranges octets e h =
    let a = (both (leb 1 e.eid) (leb e.eid 127 && (leb e.aid 31 && (leb e.mark_length 127 && is_inside octets (8 * e.mark) e.mark_length))) h).1 in
    let b = both (leb e.eid 127) (leb e.aid 31 && (leb e.mark_length 127 && is_inside octets (8 * e.mark) e.mark_length)) a in
    let c = both (leb e.aid 31) (leb e.mark_length 127 && is_inside octets (8 * e.mark) e.mark_length) b.1 in
    let d = both (leb e.mark_length 127) (is_inside octets (8 * e.mark) e.mark_length) c.1 in
    record { eid = leb-true e.eid 127 b.0; aid = leb-true e.aid 31 c.0; few = leb-true e.mark_length 127 d.0; inside = d.1 }

-- its mark ends inside, and is as long as it says
pub mark_ends : (octets : ℕ) (e : Element) → element_sound octets e ≡ true → e.mark + e.mark_length ≤ octets
mark_ends octets e h = let i = inside_le octets (8 * e.mark) e.mark_length (element_ranges octets e h).inside in omega arith

mark_long : (marks : List ℕ) (e : Element) → element_sound (length marks) e ≡ true → length (mark_of e marks) ≡ e.mark_length
mark_long marks e h =
    let i = mark_ends (length marks) e h in
    let l = length-drop e.mark marks in
    length-take-le e.mark_length (drop e.mark marks) (omega arith)

-- the part that is lent to the writer
pub mark_part : (marks : List ℕ) (e : Element) → take (e.mark + e.mark_length - e.mark) (drop e.mark marks) ≡ mark_of e marks
mark_part marks e = let n : e.mark + e.mark_length - e.mark ≡ e.mark_length = omega arith in ap (λ (i : ℕ). take i (drop e.mark marks)) n

-- its entry has no rows, with a mark or without
pub no_rows : (e : Element) → entry_rows (entry_of e) ≡ 0
unfolding entry_rows
no_rows e = by_test (λ (n : ℕ). n ≡ 0) (ltb 0 e.mark_length) (λ h. refl) (λ h. refl)

module _ (marks : List ℕ) (t : Taken) (k : Configuration) (can : Sendable marks t k) where
  abbrev e : Element
  e = t.element

  abbrev q : Bool
  q = ltb 0 e.mark_length

  ranged : Ranges (length marks) e
  ranged = element_ranges (length marks) e can.sound

  configured : Written (class ∷ []) (fields (1 ∷ k.class ∷ []) ∷ fields (k.maker ∷ []) ∷ fields (k.status ∷ []) ∷ []) (16 + (16 + 16))
  configured =
      let a = both (ltb k.class (2 ^ 15)) (ltb k.maker (2 ^ 16) && ltb k.status (2 ^ 16)) (unfold configuration_in_range in can.ranges) in
      let b = both (ltb k.maker (2 ^ 16)) (ltb k.status (2 ^ 16)) a.1 in
      configuration_written k.class k.maker k.status (ltb-true k.class (2 ^ 15) a.0) (ltb-true k.maker (2 ^ 16) b.0) (ltb-true k.status (2 ^ 16) b.1)

  entered : Written (entry ∷ []) ((fields (1 ∷ bit_of q ∷ 0 ∷ e.aid ∷ []) ∷ []) ++ ((num e.eid ∷ []) ++ if q (head_values (mark_of e marks) 2 e.mark_length 0 ++ []))) (8 + (8 + pick q (8 + (8 + 8 * e.mark_length)) 0))
  entered =
      let r = ranged in
      let l = mark_long marks e can.sound in
      entry_written q e.aid e.eid (omega arith) (omega arith) (λ h. mark_written (mark_of e marks) 0 e.mark_length r.few (omega arith))

  vst_written : Written (choice ∷ []) (vst_for t marks k) (4 + (4 + (8 + ((8 + ((8 + (8 + pick q (8 + (8 + 8 * e.mark_length)) 0)) + 0)) + ((16 + (16 + 16)) + 0)))))
  unfolding vst_for values_of vst_values entries_values entry_values rows_values rows_of
  vst_written = let s = can.served in rw (no_rows t.element) (message_written t.profile (omega arith) entered configured)

  pub vst_short : size (vst_for t marks k) ≤ 512
  vst_short =
      let r = ranged in
      let l = size_is vst_written in
      let h : pick q (8 + (8 + 8 * e.mark_length)) 0 ≤ 1032 = by_test (λ (i : ℕ). i ≤ 1032) q (λ h. omega (arith, r.few)) (λ h. omega arith) in
      omega arith

  -- the entries and rows that stand behind the one entry do not matter
  module _ (es : List Entry) (rs : List Row) where
    abbrev message : Message
    message = kind.Vst (vst_of t.profile k)

    pub vst_values_law : values_of (mark_of e marks) message (entry_of e ∷ es) rs ≡ vst_for t marks k
    unfolding vst_for values_of vst_values entries_values rows_of
    vst_values_law = rw (no_rows t.element)

    vst_sound_law : sound (length (mark_of e marks)) message (entry_of e ∷ es) rs ≡ true
    unfolding sound vst_sound entries_sound entry_sound container_sound part_fits rows_sound parts_fit closes
    vst_sound_law = rw (no_rows t.element) (marked q whole)
      where
        whole : is_inside (length (mark_of e marks)) 0 e.mark_length ≡ true
        whole = let l = mark_long marks e can.sound in unfold is_inside in le-leb (0 + 8 * e.mark_length) (8 * length (mark_of e marks)) (omega arith)

        marked : (q : Bool) {i : Bool} → i ≡ true → (sound_if q (i && true) && true) ≡ true
        marked true h = rw h
        marked false h = refl

    vst_fit : rows_fit message (entry_of e ∷ es) ≡ true
    unfolding rows_fit rows_present rows_of
    vst_fit = rw (no_rows t.element)

    pub vst_passes : (n : ℕ) → 512 ≤ n → write_refusal (mark_of e marks) message (entry_of e ∷ es) rs n ≡ 0
    unfolding write_refusal first_of well_formed
    vst_passes n h =
        let l = vst_short in
        rw (vst_values_law, in_range_law vst_written, vst_sound_law, vst_fit, le-ltb 512 (size (vst_for t marks k)) l, le-ltb n (size (vst_for t marks k)) (omega arith))

-- ---- what writing it gives

octets_told : (w : Result ℕ WriteRefusal) (n : ℕ) → answer_of w ≡ octets_written n → w ≡ Ok n
unfolding answer_of
octets_told (Ok m) n h = let e : m ≡ n = cc in ap Ok e
octets_told (Err refusal.RecordOutOfRange) n h = let z : ◌≡◌ {A = ℕ} 0 1 = cc in absurd (omega arith)
octets_told (Err (refusal.MessageTooLong p)) n h = let z : ◌≡◌ {A = ℕ} 0 1 = cc in absurd (omega arith)
octets_told (Err refusal.OutputTooSmall) n h = let z : ◌≡◌ {A = ℕ} 0 1 = cc in absurd (omega arith)

module _ (marks : List ℕ) (t : Taken) (k : Configuration) (can : Sendable marks t k) (rs : List Row) (out : List ℕ) (room : 512 ≤ length out) {v : Vst} {x : Entry} {es : List Entry} {s : List ℕ}
    (a : v ≡ vst_of t.profile k) (b : x ≡ entry_of t.element) (d : es ≡ replicate 32 empty_entry) (m : s ≡ mark_of t.element marks) where
  passed : write_refusal s (kind.Vst v) (set es 0 x) rs (length out) ≡ 0
  passed = rw (a, b, d, m) (vst_passes marks t k can (replicate 31 empty_entry) rs (length out) room)

  values_are : values_of s (kind.Vst v) (set es 0 x) rs ≡ vst_for t marks k
  values_are = rw (a, b, d, m) (vst_values_law marks t k can (replicate 31 empty_entry) rs)

  pub sends : (w : Result ℕ WriteRefusal) {n : ℕ} {out' : List ℕ} → n ≡ result_unwrap_or w 0 → answer_of w ≡ write_answer s (kind.Vst v) (set es 0 x) rs (length out)
      → out' ≡ write_output s (kind.Vst v) (set es 0 x) rs out → Sends t.profile t.element k marks n out out'
  unfolding write_answer answered write_output
  sends w {n} {out'} is told left =
      record {
        octets = is ∙ rw (octets_told w (size (vst_for t marks k)) (told ∙ rw (passed, values_are)));
        output = left ∙ rw (passed, values_are);
      }
