-- The exported bench line: a line of output has room in 128 octets, and the words keep the joined table. Assumes nothing.
use mathlib.Core.Path.{◌≡◌, refl, sym, ap, subst, ◌∙◌}
use mathlib.Core.Bool.{Bool, true, false}
use mathlib.Core.List.{List}
use Prim.Native.Nat.{ℕ, ◌+◌, ◌/◌, ◌≤◌, ◌<◌, ◌^◌}
use native.Mathlib.Omega.{arith}
use lib.ListN.{length, take, length-drop}
use lib.Dec.{ltb, leb}
use borrow.Author.Tests.{leb-true, le-leb, lt-ltb, le-ltb}
use Rattle.std.specs.Prelude.{Result, Ok, Err, is_ok}
use Rattle.std.specs.Result.{result_unwrap_or}
use Rattle.refusals.specs.Check.{pick, Answer, refused, accepted}
use Rattle.refusals.specs.declared.Refusal.{Refusal}
use Rattle.refusals.specs.Refusal.{number_of, answer_of}
use Rattle.slots.specs.declared.Table.{Table}
use Rattle.reassembly.specs.declared.Accepted.{Accepted}
use Rattle.reassembly.specs.declared.Accepted.TheVariants as fragment
use Rattle.reassembly.specs.Engine.{fragment_answer}
use Rattle.bench_lines.specs.declared.BenchAnswer.{BenchAnswer}
use Rattle.bench_lines.specs.declared.BenchAnswer.TheVariants as shown
use Rattle.bench_lines.specs.declared.Line.{Line}
use Rattle.bench_lines.specs.declared.LineRefusal.{LineRefusal}
use Rattle.slots.proofs.Tests.{and_l}
use Rattle.bench_lines.specs.Line.{Fields, second_space, lsdu_text, all_hold, has_form, fields_of, read_line, line_refusal_number, line_answer, lsdu_after}
use Rattle.bench_lines.specs.Text.{refused_word, answer_text, answer_line_text, written, has_room, append_text, output_after}
use Rattle.bench_lines.proofs.Decimal.{width_u64}
use Rattle.bench_lines.proofs.Appending.{length_named, length_line}
use Rattle.bench_joining.specs.declared.Columns.{Columns}
use Rattle.bench_joining.specs.Columns.{numbered, columns_of, refused_columns, refused_with}
use Rattle.bench_joining.specs.Joined.{columns_after, LineJoined, lsdu_of, LineTaken}
use Rattle.bench_joining.proofs.LineLaws.{line_joined, line_refused}
use Rattle.words.specs.Answer.{answer_number, Says}
use Rattle.words.specs.TableWords.{table_in}
use Rattle.exports.specs.Fragments.{kept_words}
use Rattle.exports.specs.BenchLine.{is_accepted, output_line, BenchLineExported, RoomForEach}
use Rattle.exports.specs.Putting.{FragmentPut, LsduPut, LinePut}
use Rattle.exports.proofs.Saying.{says}
use Rattle.exports.proofs.Answering.{Small, fragment_small}

-- ---- the text

pub line_short : (number : ℕ) (a : BenchAnswer) (octets dropped : ℕ) → number < 2 ^ 64 → octets < 2 ^ 64 → dropped < 2 ^ 64 → length (answer_text a) ≤ 29
    → length (answer_line_text number a octets dropped) ≤ 128
line_short number a octets dropped n o d h =
    omega (arith, length_line number a octets dropped refl refl refl refl, width_u64 number (omega arith), width_u64 octets (omega arith), width_u64 dropped (omega arith))

pub shown_all : (text text' line : List ℕ) (a : Result ℕ Refusal) → (answer_of a ≡ append_text text 0 line) × (text' ≡ output_after (answer_of a) text 0 line)
    → length line ≤ length text → length line ≤ 128 → let n = result_unwrap_or a 0 in (n ≡ length line) × (text' ≡ written text 0 line) × (n ≤ 128)
unfolding append_text has_room output_after
shown_all text text' line a got room short = go a got
  where
    all : pick (leb (0 + length line) (length text)) (accepted (0 + length line)) (refused 22) ≡ accepted (0 + length line)
    all = rw (le-leb (0 + length line) (length text) (omega arith))

    go : (a : Result ℕ Refusal) → (answer_of a ≡ append_text text 0 line) × (text' ≡ output_after (answer_of a) text 0 line)
        → let n = result_unwrap_or a 0 in (n ≡ length line) × (text' ≡ written text 0 line) × (n ≤ 128)
    go (Ok n) got =
        let is : accepted n ≡ accepted (0 + length line) = got.0 ∙ all in
        let same : n ≡ 0 + length line = cc in
        (omega arith, got.1, omega arith)
    go (Err r) got =
        let is : refused (number_of r) ≡ accepted (0 + length line) = got.0 ∙ all in
        let z : ◌≡◌ {A = ℕ} 0 1 = cc in
        absurd (omega arith)

-- ---- the answer that is shown

refused_short : (n : ℕ) → n < 2 ^ 8 → length (answer_text (shown.Refused n)) ≤ 29
unfolding answer_text
refused_short n h = omega (arith, length_named refused_word n 32, width_u64 n (omega arith))

answer_short : (x : Result Accepted Refusal) (held payload : ℕ) → Small (fragment_answer x) → length (answer_text (columns_of (numbered x) held payload).answer) ≤ 29
unfolding columns_of refused_columns refused_with answer_text
answer_short (Ok (fragment.Held o d)) held payload s = omega arith
answer_short (Ok (fragment.Whole o d)) held payload s = omega arith
answer_short (Err r) held payload s = go (ltb (number_of r) 7)
  where
    go : (b : Bool) → length (answer_text (pick b (refused_with (number_of r) 0) (refused_with (number_of r) held)).answer) ≤ 29
    go true = refused_short (number_of r) s.1
    go false = refused_short (number_of r) s.1

shown_short : (x : Result Accepted Refusal) (columns : Columns) (held payload : ℕ) → columns ≡ columns_of (numbered x) held payload → Small (fragment_answer x) → length (answer_text columns.answer) ≤ 29
shown_short x columns held payload e s = omega (arith, ap (λ (c : Columns). length (answer_text c.answer)) e, answer_short x held payload s)

accepted_is : (x : Result Accepted Refusal) (held payload : ℕ) → is_accepted (columns_of (numbered x) held payload).answer ≡ is_ok x
unfolding columns_of refused_columns refused_with is_accepted
accepted_is (Ok (fragment.Held o d)) held payload = refl
accepted_is (Ok (fragment.Whole o d)) held payload = refl
accepted_is (Err r) held payload = go (ltb (number_of r) 7)
  where
    go : (b : Bool) → is_accepted (pick b (refused_with (number_of r) 0) (refused_with (number_of r) held)).answer ≡ false
    go true = refl
    go false = refl

-- a line that is not read is refused with 0 or 22
read_small : (line : List ℕ) (room k : ℕ) → read_line line room ≡ refused k → k < 2 ^ 8
unfolding read_line
read_small line room k e = go (has_form line) (leb (fields_of line).octets room) e
  where
    go : (a b : Bool) → pick a (pick b (accepted (fields_of line)) (refused 22)) (refused 0) ≡ refused k → k < 2 ^ 8
    go true true e = let z : ◌≡◌ {A = ℕ} 0 1 = cc in absurd (omega arith)
    go true false e = let z : k ≡ 22 = cc in omega arith
    go false b e = let z : k ≡ 0 = cc in omega arith

-- a line has at most 600 characters, so its LSDU at most 300 octets
pub room_for_each : RoomForEach
unfolding RoomForEach read_line has_form all_hold fields_of lsdu_text
room_for_each line e = go (has_form line) refl e
  where
    few : has_form line ≡ true → length (lsdu_text line) / 2 ≤ 300
    few h = omega (arith, leb-true (length line) 600 (and_l _ _ h), length-drop (second_space line + 1) line)

    go : (a : Bool) → has_form line ≡ a → pick a (pick (leb (fields_of line).octets 300) (accepted (fields_of line)) (refused 22)) (refused 0) ≡ refused 22 → ⊥
    go true h e =
        let is : accepted (fields_of line) ≡ refused 22 = rw (le-leb (length (lsdu_text line) / 2) 300 (few h)) at e in
        let z : ◌≡◌ {A = ℕ} 0 1 = cc in
        omega arith
    go false h e = let is : ◌≡◌ {A = ℕ} 0 22 = cc in omega arith

-- ---- a line joined, over the words

pub lsdu_put : (lid tick : ℕ) (lsdu words store output : List ℕ) (r : Columns) (words' store' output' : List ℕ) (x : Result Accepted Refusal) (after : Table)
    → FragmentPut lid tick lsdu words store output x words' store' output' → after ≡ table_in words' → r ≡ columns_after (numbered x) lid lsdu after
    → LsduPut lid tick lsdu words store output r words' store' output'
unfolding columns_after
lsdu_put lid tick lsdu words store output r words' store' output' x after put t c =
    let is : r ≡ columns_after (numbered x) lid lsdu (table_in words') = c ∙ ap (columns_after (numbered x) lid lsdu) t in
    let kept : is_accepted r.answer ≡ is_ok x = ap (λ (c : Columns). is_accepted c.answer) is ∙ accepted_is x _ _ in
    record {
      joined = record { call = x; gives = put.gives; columns_are = is };
      words_are = put.words_are ∙ sym (ap (λ (b : Bool). kept_words b (table_in words') words) kept);
    }

module _ (line lsdu lsdu' : List ℕ) (a : Result Line LineRefusal) (got : (line_answer a ≡ read_line line (length lsdu)) × (lsdu' ≡ lsdu_after (line_answer a) line lsdu))
    (room : length lsdu ≡ 300) (words store output : List ℕ) (r : Columns) where
  line_put : (words' store' output' : List ℕ) → LineTaken line (table_in words) lsdu store output r (table_in words') lsdu' store' output'
      → words' ≡ kept_words (is_accepted r.answer) (table_in words') words → LinePut line words store output r words' store' output'
  line_put words' store' output' t w = record {
    joined = subst (λ (n : ℕ). LineJoined (read_line line n) (lsdu_of line) (table_in words) store output r (table_in words') store' output') room t.joined;
    words_are = w;
  }

  pub read_put : (words' store' output' : List ℕ) {l t n : ℕ} {part : List ℕ} → a ≡ Ok (record { lid = l; tick = t; octets = n }) → part ≡ take n lsdu'
      → LsduPut l t part words store output r words' store' output' → LinePut line words store output r words' store' output'
  read_put words' store' output' e p put =
      line_put words' store' output' (line_joined line (table_in words) (table_in words') lsdu store output lsdu' store' output' r a got e p put.joined) put.words_are

  pub refused_put : (k : LineRefusal) {number : ℕ} → a ≡ Err k → number ≡ line_refusal_number k → r ≡ refused_with number 0
      → LinePut line words store output r words store output
  unfolding refused_with is_accepted kept_words
  refused_put k e n c =
      line_put words store output (line_refused line (table_in words) (table_in words) lsdu store output lsdu' store output r a got k e n refl c refl refl)
      (sym (ap (λ (x : Columns). kept_words (is_accepted x.answer) (table_in words) words) c))

pub answer_fits : (line words store output : List ℕ) (r : Columns) (words' store' output' : List ℕ) → LinePut line words store output r words' store' output'
    → length (answer_text r.answer) ≤ 29
unfolding LineJoined refused_with columns_after
answer_fits line words store output r words' store' output' put = go (read_line line 300) refl put.joined
  where
    go : (a : Answer Fields) → read_line line 300 ≡ a
        → LineJoined a (lsdu_of line) (table_in words) store output r (table_in words') store' output' → length (answer_text r.answer) ≤ 29
    go (accepted f) e j =
        shown_short j.call r _ _ j.columns_are
        (fragment_small f.lid f.tick (lsdu_of line) (table_in words) store output j.call (table_in words') store' output' j.gives)
    go (refused k) e j = omega (arith, ap (λ (c : Columns). length (answer_text c.answer)) j.columns_are, refused_short k (read_small line 300 k e))

-- ---- the contract

module _ (number : ℕ) (line words store output text : List ℕ) (r : ℕ) (words' store' output' text' : List ℕ) where
  pub text_refused : length text < 128 → r ≡ answer_number 22 0 0 0 → words' ≡ words → store' ≡ store → output' ≡ output → text' ≡ text
      → BenchLineExported number line words store output text r words' store' output' text'
  unfolding BenchLineExported
  text_refused h n w s o t =
      rw (lt-ltb (length text) 128 h) (record { number_is = n; words_are = w; store_is = s; output_is = o; text_is = t })

  pub line_shown : (columns : Columns) (n : ℕ) → 128 ≤ length text → LinePut line words store output columns words' store' output'
      → (n ≡ length (output_line number columns)) × (text' ≡ written text 0 (output_line number columns)) × (n ≤ 128)
      → r ≡ answer_number 0 0 n 0 → BenchLineExported number line words store output text r words' store' output' text'
  unfolding BenchLineExported
  line_shown columns n h put shown e =
      let line' = output_line number columns in
      let number_is : r ≡ answer_number 0 0 (length line') 0 = e ∙ ap (λ (m : ℕ). answer_number 0 0 m 0) shown.0 in
      rw (le-ltb (length text) 128 h) (record {
        columns = columns;
        table = table_in words';
        joined = put.joined;
        words_are = put.words_are;
        table_back = refl;
        text_is = shown.1;
        number_is = number_is;
        says = subst (λ (k : ℕ). Says k 0 0 (length line') 0) (sym number_is) (says 0 0 (length line') (omega arith) (omega arith) (omega (arith, shown.0, shown.2)));
      })

-- text that fits is never refused
pub shown_never : (text text' line : List ℕ) (a : Result ℕ Refusal) → (answer_of a ≡ append_text text 0 line) × (text' ≡ output_after (answer_of a) text 0 line)
    → length line ≤ length text → (r : Refusal) → a ≡ Err r → ⊥
unfolding append_text has_room
shown_never text text' line a got room r e =
    let all : pick (leb (0 + length line) (length text)) (accepted (0 + length line)) (refused 22) ≡ accepted (0 + length line) = rw (le-leb (0 + length line) (length text) (omega arith)) in
    let is : refused (number_of r) ≡ accepted (0 + length line) = sym (ap answer_of e) ∙ (got.0 ∙ all) in
    let z : ◌≡◌ {A = ℕ} 0 1 = cc in
    omega arith
