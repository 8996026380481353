-- Laws of appending text to a buffer: what has room, and texts appended one behind the other.
-- Assumes nothing.
use mathlib.Core.Path.{◌≡◌, refl, ap, sym, ◌∙◌}
use mathlib.Core.Bool.{Bool, true, false}
use Prim.Native.Nat.{ℕ, suc, ◌+◌, ◌-◌, ◌≤◌, ◌<◌}
use mathlib.Core.List.{List, [], ◌∷◌, ◌++◌, append_assoc}
use native.Mathlib.Omega.{arith}
use lib.Dec.{leb}
use lib.ListN.{length, get_or, take, drop, set, length-append, length-drop}
use lib.Seq.{length-take-le, take-length, take_at, drop_at, drop-drop, drop-cons, set_at, paste}
use borrow.Author.Tests.{lt-leb, leb-true}
use Rattle.refusals.proofs.Tests.{leb_same}
use Rattle.refusals.specs.Check.{Answer, refused, accepted}
use borrow.Rule.Slice.PartMut.{put_mid}
use Rattle.std.proofs.lemmas.Slice.{put_mid-paste}
use Rattle.bench_lines.specs.Numerals.{digits_before, width, decimal_before}
use Rattle.bench_lines.specs.Inside.{Placed}
use Rattle.bench_lines.specs.Text.{number_text, named_text, held_word, whole_word, refused_word, answer_text, answer_line_text, totals_text, written, has_room, append_text, output_after}
use Rattle.bench_lines.specs.declared.BenchAnswer.{BenchAnswer}
use Rattle.bench_lines.specs.declared.BenchAnswer.TheVariants as answer
use Rattle.bench_lines.specs.declared.Totals.{Totals}
use Rattle.bench_lines.proofs.Decimal.{digits_append, length_digits}

module _ (room at octets : ℕ) where
  pub room_found : {r : Bool} → r ≡ has_room room at octets → r ≡ true → at + octets ≤ room
  unfolding has_room
  room_found {r} e t = leb-true (at + octets) room (sym e ∙ t)

module _ (out : List ℕ) (at : ℕ) (text : List ℕ) where
  module _ (fits : at + length text ≤ length out) where
    front : length (take at out ++ text) ≡ at + length text
    front = omega (arith, length-append (take at out) text, length-take-le at out (omega arith))

    pub length_written : length (written out at text) ≡ length out
    unfolding written
    length_written =
        let f = front in
        rw (← append_assoc) (omega (arith, length-append (take at out ++ text) (drop (at + length text) out), length-drop (at + length text) out))

    -- a text behind another
    pub written_append : (more : List ℕ) → written (written out at text) (at + length text) more ≡ written out at (text ++ more)
    unfolding written
    written_append more =
        let p = take at out ++ text in
        let n = at + length text in
        let rest = drop n out in
        let e : take at out ++ (text ++ rest) ≡ p ++ rest = sym (append_assoc (take at out) text rest) in
        let f : take n (p ++ rest) ≡ p = take_at p rest n front in
        let g : drop (n + length more) (p ++ rest) ≡ drop (n + length more) out =
        sym (drop-drop (length more) n (p ++ rest)) ∙ ap (drop (length more)) (drop_at p rest n front) ∙ drop-drop (length more) n out in
        let k : n + length more ≡ at + length (text ++ more) = omega (arith, length-append text more) in
        rw (e, f, g, k) (regroup (take at out) text more (drop (at + length (text ++ more)) out))
      where
        regroup : (a b c d : List ℕ) → (a ++ b) ++ (c ++ d) ≡ a ++ ((b ++ c) ++ d)
        regroup a b c d = simp append_assoc

-- ---- a word, a number

pub word_placed : (out : List ℕ) (at : ℕ) (s : List ℕ) {part : List ℕ} {k : ℕ} → part ≡ s → length s ≡ k → Placed out at s (put_mid at k out part) (at + length s)
unfolding written
word_placed out at s {part} {k} p q = record {
  place = refl;
  octets = put_mid-paste at k out part s (length s) p q refl ∙ rw take-length (append_assoc (take at out) s (drop (at + length s) out));
}

-- copied octet by octet
pub word_copied : (out : List ℕ) (at : ℕ) (s : List ℕ) {e : List ℕ} {k : ℕ} → e ≡ paste out at s k → k ≡ length s → Placed out at s e (at + length s)
unfolding written
word_copied out at s {e} {k} p q = record { place = refl; octets = p ∙ rw (q, take-length) (append_assoc (take at out) s (drop (at + length s) out)) }

pub length_number : (n end : ℕ) → length (number_text n end) ≡ width n + 1
unfolding number_text decimal_before
length_number n end = length_digits 10 (width n) n (end ∷ [])

pub number_written : (out : List ℕ) (at n end : ℕ) {k : ℕ} {e : List ℕ} → k ≡ width n → e ≡ take at out ++ digits_before 10 k n (drop (at + k) out) → at + k < length out
    → set e (at + k) end ≡ written out at (number_text n end)
unfolding number_text decimal_before written
number_written out at n end {k} {e} w p h =
    let d = digits_before 10 k n [] in
    let y = get_or out (at + k) 0 in
    let ys = drop (suc (at + k)) out in
    let l : length (take at out ++ d) ≡ at + k = omega (arith, length-append (take at out) d, length-take-le at out (omega arith), length_digits 10 k n []) in
    let a : e ≡ (take at out ++ d) ++ (y ∷ ys) =
    p ∙ ap (λ (m : List ℕ). take at out ++ m) (digits_append 10 k n (drop (at + k) out) ∙ ap (λ (m : List ℕ). d ++ m) (drop-cons out (at + k) 0 h))
    ∙ sym (append_assoc (take at out) d (y ∷ ys)) in
    let q : at + length (digits_before 10 k n (end ∷ [])) ≡ suc (at + k) = omega (arith, length_digits 10 k n (end ∷ [])) in
    ap (λ (m : List ℕ). set m (at + k) end) a ∙ set_at (take at out ++ d) y ys end (at + k) l
    ∙ sym (rw (← w, q, digits_append 10 k n (end ∷ [])) (regroup (take at out) d end ys))
  where
    regroup : (a b : List ℕ) (x : ℕ) (c : List ℕ) → a ++ ((b ++ (x ∷ [])) ++ c) ≡ (a ++ b) ++ (x ∷ c)
    regroup a b x c = simp append_assoc

pub number_placed : (out : List ℕ) (at n end : ℕ) {k : ℕ} {e : List ℕ} → k ≡ width n → e ≡ take at out ++ digits_before 10 k n (drop (at + k) out) → at + k < length out
    → Placed out at (number_text n end) (set e (at + k) end) (at + k + 1)
number_placed out at n end w p h =
    record { place = omega (arith, length_number n end); octets = number_written out at n end w p h }

-- ---- texts one behind the other

pub placed_length : {out : List ℕ} {at : ℕ} {text after : List ℕ} {next : ℕ} → at + length text ≤ length out → Placed out at text after next → length after ≡ length out
placed_length {out} {at} {text} h p =
    let e = p.octets in
    rw e (length_written out at text h)

pub placed_two : {out : List ℕ} {at : ℕ} {a mid : List ℕ} {n : ℕ} {b after : List ℕ} {next : ℕ}
    → at + length a ≤ length out → Placed out at a mid n → Placed mid n b after next → Placed out at (a ++ b) after next
placed_two {out} {at} {a} {mid} {n} {b} {after} {next} h p q =
    let i = p.place in
    let m = p.octets in
    let e = q.octets in
    record {
      place = omega (arith, q.place, i, length-append a b);
      octets = e ∙ rw (m, i) (written_append out at a h b);
    }

pub placed_as : {out : List ℕ} {at : ℕ} {a b after : List ℕ} {next : ℕ} → a ≡ b → Placed out at a after next → Placed out at b after next
placed_as e p = rw e at p

pub length_named : (word : List ℕ) (n end : ℕ) → length (named_text word n end) ≡ length word + (width n + 1)
unfolding named_text
length_named word n end = length-append word (number_text n end) ∙ ap (λ (k : ℕ). length word + k) (length_number n end)

pub named_placed : (n end : ℕ) {out : List ℕ} {at : ℕ} {word mid : List ℕ} {m : ℕ} {after : List ℕ} {next : ℕ}
    → at + length word ≤ length out → Placed out at word mid m → Placed mid m (number_text n end) after next → Placed out at (named_text word n end) after next
unfolding named_text
named_placed n end h p q = placed_two h p q

-- ---- answers

pub held_text : {a : BenchAnswer} → a ≡ answer.Held → held_word ≡ answer_text a
unfolding answer_text
held_text e = sym (ap answer_text e)

pub whole_text : {a : BenchAnswer} → a ≡ answer.Whole → whole_word ≡ answer_text a
unfolding answer_text
whole_text e = sym (ap answer_text e)

pub refused_text : {a : BenchAnswer} {n : ℕ} → a ≡ answer.Refused n → named_text refused_word n 32 ≡ answer_text a
unfolding answer_text
refused_text e = sym (ap answer_text e)

pub refused_octets : {a : BenchAnswer} {n k : ℕ} → a ≡ answer.Refused n → k ≡ width n → k ≤ 20 → (9 + k ≡ length (answer_text a)) × (9 + k ≤ 29)
refused_octets {a} {n} {k} e w h =
    let l : length (answer_text a) ≡ 8 + (width n + 1) = sym (ap length (refused_text e)) ∙ length_named refused_word n 32 in
    (omega arith, omega arith)

-- ---- what appending answers

module _ (out : List ℕ) (at : ℕ) (text : List ℕ) {r : Bool} {n : ℕ} (is : r ≡ has_room (length out) at n) (l : n ≡ length text) where
  room_is : {b : Bool} → r ≡ b → has_room (length out) at (length text) ≡ b
  room_is e = rw (← l) (sym is ∙ e)

  pub no_room : r ≡ false → (◌≡◌ {A = Answer ℕ} (refused 22) (append_text out at text)) × (out ≡ output_after (refused 22) out at text)
  unfolding append_text output_after
  no_room t = (simp (room_is t), refl)

  pub room_for : {after : List ℕ} {next : ℕ} → r ≡ true → Placed out at text after next
      → (accepted next ≡ append_text out at text) × (after ≡ output_after (accepted next) out at text)
  unfolding append_text output_after
  room_for t p = (ap accepted p.place ∙ simp (room_is t), p.octets)

-- ---- four texts one behind the other

module _ (out : List ℕ) (at : ℕ) (a b c d : List ℕ) (fits : at + length (a ++ (b ++ (c ++ d))) ≤ length out) where
  sum : length (a ++ (b ++ (c ++ d))) ≡ length a + (length b + (length c + length d))
  sum = simp length-append

  pub four_placed : {x y z after : List ℕ} {k l m next : ℕ}
      → Placed out at a x k → Placed x k b y l → Placed y l c z m → Placed z m d after next → Placed out at (a ++ (b ++ (c ++ d))) after next
  four_placed {x} {y} {z} {after} {k} {l} {m} {next} p q r s =
      let f : at + length a ≤ length out = omega (arith, sum) in
      let g = placed_length f p in
      let i = p.place in
      let h : k + length b ≤ length x = omega (arith, sum) in
      let j = placed_length h q in
      let o = q.place in
      placed_two f p (placed_two h q (placed_two (omega (arith, sum)) r s))

-- appended, where has_room was asked about their length
module _ (out : List ℕ) (at : ℕ) (a b c d : List ℕ) {r : Bool} {n : ℕ} (is : r ≡ has_room (length out) at n) (l : n ≡ length (a ++ (b ++ (c ++ d)))) (t : r ≡ true) where
  pub four_appended : {x y z after : List ℕ} {i j k next : ℕ}
      → Placed out at a x i → Placed x i b y j → Placed y j c z k → Placed z k d after next
      → (accepted next ≡ append_text out at (a ++ (b ++ (c ++ d)))) × (after ≡ output_after (accepted next) out at (a ++ (b ++ (c ++ d))))
  four_appended p q u s =
      let fits : at + length (a ++ (b ++ (c ++ d))) ≤ length out = rw l at (room_found (length out) at n is t) in
      room_for out at (a ++ (b ++ (c ++ d))) is l t (four_placed out at a b c d fits p q u s)

pub length_line : (line : ℕ) (a : BenchAnswer) (octets dropped : ℕ) {w o v u : ℕ} → w ≡ width line → o ≡ length (answer_text a) → v ≡ width octets → u ≡ width dropped
    → w + o + v + u + 3 ≡ length (answer_line_text line a octets dropped)
unfolding answer_line_text
length_line line a octets dropped p q r s =
    simp length-append (omega (arith, length_number line 32, length_number octets 32, length_number dropped 10))

pub length_totals : (t : Totals) {w v u s : ℕ} → w ≡ width t.accepted → v ≡ width t.delivered → u ≡ width t.dropped → s ≡ width t.held
    → w + v + u + s + 36 ≡ length (totals_text t)
unfolding totals_text
length_totals t p q r s = simp (length-append, length_named) (omega arith)

-- ---- room, with no sum

module _ (room at octets : ℕ) where
  pub too_long : room < octets → false ≡ has_room room at octets
  unfolding has_room
  too_long h = sym (lt-leb (at + octets) room (omega arith))

  pub starts_inside : octets ≤ room → leb at (room - octets) ≡ has_room room at octets
  unfolding has_room
  starts_inside h = leb_same at (room - octets) (at + octets) room (λ k. omega arith) (λ k. omega arith)
