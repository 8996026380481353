-- Octets have one reading: the outcome is theirs, and beside it a record is determined by its values, a refusal by being empty.
-- Assumes nothing.
use Prim.Native.Nat.{ℕ}
use mathlib.Core.Path.{◌≡◌, refl, sym, ◌∙◌}
use mathlib.Core.List.{List}
use lib.ListN.{length}
use Rattle.apdu.specs.declared.lists.Lists.{Lists}
use Rattle.apdu.specs.Values.{values_of, empty_row, empty_entry}
use Rattle.apdu.proofs.SameRows.{array_same}
use Rattle.apdu.proofs.OneRecord.{one_record}
use Rattle.apdu_reading.specs.declared.front.Answer.{Answer}
use Rattle.apdu_reading.specs.declared.front.Answer.TheVariants as answer
use Rattle.apdu_reading.specs.Answers.{told, outcome_of, tidy_by, sound_by, few_by, ReadOnce}

record Same (a b : Answer) (l j : Lists) (e f : ℕ) : Type 0 where
  answers : a ≡ b
  lists : l ≡ j
  ends : e ≡ f

module _ (s : List ℕ) (l j : Lists) (entries : length l.entries ≡ 32) (rows : length l.rows ≡ 32) (entries' : length j.entries ≡ 32) (rows' : length j.rows ≡ 32) where
  same : (a b : Answer) (e f : ℕ) → told s l e a ≡ told s j f b → tidy_by l e a → tidy_by j f b → sound_by (length s) l a → sound_by (length s) j b → few_by l a → few_by j b
      → Same a b l j e f
  unfolding told tidy_by sound_by few_by
  same (answer.Message m) (answer.Message k) e f h t u c d w x =
      let v : values_of s m l.entries l.rows ≡ values_of s k j.entries j.rows = cc in
      let o = one_record s m k l.entries j.entries l.rows j.rows (record { tidy = t; sound_record = c; few = w; rows = rows; entries = entries })
      (record { tidy = u; sound_record = d; few = x; rows = rows'; entries = entries' }) v in
      record {
        answers = λ i. answer.Message (o.message i);
        lists = λ i. record { entries = o.entries i; rows = o.rows i };
        ends = cc;
      }
  same (answer.Message m) (answer.Refused k p) e f h t u c d w x = record { answers = cc; lists = cc; ends = cc }
  same (answer.Refused k p) (answer.Message m) e f h t u c d w x = record { answers = cc; lists = cc; ends = cc }
  same (answer.Refused k p) (answer.Refused n q) e f h t u c d w x =
      let y = array_same empty_entry 0 l.entries j.entries (entries ∙ sym entries') refl t.1.rest u.1.rest in
      let z = array_same empty_row 0 l.rows j.rows (rows ∙ sym rows') refl t.2.rest u.2.rest in
      record { answers = cc; lists = λ i. record { entries = y i; rows = z i }; ends = t.0 ∙ sym u.0 }

pub read_once : ReadOnce
unfolding ReadOnce outcome_of
read_once s r q a b =
    let o = same s r.lists q.lists a.entries a.rows b.entries b.rows r.answer q.answer r.end q.end (a.outcome ∙ sym b.outcome)
    a.tidy.is b.tidy.is a.sound.is b.sound.is a.few.is b.few.is in
    λ i. record { answer = o.answers i; end = o.ends i; lists = o.lists i }
