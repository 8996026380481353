-- Laws of a message's strings: the ways out of the functions. Assumes nothing.
use Prim.Native.Nat.{ℕ, ◌-◌, ◌<◌, ◌≤◌}
use mathlib.Core.Path.{◌≡◌, refl, ap, ◌∙◌}
use mathlib.Core.List.{List}
use lib.ListN.{get_or}
use borrow.Author.Tests.{eq-eqb, ne_eqb, lt-ltb, le-ltb}
use Rattle.std.specs.Prelude.{Option, None}
use Rattle.apdu.specs.declared.lists.Lists.{Lists}
use Rattle.apdu.specs.declared.records.Message.{Message}
use Rattle.apdu.specs.Values.{empty_row, empty_entry}
use Rattle.apdu_reading.specs.declared.front.Answer.TheVariants as answer
use Rattle.apdu_reading.specs.declared.front.Reading.{Reading}
use Rattle.apdu_reading.specs.Answers.{Reads}
use Rattle.exports.specs.declared.strings.StringPart.{StringPart}
use Rattle.exports.specs.Messages.{refusal_at}
use Rattle.exports.specs.Strings.{credentials_in, parameter_in, row_string, entry_string, string_part, string_number, string_output, field_number, field_output, StringGives}

-- ---- which part

module _ (m : Message) (l : Lists) (field : ℕ) {p : Option StringPart} where
  pub part_credentials : field ≡ 0 → p ≡ credentials_in m → p ≡ string_part m l field
  unfolding string_part
  part_credentials e q = simp (eq-eqb _ _ e) q

  module _ (a : field ≡ 0 → ⊥) where
    pub part_parameter : field ≡ 1 → p ≡ parameter_in m → p ≡ string_part m l field
    unfolding string_part
    part_parameter e q = simp (ne_eqb _ _ a, eq-eqb _ _ e) q

    module _ (b : field ≡ 1 → ⊥) where
      pub part_row : field < 34 → p ≡ row_string (get_or l.rows (field - 2) empty_row) → p ≡ string_part m l field
      unfolding string_part
      part_row h q = simp (ne_eqb _ _ a, ne_eqb _ _ b, lt-ltb _ _ h) q

      module _ (d : 34 ≤ field) where
        pub part_entry : field < 66 → p ≡ entry_string (get_or l.entries (field - 34) empty_entry) → p ≡ string_part m l field
        unfolding string_part
        part_entry h q = simp (ne_eqb _ _ a, ne_eqb _ _ b, le-ltb _ _ d, lt-ltb _ _ h) q

        pub part_none : 66 ≤ field → p ≡ None → p ≡ string_part m l field
        unfolding string_part
        part_none h q = simp (ne_eqb _ _ a, ne_eqb _ _ b, le-ltb _ _ d, le-ltb _ _ h) q

-- ---- the call

module _ (s : List ℕ) (field : ℕ) (out : List ℕ) (g : Reading) (e : Reads s g) where
  pub string_refused : (k p : ℕ) {r : ℕ} → g.answer ≡ answer.Refused k p → r ≡ refusal_at k p → StringGives s field out r out
  unfolding field_number field_output
  string_refused k p a q = record { reading = g; reads = e; is = rw a q; output_is = rw a refl }

  pub string_given : (m : Message) {p : Option StringPart} {r : ℕ} {out' : List ℕ} → g.answer ≡ answer.Message m → p ≡ string_part m g.lists field
      → (r ≡ string_number s p out) × (out' ≡ string_output s p out) → StringGives s field out r out'
  unfolding field_number field_output
  string_given m a i q =
      record {
        reading = g;
        reads = e;
        is = rw a (q.0 ∙ ap (λ (p : Option StringPart). string_number s p out) i);
        output_is = rw a (q.1 ∙ ap (λ (p : Option StringPart). string_output s p out) i);
      }
