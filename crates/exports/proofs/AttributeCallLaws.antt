-- Laws of lookup: the ways out of the call. Assumes nothing.
use Prim.Native.Nat.{ℕ, ◌<◌, ◌≤◌}
use mathlib.Core.Bool.{Bool, true, false}
use mathlib.Core.Path.{◌≡◌, refl, ap, sym, ◌∙◌}
use mathlib.Core.List.{List}
use lib.ListN.{length}
use borrow.Author.Tests.{lt-ltb, le-ltb}
use Rattle.std.specs.Prelude.{Result, Ok, Err}
use Rattle.std.specs.Int.{from_bool}
use Rattle.refusals.specs.Check.{pick, refused, accepted}
use Rattle.refusals.specs.declared.Refusal.{Refusal}
use Rattle.refusals.specs.Refusal.{number_of, answer_of}
use Rattle.directory.specs.declared.Row.{Row}
use Rattle.directory.specs.Directory.{knowing, lookup_row}
use Rattle.words.specs.Answer.{answer_number}
use Rattle.words.specs.RowWords.{with_part}
use Rattle.words.proofs.RowLaws.{part_none}
use Rattle.exports.specs.Messages.{refusal_number}
use Rattle.exports.specs.AttributeCalls.{lookup_number, lookup_words, LookupGives}

one : (b : Bool) → from_bool b ≡ pick b 1 0
one true = refl
one false = refl

module _ (f w : ℕ) (rows : List Row) (id : ℕ) (part : List ℕ) {a : Result Bool Refusal} (is : answer_of a ≡ knowing f w rows id) where
  pub lookup_refused : (k : Refusal) {r : ℕ} → a ≡ Err k → r ≡ refusal_number (number_of k) → LookupGives f w rows id part r part
  unfolding lookup_number lookup_words
  lookup_refused k e q =
      let i : knowing f w rows id ≡ refused (number_of k) = sym is ∙ ap answer_of e in
      record { is = rw i q; part_is = rw i refl }

  module _ {b : Bool} (e : a ≡ Ok b) where
    known : knowing f w rows id ≡ accepted b
    known = sym is ∙ ap answer_of e

    pub lookup_short : {r : ℕ} → length part < 3 → r ≡ refusal_number 22 → LookupGives f w rows id part r part
    unfolding lookup_number lookup_words
    lookup_short h q = record { is = rw (known, lt-ltb (length part) 3 h) q; part_is = rw known (part_none (lookup_row f w rows id) part h) }

    pub lookup_found : {k r : ℕ} {row : Row} {part' : List ℕ} → 3 ≤ length part → k ≡ from_bool b → r ≡ answer_number 0 k 0 0
        → row ≡ lookup_row f w rows id → part' ≡ with_part row part → LookupGives f w rows id part r part'
    unfolding lookup_number lookup_words
    lookup_found h n q x p =
        record {
          is = rw (known, le-ltb (length part) 3 h) (q ∙ ap (λ (k : ℕ). answer_number 0 k 0 0) (n ∙ one b));
          part_is = rw known (p ∙ ap (λ (y : Row). with_part y part) x);
        }
