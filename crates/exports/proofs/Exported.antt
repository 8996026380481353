-- The exported calls of joining: what the code does over the words is what their contracts ask. Assumes nothing.
use mathlib.Core.Path.{◌≡◌, refl, sym, ap, subst, ◌∙◌}
use mathlib.Core.Bool.{Bool, true, false, true≢false}
use mathlib.Core.List.{List}
use Prim.Native.Nat.{ℕ}
use lib.ListN.{length}
use lib.Dec.{eqb}
use borrow.Author.Tests.{eq-eqb, eqb-true, eqb-false}
use Rattle.std.specs.Prelude.{Result, Ok, Err, is_ok}
use Rattle.refusals.specs.declared.Refusal.{Refusal}
use Rattle.slots.specs.declared.Table.{Table}
use Rattle.slots.specs.Slots.{is_sound}
use Rattle.slots.specs.Sweep.{ExpiryGives, ReleaseGives}
use Rattle.reassembly.specs.declared.Accepted.{Accepted}
use Rattle.reassembly.specs.declared.Change.{Change}
use Rattle.reassembly.specs.Engine.{changed_by, ChangeGives, FragmentGives}
use Rattle.reassembly.proofs.CallLaws.{change_gives, refused_gives}
use Rattle.words.specs.TableWords.{table_in, table_after, change_after, UnpackingTable, OtherTableLength}
use Rattle.words.proofs.TableLaws.{unpacking_table, other_table_length, eight_in}
use Rattle.exports.specs.Fragments.{kept_words, fragment_number, FragmentSays, FragmentExported, SweepSays, SweepExported, ExpiryExported, ReleaseExported}
use Rattle.exports.specs.Putting.{kept_table, FragmentPut, SweepPut}
use Rattle.exports.proofs.Staying.{Sound, fragment_stays, expiry_stays, release_stays}
use Rattle.exports.proofs.Answering.{fragment_says, fragment_clear, fragment_same, SweepFacts, expiry_facts, release_facts}

-- ---- the words

-- a sound table's words are 41
long_words : (words : List ℕ) → is_sound (table_in words) ≡ true → length words ≡ 41
unfolding OtherTableLength
long_words words h = go (eqb (length words) 41) refl
  where
    go : (b : Bool) → eqb (length words) 41 ≡ b → length words ≡ 41
    go true e = eqb-true (length words) 41 e
    go false e = absurd (true≢false (sym h ∙ other_table_length words (eqb-false (length words) 41 e)))

module _ (words : List ℕ) (after : Table) where
  kept_is : (taken : Bool) → (taken ≡ true → is_sound (table_in words) ≡ true) → kept_table taken after words ≡ kept_words taken after words
  unfolding table_after kept_table kept_words
  kept_is true sound = rw (eq-eqb (length words) 41 (long_words words (sound refl)))
  kept_is false sound = refl

  back_is : (taken : Bool) → (taken ≡ true → Sound after) → (taken ≡ false → after ≡ table_in words) → table_in (kept_words taken after words) ≡ after
  unfolding UnpackingTable kept_words
  back_is true stays same = unpacking_table after (stays refl).eight
  back_is false stays same = sym (same refl)

-- the table of any words has eight slots
sound_in_law : (words : List ℕ) → is_sound (table_in words) ≡ true → Sound (table_in words)
sound_in_law words h = record { sound = h; eight = eight_in words }

-- ---- a fragment

module _ (lid tick : ℕ) (lsdu words store output store' output' : List ℕ) (answer : Result Accepted Refusal) (after : Table)
    (gives : FragmentGives lid tick lsdu (table_in words) store output answer after store' output') where
  after_taken : is_ok answer ≡ true → Sound after
  after_taken h =
      let c = fragment_clear lid tick lsdu (table_in words) store output answer after store' output' gives h in
      fragment_stays lid tick lsdu (table_in words) store output answer after store' output' (sound_in_law words c.sound) c.long gives

  pub fragment_put : (words' : List ℕ) → words' ≡ kept_table (is_ok answer) after words → FragmentPut lid tick lsdu words store output answer words' store' output'
  fragment_put words' e =
      let kept = e ∙ kept_is words after (is_ok answer) (λ h. (fragment_clear lid tick lsdu (table_in words) store output answer after store' output' gives h).sound) in
      let same = fragment_same lid tick lsdu (table_in words) store output answer after store' output' gives in
      let back : table_in words' ≡ after = ap table_in kept ∙ back_is words after (is_ok answer) after_taken same in
      record {
        gives = record { answer_is = gives.answer_is; table_is = back ∙ gives.table_is; store_is = gives.store_is; output_is = gives.output_is };
        words_are = kept ∙ sym (ap (λ (t : Table). kept_words (is_ok answer) t words) back);
      }

module _ (lid tick : ℕ) (lsdu words store output store' output' : List ℕ) {table : Table} (is : table ≡ table_in words) where
  pub fragment_refused : {e : Refusal} → ChangeGives lid tick lsdu table store output (Err e) store' output'
      → FragmentPut lid tick lsdu words store output (Err e) words store' output'
  unfolding kept_table
  fragment_refused {e} g =
      let gives = refused_gives (subst (λ (x : Table). ChangeGives lid tick lsdu x store output (Err e) store' output') is g) in
      fragment_put lid tick lsdu words store output store' output' (Err e) (table_in words) gives words refl

  pub fragment_accepted : {c : Change} {words' : List ℕ} → ChangeGives lid tick lsdu table store output (Ok c) store' output'
      → words' ≡ change_after c.index c.slot words → FragmentPut lid tick lsdu words store output (Ok c.accepted) words' store' output'
  unfolding kept_table change_after
  fragment_accepted {c} {words'} g w =
      let gives = change_gives (subst (λ (x : Table). ChangeGives lid tick lsdu x store output (Ok c) store' output') is g) refl in
      fragment_put lid tick lsdu words store output store' output' (Ok c.accepted) (changed_by (table_in words) c) gives words' w

pub fragment_exported : (lid tick : ℕ) (lsdu words store output : List ℕ) (r : ℕ) (words' store' output' : List ℕ) (answer : Result Accepted Refusal)
    → FragmentPut lid tick lsdu words store output answer words' store' output' → r ≡ fragment_number answer → FragmentExported lid tick lsdu words store output r words' store' output'
fragment_exported lid tick lsdu words store output r words' store' output' answer put n =
    record {
      answer = answer;
      table = table_in words';
      gives = put.gives;
      number_is = n;
      says =
          subst (λ (k : ℕ). FragmentSays k answer) (sym n)
          (fragment_says lid tick lsdu (table_in words) store output answer (table_in words') store' output' put.gives);
      words_are = put.words_are;
      table_back = refl;
    }

-- ---- expiry and release

module _ (words : List ℕ) (r : ℕ) (words' : List ℕ) {table : Table} (answer : Result ℕ Refusal) (after : Table) (is : table ≡ table_in words)
    (put : SweepPut words answer after r words') where
  sweep_exported : SweepFacts (table_in words) answer after → (Sound (table_in words) → Sound after) → SweepExported words answer after r words'
  sweep_exported facts stays =
      let kept = put.words_are ∙ kept_is words after (is_ok answer) facts.clear in
      record {
        number_is = put.number_is;
        says = subst (λ (k : ℕ). SweepSays k answer) (sym put.number_is) facts.says;
        words_are = kept;
        table_back = ap table_in kept ∙ back_is words after (is_ok answer) (λ h. stays (sound_in_law words (facts.clear h))) facts.same;
      }

  pub expiry_exported : (tick limit : ℕ) → ExpiryGives tick limit table answer after → ExpiryExported tick limit words r words'
  expiry_exported tick limit g =
      let gives : ExpiryGives tick limit (table_in words) answer after = subst (λ (x : Table). ExpiryGives tick limit x answer after) is g in
      let facts = expiry_facts (table_in words) (eight_in words) answer after tick limit gives in
      record {
        answer = answer;
        table = after;
        gives = gives;
        exported = sweep_exported facts (λ s. expiry_stays (table_in words) answer after s tick limit gives);
      }

  pub release_exported : (lid : ℕ) → ReleaseGives lid table answer after → ReleaseExported lid words r words'
  release_exported lid g =
      let gives : ReleaseGives lid (table_in words) answer after = subst (λ (x : Table). ReleaseGives lid x answer after) is g in
      let facts = release_facts (table_in words) (eight_in words) answer after lid gives in
      record {
        answer = answer;
        table = after;
        gives = gives;
        exported = sweep_exported facts (λ s. release_stays (table_in words) answer after s lid gives);
      }
