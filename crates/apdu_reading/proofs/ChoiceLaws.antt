-- The choice of a message, and what its kind brings.
-- Assumes nothing.
use Prim.Native.Nat.{ℕ, ◌≤◌, ◌<◌}
use mathlib.Core.Path.{◌≡◌, ap, sym, ◌∙◌}
use mathlib.Core.List.{List, [], ◌∷◌}
use native.Mathlib.Omega.{arith}
use lib.ListN.{length, drop, replicate}
use lib.Dec.{leb}
use borrow.Author.Tests.{leb-false}
use Rattle.refusals.proofs.Tests.{first_none}
use Rattle.bits.specs.Bits.{bits, number}
use Rattle.apdu_format.specs.Component.{choice, lead}
use Rattle.apdu_format.specs.Table.{table, layout_of}
use Rattle.apdu_format.specs.Rules.{shape, begins, checks_of, brings, announced}
use Rattle.apdu_format.specs.Reading.{Value, fields, numbers_of, sum, need, fields_of, value_at, State, Step, beginning, fault_of, judged, step, runs}
use Rattle.apdu_format.proofs.Runs.{runs_one}
use Rattle.apdu.specs.declared.lists.Entry.{Entry}
use Rattle.apdu.specs.Values.{empty_entry}
use Rattle.apdu.specs.Tidy.{EntriesTidy}
use Rattle.apdu_reading.specs.declared.cursor.Cursor.{Cursor}
use Rattle.apdu_reading.specs.Cursor.{cursor, state_of, ReadsTo}
use Rattle.apdu_reading.specs.Messages.{Begun}
use Rattle.apdu_reading.specs.Answers.{first, Chosen}
use Rattle.apdu_reading.proofs.Pieces.{sees, Good, good, fine}
use Rattle.apdu_reading.proofs.Chains.{still, enter}
use Rattle.apdu_reading.proofs.Strings.{fault_of_law, piece_number}
use Rattle.apdu_reading.proofs.ListLaws.{empty_entry_law}

module _ (s : List ℕ) (c : Cursor) (h : Chosen s c) where
  choice_good : Good s choice first
  choice_good = good s choice first (fault_of_law h.is h.clean)

  choice_fine : c ≡ cursor 4 0 32 0 0 (number 4 (drop 0 (bits s))) 0
  unfolding shape need sum begins announced
  choice_fine =
      let g = choice_good in
      h.is ∙ fine s choice first g.clean g.there g.right ∙ rw (piece_number s 0 4 (omega arith))

  pub begun : Begun c
  begun = record { at = ap (λ (q : Cursor). q.at) choice_fine; room = ap (λ (q : Cursor). q.room) choice_fine }

  choice_saw : sees s choice first ≡ fields (c.value ∷ [])
  unfolding shape value_at fields_of
  choice_saw = ap (λ (n : ℕ). fields (n ∷ [])) (sym (ap (λ (q : Cursor). q.value) choice_fine))

  pub choice_lt : c.value < 10
  unfolding checks_of numbers_of
  choice_lt =
      let g = rw choice_saw at choice_good.right in
      leb-false _ _ (first_none 14 (leb (length table) c.value) [] g).0

  pub chosen : (k : ℕ) → c.value ≡ k → {r : Cursor} {vs : List Value} → ReadsTo s (lead k ∷ []) c r vs → ReadsTo s (choice ∷ []) first r (fields (k ∷ []) ∷ vs)
  unfolding brings numbers_of
  chosen k e {r} {vs} p =
      let saw : sees s choice first ≡ fields (k ∷ []) = choice_saw ∙ ap (λ (n : ℕ). fields (n ∷ [])) e in
      rw (← saw) (enter choice first h.is (λ g. rw saw p) (λ g. still p g))

-- two choices with the same line
pub lead_as : (s : List ℕ) (j k : ℕ) (c : Cursor) {r : Cursor} {vs : List Value} → layout_of j ≡ layout_of k → ReadsTo s (lead j ∷ []) c r vs → ReadsTo s (lead k ∷ []) c r vs
lead_as s j k c {r} {vs} e p =
    record { so = λ log. runs_one (bits s) (lead k) (state_of c log) ∙ ap (λ (t : Step). runs (bits s) t.more t.state) (sym (same_step (state_of c log))) ∙ sym (runs_one (bits s) (lead j) (state_of c log)) ∙ p.so log }
  where
    same_step : (d : State) → step (bits s) (lead j) d ≡ step (bits s) (lead k) d
    same_step d = unfold step judged fault_of shape begins checks_of brings announced beginning in rw e

-- ---- lists of which nothing is used

pub no_entries_tidy : {es : List Entry} → es ≡ replicate 32 empty_entry → EntriesTidy 0 es
no_entries_tidy e = rw e (record { rest = λ j w. empty_entry_law 32 j })

pub nine : {n : ℕ} → n < 10 → 8 ≤ n → (n ≡ 8 → ⊥) → n ≡ 9
nine h k a = omega (arith, a)
