-- The ways out of `same`.
-- Assumes nothing.
use Prim.Native.Nat.{ℕ}
use mathlib.Core.Path.{◌≡◌, ap, sym, ◌∙◌}
use mathlib.Core.List.{List, [], ◌++◌, append-nil}
use mathlib.Core.Bool.{Bool, true, false}
use lib.ListN.{length}
use Rattle.refusals.specs.Check.{first_of, refused, accepted, decided}
use Rattle.apdu_format.specs.Reading.{Value}
use Rattle.apdu.specs.declared.lists.Row.{Row}
use Rattle.apdu.specs.declared.lists.Entry.{Entry}
use Rattle.apdu.specs.declared.records.Message.{Message}
use Rattle.apdu.specs.Values.{values_of}
use Rattle.apdu.specs.Sound.{sound, well_formed}
use Rattle.apdu.proofs.Laws.{and_unit}
use Rattle.apdu.proofs.Formed.{formed_sound}
use Rattle.apdu_same.specs.Comparison.{same_message, same_answer}
use Rattle.apdu_same.specs.Walk.{Agree, Compares}

module _ (s : List ℕ) (a : Message) (es : List Entry) (vs : List Row) (t : List ℕ) (b : Message) (fs : List Entry) (ws : List Row) where
  module _ {p : Bool} (e : p ≡ well_formed s a es vs) where
    pub first_broken : p ≡ false → refused 23 ≡ same_answer s a es vs t b fs ws
    unfolding same_answer first_of decided
    first_broken h = rw (← e, h)

    module _ {q : Bool} (f : q ≡ well_formed t b fs ws) (h : p ≡ true) where
      pub second_broken : q ≡ false → refused 23 ≡ same_answer s a es vs t b fs ws
      unfolding same_answer first_of decided
      second_broken k = rw (← e, h, ← f, k)

      pub compared : {r : Bool} → q ≡ true → Compares (sound (length s) a es vs) (sound (length t) b fs ws) (values_of s a es vs) (values_of t b fs ws) r
          → accepted r ≡ same_answer s a es vs t b fs ws
      unfolding same_answer first_of decided
      compared {r} k c =
          rw (← e, h, ← f, k)
          (ap accepted (sym (alone (values_of s a es vs) (values_of t b fs ws) (c.so (formed_sound s a es vs (sym e ∙ h)) (formed_sound t b fs ws (sym f ∙ k))))))
        where
          alone : (us vs : List Value) → Agree us vs r → same_message us vs ≡ r
          alone us vs x =
              ap (λ (l : List Value). same_message l vs) (sym (append-nil us)) ∙ ap (same_message (us ++ [])) (sym (append-nil vs)) ∙ x.so [] []
              ∙ (unfold same_message in and_unit r)
