-- What holds of every refusal, of every reply that leaves the writable area, and of a SET holds of every call.
-- Assumes nothing.
use Prim.Native.Nat.{ℕ}
use mathlib.Core.Path.{◌≡◌, refl}
use mathlib.Core.Bool.{true, not}
use mathlib.Core.List.{List, [], ◌∷◌}
use lib.Dec.{eqb, ltb}
use lib.ListN.{length}
use Rattle.refusals.specs.Check.{check, first_of}
use Rattle.refusals.proofs.Tests.{by_test}
use Rattle.apdu.specs.declared.records.Message.{Message}
use Rattle.apdu.specs.declared.records.Message.TheVariants as kind
use Rattle.apdu.specs.declared.records.SetRequest.{SetRequest}
use Rattle.apdu.specs.declared.records.GetRequest.{GetRequest}
use Rattle.apdu_reading.specs.declared.front.Answer.{Answer}
use Rattle.apdu_reading.specs.declared.front.Answer.TheVariants as answer
use Rattle.apdu_reading.specs.declared.front.Reading.{Reading}
use Rattle.directory.specs.Directory.{sound_directory}
use Rattle.attributes.specs.Serving.{least_output, Tag, Reply, Effect, effect, refused, refused_at, sent, too_long, get_status, get_reply, getting, setting, served, carried, by_reading, requested}

-- 1 and 26, which come before reading
abbrev pub first_check : Tag → List ℕ → ℕ
first_check tag out =
    first_of (check 1 (ltb (length out) least_output) ∷ check 26 (not (sound_directory (length tag.factory) (length tag.writable) tag.directory)) ∷ [])

module _ (tag : Tag) (s out : List ℕ) where
  module _ (P : Effect → Type 0) (sends : (q : Reply) → P (sent q tag.writable out)) where
    pub get_case : (m : GetRequest) → P (getting tag s m out)
    unfolding getting
    get_case m =
        by_test P (eqb (get_status tag s m) 0)
        (λ t. by_test P (too_long (sent (get_reply tag s m) tag.writable out).outcome) (λ u. sends _) (λ u. sends _))
        (λ t. sends _)

    module _ (gives : (k : ℕ) → P (effect (refused k) tag.writable out)) (Gives-at : (k p : ℕ) → P (effect (refused_at k p) tag.writable out)) (r : Reading)
        (sets : eqb (first_check tag out) 0 ≡ true → (m : SetRequest) → r.answer ≡ answer.Message (kind.SetRequest m) → P (setting tag s m r.lists.rows out)) where
      carried_case : eqb (first_check tag out) 0 ≡ true → (m : Message) → r.answer ≡ answer.Message m → P (carried tag s m r.lists.rows out)
      unfolding carried
      carried_case z (kind.ActionRequest m) e = sends _
      carried_case z (kind.ActionResponse m) e = gives 24
      carried_case z (kind.EventRequest m) e = gives 24
      carried_case z (kind.EventResponse m) e = gives 24
      carried_case z (kind.SetRequest m) e = sets z m e
      carried_case z (kind.SetResponse m) e = gives 24
      carried_case z (kind.GetRequest m) e = get_case m
      carried_case z (kind.GetResponse m) e = gives 24
      carried_case z (kind.Bst m) e = gives 24
      carried_case z (kind.Vst m) e = gives 24

      answer_case : eqb (first_check tag out) 0 ≡ true → (a : Answer) → r.answer ≡ a → P (by_reading tag s a r.lists.rows out)
      unfolding by_reading
      answer_case z (answer.Refused k p) e = Gives-at k p
      answer_case z (answer.Message m) e = by_test P (served m) (λ t. carried_case z m e) (λ t. gives 24)

      pub by_request : P (requested tag s r out)
      unfolding requested
      by_request = by_test P (eqb (first_check tag out) 0) (λ t. answer_case t r.answer refl) (λ t. gives (first_check tag out))
