-- When two messages are the same (01, "Messages"): their fields agree, and the octets of their strings, at whatever places; and what comparing two records
-- answers. Absent fields and unused rows are no values of a record (specs/Values.antt of apdu): they are passed over. SameExactly and SameRecords say that
-- this is what the round trips call the same (specs/RoundTrip.antt of apdu_format): `same` cites both, and proofs/Sameness.antt proves them.
-- Assumes nothing.
use Rattle.std.specs.Prelude.{ℕ, ◌≡◌, Result, Ok, Err, List, [], ◌∷◌, Bool, true, false, ◌&&◌, ◌||◌, not}
use Rattle.refusals.specs.Check.{check, first_of, Answer, decided}
use Rattle.refusals.specs.declared.Refusal.{Refusal}
use Rattle.refusals.specs.Refusal.{answer_of}
use Rattle.bits.specs.Strings.{same_octets as same_numbers}
use Rattle.apdu_format.specs.Reading.{Value, fields, string}
use Rattle.apdu_format.specs.RoundTrip.{Same}
use Rattle.apdu.specs.declared.lists.Row.{Row}
use Rattle.apdu.specs.declared.lists.Entry.{Entry}
use Rattle.apdu.specs.declared.records.Message.{Message}
use Rattle.apdu.specs.Values.{values_of}
use Rattle.apdu.specs.Sound.{well_formed}

-- the fields of a component agree, or a string's bits, wherever it stands
unfoldable pub same_value : Value → Value → Bool
same_value (fields fs) (fields gs) = same_numbers fs gs
same_value (fields fs) (string at l) = false
same_value (string at l) (fields gs) = false
same_value (string at l) (string from m) = same_numbers l m

unfoldable pub same_message : List Value → List Value → Bool
same_message [] [] = true
same_message [] (v ∷ vs) = false
same_message (u ∷ us) [] = false
same_message (u ∷ us) (v ∷ vs) = same_value u v && same_message us vs

-- 23 if either record breaks its condition, else whether they agree
unfoldable pub same_answer : List ℕ → Message → List Entry → List Row → List ℕ → Message → List Entry → List Row → Answer Bool
same_answer s a es rs t b fs ws =
    decided (first_of (check 23 (not (well_formed s a es rs) || not (well_formed t b fs ws)) ∷ [])) (same_message (values_of s a es rs) (values_of t b fs ws))

-- ---- the statements

-- two messages compare as the same exactly when all their values agree
unfoldable pub SameExactly : Type 0
SameExactly = (us vs : List Value) → (same_message us vs ≡ true → Same us vs) × (Same us vs → same_message us vs ≡ true)

-- what an answer says of two records with the values us and vs; kept tells whether both keep the condition of 23
unfoldable pub Means : Result Bool Refusal → (kept : Bool) → List Value → List Value → Type 0
Means (Ok true) kept us vs = (kept ≡ true) × Same us vs
Means (Ok false) kept us vs = (kept ≡ true) × (Same us vs → ⊥)
Means (Err refusal) kept us vs = kept ≡ false

unfoldable pub SameRecords : Type 0
SameRecords =
    (s : List ℕ) (a : Message) (es : List Entry) (rs : List Row) (t : List ℕ) (b : Message) (fs : List Entry) (ws : List Row) (r : Result Bool Refusal)
    → answer_of r ≡ same_answer s a es rs t b fs ws
    → Means r (well_formed s a es rs && well_formed t b fs ws) (values_of s a es rs) (values_of t b fs ws)
