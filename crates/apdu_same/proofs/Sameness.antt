-- Two messages compare as the same exactly when the round trips call them the same (specs/RoundTrip.antt of apdu_format), and so do two records.
-- Assumes nothing.
use mathlib.Core.Path.{◌≡◌, refl, ap}
use mathlib.Core.List.{List, [], ◌∷◌}
use mathlib.Core.Bool.{Bool, true, false, ◌&&◌, ◌||◌, not}
use Rattle.refusals.specs.Check.{check, first_of, decided}
use Rattle.refusals.proofs.Tests.{and_true}
use Rattle.apdu_format.specs.Reading.{Value, fields, string}
use Rattle.apdu_format.specs.RoundTrip.{unplaced, Same}
use Rattle.apdu_format.proofs.Tests.{never, both}
use Rattle.apdu.specs.Values.{values_of}
use Rattle.apdu.specs.Sound.{well_formed}
use Rattle.std.specs.Prelude.{Result, Ok, Err}
use Rattle.refusals.specs.declared.Refusal.{Refusal}
use Rattle.refusals.specs.Refusal.{answer_of}
use Rattle.apdu_same.specs.Comparison.{same_value, same_message, same_answer, SameExactly, Means, SameRecords}
use Rattle.apdu_same.proofs.Leaves.{same_eq, eq_same}

value_same : (u v : Value) → same_value u v ≡ true → unplaced u ≡ unplaced v
unfolding same_value unplaced
value_same (fields fs) (fields gs) e = ap fields (same_eq fs gs e)
value_same (fields fs) (string at l) e = never e
value_same (string at l) (fields gs) e = never e
value_same (string at l) (string from m) e = ap (string 0) (same_eq l m e)

same_value_law : (u v : Value) → unplaced u ≡ unplaced v → same_value u v ≡ true
unfolding same_value unplaced
same_value_law (fields fs) (fields gs) e = eq_same fs gs (cc)
same_value_law (fields fs) (string at l) e = cc
same_value_law (string at l) (fields gs) e = cc
same_value_law (string at l) (string from m) e = eq_same l m (cc)

message_same : (us vs : List Value) → same_message us vs ≡ true → Same us vs
unfolding same_message
message_same [] [] e = record { so = refl }
message_same [] (v ∷ vs) e = never e
message_same (u ∷ us) [] e = never e
message_same (u ∷ us) (v ∷ vs) e =
    let h = both (same_value u v) (same_message us vs) e in
    let k = value_same u v h.0 in
    let j = (message_same us vs h.1).so in
    record { so = cc }

same_message_law : (us vs : List Value) → Same us vs → same_message us vs ≡ true
unfolding same_message
same_message_law [] [] e = refl
same_message_law [] (v ∷ vs) e = let z = e.so in cc
same_message_law (u ∷ us) [] e = let z = e.so in cc
same_message_law (u ∷ us) (v ∷ vs) e =
    let z = e.so in and_true (same_value_law u v (cc)) (same_message_law us vs (record { so = cc }))

pub same_exactly : SameExactly
unfolding SameExactly
same_exactly us vs = (message_same us vs, same_message_law us vs)

-- ---- two records

-- an answer by whether each record keeps the condition of 23, and what comparing their values says
means : (r : Result Bool Refusal) (p q : Bool) (us vs : List Value) → answer_of r ≡ decided (first_of (check 23 (not p || not q) ∷ [])) (same_message us vs) → Means r (p && q) us vs
unfolding decided first_of Means
means (Err r) true true us vs e = cc
means (Err r) true false us vs e = refl
means (Err r) false q us vs e = refl
means (Ok true) true true us vs e = (refl, message_same us vs (cc))
means (Ok true) true false us vs e = never (cc)
means (Ok true) false q us vs e = never (cc)
means (Ok false) true true us vs e = (refl, λ h. never (cc (same_message_law us vs h)))
means (Ok false) true false us vs e = never (cc)
means (Ok false) false q us vs e = never (cc)

pub same_records : SameRecords
unfolding SameRecords same_answer
same_records s a es rs t b fs ws r e = means r (well_formed s a es rs) (well_formed t b fs ws) (values_of s a es rs) (values_of t b fs ws) e
