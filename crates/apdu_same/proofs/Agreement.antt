-- Values that agree, piece by piece: what is compared stops at the first piece that differs.
-- Assumes nothing.
use Prim.Native.Nat.{ℕ}
use mathlib.Core.Path.{◌≡◌, refl, sym, ◌∙◌}
use mathlib.Core.List.{List, [], ◌∷◌, ◌++◌, append_assoc}
use mathlib.Core.Bool.{Bool, true, false, ◌&&◌, not}
use lib.Dec.{eqb}
use borrow.Author.Tests.{not-true, not-false}
use Rattle.refusals.specs.Check.{pick}
use Rattle.bits.specs.Strings.{same_octets as same_numbers}
use Rattle.apdu_format.specs.Reading.{Value, fields}
use Rattle.apdu_format.proofs.Tests.{never, both}
use Rattle.apdu.specs.Values.{bit_of, num, if}
use Rattle.apdu.proofs.Laws.{and_unit}
use Rattle.apdu_same.specs.Comparison.{same_value, same_message}
use Rattle.apdu_same.specs.Walk.{same_if, Agree, Compares}

-- ---- one behind the other

pub agree_none : Agree [] [] true
agree_none = record { so = λ us' vs'. refl }

pub agree_as : {us vs : List Value} {r r' : Bool} → r ≡ r' → Agree us vs r → Agree us vs r'
agree_as e a = rw (← e) a

pub agree_one : (u v : Value) → Agree (u ∷ []) (v ∷ []) (same_value u v)
unfolding same_message
agree_one u v = record { so = λ us' vs'. refl }

pub agree_then : {us vs us' vs' : List Value} {r r' : Bool} → Agree us vs r → (r ≡ true → Agree us' vs' r') → Agree (us ++ us') (vs ++ vs') (r && r')
agree_then {us} {vs} {us'} {vs'} {r = true} a b =
    record { so = λ xs ys. rw (append_assoc us us' xs, append_assoc vs vs' ys) (a.so (us' ++ xs) (vs' ++ ys) ∙ (b refl).so xs ys) }
agree_then {us} {vs} {us'} {vs'} {r = false} a b = record { so = λ xs ys. rw (append_assoc us us' xs, append_assoc vs vs' ys) (a.so (us' ++ xs) (vs' ++ ys)) }

pub agree_field : (n m : ℕ) → Agree (fields (n ∷ []) ∷ []) (fields (m ∷ []) ∷ []) (eqb n m)
unfolding same_value same_numbers
agree_field n m = rw (← and_unit (eqb n m)) (agree_one (fields (n ∷ [])) (fields (m ∷ [])))

pub agree_number : (n m : ℕ) → Agree (num n ∷ []) (num m ∷ []) (eqb n m)
unfolding same_value same_numbers
agree_number n m = rw (← and_unit (eqb n m)) (agree_one (num n) (num m))

-- ---- a walk: from b, whether all before agrees, to r

pub record Steps (b : Bool) (us vs : List Value) (r : Bool) : Type 0 where
  pub so : b ≡ true → Agree us vs r
  pub stop : b ≡ false → r ≡ false

pub begin : {us vs : List Value} {r : Bool} → Agree us vs r → Steps true us vs r
begin a = record { so = λ e. a; stop = λ e. never (sym e) }

pub step : (b : Bool) {us vs : List Value} {x : Bool} → Agree us vs x → Steps b us vs (b && x)
step b a = record { so = λ e. rw e a; stop = λ e. rw e }

pub done : (b : Bool) → Steps b [] [] b
done b = record { so = λ e. rw e agree_none; stop = λ e. e }

pub then : {us vs us' vs' : List Value} {b r r' : Bool} → Steps b us vs r → Steps r us' vs' r' → Steps b (us ++ us') (vs ++ vs') r'
then {r = true} p q = record { so = λ e. agree_then (p.so e) (λ f. q.so refl); stop = λ e. q.stop (p.stop e) }
then {us' = us'} {vs' = vs'} {r = false} {r' = r'} p q =
    record { so = λ e. rw (q.stop refl) (agree_then {us' = us'} {vs' = vs'} {r' = false} (p.so e) (λ f. never f)); stop = λ e. q.stop (p.stop e) }

-- what is there in both or in neither
there_if : {p q x r : Bool} {us vs : List Value} → p ≡ q → r ≡ pick p x true → (p ≡ true → Agree us vs x) → Agree (if p us) (if q vs) r
there_if {p = true} k e a = rw (← k, e) (a refl)
there_if {p = false} k e a = rw (← k, e) agree_none

pub step_if : {p q b x r : Bool} {us vs : List Value} → (b ≡ true → p ≡ q) → r ≡ same_if b p x → (b ≡ true → p ≡ true → Agree us vs x) → Steps b (if p us) (if q vs) r
unfolding same_if
step_if {b = true} k e a = begin (there_if (k refl) e (a refl))
step_if {b = false} k e a = record { so = λ f. never f; stop = λ f. e }

-- all before agrees where all does
pub before : (b p x : Bool) → same_if b p x ≡ true → b ≡ true
unfolding same_if
before b p x e = (both b (pick p x true) e).0

-- what is there has the soundness that is asked of it
pub given : (p x : Bool) → p ≡ true → pick p x true ≡ true → x ≡ true
given p x e h = rw e at h

-- ---- leading parts

pub record Lead (fs gs : List ℕ) (r : Bool) : Type 0 where
  pub is : r ≡ same_numbers fs gs

pub lead_last : (n m : ℕ) {r : Bool} → r ≡ eqb n m → Lead (n ∷ []) (m ∷ []) r
unfolding same_numbers
lead_last n m e = record { is = e ∙ sym (and_unit (eqb n m)) }

pub lead_more : {n m : ℕ} {fs gs : List ℕ} {r r' : Bool} → r ≡ eqb n m → Lead fs gs r' → Lead (n ∷ fs) (m ∷ gs) (r && r')
unfolding same_numbers
lead_more e l = record { is = rw (e, l.is) }

module _ {fs gs : List ℕ} {r : Bool} (l : Lead fs gs r) where
  pub lead_agrees : Agree (fields fs ∷ []) (fields gs ∷ []) r
  unfolding same_value
  lead_agrees = rw l.is (agree_one (fields fs) (fields gs))

  -- the rest decides, or nothing that follows matters
  pub led : {us vs : List Value} {x : Bool} → not r ≡ false → Steps true us vs x → Agree ((fields fs ∷ []) ++ us) ((fields gs ∷ []) ++ vs) x
  led h p = (then {b = true} (begin (rw (not-false r h) at lead_agrees)) p).so refl

  pub lead_other : (us vs : List Value) → not r ≡ true → Agree ((fields fs ∷ []) ++ us) ((fields gs ∷ []) ++ vs) false
  lead_other us vs h = agree_then {us' = us} {vs' = vs} {r' = false} (rw (not-true r h) at lead_agrees) (λ f. never f)

  pub lead_true : not r ≡ false → same_numbers fs gs ≡ true
  lead_true h = sym l.is ∙ not-false r h

-- bits that agree in a leading part
pub bits_same : (p q : Bool) → eqb (bit_of p) (bit_of q) ≡ true → p ≡ q
bits_same true true e = refl
bits_same true false e = never e
bits_same false true e = never e
bits_same false false e = refl

pub flag_first : (p q : Bool) (fs gs : List ℕ) → same_numbers (bit_of p ∷ fs) (bit_of q ∷ gs) ≡ true → (p ≡ q) × (same_numbers fs gs ≡ true)
unfolding same_numbers
flag_first p q fs gs e = let h = both (eqb (bit_of p) (bit_of q)) (same_numbers fs gs) e in (bits_same p q h.0, h.1)

pub flags_2 : (p q p' q' : Bool) (fs gs : List ℕ) → same_numbers (bit_of p ∷ bit_of q ∷ fs) (bit_of p' ∷ bit_of q' ∷ gs) ≡ true → (p ≡ p') × (q ≡ q')
flags_2 p q p' q' fs gs e =
    let h = flag_first p p' (bit_of q ∷ fs) (bit_of q' ∷ gs) e in
    (h.0, (flag_first q q' fs gs h.1).0)

pub flags_3 : (p q r p' q' r' : Bool) (fs gs : List ℕ) → same_numbers (bit_of p ∷ bit_of q ∷ bit_of r ∷ fs) (bit_of p' ∷ bit_of q' ∷ bit_of r' ∷ gs) ≡ true
    → (p ≡ p') × (q ≡ q') × (r ≡ r')
flags_3 p q r p' q' r' fs gs e =
    let h = flag_first p p' (bit_of q ∷ bit_of r ∷ fs) (bit_of q' ∷ bit_of r' ∷ gs) e in
    let k = flag_first q q' (bit_of r ∷ fs) (bit_of r' ∷ gs) h.1 in
    (h.0, k.0, (flag_first r r' fs gs k.1).0)

-- a kind of message whose leading parts differ
pub other : {f g l : Bool} {fs gs : List ℕ} {us vs : List Value} → Lead fs gs l → not l ≡ true → Compares f g ((fields fs ∷ []) ++ us) ((fields gs ∷ []) ++ vs) false
other {us = us} {vs = vs} l h = record { so = λ x y. lead_other l us vs h }
