-- How what is written follows one another, without counting levels.
-- Assumes nothing.
use Prim.Native.Nat.{ℕ, zero, suc, ◌-◌, ◌≤◌}
use mathlib.Core.Path.{◌≡◌, refl, ap, sym, ◌∙◌}
use mathlib.Core.List.{List, [], ◌∷◌, ◌++◌}
use mathlib.Core.Bool.{true, false}
use native.Mathlib.Omega.{arith}
use lib.Dec.{eqb}
use borrow.Author.Tests.{eqb-true}
use Rattle.refusals.specs.Check.{first_of}
use Rattle.refusals.proofs.Tests.{by_test}
use Rattle.apdu_format.specs.Component.{Component}
use Rattle.apdu_format.specs.Rules.{shape, checks_of, brings, announced}
use Rattle.apdu_format.specs.Reading.{Value, numbers_of, through, levels}
use Rattle.apdu_format.specs.Writing.{fits, is_value, bits_of, Pen, PenStep, broken, put_value, put_first, put, puts}
use Rattle.apdu_format.proofs.Tests.{both}
use Rattle.apdu_format.proofs.Levels.{height, height_pos, height_most, Low, brings_low}
use Rattle.apdu_writing.specs.Quill.{pen_at, writes}

low_all : (l : ℕ) → 14 ≤ l → (is : List Component) → Low l is
low_all l h [] = tt
low_all l h (i ∷ is) = (omega (arith, height_most i), low_all l h is)

through_append : {S : Type 0} (f : Component → S → S) (is js : List Component) (d : S) → through f (is ++ js) d ≡ through f js (through f is d)
unfolding through
through_append f [] js d = refl
through_append f (i ∷ is) js d = through_append f is js (f i d)

-- what is put brings only lower components
value_low : (l : ℕ) (i : Component) (p : Pen) (v : Value) (vs : List Value) → height i ≤ suc l → Low l (put_value i p v vs).more
unfolding put_value is_value
value_low l i p v vs h =
    by_test (λ (t : PenStep). Low l t.more) (is_value i p.room v)
    (λ q. brings_low i p.room (numbers_of v) l h (eqb-true _ _ (both (fits (shape i) v) (eqb (first_of (checks_of i p.room (numbers_of v))) 0) q).1))
    (λ q. tt)

first_low : (l : ℕ) (i : Component) (p : Pen) (vs : List Value) → height i ≤ suc l → Low l (put_first i p vs).more
unfolding put_first
first_low l i p [] h = tt
first_low l i p (v ∷ vs) h = value_low l i p v vs h

put_low : (l : ℕ) (i : Component) (p : Pen) → height i ≤ suc l → Low l (put i p).more
unfolding put
put_low l i p h = by_test (λ (t : PenStep). Low l t.more) p.ok (λ q. first_low l i p p.left h) (λ q. tt)

puts_nil : (l : ℕ) (p : Pen) → puts l [] p ≡ p
unfolding puts through
puts_nil zero p = refl
puts_nil (suc l) p = refl

abbrev Levels : ℕ → ℕ → Type 0
Levels l k = (is : List Component) (p : Pen) → Low l is → Low k is → puts l is p ≡ puts k is p

next_levels : (l k : ℕ) → Levels l k → Levels (suc l) (suc k)
unfolding puts through
next_levels l k ih [] p a b = refl
next_levels l k ih (i ∷ is) p a b =
    let t = put i p in
    let e = ih t.more t.pen (put_low l i p a.0) (put_low k i p b.0) in
    rw e (next_levels l k ih is (puts k t.more t.pen) a.1 b.1)

puts_levels : (l k : ℕ) → Levels l k
puts_levels zero k [] p a b = puts_nil zero p ∙ sym (puts_nil k p)
puts_levels zero k (i ∷ is) p a b = absurd (omega (arith, height_pos i, a.0))
puts_levels (suc l) zero [] p a b = puts_nil (suc l) p ∙ sym (puts_nil zero p)
puts_levels (suc l) zero (i ∷ is) p a b = absurd (omega (arith, height_pos i, b.0))
puts_levels (suc l) (suc k) is p a b = next_levels l k (puts_levels l k) is p a b

-- ---- components in a row

pub writes_none : (p : Pen) → writes [] p ≡ p
unfolding writes
writes_none p = puts_nil levels p

pub writes_append : (is js : List Component) (p : Pen) → writes (is ++ js) p ≡ writes js (writes is p)
unfolding writes puts
writes_append is js p = through_append (λ i p. let t = put i p in puts 15 t.more t.pen) is js p

pub writes_one : (i : Component) (p : Pen) → writes (i ∷ []) p ≡ writes (put i p).more (put i p).pen
unfolding writes
writes_one i p =
    let t = put i p in
    one ∙ puts_levels 15 levels t.more t.pen (low_all 15 (omega arith) t.more) (low_all levels (omega arith) t.more)
  where
    one : puts levels (i ∷ []) p ≡ puts 15 (put i p).more (put i p).pen
    one = unfold puts through in refl

-- nothing is written behind a value that is out of range
pub writes_dead : (is : List Component) (p : Pen) → p.ok ≡ false → (writes is p).ok ≡ false
writes_dead [] p h = ap (λ (q : Pen). q.ok) (writes_none p) ∙ h
writes_dead (i ∷ is) p h =
    ap (λ (q : Pen). q.ok) (writes_append (i ∷ []) is p)
    ∙ writes_dead is (writes (i ∷ []) p)
    (ap (λ (q : Pen). q.ok) (writes_one i p ∙ ap (λ (t : PenStep). writes t.more t.pen) (stopped i p h) ∙ writes_none broken.pen))
  where
    stopped : (i : Component) (p : Pen) → p.ok ≡ false → put i p ≡ broken
    stopped i p h = unfold put in rw h

module _ (i : Component) (room : ℕ) (v : Value) (rest : List Value) (b : List ℕ) where
  put_fine : is_value i room v ≡ true
      → put i (pen_at (v ∷ rest) room b) ≡ record { pen = pen_at rest (room - announced i (numbers_of v)) (b ++ bits_of (shape i) v); more = brings i (numbers_of v) }
  unfolding put put_first put_value
  put_fine h = rw h

  put_wrong : is_value i room v ≡ false → put i (pen_at (v ∷ rest) room b) ≡ broken
  unfolding put put_first put_value
  put_wrong h = rw h

  -- a value in range is written, and what it brings comes next
  pub writes_fine : is_value i room v ≡ true
      → writes (i ∷ []) (pen_at (v ∷ rest) room b) ≡ writes (brings i (numbers_of v)) (pen_at rest (room - announced i (numbers_of v)) (b ++ bits_of (shape i) v))
  writes_fine h = writes_one i (pen_at (v ∷ rest) room b) ∙ ap (λ (t : PenStep). writes t.more t.pen) (put_fine h)

  pub writes_wrong : is_value i room v ≡ false → (writes (i ∷ []) (pen_at (v ∷ rest) room b)).ok ≡ false
  writes_wrong h =
      ap (λ (q : Pen). q.ok) (writes_one i (pen_at (v ∷ rest) room b) ∙ ap (λ (t : PenStep). writes t.more t.pen) (put_wrong h) ∙ writes_none broken.pen)
