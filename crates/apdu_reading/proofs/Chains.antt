-- Readings put together: one component and what it brings, one after the other.
-- Assumes nothing.
use Prim.Native.Nat.{ℕ}
use mathlib.Core.Path.{◌≡◌, refl, ap, sym, ◌∙◌}
use mathlib.Core.List.{List, [], ◌∷◌, ◌++◌, append_assoc, append-nil}
use mathlib.Core.Bool.{Bool, true, false}
use lib.Dec.{eqb}
use borrow.Author.Tests.{eqb-true, eqb-false}
use Rattle.refusals.specs.Check.{pick}
use Rattle.refusals.proofs.Tests.{by_test, by_cases}
use Rattle.bits.specs.Bits.{bits}
use Rattle.apdu_format.specs.Component.{Component}
use Rattle.apdu_format.specs.Rules.{brings}
use Rattle.apdu_format.specs.Reading.{Value, numbers_of, State, Step, beginning, fault_of, judged, step, runs}
use Rattle.apdu_format.proofs.Runs.{runs_none, runs_append, runs_one, runs_stopped}
use Rattle.apdu_reading.specs.declared.cursor.Cursor.{Cursor}
use Rattle.apdu_reading.specs.Cursor.{cursor, state_of, component, ReadsTo}
use Rattle.apdu_reading.proofs.Pieces.{sees}

-- what a component brings that is read
abbrev pub more : List ℕ → Component → Cursor → List Component
more s i c = pick (eqb (component s i c).fault 0) (brings i (numbers_of (sees s i c))) []

-- a step of the reader is the cursor's component
module _ (s : List ℕ) (i : Component) (c : Cursor) (log : List Value) where
  abbrev Took : Type 0
  Took = step (bits s) i (state_of c log) ≡ record { state = state_of (component s i c) (log ++ (sees s i c ∷ [])); more = more s i c }

  took_judged : (t : Bool) → eqb c.fault 0 ≡ true → eqb (fault_of (bits s) i (state_of c []) (sees s i c)) 0 ≡ t → Took
  unfolding component step judged state_of fault_of beginning
  took_judged true p q = rw (p, q)
  took_judged false p q = rw (p, q, q)

  pub took : Took
  unfolding component step state_of
  took = by_cases (eqb c.fault 0) (λ p. took_judged (eqb (fault_of (bits s) i (state_of c []) (sees s i c)) 0) p refl) (λ p. rw (p, p))

-- what was read matters only where there is no fault
pub state_log : (r : Cursor) (vs ws : List Value) → (r.fault ≡ 0 → vs ≡ ws) → state_of r vs ≡ state_of r ws
unfolding state_of
state_log r vs ws f = by_cases (eqb r.fault 0) (λ p. rw (f (eqb-true _ _ p))) (λ p. rw p)

pub valued : {s : List ℕ} {is : List Component} {c r : Cursor} {vs ws : List Value} → (r.fault ≡ 0 → vs ≡ ws) → ReadsTo s is c r vs → ReadsTo s is c r ws
valued {s} {is} {c} {r} {vs} {ws} f p =
    record { so = λ log. p.so log ∙ state_log r (log ++ vs) (log ++ ws) (λ z. ap (λ (u : List Value). log ++ u) (f z)) }

-- a cursor that differs from d in what it says only
pub record Same (d r : Cursor) : Type 0 where
  pub so : (log : List Value) → state_of d log ≡ state_of r log

pub same_fault : {d r : Cursor} → Same d r → d.fault ≡ r.fault
unfolding state_of
same_fault p = ap (λ (x : State). x.fault) (p.so [])

pub same : (d : Cursor) (value start : ℕ) → Same d (cursor d.at d.begun d.room d.fault d.position value start)
unfolding state_of
same d value start = record { so = λ log. refl }

pub itself : (d : Cursor) → Same d d
itself d = record { so = λ log. refl }

pub nothing : (s : List ℕ) {c r : Cursor} → Same c r → ReadsTo s [] c r []
nothing s {c} {r} p = record { so = λ log. runs_none (bits s) (state_of c log) ∙ p.so log ∙ rw append-nil }

pub then : {s : List ℕ} {is js : List Component} {c d e : Cursor} {vs ws : List Value} → ReadsTo s is c d vs → ReadsTo s js d e ws → ReadsTo s (is ++ js) c e (vs ++ ws)
then {s} {is} {js} {c} {d} {e} {vs} {ws} p q =
    record { so = λ log. runs_append (bits s) is js (state_of c log) ∙ rw (p.so log, ← append_assoc log vs ws) (q.so (log ++ vs)) }

-- with another cursor that says something else
pub saying : {s : List ℕ} {is : List Component} {c d r : Cursor} {vs : List Value} → ReadsTo s is c d vs → Same d r → ReadsTo s is c r vs
saying {s} {is} {c} {d} {r} {vs} p q = record { so = λ log. p.so log ∙ q.so (log ++ vs) }

pub after : {s : List ℕ} {is : List Component} {b c d : Cursor} {vs : List Value} → Same b c → ReadsTo s is c d vs → ReadsTo s is b d vs
after {s} {is} {b} {c} {d} {vs} q p = record { so = λ log. ap (runs (bits s) is) (q.so log) ∙ p.so log }

-- nothing is read behind a fault
pub still : {s : List ℕ} {is : List Component} {d e : Cursor} {vs : List Value} → ReadsTo s is d e vs → (d.fault ≡ 0 → ⊥) → Same d e
unfolding state_of
still {s} {is} {d} {e} {vs} p n =
    let at : (log : List Value) → state_of d log ≡ state_of e (log ++ vs) = λ log. sym (runs_stopped (bits s) is (state_of d log) n) ∙ p.so log in
    let m : e.fault ≡ 0 → ⊥ = λ z. n (ap (λ (x : State). x.fault) (at []) ∙ z) in
    record { so = λ log. at log ∙ state_log e (log ++ vs) log (λ z. absurd (m z)) }

pub clean : {s : List ℕ} {is : List Component} {d e : Cursor} {vs : List Value} → ReadsTo s is d e vs → e.fault ≡ 0 → d.fault ≡ 0
clean {s} {is} {d} {e} {vs} p h =
    by_cases (eqb d.fault 0) (λ q. eqb-true _ _ q) (λ q. same_fault (still p (eqb-false _ _ q)) ∙ h)

halted : (s : List ℕ) (is : List Component) {d r : Cursor} (vs : List Value) → (d.fault ≡ 0 → ⊥) → Same d r → ReadsTo s is d r vs
unfolding state_of
halted s is {d} {r} vs n p =
    record { so = λ log. runs_stopped (bits s) is (state_of d log) n ∙ p.so log ∙ state_log r log (log ++ vs) (λ z. absurd (n (same_fault p ∙ z))) }

-- a component, and what it brings if it is read
pub enter : {s : List ℕ} (i : Component) (c : Cursor) {d r : Cursor} {vs : List Value} → d ≡ component s i c
    → (d.fault ≡ 0 → ReadsTo s (brings i (numbers_of (sees s i c))) d r vs) → ((d.fault ≡ 0 → ⊥) → Same d r) → ReadsTo s (i ∷ []) c r (sees s i c ∷ vs)
enter {s} i c {d} {r} {vs} e f g =
    let inner : ReadsTo s (more s i c) d r vs =
    rw (← e)
    (by_test (λ (is : List Component). ReadsTo s is d r vs) (eqb d.fault 0) (λ p. f (eqb-true _ _ p)) (λ p. halted s [] vs (eqb-false _ _ p) (g (eqb-false _ _ p)))) in
    record {
      so = λ log.
          runs_one (bits s) i (state_of c log)
          ∙ ap (λ (t : Step). runs (bits s) t.more t.state) (took s i c log)
          ∙ ap (λ (x : Cursor). runs (bits s) (more s i c) (state_of x (log ++ (sees s i c ∷ [])))) (sym e)
          ∙ inner.so (log ++ (sees s i c ∷ [])) ∙ ap (state_of r) (append_assoc log (sees s i c ∷ []) vs);
    }

-- a component that brings nothing
pub alone : (s : List ℕ) (i : Component) (c : Cursor) {d : Cursor} → d ≡ component s i c → brings i (numbers_of (sees s i c)) ≡ [] → ReadsTo s (i ∷ []) c d (sees s i c ∷ [])
alone s i c {d} e n = enter i c e (λ h. rw n (nothing s (itself d))) (λ h. itself d)
