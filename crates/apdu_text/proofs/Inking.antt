-- Laws of the pen: texts one behind the other, and when a measured text has room.
-- Assumes nothing.
use Prim.Native.Nat.{ℕ, suc, ◌+◌, ◌-◌, ◌≤◌, ◌<◌, min}
use mathlib.Core.Path.{◌≡◌, refl, ap, sym, ◌∙◌}
use mathlib.Core.Bool.{Bool, true, false}
use mathlib.Core.List.{List, [], ◌∷◌, ◌++◌, append_assoc}
use native.Mathlib.Omega.{arith}
use native.Mathlib.Numerals.{add-one}
use lib.Dec.{ltb}
use lib.ListN.{length, take, drop, set, length-set, drop_of_length-le}
use lib.Seq.{sets, set_out, sets-eq, length-take-le, take_all}
use borrow.Rule.Slice.PartMut.{put_mid}
use Rattle.std.proofs.lemmas.Slice.{put_mid-paste}
use Rattle.std.proofs.lemmas.List.{take-append-drop}
use borrow.Author.Tests.{lt-ltb, le-ltb, lt-leb, le-leb}
use Rattle.refusals.specs.Check.{accepted, refused}
use Rattle.refusals.proofs.Tests.{by_test, by_cases}
use Rattle.bench_lines.specs.Text.{written, has_room, append_text, output_after}
use Rattle.apdu_text.specs.Parts.{when}
use Rattle.apdu_text.specs.Ink.{farthest, next, place_after, inked, Writes}
use Rattle.apdu_text.specs.declared.pen.Pen.{Pen}

-- ---- one character

pub next_is : (at : ℕ) → at ≤ farthest → min (at + 1) farthest ≡ next at
unfolding next
next_is at h = by_test (λ (k : ℕ). min (at + 1) farthest ≡ k) (ltb at farthest) (λ t. omega (arith, borrow.Author.Tests.ltb-true at farthest t)) (λ t. omega (arith, borrow.Author.Tests.ltb-false at farthest t))

pub set_writes : (o : Pen) (c : ℕ) {p : Pen} {r : ℕ} → p ≡ record o { out = record o.out { now = set o.out.now o.at c } } → o.at ≤ farthest → r ≡ min (p.at + 1) farthest
    → Writes (c ∷ []) o record { out = p.out; at = r }
unfolding place_after inked
set_writes o c e h f = record {
  same = ap (λ (p : Pen). p.out.ghost_name) e;
  place = f ∙ ap (λ (p : Pen). min (p.at + 1) farthest) e ∙ next_is o.at h;
  octets = ap (λ (p : Pen). p.out.now) e;
}

pub out_writes : (o : Pen) (c : ℕ) {p : Pen} {r : ℕ} → p ≡ o → length o.out.now ≤ o.at → o.at ≤ farthest → r ≡ min (p.at + 1) farthest → Writes (c ∷ []) o record { out = p.out; at = r }
unfolding place_after inked
out_writes o c e j h f = record {
  same = ap (λ (p : Pen). p.out.ghost_name) e;
  place = f ∙ ap (λ (p : Pen). min (p.at + 1) farthest) e ∙ next_is o.at h;
  octets = ap (λ (p : Pen). p.out.now) e ∙ sym (set_out o.out.now o.at c j);
}

-- ---- one text behind another

pub none_writes : (o : Pen) → Writes [] o o
unfolding place_after inked
none_writes o = record { same = refl; place = refl; octets = refl }

place_append : (at : ℕ) (a b : List ℕ) → place_after at (a ++ b) ≡ place_after (place_after at a) b
unfolding place_after
place_append at [] b = refl
place_append at (c ∷ a) b = place_append (next at) a b

inked_append : (out : List ℕ) (at : ℕ) (a b : List ℕ) → inked out at (a ++ b) ≡ inked (inked out at a) (place_after at a) b
unfolding place_after inked
inked_append out at [] b = refl
inked_append out at (c ∷ a) b = inked_append (set out at c) (next at) a b

pub writes_then : {a b : List ℕ} {o p q : Pen} → Writes a o p → Writes b p q → Writes (a ++ b) o q
writes_then {a} {b} {o} {p} {q} x y =
    let i = x.place in
    let j = x.octets in
    record {
      same = y.same ∙ x.same;
      place = y.place ∙ ap (λ (k : ℕ). place_after k b) i ∙ sym (place_append o.at a b);
      octets = y.octets ∙ rw (j, i) (sym (inked_append o.out.now o.at a b));
    }

pub writes_as : {a b : List ℕ} {o p : Pen} → a ≡ b → Writes a o p → Writes b o p
writes_as e x = rw e at x

-- the pen under another name
pub writes_at : {a : List ℕ} {o p q : Pen} → q ≡ p → Writes a o p → Writes a o q
writes_at e x = rw e x

pub writes_from : {a : List ℕ} {o p q : Pen} → p ≡ o → Writes a p q → Writes a o q
writes_from e x = rw e at x

-- if it is there
pub when_there : {p : Bool} (a : List ℕ) {o q : Pen} → p ≡ true → Writes a o q → Writes (when p a) o q
when_there a e x = rw e x

pub when_absent : {p : Bool} (a : List ℕ) (o : Pen) → p ≡ false → Writes (when p a) o o
when_absent a o e = rw e (none_writes o)

-- ---- a text in turns: what is left of it

pub record Leaves (text : List ℕ) (o : Pen) (rest : List ℕ) (p : Pen) : Type 0 where
  pub same : p.out.ghost_name ≡ o.out.ghost_name
  pub place : place_after o.at text ≡ place_after p.at rest
  pub octets : inked o.out.now o.at text ≡ inked p.out.now p.at rest

pub leaves_all : (text : List ℕ) (o : Pen) → Leaves text o text o
leaves_all text o = record { same = refl; place = refl; octets = refl }

pub leaves_more : {text : List ℕ} {o : Pen} {a rest : List ℕ} {p q : Pen} → Leaves text o (a ++ rest) p → Writes a p q → Leaves text o rest q
leaves_more {text} {o} {a} {rest} {p} {q} l x =
    let i = x.place in
    let j = x.octets in
    record {
      same = x.same ∙ l.same;
      place = l.place ∙ place_append p.at a rest ∙ ap (λ (k : ℕ). place_after k rest) (sym i);
      octets = l.octets ∙ inked_append p.out.now p.at a rest ∙ rw (j, i) refl;
    }

pub leaves_as : {text : List ℕ} {o : Pen} {a b : List ℕ} {p : Pen} → a ≡ b → Leaves text o a p → Leaves text o b p
leaves_as e l = rw e at l

pub leaves_at : {text : List ℕ} {o : Pen} {a : List ℕ} {p q : Pen} → q ≡ p → Leaves text o a p → Leaves text o a q
leaves_at e l = rw e l

pub leaves_none : {text : List ℕ} {o p : Pen} → Leaves text o [] p → Writes text o p
unfolding place_after inked
leaves_none l = record { same = l.same; place = sym l.place; octets = sym l.octets }

-- what is left is written at once
pub leaves_end : {text : List ℕ} {o : Pen} {a : List ℕ} {p q : Pen} → Leaves text o a p → Writes a p q → Writes text o q
leaves_end {a = a} l x = leaves_none (leaves_more {rest = []} (leaves_as (sym (mathlib.Core.List.append-nil a)) l) x)

-- ---- where a text has room

next_grows : (at : ℕ) → at ≤ next at
unfolding next
next_grows at = by_test (λ (k : ℕ). at ≤ k) (ltb at farthest) (λ t. omega arith) (λ t. omega arith)

next_most : (at : ℕ) → next at ≤ at + 1
unfolding next
next_most at = by_test (λ (k : ℕ). k ≤ at + 1) (ltb at farthest) (λ t. omega arith) (λ t. omega arith)

pub next_near : (at : ℕ) → at < farthest → at + 1 ≡ next at
unfolding next
next_near at h = rw (lt-ltb at farthest h)

place_grows : (at : ℕ) (text : List ℕ) → at ≤ place_after at text
unfolding place_after
place_grows at [] = omega arith
place_grows at (c ∷ text) = omega (arith, next_grows at, place_grows (next at) text)

place_most : (at : ℕ) (text : List ℕ) → place_after at text ≤ at + length text
unfolding place_after
place_most at [] = omega arith
place_most at (c ∷ text) = omega (arith, next_most at, place_most (next at) text)

-- a place that did not stop is the one behind the text
place_is : (at : ℕ) (text : List ℕ) → place_after at text < farthest → place_after at text ≡ at + length text
unfolding place_after
place_is at [] h = omega arith
place_is at (c ∷ text) h =
    let near : at < farthest = omega (arith, next_grows at, place_grows (next at) text) in
    let e : at + 1 ≡ next at = next_near at near in
    omega (arith, place_is (next at) text h)

inked_sets : (out : List ℕ) (at : ℕ) (text : List ℕ) → place_after at text < farthest → inked out at text ≡ sets out at text
unfolding place_after inked
inked_sets out at [] h = refl
inked_sets out at (c ∷ text) h =
    let near : at < farthest = omega (arith, next_grows at, place_grows (next at) text) in
    let e : next at ≡ suc at = sym (next_near at near) ∙ add-one at in
    inked_sets (set out at c) (next at) text h ∙ ap (λ (k : ℕ). sets (set out at c) k text) e

-- ---- a text at once

place_whole : (at : ℕ) (text : List ℕ) → at ≤ farthest → min (at + length text) farthest ≡ place_after at text
unfolding place_after
place_whole at [] h = omega arith
place_whole at (c ∷ text) h =
    let e = next_is at h in
    let small : next at ≤ farthest = omega arith in
    let f = place_whole (next at) text small in
    omega arith

inked_length : (out : List ℕ) (at : ℕ) (text : List ℕ) → length (inked out at text) ≡ length out
unfolding inked
inked_length out at [] = refl
inked_length out at (c ∷ text) = inked_length (set out at c) (next at) text ∙ length-set out at c

inked_far : (out : List ℕ) (at : ℕ) (text : List ℕ) → length out ≤ at → inked out at text ≡ out
unfolding inked
inked_far out at [] h = refl
inked_far out at (c ∷ text) h =
    ap (λ (o : List ℕ). inked o (next at) text) (set_out out at c h) ∙ inked_far out (next at) text (omega (arith, next_grows at))

-- none of it has room
pub far_writes : (text : List ℕ) (o : Pen) {p : Pen} {n r : ℕ} → p ≡ o → length o.out.now ≤ o.at → o.at ≤ farthest → n ≡ length text → r ≡ min (o.at + n) farthest
    → Writes text o record { out = p.out; at = r }
far_writes text o e j h m f = record {
  same = ap (λ (p : Pen). p.out.ghost_name) e;
  place = f ∙ ap (λ (k : ℕ). min (o.at + k) farthest) m ∙ place_whole o.at text h;
  octets = ap (λ (p : Pen). p.out.now) e ∙ sym (inked_far o.out.now o.at text j);
}

inked_none : (out : List ℕ) (at : ℕ) → inked out at [] ≡ out
unfolding inked
inked_none out at = refl

-- as much as has room is what the whole text sets
inked_front : (out : List ℕ) (at : ℕ) (text : List ℕ) (n : ℕ) → at ≤ length out → length out < farthest → n ≡ min (length text) (length out - at)
    → inked out at text ≡ take at out ++ take n text ++ drop (at + n) out
inked_front out at text n h small e =
    let a = take n text in
    let b = drop n text in
    let long : length a ≡ n = length-take-le n text (omega arith) in
    let place : place_after at a ≡ at + n = sym (place_whole at a (omega arith)) ∙ omega arith in
    let near : place_after at a < farthest = omega arith in
    let front : inked out at a ≡ take at out ++ a ++ drop (at + n) out =
    inked_sets out at a near ∙ sets-eq a out at (omega arith) ∙ ap (λ (k : ℕ). take at out ++ a ++ drop (at + k) out) long in
    let rest : inked (inked out at a) (place_after at a) b ≡ inked out at a =
    by_cases (ltb n (length text))
    (λ t. inked_far (inked out at a) (place_after at a) b (omega (arith, inked_length out at a, borrow.Author.Tests.ltb-true n (length text) t)))
    (λ t. ap (λ (l : List ℕ). inked (inked out at a) (place_after at a) l) (drop_of_length-le text (borrow.Author.Tests.ltb-false n (length text) t)) ∙ inked_none (inked out at a) (place_after at a)) in
    ap (λ (l : List ℕ). inked out at l) (sym (take-append-drop n text)) ∙ inked_append out at a b ∙ rest ∙ front

pub copied_writes : (text : List ℕ) (o : Pen) {p : Pen} {n k r : ℕ} {put : List ℕ} → p ≡ record o { out = record o.out { now = put_mid o.at k o.out.now put } } → o.at < length o.out.now
    → length o.out.now < farthest → n ≡ min (length text) (length o.out.now - o.at) → put ≡ take n text → n ≡ k → r ≡ min (o.at + length text) farthest → Writes text o record { out = p.out; at = r }
copied_writes text o {n = n} {k = k} {put = put} e h small m q g f =
    let long : n ≡ length (take n text) = sym (length-take-le n text (omega arith)) in
    record {
      same = ap (λ (p : Pen). p.out.ghost_name) e;
      place = f ∙ place_whole o.at text (omega arith);
      octets = ap (λ (p : Pen). p.out.now) e ∙ rw (take_all n (take n text) (omega arith)) at (put_mid-paste o.at k o.out.now put (take n text) n q g long) ∙ sym (inked_front o.out.now o.at text n (omega arith) small m);
    }

-- all of it has room
pub whole_writes : (text : List ℕ) (o : Pen) {p : Pen} {k r : ℕ} {put : List ℕ} → p ≡ record o { out = record o.out { now = put_mid o.at k o.out.now put } } → o.at < length o.out.now
    → length o.out.now < farthest → length text ≤ length o.out.now - o.at → put ≡ text → length text ≡ k → r ≡ min (o.at + length text) farthest → Writes text o record { out = p.out; at = r }
whole_writes text o e h small m q g f = copied_writes text o e h small (omega arith) (q ∙ sym (take_all (length text) text (omega arith))) g f

-- ---- a measured text

-- measured, and then written
module _ (out : List ℕ) (at : ℕ) (text : List ℕ) {size : ℕ} (m : size ≡ place_after at text) where
  pub no_room : length out < size → (refused 22 ≡ append_text out at text) × (out ≡ output_after (refused 22) out at text)
  unfolding append_text has_room output_after
  no_room h =
      let k : length out < at + length text = omega (arith, place_most at text) in
      (simp (lt-leb (at + length text) (length out) k), refl)

  pub room_for : length out < 9223372036854775808 → {after : List ℕ} {r : ℕ} → size ≤ length out → r ≡ place_after at text → after ≡ inked out at text
      → (accepted r ≡ append_text out at text) × (after ≡ output_after (accepted r) out at text)
  unfolding append_text has_room output_after written
  room_for small h f g =
      let near : place_after at text < farthest = omega arith in
      let i : place_after at text ≡ at + length text = place_is at text near in
      let k : at + length text ≤ length out = omega arith in (
        simp (le-leb (at + length text) (length out) k) (ap accepted (f ∙ i)),
        g ∙ inked_sets out at text near ∙ sets-eq text out at k ∙ append_assoc (take at out) text (drop (at + length text) out),
      )

pub next_far : (at : ℕ) → farthest ≤ at → at ≡ next at
unfolding next
next_far at h = rw (le-ltb at farthest h)
