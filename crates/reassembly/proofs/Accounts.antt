-- What the ledger keeps of a pair is what the history says, call by call.
use mathlib.Core.Path.{◌≡◌, refl, sym, ap, ◌∙◌}
use mathlib.Core.Bool.{Bool, true, false, not, ◌&&◌, false≢true, true≢false}
use mathlib.Core.List.{List, [], ◌∷◌, ◌++◌, append-nil}
use Prim.Native.Nat.{ℕ, ◌≤◌}
use native.Mathlib.Omega.{arith}
use lib.ListN.{length}
use lib.Dec.{eqb}
use borrow.Author.Tests.{eqb-true}
use Rattle.refusals.specs.Check.{pick}
use Rattle.slots.specs.Sweep.{is_aged}
use Rattle.slots.proofs.Tests.{and_l, and_r, eqb_comm}
use Rattle.reassembly.specs.Checks.{fragment_in, payload_of}
use Rattle.reassembly.specs.Ledger.{Call, fragment, expiry, release, refusing, dropping, delivering, Message, After, those, joined, of_pair, no_message, first_or, some_in, joining, facts_of, ledger_refusal, ledger_effect, ledger_step}
use Rattle.reassembly.specs.History.{is_accepted, Open, closed, opened, continued, expired, after_call}
use Rattle.reassembly.proofs.Passed.{passed}

-- ---- picking twice

those_none : {A : Type 0} (f g : A → Bool) → ((x : A) → f x ≡ true → g x ≡ true) → (l : List A) → those f (those (λ x. not (g x)) l) ≡ []
unfolding those
those_none f g h [] = refl
those_none f g h (x ∷ l) = go (g x) refl (those_none f g h l)
  where
    go : (b : Bool) → g x ≡ b → those f (those (λ x. not (g x)) l) ≡ [] → those f (pick (not b) (x ∷ those (λ x. not (g x)) l) (those (λ x. not (g x)) l)) ≡ []
    go true e r = r
    go false e r = go2 (f x) refl
      where
        go2 : (c : Bool) → f x ≡ c → pick c (x ∷ those f (those (λ x. not (g x)) l)) (those f (those (λ x. not (g x)) l)) ≡ []
        go2 true z = absurd (true≢false (sym (h x z) ∙ e))
        go2 false z = r

those_all : {A : Type 0} (f g : A → Bool) → ((x : A) → f x ≡ true → g x ≡ false) → (l : List A) → those f (those (λ x. not (g x)) l) ≡ those f l
unfolding those
those_all f g h [] = refl
those_all f g h (x ∷ l) = go (g x) refl (those_all f g h l)
  where
    go : (b : Bool) → g x ≡ b → those f (those (λ x. not (g x)) l) ≡ those f l
        → those f (pick (not b) (x ∷ those (λ x. not (g x)) l) (those (λ x. not (g x)) l)) ≡ pick (f x) (x ∷ those f l) (those f l)
    go true e r = go2 (f x) refl
      where
        go2 : (c : Bool) → f x ≡ c → those f (those (λ x. not (g x)) l) ≡ pick c (x ∷ those f l) (those f l)
        go2 true z = absurd (true≢false (sym e ∙ h x z))
        go2 false z = r
    go false e r = ap (λ m. pick (f x) (x ∷ m) m) r

those_comm : {A : Type 0} (f g : A → Bool) (l : List A) → those f (those g l) ≡ those g (those f l)
unfolding those
those_comm f g [] = refl
those_comm f g (x ∷ l) = go (f x) refl (g x) refl (those_comm f g l)
  where
    go : (b : Bool) → f x ≡ b → (c : Bool) → g x ≡ c → those f (those g l) ≡ those g (those f l) → those f (pick c (x ∷ those g l) (those g l)) ≡ those g (pick b (x ∷ those f l) (those f l))
    go true e true z r = rw (e, z, r)
    go true e false z r = rw (z, r)
    go false e true z r = rw (e, r)
    go false e false z r = r

-- ---- the ledger's account of a pair

abbrev pub open_of : List Message → Open
open_of [] = closed
open_of (m ∷ ms) = opened m.tick m.payloads

abbrev pub open_in : ℕ → ℕ → List Message → Open
open_in lid number l = open_of (those (of_pair lid number) l)

same_pair : (lid number lid' number' : ℕ) (b : Bool) → eqb lid' lid && eqb number' number ≡ b → (m : Message) → of_pair lid number m ≡ true → of_pair lid' number' m ≡ b
same_pair lid number lid' number' b e m h =
    let x = eqb-true m.lid lid (and_l (eqb m.lid lid) (eqb m.number number) h) in
    let y = eqb-true m.number number (and_r (eqb m.lid lid) (eqb m.number number) h) in
    rw (x, y, eqb_comm lid lid', eqb_comm number number') e

again : (begins : Bool) (tick : ℕ) (payload : List ℕ) (ms : List Message) → (begins ≡ false → some_in ms ≡ true)
    → opened (pick begins tick (first_or no_message ms).tick) (pick begins [] (first_or no_message ms).payloads ++ (payload ∷ [])) ≡ pick begins (opened tick (payload ∷ [])) (continued (open_of ms) payload)
again true tick payload ms o = refl
again false tick payload [] o = absurd (false≢true (o refl))
again false tick payload (m ∷ ms) o = refl

-- a fragment that no check refuses
join_held : (last begins : Bool) (lid number lid' number' tick : ℕ) (payload : List ℕ) (l : List Message) → (begins ≡ false → some_in (those (of_pair lid' number') l) ≡ true)
    → open_in lid number (joining last begins lid' number' tick payload l).kept
    ≡ pick (eqb lid' lid && eqb number' number) (pick last closed (pick begins (opened tick (payload ∷ [])) (continued (open_in lid number l) payload))) (open_in lid number l)
unfolding joining those
join_held last begins lid number lid' number' tick payload l opens = go (eqb lid' lid && eqb number' number) refl last
  where
    go : (b : Bool) → eqb lid' lid && eqb number' number ≡ b → (last : Bool)
        → open_in lid number (joining last begins lid' number' tick payload l).kept ≡ pick b (pick last closed (pick begins (opened tick (payload ∷ [])) (continued (open_in lid number l) payload))) (open_in lid number l)
    go true e true = ap open_of (those_none (of_pair lid number) (of_pair lid' number') (same_pair lid number lid' number' true e) l)
    go true e false =
        let x = eqb-true lid' lid (and_l (eqb lid' lid) (eqb number' number) e) in
        let y = eqb-true number' number (and_r (eqb lid' lid) (eqb number' number) e) in
        rw e (again begins tick payload (those (of_pair lid' number') l) opens ∙ λ j. pick begins (opened tick (payload ∷ [])) (continued (open_in (x j) (y j) l) payload))
    go false e true = ap open_of (those_all (of_pair lid number) (of_pair lid' number') (same_pair lid number lid' number' false e) l)
    go false e false = rw e (ap open_of (those_all (of_pair lid number) (of_pair lid' number') (same_pair lid number lid' number' false e) l))

abbrev aged_m : ℕ → ℕ → Message → Bool
aged_m tick limit m = is_aged tick limit m.tick

abbrev of_lid : ℕ → Message → Bool
of_lid lid m = eqb m.lid lid

few_aged : (tick limit : ℕ) (ms : List Message) → length ms ≤ 1 → open_of (those (λ m. not (aged_m tick limit m)) ms) ≡ expired tick limit (open_of ms)
unfolding those
few_aged tick limit [] h = refl
few_aged tick limit (m ∷ []) h = go (aged_m tick limit m)
  where
    go : (b : Bool) → open_of (pick (not b) (m ∷ []) []) ≡ pick b closed (opened m.tick m.payloads)
    go true = refl
    go false = refl
few_aged tick limit (m ∷ m' ∷ ms) h = absurd (omega arith)

opens_of : (lid number : ℕ) (l : List Message) {b : Bool} → (b ≡ false → (facts_of lid number l).is_open ≡ true) → b ≡ false → some_in (those (of_pair lid number) l) ≡ true
unfolding facts_of
opens_of lid number l h = h

expiry_held : (lid number tick limit : ℕ) (l : List Message) → length (those (of_pair lid number) l) ≤ 1
    → open_in lid number (those (λ m. not (aged_m tick limit m)) l) ≡ expired tick limit (open_in lid number l)
expiry_held lid number tick limit l few = ap open_of (those_comm (of_pair lid number) (λ m. not (aged_m tick limit m)) l) ∙ few_aged tick limit (those (of_pair lid number) l) few

release_held : (lid number lid' : ℕ) (l : List Message) → open_in lid number (those (λ m. not (of_lid lid' m)) l) ≡ pick (eqb lid' lid) closed (open_in lid number l)
release_held lid number lid' l = go (eqb lid' lid) refl
  where
    its_lid : (b : Bool) → eqb lid' lid ≡ b → (m : Message) → of_pair lid number m ≡ true → of_lid lid' m ≡ b
    its_lid b e m h = rw (eqb-true m.lid lid (and_l (eqb m.lid lid) (eqb m.number number) h), eqb_comm lid lid') e

    go : (b : Bool) → eqb lid' lid ≡ b → open_in lid number (those (λ m. not (of_lid lid' m)) l) ≡ pick b closed (open_in lid number l)
    go true e = ap open_of (those_none (of_pair lid number) (of_lid lid') (its_lid true e) l)
    go false e = ap open_of (those_all (of_pair lid number) (of_lid lid') (its_lid false e) l)

join_accepted : (last begins : Bool) (lid number tick : ℕ) (payload : List ℕ) (l : List Message) → is_accepted (joining last begins lid number tick payload l).report ≡ true
unfolding joining
join_accepted true begins lid number tick payload l = refl
join_accepted false begins lid number tick payload l = refl

-- a fragment that continues has a message to continue
pub continues : (n lid tick output : ℕ) (lsdu : List ℕ) (l : List Message) → ledger_refusal n (fragment lid tick lsdu output) l ≡ 0 → eqb (fragment_in lsdu).counter 0 ≡ false
    → some_in (those (of_pair lid (fragment_in lsdu).number) l) ≡ true
unfolding ledger_refusal
continues n lid tick output lsdu l e =
    opens_of lid (fragment_in lsdu).number l (passed n output lid (length lsdu) false (fragment_in lsdu) (facts_of lid (fragment_in lsdu).number l) e).opens

effect_held : (n : ℕ) (c : Call) (l : List Message) (lid number : ℕ) → length (those (of_pair lid number) l) ≤ 1 → ledger_refusal n c l ≡ 0
    → open_in lid number (ledger_effect c l).kept ≡ pick (is_accepted (ledger_effect c l).report) (after_call lid number c (open_in lid number l)) (open_in lid number l)
effect_held n (fragment lid' tick lsdu output) l lid number few e =
    rw (join_accepted (fragment_in lsdu).last (eqb (fragment_in lsdu).counter 0) lid' (fragment_in lsdu).number tick (payload_of lsdu) l)
    (join_held (fragment_in lsdu).last (eqb (fragment_in lsdu).counter 0) lid number lid' (fragment_in lsdu).number tick (payload_of lsdu) l (continues n lid' tick output lsdu l e))
effect_held n (expiry tick limit) l lid number few e = expiry_held lid number tick limit l few
effect_held n (release lid') l lid number few e = release_held lid number lid' l

pub step_held : (n : ℕ) (c : Call) (l : List Message) (lid number : ℕ) → length (those (of_pair lid number) l) ≤ 1
    → open_in lid number (ledger_step n c l).kept ≡ pick (is_accepted (ledger_step n c l).report) (after_call lid number c (open_in lid number l)) (open_in lid number l)
unfolding ledger_step
step_held n c l lid number few = go (eqb (ledger_refusal n c l) 0) refl
  where
    a : Bool → After
    a b = pick b (ledger_effect c l) (record { report = refusing (ledger_refusal n c l); kept = l })

    go : (b : Bool) → eqb (ledger_refusal n c l) 0 ≡ b
        → open_in lid number (a b).kept ≡ pick (is_accepted (a b).report) (after_call lid number c (open_in lid number l)) (open_in lid number l)
    go true e = effect_held n c l lid number few (eqb-true (ledger_refusal n c l) 0 e)
    go false e = refl

-- ---- a delivered message

message_of_law : (last begins : Bool) (lid number tick : ℕ) (payload : List ℕ) (l : List Message) (d : ℕ) (x : List ℕ) → (joining last begins lid number tick payload l).report ≡ delivering d x
    → x ≡ joined (pick begins [] (first_or no_message (those (of_pair lid number) l)).payloads ++ (payload ∷ []))
unfolding joining
message_of_law true begins lid number tick payload l d x e = body_of e
  where
    body_of : {a : ℕ} {y : List ℕ} → delivering a y ≡ delivering d x → x ≡ y
    body_of e = cc
message_of_law false begins lid number tick payload l d x e = absurd (kept_whole e)
  where
    kept_whole : {a : ℕ} → dropping a ≡ delivering d x → ⊥
    kept_whole e = let z : ◌≡◌ {A = ℕ} 0 1 = cc in omega arith

joined_one : (payload : List ℕ) → joined (payload ∷ []) ≡ payload
unfolding joined
joined_one payload = append-nil payload

-- what a delivered message is: with counter 0 the payload, else the payloads kept and this one
pub record Delivers (lid tick : ℕ) (lsdu message : List ℕ) (l : List Message) : Type 0 where
  pub at_once : eqb (fragment_in lsdu).counter 0 ≡ true → message ≡ payload_of lsdu
  pub since : eqb (fragment_in lsdu).counter 0 ≡ false
      → (opening : ℕ) × (payloads : List (List ℕ)) × (open_in lid (fragment_in lsdu).number l ≡ opened opening payloads) × (message ≡ joined (payloads ++ (payload_of lsdu ∷ [])))

pub step_delivers : (n lid tick output : ℕ) (lsdu : List ℕ) (l : List Message) (d : ℕ) (x : List ℕ) → (ledger_step n (fragment lid tick lsdu output) l).report ≡ delivering d x
    → Delivers lid tick lsdu x l
unfolding ledger_step
step_delivers n lid tick output lsdu l d x e = go (eqb (ledger_refusal n (fragment lid tick lsdu output) l) 0) refl e
  where
    call : Call
    call = fragment lid tick lsdu output

    number : ℕ
    number = (fragment_in lsdu).number

    a : Bool → After
    a b = pick b (ledger_effect call l) (record { report = refusing (ledger_refusal n call l); kept = l })

    first : (ms : List Message) → some_in ms ≡ true → (m : Message) × (open_of ms ≡ opened m.tick m.payloads) × ((first_or no_message ms).payloads ≡ m.payloads)
    first [] h = absurd (false≢true h)
    first (m ∷ ms) h = (m, refl, refl)

    go : (b : Bool) → eqb (ledger_refusal n call l) 0 ≡ b → (a b).report ≡ delivering d x → Delivers lid tick lsdu x l
    go true z e =
        let m = message_of_law (fragment_in lsdu).last (eqb (fragment_in lsdu).counter 0) lid (fragment_in lsdu).number tick (payload_of lsdu) l d x e in
        record {
          at_once = λ c. let one : x ≡ joined (payload_of lsdu ∷ []) = rw c at m in one ∙ joined_one (payload_of lsdu);
          since = λ c.
              let o = first (those (of_pair lid number) l) (continues n lid tick output lsdu l (eqb-true (ledger_refusal n call l) 0 z) c) in
              (o.0.tick, o.0.payloads, o.1, (rw c at m) ∙ ap (λ (ps : List (List ℕ)). joined (ps ++ (payload_of lsdu ∷ []))) o.2);
        }
    go false z e = let w : ◌≡◌ {A = ℕ} 0 1 = cc in absurd (omega arith)
