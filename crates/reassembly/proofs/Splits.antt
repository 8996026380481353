-- What is held since the last opening, by the split of the history and by the fold, is the same.
use mathlib.Core.Path.{◌≡◌, refl, sym, ap, ◌∙◌}
use mathlib.Core.Bool.{Bool, true, false, not, ◌&&◌, ◌||◌, false≢true, true≢false}
use mathlib.Core.List.{List, [], ◌∷◌, ◌++◌, append_assoc, append-nil}
use Prim.Native.Nat.{ℕ}
use native.Mathlib.Omega.{arith}
use lib.Dec.{eqb}
use Rattle.refusals.specs.Check.{pick}
use Rattle.slots.proofs.Tests.{and_l, and_r, and_i, not_t}
use Rattle.reassembly.specs.Checks.{fragment_in, payload_of}
use Rattle.reassembly.specs.Ledger.{Call, fragment, expiry, release}
use Rattle.reassembly.specs.History.{Event, is_accepted, is_fragment, accepts, lsdu_of, tick_of, opens, closes_by, closes, undisturbed, payloads_in, OpenSince, Open, closed, opened, continued, after_call, held_after}

module _ (lid number : ℕ) where
  -- what an event makes of the pair's message
  abbrev step : Event → Open → Open
  step e o = pick (is_accepted e.report) (after_call lid number e.call o) o

  -- what happens at an event that neither opens nor closes: a fragment of the pair continues it, any other leaves it
  abbrev continued_by : Event → Open → Open
  continued_by e o = pick (accepts lid number e) (continued o (payload_of (lsdu_of e.call))) o

  opening_step : (e : Event) (o : Open) → opens lid number e ≡ true → step e o ≡ opened (tick_of e.call) (payload_of (lsdu_of e.call) ∷ [])
  opening_step e o h = go (is_accepted e.report) e.call h
    where
      go : (a : Bool) (c : Call)
          → (a && is_fragment lid number c) && (not (fragment_in (lsdu_of c)).last && eqb (fragment_in (lsdu_of c)).counter 0) ≡ true
          → pick a (after_call lid number c o) o ≡ opened (tick_of c) (payload_of (lsdu_of c) ∷ [])
      go false c h = absurd (false≢true h)
      go true (fragment lid' tick lsdu output) h =
          let mine = and_l (eqb lid' lid && eqb (fragment_in lsdu).number number) (not (fragment_in lsdu).last && eqb (fragment_in lsdu).counter 0) h in
          let rest = and_r (eqb lid' lid && eqb (fragment_in lsdu).number number) (not (fragment_in lsdu).last && eqb (fragment_in lsdu).counter 0) h in
          let last = not_t (fragment_in lsdu).last (and_l (not (fragment_in lsdu).last) (eqb (fragment_in lsdu).counter 0) rest) in
          let first = and_r (not (fragment_in lsdu).last) (eqb (fragment_in lsdu).counter 0) rest in
          rw (mine, last, first)
      go true (expiry tick limit) h = absurd (false≢true h)
      go true (release lid') h = absurd (false≢true h)

  -- an event that does not open: it closes, or continues, or leaves
  other_step : (e : Event) (t : ℕ) (ps : List (List ℕ)) → opens lid number e ≡ false
      → step e (opened t ps) ≡ pick (closes lid number t e) closed (continued_by e (opened t ps))
  other_step e t ps h = go (is_accepted e.report) e.call h
    where
      go : (a : Bool) (c : Call)
          → (a && is_fragment lid number c) && (not (fragment_in (lsdu_of c)).last && eqb (fragment_in (lsdu_of c)).counter 0) ≡ false
          → pick a (after_call lid number c (opened t ps)) (opened t ps)
          ≡ pick (a && closes_by lid number t c) closed (pick (a && is_fragment lid number c) (continued (opened t ps) (payload_of (lsdu_of c))) (opened t ps))
      go false c h = refl
      go true (fragment lid' tick lsdu output) h = by (eqb lid' lid && eqb (fragment_in lsdu).number number) (fragment_in lsdu).last (eqb (fragment_in lsdu).counter 0) h
        where
          by : (mine last first : Bool) → mine && (not last && first) ≡ false
              → pick mine (pick last closed (pick first (opened tick (payload_of lsdu ∷ [])) (opened t (ps ++ (payload_of lsdu ∷ []))))) (opened t ps)
              ≡ pick (mine && last) closed (pick mine (opened t (ps ++ (payload_of lsdu ∷ []))) (opened t ps))
          by false last first h = refl
          by true true first h = refl
          by true false true h = absurd (true≢false h)
          by true false false h = refl
      go true (expiry tick limit) h = refl
      go true (release lid') h = refl

  -- a message that is not open stays so unless an event opens it
  closed_step : (e : Event) → opens lid number e ≡ false → step e closed ≡ closed
  closed_step e h = go (is_accepted e.report) e.call h
    where
      go : (a : Bool) (c : Call)
          → (a && is_fragment lid number c) && (not (fragment_in (lsdu_of c)).last && eqb (fragment_in (lsdu_of c)).counter 0) ≡ false
          → pick a (after_call lid number c closed) closed ≡ closed
      go false c h = refl
      go true (fragment lid' tick lsdu output) h = by (eqb lid' lid && eqb (fragment_in lsdu).number number) (fragment_in lsdu).last (eqb (fragment_in lsdu).counter 0) h
        where
          by : (mine last first : Bool) → mine && (not last && first) ≡ false
              → pick mine (pick last closed (pick first (opened tick (payload_of lsdu ∷ [])) closed)) closed ≡ closed
          by false last first h = refl
          by true true first h = refl
          by true false true h = absurd (true≢false h)
          by true false false h = refl
      go true (expiry tick limit) h = refl
      go true (release lid') h = by (eqb lid' lid)
        where
          by : (b : Bool) → pick b closed closed ≡ closed
          by true = refl
          by false = refl

  -- ---- from the split to the fold

  fold_append : (o : Open) (xs ys : List Event) → held_after lid number o (xs ++ ys) ≡ held_after lid number (held_after lid number o xs) ys
  unfolding held_after
  fold_append o [] ys = refl
  fold_append o (x ∷ xs) ys = fold_append (step x o) xs ys

  or_none : (a b : Bool) → not (a || b) ≡ true → (a ≡ false) × (b ≡ false)
  or_none true b h = absurd (false≢true h)
  or_none false b h = (refl, not_t b h)

  still : (t : ℕ) (ps : List (List ℕ)) (es : List Event) → undisturbed lid number t es ≡ true → held_after lid number (opened t ps) es ≡ opened t (ps ++ payloads_in lid number es)
  unfolding held_after undisturbed payloads_in
  still t ps [] h = ap (opened t) (sym (append-nil ps))
  still t ps (e ∷ es) h =
      let q = or_none (opens lid number e) (closes lid number t e) (and_l (not (opens lid number e || closes lid number t e)) (undisturbed lid number t es) h) in
      let u = and_r (not (opens lid number e || closes lid number t e)) (undisturbed lid number t es) h in
      let s = other_step e t ps q.0 ∙ ap (λ (b : Bool). pick b closed (continued_by e (opened t ps))) q.1 in
      ap (λ (o : Open). held_after lid number o es) s ∙ go (accepts lid number e) (still t ps es u) (still t (ps ++ (payload_of (lsdu_of e.call) ∷ [])) es u)
    where
      go : (b : Bool) → held_after lid number (opened t ps) es ≡ opened t (ps ++ payloads_in lid number es)
          → held_after lid number (opened t (ps ++ (payload_of (lsdu_of e.call) ∷ []))) es ≡ opened t ((ps ++ (payload_of (lsdu_of e.call) ∷ [])) ++ payloads_in lid number es)
          → held_after lid number (pick b (continued (opened t ps) (payload_of (lsdu_of e.call))) (opened t ps)) es
          ≡ opened t (ps ++ pick b (payload_of (lsdu_of e.call) ∷ payloads_in lid number es) (payloads_in lid number es))
      go true r s = s ∙ ap (opened t) (append_assoc ps (payload_of (lsdu_of e.call) ∷ []) (payloads_in lid number es))
      go false r s = r

  pub fold_of : (history : List Event) (tick : ℕ) (payloads : List (List ℕ)) → OpenSince lid number history tick payloads → held_after lid number closed history ≡ opened tick payloads
  unfolding held_after
  fold_of history tick payloads s =
      let o = held_after lid number closed s.before in
      ap (held_after lid number closed) s.split ∙ fold_append closed s.before (s.opening ∷ s.after)
      ∙ ap (λ (o : Open). held_after lid number o s.after) (opening_step s.opening o s.is_opening)
      ∙ still (tick_of s.opening.call) (payload_of (lsdu_of s.opening.call) ∷ []) s.after s.still_open
      ∙ λ j. opened (sym s.tick_is j) (sym s.payloads_are j)

  -- ---- from the fold to the split

  -- open at the end: since the start, undisturbed, or since an opening on the way
  data Since (o : Open) (es : List Event) (t : ℕ) (ps : List (List ℕ)) : Type 0 where
    from_start : (qs : List (List ℕ)) → o ≡ opened t qs → undisturbed lid number t es ≡ true → ps ≡ qs ++ payloads_in lid number es → Since o es t ps
    on_the_way : OpenSince lid number es t ps → Since o es t ps

  later : (e : Event) {es : List Event} {t : ℕ} {ps : List (List ℕ)} → OpenSince lid number es t ps → OpenSince lid number (e ∷ es) t ps
  later e s = record {
    before = e ∷ s.before;
    opening = s.opening;
    after = s.after;
    split = ap (λ (l : List Event). e ∷ l) s.split;
    is_opening = s.is_opening;
    still_open = s.still_open;
    tick_is = s.tick_is;
    payloads_are = s.payloads_are;
  }

  since : (o : Open) (es : List Event) (t : ℕ) (ps : List (List ℕ)) → held_after lid number o es ≡ opened t ps → Since o es t ps
  unfolding held_after undisturbed payloads_in
  since o [] t ps h = from_start ps h refl (sym (append-nil ps))
  since o (e ∷ es) t ps h = go (since (step e o) es t ps h) (opens lid number e) refl
    where
      -- the event was an opening
      opened_here : opens lid number e ≡ true → (qs : List (List ℕ)) → step e o ≡ opened t qs → undisturbed lid number t es ≡ true → ps ≡ qs ++ payloads_in lid number es → Since o (e ∷ es) t ps
      opened_here y qs q u p =
          let w : opened (tick_of e.call) (payload_of (lsdu_of e.call) ∷ []) ≡ opened t qs = sym (opening_step e o y) ∙ q in
          let tick : t ≡ tick_of e.call = cc in
          let first : qs ≡ payload_of (lsdu_of e.call) ∷ [] = cc in
          on_the_way (record {
            before = [];
            opening = e;
            after = es;
            split = refl;
            is_opening = y;
            still_open = ap (λ (k : ℕ). undisturbed lid number k es) (sym tick) ∙ u;
            tick_is = tick;
            payloads_are = p ∙ ap (λ (l : List (List ℕ)). l ++ payloads_in lid number es) first;
          })

      -- it was not: the message was open before
      open_before : opens lid number e ≡ false → (qs : List (List ℕ)) → step e o ≡ opened t qs → undisturbed lid number t es ≡ true → ps ≡ qs ++ payloads_in lid number es → Since o (e ∷ es) t ps
      open_before n qs q u p = by o q
        where
          never : {s : ℕ} {rs : List (List ℕ)} → closed ≡ opened s rs → ⊥
          never z = let w : ◌≡◌ {A = ℕ} 0 1 = cc in omega arith

          by : (o : Open) → step e o ≡ opened t qs → Since o (e ∷ es) t ps
          by closed q = absurd (never (sym (closed_step e n) ∙ q))
          by (opened s rs) q = shuts (closes lid number s e) refl (accepts lid number e) refl (sym (other_step e s rs n) ∙ q)
            where
              shuts : (c : Bool) → closes lid number s e ≡ c → (a : Bool) → accepts lid number e ≡ a
                  → pick c closed (pick a (opened s (rs ++ (payload_of (lsdu_of e.call) ∷ []))) (opened s rs)) ≡ opened t qs → Since (opened s rs) (e ∷ es) t ps
              shuts true x a y w = absurd (never w)
              shuts false x true y w =
                  let tick : s ≡ t = cc in
                  let calm : not (opens lid number e || closes lid number t e) ≡ true = rw (n, sym tick, x) in
                  let list : qs ≡ rs ++ (payload_of (lsdu_of e.call) ∷ []) = cc in
                  from_start rs (ap (λ (k : ℕ). opened k rs) tick) (and_i calm u)
                  (p ∙ ap (λ (l : List (List ℕ)). l ++ payloads_in lid number es) list ∙ append_assoc rs (payload_of (lsdu_of e.call) ∷ []) (payloads_in lid number es)
                  ∙ sym (ap (λ (b : Bool). rs ++ pick b (payload_of (lsdu_of e.call) ∷ payloads_in lid number es) (payloads_in lid number es)) y))
              shuts false x false y w =
                  let tick : s ≡ t = cc in
                  let calm : not (opens lid number e || closes lid number t e) ≡ true = rw (n, sym tick, x) in
                  let list : qs ≡ rs = cc in
                  from_start rs (ap (λ (k : ℕ). opened k rs) tick) (and_i calm u)
                  (p ∙ ap (λ (l : List (List ℕ)). l ++ payloads_in lid number es) list
                  ∙ sym (ap (λ (b : Bool). rs ++ pick b (payload_of (lsdu_of e.call) ∷ payloads_in lid number es) (payloads_in lid number es)) y))

      go : Since (step e o) es t ps → (b : Bool) → opens lid number e ≡ b → Since o (e ∷ es) t ps
      go (on_the_way s) b y = on_the_way (later e s)
      go (from_start qs q u p) true y = opened_here y qs q u p
      go (from_start qs q u p) false y = open_before y qs q u p

  pub split_of : (history : List Event) (tick : ℕ) (payloads : List (List ℕ)) → held_after lid number closed history ≡ opened tick payloads → OpenSince lid number history tick payloads
  split_of history tick payloads h = go (since closed history tick payloads h)
    where
      go : Since closed history tick payloads → OpenSince lid number history tick payloads
      go (on_the_way s) = s
      go (from_start qs q u p) = let z : ◌≡◌ {A = ℕ} 0 1 = cc in absurd (omega arith)
