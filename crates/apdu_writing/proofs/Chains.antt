-- Writings put together: one component and what it brings, one after the other.
-- Assumes nothing.
use Prim.Native.Nat.{ℕ, ◌+◌, ◌*◌, ◌≤◌, ◌<◌}
use mathlib.Core.Path.{◌≡◌, refl, ap, sym, ◌∙◌}
use mathlib.Core.List.{List, [], ◌++◌, append_assoc, append-nil}
use mathlib.Core.Bool.{Bool, true, false, ◌&&◌}
use mathlib.Core.Logic.{◌⊎◌, inl, inr}
use native.Mathlib.Nat.{add_assoc}
use native.Mathlib.Omega.{arith}
use lib.ListN.{length, length-append}
use lib.Dec.{ltb, leb}
use borrow.Author.Tests.{ltb-true, ltb-false, le-leb, lt-leb}
use Rattle.refusals.proofs.Tests.{by_test, by_cases, and_true, and_left, and_right}
use Rattle.apdu.proofs.Laws.{and_unit}
use Rattle.bits.specs.Bits.{Octets, put_bits}
use Rattle.bits.proofs.Laws.{below_nil, below_append}
use Rattle.bits.proofs.Put.{length_put, put_small, put_append, put_none}
use Rattle.apdu_format.specs.Limits.{most_rows}
use Rattle.apdu_format.specs.Component.{Component}
use Rattle.apdu_format.specs.Reading.{Value}
use Rattle.apdu_format.specs.Writing.{Pen}
use Rattle.apdu_format.proofs.Tests.{never, both}
use Rattle.apdu_writing.specs.declared.quill.Quill.{Quill}
use Rattle.apdu_writing.specs.Quill.{far, least, halted, limited, pen_at, writes, Goes, Stops, Moves, Puts}
use Rattle.apdu_writing.proofs.Levels.{writes_append, writes_dead}

-- ---- places

least_below : (n : ℕ) → least n < far → least n ≡ n
unfolding least
least_below n = by_test (λ (k : ℕ). k < far → k ≡ n) (ltb n far) (λ p h. refl) (λ p h. absurd (omega arith))

pub least_is : (n : ℕ) → n < far → least n ≡ n
unfolding least
least_is n h = by_test (λ (k : ℕ). k ≡ n) (ltb n far) (λ p. refl) (λ p. absurd (omega (arith, ltb-false n far p)))

-- a place below far is the one that it stands for
pub near_is : (a n : ℕ) → least a ≡ least n → n < far → a ≡ n
near_is a n e h = let m = least_is n h in sym (least_below a (omega (arith, e))) ∙ e ∙ m

pub least_add : (a k : ℕ) → least (least a + k) ≡ least (a + k)
least_add a k = by_cases (ltb a far) (λ p. ap (λ (n : ℕ). least (n + k)) (least_is a (ltb-true a far p))) (λ p. beyond a k (ltb-false a far p))
  where
    top : (n : ℕ) → far ≤ n → least n ≡ far
    top n h = unfold least in by_test (λ (k : ℕ). k ≡ far) (ltb n far) (λ p. absurd (omega (arith, ltb-true n far p))) (λ p. refl)

    beyond : (a k : ℕ) → far ≤ a → least (least a + k) ≡ least (a + k)
    beyond a k h = top (least a + k) (omega (arith, top a h)) ∙ sym (top (a + k) (omega arith))

-- ---- one after the other

module _ {s t : Bool} {is js ks : List Component} {c d e : Quill} {o o₁ o₂ : List ℕ} {vs ws : List Value} where
  goes : Goes s is js c d o o₁ vs → Goes t js ks d e o₁ o₂ ws → Goes (s && t) is ks c e o o₂ (vs ++ ws)
  goes p q =
      let n = length-append p.w q.w in
      record {
        holds = and_true p.holds q.holds;
        came = p.came;
        w = p.w ++ q.w;
        small = below_append p.small q.small;
        k = p.k + q.k;
        whole = let e = p.whole in let f = q.whole in omega (arith, n);
        so = λ rest b. rw (append_assoc vs ws rest) (p.so (ws ++ rest) b ∙ q.so rest (b ++ p.w) ∙ ap (λ (l : List ℕ). writes ks (pen_at rest e.room l)) (append_assoc b p.w q.w));
        to = q.to ∙ sym (least_add d.at q.k) ∙ ap (λ (i : ℕ). least (i + q.k)) p.to ∙ least_add (c.at + p.k) q.k ∙ ap least (add_assoc c.at p.k q.k);
        ink = λ octs near fits.
            let e₁ : o₁ ≡ put_bits o (8 * c.at) p.w = p.ink octs (omega arith) (omega arith) in
            let m : length o₁ ≡ length o = ap length e₁ ∙ length_put o (8 * c.at) p.w in
            let a : d.at ≡ c.at + p.k = near_is d.at (c.at + p.k) p.to (omega arith) in
            let l = p.whole in
            let i : 8 * d.at ≡ 8 * c.at + length p.w = omega arith in
            let octs₁ : Octets o₁ = rw e₁ (put_small o (8 * c.at) p.w p.small (omega arith)) in
            q.ink octs₁ (omega arith) (omega arith)
            ∙ ap (λ (l : List ℕ). put_bits l (8 * d.at) q.w) e₁ ∙ ap (λ (i : ℕ). put_bits (put_bits o (8 * c.at) p.w) i q.w) i
            ∙ put_append o (8 * c.at) p.w q.w p.small (omega (arith, q.whole));
      }

  fails : Moves s is js c d o o₁ vs → Moves t js ks d e o₁ o₂ ws → e.ok ≡ false → c.ok ≡ true → ((s && t) ≡ false) ⊎ Stops is c.room (vs ++ ws)
  fails p q h k = by_cases d.ok (λ g. late (p.good g) (q.bad h g)) (λ g. early (p.bad g k))
    where
      late : Goes s is js c d o o₁ vs → (t ≡ false) ⊎ Stops js d.room ws → ((s && t) ≡ false) ⊎ Stops is c.room (vs ++ ws)
      late g (inl x) = inl (and_right s x)
      late g (inr x) = inr (record { so = λ rest b. rw (append_assoc vs ws rest) (ap (λ (z : Pen). z.ok) (g.so (ws ++ rest) b) ∙ x.so rest (b ++ g.w)) })

      early : (s ≡ false) ⊎ Stops is c.room vs → ((s && t) ≡ false) ⊎ Stops is c.room (vs ++ ws)
      early (inl x) = inl (and_left t x)
      early (inr x) = inr (record { so = λ rest b. rw (append_assoc vs ws rest) (x.so (ws ++ rest) b) })

  pub then : Moves s is js c d o o₁ vs → Moves t js ks d e o₁ o₂ ws → Moves (s && t) is ks c e o o₂ (vs ++ ws)
  then p q = record { good = λ h. let g = q.good h in goes (p.good g.came) g; bad = fails p q }

module _ {s : Bool} {is js : List Component} {c d : Quill} {o o' : List ℕ} {vs : List Value} where
  -- with more components behind
  pub before : (ks : List Component) → Moves s is js c d o o' vs → Moves s (is ++ ks) (js ++ ks) c d o o' vs
  before ks p =
      record {
        good = λ h.
            let g = p.good h in
            record {
              holds = g.holds;
              came = g.came;
              w = g.w;
              small = g.small;
              k = g.k;
              whole = g.whole;
              so = λ rest b.
                  writes_append is ks (pen_at (vs ++ rest) c.room b) ∙ ap (writes ks) (g.so rest b) ∙ sym (writes_append js ks (pen_at rest d.room (b ++ g.w)));
              to = g.to;
              ink = g.ink;
            };
        bad = λ h k. stops (p.bad h k);
      }
    where
      stops : (s ≡ false) ⊎ Stops is c.room vs → (s ≡ false) ⊎ Stops (is ++ ks) c.room vs
      stops (inl x) = inl x
      stops (inr x) = inr (record { so = λ rest b. ap (λ (z : Pen). z.ok) (writes_append is ks (pen_at (vs ++ rest) c.room b)) ∙ writes_dead ks (writes is (pen_at (vs ++ rest) c.room b)) (x.so rest b) })

-- components, and then others
pub and_then : {s t : Bool} {is js : List Component} {c d e : Quill} {o o₁ o₂ : List ℕ} {vs ws : List Value}
    → Puts s is c d o o₁ vs → Puts t js d e o₁ o₂ ws → Puts (s && t) (is ++ js) c e o o₂ (vs ++ ws)
and_then {js = js} p q = then (before js p) q

-- nothing
pub nothing : (is : List Component) (c : Quill) (o : List ℕ) → Moves true is is c c o o []
nothing is c o =
    record {
      good = λ h.
          record {
            holds = refl;
            came = h;
            w = [];
            small = below_nil (omega arith);
            k = 0;
            whole = refl;
            so = λ rest b. rw append-nil;
            to = ap (λ (n : ℕ). least n) (omega arith);
            ink = λ octs near fits. sym (put_none o (8 * c.at) octs);
          };
      bad = λ h k. never (sym h ∙ k);
    }

-- nothing is written any more
pub idle : {s : Bool} {is js : List Component} {c r : Quill} {o o' : List ℕ} {vs : List Value} → c.ok ≡ false → r.ok ≡ false → Moves s is js c r o o' vs
idle n m = record { good = λ h. never (sym m ∙ h); bad = λ h k. never (sym n ∙ k) }

-- ---- the limit of rows

pub limited_fits : {n : ℕ} {c : Quill} → n ≤ most_rows → c ≡ limited n c
unfolding limited
limited_fits {n} {c} h = rw (le-leb n most_rows h, and_unit c.ok)

pub limited_breaks : {n : ℕ} (c : Quill) {r : Quill} → most_rows < n → r ≡ halted c → r ≡ limited n c
unfolding limited
limited_breaks {n} c h e = e ∙ rw (lt-leb n most_rows h, and_right c.ok refl)

limited_stopped : (n : ℕ) {c : Quill} → c.ok ≡ false → c ≡ limited n c
unfolding limited
limited_stopped n h = rw h

-- n rows, as many as are counted where all so far is in range, keep the limit or stop the writing
module _ {s : Bool} {is js : List Component} {c q : Quill} {o o' : List ℕ} {vs : List Value} (p : Moves s is js c q o o' vs) where
  pub limit : {n : ℕ} (used : ℕ) → (q.ok ≡ true → used ≡ n) → {r : Quill} → r ≡ limited used q → Moves (s && leb n most_rows) is js c r o o' vs
  unfolding limited
  limit {n} used same e =
      rw e
      (record {
        good = λ h.
            let a = both q.ok (leb used most_rows) h in
            let g = p.good a.0 in
            record {
              holds = and_true g.holds (ap (λ (k : ℕ). leb k most_rows) (sym (same a.0)) ∙ a.1);
              came = g.came;
              w = g.w;
              small = g.small;
              so = g.so;
              k = g.k;
              whole = g.whole;
              to = g.to;
              ink = g.ink;
            };
        bad = λ h k. by_cases q.ok (λ g. inl (and_right s (ap (λ (k : ℕ). leb k most_rows) (sym (same g)) ∙ (rw g at h)))) (λ g. stops (p.bad g k));
      })
    where
      stops : (s ≡ false) ⊎ Stops is c.room vs → ((s && leb n most_rows) ≡ false) ⊎ Stops is c.room vs
      stops (inl x) = inl (and_left (leb n most_rows) x)
      stops (inr x) = inr x

  -- what is stopped already
  pub limit_stopped : (n : ℕ) → q.ok ≡ false → Moves (s && leb n most_rows) is js c q o o' vs
  limit_stopped n h = limit n (λ g. refl) (limited_stopped n h)
