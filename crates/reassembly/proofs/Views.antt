-- What the table and the store hold, and what the ledger keeps, in one form.
use mathlib.Core.Path.{◌≡◌, refl, sym, ap, ◌∙◌}
use mathlib.Core.Bool.{Bool, true, false, not, ◌&&◌}
use mathlib.Core.List.{List, [], ◌∷◌, map}
use Prim.Native.Nat.{ℕ, ◌+◌}
use native.Mathlib.Omega.{arith}
use lib.ListN.{length, take, drop}
use Rattle.refusals.specs.Check.{pick}
use Rattle.slots.specs.declared.Slot.{Slot}
use Rattle.slots.specs.Slots.{free, is_busy, total}
use Rattle.slots.specs.Sweep.{freed, dropped_by}
use Rattle.reassembly.specs.Ledger.{Message, those, joined, octets_of}
use Rattle.reassembly.proofs.Perm.{Perm, perm_those, perm_total}

pub record View : Type 0 where
  pub lid : ℕ
  pub number : ℕ
  pub next : ℕ
  pub held : ℕ
  pub tick : ℕ
  pub payload : List ℕ

abbrev pub view_of : Slot → List ℕ → View
view_of p part = record { lid = p.lid; number = p.number; next = p.next; held = p.held; tick = p.tick; payload = take p.held part }

-- the busy slots, each with what its part of the store holds
unfoldable pub views : List Slot → List ℕ → List View
views [] store = []
views (p ∷ slots) store = pick (is_busy p) (view_of p store ∷ views slots (drop 512 store)) (views slots (drop 512 store))

abbrev pub view_in : Message → View
view_in m = record { lid = m.lid; number = m.number; next = length m.payloads; held = octets_of m; tick = m.tick; payload = joined m.payloads }

-- the relation between the engine's state and the ledger
unfoldable pub Same : List Slot → List ℕ → List Message → Type 0
Same slots store l = Perm (views slots store) (map view_in l)

-- ---- dropping by a test on the views

pub those_map : {A B : Type 0} (f : B → Bool) (g : A → B) (l : List A) → map g (those (λ x. f (g x)) l) ≡ those f (map g l)
unfolding those
those_map f g [] = refl
those_map f g (x ∷ l) = go (those_map f g l) (f (g x))
  where
    go : map g (those (λ x. f (g x)) l) ≡ those f (map g l) → (b : Bool) → map g (pick b (x ∷ those (λ x. f (g x)) l) (those (λ x. f (g x)) l)) ≡ pick b (g x ∷ those f (map g l)) (those f (map g l))
    go rest true = ap (λ m. g x ∷ m) rest
    go rest false = rest

pub total_map : {A B : Type 0} (f : B → ℕ) (g : A → B) (l : List A) → total (λ x. f (g x)) l ≡ total f (map g l)
unfolding total
total_map f g [] = refl
total_map f g (x ∷ l) = ap (λ (n : ℕ). f (g x) + n) (total_map f g l)

module _ (f : Slot → Bool) (g : View → Bool) (agree : (p : Slot) (store : List ℕ) → f p ≡ is_busy p && g (view_of p store)) where
  -- the swept table holds what the test leaves
  pub views_sweep : (slots : List Slot) (store : List ℕ) → views (freed f slots) store ≡ those (λ v. not (g v)) (views slots store)
  unfolding views freed those
  views_sweep [] store = refl
  views_sweep (p ∷ slots) store = rw (agree p store) (go (views_sweep slots (drop 512 store)) (is_busy p) refl (g (view_of p store)) refl)
    where
      go : views (freed f slots) (drop 512 store) ≡ those (λ v. not (g v)) (views slots (drop 512 store)) → (b : Bool) → is_busy p ≡ b → (c : Bool) → g (view_of p store) ≡ c
          → views (pick (b && c) free p ∷ freed f slots) store ≡ those (λ v. not (g v)) (pick b (view_of p store ∷ views slots (drop 512 store)) (views slots (drop 512 store)))
      go rest true eb true ec = rw ec rest
      go rest true eb false ec = rw (eb, ec) (ap (λ l. view_of p store ∷ l) rest)
      go rest false eb true ec = rw eb rest
      go rest false eb false ec = rw eb rest

  -- the octets reported are those of the messages that the test picks
  pub held_views : (slots : List Slot) (store : List ℕ) → dropped_by f slots ≡ total (λ v. v.held) (those g (views slots store))
  unfolding views dropped_by those total
  held_views [] store = refl
  held_views (p ∷ slots) store = rw (agree p store) (go (held_views slots (drop 512 store)) (is_busy p) (g (view_of p store)) refl)
    where
      go : dropped_by f slots ≡ total (λ v. v.held) (those g (views slots (drop 512 store))) → (b c : Bool) → g (view_of p store) ≡ c
          → pick (b && c) p.held 0 + dropped_by f slots ≡ total (λ v. v.held) (those g (pick b (view_of p store ∷ views slots (drop 512 store)) (views slots (drop 512 store))))
      go rest true true ec = rw ec (ap (λ (n : ℕ). p.held + n) rest)
      go rest true false ec = rw ec (omega (arith, rest))
      go rest false true ec = omega (arith, rest)
      go rest false false ec = omega (arith, rest)

  module _ (slots : List Slot) (store : List ℕ) (l : List Message) (same : Same slots store l) where
    pub drop_same : Same (freed f slots) store (those (λ m. not (g (view_in m))) l)
    unfolding Same
    drop_same = rw (views_sweep slots store, those_map (λ v. not (g v)) view_in l) (perm_those (λ v. not (g v)) same)

    pub drop_count : dropped_by f slots ≡ total octets_of (those (λ m. g (view_in m)) l)
    unfolding Same
    drop_count =
        held_views slots store ∙ perm_total (λ v. v.held) (perm_those g same)
        ∙ ap (total (λ v. v.held)) (sym (those_map g view_in l)) ∙ sym (total_map (λ v. v.held) view_in (those (λ m. g (view_in m)) l))
