-- The bits of one component, and its checks: what the cursor's functions compute is a step of the definitions' reader.
-- Assumes nothing.
use Prim.Native.Nat.{ℕ, suc, ◌+◌, ◌-◌, ◌*◌, ◌/◌, ◌^◌, ◌≤◌, ◌<◌}
use mathlib.Core.Path.{◌≡◌, refl, ap, sym, ◌∙◌}
use mathlib.Core.List.{List, [], ◌∷◌}
use mathlib.Core.Bool.{Bool, true, false, not, ◌||◌}
use native.Mathlib.Omega.{arith}
use lib.ListN.{length, get_or, drop}
use lib.Dec.{ltb, leb, eqb}
use lib.Pow.{pow_pos}
use borrow.Author.Tests.{eq-eqb, ne_eqb, le-ltb, lt-ltb, eqb-true, eqb-false, ltb-true, ltb-false, leb-true, leb-false, not-true, not-false}
use Rattle.refusals.specs.Check.{pick, Check, check, first_of}
use Rattle.refusals.proofs.Tests.{by_test, by_cases}
use Rattle.bits.specs.Bits.{bits, read_field}
use Rattle.bits.specs.Strings.{is_inside}
use Rattle.bits.proofs.Laws.{length_bits, field_lt}
use Rattle.apdu_format.specs.Limits.{most_counted, deepest}
use Rattle.apdu_format.specs.Component.{Component, choice, lead, integer, fixed, string_form, string_length, string_octets, id_count, list_start, row_count, entry_count, entry, container, class}
use Rattle.apdu_format.specs.Table.{table}
use Rattle.apdu_format.specs.Rules.{shape, begins, is_set, after, known_kind, checks_of, announced}
use Rattle.apdu_format.specs.Reading.{Value, need, numbers_of, value_at, octet_of, beginning, fault_of, position_of, judged, step}
use Rattle.apdu_reading.specs.declared.cursor.Cursor.{Cursor}
use Rattle.apdu_reading.specs.Cursor.{cursor, state_of, component, judged_by, piece_of, marked_at, skipped}

-- ---- a piece

pub read_lt : (s : List ℕ) (at w : ℕ) → read_field s at w < 2 ^ w
unfolding read_field
read_lt s at w = by_test (λ (v : ℕ). v < 2 ^ w) (leb w 48) (λ p. field_lt s at w) (λ p. pow_pos w)

pub value_lt : (s : List ℕ) (at w : ℕ) {v : ℕ} → v ≡ read_field s at w → v < 2 ^ w
value_lt s at w f = rw f (read_lt s at w)

module _ (s : List ℕ) (w : ℕ) (b : Bool) (c : Cursor) where
  pub piece_stopped : (c.fault ≡ 0 → ⊥) → cursor c.at c.begun c.room c.fault c.position 0 0 ≡ piece_of s w b c
  unfolding piece_of
  piece_stopped h = rw (ne_eqb _ _ h)

  pub piece_cut : c.fault ≡ 0 → 8 * length s < c.at + w → cursor c.at c.begun c.room 13 (length s) 0 0 ≡ piece_of s w b c
  unfolding piece_of
  piece_cut h k = rw (eq-eqb _ _ h, lt-ltb _ _ k)

  pub piece_read : c.fault ≡ 0 → c.at + w ≤ 8 * length s → piece_of s w b c ≡ cursor (c.at + w) (pick b c.at c.begun) c.room 0 0 (read_field s c.at w) 0
  unfolding piece_of
  piece_read h k = rw (eq-eqb _ _ h, le-ltb _ _ k)

  pub piece_begins : {v : ℕ} → c.fault ≡ 0 → b ≡ true → v ≡ read_field s c.at w → c.at + w ≤ 8 * length s → cursor (c.at + w) c.at c.room 0 0 v 0 ≡ piece_of s w b c
  piece_begins h e f k = rw (piece_read h k, e, f)

  pub piece_goes_on : {v : ℕ} → c.fault ≡ 0 → b ≡ false → v ≡ read_field s c.at w → c.at + w ≤ 8 * length s → cursor (c.at + w) c.begun c.room 0 0 v 0 ≡ piece_of s w b c
  piece_goes_on h e f k = rw (piece_read h k, e, f)

-- ---- a component is its piece and its checks

abbrev pub sees : List ℕ → Component → Cursor → Value
sees s i c = value_at (shape i) c.at (drop c.at (bits s))

abbrev pub checks_at : List ℕ → Component → Cursor → List Check
checks_at s i c = checks_of i c.room (numbers_of (sees s i c))

-- a cursor behind what announces so many rows
unfoldable pub spent_by : ℕ → Cursor → Cursor
spent_by n d = pick (eqb d.fault 0) (cursor d.at d.begun (d.room - n) d.fault d.position d.value d.start) d

pub spent_none : (d : Cursor) → spent_by 0 d ≡ d
unfolding spent_by
spent_none d = let z : d.room - 0 ≡ d.room = omega arith in by_test (λ (e : Cursor). e ≡ d) (eqb d.fault 0) (λ p. rw z) (λ p. refl)

-- d, judged by checks in order
abbrev pub judged_all : Cursor → List Check → Cursor → Cursor
judged_all c ks d = judged_by c (first_of ks) (not (eqb (first_of ks) 0)) d

module _ (s : List ℕ) (i : Component) (c : Cursor) where
  -- the four ways out of one component
  pub stopped : (c.fault ≡ 0 → ⊥) → component s i c ≡ cursor c.at c.begun c.room c.fault c.position 0 0
  unfolding component step state_of
  stopped h = rw (ne_eqb _ _ h, ne_eqb _ _ h)

  pub cut : c.fault ≡ 0 → 8 * length s < c.at + need (shape i) → component s i c ≡ cursor c.at c.begun c.room 13 (length s) 0 0
  unfolding component step state_of judged fault_of first_of position_of octet_of
  cut h k =
      let e : 8 * length s / 8 ≡ length s = omega arith in
      rw (eq-eqb _ _ h, length_bits s, lt-ltb _ _ k, e)

  pub faulty : c.fault ≡ 0 → c.at + need (shape i) ≤ 8 * length s → (k : ℕ) → (k ≡ 0 → ⊥) → (k ≡ 13 → ⊥) → first_of (checks_at s i c) ≡ k
      → component s i c ≡ cursor c.at c.begun c.room k (pick (begins i) c.at c.begun / 8) 0 0
  unfolding component step state_of judged fault_of first_of position_of octet_of beginning
  faulty h l k n m w = rw (eq-eqb _ _ h, length_bits s, le-ltb _ _ l, w, ne_eqb _ _ n, ne_eqb _ _ m, ne_eqb _ _ n)

  pub fine : c.fault ≡ 0 → c.at + need (shape i) ≤ 8 * length s → first_of (checks_at s i c) ≡ 0
      → component s i c
      ≡ cursor (c.at + need (shape i)) (pick (begins i) c.at c.begun) (c.room - announced i (numbers_of (sees s i c))) 0 0 (read_field s c.at (need (shape i))) 0
  unfolding component step state_of judged fault_of first_of beginning
  fine h l w = rw (eq-eqb _ _ h, length_bits s, le-ltb _ _ l, w)

-- checks above 13
one : (a : Bool) (k : ℕ) → ◌≡◌ {A = ℕ} (pick a (13 + suc k) 0) 13 → ⊥
one true k h = omega arith
one false k h = omega arith

two : (a : Bool) (k : ℕ) (b : Bool) (l : ℕ) → ◌≡◌ {A = ℕ} (pick a (13 + suc k) (pick b (13 + suc l) 0)) 13 → ⊥
two true k b l h = omega arith
two false k b l h = one b l h

three : (a : Bool) (k : ℕ) (b : Bool) (l : ℕ) (c : Bool) (m : ℕ) → ◌≡◌ {A = ℕ} (pick a (13 + suc k) (pick b (13 + suc l) (pick c (13 + suc m) 0))) 13 → ⊥
three true k b l c m h = omega arith
three false k b l c m h = two b l c m h

-- a component that is read
pub record Good (s : List ℕ) (i : Component) (c : Cursor) : Type 0 where
  pub clean : c.fault ≡ 0
  pub there : c.at + need (shape i) ≤ 8 * length s
  pub right : first_of (checks_at s i c) ≡ 0

-- no component checks for 13 itself
pub no_13 : (i : Component) (room : ℕ) (fs : List ℕ) → first_of (checks_of i room fs) ≡ 13 → ⊥
unfolding checks_of first_of
no_13 choice room fs = one (leb (length table) (get_or fs 0 0)) 1
no_13 (lead k) room fs = λ h. omega arith
no_13 integer room fs = one (is_set fs 0) 2
no_13 (fixed n) room fs = λ h. omega arith
no_13 string_form room fs = one (is_set fs 0) 2
no_13 string_length room fs = λ h. omega arith
no_13 (string_octets n) room fs = λ h. omega arith
no_13 id_count room fs = two (is_set fs 0) 2 (ltb most_counted (after fs)) 4
no_13 list_start room fs = λ h. omega arith
no_13 (row_count d) room fs = two (is_set fs 0) 2 (ltb most_counted (after fs) || ltb room (after fs)) 4
no_13 entry_count room fs = two (is_set fs 0) 2 (ltb most_counted (after fs)) 4
no_13 entry room fs = one (is_set fs 2) 2
no_13 (container d) room fs = three (is_set fs 0) 2 (ltb deepest d) 5 (not (known_kind (after fs))) 3
no_13 class room fs = λ h. omega arith

module _ (s : List ℕ) (i : Component) (c : Cursor) where
  -- what holds of a component, whichever way it goes
  pub ways : (P : Cursor → Type 0)
      → ((c.fault ≡ 0 → ⊥) → P (cursor c.at c.begun c.room c.fault c.position 0 0))
      → (c.fault ≡ 0 → 8 * length s < c.at + need (shape i) → P (cursor c.at c.begun c.room 13 (length s) 0 0))
      → (c.fault ≡ 0 → c.at + need (shape i) ≤ 8 * length s → (k : ℕ) → (k ≡ 0 → ⊥) → first_of (checks_at s i c) ≡ k
      → P (cursor c.at c.begun c.room k (pick (begins i) c.at c.begun / 8) 0 0))
      → (Good s i c → P (cursor (c.at + need (shape i)) (pick (begins i) c.at c.begun) (c.room - announced i (numbers_of (sees s i c))) 0 0 (read_field s c.at (need (shape i))) 0))
      → P (component s i c)
  ways P f g h k =
      by_cases (eqb c.fault 0)
      (λ a. by_cases (ltb (8 * length s) (c.at + need (shape i)))
      (λ b. rw (cut s i c (eqb-true _ _ a) (ltb-true _ _ b)) (g (eqb-true _ _ a) (ltb-true _ _ b)))
      (λ b. by_cases (eqb (first_of (checks_at s i c)) 0)
      (λ e. rw (fine s i c (eqb-true _ _ a) (ltb-false _ _ b) (eqb-true _ _ e)) (k (record { clean = eqb-true _ _ a; there = ltb-false _ _ b; right = eqb-true _ _ e })))
      (λ e. rw (faulty s i c (eqb-true _ _ a) (ltb-false _ _ b) (first_of (checks_at s i c)) (eqb-false _ _ e) (no_13 i c.room (numbers_of (sees s i c))) refl)
      (h (eqb-true _ _ a) (ltb-false _ _ b) (first_of (checks_at s i c)) (eqb-false _ _ e) refl))))
      (λ a. rw (stopped s i c (eqb-false _ _ a)) (f (eqb-false _ _ a)))

  pub good : (component s i c).fault ≡ 0 → Good s i c
  good =
      ways (λ (d : Cursor). d.fault ≡ 0 → Good s i c) (λ n h. absurd (n h)) (λ e l h. absurd (omega arith)) (λ e l k n w h. absurd (n h)) (λ g h. g)

  -- nothing is said behind a fault
  pub silent : ((component s i c).fault ≡ 0 → ⊥) → (component s i c).value ≡ 0
  silent =
      ways (λ (d : Cursor). (d.fault ≡ 0 → ⊥) → d.value ≡ 0) (λ n h. refl) (λ e l h. refl) (λ e l k n w h. refl) (λ g h. absurd (h refl))

  pub room_kept : ((fs : List ℕ) → announced i fs ≡ 0) → (component s i c).room ≡ c.room
  room_kept a =
      ways (λ (d : Cursor). d.room ≡ c.room) (λ n. refl) (λ e l. refl) (λ e l k n w. refl)
      (λ g. let z : c.room - 0 ≡ c.room = omega arith in rw (a (numbers_of (sees s i c)), z))

  -- a component is its piece, judged by its checks, and then what it announces is spent
  pub component_is : spent_by (announced i (numbers_of (sees s i c))) (judged_all c (checks_at s i c) (piece_of s (need (shape i)) (begins i) c)) ≡ component s i c
  unfolding judged_by spent_by
  component_is =
      let w = need (shape i) in
      let b = begins i in
      let k = first_of (checks_at s i c) in
      ways (λ (d : Cursor). spent_by (announced i (numbers_of (sees s i c))) (judged_by c k (not (eqb k 0)) (piece_of s w b c)) ≡ d)
      (λ n. rw (← piece_stopped s w b c n, ne_eqb _ _ n, ne_eqb _ _ n))
      (λ e l. rw (← piece_cut s w b c e l))
      (λ e l j n x. rw (piece_read s w b c e l, x, ne_eqb _ _ n, ne_eqb _ _ n))
      (λ g. rw (piece_read s w b c g.clean g.there, g.right))

  pub unspent : announced i (numbers_of (sees s i c)) ≡ 0 → judged_all c (checks_at s i c) (piece_of s (need (shape i)) (begins i) c) ≡ component s i c
  unspent a =
      sym (spent_none (judged_all c (checks_at s i c) (piece_of s (need (shape i)) (begins i) c)))
      ∙ ap (λ (n : ℕ). spent_by n (judged_all c (checks_at s i c) (piece_of s (need (shape i)) (begins i) c))) (sym a)
      ∙ component_is

-- ---- checks one by one

module _ (c : Cursor) where
  pub judged_none : (d : Cursor) → judged_all c [] d ≡ d
  unfolding judged_by first_of
  judged_none d = by_test (λ (e : Cursor). e ≡ d) (eqb d.fault 0) (λ p. refl) (λ p. refl)

  pub judged_next : (n : ℕ) (b : Bool) (ks : List Check) (d : Cursor) → judged_all c (check (suc n) b ∷ ks) d ≡ judged_all c ks (judged_by c (suc n) b d)
  unfolding judged_by first_of
  judged_next n true ks d =
      let z : eqb (suc n) 0 ≡ false = ne_eqb (suc n) 0 (λ (h : suc n ≡ 0). omega arith) in
      by_cases (eqb d.fault 0) (λ p. rw (p, z)) (λ p. rw (p, p))
  judged_next n false ks d = by_cases (eqb d.fault 0) (λ p. rw (p, p)) (λ p. rw (p, p))

  pub judged_last : (n : ℕ) (b : Bool) (d : Cursor) → judged_all c (check (suc n) b ∷ []) d ≡ judged_by c (suc n) b d
  judged_last n b d = judged_next n b [] d ∙ judged_none (judged_by c (suc n) b d)

  -- a check matters only where there is no fault
  pub judged_as : (k : ℕ) (a b : Bool) (d : Cursor) → (d.fault ≡ 0 → a ≡ b) → judged_by c k a d ≡ judged_by c k b d
  unfolding judged_by
  judged_as k a b d f = by_cases (eqb d.fault 0) (λ p. rw (p, f (eqb-true _ _ p))) (λ p. rw p)

  -- a cursor that no check refuses
  pub judged_clean : (n : ℕ) (b : Bool) (d : Cursor) → (judged_by c (suc n) b d).fault ≡ 0 → (judged_by c (suc n) b d ≡ d) × (b ≡ false) × (d.fault ≡ 0)
  unfolding judged_by
  judged_clean n true d =
      by_test (λ (e : Cursor). e.fault ≡ 0 → (e ≡ d) × (true ≡ false) × (d.fault ≡ 0)) (eqb d.fault 0) (λ p h. absurd (omega arith)) (λ p h. absurd (eqb-false _ _ p h))
  judged_clean n false d =
      by_test (λ (e : Cursor). e.fault ≡ 0 → (e ≡ d) × (false ≡ false) × (d.fault ≡ 0)) (eqb d.fault 0) (λ p h. (refl, refl, h)) (λ p h. (refl, refl, h))

  -- behind a fault nothing is said
  pub judged_value : (k : ℕ) (b : Bool) (d : Cursor) (m : ℕ) → d.value < m → (judged_by c k b d).value < m
  unfolding judged_by
  judged_value k b d m h =
      by_test (λ (e : Cursor). e.value < m) (eqb d.fault 0)
      (λ p. by_test (λ (e : Cursor). e.value < m) b (λ q. omega arith) (λ q. h)) (λ p. h)

pub judged_lt : (c : Cursor) (k : ℕ) (b : Bool) (d : Cursor) (m : ℕ) {r : Cursor} → r ≡ judged_by c k b d → d.value < m → r.value < m
judged_lt c k b d m e h = rw e (judged_value c k b d m h)

-- ---- what `piece` ensures

module _ (s : List ℕ) (w : ℕ) (b : Bool) (c : Cursor) {r : Cursor} where
  pub by_stopped : (c.fault ≡ 0 → ⊥) → r ≡ cursor c.at c.begun c.room c.fault c.position 0 0 → (r ≡ piece_of s w b c) × (r.value < 2 ^ w)
  by_stopped h e = (e ∙ piece_stopped s w b c h, rw e (pow_pos w))

  pub by_cut : c.fault ≡ 0 → r ≡ cursor c.at c.begun c.room 13 (length s) 0 0 → 8 * length s < c.at + w → (r ≡ piece_of s w b c) × (r.value < 2 ^ w)
  by_cut h e k = (e ∙ piece_cut s w b c h k, rw e (pow_pos w))

  pub by_begins : {v : ℕ} → c.fault ≡ 0 → b ≡ true → v ≡ read_field s c.at w → r ≡ cursor (c.at + w) c.at c.room 0 0 v 0 → c.at + w ≤ 8 * length s → (r ≡ piece_of s w b c) × (r.value < 2 ^ w)
  by_begins h t f e k = (e ∙ piece_begins s w b c h t f k, rw e (value_lt s c.at w f))

  pub by_goes_on : {v : ℕ} → c.fault ≡ 0 → b ≡ false → v ≡ read_field s c.at w → r ≡ cursor (c.at + w) c.begun c.room 0 0 v 0 → c.at + w ≤ 8 * length s → (r ≡ piece_of s w b c) × (r.value < 2 ^ w)
  by_goes_on h t f e k = (e ∙ piece_goes_on s w b c h t f k, rw e (value_lt s c.at w f))

-- ---- what `skip` ensures

pub all_there : (octets start n : ℕ) {b : Bool} → b ≡ is_inside octets start n → not b ≡ false → start + 8 * n ≤ 8 * octets
unfolding is_inside
all_there octets start n {b} e h = leb-true _ _ (sym e ∙ not-false b h)

module _ (s : List ℕ) (c : Cursor) {r : Cursor} where
  pub skip_stopped : (c.fault ≡ 0 → ⊥) → r ≡ marked_at c c.value c.at → r ≡ skipped s c
  unfolding marked_at
  skip_stopped h e = rw (← piece_stopped s (8 * c.value) false c h) e

  module _ {b : Bool} (i : b ≡ is_inside (length s) c.at c.value) {d : Cursor} (e : r ≡ marked_at d c.value c.at) where
    pub skip_cut : c.fault ≡ 0 → not b ≡ true → d ≡ cursor c.at c.begun c.room 13 (length s) 0 0 → r ≡ skipped s c
    unfolding is_inside
    skip_cut h t f = rw (← piece_cut s (8 * c.value) false c h (leb-false _ _ (sym i ∙ not-true b t)), ← f) e

    pub skip_past : c.fault ≡ 0 → not b ≡ false → d ≡ cursor (c.at + 8 * c.value) c.begun c.room 0 0 c.value 0 → r ≡ skipped s c
    unfolding marked_at
    skip_past h t f = rw (piece_read s (8 * c.value) false c h (all_there _ _ _ i t)) (rw f at e)
