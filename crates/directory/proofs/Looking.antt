-- Laws of looking up in rows by value, and of the rows that are gathered from a lent list.
-- Assumes nothing.
use mathlib.Core.Path.{◌≡◌, refl, ap, sym, ◌∙◌, subst}
use mathlib.Core.Bool.{Bool, true, false, ◌&&◌}
use Prim.Native.Nat.{ℕ, zero, suc, min, ◌+◌, ◌-◌, ◌≤◌, ◌<◌}
use mathlib.Core.List.{List, [], ◌∷◌, ◌++◌, append_assoc, append-nil}
use native.Mathlib.Nat.{add-zero, zero-add, sub-zero}
use native.Mathlib.Numerals.{add-one}
use native.Mathlib.Omega.{arith}
use lib.Dec.{ltb, leb}
use lib.ListN.{length, length-set, get_or, take, drop as drop_l, set, replicate, drop_of_length-le, get_or-eq_default}
use lib.Seq.{take-nil, take-suc-set, take-append_seam, length-take-le, paste, paste-suc}
use borrow.Author.Tests.{lt-ltb, le-ltb, ltb-true, ltb-false, le-leb, lt-leb, leb-true, leb-false}
use denote.Ref.{Bor}
use Rattle.std.proofs.Common.{◌⊎◌, inl, inr, MatchOption, Option, Some, None}
use Rattle.std.proofs.lemmas.List.{take-append-drop, drop-set-lt}
use Rattle.std.specs.List.{slice_range}
use Rattle.std.specs.Option.{is_some, unwrap_or}
use Rattle.refusals.specs.Check.{first_of, decided, refused, accepted}
use Rattle.refusals.proofs.Tests.{by_cases}
use Rattle.directory.specs.declared.Row.{Row}
use Rattle.directory.specs.declared.Directory.{Directory}
use Rattle.directory.specs.Directory.{no_row, most_rows, area_octets, row_sound, each_sound, all_apart, sound_directory, index_of, known_in, row_of, first_row, finding, lookup_row, LookedUp, knowing}
use Rattle.directory.specs.Part.{PartOf}
use Rattle.directory.specs.Gathered.{with_row, gathered_from, gathered, list_of}

-- ---- soundness by value

-- up to 32 rows are those in front
pub list_is : (d : Directory) → d.count ≤ 32 → list_of d ≡ take d.count d.rows
unfolding list_of
list_is d few = simp (le-leb _ _ few)

pub listed_law : (rows : List Row) (count : ℕ) → length rows ≡ 32 → (r : Option (Bor (List Row)))
    → MatchOption r ((count < 0) ⊎ (length rows < count)) (λ x. (0 ≤ count) × (count ≤ length rows) × (x.now ≡ slice_range rows 0 count) × (length x.now + 0 ≡ count))
    → MatchOption r (32 < count) (λ list. (length list.now ≤ 32) × (list.now ≡ list_of (record { rows = rows; count = count })))
listed_law rows count long None h = elim h [ inl k ↦ omega arith | inr k ↦ omega arith ]
listed_law rows count long (Some x) h =
    let few : count ≤ 32 = omega arith in
    (omega arith, rw (list_is (record { rows = rows; count = count }) few) (h.2 ∙ ap (λ (n : ℕ). take n rows) (sub-zero count)))

module _ (f w : ℕ) (d : Directory) where
  pub too_many : 32 < d.count → false ≡ sound_directory f w (list_of d)
  unfolding list_of sound_directory
  too_many h = simp (lt-leb _ _ h)

-- ---- looking up by value

and_left_true : (a b : Bool) → (a && b) ≡ true → a ≡ true
and_left_true true b e = refl
and_left_true false b e = e

and_right_true : (a b : Bool) → (a && b) ≡ true → b ≡ true
and_right_true true b e = e
and_right_true false b e = let k : ◌≡◌ {A = ℕ} 0 1 = cc in absurd (omega arith)

each_at : (f w : ℕ) (rs : List Row) (i : ℕ) → each_sound f w rs ≡ true → i < length rs → row_sound f w (get_or rs i no_row) ≡ true
unfolding each_sound
each_at f w [] i e h = absurd (omega arith)
each_at f w (r ∷ rs) zero e h = and_left_true (row_sound f w r) (each_sound f w rs) e
each_at f w (r ∷ rs) (suc i) e h = each_at f w rs i (and_right_true (row_sound f w r) (each_sound f w rs) e) (omega arith)

pub inside_area : (f w : ℕ) (row : Row) → row_sound f w row ≡ true → row.start + row.length ≤ area_octets f w row
unfolding row_sound
inside_area f w row e =
    leb-true (row.start + row.length) (area_octets f w row) (and_right_true (leb row.length 127) _ (and_right_true (leb row.id 127) _ e))

-- ---- finding by value

-- of more than 32 rows none is found
pub find_many : (d : Directory) (id : ℕ) → 32 < d.count → None ≡ finding (list_of d) id
unfolding finding list_of
find_many d id h = simp (lt-leb _ _ h)

-- of at most 32 rows the row of an id is found, and none for an unknown id
pub few_finding : (rows : List Row) → length rows ≤ 32 → (id : ℕ) → finding rows id ≡ first_row rows id
unfolding finding
few_finding rows few id = simp (le-leb (length rows) most_rows few)

-- a row is found where the id is known
pub first_known : (rows : List Row) (id : ℕ) → is_some (first_row rows id) ≡ known_in id rows
unfolding first_row
first_known rows id = by_cases (known_in id rows) (λ k. simp k) (λ k. simp k)

-- the row that is found, or no row
pub first_of_id : (rows : List Row) (id : ℕ) → unwrap_or (first_row rows id) no_row ≡ row_of id rows
unfolding first_row
first_of_id rows id = by_cases (known_in id rows) (λ k. simp k) (λ k. simp k (unknown k))
  where
    unknown : known_in id rows ≡ false → no_row ≡ row_of id rows
    unknown k = sym (unfold known_in row_of in (get_or-eq_default rows no_row (ltb-false (index_of id rows) (length rows) (unfold known_in in k))))

-- ---- a sound directory

module _ (f w : ℕ) (rows : List Row) (sound : sound_directory f w rows ≡ true) where
  pub sound_short : length rows ≤ 32
  unfolding sound_directory
  sound_short = leb-true (length rows) most_rows (and_left_true (leb (length rows) most_rows) _ sound)

  each_row : each_sound f w rows ≡ true
  unfolding sound_directory
  each_row = and_left_true (each_sound f w rows) (all_apart rows) (and_right_true (leb (length rows) most_rows) _ sound)

  -- a row's part is inside its area, and so is none
  pub sound_row : (id : ℕ) → row_sound f w (row_of id rows) ≡ true
  sound_row id = by_cases (known_in id rows) (λ k. there (unfold known_in in k)) (λ k. none (unfold known_in in k))
    where
      there : ltb (index_of id rows) (length rows) ≡ true → row_sound f w (row_of id rows) ≡ true
      there k = unfold row_of in (each_at f w rows (index_of id rows) each_row (ltb-true (index_of id rows) (length rows) k))

      none : ltb (index_of id rows) (length rows) ≡ false → row_sound f w (row_of id rows) ≡ true
      none k =
          let e : row_of id rows ≡ no_row = unfold row_of in (get_or-eq_default rows no_row (ltb-false (index_of id rows) (length rows) k)) in
          rw e (unfold row_sound in le-leb 0 f (omega arith))

pub row_short : (f w : ℕ) (row : Row) → row_sound f w row ≡ true → row.length ≤ 127
unfolding row_sound
row_short f w row e = leb-true row.length 127 (and_left_true (leb row.length 127) _ (and_right_true (leb row.id 127) _ e))

-- what lookup and the second call answer
module _ (f w : ℕ) (rows : List Row) (id : ℕ) {b : Bool} (is : b ≡ sound_directory f w rows) where
  pub unsound_row : b ≡ false → no_row ≡ lookup_row f w rows id
  unfolding lookup_row
  unsound_row s = simp (← is, s)

  pub unsound_answer : b ≡ false → refused 26 ≡ knowing f w rows id
  unfolding knowing first_of decided
  unsound_answer s = simp (← is, s)

  module _ (s : b ≡ true) where
    sound_is : sound_directory f w rows ≡ true
    sound_is = sym is ∙ s

    pub known_answer : accepted (is_some (first_row rows id)) ≡ knowing f w rows id
    unfolding knowing first_of decided
    known_answer = rw (first_known rows id, sound_is)

    pub found_row : unwrap_or (first_row rows id) no_row ≡ lookup_row f w rows id
    unfolding lookup_row
    found_row = rw (first_of_id rows id) (by_cases (known_in id rows) (λ k. simp (sound_is, k)) (λ k. simp (sound_is, k) (sym (first_of_id rows id) ∙ unfold first_row in simp k)))

    pub found_inside : let row = unwrap_or (first_row rows id) no_row in row.start + row.length ≤ area_octets f w row
    found_inside = rw (first_of_id rows id) (inside_area f w (row_of id rows) (sound_row f w rows sound_is id))

-- a row whose part is inside its area
module _ (f w : ℕ) (r : Row) where
  pub no_row_inside : r ≡ no_row → r.start + r.length ≤ area_octets f w r
  no_row_inside e = rw e (omega arith)

  pub in_writable_law : r.start + r.length ≤ area_octets f w r → r.writable ≡ true → r.start + r.length ≤ w
  in_writable_law h e = simp e at h

  pub in_factory_law : r.start + r.length ≤ area_octets f w r → r.writable ≡ false → r.start + r.length ≤ f
  in_factory_law h e = simp e at h

-- ---- one row more

pub with_more : (d : Directory) (r : Row) → d.count < 32 → with_row d r ≡ record { rows = set d.rows d.count r; count = d.count + 1 }
unfolding with_row
with_more d r h = rw (lt-ltb d.count 32 h)

pub with_full : (d : Directory) (r : Row) → 32 ≤ d.count → with_row d r ≡ record { rows = d.rows; count = 33 }
unfolding with_row
with_full d r h = rw (le-ltb d.count 32 h)

-- ---- what is gathered

-- the first i rows are in place
abbrev pub so_far : List Row → ℕ → Directory
so_far list i = record { rows = list; count = i }

take_all : (n : ℕ) (rs : List Row) → length rs ≤ n → take n rs ≡ rs
take_all n [] h = take-nil n
take_all zero (r ∷ rs) h = absurd (omega arith)
take_all (suc n) (r ∷ rs) h = ap (λ (l : List Row). r ∷ l) (take_all n rs (omega arith))

over_full : (list rs : List Row) → gathered_from (so_far list 33) rs ≡ so_far list 33
unfolding gathered_from
over_full list [] = refl
over_full list (r ∷ rs) = ap (λ (d : Directory). gathered_from d rs) (with_full (so_far list 33) r (omega arith)) ∙ over_full list rs

-- behind the first i rows of a list stand those that are gathered, as far as they fit; its other rows stay
gathered_behind : (list : List Row) (i : ℕ) (rs : List Row) → length list ≡ 32 → i ≤ 32
    → gathered_from (so_far list i) rs ≡ so_far (take i list ++ (take (32 - i) rs ++ drop_l (i + length rs) list)) (min (i + length rs) 33)
unfolding gathered_from
gathered_behind list i [] l h =
    let all : take i list ++ (take (32 - i) [] ++ drop_l (i + 0) list) ≡ list = rw (take-nil {A = Row} (32 - i), add-zero i) (take-append-drop i list) in
    let n : min (i + 0) 33 ≡ i = omega arith in
    rw (all, n)
gathered_behind list i (r ∷ rs) l h =
    by_cases (ltb i 32)
    (λ b.
    let m = ltb-true i 32 b in
    let n : 32 - i ≡ suc (32 - (i + 1)) = omega arith in
    let k : i + 1 + length rs ≡ i + suc (length rs) = omega arith in
    let t : take (i + 1) (set list i r) ≡ take i list ++ (r ∷ []) =
    ap (λ (j : ℕ). take j (set list i r)) (add-one i) ∙ take-suc-set list i r (omega arith) in
    let d : drop_l (i + suc (length rs)) (set list i r) ≡ drop_l (i + suc (length rs)) list = drop-set-lt (i + suc (length rs)) list i r (omega arith) in
    ap (λ (d : Directory). gathered_from d rs) (with_more (so_far list i) r m)
    ∙ gathered_behind (set list i r) (i + 1) rs (length-set list i r ∙ l) (omega arith)
    ∙ rw (k, t, d, n) (ap (λ (rows : List Row). so_far rows (min (i + suc (length rs)) 33)) (append_assoc (take i list) (r ∷ []) (take (32 - (i + 1)) rs ++ drop_l (i + suc (length rs)) list))))
    (λ b.
    let m = ltb-false i 32 b in
    let e : i ≡ 32 = omega arith in
    let n : min (i + suc (length rs)) 33 ≡ 33 = omega arith in
    let z : 32 - i ≡ 0 = omega arith in
    let t : take i list ≡ list = take_all i list (omega arith) in
    let d : drop_l (i + suc (length rs)) list ≡ [] = drop_of_length-le list (omega arith) in
    ap (λ (d : Directory). gathered_from d rs) (with_full (so_far list i) r m) ∙ over_full list rs ∙ rw (t, n, z, d) (sym (ap (λ (rows : List Row). so_far rows 33) (append-nil list))))

-- so of a lent list the first 32 are kept
pub gathered_is : (rs : List Row) → gathered rs ≡ so_far (take 32 rs ++ drop_l (length rs) (replicate 32 no_row)) (min (length rs) 33)
gathered_is rs = gathered_behind (replicate 32 no_row) 0 rs refl (omega arith) ∙ rw (zero-add (length rs)) refl

-- as one copy stores them
pub gathered_front : (rs : List Row) → let n = min (length rs) 32 in so_far (take n rs ++ drop_l n (replicate 32 no_row)) (min (length rs) 33) ≡ gathered rs
gathered_front rs =
    by_cases (leb (length rs) 32)
    (λ b.
    let h = leb-true (length rs) 32 b in
    let n : min (length rs) 32 ≡ length rs = omega arith in
    let t : take 32 rs ≡ rs = take_all 32 rs h in
    rw (gathered_is rs, n, t, take_all (length rs) rs (omega arith)) refl)
    (λ b.
    let h = leb-false (length rs) 32 b in
    let n : min (length rs) 32 ≡ 32 = omega arith in
    let d : drop_l (length rs) (replicate 32 no_row) ≡ [] = drop_of_length-le (replicate 32 no_row) {i = length rs} (omega arith) in
    rw (gathered_is rs, n, d) refl)

-- one row more is stored
pub stored_more : (list rs : List Row) {l : List Row} (i : ℕ) → l ≡ paste list 0 rs i → i < length list → i < length rs → set l i (get_or rs i no_row) ≡ paste list 0 rs (i + 1)
stored_more list rs {l} i e h k =
    let z : 0 + i ≡ i = omega arith in
    rw (add-one, e) (subst (λ (j : ℕ). set (paste list 0 rs i) j (get_or rs i no_row) ≡ paste list 0 rs (suc i)) z (paste-suc list 0 rs i no_row (omega arith) k))

-- and all that are kept
pub gathered_stored : (rs : List Row) {list : List Row} (i : ℕ) → list ≡ paste (replicate 32 no_row) 0 rs i → i ≡ min (length rs) 32 → so_far list (min (length rs) 33) ≡ gathered rs
gathered_stored rs i e f =
    let z : 0 + min (length rs) 32 ≡ min (length rs) 32 = omega arith in
    rw (e, f, z) (gathered_front rs)

-- at most 32 rows are gathered as they are
pub gathered_few : (rs : List Row) → length rs ≤ 32 → list_of (gathered rs) ≡ rs
unfolding list_of
gathered_few rs h =
    let n : min (length rs) 33 ≡ length rs = omega arith in
    let t : take 32 rs ≡ rs = take_all 32 rs h in
    rw (gathered_is rs, n, t) (simp (le-leb (length rs) 32 h) (take-append_seam rs _))

-- more are as unsound as they were
pub gathered_many : (f w : ℕ) (rs : List Row) → 32 < length rs → sound_directory f w (list_of (gathered rs)) ≡ sound_directory f w rs
unfolding sound_directory
gathered_many f w rs h =
    let n : (gathered rs).count ≡ 33 = rw (gathered_is rs) (omega arith) in
    sym (too_many f w (gathered rs) (omega arith)) ∙ simp (lt-leb (length rs) 32 h)

-- more rows are not sound
pub unsound : (f w : ℕ) (rs : List Row) → 32 < length rs → sound_directory f w rs ≡ false
unfolding sound_directory
unsound f w rs h = simp (lt-leb (length rs) 32 h)

-- so looking up in what is gathered is looking up in the list
module _ (f w : ℕ) (rs : List Row) (id : ℕ) where
  pub gathered_row : lookup_row f w (list_of (gathered rs)) id ≡ lookup_row f w rs id
  unfolding lookup_row
  gathered_row =
      by_cases (leb (length rs) 32)
      (λ t. ap (λ (l : List Row). lookup_row f w l id) (gathered_few rs (leb-true (length rs) 32 t)))
      (λ t.
      let h = leb-false (length rs) 32 t in
      let u : sound_directory f w rs ≡ false = unsound f w rs h in
      simp (gathered_many f w rs h, u))

  pub gathered_knowing : knowing f w (list_of (gathered rs)) id ≡ knowing f w rs id
  unfolding knowing first_of decided
  gathered_knowing =
      by_cases (leb (length rs) 32)
      (λ t. ap (λ (l : List Row). knowing f w l id) (gathered_few rs (leb-true (length rs) 32 t)))
      (λ t.
      let h = leb-false (length rs) 32 t in
      let u : sound_directory f w rs ≡ false = unsound f w rs h in
      simp (gathered_many f w rs h, u))

pub gathered_looked : (rs : List Row) (factory writable : Bor (List ℕ)) (id : ℕ) (r : Bor (List ℕ))
    → LookedUp (list_of (gathered rs)) factory writable id r → LookedUp rs factory writable id r
gathered_looked rs factory writable id r l = record { part = rw (gathered_row (length factory.now) (length writable.now) rs id) at l.part }

-- ---- what a directory by value stands for, and the two areas

pub count_is : (d : Directory) → d.count ≤ 32 → length d.rows ≡ 32 → length (list_of d) ≡ d.count
count_is d few long = ap length (list_is d few) ∙ length-take-le d.count d.rows (omega arith)

module _ (rows : List Row) (factory writable : Bor (List ℕ)) (id : ℕ) (r : Bor (List ℕ)) {row : Row} (is : row ≡ lookup_row (length factory.now) (length writable.now) rows id) where
  pub looked_writable : row.writable ≡ true → PartOf writable row.start row.length r → LookedUp rows factory writable id r
  looked_writable e p = record { part = rw (← is) (simp e p) }

  pub looked_factory : row.writable ≡ false → PartOf factory row.start row.length r → LookedUp rows factory writable id r
  looked_factory e p = record { part = rw (← is) (simp e p) }
