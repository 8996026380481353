-- What a SET leaves: a row holds the last value set; a row that it does not name keeps its octets, and so does a protected row without the tag's exact
-- credentials. The values lie inside the request, as reading says of every record (SoundRecord).
-- Assumes nothing.
use Prim.Native.Nat.{ℕ, suc, ◌+◌, ◌≤◌, ◌<◌}
use mathlib.Core.Path.{◌≡◌, refl, ap, sym, ◌∙◌}
use mathlib.Core.Bool.{Bool, true, false, not, ◌&&◌, ◌||◌}
use mathlib.Core.List.{List, [], ◌∷◌, ◌++◌}
use mathlib.Core.Logic.{◌⊎◌, inl, inr}
use native.Mathlib.Nat.{add-zero}
use native.Mathlib.Omega.{arith}
use lib.Dec.{eqb, ltb, leb}
use lib.ListN.{length, take, drop, length-append, length-drop, take-append-drop}
use lib.Seq.{length-take-le}
use borrow.Author.Tests.{eq-eqb, ne_eqb, eqb-true, eqb-false, lt-ltb, ltb-true, ltb-false, le-leb, leb-true, not-true, not-false}
use Rattle.refusals.specs.Check.{first_of}
use Rattle.refusals.proofs.Tests.{by_test, by_cases, first_none, and_true}
use Rattle.bits.specs.Strings.{is_inside, string_at, copy_fits, copy_string}
use Rattle.bits.proofs.Strings.{length_string}
use Rattle.apdu_format.specs.Component.{octet_string}
use Rattle.apdu_format.proofs.Tests.{never, both}
use Rattle.apdu.specs.Sound.{part_fits, parts_fit}
use Rattle.directory.specs.declared.Row.{Row}
use Rattle.directory.specs.Directory.{share_octet, clashes, apart_from, all_apart, each_sound, sound_directory, index_of, known_in, row_of}
use Rattle.directory.proofs.Looking.{sound_row, inside_area, in_writable_law}
use Rattle.attributes.specs.Serving.{Attribute, denied, set_fault, set_faults, set_row, set_rows, value_of}
use Rattle.attribute_promises.specs.Promises.{Unnamed, Outside}
use Rattle.attribute_promises.proofs.Promises.{set_value, set_leaves, set_octet, set_factory_left}

-- ---- rows with different ids share no octet

or_none : (a b : Bool) → (a || b) ≡ false → (a ≡ false) × (b ≡ false)
or_none true b h = never (sym h)
or_none false b h = (refl, h)

-- the row of an id, and whether it is known, behind a first row
module _ (r : Row) (rs : List Row) (id : ℕ) where
  row_first : r.id ≡ id → row_of id (r ∷ rs) ≡ r
  unfolding row_of index_of
  row_first e = rw (eq-eqb r.id id e)

  row_later : (r.id ≡ id → ⊥) → row_of id (r ∷ rs) ≡ row_of id rs
  unfolding row_of index_of
  row_later n = rw (ne_eqb r.id id n)

  known_later : (r.id ≡ id → ⊥) → known_in id (r ∷ rs) ≡ true → known_in id rs ≡ true
  unfolding known_in index_of
  known_later n h =
      let k : ltb (suc (index_of id rs)) (suc (length rs)) ≡ true = rw (ne_eqb r.id id n) at h in
      lt-ltb (index_of id rs) (length rs) (omega (arith, ltb-true (suc (index_of id rs)) (suc (length rs)) k))

pub row_id : (rows : List Row) (id : ℕ) → known_in id rows ≡ true → (row_of id rows).id ≡ id
row_id [] id k = never (unfold known_in index_of in k)
row_id (r ∷ rs) id k =
    by_cases (eqb r.id id)
    (λ t. let e = eqb-true r.id id t in ap (λ (x : Row). x.id) (row_first r rs id e) ∙ e)
    (λ t. let n = eqb-false r.id id t in ap (λ (x : Row). x.id) (row_later r rs id n) ∙ row_id rs id (known_later r rs id n k))

apart_at : (a : Row) (rs : List Row) (id : ℕ) → apart_from a rs ≡ true → known_in id rs ≡ true → clashes a (row_of id rs) ≡ false
unfolding apart_from
apart_at a [] id h k = never (unfold known_in index_of in k)
apart_at a (r ∷ rs) id h k =
    let q = both (not (clashes a r)) (apart_from a rs) h in
    by_cases (eqb r.id id)
    (λ t. ap (clashes a) (row_first r rs id (eqb-true r.id id t)) ∙ not-true (clashes a r) q.0)
    (λ t.
    let n = eqb-false r.id id t in
    ap (clashes a) (row_later r rs id n) ∙ apart_at a rs id q.1 (known_later r rs id n k))

apart_ids : (rs : List Row) (i j : ℕ) → all_apart rs ≡ true → (i ≡ j → ⊥) → known_in i rs ≡ true → known_in j rs ≡ true
    → (clashes (row_of i rs) (row_of j rs) ≡ false) ⊎ (clashes (row_of j rs) (row_of i rs) ≡ false)
unfolding all_apart
apart_ids [] i j h n a b = never (unfold known_in index_of in a)
apart_ids (r ∷ rs) i j h n a b =
    let q = both (apart_from r rs) (all_apart rs) h in
    by_cases (eqb r.id i)
    (λ t.
    let e = eqb-true r.id i t in
    let m : r.id ≡ j → ⊥ = λ z. n (sym e ∙ z) in
    inl (rw (row_first r rs i e, row_later r rs j m) (apart_at r rs j q.0 (known_later r rs j m b))))
    (λ t.
    let m = eqb-false r.id i t in
    by_cases (eqb r.id j)
    (λ u. let e = eqb-true r.id j u in inr (rw (row_first r rs j e, row_later r rs i m) (apart_at r rs i q.0 (known_later r rs i m a))))
    (λ u.
    let l = eqb-false r.id j u in
    rw (row_later r rs i m, row_later r rs j l) (apart_ids rs i j q.1 n (known_later r rs i m a) (known_later r rs j l b))))

-- two rows of the writable area, neither empty, stand one behind the other
disjoint : (a b : Row) → clashes a b ≡ false → a.writable ≡ true → b.writable ≡ true → 0 < a.length → 0 < b.length
    → (a.start + a.length ≤ b.start) ⊎ (b.start + b.length ≤ a.start)
unfolding clashes share_octet
disjoint a b h p q m n =
    let s : (ltb a.start (b.start + b.length) && ltb b.start (a.start + a.length)) ≡ false =
    rw (p, q, lt-ltb 0 a.length m, lt-ltb 0 b.length n) at (or_none (eqb a.id b.id) _ h).1 in
    by_cases (ltb a.start (b.start + b.length))
    (λ t. inl (ltb-false b.start (a.start + a.length) (rw t at s)))
    (λ t. inr (ltb-false a.start (b.start + b.length) t))

all_apart_law : (f w : ℕ) (rows : List Row) → sound_directory f w rows ≡ true → all_apart rows ≡ true
unfolding sound_directory
all_apart_law f w rows h = (both (each_sound f w rows) (all_apart rows) (both (leb (length rows) 32) (each_sound f w rows && all_apart rows) h).1).1

value_empty : (f w w' : List ℕ) (row : Row) → row.length ≡ 0 → value_of f w row ≡ value_of f w' row
unfolding value_of
value_empty f w w' row e = rw e

denied_shut : (row : Row) → row.protected ≡ true → denied false row ≡ true
unfolding denied
denied_shut row g = rw g

-- ---- the length of the area

row_length : (s : List ℕ) (rows : List Row) (a : Attribute) (w : List ℕ) → length (set_row s rows a w) ≡ length w
unfolding set_row copy_string copy_fits
row_length s rows a w =
    let at = (row_of a.id rows).start in
    let v = string_at s a.start a.n in
    let inside = is_inside (length s) a.start a.n in
    by_test (λ (l : List ℕ). length l ≡ length w) (inside && leb (at + a.n) (length w))
    (λ t.
    let c = leb-true (at + a.n) (length w) (both inside (leb (at + a.n) (length w)) t).1 in
    omega (arith, length-append (take at w) (v ++ drop (at + a.n) w), length-append v (drop (at + a.n) w), length-drop (at + a.n) w, length_string s a.start a.n, length-take-le at w (omega (arith, c)), c))
    (λ t. refl)

pub rows_length : (s : List ℕ) (rows : List Row) (attributes : List Attribute) (w : List ℕ) → length (set_rows s rows attributes w) ≡ length w
unfolding set_rows
rows_length s rows [] w = refl
rows_length s rows (a ∷ rest) w = rows_length s rows rest (set_row s rows a w) ∙ row_length s rows a w

-- ---- an attribute without a fault

pub record Fine (rows : List Row) (exact : Bool) (a : Attribute) : Type 0 where
  pub known : known_in a.id rows ≡ true
  pub string : a.kind ≡ octet_string
  pub whole : a.n ≡ (row_of a.id rows).length
  ours : (row_of a.id rows).writable ≡ true
  free : denied exact (row_of a.id rows) ≡ false

module _ (rows : List Row) (exact : Bool) where
  fine_first : (a : Attribute) (rest : List Attribute) → first_of (set_faults rows exact (a ∷ rest)) ≡ 0 → Fine rows exact a × (first_of (set_faults rows exact rest) ≡ 0)
  unfolding set_faults set_fault
  fine_first a rest h =
      let p = first_none 1 (not (known_in a.id rows) || (not (eqb a.kind octet_string) || not (eqb a.n (row_of a.id rows).length))) _ h in
      let q = first_none 0 (denied exact (row_of a.id rows) || not (row_of a.id rows).writable) (set_faults rows exact rest) p.1 in
      let x = or_none (not (known_in a.id rows)) _ p.0 in
      let y = or_none (not (eqb a.kind octet_string)) _ x.1 in
      let z = or_none (denied exact (row_of a.id rows)) _ q.0 in (
        record {
          known = not-false (known_in a.id rows) x.0;
          string = eqb-true a.kind octet_string (not-false (eqb a.kind octet_string) y.0);
          whole = eqb-true a.n (row_of a.id rows).length (not-false (eqb a.n (row_of a.id rows).length) y.1);
          ours = not-false (row_of a.id rows).writable z.1;
          free = z.0;
        },
        q.1,
      )

  pub fine_among : (a : Attribute) (xs ys : List Attribute) → first_of (set_faults rows exact (xs ++ (a ∷ ys))) ≡ 0 → Fine rows exact a
  fine_among a [] ys h = (fine_first a ys h).0
  fine_among a (x ∷ xs) ys h = fine_among a xs ys (fine_first x (xs ++ (a ∷ ys)) h).1

module _ (s : List ℕ) (rows : List Row) (exact : Bool) (f w : List ℕ) (sound : sound_directory (length f) (length w) rows ≡ true) (a : Attribute) (fine : Fine rows exact a)
    (inside : part_fits (length s) a.kind a.n a.start ≡ true) where
  abbrev target : Row
  target = row_of a.id rows

  copy_fits_law : copy_fits s a.start a.n w target.start ≡ true
  unfolding copy_fits part_fits
  copy_fits_law =
      let i : is_inside (length s) a.start a.n ≡ true = rw fine.string at inside in
      let k = in_writable_law (length f) (length w) target (inside_area (length f) (length w) target (sound_row (length f) (length w) rows sound a.id)) fine.ours in
      and_true i (le-leb (target.start + a.n) (length w) (omega (arith, k, fine.whole)))

  set_nothing : a.n ≡ 0 → set_row s rows a w ≡ w
  unfolding set_row copy_string string_at
  set_nothing z = rw (copy_fits_law, z, add-zero target.start) (take-append-drop target.start w)

  -- another row keeps its octets
  one_kept : (id : ℕ) → (a.id ≡ id → ⊥) → known_in id rows ≡ true → value_of f (set_row s rows a w) (row_of id rows) ≡ value_of f w (row_of id rows)
  one_kept id n k =
      by_cases (row_of id rows).writable
      (λ t. by_cases (ltb 0 a.n) (λ u. by_cases (ltb 0 (row_of id rows).length) (λ v. apart t (ltb-true 0 a.n u) (ltb-true 0 (row_of id rows).length v)) (λ v. empty (ltb-false 0 (row_of id rows).length v))) (λ u. ap (λ (l : List ℕ). value_of f l (row_of id rows)) (set_nothing (omega (arith, ltb-false 0 a.n u)))))
      (λ t. set_factory_left s rows a f w copy_fits_law (row_of id rows) t)
    where
      empty : (row_of id rows).length ≤ 0 → value_of f (set_row s rows a w) (row_of id rows) ≡ value_of f w (row_of id rows)
      empty z = let e : (row_of id rows).length ≡ 0 = omega arith in value_empty f (set_row s rows a w) w (row_of id rows) e

      apart : (row_of id rows).writable ≡ true → 0 < a.n → 0 < (row_of id rows).length → value_of f (set_row s rows a w) (row_of id rows) ≡ value_of f w (row_of id rows)
      apart t u v = set_leaves s rows a f w copy_fits_law (row_of id rows) t (sides (apart_ids rows a.id id all n fine.known k))
        where
          all : all_apart rows ≡ true
          all = all_apart_law (length f) (length w) rows sound

          swap : ((row_of a.id rows).start + (row_of a.id rows).length ≤ (row_of id rows).start) ⊎ ((row_of id rows).start + (row_of id rows).length ≤ (row_of a.id rows).start)
              → ((row_of id rows).start + (row_of id rows).length ≤ (row_of a.id rows).start) ⊎ ((row_of a.id rows).start + a.n ≤ (row_of id rows).start)
          swap (inl x) = inr (omega (arith, fine.whole))
          swap (inr x) = inl x

          back : ((row_of id rows).start + (row_of id rows).length ≤ (row_of a.id rows).start) ⊎ ((row_of a.id rows).start + (row_of a.id rows).length ≤ (row_of id rows).start)
              → ((row_of id rows).start + (row_of id rows).length ≤ (row_of a.id rows).start) ⊎ ((row_of a.id rows).start + a.n ≤ (row_of id rows).start)
          back (inl x) = inl x
          back (inr x) = inr (omega (arith, fine.whole))

          sides : (clashes (row_of a.id rows) (row_of id rows) ≡ false) ⊎ (clashes (row_of id rows) (row_of a.id rows) ≡ false)
              → ((row_of id rows).start + (row_of id rows).length ≤ (row_of a.id rows).start) ⊎ ((row_of a.id rows).start + a.n ≤ (row_of id rows).start)
          sides (inl c) = swap (disjoint (row_of a.id rows) (row_of id rows) c fine.ours t (omega (arith, fine.whole)) v)
          sides (inr c) = back (disjoint (row_of id rows) (row_of a.id rows) c t fine.ours v (omega (arith, fine.whole)))

-- ---- a SET

module _ (s : List ℕ) (rows : List Row) (exact : Bool) (f : List ℕ) (id : ℕ) (k : known_in id rows ≡ true) where
  -- a row that no attribute names keeps its octets
  pub row_kept : (attributes : List Attribute) (w : List ℕ) → sound_directory (length f) (length w) rows ≡ true → first_of (set_faults rows exact attributes) ≡ 0 → parts_fit (length s) attributes ≡ true → Unnamed id attributes
      → value_of f (set_rows s rows attributes w) (row_of id rows) ≡ value_of f w (row_of id rows)
  unfolding set_rows parts_fit
  row_kept [] w h z i u = refl
  row_kept (a ∷ rest) w h z i u =
      let p = fine_first rows exact a rest z in
      let q = both (part_fits (length s) a.kind a.n a.start) (parts_fit (length s) rest) i in
      let l : length w ≡ length (set_row s rows a w) = sym (row_length s rows a w) in
      let g : sound_directory (length f) (length (set_row s rows a w)) rows ≡ true = ap (λ (n : ℕ). sound_directory (length f) n rows) (sym l) ∙ h in
      row_kept rest (set_row s rows a w) g p.1 q.1 u.1 ∙ one_kept s rows exact f w h a p.0 q.0 id u.0 k

-- an octet that lies in no row which the attributes name stays
module _ (s : List ℕ) (rows : List Row) (exact : Bool) (f : List ℕ) (i : ℕ) where
  within_row : (start n m : ℕ) → n ≡ m → (i < start) ⊎ (start + m ≤ i) → (i < start) ⊎ (start + n ≤ i)
  within_row start n m e (inl k) = inl k
  within_row start n m e (inr k) = inr (omega arith)

  pub octet_kept : (attributes : List Attribute) (w : List ℕ) → sound_directory (length f) (length w) rows ≡ true → first_of (set_faults rows exact attributes) ≡ 0 → parts_fit (length s) attributes ≡ true → Outside i rows attributes
      → take 1 (drop i (set_rows s rows attributes w)) ≡ take 1 (drop i w)
  unfolding set_rows parts_fit
  octet_kept [] w h z p u = refl
  octet_kept (a ∷ rest) w h z p u =
      let x = fine_first rows exact a rest z in
      let q = both (part_fits (length s) a.kind a.n a.start) (parts_fit (length s) rest) p in
      let g : sound_directory (length f) (length (set_row s rows a w)) rows ≡ true = ap (λ (n : ℕ). sound_directory (length f) n rows) (row_length s rows a w) ∙ h in
      octet_kept rest (set_row s rows a w) g x.1 q.1 u.1
      ∙ set_octet s rows a f w (copy_fits_law s rows exact f w h a x.0 q.0) i (within_row (row_of a.id rows).start a.n (row_of a.id rows).length x.0.whole u.0)

-- without the tag's exact credentials no protected row is named
pub unnamed_if : (rows : List Row) (id : ℕ) → (row_of id rows).protected ≡ true → (attributes : List Attribute) → first_of (set_faults rows false attributes) ≡ 0 → Unnamed id attributes
unnamed_if rows id g [] z = tt
unnamed_if rows id g (a ∷ rest) z =
    let p = fine_first rows false a rest z in
    (no p, unnamed_if rows id g rest p.1)
  where
    no : Fine rows false a × (first_of (set_faults rows false rest) ≡ 0) → a.id ≡ id → ⊥
    no p e =
        let h : denied false (row_of id rows) ≡ false = ap (λ (i : ℕ). denied false (row_of i rows)) (sym e) ∙ p.0.free in
        never (sym h ∙ denied_shut (row_of id rows) g)

-- a row holds the value that the last attribute with its id has
module _ (s : List ℕ) (rows : List Row) (exact : Bool) (f : List ℕ) (a : Attribute) (ys : List Attribute) (last : Unnamed a.id ys) where
  pub set_then_get : (xs : List Attribute) (w : List ℕ) → sound_directory (length f) (length w) rows ≡ true → first_of (set_faults rows exact (xs ++ (a ∷ ys))) ≡ 0 → parts_fit (length s) (xs ++ (a ∷ ys)) ≡ true
      → value_of f (set_rows s rows (xs ++ (a ∷ ys)) w) (row_of a.id rows) ≡ string_at s a.start a.n
  unfolding set_rows parts_fit
  set_then_get [] w h z i =
      let p = fine_first rows exact a ys z in
      let q = both (part_fits (length s) a.kind a.n a.start) (parts_fit (length s) ys) i in
      let g : sound_directory (length f) (length (set_row s rows a w)) rows ≡ true =
      ap (λ (n : ℕ). sound_directory (length f) n rows) (row_length s rows a w) ∙ h in
      row_kept s rows exact f a.id p.0.known ys (set_row s rows a w) g p.1 q.1 last
      ∙ set_value s rows a f w (copy_fits_law s rows exact f w h a p.0 q.0) p.0.ours p.0.whole
  set_then_get (x ∷ xs) w h z i =
      let p = fine_first rows exact x (xs ++ (a ∷ ys)) z in
      let q = both (part_fits (length s) x.kind x.n x.start) (parts_fit (length s) (xs ++ (a ∷ ys))) i in
      let g : sound_directory (length f) (length (set_row s rows x w)) rows ≡ true =
      ap (λ (n : ℕ). sound_directory (length f) n rows) (row_length s rows x w) ∙ h in
      set_then_get xs (set_row s rows x w) g p.1 q.1
