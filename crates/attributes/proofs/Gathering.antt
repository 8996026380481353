-- Values that are gathered: a part copied, a value, one row more; and a reply does not depend on what stands behind the values.
-- Assumes nothing.
use Prim.Native.Nat.{ℕ, ◌+◌, ◌-◌, ◌*◌, ◌≤◌, ◌<◌}
use mathlib.Core.Path.{◌≡◌, refl, ap, sym, ◌∙◌}
use mathlib.Core.Bool.{Bool, true, false}
use mathlib.Core.List.{List, [], ◌∷◌, ◌++◌, append_assoc, append-nil}
use native.Mathlib.Omega.{arith}
use native.Mathlib.Numerals.{add-one}
use lib.ListN.{length, take, drop, set, length-set, length-append, length-drop}
use lib.Seq.{length-take-le, take-suc-set, take_at, take_all}
use borrow.Author.Tests.{le-leb}
use borrow.Rule.Slice.PartMut.{post_of, put_mid, Post-is}
use Rattle.refusals.specs.Check.{pick}
use Rattle.bits.specs.Bits.{Octets, field, read_field}
use Rattle.bits.specs.Strings.{is_inside, string_at, copy_fits, copy_string}
use Rattle.bits.proofs.Laws.{field_lt, below_drop, below_take}
use Rattle.bits.proofs.Aligned.{string_octets}
use Rattle.directory.specs.declared.Row.{Row}
use Rattle.directory.specs.Directory.{area_octets, row_sound, sound_directory, row_of}
use Rattle.directory.proofs.Looking.{sound_row, inside_area, row_short}
use Rattle.attributes.specs.Serving.{Attribute, ids_from, rows_of, value_of, values_in, attributes_at}
use Rattle.attributes.specs.Inside.{Gathers}
use Rattle.attributes.proofs.Faults.{ids_more, ids_none, ids_all}

-- ---- an id

pub seven_is : (s : List ℕ) (at : ℕ) {v : ℕ} → v ≡ read_field s at 7 → (v ≡ field s at 7) × (v < 128)
unfolding read_field
seven_is s at e = (e, rw e (field_lt s at 7))

-- ---- a part of an area

module _ (area out : List ℕ) (start n at : ℕ) (o : Octets area) (inside : start + n ≤ length area) (room : at + n ≤ length out) where
  pub part_copied : copy_string (take (start + n - start) (drop start area)) 0 n out at ≡ take at out ++ (take n (drop start area) ++ drop (at + n) out)
  unfolding copy_string copy_fits is_inside
  part_copied =
      let k : start + n - start ≡ n = omega arith in
      let z : 0 + n - 0 ≡ n = omega arith in
      let l = take n (drop start area) in
      let m : length l ≡ n = length-take-le n (drop start area) (omega (arith, length-drop start area)) in
      let a : n ≤ length l = omega arith in
      let e : string_at l 0 n ≡ l = sym (string_octets l 0 n (below_take n (below_drop start o)) (omega arith)) ∙ ap (λ (i : ℕ). take i l) z ∙ take_all n l (omega arith) in
      let f : 0 + 8 * n ≤ 8 * length l = omega arith in
      rw (k, le-leb (0 + 8 * n) (8 * length l) f, le-leb (at + n) (length out) room, e)

-- ---- the value of a row

module _ (f w : List ℕ) (row : Row) where
  pub length_value : row.start + row.length ≤ area_octets (length f) (length w) row → length (value_of f w row) ≡ row.length
  unfolding value_of
  length_value h = by row.writable h
    where
      by : (b : Bool) → row.start + row.length ≤ pick b (length w) (length f) → length (take row.length (drop row.start (pick b w f))) ≡ row.length
      by true h = length-take-le row.length (drop row.start w) (omega (arith, length-drop row.start w))
      by false h = length-take-le row.length (drop row.start f) (omega (arith, length-drop row.start f))

-- a value that is copied to its place
pub value_put : (f w : List ℕ) (row : Row) (out : List ℕ) (at : ℕ) {area part r : List ℕ} → area ≡ pick row.writable w f
    → part ≡ take (row.start + row.length - row.start) (drop row.start area) → r ≡ put_mid at (at + row.length - at) out part
    → r ≡ take at out ++ (value_of f w row ++ drop (at + row.length) out)
unfolding value_of
value_put f w row out at {area} {part} {r} a p e =
    let n : row.start + row.length - row.start ≡ row.length = omega arith in
    let q : post_of at (at + row.length - at) out ≡ drop (at + row.length) out = Post-is at (at + row.length) out (omega arith) in
    e ∙ ap (λ (l : List ℕ). take at out ++ (part ++ l)) q ∙ ap (λ (l : List ℕ). take at out ++ (l ++ drop (at + row.length) out)) (p ∙ rw (n, a))

-- a part of its area, copied to its place
pub value_copied : (f w : List ℕ) (row : Row) (out : List ℕ) (at : ℕ) {area r : List ℕ} → Octets f → Octets w → row.start + row.length ≤ area_octets (length f) (length w) row
    → at + row.length ≤ length out → area ≡ pick row.writable w f → r ≡ copy_string (take (row.start + row.length - row.start) (drop row.start area)) 0 row.length out at
    → r ≡ take at out ++ (value_of f w row ++ drop (at + row.length) out)
unfolding value_of
value_copied f w row out at {area} {r} of ow inside room a e = e ∙ by row.writable inside a
  where
    copied : List ℕ → List ℕ
    copied l = copy_string (take (row.start + row.length - row.start) (drop row.start l)) 0 row.length out at

    by : (p : Bool) → row.start + row.length ≤ pick p (length w) (length f) → area ≡ pick p w f
        → copied area ≡ take at out ++ (take row.length (drop row.start (pick p w f)) ++ drop (at + row.length) out)
    by true i a = ap copied a ∙ part_copied w out row.start row.length at ow i room
    by false i a = ap copied a ∙ part_copied f out row.start row.length at of i room

-- ---- one row more

-- the rows whose ids are still to come
abbrev pub rest : List ℕ → ℕ → ℕ → List Row → ℕ → List Row
rest s ids count rows i = rows_of rows (ids_from s (ids + 8 * i) (count - i))

-- the first i values are gathered
pub record Gathered (s : List ℕ) (ids count : ℕ) (rows : List Row) (f w : List ℕ) (octets : List ℕ) (attributes : List Attribute) (at i : ℕ) : Type 0 where
  pub near : at ≤ 127 * i
  pub long : length octets ≡ 2032
  pub wide : length attributes ≡ 32
  pub values : take at octets ++ values_in f w (rest s ids count rows i) ≡ values_in f w (rest s ids count rows 0)
  pub places : take i attributes ++ attributes_at at (rest s ids count rows i) ≡ attributes_at 0 (rest s ids count rows 0)

module _ (s : List ℕ) (ids count : ℕ) (rows : List Row) (f w : List ℕ) where
  pub gathered_none : (octets : List ℕ) (attributes : List Attribute) → length octets ≡ 2032 → length attributes ≡ 32 → Gathered s ids count rows f w octets attributes 0 0
  gathered_none octets attributes a b = record { near = omega arith; long = a; wide = b; values = refl; places = refl }

  module _ (sound : sound_directory (length f) (length w) rows ≡ true) (few : count ≤ 16) {octets : List ℕ} {attributes : List Attribute} {at : ℕ} (i : ℕ) (more : i < count)
      (g : Gathered s ids count rows f w octets attributes at i) {this : Row} (this_is : this ≡ row_of (field s (ids + 8 * i + 1) 7) rows) where
    this_sound : row_sound (length f) (length w) this ≡ true
    this_sound = ap (row_sound (length f) (length w)) this_is ∙ sound_row (length f) (length w) rows sound (field s (ids + 8 * i + 1) 7)

    pub this_inside : this.start + this.length ≤ area_octets (length f) (length w) this
    this_inside = inside_area (length f) (length w) this this_sound

    pub this_short : this.length ≤ 127
    this_short = row_short (length f) (length w) this this_sound

    pub this_room : at + this.length ≤ 2032
    this_room = omega (arith, this_short, g.near)

    rest_more : rest s ids count rows i ≡ this ∷ rest s ids count rows (i + 1)
    unfolding rows_of
    rest_more = ap (rows_of rows) (ids_more s ids count i more) ∙ ap (λ (r : Row). r ∷ rest s ids count rows (i + 1)) (sym this_is)

    pub gathered_more : {octets' : List ℕ} → octets' ≡ take at octets ++ (value_of f w this ++ drop (at + this.length) octets)
        → Gathered s ids count rows f w octets' (set attributes i (record { id = this.id; kind = 2; n = this.length; start = 8 * at })) (at + this.length) (i + 1)
    unfolding values_in attributes_at
    gathered_more {octets'} e =
        let v = value_of f w this in
        let n : length v ≡ this.length = length_value f w this this_inside in
        let p : length (take at octets) ≡ at = length-take-le at octets (omega (arith, this_room, g.long)) in
        let m : length (take at octets ++ v) ≡ at + this.length = omega (arith, length-append (take at octets) v) in
        let d = drop (at + this.length) octets in
        let x : Attribute = record { id = this.id; kind = 2; n = this.length; start = 8 * at } in
        let front : take (at + this.length) octets' ≡ take at octets ++ v =
        ap (take (at + this.length)) (e ∙ sym (append_assoc (take at octets) v d)) ∙ take_at (take at octets ++ v) d (at + this.length) m in
        let j : take (i + 1) (set attributes i x) ≡ take i attributes ++ (x ∷ []) =
        ap (λ (k : ℕ). take k (set attributes i x)) (add-one i) ∙ take-suc-set attributes i x (omega (arith, g.wide)) in
        record {
          near = omega (arith, this_short, g.near);
          long = ap length e ∙ omega (arith, length-append (take at octets) (v ++ d), length-append v d, length-drop (at + this.length) octets, this_room, g.long);
          wide = length-set attributes i x ∙ g.wide;
          values =
              ap (λ (l : List ℕ). l ++ values_in f w (rest s ids count rows (i + 1))) front
              ∙ append_assoc (take at octets) v (values_in f w (rest s ids count rows (i + 1)))
              ∙ ap (λ (l : List Row). take at octets ++ values_in f w l) (sym rest_more) ∙ g.values;
          places =
              ap (λ (l : List Attribute). l ++ attributes_at (at + this.length) (rest s ids count rows (i + 1))) j
              ∙ append_assoc (take i attributes) (x ∷ []) (attributes_at (at + this.length) (rest s ids count rows (i + 1)))
              ∙ ap (λ (l : List Row). take i attributes ++ attributes_at at l) (sym rest_more) ∙ g.places;
        }

  pub gathered_all : {octets : List ℕ} {attributes : List Attribute} {at : ℕ} (i : ℕ) → i ≡ count → Gathered s ids count rows f w octets attributes at i
      → Gathers s ids count rows f w (record { octets = octets; attributes = attributes })
  unfolding values_in attributes_at rows_of
  gathered_all {octets} {attributes} {at} i e g =
      let z : rest s ids count rows i ≡ [] = ap (rows_of rows) (ids_none s ids count i e) in
      let a : rest s ids count rows 0 ≡ rows_of rows (ids_from s ids count) = ap (rows_of rows) (sym (ids_all s ids count)) in
      record {
        size = at;
        long = g.long;
        values =
            sym (append-nil (take at octets)) ∙ ap (λ (l : List Row). take at octets ++ values_in f w l) (sym z) ∙ g.values ∙ ap (values_in f w) a;
        attributes =
            ap (λ (k : ℕ). take k attributes) (sym e) ∙ sym (append-nil (take i attributes)) ∙ ap (λ (l : List Row). take i attributes ++ attributes_at at l) (sym z)
            ∙ g.places ∙ ap (attributes_at 0) a;
      }
