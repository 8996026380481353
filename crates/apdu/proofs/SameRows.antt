-- Attribute rows: rows of the same values are the same, and counts tell where a list of them ends. An array is determined by its used part, since what is
-- behind it is empty.
-- Assumes nothing.
use Prim.Native.Nat.{ℕ, zero, suc, ◌+◌, ◌≤◌}
use mathlib.Core.Path.{◌≡◌, refl, ap, sym, ◌∙◌}
use mathlib.Core.Bool.{Bool, true, false, ◌&&◌}
use mathlib.Core.List.{List, [], ◌∷◌, ◌++◌, append_assoc}
use native.Mathlib.Omega.{arith}
use lib.ListN.{length, take, drop, get_or}
use lib.Seq.{length-take-le}
use Rattle.apdu_format.specs.Reading.{Value}
use Rattle.apdu_format.proofs.Tests.{never, both}
use Rattle.apdu.specs.declared.lists.Row.{Row}
use Rattle.apdu.specs.Values.{if, num, head_values, row_values, rows_values, container_values, empty_row}
use Rattle.apdu.specs.Tidy.{Absent, start_tidy, row_tidy}
use Rattle.apdu.specs.Sound.{nested, closes, part_fits, parts_fit, rows_sound, container_sound, sound_if, count_if}
use Rattle.apdu.proofs.SameFields.{head_same}

-- ---- arrays

-- how many elements are taken is told by what is taken
pub taken_same : {A : Type 0} (i j : ℕ) (xs ys : List A) → i ≤ length xs → j ≤ length ys → take i xs ≡ take j ys → i ≡ j
taken_same i j xs ys h k e = sym (length-take-le i xs h) ∙ ap length e ∙ length-take-le j ys k

-- arrays that agree up to n, and are empty from there on
pub array_same : {A : Type 0} (d : A) (n : ℕ) (xs ys : List A) → length xs ≡ length ys → take n xs ≡ take n ys → ((j : ℕ) → n ≤ j → get_or xs j d ≡ d)
    → ((j : ℕ) → n ≤ j → get_or ys j d ≡ d) → xs ≡ ys
array_same d n [] [] l e f g = refl
array_same d n [] (y ∷ ys) l e f g = absurd (omega arith)
array_same d n (x ∷ xs) [] l e f g = absurd (omega arith)
array_same d zero (x ∷ xs) (y ∷ ys) l e f g =
    let a : x ≡ d = f 0 (omega arith) in
    let b : y ≡ d = g 0 (omega arith) in
    let c : xs ≡ ys = array_same d zero xs ys (omega arith) refl (λ j h. f (suc j) (omega arith)) (λ j h. g (suc j) (omega arith)) in
    cc
array_same d (suc n) (x ∷ xs) (y ∷ ys) l e f g =
    let a : x ≡ y = cc in
    let c : xs ≡ ys = array_same d n xs ys (omega arith) (cc) (λ j h. f (suc j) (omega arith)) (λ j h. g (suc j) (omega arith)) in
    cc

-- what holds of each element of an array, and of an empty one, holds of each element of a part of it
module _ {A : Type 0} (P : A → Type 0) (d : A) (e : P d) where
  pub each_taken : (n : ℕ) (l : List A) → ((j : ℕ) → P (get_or l j d)) → (j : ℕ) → P (get_or (take n l) j d)
  each_taken zero l h j = e
  each_taken (suc n) [] h j = e
  each_taken (suc n) (x ∷ l) h zero = h zero
  each_taken (suc n) (x ∷ l) h (suc j) = each_taken n l (λ i. h (suc i)) j

  pub each_behind : (n : ℕ) (l : List A) → ((j : ℕ) → P (get_or l j d)) → (j : ℕ) → P (get_or (drop n l) j d)
  each_behind zero l h j = h j
  each_behind (suc n) [] h j = e
  each_behind (suc n) (x ∷ l) h j = each_behind n l (λ i. h (suc i)) j

-- ---- rows

abbrev pub EachRow : List Row → Type 0
EachRow rs = (j : ℕ) → row_tidy (get_or rs j empty_row)

pub empty_row_law : row_tidy empty_row
empty_row_law = record { are = λ h. (refl, tt) }

-- two lists that both end with n announced rows
pub record ListSame (rs qs : List Row) (us vs : List Value) : Type 0 where
  pub rows : rs ≡ qs
  pub behind : us ≡ vs

-- a container with its rows, the first i of rs
pub record BoxSame (k n a i : ℕ) (rs : List Row) (l m b j : ℕ) (qs : List Row) (us vs : List Value) : Type 0 where
  pub kind : k ≡ l
  pub number : n ≡ m
  pub place : a ≡ b
  pub count : i ≡ j
  pub rows : take i rs ≡ take j qs
  pub behind : us ≡ vs

-- an attribute list: its count, and the first i rows of rs
pub record AttributesSame (n i : ℕ) (rs : List Row) (m j : ℕ) (qs : List Row) (us vs : List Value) : Type 0 where
  pub number : n ≡ m
  pub count : i ≡ j
  pub rows : take i rs ≡ take j qs
  pub behind : us ≡ vs

module _ (s : List ℕ) where
  rows_same : (rs qs : List Row) (n : ℕ) (us vs : List Value) → EachRow rs → EachRow qs → closes n rs ≡ true → closes n qs ≡ true
      → (rows_values s rs ++ us) ≡ (rows_values s qs ++ vs) → ListSame rs qs us vs
  unfolding closes rows_values row_values
  rows_same [] [] n us vs t u c d h = record { rows = refl; behind = h }
  rows_same [] (q ∷ qs) zero us vs t u c d h = never d
  rows_same [] (q ∷ qs) (suc n) us vs t u c d h = never c
  rows_same (r ∷ rs) [] zero us vs t u c d h = never c
  rows_same (r ∷ rs) [] (suc n) us vs t u c d h = never d
  rows_same (r ∷ rs) (q ∷ qs) zero us vs t u c d h = never c
  rows_same (r ∷ rs) (q ∷ qs) (suc n) us vs t u c d h =
      let hr = head_values s r.kind r.n r.start in
      let hq = head_values s q.kind q.n q.start in
      let e : r.id ≡ q.id = cc in
      let g : ((hr ++ rows_values s rs) ++ us) ≡ ((hq ++ rows_values s qs) ++ vs) = cc in
      let f = sym (append_assoc hr (rows_values s rs) us) ∙ g ∙ append_assoc hq (rows_values s qs) vs in
      let p = head_same s r.kind r.n r.start q.kind q.n q.start (rows_values s rs ++ us) (rows_values s qs ++ vs) (t 0) (u 0) f in
      let x = rows_same rs qs (nested r.kind r.n + n) us vs (λ j. t (suc j)) (λ j. u (suc j)) c (rw (p.kind, p.number) d) p.behind in
      let y : r ≡ q = λ i. record { id = e i; kind = p.kind i; n = p.number i; start = p.place i } in
      record { rows = λ i. y i ∷ x.rows i; behind = x.behind }

  box_closes : (z k n a : ℕ) (rs : List Row) → container_sound z k n a rs ≡ true → closes (nested k n) rs ≡ true
  unfolding container_sound rows_sound
  box_closes z k n a rs h = (both (parts_fit z rs) (closes (nested k n) rs) (both (part_fits z k n a) (parts_fit z rs && closes (nested k n) rs) h).1).1

  pub box_same : (p q : Bool) (k n a i : ℕ) (rs : List Row) (l m b j : ℕ) (qs : List Row) (z : ℕ) (us vs : List Value) → p ≡ q
      → Absent p (k ∷ n ∷ a ∷ i ∷ []) → Absent q (l ∷ m ∷ b ∷ j ∷ []) → start_tidy k a → start_tidy l b → EachRow rs → EachRow qs
      → count_if p i ≤ length rs → count_if q j ≤ length qs
      → sound_if p (container_sound z k n a (take i rs)) ≡ true → sound_if q (container_sound z l m b (take j qs)) ≡ true
      → (if p (container_values s k n a (take i rs)) ++ us) ≡ (if q (container_values s l m b (take j qs)) ++ vs) → BoxSame k n a i rs l m b j qs us vs
  box_same true true k n a i rs l m b j qs z us vs e x y o o' t t' w w' f g h =
      let hr = head_values s k n a in
      let hq = head_values s l m b in
      let is = rows_values s (take i rs) in
      let js = rows_values s (take j qs) in
      let d = sym (append_assoc hr is us) ∙ h ∙ append_assoc hq js vs in
      let c = head_same s k n a l m b (is ++ us) (js ++ vs) o o' d in
      let v = rows_same (take i rs) (take j qs) (nested k n) us vs (each_taken row_tidy empty_row empty_row_law i rs t) (each_taken row_tidy empty_row empty_row_law j qs t') (box_closes z k n a (take i rs) f)
      (rw (c.kind, c.number) (box_closes z l m b (take j qs) g)) c.behind in
      record {
        kind = c.kind;
        number = c.number;
        place = c.place;
        count = taken_same i j rs qs w w' v.rows;
        rows = v.rows;
        behind = v.behind;
      }
  box_same true false k n a i rs l m b j qs z us vs e x y o o' t t' w w' f g h = never (sym e)
  box_same false true k n a i rs l m b j qs z us vs e x y o o' t t' w w' f g h = never e
  box_same false false k n a i rs l m b j qs z us vs e x y o o' t t' w w' f g h =
      let u = x.are refl in
      let v = y.are refl in
      let c : i ≡ j = u.1.1.1.0 ∙ sym v.1.1.1.0 in
      record {
        kind = u.0 ∙ sym v.0;
        number = u.1.0 ∙ sym v.1.0;
        place = u.1.1.0 ∙ sym v.1.1.0;
        count = c;
        rows = rw (u.1.1.1.0, v.1.1.1.0);
        behind = h;
      }

  pub attributes_same : (p q : Bool) (n i : ℕ) (rs : List Row) (m j : ℕ) (qs : List Row) (z : ℕ) (us vs : List Value) → p ≡ q
      → Absent p (n ∷ i ∷ []) → Absent q (m ∷ j ∷ []) → EachRow rs → EachRow qs → count_if p i ≤ length rs → count_if q j ≤ length qs
      → sound_if p (rows_sound z n (take i rs)) ≡ true → sound_if q (rows_sound z m (take j qs)) ≡ true
      → (if p (num n ∷ rows_values s (take i rs)) ++ us) ≡ (if q (num m ∷ rows_values s (take j qs)) ++ vs) → AttributesSame n i rs m j qs us vs
  unfolding rows_sound
  attributes_same true true n i rs m j qs z us vs e x y t t' w w' f g h =
      let c : n ≡ m = cc in
      let d : (rows_values s (take i rs) ++ us) ≡ (rows_values s (take j qs) ++ vs) = cc in
      let v = rows_same (take i rs) (take j qs) n us vs (each_taken row_tidy empty_row empty_row_law i rs t) (each_taken row_tidy empty_row empty_row_law j qs t')
      (both (parts_fit z (take i rs)) (closes n (take i rs)) f).1 (rw c (both (parts_fit z (take j qs)) (closes m (take j qs)) g).1) d in
      record { number = c; count = taken_same i j rs qs w w' v.rows; rows = v.rows; behind = v.behind }
  attributes_same true false n i rs m j qs z us vs e x y t t' w w' f g h = never (sym e)
  attributes_same false true n i rs m j qs z us vs e x y t t' w w' f g h = never e
  attributes_same false false n i rs m j qs z us vs e x y t t' w w' f g h =
      let u = x.are refl in
      let v = y.are refl in
      record { number = u.0 ∙ sym v.0; count = u.1.0 ∙ sym v.1.0; rows = rw (u.1.0, v.1.0); behind = h }
