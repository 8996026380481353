-- What the values of a message say of its record: in two records over the same octets the field agrees whose values do, whatever is behind them. Presence bits
-- come first, and an absent number is 0; a container that holds neither octets nor ids starts at 0.
-- Assumes nothing.
use Prim.Native.Nat.{ℕ}
use mathlib.Core.Path.{◌≡◌, refl, sym, ◌∙◌}
use mathlib.Core.Bool.{Bool, true, false, ◌||◌}
use mathlib.Core.List.{List, [], ◌∷◌, ◌++◌}
use native.Mathlib.Omega.{arith}
use lib.Dec.{eqb}
use Rattle.refusals.specs.Check.{pick}
use Rattle.apdu_format.specs.Component.{octet_string, attribute_id_list}
use Rattle.apdu_format.specs.Reading.{Value}
use Rattle.apdu_format.proofs.Tests.{never}
use Rattle.apdu.specs.Values.{bit_of, if, num, num_if, str, ids_at, id_list, head_values}
use Rattle.apdu.specs.Tidy.{Absent, start_tidy}

behind_same : (l us vs : List Value) → (l ++ us) ≡ (l ++ vs) → us ≡ vs
behind_same [] us vs h = h
behind_same (v ∷ l) us vs h = behind_same l us vs cc

pub bit_same : (p q : Bool) → bit_of p ≡ bit_of q → p ≡ q
bit_same true true e = refl
bit_same true false e = absurd (omega arith)
bit_same false true e = absurd (omega arith)
bit_same false false e = refl

-- ---- a number

pub record NumberSame (a b : ℕ) (us vs : List Value) : Type 0 where
  pub number : a ≡ b
  pub behind : us ≡ vs

pub number_same : (p q : Bool) (a b : ℕ) (us vs : List Value) → p ≡ q → Absent p (a ∷ []) → Absent q (b ∷ []) → (num_if p a ++ us) ≡ (num_if q b ++ vs)
    → NumberSame a b us vs
number_same true true a b us vs e x y h = record { number = cc; behind = cc }
number_same true false a b us vs e x y h = never (sym e)
number_same false true a b us vs e x y h = never e
number_same false false a b us vs e x y h = record { number = (x.are refl).0 ∙ sym (y.are refl).0; behind = h }

-- ---- a string, or a list of ids: its place and how many octets or ids it has

pub record PartSame (a n b k : ℕ) (us vs : List Value) : Type 0 where
  pub place : a ≡ b
  pub long : n ≡ k
  pub behind : us ≡ vs

part_same : (f : ℕ → ℕ → List Value) → ((a n b k : ℕ) (us vs : List Value) → (f a n ++ us) ≡ (f b k ++ vs) → PartSame a n b k us vs) → (p q : Bool) (a n b k : ℕ)
    (us vs : List Value) → p ≡ q → Absent p (a ∷ n ∷ []) → Absent q (b ∷ k ∷ []) → (if p (f a n) ++ us) ≡ (if q (f b k) ++ vs) → PartSame a n b k us vs
part_same f g true true a n b k us vs e x y h = g a n b k us vs h
part_same f g true false a n b k us vs e x y h = never (sym e)
part_same f g false true a n b k us vs e x y h = never e
part_same f g false false a n b k us vs e x y h =
    let u = x.are refl in
    let v = y.are refl in
    record { place = u.0 ∙ sym v.0; long = u.1.0 ∙ sym v.1.0; behind = h }

-- a container up to its rows
pub record HeadSame (k n a l m b : ℕ) (us vs : List Value) : Type 0 where
  pub kind : k ≡ l
  pub number : n ≡ m
  pub place : a ≡ b
  pub behind : us ≡ vs

module _ (s : List ℕ) where
  string_given : (a n b k : ℕ) (us vs : List Value) → (str s a n ++ us) ≡ (str s b k ++ vs) → PartSame a n b k us vs
  string_given a n b k us vs h = record { place = cc; long = cc; behind = cc }

  pub ids_given : (a n b k : ℕ) (us vs : List Value) → (id_list s a n ++ us) ≡ (id_list s b k ++ vs) → PartSame a n b k us vs
  ids_given a n b k us vs h =
      let e : a ≡ b = cc in
      let f : n ≡ k = cc in
      let g : (ids_at s a n ++ us) ≡ (ids_at s b k ++ vs) = cc in
      record { place = e; long = f; behind = behind_same (ids_at s b k) us vs (rw (e, f) at g) }

  pub string_same : (p q : Bool) (a n b k : ℕ) (us vs : List Value) → p ≡ q → Absent p (a ∷ n ∷ []) → Absent q (b ∷ k ∷ [])
      → (if p (str s a n) ++ us) ≡ (if q (str s b k) ++ vs) → PartSame a n b k us vs
  string_same = part_same (str s) string_given

  pub ids_same : (p q : Bool) (a n b k : ℕ) (us vs : List Value) → p ≡ q → Absent p (a ∷ n ∷ []) → Absent q (b ∷ k ∷ [])
      → (if p (id_list s a n) ++ us) ≡ (if q (id_list s b k) ++ vs) → PartSame a n b k us vs
  ids_same = part_same (id_list s) ids_given

  abbrev content : Bool → Bool → ℕ → ℕ → List Value
  content x y n a = pick x (str s a n) (pick y (id_list s a n) (num n ∷ []))

  content_same : (x y : Bool) (n a m b : ℕ) (us vs : List Value) → Absent (x || y) (a ∷ []) → Absent (x || y) (b ∷ [])
      → (content x y n a ++ us) ≡ (content x y m b ++ vs) → PartSame a n b m us vs
  content_same true y n a m b us vs t u h = string_given a n b m us vs h
  content_same false true n a m b us vs t u h = ids_given a n b m us vs h
  content_same false false n a m b us vs t u h = record { place = (t.are refl).0 ∙ sym (u.are refl).0; long = cc; behind = cc }

  pub head_same : (k n a l m b : ℕ) (us vs : List Value) → start_tidy k a → start_tidy l b → (head_values s k n a ++ us) ≡ (head_values s l m b ++ vs)
      → HeadSame k n a l m b us vs
  unfolding head_values
  head_same k n a l m b us vs t u h =
      let e : k ≡ l = cc in
      let g : (content (eqb k octet_string) (eqb k attribute_id_list) n a ++ us) ≡ (content (eqb l octet_string) (eqb l attribute_id_list) m b ++ vs) = cc in
      let c = content_same (eqb l octet_string) (eqb l attribute_id_list) n a m b us vs (rw e at t) u (rw e at g) in
      record { kind = e; number = c.long; place = c.place; behind = c.behind }
