-- Laws of octet strings at a bit place: one octet more, a copy, a comparison, a write, and what is read back.
-- Assumes nothing.
use mathlib.Core.Path.{◌≡◌, refl, ap, sym, ◌∙◌, subst}
use mathlib.Core.Bool.{Bool, true, false}
use Prim.Native.Nat.{ℕ, zero, suc, ◌+◌, ◌*◌, ◌/◌, ◌%◌, ◌≤◌, ◌<◌}
use mathlib.Core.List.{List, [], ◌∷◌, ◌++◌, append_assoc, append-nil}
use native.Mathlib.Nat.{add-zero, zero-add, mod-eq_of_lt}
use native.Mathlib.Numerals.{add-one}
use native.Mathlib.Omega.{arith}
use lib.Dec.{eqb, ltb}
use borrow.Author.Tests.{eq-eqb, ne_eqb, eqb-true, eqb-false, le-leb, lt-leb, leb-true, lt-ltb, le-ltb}
use Rattle.refusals.proofs.Tests.{by_cases, and_true, and_left, and_right}
use lib.ListN.{length, length-append, get_or, take, drop, set, take-append-drop}
use lib.Seq.{drop-cons, set_at, length-take-le}
use Rattle.std.specs.Bool.{MatchBool}
use Rattle.std.specs.List.{range_with_len, AllWithin, HoldsAt}
use Rattle.std.proofs.lemmas.List.FromFn.{get_or-range_with_len, length-range_with_len}
use Rattle.bits.specs.Bits.{Octets, bits, digits, field, put_bits}
use Rattle.bits.specs.Strings.{is_inside, string_at, same_octets, same_string, copy_fits, copy_string, write_fits, write_string, each_first_bit_clear, first_bits_clear}
use Rattle.bits.proofs.Laws.{Ahead, below_nil, below_cons, below_tail, field_front, field_rest, bits_small, bits_append, length_bits, field_lt}
use Rattle.bits.proofs.Put.{put_append, put_none, drop_put}

-- ---- one octet more

pub length_string : (s : List ℕ) (start n : ℕ) → length (string_at s start n) ≡ n
unfolding string_at
length_string s start zero = refl
length_string s start (suc n) = ap suc (length_string s (start + 8) n)

pub string_snoc : (s : List ℕ) (start k : ℕ) → string_at s start (k + 1) ≡ string_at s start k ++ (field s (start + 8 * k) 8 ∷ [])
unfolding string_at
string_snoc s start k = rw add-one (last s start k)
  where
    last : (s : List ℕ) (start k : ℕ) → string_at s start (suc k) ≡ string_at s start k ++ (field s (start + 8 * k) 8 ∷ [])
    last s start zero = ap (λ (i : ℕ). field s i 8 ∷ []) (omega arith)
    last s start (suc k) =
        let e : start + 8 + 8 * k ≡ start + 8 * suc k = omega arith in
        ap (λ (l : List ℕ). field s start 8 ∷ l) (last s (start + 8) k) ∙ ap (λ (i : ℕ). field s start 8 ∷ (string_at s (start + 8) k ++ (field s i 8 ∷ []))) e

pub bits_snoc : (s : List ℕ) (start k : ℕ) → bits (string_at s start (k + 1)) ≡ bits (string_at s start k) ++ digits 8 (field s (start + 8 * k) 8)
bits_snoc s start k =
    let o = field s (start + 8 * k) 8 in
    ap bits (string_snoc s start k) ∙ bits_append (string_at s start k) (o ∷ []) ∙ ap (λ (l : List ℕ). bits (string_at s start k) ++ l) (one o)
  where
    one : (o : ℕ) → bits (o ∷ []) ≡ digits 8 o
    one o = unfold bits in append-nil (digits 8 o)

pub string_small : (s : List ℕ) (start n : ℕ) → Octets (string_at s start n)
unfolding string_at
string_small s start zero = below_nil (omega arith)
string_small s start (suc n) = below_cons (field_lt s start 8) (string_small s (start + 8) n)

-- the octet that the code reads is the string's next
pub next_octet : (s : List ℕ) (start k : ℕ) {x : ℕ} → x ≡ field s (8 * (start / 8) + start % 8 + 8 * k) 8 → x ≡ field s (start + 8 * k) 8
next_octet s start k e =
    let f : 8 * (start / 8) + start % 8 + 8 * k ≡ start + 8 * k = omega arith in
    e ∙ ap (λ (i : ℕ). field s i 8) f

-- that octet, as the code reads it
abbrev pub octet_at : List ℕ → ℕ → ℕ → ℕ
octet_at s start k = field s (8 * (start / 8) + start % 8 + 8 * k) 8

octet_is : (s : List ℕ) (start k : ℕ) → octet_at s start k ≡ field s (start + 8 * k) 8
octet_is s start k = next_octet s start k refl

front_octet : (s : List ℕ) (start : ℕ) → field s start 8 ≡ field s (start + 8 * 0) 8
front_octet s start =
    let e : start ≡ start + 8 * 0 = omega arith in
    ap (λ (i : ℕ). field s i 8) e

-- the octet behind the first k + 1 is the one behind k of those from the second on
following : (s : List ℕ) (start k : ℕ) → field s (start + 8 + 8 * k) 8 ≡ field s (start + 8 * suc k) 8
following s start k =
    let e : start + 8 + 8 * k ≡ start + 8 * suc k = omega arith in
    ap (λ (i : ℕ). field s i 8) e

-- ---- what holds of each number below n, and of one of them

each_below : (n : ℕ) (P : ℕ → Type 0) → AllWithin P (range_with_len 0 n) 0 (length (range_with_len 0 n)) → (k : ℕ) → k < n → P k
each_below n P f k h = subst P (get_or-range_with_len 0 n k 0 h ∙ zero-add k) (f k 0 (omega arith) (omega (arith, length-range_with_len 0 n)))

one_below : (n : ℕ) (P : ℕ → Type 0) → ((k : ℕ) × (k < length (range_with_len 0 n)) × HoldsAt P (range_with_len 0 n) k) → (k : ℕ) × ((k < n) × P k)
one_below n P (k, h, f) =
    let j : k < n = omega (arith, length-range_with_len 0 n) in
    (k, (j, subst P (get_or-range_with_len 0 n k 0 j ∙ zero-add k) (f 0)))

-- ---- a part inside its octets

pub inside_le : (octets start n : ℕ) → is_inside octets start n ≡ true → start + 8 * n ≤ 8 * octets
unfolding is_inside
inside_le octets start n e = leb-true (start + 8 * n) (8 * octets) e

-- ---- a copy

-- out with the string's first k octets in their place
unfoldable pub Copied : List ℕ → ℕ → List ℕ → ℕ → ℕ → List ℕ
Copied s start out at k = take at out ++ (string_at s start k ++ drop (at + k) out)

module _ (s : List ℕ) (start : ℕ) (out : List ℕ) (at : ℕ) where
  pub copied_none : out ≡ Copied s start out at 0
  unfolding Copied string_at
  copied_none = rw add-zero (sym (take-append-drop at out))

  pub copied_more : (k : ℕ) {t : List ℕ} {x : ℕ} → t ≡ Copied s start out at k → x ≡ field s (start + 8 * k) 8 → at + k < length out
      → set t (at + k) x ≡ Copied s start out at (k + 1)
  unfolding Copied
  copied_more k {t} {x} e f h =
      let l = string_at s start k in
      let p = take at out in
      let y = get_or out (at + k) 0 in
      let ys = drop (suc (at + k)) out in
      let n : length (p ++ l) ≡ at + k = omega (arith, length-append p l, length-take-le at out (omega arith), length_string s start k) in
      let a : t ≡ (p ++ l) ++ (y ∷ ys) = e ∙ ap (λ (r : List ℕ). p ++ (l ++ r)) (drop-cons out (at + k) 0 h) ∙ sym (append_assoc p l (y ∷ ys)) in
      let g : l ++ (x ∷ []) ≡ string_at s start (k + 1) = ap (λ (v : ℕ). l ++ (v ∷ [])) f ∙ sym (string_snoc s start k) in
      let i : suc (at + k) ≡ at + (k + 1) = omega arith in
      ap (λ (r : List ℕ). set r (at + k) x) a ∙ set_at (p ++ l) y ys x (at + k) n
      ∙ regroup p l x ys ∙ ap (λ (r : List ℕ). p ++ (r ++ ys)) g ∙ ap (λ (j : ℕ). p ++ (string_at s start (k + 1) ++ drop j out)) i
    where
      regroup : (p l : List ℕ) (x : ℕ) (ys : List ℕ) → (p ++ l) ++ (x ∷ ys) ≡ p ++ ((l ++ (x ∷ [])) ++ ys)
      regroup p l x ys = append_assoc p l (x ∷ ys) ∙ ap (λ (r : List ℕ). p ++ r) (sym (append_assoc l (x ∷ []) ys))

  pub copied_all : (k n : ℕ) {t : List ℕ} → t ≡ Copied s start out at k → k ≡ n → t ≡ take at out ++ (string_at s start n ++ drop (at + n) out)
  unfolding Copied
  copied_all k n e f = rw f at e

  module _ (n : ℕ) where
    pub copy_outside : is_inside (length s) start n ≡ false → (false ≡ copy_fits s start n out at) × (out ≡ copy_string s start n out at)
    unfolding copy_fits copy_string
    copy_outside h = (simp h, simp h)

    module _ (here : is_inside (length s) start n ≡ true) where
      pub copy_short : length out < at + n → (false ≡ copy_fits s start n out at) × (out ≡ copy_string s start n out at)
      unfolding copy_fits copy_string
      copy_short h = (simp (here, lt-leb _ _ h), simp (here, lt-leb _ _ h))

      pub copied_whole : (k : ℕ) {t : List ℕ} → at + n ≤ length out → t ≡ Copied s start out at k → k ≡ n
          → (true ≡ copy_fits s start n out at) × (t ≡ copy_string s start n out at)
      unfolding Copied copy_fits copy_string
      copied_whole k h e f = (simp (here, le-leb _ _ h), rw f at e ∙ simp (here, le-leb _ _ h))

-- ---- a comparison

-- strings of which each octet is the same, and strings of which one is not
same_each : (s : List ℕ) (start : ℕ) (t : List ℕ) (at n : ℕ) → ((k : ℕ) → k < n → field s (start + 8 * k) 8 ≡ field t (at + 8 * k) 8)
    → same_octets (string_at s start n) (string_at t at n) ≡ true
unfolding string_at same_octets
same_each s start t at zero h = refl
same_each s start t at (suc n) h =
    and_true (eq-eqb (field s start 8) (field t at 8) (front_octet s start ∙ h 0 (omega arith) ∙ sym (front_octet t at)))
    (same_each s (start + 8) t (at + 8) n (λ k j. following s start k ∙ h (suc k) (omega arith) ∙ sym (following t at k)))

same_not : (s : List ℕ) (start : ℕ) (t : List ℕ) (at n k : ℕ) → k < n → (field s (start + 8 * k) 8 ≡ field t (at + 8 * k) 8 → ⊥)
    → same_octets (string_at s start n) (string_at t at n) ≡ false
unfolding string_at same_octets
same_not s start t at zero k h g = absurd (omega arith)
same_not s start t at (suc n) zero h g = and_left (same_octets (string_at s (start + 8) n) (string_at t (at + 8) n)) (ne_eqb (field s start 8) (field t at 8) (λ e. g (sym (front_octet s start) ∙ e ∙ front_octet t at)))
same_not s start t at (suc n) (suc k) h g =
    and_right (eqb (field s start 8) (field t at 8))
    (same_not s (start + 8) t (at + 8) n k (omega arith) (λ e. g (sym (following s start k) ∙ e ∙ following t at k)))

module _ (s : List ℕ) (start : ℕ) (t : List ℕ) (at n : ℕ) where
  pub outside_first : is_inside (length s) start n ≡ false → false ≡ same_string s start t at n
  unfolding same_string
  outside_first h = simp h

  module _ (here : is_inside (length s) start n ≡ true) where
    pub outside_second : is_inside (length t) at n ≡ false → false ≡ same_string s start t at n
    unfolding same_string
    outside_second h = simp (here, h)

    -- what the test of each octet in turn tells
    pub same_decided : is_inside (length t) at n ≡ true → {r : Bool}
        → MatchBool r (AllWithin (λ k. octet_at s start k ≡ octet_at t at k) (range_with_len 0 n) 0 (length (range_with_len 0 n)))
        ((k : ℕ) × (k < length (range_with_len 0 n)) × HoldsAt (λ k. octet_at s start k ≡ octet_at t at k → ⊥) (range_with_len 0 n) k)
        → r ≡ same_string s start t at n
    unfolding same_string
    same_decided there {r = true} f =
        simp (here, there) (sym (same_each s start t at n (λ k h. sym (octet_is s start k) ∙ each_below n (λ i. octet_at s start i ≡ octet_at t at i) f k h ∙ octet_is t at k)))
    same_decided there {r = false} f =
        let g = one_below n (λ i. octet_at s start i ≡ octet_at t at i → ⊥) f in
        simp (here, there) (sym (same_not s start t at n g.0 g.1.0 (λ e. g.1.1 (octet_is s start g.0 ∙ e ∙ sym (octet_is t at g.0)))))

-- ---- first bits

module _ (s : List ℕ) (start : ℕ) where
  clear_each : (n : ℕ) → ((k : ℕ) → k < n → field s (start + 8 * k) 8 < 128) → each_first_bit_clear s start n ≡ true
  unfolding each_first_bit_clear
  clear_each zero h = refl
  clear_each (suc n) h = and_true (clear_each n (λ k j. h k (omega arith))) (lt-ltb (field s (start + 8 * n) 8) 128 (h n (omega arith)))

  -- one octet that is not so decides for all
  clear_not : (n k : ℕ) → k < n → 127 < field s (start + 8 * k) 8 → each_first_bit_clear s start n ≡ false
  unfolding each_first_bit_clear
  clear_not zero k h g = absurd (omega arith)
  clear_not (suc n) k h g =
      by_cases (eqb k n)
      (λ e. and_right (each_first_bit_clear s start n) (le-ltb (field s (start + 8 * n) 8) 128 (omega (arith, ap (λ (i : ℕ). field s (start + 8 * i) 8) (eqb-true k n e)))))
      (λ e. and_left (ltb (field s (start + 8 * n) 8) 128) (clear_not n k (omega (arith, eqb-false k n e)) g))

  module _ (n : ℕ) where
    pub clear_outside : is_inside (length s) start n ≡ false → false ≡ first_bits_clear s start n
    unfolding first_bits_clear
    clear_outside h = simp h

    pub clear_other : (k : ℕ) {x : ℕ} → k < n → x ≡ field s (start + 8 * k) 8 → 127 < x → false ≡ first_bits_clear s start n
    unfolding first_bits_clear
    clear_other k h e g = sym (and_right (is_inside (length s) start n) (clear_not n k h (omega arith)))

    pub clear_decided : is_inside (length s) start n ≡ true → {r : Bool}
        → MatchBool r (AllWithin (λ k. octet_at s start k < 128) (range_with_len 0 n) 0 (length (range_with_len 0 n)))
        ((k : ℕ) × (k < length (range_with_len 0 n)) × HoldsAt (λ k. 128 ≤ octet_at s start k) (range_with_len 0 n) k)
        → r ≡ first_bits_clear s start n
    unfolding first_bits_clear
    clear_decided here {r = true} f =
        sym (and_true here (clear_each n (λ k h. omega (arith, octet_is s start k, each_below n (λ i. octet_at s start i < 128) f k h))))
    clear_decided here {r = false} f =
        let g = one_below n (λ i. 128 ≤ octet_at s start i) f in
        sym (and_right (is_inside (length s) start n) (clear_not n g.0 g.1.0 (omega (arith, octet_is s start g.0, g.1.1))))

-- ---- a write

module _ (s : List ℕ) (start : ℕ) (out : List ℕ) (at : ℕ) where
  -- out with the string's first k octets written from bit place at on
  unfoldable pub Written : ℕ → List ℕ
  Written k = put_bits out at (bits (string_at s start k))

  pub written_none : Octets out → out ≡ Written 0
  unfolding Written string_at bits
  written_none h = sym (put_none out at h)

  pub written_more : (k : ℕ) {t u : List ℕ} {x : ℕ} → t ≡ Written k → x ≡ field s (start + 8 * k) 8
      → u ≡ put_bits t (8 * (at / 8 + k) + at % 8) (digits 8 x) → at + 8 * k ≤ 8 * length out → u ≡ Written (k + 1)
  unfolding Written
  written_more k {t} {u} {x} e f g h =
      let l = bits (string_at s start k) in
      let n : length l ≡ 8 * k = length_bits (string_at s start k) ∙ ap (λ (i : ℕ). 8 * i) (length_string s start k) in
      let i : 8 * (at / 8 + k) + at % 8 ≡ at + length l = omega arith in
      let d : l ++ digits 8 x ≡ bits (string_at s start (k + 1)) =
      ap (λ (v : ℕ). l ++ digits 8 v) f ∙ sym (bits_snoc s start k) in
      g ∙ ap (λ (j : ℕ). put_bits t j (digits 8 x)) i ∙ ap (λ (r : List ℕ). put_bits r (at + length l) (digits 8 x)) e
      ∙ put_append out at l (digits 8 x) (bits_small (string_at s start k)) (omega arith) ∙ ap (put_bits out at) d

  module _ (n : ℕ) where
    pub write_outside : is_inside (length s) start n ≡ false → (false ≡ write_fits s start n out at) × (out ≡ write_string s start n out at)
    unfolding write_fits write_string
    write_outside h = (simp h, simp h)

    module _ (here : is_inside (length s) start n ≡ true) where
      pub write_short : is_inside (length out) at n ≡ false → (false ≡ write_fits s start n out at) × (out ≡ write_string s start n out at)
      unfolding write_fits write_string
      write_short h = (simp (here, h), simp (here, h))

      pub written_whole : (k : ℕ) {t : List ℕ} → is_inside (length out) at n ≡ true → t ≡ Written k → k ≡ n
          → (true ≡ write_fits s start n out at) × (t ≡ write_string s start n out at)
      unfolding Written write_fits write_string
      written_whole k there e f = (simp (here, there), rw f at e ∙ simp (here, there))

-- ---- what was written is read back

string_ahead : (s : List ℕ) (at : ℕ) (t q : List ℕ) → Octets t → Ahead s at (bits t ++ q) → string_at s at (length t) ≡ t
unfolding string_at bits
string_ahead s at [] q h a = refl
string_ahead s at (o ∷ t) q h a =
    let b : Ahead s at (digits 8 o ++ (bits t ++ q)) = record { is = a.is ∙ append_assoc (digits 8 o) (bits t) q } in
    ap (λ (x : ℕ). x ∷ string_at s (at + 8) (length t)) (field_front 8 o (bits t ++ q) b ∙ mod-eq_of_lt (h.each 0))
    ∙ ap (λ (r : List ℕ). o ∷ r) (string_ahead s (at + 8) t q (below_tail h) (field_rest 8 o (bits t ++ q) b))

pub string_put : (out : List ℕ) (at : ℕ) (t : List ℕ) → Octets t → at + 8 * length t ≤ 8 * length out → string_at (put_bits out at (bits t)) at (length t) ≡ t
string_put out at t h k =
    let n = length_bits t in
    string_ahead (put_bits out at (bits t)) at t (drop (at + length (bits t)) (bits out)) h (record { is = drop_put out at (bits t) (bits_small t) (omega arith) })
