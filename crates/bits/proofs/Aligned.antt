-- Strings and windows that stand on octets: what is read and written there are the octets themselves.
-- Assumes nothing.
use mathlib.Core.Path.{◌≡◌, refl, ap, sym, ◌∙◌}
use mathlib.Core.Bool.{Bool, true, false, ◌&&◌}
use Prim.Native.Nat.{ℕ, zero, suc, ◌+◌, ◌*◌, ◌/◌, ◌%◌, ◌^◌, ◌≤◌, ◌<◌, ◌-◌}
use mathlib.Core.List.{List, [], ◌∷◌, ◌++◌, append-nil}
use native.Mathlib.Omega.{arith}
use lib.Dec.{eqb}
use lib.ListN.{length, length-append, length-drop, get_or, take, drop, set}
use lib.Seq.{length-take-le, drop-cons, drop-drop}
use lib.Pointwise.{pointwise}
use borrow.Rule.Slice.PartMut.{put_mid}
use Rattle.bits.specs.Bits.{Octets, bits, digits, field, octets, put_bits, read_field, field_fits, write_field}
use Rattle.bits.specs.Window.{bytes}
use Rattle.bits.specs.Strings.{is_inside, string_at, same_octets, same_string}
use Rattle.bits.proofs.Laws.{below_nil, below_cons, below_append, below_take, below_drop, field_octet, field_sub, length_bits, bits_append, take_bits, drop_bits, octets_bits}
use Rattle.bits.proofs.Window.{bits_bytes, window_more, left_all, left_less, left_none}
use Rattle.bits.proofs.Outcomes.{read_narrow, write_whole}
use Rattle.bits.proofs.Strings.{Copied, Written, length_string, string_small, string_snoc}

-- ---- one octet

-- octet k of a string that starts at an octet
pub aligned_octet : (s : List ℕ) (first k : ℕ) {x : ℕ} → Octets s → x ≡ get_or s (first + k) 0 → x ≡ field s (8 * first + 8 * k) 8
aligned_octet s first k h e =
    let i : 8 * (first + k) ≡ 8 * first + 8 * k = omega arith in
    e ∙ sym (field_octet s (first + k) (h.each (first + k))) ∙ ap (λ (j : ℕ). field s j 8) i

-- an octet read as a field
pub read_octet : (s : List ℕ) (at w : ℕ) {v : ℕ} → w ≡ 8 → at % 8 ≡ 0 → v ≡ get_or s (at / 8) 0 → v < 256 → v ≡ read_field s at w
read_octet s at w e f g h =
    let i : 8 * (at / 8) ≡ 8 * (at / 8) + at % 8 = omega arith in
    read_narrow s at w (omega arith)
    (g ∙ sym (field_octet s (at / 8) (rw g at h)) ∙ ap (λ (k : ℕ). field s k 8) i ∙ ap (field s (8 * (at / 8) + at % 8)) (sym e))

-- a window of one octet is read
pub window_one : (s : List ℕ) (first n : ℕ) {v : ℕ} → n ≡ 1 → v ≡ get_or s first 0 → v < 256 → (v ≡ field s (8 * first) (8 * n)) × (v < 2 ^ 56)
window_one s first n e f h =
    let i : 8 ≡ 8 * n = omega arith in
    (f ∙ sym (field_octet s first (rw f at h)) ∙ ap (field s (8 * first)) i, omega arith)

-- and written
pub put_one : (out : List ℕ) (first n v : ℕ) → n ≡ 1 → first + n ≤ length out → set out first (v % 256) ≡ take first out ++ bytes n v (drop (first + n) out)
put_one out first n v e h =
    let i : first ≡ first + (n - 1) = omega arith in
    ap (λ (j : ℕ). set out j (v % 256)) i
    ∙ left_none out first n v (set out (first + (n - 1)) (v % 256)) (n - 1) (v / 256) (left_less out first n v out n v (left_all out first n v) (omega arith) h) (omega arith)

-- eight bits are read out of two octets
pub read_two : (s : List ℕ) (at : ℕ) {a b v : ℕ} → a ≡ get_or s (at / 8) 0 → a < 256 → b ≡ get_or s (at / 8 + 1) 0 → b < 256
    → v ≡ (a * 256 + b) / 2 ^ (8 - at % 8) % 2 ^ 8 → v ≡ read_field s at 8
read_two s at e f g h k =
    let first = at / 8 in
    let skip = at % 8 in
    let n : 8 * (1 + 1) ≡ skip + 8 + (8 - skip) = omega arith in
    read_narrow s at 8 (omega arith)
    (k ∙ ap (λ (x : ℕ). x / 2 ^ (8 - skip) % 2 ^ 8) (window_more s first 1 (window_one s first 1 refl e f).0 g h ∙ ap (field s (8 * first)) n)
    ∙ field_sub s (8 * first) skip 8 (8 - skip))

-- ---- a string

-- a string that starts at an octet is a part of the list, as the code takes it
pub string_octets : (s : List ℕ) (first n : ℕ) → Octets s → first + n ≤ length s → take (first + n - first) (drop first s) ≡ string_at s (8 * first) n
unfolding string_at
string_octets s first n h f =
    let e : first + n - first ≡ n = omega arith in
    ap (λ (i : ℕ). take i (drop first s)) e ∙ plain s first n h f
  where
    plain : (s : List ℕ) (first n : ℕ) → Octets s → first + n ≤ length s → take n (drop first s) ≡ string_at s (8 * first) n
    plain s first zero h f = refl
    plain s first (suc n) h f =
        let e : 8 * suc first ≡ 8 * first + 8 = omega arith in
        ap (take (suc n)) (drop-cons s first 0 (omega arith))
        ∙ ap (λ (x : ℕ). x ∷ take n (drop (suc first) s)) (sym (field_octet s first (h.each first)))
        ∙ ap (λ (l : List ℕ). field s (8 * first) 8 ∷ l) (plain s (suc first) n h (omega arith) ∙ ap (λ (i : ℕ). string_at s i n) e)

-- a part copied over a part
pub put_part : (out : List ℕ) (at : ℕ) (s : List ℕ) (first n : ℕ) {l : List ℕ} → Octets s → first + n ≤ length s → l ≡ take (first + n - first) (drop first s)
    → put_mid at (at + n - at) out l ≡ take at out ++ (string_at s (8 * first) n ++ drop (at + n) out)
put_part out at s first n {l} h f e =
    let k : at + n - at ≡ n = omega arith in
    ap (λ (i : ℕ). put_mid at i out l) k
    ∙ ap (λ (r : List ℕ). take at out ++ (l ++ r)) (drop-drop n at out)
    ∙ ap (λ (r : List ℕ). take at out ++ (r ++ drop (at + n) out)) (e ∙ string_octets s first n h f)

-- octets written from an octet on take the place of as many
pub put_octets_law : (out l : List ℕ) (a : ℕ) → Octets out → Octets l → a + length l ≤ length out → put_bits out (8 * a) (bits l) ≡ take a out ++ (l ++ drop (a + length l) out)
unfolding put_bits
put_octets_law out l a h k fits =
    let d = drop (a + length l) out in
    let r = take a out ++ (l ++ d) in
    let n : 8 * a + length (bits l) ≡ 8 * (a + length l) = omega (arith, length_bits l) in
    let m : length out ≡ length r = omega (arith, length-append (take a out) (l ++ d), length-append l d, length-take-le a out (omega arith), length-drop (a + length l) out) in
    let b : take (8 * a) (bits out) ++ (bits l ++ drop (8 * a + length (bits l)) (bits out)) ≡ bits r ++ [] =
    ap (λ (i : ℕ). take (8 * a) (bits out) ++ (bits l ++ drop i (bits out))) n
    ∙ ap (λ (t : List ℕ). take (8 * a) (bits out) ++ (bits l ++ t)) (drop_bits (a + length l) out)
    ∙ ap (λ (t : List ℕ). take (8 * a) (bits out) ++ t) (sym (bits_append l d))
    ∙ ap (λ (t : List ℕ). t ++ bits (l ++ d)) (take_bits a out)
    ∙ sym (bits_append (take a out) (l ++ d)) ∙ sym (append-nil (bits r)) in
    ap (octets (length out)) b ∙ ap (λ (i : ℕ). octets i (bits r ++ [])) m
    ∙ octets_bits r [] (below_append (below_take a h) (below_append k (below_drop (a + length l) h)))

-- one octet written
octet_put : (s : List ℕ) (i v : ℕ) → Octets s → i < length s → set s i (v % 256) ≡ put_bits s (8 * i) (digits 8 v)
unfolding bytes bits
octet_put s i v h k =
    let l = v % 256 ∷ [] in
    put_one s i 1 v refl (omega arith) ∙ sym (put_octets_law s l i h (below_cons (omega arith) (below_nil (omega arith))) (omega arith))
    ∙ ap (put_bits s (8 * i)) (bits_bytes 1 v [] ∙ append-nil (digits 8 v))

pub write_octet : (s : List ℕ) (at w v : ℕ) → Octets s → w ≡ 8 → at % 8 ≡ 0 → at / 8 < length s
    → (true ≡ field_fits (length s) at w) × (set s (at / 8) (v % 256) ≡ write_field s at w v)
write_octet s at w v octs e f h =
    let i : 8 * (at / 8) ≡ 8 * (at / 8) + at % 8 = omega arith in
    write_whole s at w v (omega arith) (omega arith)
    (octet_put s (at / 8) v octs h ∙ ap (λ (k : ℕ). put_bits s k (digits 8 v)) i ∙ ap (λ (k : ℕ). put_bits s (8 * (at / 8) + at % 8) (digits k v)) (sym e))

module _ (s : List ℕ) (start : ℕ) (out : List ℕ) (at n : ℕ) {t : List ℕ} where
  pub copied_aligned : start % 8 ≡ 0 → t ≡ take at out ++ (string_at s (8 * (start / 8)) n ++ drop (at + n) out) → t ≡ Copied s start out at n
  unfolding Copied
  copied_aligned h e =
      let i : 8 * (start / 8) ≡ start = omega arith in
      e ∙ ap (λ (j : ℕ). take at out ++ (string_at s j n ++ drop (at + n) out)) i

  pub written_aligned : start % 8 + at % 8 ≡ 0 → Octets out → at + 8 * n ≤ 8 * length out
      → t ≡ take (at / 8) out ++ (string_at s (8 * (start / 8)) n ++ drop (at / 8 + n) out) → t ≡ Written s start out at n
  unfolding Written
  written_aligned h octs fits e =
      let l = string_at s start n in
      let i : 8 * (start / 8) ≡ start = omega arith in
      let j : 8 * (at / 8) ≡ at = omega arith in
      let m : n ≡ length l = sym (length_string s start n) in
      e ∙ ap (λ (k : ℕ). take (at / 8) out ++ (string_at s k n ++ drop (at / 8 + n) out)) i
      ∙ ap (λ (k : ℕ). take (at / 8) out ++ (l ++ drop (at / 8 + k) out)) m
      ∙ sym (put_octets_law out l (at / 8) octs (string_small s start n) (omega arith))
      ∙ ap (λ (k : ℕ). put_bits out k (bits l)) j

-- ---- a comparison

-- the comparison of lists is the comparison of octets
same_pointwise : (l m : List ℕ) → pointwise eqb l m ≡ same_octets l m
unfolding same_octets
same_pointwise [] [] = refl
same_pointwise [] (y ∷ m) = refl
same_pointwise (x ∷ l) [] = refl
same_pointwise (x ∷ l) (y ∷ m) = ap (λ (p : Bool). eqb x y && p) (same_pointwise l m)

pub same_parts : (s : List ℕ) (first : ℕ) (t : List ℕ) (other n : ℕ) → Octets s → Octets t → first + n ≤ length s → other + n ≤ length t
    → pointwise eqb (take (first + n - first) (drop first s)) (take (other + n - other) (drop other t)) ≡ same_octets (string_at s (8 * first) n) (string_at t (8 * other) n)
same_parts s first t other n h k f g =
    rw (string_octets s first n h f, string_octets t other n k g) (same_pointwise (string_at s (8 * first) n) (string_at t (8 * other) n))

same_snoc : (l m : List ℕ) (a b : ℕ) → length l ≡ length m → same_octets (l ++ (a ∷ [])) (m ++ (b ∷ [])) ≡ (same_octets l m && eqb a b)
unfolding same_octets
same_snoc [] [] a b e = unit (eqb a b)
  where
    unit : (p : Bool) → (p && true) ≡ p
    unit true = refl
    unit false = refl
same_snoc [] (y ∷ m) a b e = absurd (omega arith)
same_snoc (x ∷ l) [] a b e = absurd (omega arith)
same_snoc (x ∷ l) (y ∷ m) a b e = ap (λ (p : Bool). eqb x y && p) (same_snoc l m a b (omega arith)) ∙ regroup (eqb x y) (same_octets l m) (eqb a b)
  where
    regroup : (p q r : Bool) → (p && (q && r)) ≡ ((p && q) && r)
    regroup true q r = refl
    regroup false q r = refl

module _ (s : List ℕ) (first : ℕ) (t : List ℕ) (other : ℕ) where
  -- the first k octets are the same
  unfoldable pub Same : ℕ → Bool
  Same k = same_octets (string_at s (8 * first) k) (string_at t (8 * other) k)

  pub same_none : true ≡ Same 0
  unfolding Same string_at same_octets
  same_none = refl

  pub same_more : (k : ℕ) {p : Bool} {x y : ℕ} → Octets s → Octets t → p ≡ Same k → x ≡ get_or s (first + k) 0 → y ≡ get_or t (other + k) 0
      → (p && eqb x y) ≡ Same (k + 1)
  unfolding Same
  same_more k {p} {x} {y} h i e f g =
      let a = field s (8 * first + 8 * k) 8 in
      let b = field t (8 * other + 8 * k) 8 in
      let l = string_at s (8 * first) k in
      let m = string_at t (8 * other) k in
      ap (λ (q : Bool). q && eqb x y) e
      ∙ ap (λ (v : ℕ). same_octets l m && eqb v y) (aligned_octet s first k h f)
      ∙ ap (λ (v : ℕ). same_octets l m && eqb a v) (aligned_octet t other k i g)
      ∙ sym (same_snoc l m a b (length_string s (8 * first) k ∙ sym (length_string t (8 * other) k)))
      ∙ ap (λ (r : List ℕ). same_octets r (m ++ (b ∷ []))) (sym (string_snoc s (8 * first) k))
      ∙ ap (λ (r : List ℕ). same_octets (string_at s (8 * first) (k + 1)) r) (sym (string_snoc t (8 * other) k))

  pub same_whole : (k n : ℕ) {p : Bool} → p ≡ Same k → k ≡ n → p ≡ same_octets (string_at s (8 * first) n) (string_at t (8 * other) n)
  unfolding Same
  same_whole k n e f = rw f at e

pub same_aligned : (s : List ℕ) (start : ℕ) (t : List ℕ) (at n : ℕ) {p : Bool} → start % 8 + at % 8 ≡ 0 → is_inside (length s) start n ≡ true → is_inside (length t) at n ≡ true
    → p ≡ same_octets (string_at s (8 * (start / 8)) n) (string_at t (8 * (at / 8)) n) → p ≡ same_string s start t at n
unfolding same_string
same_aligned s start t at n h here there e =
    let i : 8 * (start / 8) ≡ start = omega arith in
    let j : 8 * (at / 8) ≡ at = omega arith in
    simp (here, there)
    (e ∙ ap (λ (k : ℕ). same_octets (string_at s k n) (string_at t (8 * (at / 8)) n)) i ∙ ap (λ (k : ℕ). same_octets (string_at s start n) (string_at t k n)) j)
