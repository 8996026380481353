-- Laws of writing bits: the bits written stand in their place, every other bit and octet is as it was, and runs written in a row are one run.
-- Assumes nothing.
use mathlib.Core.Path.{◌≡◌, refl, ap, sym, ◌∙◌}
use Prim.Native.Nat.{ℕ, zero, suc, ◌+◌, ◌*◌, ◌%◌, ◌^◌, ◌≤◌, ◌<◌, ◌-◌}
use mathlib.Core.List.{List, [], ◌++◌, append_assoc, append-nil}
use mathlib.Core.Logic.{◌⊎◌, inl, inr}
use native.Mathlib.Nat.{add-zero, add_assoc}
use native.Mathlib.Omega.{arith}
use lib.ListN.{length, length-append, length-drop, get_or, take, drop, take-append-drop}
use lib.Seq.{length-take-le, get_or-take, get_or-drop, drop_at, take_at, drop-drop}
use Rattle.bits.specs.Bits.{Bits, Octets, digits, bits, number, field, octets, put_bits}
use Rattle.bits.proofs.Laws.{below_append, below_drop, below_take, bits_small, digits_small, length_bits, length_digits, length_octets, bits_octets, octets_bits, octets_small, number_digits, field_octet}

-- bits with a run of others from place at on
abbrev pub spliced : List ℕ → ℕ → List ℕ → List ℕ
spliced b at l = take at b ++ (l ++ drop (at + length l) b)

pub length_put : (s : List ℕ) (at : ℕ) (l : List ℕ) → length (put_bits s at l) ≡ length s
unfolding put_bits
length_put s at l = length_octets (length s) (spliced (bits s) at l)

-- a run of bits that fits
module _ (s : List ℕ) (at : ℕ) (l : List ℕ) (small : Bits l) (fits : at + length l ≤ 8 * length s) where
  front : length (take at (bits s)) ≡ at
  front = length-take-le at (bits s) (omega (arith, length_bits s))

  spliced_small : Bits (spliced (bits s) at l)
  spliced_small =
      below_append (below_take at (bits_small s)) (below_append small (below_drop (at + length l) (bits_small s)))

  length_spliced : length (spliced (bits s) at l) ≡ 8 * length s
  length_spliced =
      let n = front in
      omega (arith, length-append (take at (bits s)) (l ++ drop (at + length l) (bits s)), length-append l (drop (at + length l) (bits s)), length-drop (at + length l) (bits s), length_bits s)

  -- the bits after a write
  pub bits_put : bits (put_bits s at l) ≡ spliced (bits s) at l
  unfolding put_bits
  bits_put = bits_octets (length s) (spliced (bits s) at l) spliced_small length_spliced

  pub put_small : Octets (put_bits s at l)
  unfolding put_bits
  put_small = octets_small (length s) (spliced (bits s) at l) spliced_small

  pub take_put : take at (bits (put_bits s at l)) ≡ take at (bits s)
  take_put = rw (bits_put, take_at (take at (bits s)) (l ++ drop (at + length l) (bits s)) at front)

  pub drop_put : drop at (bits (put_bits s at l)) ≡ l ++ drop (at + length l) (bits s)
  drop_put = rw (bits_put, drop_at (take at (bits s)) (l ++ drop (at + length l) (bits s)) at front)

  pub drop_put_past : drop (at + length l) (bits (put_bits s at l)) ≡ drop (at + length l) (bits s)
  drop_put_past =
      sym (drop-drop (length l) at (bits (put_bits s at l))) ∙ rw drop_put (drop_at l (drop (at + length l) (bits s)) (length l) refl)

  -- every other bit is as it was
  pub bit_kept : (j : ℕ) → (j < at) ⊎ (at + length l ≤ j) → get_or (bits (put_bits s at l)) j 0 ≡ get_or (bits s) j 0
  bit_kept j (inl h) =
      sym (get_or-take at (bits (put_bits s at l)) j 0 h) ∙ ap (λ (b : List ℕ). get_or b j 0) take_put ∙ get_or-take at (bits s) j 0 h
  bit_kept j (inr h) =
      let e : at + length l + (j - (at + length l)) ≡ j = omega arith in
      ap (λ (k : ℕ). get_or (bits (put_bits s at l)) k 0) (sym e)
      ∙ sym (get_or-drop (at + length l) (bits (put_bits s at l)) (j - (at + length l)) 0)
      ∙ ap (λ (b : List ℕ). get_or b (j - (at + length l)) 0) drop_put_past
      ∙ get_or-drop (at + length l) (bits s) (j - (at + length l)) 0
      ∙ ap (λ (k : ℕ). get_or (bits s) k 0) e

number_same : (w : ℕ) (l m : List ℕ) → ((k : ℕ) → k < w → get_or l k 0 ≡ get_or m k 0) → number w l ≡ number w m
unfolding number
number_same zero l m h = refl
number_same (suc w) l m h =
    let a = number_same w l m (λ k j. h k (omega arith)) in
    let b = h w (omega arith) in
    omega arith

-- two runs in a row are one
pub put_append : (s : List ℕ) (at : ℕ) (l m : List ℕ) → Bits l → at + length l ≤ 8 * length s
    → put_bits (put_bits s at l) (at + length l) m ≡ put_bits s at (l ++ m)
unfolding put_bits
put_append s at l m h k =
    let t = put_bits s at l in
    let b : take (at + length l) (bits t) ≡ take at (bits s) ++ l = taken s at l h k in
    let e : drop (at + length l + length m) (bits t) ≡ drop (at + length (l ++ m)) (bits s) =
    sym (drop-drop (length m) (at + length l) (bits t)) ∙ ap (drop (length m)) (drop_put_past s at l h k) ∙ drop-drop (length m) (at + length l) (bits s)
    ∙ ap (λ (n : ℕ). drop n (bits s)) (add_assoc at (length l) (length m) ∙ ap (λ (n : ℕ). at + n) (sym (length-append l m))) in
    ap (λ (n : ℕ). octets n (take (at + length l) (bits t) ++ (m ++ drop (at + length l + length m) (bits t)))) (length_put s at l)
    ∙ ap (λ (p : List ℕ). octets (length s) (p ++ (m ++ drop (at + length l + length m) (bits t)))) b
    ∙ ap (λ (q : List ℕ). octets (length s) ((take at (bits s) ++ l) ++ (m ++ q))) e
    ∙ ap (octets (length s)) (regroup (take at (bits s)) l m (drop (at + length (l ++ m)) (bits s)))
  where
    regroup : (a b c d : List ℕ) → (a ++ b) ++ (c ++ d) ≡ a ++ ((b ++ c) ++ d)
    regroup a b c d = simp append_assoc

    taken : (s : List ℕ) (at : ℕ) (l : List ℕ) → Bits l → at + length l ≤ 8 * length s → take (at + length l) (bits (put_bits s at l)) ≡ take at (bits s) ++ l
    taken s at l h k =
        let n : length (take at (bits s) ++ l) ≡ at + length l =
        length-append (take at (bits s)) l ∙ ap (λ (n : ℕ). n + length l) (length-take-le at (bits s) (omega (arith, length_bits s))) in
        rw (bits_put s at l h k, ← append_assoc (take at (bits s)) l (drop (at + length l) (bits s)), take_at (take at (bits s) ++ l) (drop (at + length l) (bits s)) (at + length l) n)

-- an empty run changes nothing
pub put_none : (s : List ℕ) (at : ℕ) → Octets s → put_bits s at [] ≡ s
unfolding put_bits
put_none s at h =
    let e : take at (bits s) ++ drop (at + 0) (bits s) ≡ bits s ++ [] =
    rw add-zero (take-append-drop at (bits s) ∙ sym (append-nil (bits s))) in
    ap (octets (length s)) e ∙ octets_bits s [] h

-- what was written is read back
pub field_put : (s : List ℕ) (at w v : ℕ) → at + w ≤ 8 * length s → field (put_bits s at (digits w v)) at w ≡ v % 2 ^ w
unfolding field
field_put s at w v h =
    let n = length_digits w v in
    rw (drop_put s at (digits w v) (digits_small w v) (omega arith)) (number_digits w v (drop (at + length (digits w v)) (bits s)))

-- every octet that holds none of the bits is as it was
pub octet_kept : (s : List ℕ) (at : ℕ) (l : List ℕ) (i : ℕ) → Octets s → Bits l → at + length l ≤ 8 * length s
    → (8 * i + 8 ≤ at) ⊎ (at + length l ≤ 8 * i) → get_or (put_bits s at l) i 0 ≡ get_or s i 0
unfolding field
octet_kept s at l i octs small fits o =
    let t = put_bits s at l in
    sym (field_octet t i ((put_small s at l small fits).each i)) ∙ number_same 8 (drop (8 * i) (bits t)) (drop (8 * i) (bits s)) (same o) ∙ field_octet s i (octs.each i)
  where
    same : (8 * i + 8 ≤ at) ⊎ (at + length l ≤ 8 * i) → (k : ℕ) → k < 8 → get_or (drop (8 * i) (bits (put_bits s at l))) k 0 ≡ get_or (drop (8 * i) (bits s)) k 0
    same (inl h) k j = rw (get_or-drop, get_or-drop) (bit_kept s at l small fits (8 * i + k) (inl (omega arith)))
    same (inr h) k j = rw (get_or-drop, get_or-drop) (bit_kept s at l small fits (8 * i + k) (inr (omega arith)))
