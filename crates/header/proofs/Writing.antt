-- What the functions of the writer answer and leave.
-- Assumes nothing.
use mathlib.Core.Path.{◌≡◌, refl, sym, ◌∙◌}
use mathlib.Core.Bool.{Bool, true, false}
use Prim.Native.Nat.{ℕ, ◌+◌, ◌*◌, ◌/◌, ◌%◌, ◌≤◌, ◌<◌}
use mathlib.Core.List.{List, [], ◌∷◌, ◌++◌, append_assoc, append-nil}
use native.Mathlib.Nat.{zero-add}
use native.Mathlib.Omega.{arith}
use lib.Dec.{ltb}
use lib.ListN.{length, length-append, drop}
use lib.Seq.{sets, sets-eq, drop_at}
use borrow.Author.Tests.{lt-ltb, le-ltb, ltb-true, ltb-false}
use Rattle.refusals.proofs.Tests.{by_cases, first_none, decided_accepted}
use Rattle.refusals.specs.Check.{first_of, Answer, refused, accepted, decided}
use Rattle.bits.specs.Bits.{digits, number, octets}
use Rattle.bits.proofs.Laws.{number_front, number_digits, length_digits}
use Rattle.header.specs.Header.{bit_of, first_bits, next_bits, header_bits, header_octets, length_for, write_refusal, write_header, output_after}
use Rattle.header.specs.declared.Header.{Header}
use Rattle.header.proofs.Reading.{length_one, length_two, length_three}

-- ---- the counters of a length

module _ (c : ℕ) {m : ℕ} (is : m ≡ length_for c) where
  pub for_one : m ≡ 1 → c < 4
  for_one e =
      by_cases (ltb c 4) (λ t. ltb-true c 4 t)
      (λ t. by_cases (ltb c 512)
      (λ u. absurd (omega (arith, length_two {c = c} (ltb-false c 4 t) (ltb-true c 512 u))))
      (λ u. absurd (omega (arith, length_three {c = c} (ltb-false c 512 u)))))

  pub for_two : m ≡ 2 → (4 ≤ c) × (c < 512)
  for_two e =
      by_cases (ltb c 4) (λ t. absurd (omega (arith, length_one {c = c} (ltb-true c 4 t))))
      (λ t. by_cases (ltb c 512)
      (λ u. (ltb-false c 4 t, ltb-true c 512 u))
      (λ u. absurd (omega (arith, length_three {c = c} (ltb-false c 512 u)))))

  pub for_three : (m ≡ 1 → ⊥) → (m ≡ 2 → ⊥) → (512 ≤ c) × (m ≡ 3)
  for_three f g =
      by_cases (ltb c 4) (λ t. absurd (f (is ∙ sym (length_one {c = c} (ltb-true c 4 t)))))
      (λ t. by_cases (ltb c 512)
      (λ u. absurd (g (is ∙ sym (length_two {c = c} (ltb-false c 4 t) (ltb-true c 512 u)))))
      (λ u. (ltb-false c 512 u, is ∙ sym (length_three {c = c} (ltb-false c 512 u)))))

pub needs_two : (c : ℕ) → 2 ≤ length_for c → 4 ≤ c
needs_two c h = by_cases (ltb c 4) (λ t. absurd (omega (arith, length_one {c = c} (ltb-true c 4 t)))) (λ t. ltb-false c 4 t)

pub needs_three : (c : ℕ) → 3 ≤ length_for c → 512 ≤ c
needs_three c h =
    let k = needs_two c (omega arith) in
    by_cases (ltb c 512) (λ t. absurd (omega (arith, length_two {c = c} k (ltb-true c 512 t)))) (λ t. ltb-false c 512 t)

-- ---- the octets of the figure's bits

pub bit_lt : (l : Bool) → bit_of l < 2
bit_lt true = omega arith
bit_lt false = omega arith

module _ (h : Header) (c e : ℕ) (q : List ℕ) where
  pub first_bits_law : first_bits h c e ++ q ≡ digits 1 (bit_of h.last) ++ (digits 4 h.number ++ (digits 2 c ++ (digits 1 e ++ q)))
  first_bits_law = simp append_assoc

  first_number : h.number ≤ 15 → e ≤ 1 → number 8 (first_bits h c e ++ q) ≡ bit_of h.last * 128 + h.number * 8 + c % 4 * 2 + e
  first_number n k =
      let b = bit_lt h.last in
      let w = number_front 1 7 (bit_of h.last) (digits 4 h.number ++ (digits 2 c ++ (digits 1 e ++ q))) in
      let x = number_front 4 3 h.number (digits 2 c ++ (digits 1 e ++ q)) in
      let y = number_front 2 1 c (digits 1 e ++ q) in
      let z = number_digits 1 e q in
      rw first_bits_law (omega arith)

  pub first_length : length (first_bits h c e) ≡ 8
  first_length =
      omega (
        arith,
        length-append (digits 1 (bit_of h.last)) (digits 4 h.number ++ (digits 2 c ++ digits 1 e)),
        length-append (digits 4 h.number) (digits 2 c ++ digits 1 e),
        length-append (digits 2 c) (digits 1 e),
        length_digits 1 (bit_of h.last),
        length_digits 4 h.number,
        length_digits 2 c,
        length_digits 1 e,
      )

  pub first_drop : drop 8 (first_bits h c e ++ q) ≡ q
  first_drop = drop_at (first_bits h c e) q 8 first_length

module _ (c e : ℕ) (q : List ℕ) where
  pub next_bits_law : next_bits c e ++ q ≡ digits 7 c ++ (digits 1 e ++ q)
  next_bits_law = append_assoc (digits 7 c) (digits 1 e) q

  next_number : e ≤ 1 → number 8 (next_bits c e ++ q) ≡ c % 128 * 2 + e
  next_number k =
      let x = number_front 7 1 c (digits 1 e ++ q) in
      let z = number_digits 1 e q in
      rw next_bits_law (omega arith)

  pub next_length : length (next_bits c e) ≡ 8
  next_length = omega (arith, length-append (digits 7 c) (digits 1 e), length_digits 7 c, length_digits 1 e)

  next_drop : drop 8 (next_bits c e ++ q) ≡ q
  next_drop = drop_at (next_bits c e) q 8 next_length

-- ---- the octets of a header

module _ (h : Header) (n : h.number ≤ 15) where
  pub octets_one : {v : ℕ} → h.counter < 4 → v ≡ bit_of h.last * 128 + h.number * 8 + h.counter % 4 * 2 + 1 → v ∷ [] ≡ header_octets h
  unfolding header_octets header_bits octets
  octets_one l e =
      let c = h.counter in
      let f : number 8 (first_bits h c 1) ≡ bit_of h.last * 128 + h.number * 8 + c % 4 * 2 + 1 = rw append-nil at (first_number h c 1 [] n (omega arith)) in
      rw (← length_one l) (simp (lt-ltb _ _ l) (rw (f, e)))

  pub octets_two : {v w : ℕ} → 4 ≤ h.counter → h.counter < 512
      → v ≡ bit_of h.last * 128 + h.number * 8 + h.counter / 128 % 4 * 2 + 0 → w ≡ h.counter % 128 * 2 + 1 → v ∷ w ∷ [] ≡ header_octets h
  unfolding header_octets header_bits octets
  octets_two k l e f =
      let c = h.counter in
      let a = first_number h (c / 128) 0 (next_bits c 1) n (omega arith) in
      let b : number 8 (next_bits c 1) ≡ c % 128 * 2 + 1 = rw append-nil at (next_number c 1 [] (omega arith)) in
      rw (← length_two k l) (simp (le-ltb _ _ k, lt-ltb _ _ l) (rw (a, first_drop h (c / 128) 0 (next_bits c 1), b, e, f)))

  pub octets_three : {v w x : ℕ} → 512 ≤ h.counter
      → v ≡ bit_of h.last * 128 + h.number * 8 + h.counter / 16384 % 4 * 2 + 0 → w ≡ h.counter / 128 % 128 * 2 + 0 → x ≡ h.counter % 128 * 2 + 0
      → v ∷ w ∷ x ∷ [] ≡ header_octets h
  unfolding header_octets header_bits octets
  octets_three l e f g =
      let c = h.counter in
      let k : 4 ≤ c = omega arith in
      let a = first_number h (c / 16384) 0 (next_bits (c / 128) 0 ++ next_bits c 0) n (omega arith) in
      let b = next_number (c / 128) 0 (next_bits c 0) (omega arith) in
      let d : number 8 (next_bits c 0) ≡ c % 128 * 2 + 0 = rw append-nil at (next_number c 0 [] (omega arith)) in
      rw (← length_three l) (simp (le-ltb _ _ k, le-ltb _ _ l) (rw (a, first_drop h (c / 16384) 0 (next_bits (c / 128) 0 ++ next_bits c 0), b, next_drop (c / 128) 0 (next_bits c 0), d, e, f, g)))

-- ---- the answers

module _ (h : Header) (out : List ℕ) where
  -- what an answer says, and the output that it leaves
  abbrev pub Wrote : Answer ℕ → List ℕ → Type 0
  Wrote a out' = (a ≡ write_header h (length out)) × (out' ≡ output_after a h out)

  pub number_over : 15 < h.number → Wrote (refused 23) out
  unfolding write_header write_refusal first_of decided output_after
  number_over n = (simp (lt-ltb _ _ n), refl)

  module _ (n : h.number ≤ 15) where
    pub counter_over : 65535 < h.counter → Wrote (refused 23) out
    unfolding write_header write_refusal first_of decided output_after
    counter_over k = (simp (le-ltb _ _ n, lt-ltb _ _ k), refl)

    module _ (k : h.counter ≤ 65535) {m : ℕ} (is : m ≡ length_for h.counter) where
      pub no_room : length out < m → Wrote (refused 22) out
      unfolding write_header write_refusal first_of decided output_after
      no_room l = (simp (← is, le-ltb _ _ n, le-ltb _ _ k, lt-ltb _ _ l), refl)

      pub put : (o : List ℕ) → m ≤ length out → length o ≡ m → o ≡ header_octets h → Wrote (accepted m) (sets out 0 o)
      unfolding write_header write_refusal first_of decided output_after
      put o l e f =
          let s : sets out 0 o ≡ o ++ drop (length o) out = simp zero-add at (sets-eq o out 0 (simp zero-add (omega arith))) in (
            simp (← is, le-ltb _ _ n, le-ltb _ _ k, le-ltb _ _ l),
            rw (← f, ← e) s,
          )

-- a header that is accepted: no check holds
pub record InRange (h : Header) : Type 0 where
  pub number : h.number ≤ 15
  pub counter : h.counter ≤ 65535

pub accepted_is : (h : Header) (n k : ℕ) → write_header h n ≡ accepted k → InRange h × (length_for h.counter ≡ k)
unfolding write_header write_refusal
accepted_is h n k e =
    let d = decided_accepted (write_refusal h n) (length_for h.counter) k e in
    let a = first_none 22 (ltb 15 h.number) _ d.0 in
    let b = first_none 22 (ltb 65535 h.counter) _ a.1 in
    (record { number = ltb-false _ _ a.0; counter = ltb-false _ _ b.0 }, d.1)
