-- The fragment of an LSDU, from what reading its header answers.
use mathlib.Core.Path.{◌≡◌, refl, sym, ap, ◌∙◌}
use mathlib.Core.Bool.{Bool, true, false}
use mathlib.Core.List.{List, [], ◌∷◌}
use Prim.Native.Nat.{ℕ, zero, suc, ◌-◌, ◌≤◌}
use native.Mathlib.Omega.{arith}
use lib.ListN.{length, length-drop}
use borrow.Author.Tests.{eq-eqb, ne_eqb, ltb-false}
use Rattle.refusals.specs.Check.{check, first_of, refused, accepted, decided}
use Rattle.header.specs.declared.Header.{Header}
use Rattle.header.specs.declared.HeaderRead.{HeaderRead}
use Rattle.header.specs.Header.{read_refusal, read_header, header_of, header_length}
use Rattle.reassembly.specs.Checks.{fragment_in, payload_of}
use Rattle.reassembly.proofs.Passed.{first_clear, no_fields}

-- ---- what was read

read_valid : (s : List ℕ) (k : ℕ) (h : Header) (n : ℕ) → decided {A = HeaderRead} k (record { header = header_of s; size = header_length s }) ≡ accepted (record { header = h; size = n })
    → (k ≡ 0) × (h ≡ header_of s) × (n ≡ header_length s)
unfolding decided
read_valid s zero h n e =
    let q : ◌≡◌ {A = HeaderRead} (record { header = header_of s; size = header_length s }) (record { header = h; size = n }) = cc in
    (refl, ap (λ (x : HeaderRead). x.header) (sym q), ap (λ (x : HeaderRead). x.size) (sym q))
read_valid s (suc k) h n e = let z : ◌≡◌ {A = ℕ} 0 1 = cc in absurd (omega arith)

read_other : (s : List ℕ) (k j : ℕ) → decided {A = HeaderRead} k (record { header = header_of s; size = header_length s }) ≡ refused j → (k ≡ 0 → ⊥)
unfolding decided
read_other s zero j e = let z : ◌≡◌ {A = ℕ} 0 1 = cc in absurd (omega arith)
read_other s (suc k) j e = λ z. omega (arith, z)

-- the only number that the header's checks have
five : (a b c : Bool) (k : ℕ) → first_of (check 5 a ∷ check 5 b ∷ check 5 c ∷ []) ≡ suc k → suc k ≡ 5
unfolding first_of
five true b c k e = sym e
five false true c k e = sym e
five false false true k e = sym e
five false false false k e = absurd (omega (arith, e))

pub refused_5 : (s : List ℕ) (j : ℕ) → refused j ≡ read_header s → j ≡ 5
unfolding read_header read_refusal decided
refused_5 s j e = go (read_refusal s) refl (sym e)
  where
    go : (k : ℕ) → read_refusal s ≡ k → decided {A = HeaderRead} k (record { header = header_of s; size = header_length s }) ≡ refused j → j ≡ 5
    go zero r d = let z : ◌≡◌ {A = ℕ} 0 1 = cc in absurd (omega arith)
    go (suc k) r d = let q : suc k ≡ j = cc in sym q ∙ five _ _ _ k r

-- a header that is not refused lies in its LSDU
pub header_in : (s : List ℕ) → read_refusal s ≡ 0 → header_length s ≤ length s
unfolding read_refusal
header_in s e = ltb-false (length s) (header_length s) (first_clear 5 _ _ (omega arith) e).0

pub payload_long : (s : List ℕ) → length (payload_of s) ≡ length s - header_length s
unfolding payload_of
payload_long s = length-drop (header_length s) s

-- ---- the fragment

module _ (s : List ℕ) where
  pub fields_in : (h : Header) (n : ℕ) → accepted (record { header = h; size = n }) ≡ read_header s → n ≤ length s
  unfolding read_header
  fields_in h n e =
      let r = read_valid s (read_refusal s) h n (sym e) in
      omega (arith, r.2, header_in s r.0)

  pub fields_are : (h : Header) (n : ℕ) → accepted (record { header = h; size = n }) ≡ read_header s
      → record { valid = true; last = h.last; number = h.number; counter = h.counter; octets = length s - n } ≡ fragment_in s
  unfolding read_header fragment_in
  fields_are h n e =
      let r = read_valid s (read_refusal s) h n (sym e) in
      let octets = ap (λ (k : ℕ). length s - k) r.2 ∙ sym (payload_long s) in
      rw (eq-eqb (read_refusal s) 0 r.0) (λ i. record { valid = true; last = (r.1 i).last; number = (r.1 i).number; counter = (r.1 i).counter; octets = octets i })

  pub fields_none : (j : ℕ) → refused j ≡ read_header s → no_fields ≡ fragment_in s
  unfolding read_header fragment_in
  fields_none j e = rw (ne_eqb (read_refusal s) 0 (read_other s (read_refusal s) j (sym e)))
