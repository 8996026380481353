-- What is known of a fragment call when none of its checks holds.
use mathlib.Core.Path.{◌≡◌, refl, sym, ap, ◌∙◌}
use mathlib.Core.Bool.{Bool, true, false, not, ◌&&◌, ◌||◌, false≢true, true≢false}
use mathlib.Core.List.{List, [], ◌∷◌, ◌++◌}
use Prim.Native.Nat.{ℕ, zero, suc, ◌+◌, ◌-◌, ◌^◌, ◌≤◌, ◌<◌}
use native.Mathlib.Omega.{arith}
use lib.ListN.{length}
use lib.Dec.{eqb, ltb}
use borrow.Author.Tests.{ne_eqb, lt-ltb, le-ltb, eqb-true, eqb-false, ltb-true, ltb-false}
use Rattle.refusals.specs.Check.{pick, Check, check, first_of}
use Rattle.bits.proofs.Laws.{field_lt}
use Rattle.header.specs.Header.{read_refusal, header_of}
use Rattle.slots.specs.Slots.{lid_in_range}
use Rattle.slots.proofs.Tests.{not_f}
use Rattle.reassembly.specs.Checks.{FragmentFields, Facts, fragment_in, payload_of, fragment_checks}

-- ---- lists of checks

-- each number of a list is above 0
unfoldable pub Numbered : List Check → Type 0
Numbered [] = Unit {0}
Numbered (c ∷ cs) = (0 < c.number) × Numbered cs

-- the first check of two lists is that of the first, or else of the second
pub first_append : (cs ds : List Check) → Numbered cs → first_of (cs ++ ds) ≡ pick (eqb (first_of cs) 0) (first_of ds) (first_of cs)
unfolding first_of Numbered
first_append [] ds n = refl
first_append (c ∷ cs) ds n = go c.holds (first_append cs ds n.1)
  where
    go : (b : Bool) → first_of (cs ++ ds) ≡ pick (eqb (first_of cs) 0) (first_of ds) (first_of cs)
        → pick b c.number (first_of (cs ++ ds)) ≡ pick (eqb (pick b c.number (first_of cs)) 0) (first_of ds) (pick b c.number (first_of cs))
    go true r = over c.number n.0
      where
        over : (k : ℕ) → 0 < k → k ≡ pick (eqb k 0) (first_of ds) k
        over zero h = absurd (omega arith)
        over (suc k) h = rw (ne_eqb (suc k) 0 (λ e. omega (arith, e)))
    go false r = r

pub first_clear : (n : ℕ) (b : Bool) (cs : List Check) → 0 < n → first_of (check n b ∷ cs) ≡ 0 → (b ≡ false) × (first_of cs ≡ 0)
unfolding first_of
first_clear n true cs h e = absurd (omega (arith, h, e))
first_clear n false cs h e = (refl, e)

or_f : (a b : Bool) → a || b ≡ false → (a ≡ false) × (b ≡ false)
or_f true b e = absurd (true≢false e)
or_f false b e = (refl, e)

-- ---- the fragment of an LSDU

-- one with a valid header is what the header says
abbrev pub valid_fields : List ℕ → FragmentFields
valid_fields lsdu = record { valid = true; last = (header_of lsdu).last; number = (header_of lsdu).number; counter = (header_of lsdu).counter; octets = length (payload_of lsdu) }

abbrev pub no_fields : FragmentFields
no_fields = record { valid = false; last = false; number = 0; counter = 0; octets = 0 }

-- its number has four bits
pub number_high : (lsdu : List ℕ) → (fragment_in lsdu).number ≤ 15
unfolding fragment_in header_of
number_high lsdu = go (eqb (read_refusal lsdu) 0)
  where
    go : (b : Bool) → (pick {A = FragmentFields} b (valid_fields lsdu) no_fields).number ≤ 15
    go true = omega (arith, field_lt lsdu 1 4)
    go false = omega arith

pub valid_is : (lsdu : List ℕ) → (fragment_in lsdu).valid ≡ true → fragment_in lsdu ≡ valid_fields lsdu
unfolding fragment_in
valid_is lsdu h = go (eqb (read_refusal lsdu) 0) h
  where
    go : (b : Bool) → (pick {A = FragmentFields} b (valid_fields lsdu) no_fields).valid ≡ true
        → pick {A = FragmentFields} b (valid_fields lsdu) no_fields ≡ valid_fields lsdu
    go true h = refl
    go false h = absurd (false≢true h)

pub valid_refusal : (lsdu : List ℕ) → (fragment_in lsdu).valid ≡ true → read_refusal lsdu ≡ 0
unfolding fragment_in
valid_refusal lsdu h = eqb-true (read_refusal lsdu) 0 (go (eqb (read_refusal lsdu) 0) h)
  where
    go : (b : Bool) → (pick {A = FragmentFields} b (valid_fields lsdu) no_fields).valid ≡ true → b ≡ true
    go true h = refl
    go false h = h

-- ---- all checks

pub record Passed (store output lid : ℕ) (not_sound : Bool) (f : FragmentFields) (facts : Facts) : Type 0 where
  pub store_long : store ≡ 4096
  pub output_long : 512 ≤ output
  pub table_sound : not_sound ≡ false
  pub lid_ok : lid < 2 ^ 28
  pub valid : f.valid ≡ true
  pub number_low : 2 ≤ f.number
  pub payload_some : 1 ≤ f.octets
  pub opens : eqb f.counter 0 ≡ false → facts.is_open ≡ true
  pub room : f.last ≡ false → facts.is_open ≡ false → facts.full ≡ false
  pub fits : pick (eqb f.counter 0) 0 facts.held + f.octets ≤ 512

pub passed : (store output lid lsdu : ℕ) (u : Bool) (f : FragmentFields) (facts : Facts) → first_of (fragment_checks store output u lid lsdu f facts) ≡ 0 → Passed store output lid u f facts
passed store output lid lsdu u f facts e =
    let c1 = first_clear 1 _ _ (omega arith) e in
    let c2 = first_clear 2 _ _ (omega arith) c1.1 in
    let c3 = first_clear 3 _ _ (omega arith) c2.1 in
    let c4 = first_clear 4 _ _ (omega arith) c3.1 in
    let c5 = first_clear 5 _ _ (omega arith) c4.1 in
    let c6 = first_clear 6 _ _ (omega arith) c5.1 in
    let c7 = first_clear 7 _ _ (omega arith) c6.1 in
    let c8 = first_clear 8 _ _ (omega arith) c7.1 in
    let c9 = first_clear 9 _ _ (omega arith) c8.1 in
    let c10 = first_clear 10 _ _ (omega arith) c9.1 in
    let c11 = first_clear 11 _ _ (omega arith) c10.1 in
    let c12 = first_clear 12 _ _ (omega arith) c11.1 in
    let long = or_f (not (eqb store 4096)) (ltb output 512) c1.0 in
    record {
      store_long = eqb-true store 4096 (not_f (eqb store 4096) long.0);
      output_long = ltb-false output 512 long.1;
      table_sound = c2.0;
      lid_ok = ltb-true lid (2 ^ 28) (not_f (lid_in_range lid) c3.0);
      valid = not_f f.valid c5.0;
      number_low = ltb-false f.number 2 c6.0;
      payload_some = some f.octets c7.0;
      opens = λ z. opened z c8.0;
      room = λ a b. full a b c8.0 c9.0;
      fits = ltb-false 512 (pick (eqb f.counter 0) 0 facts.held + f.octets) c12.0;
    }
  where
    some : (n : ℕ) → eqb n 0 ≡ false → 0 < n
    some zero z = absurd (eqb-false 0 0 z refl)
    some (suc n) z = omega arith

    opened : eqb f.counter 0 ≡ false → ltb 0 f.counter && not facts.is_open ≡ false → facts.is_open ≡ true
    opened z e = not_f facts.is_open (ap (λ (b : Bool). b && not facts.is_open) (sym (lt-ltb 0 f.counter (some f.counter z))) ∙ e)

    full : f.last ≡ false → facts.is_open ≡ false → ltb 0 f.counter && not facts.is_open ≡ false
        → eqb f.counter 0 && not f.last && not facts.is_open && facts.full ≡ false → facts.full ≡ false
    full a b e8 e9 = go (eqb f.counter 0) refl
      where
        go : (c : Bool) → eqb f.counter 0 ≡ c → facts.full ≡ false
        go true z = rw (z, a, b) at e9
        go false z = absurd (true≢false (sym (opened z e8) ∙ b))

-- more than 512 in all, with no sum
pub over : (n m : ℕ) → n ≤ 512 → ltb (512 - n) m ≡ ltb 512 (n + m)
over n m h = go (ltb (512 - n) m) refl
  where
    go : (b : Bool) → ltb (512 - n) m ≡ b → b ≡ ltb 512 (n + m)
    go true e = sym (lt-ltb 512 (n + m) (omega (arith, ltb-true (512 - n) m e)))
    go false e = sym (le-ltb 512 (n + m) (omega (arith, ltb-false (512 - n) m e)))
