-- Every list of calls has a run: each call's definition gives an answer that meets its contract. Assumes nothing.
use mathlib.Core.Path.{◌≡◌, refl, ap, subst}
use mathlib.Core.Bool.{Bool, true, false, not}
use mathlib.Core.List.{List, [], ◌∷◌, map}
use Prim.Native.Nat.{ℕ}
use lib.ListN.{length, replicate, length-replicate}
use lib.Dec.{eqb}
use Rattle.std.specs.Prelude.{Result, Ok, Err}
use Rattle.refusals.specs.declared.Refusal.{Refusal}
use Rattle.refusals.specs.declared.Refusal.TheVariants.{StoreOrOutputLength, TableNotSound, LidOutOfRange, LsduLength, HeaderNotValid, NumberReserved, NoPayload, NotOpen, NoFreeSlot, CounterNotExpected, CounterExhausted, MessageTooLong}
use Rattle.refusals.specs.Refusal.{number_of}
use Rattle.refusals.specs.Check.{pick, Check, first_of, refused, accepted}
use Rattle.slots.specs.declared.Slot.{Slot}
use Rattle.slots.specs.declared.Table.{Table}
use Rattle.slots.specs.Slots.{is_sound, table_of}
use Rattle.slots.specs.Sweep.{Swept, expiry_checks, release_checks, aged_slot, of_lid, freed, dropped_by, swept_by, sweep_answer, expiry_of, release_of, ExpiryGives, ReleaseGives}
use Rattle.reassembly.specs.declared.Accepted.{Accepted}
use Rattle.reassembly.specs.Checks.{fragment_in, payload_of, fragment_checks}
use Rattle.reassembly.specs.Engine.{Outcome, facts_in, change_taken, fragment_taken, fragment_refusal, fragment_answer, fragment_of, FragmentGives}
use Rattle.reassembly.specs.Ledger.{Call, fragment, expiry, release}
use Rattle.reassembly.specs.Runs.{HasRun, ended, fragmented, expired, released, RunsExist}

-- ---- a number that checks refuse with, as a refusal

pub record Numbered (n : ℕ) : Type 0 where
  pub refusal : Refusal
  pub number_is : number_of refusal ≡ n

-- checks with the numbers of these refusals refuse with one of them, or with none
numbered : (checks : List Check) (refusals : List Refusal) → map number_of refusals ≡ map (λ (c : Check). c.number) checks
    → eqb (first_of checks) 0 ≡ false → Numbered (first_of checks)
unfolding first_of
numbered [] refusals e z = absurd (cc)
numbered (c ∷ checks) [] e z = absurd (cc)
numbered (c ∷ checks) (r ∷ refusals) e z = go c.holds (λ h. numbered checks refusals behind h) z
  where
    here : number_of r ≡ c.number
    here = cc

    behind : map number_of refusals ≡ map (λ (c : Check). c.number) checks
    behind = cc

    go : (b : Bool) → (eqb (first_of checks) 0 ≡ false → Numbered (first_of checks)) → eqb (pick b c.number (first_of checks)) 0 ≡ false
        → Numbered (pick b c.number (first_of checks))
    go true rest z = record { refusal = r; number_is = here }
    go false rest z = rest z

-- ---- a call that meets its contract

module _ (checks : List Check) (refusals : List Refusal) (same : map number_of refusals ≡ map (λ (c : Check). c.number) checks)
    (test : Slot → Bool) (table : Table) where
  swept_result : (r : Result ℕ Refusal) × (sweep_answer r ≡ (swept_by checks test table).answer)
  unfolding swept_by
  swept_result = go (eqb (first_of checks) 0) refl
    where
      yes : Swept
      yes = record { answer = accepted (dropped_by test table.slots); table = table_of (freed test table.slots) }

      no : Swept
      no = record { answer = refused (first_of checks); table = table }

      go : (b : Bool) → eqb (first_of checks) 0 ≡ b → (r : Result ℕ Refusal) × (sweep_answer r ≡ (pick b yes no).answer)
      go true z = (Ok (dropped_by test table.slots), refl)
      go false z =
          let n = numbered checks refusals same z in
          (Err n.refusal, ap refused n.number_is)

pub expiry_result : (tick limit : ℕ) (table : Table) → (r : Result ℕ Refusal) × ExpiryGives tick limit table r (expiry_of tick limit table).table
unfolding expiry_of
expiry_result tick limit table =
    let r = swept_result (expiry_checks (not (is_sound table))) (TableNotSound ∷ []) refl (aged_slot tick limit) table in
    (r.0, record { answer_is = r.1; table_is = refl })

pub release_result : (lid : ℕ) (table : Table) → (r : Result ℕ Refusal) × ReleaseGives lid table r (release_of lid table).table
unfolding release_of
release_result lid table =
    let r = swept_result (release_checks (not (is_sound table)) lid) (TableNotSound ∷ LidOutOfRange ∷ []) refl (of_lid lid) table in
    (r.0, record { answer_is = r.1; table_is = refl })

module _ (lid tick : ℕ) (lsdu : List ℕ) (table : Table) (store output : List ℕ) where
  fragment_answered : (r : Result Accepted Refusal) × (fragment_answer r ≡ (fragment_of lid tick lsdu table store output).answer)
  unfolding fragment_of fragment_taken fragment_refusal
  fragment_answered = go (eqb n 0) refl
    where
      checks : List Check
      checks =
          fragment_checks (length store) (length output) (not (is_sound table)) lid (length lsdu) (fragment_in lsdu)
          (facts_in lid (fragment_in lsdu).number table)

      n : ℕ
      n = first_of checks

      yes : Outcome
      yes = fragment_taken (fragment_in lsdu).last (eqb (fragment_in lsdu).counter 0) lid (fragment_in lsdu).number tick (payload_of lsdu) table store output

      no : Outcome
      no = record { answer = refused n; table = table; store = store; output = output }

      go : (b : Bool) → eqb n 0 ≡ b → (r : Result Accepted Refusal) × (fragment_answer r ≡ (pick b yes no).answer)
      go true z = (Ok (change_taken (fragment_in lsdu).last (eqb (fragment_in lsdu).counter 0) lid (fragment_in lsdu).number tick (length (payload_of lsdu)) table).accepted, refl)
      go false z =
          let all =
          StoreOrOutputLength ∷ TableNotSound ∷ LidOutOfRange ∷ LsduLength ∷ HeaderNotValid ∷ NumberReserved ∷ NoPayload ∷ NotOpen ∷ NoFreeSlot ∷ CounterNotExpected
          ∷ CounterExhausted ∷ MessageTooLong ∷ [] in
          let x = numbered checks all refl z in
          (Err x.refusal, ap refused x.number_is)

  pub fragment_result : let o = fragment_of lid tick lsdu table store output in
      (r : Result Accepted Refusal) × FragmentGives lid tick lsdu table store output r o.table o.store o.output
  fragment_result = (fragment_answered.0, record { answer_is = fragment_answered.1; table_is = refl; store_is = refl; output_is = refl })

-- ---- a run

-- one more call in front; of the output a call tells only the length
fragment_first : (lid tick : ℕ) (lsdu output : List ℕ) (calls : List Call) (table : Table) (store : List ℕ)
    → ((table' : Table) (store' : List ℕ) → HasRun calls table' store') → HasRun (fragment lid tick lsdu (length output) ∷ calls) table store
fragment_first lid tick lsdu output calls table store rest =
    let o = fragment_of lid tick lsdu table store output in
    let r = fragment_result lid tick lsdu table store output in
    let behind = rest o.table o.store in
    record { history = _; left = behind.left; ran = fragmented r.0 o.table o.store o.output r.1 behind.ran }

pub runs_exist : RunsExist
unfolding RunsExist
runs_exist [] table store = record { history = []; left = record { table = table; store = store }; ran = ended }
runs_exist (fragment lid tick lsdu n ∷ calls) table store =
    subst (λ (m : ℕ). HasRun (fragment lid tick lsdu m ∷ calls) table store) (length-replicate n 0)
    (fragment_first lid tick lsdu (replicate n 0) calls table store (runs_exist calls))
runs_exist (expiry tick limit ∷ calls) table store =
    let r = expiry_result tick limit table in
    let after = (expiry_of tick limit table).table in
    let behind = runs_exist calls after store in
    record { history = _; left = behind.left; ran = expired r.0 after r.1 behind.ran }
runs_exist (release lid ∷ calls) table store =
    let r = release_result lid table in
    let after = (release_of lid table).table in
    let behind = runs_exist calls after store in
    record { history = _; left = behind.left; ran = released r.0 after r.1 behind.ran }
