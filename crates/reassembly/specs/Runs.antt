-- Runs of the calls, in any mixture: table and store are passed on as the calls leave them, and everything else that a call gets
-- is arbitrary. A run assumes of each call only the record that the call's contract cites, so it holds of any values that meet the contracts.
-- Every list of calls has a run (`RunsExist`, which the contract of `fragment` cites), so what is said of every run is said of every list.
-- Assumes nothing.
use Rattle.std.specs.Prelude.{ℕ, List, [], ◌∷◌, length, take, Result}
use Rattle.refusals.specs.Check.{Answer, refused, accepted}
use Rattle.refusals.specs.declared.Refusal.{Refusal}
use Rattle.slots.specs.declared.Table.{Table}
use Rattle.slots.specs.Sweep.{sweep_answer, ExpiryGives, ReleaseGives}
use Rattle.reassembly.specs.declared.Accepted.{Accepted}
use Rattle.reassembly.specs.Engine.{Taken, held, whole, fragment_answer, FragmentGives}
use Rattle.reassembly.specs.Ledger.{Call, fragment, expiry, release, Report, refusing, dropping, delivering}
use Rattle.reassembly.specs.History.{Event}

-- what a fragment call reports: a message delivered is what stands at the front of the output
abbrev pub fragment_report : Answer Taken → (output : List ℕ) → Report
fragment_report (refused number) output = refusing number
fragment_report (accepted (held octets dropped)) output = dropping dropped
fragment_report (accepted (whole octets dropped)) output = delivering dropped (take octets output)

abbrev pub sweep_report : Answer ℕ → Report
sweep_report (refused number) = refusing number
sweep_report (accepted dropped) = dropping dropped

-- a table and a store
pub record Kept : Type 0 where
  pub table : Table
  pub store : List ℕ

-- from this table and store these calls gave this history, and left that table and store
pub data Ran : List Call → Table → List ℕ → List Event → Kept → Type 0 where
  ended : {table : Table} {store : List ℕ} → Ran [] table store [] (record { table = table; store = store })
  fragmented : {lid tick : ℕ} {lsdu output : List ℕ} {calls : List Call} {table : Table} {store : List ℕ} {history : List Event} {left : Kept}
      (r : Result Accepted Refusal) (table' : Table) (store' output' : List ℕ) → FragmentGives lid tick lsdu table store output r table' store' output'
      → Ran calls table' store' history left
      → Ran (fragment lid tick lsdu (length output) ∷ calls) table store
      (record { call = fragment lid tick lsdu (length output); report = fragment_report (fragment_answer r) output' } ∷ history) left
  expired : {tick limit : ℕ} {calls : List Call} {table : Table} {store : List ℕ} {history : List Event} {left : Kept}
      (r : Result ℕ Refusal) (table' : Table) → ExpiryGives tick limit table r table'
      → Ran calls table' store history left
      → Ran (expiry tick limit ∷ calls) table store (record { call = expiry tick limit; report = sweep_report (sweep_answer r) } ∷ history) left
  released : {lid : ℕ} {calls : List Call} {table : Table} {store : List ℕ} {history : List Event} {left : Kept}
      (r : Result ℕ Refusal) (table' : Table) → ReleaseGives lid table r table'
      → Ran calls table' store history left
      → Ran (release lid ∷ calls) table store (record { call = release lid; report = sweep_report (sweep_answer r) } ∷ history) left

-- ---- there are runs

-- a run of these calls from this table and store
pub record HasRun (calls : List Call) (table : Table) (store : List ℕ) : Type 0 where
  pub history : List Event
  pub left : Kept
  pub ran : Ran calls table store history left

-- From every table and store, sound or not, every list of calls has a run. Demand 3 speaks of every run; were there none, it would say nothing.
unfoldable pub RunsExist : Type 0
RunsExist = (calls : List Call) (table : Table) (store : List ℕ) → HasRun calls table store
