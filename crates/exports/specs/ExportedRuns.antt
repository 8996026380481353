-- Demand 3 of the exported calls (01, "Joining"): fragment, expiry and release calls in any mixture, on the same table words and store, from words that are all
-- zero. What a call reported is read out of its answer's number alone, and demand 3 holds of that history, of the table that the words are afterwards.
-- Every list of calls has such a run, so demand 3 speaks of every list.
-- proofs/ExportedRuns.antt proves both from the contracts, and `semuryeon_fragment` cites them.
-- Assumes nothing.
use Rattle.std.specs.Prelude.{ℕ, List, [], ◌∷◌, length, take, replicate, eqb}
use Rattle.refusals.specs.Check.{pick}
use Rattle.reassembly.specs.Ledger.{Call, fragment, expiry, release, Report, refusing, dropping, delivering}
use Rattle.reassembly.specs.History.{Event}
use Rattle.reassembly.specs.Demand3.{Demand3}
use Rattle.words.specs.Answer.{number_in, kind_in, first_in, second_in}
use Rattle.words.specs.TableWords.{table_length, table_in}
use Rattle.exports.specs.Fragments.{FragmentExported, ExpiryExported, ReleaseExported}

-- what an answer's number tells: the refusal; else the octets dropped, and for kind 2 the message at the front of the output
unfoldable pub fragment_tells : ℕ → (output : List ℕ) → Report
fragment_tells r output =
    pick (eqb (number_in r) 0)
    (pick (eqb (kind_in r) 2) (delivering (second_in r) (take (first_in r) output)) (dropping (second_in r)))
    (refusing (number_in r))

unfoldable pub sweep_tells : ℕ → Report
sweep_tells r = pick (eqb (number_in r) 0) (dropping (first_in r)) (refusing (number_in r))

abbrev pub event : Call → Report → Event
event call report = record { call = call; report = report }

-- from these words and store these calls gave this history, and left those words and that store
pub data ExportedRan : List Call → (words store : List ℕ) → List Event → (left kept : List ℕ) → Type 0 where
  ended : {words store : List ℕ} → ExportedRan [] words store [] words store
  fragmented : {lid tick : ℕ} {lsdu output words store left kept : List ℕ} {calls : List Call} {history : List Event} (r : ℕ) (words' store' output' : List ℕ)
      → FragmentExported lid tick lsdu words store output r words' store' output' → ExportedRan calls words' store' history left kept
      → ExportedRan (fragment lid tick lsdu (length output) ∷ calls) words store (event (fragment lid tick lsdu (length output)) (fragment_tells r output') ∷ history) left kept
  expired : {tick limit : ℕ} {words store left kept : List ℕ} {calls : List Call} {history : List Event} (r : ℕ) (words' : List ℕ)
      → ExpiryExported tick limit words r words' → ExportedRan calls words' store history left kept
      → ExportedRan (expiry tick limit ∷ calls) words store (event (expiry tick limit) (sweep_tells r) ∷ history) left kept
  released : {lid : ℕ} {words store left kept : List ℕ} {calls : List Call} {history : List Event} (r : ℕ) (words' : List ℕ)
      → ReleaseExported lid words r words' → ExportedRan calls words' store history left kept
      → ExportedRan (release lid ∷ calls) words store (event (release lid) (sweep_tells r) ∷ history) left kept

-- every run meets demand 3
unfoldable pub ExportedDemand : Type 0
ExportedDemand =
    (store : List ℕ) (calls : List Call) (history : List Event) (left kept : List ℕ) → ExportedRan calls (replicate table_length 0) store history left kept
    → Demand3 store calls history (record { table = table_in left; store = kept })

-- ---- there are runs

-- a run of these calls from these words and this store
pub record HasExportedRun (calls : List Call) (words store : List ℕ) : Type 0 where
  pub history : List Event
  pub left : List ℕ
  pub kept : List ℕ
  pub ran : ExportedRan calls words store history left kept

-- From any words and store, of any length and numbers, every list of calls has a run. Demand 3 speaks of every run; were there none, it would say nothing.
unfoldable pub ExportedRunsExist : Type 0
ExportedRunsExist = (calls : List Call) (words store : List ℕ) → HasExportedRun calls words store
