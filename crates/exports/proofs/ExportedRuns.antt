-- Demand 3 of the exported calls: their contracts make a run of them a run of the calls, and what their numbers tell is what those report. Every list of
-- calls has a run: what the calls' definitions give, put into the words, meets the contracts. Assumes nothing.
use mathlib.Core.Path.{◌≡◌, refl, subst}
use mathlib.Core.List.{List, [], ◌∷◌}
use Prim.Native.Nat.{ℕ}
use lib.ListN.{length, replicate, length-replicate}
use Rattle.std.specs.Prelude.{Result, Ok, Err, is_ok}
use Rattle.refusals.specs.declared.Refusal.{Refusal}
use Rattle.slots.specs.declared.Table.{Table}
use Rattle.slots.specs.Sweep.{sweep_answer, expiry_of, release_of, ExpiryGives, ReleaseGives}
use Rattle.reassembly.specs.declared.Accepted.{Accepted}
use Rattle.reassembly.specs.declared.Accepted.TheVariants.{Held, Whole}
use Rattle.reassembly.specs.Engine.{fragment_answer, fragment_of, FragmentGives}
use Rattle.reassembly.specs.Ledger.{Call, fragment, expiry, release}
use Rattle.reassembly.specs.History.{Event}
use Rattle.reassembly.specs.Runs.{Ran, fragment_report, sweep_report}
use Rattle.reassembly.specs.Runs as runs
use Rattle.reassembly.specs.Demand3.{Demanded}
use Rattle.reassembly.proofs.Theorem.{demanded}
use Rattle.reassembly.proofs.Existing.{fragment_result, expiry_result, release_result}
use Rattle.words.specs.TableWords.{table_in, FirstTable}
use Rattle.words.proofs.TableLaws.{first_table}
use Rattle.exports.specs.Fragments.{fragment_number, FragmentSays, FragmentExported, sweep_number, SweepSays, ExpiryExported, ReleaseExported}
use Rattle.exports.specs.Putting.{kept_table}
use Rattle.exports.specs.ExportedRuns.{fragment_tells, sweep_tells, ExportedRan, ended, fragmented, expired, released, ExportedDemand, HasExportedRun, ExportedRunsExist}
use Rattle.exports.proofs.Exported.{fragment_put, fragment_exported, expiry_exported, release_exported}

-- ---- what the numbers tell

fragment_tells_law : (x : Result Accepted Refusal) (r : ℕ) (output : List ℕ) → FragmentSays r x → fragment_tells r output ≡ fragment_report (fragment_answer x) output
unfolding fragment_tells FragmentSays
fragment_tells_law (Ok (Held o d)) r output t = rw (t.number_is, t.kind_is, t.second_is)
fragment_tells_law (Ok (Whole o d)) r output t = rw (t.number_is, t.kind_is, t.first_is, t.second_is)
fragment_tells_law (Err n) r output t = rw (t.1.number_is, t.0)

sweep_tells_law : (x : Result ℕ Refusal) (r : ℕ) → SweepSays r x → sweep_tells r ≡ sweep_report (sweep_answer x)
unfolding sweep_tells SweepSays
sweep_tells_law (Ok d) r t = rw (t.number_is, t.first_is)
sweep_tells_law (Err n) r t = rw (t.1.number_is, t.0)

-- ---- a run

run_of : {calls : List Call} {words store : List ℕ} {history : List Event} {left kept : List ℕ} → ExportedRan calls words store history left kept
    → Ran calls (table_in words) store history (record { table = table_in left; store = kept })
run_of ended = runs.ended
run_of {store = store} (fragmented {left = left} {kept} {calls} {history} r words' store' output' x rest) =
    let behind : Ran calls x.table store' history (record { table = table_in left; store = kept }) =
    subst (λ (t : Table). Ran calls t store' history (record { table = table_in left; store = kept })) x.table_back (run_of rest) in
    rw (fragment_tells_law x.answer r output' x.says) (runs.fragmented x.answer x.table store' output' x.gives behind)
run_of {store = store} (expired {left = left} {kept} {calls} {history} r words' x rest) =
    let behind : Ran calls x.table store history (record { table = table_in left; store = kept }) =
    subst (λ (t : Table). Ran calls t store history (record { table = table_in left; store = kept })) x.exported.table_back (run_of rest) in
    rw (sweep_tells_law x.answer r x.exported.says) (runs.expired x.answer x.table x.gives behind)
run_of {store = store} (released {left = left} {kept} {calls} {history} r words' x rest) =
    let behind : Ran calls x.table store history (record { table = table_in left; store = kept }) =
    subst (λ (t : Table). Ran calls t store history (record { table = table_in left; store = kept })) x.exported.table_back (run_of rest) in
    rw (sweep_tells_law x.answer r x.exported.says) (runs.released x.answer x.table x.gives behind)

pub exported_demand : ExportedDemand
unfolding ExportedDemand Demanded FirstTable
exported_demand store calls history left kept ran =
    demanded store calls history (record { table = table_in left; store = kept })
    (subst (λ (t : Table). Ran calls t store history (record { table = table_in left; store = kept })) first_table (run_of ran))

-- ---- there are runs

-- a call that meets its contract, put into the words, meets the exported one
fragment_over : (lid tick : ℕ) (lsdu words store output store' output' : List ℕ) (answer : Result Accepted Refusal) (after : Table)
    → FragmentGives lid tick lsdu (table_in words) store output answer after store' output'
    → FragmentExported lid tick lsdu words store output (fragment_number answer) (kept_table (is_ok answer) after words) store' output'
fragment_over lid tick lsdu words store output store' output' answer after gives =
    let words' = kept_table (is_ok answer) after words in
    fragment_exported lid tick lsdu words store output (fragment_number answer) words' store' output' answer
    (fragment_put lid tick lsdu words store output store' output' answer after gives words' refl) refl

module _ (words : List ℕ) (answer : Result ℕ Refusal) (after : Table) where
  words_after : List ℕ
  words_after = kept_table (is_ok answer) after words

  expiry_over : (tick limit : ℕ) → ExpiryGives tick limit (table_in words) answer after → ExpiryExported tick limit words (sweep_number answer) words_after
  unfolding words_after
  expiry_over = expiry_exported words (sweep_number answer) words_after answer after refl (record { number_is = refl; words_are = refl })

  release_over : (lid : ℕ) → ReleaseGives lid (table_in words) answer after → ReleaseExported lid words (sweep_number answer) words_after
  unfolding words_after
  release_over = release_exported words (sweep_number answer) words_after answer after refl (record { number_is = refl; words_are = refl })

-- one more call in front; of the output a call tells only the length
fragment_first : (lid tick : ℕ) (lsdu output : List ℕ) (calls : List Call) (words store : List ℕ)
    → ((words' store' : List ℕ) → HasExportedRun calls words' store') → HasExportedRun (fragment lid tick lsdu (length output) ∷ calls) words store
fragment_first lid tick lsdu output calls words store rest =
    let o = fragment_of lid tick lsdu (table_in words) store output in
    let x = fragment_result lid tick lsdu (table_in words) store output in
    let behind = rest (kept_table (is_ok x.0) o.table words) o.store in
    let exported = fragment_over lid tick lsdu words store output o.store o.output x.0 o.table x.1 in
    record { history = _; left = behind.left; kept = behind.kept; ran = fragmented _ _ o.store o.output exported behind.ran }

pub exported_runs_exist : ExportedRunsExist
unfolding ExportedRunsExist
exported_runs_exist [] words store = record { history = []; left = words; kept = store; ran = ended }
exported_runs_exist (fragment lid tick lsdu n ∷ calls) words store =
    subst (λ (m : ℕ). HasExportedRun (fragment lid tick lsdu m ∷ calls) words store) (length-replicate n 0)
    (fragment_first lid tick lsdu (replicate n 0) calls words store (exported_runs_exist calls))
exported_runs_exist (expiry tick limit ∷ calls) words store =
    let after = (expiry_of tick limit (table_in words)).table in
    let x = expiry_result tick limit (table_in words) in
    let behind = exported_runs_exist calls (words_after words x.0 after) store in
    record { history = _; left = behind.left; kept = behind.kept; ran = expired _ _ (expiry_over words x.0 after tick limit x.1) behind.ran }
exported_runs_exist (release lid ∷ calls) words store =
    let after = (release_of lid (table_in words)).table in
    let x = release_result lid (table_in words) in
    let behind = exported_runs_exist calls (words_after words x.0 after) store in
    record { history = _; left = behind.left; kept = behind.kept; ran = released _ _ (release_over words x.0 after lid x.1) behind.ran }
