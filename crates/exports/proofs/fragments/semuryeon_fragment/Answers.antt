-- `exports::fragments::semuryeon_fragment` meets its contract: the call's, over the words. Assumes nothing.
use Rattle.exports.proofs.Exported.{fragment_exported}
use Rattle.exports.proofs.ExportedRuns.{exported_demand, exported_runs_exist}
use Rattle.exports.proofs.fragments.semuryeon_fragment.Goals as goal

pub returns : goal.returns
returns c =
    let joined = c.joined.ensures in
    record { answer = fragment_exported _ _ _ _ _ _ _ _ _ _ _ joined c.fragment_number.ensures; demand = exported_demand; runs = exported_runs_exist }
