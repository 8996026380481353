-- `exports::fragments::semuryeon_release` meets its contract: the call's, over the words. Assumes nothing.
use Rattle.exports.proofs.Exported.{release_exported}
use Rattle.exports.proofs.fragments.semuryeon_release.Goals as goal

pub returns : goal.returns
returns c = release_exported c.args.table.now _ _ _ _ c.table_in-after.ensures.answer c.swept.ensures _ c.release-answer.ensures
