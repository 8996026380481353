-- `exports::fragments::semuryeon_expire` meets its contract: the call's, over the words. Assumes nothing.
use Rattle.exports.proofs.Exported.{expiry_exported}
use Rattle.exports.proofs.fragments.semuryeon_expire.Goals as goal

pub returns : goal.returns
returns c = expiry_exported c.args.table.now _ _ _ _ c.table_in-after.ensures.answer c.swept.ensures _ _ c.expire-answer.ensures
