-- `exports::fragments::joined` meets its contract: the call's, over the words. Assumes nothing.
use Rattle.std.proofs.lemmas.Result.{err_from_is_err_and}
use Rattle.exports.proofs.Exported.{fragment_refused, fragment_accepted}
use Rattle.exports.proofs.fragments.joined.Goals as goal

pub returns-in_err-change : goal.returns-in_err-change
returns-in_err-change c =
    let p = err_from_is_err_and c.from_residual.result c.from_residual.ensures.1 in
    rw (p.1, p.2) (fragment_refused _ _ _ _ _ _ _ _ c.table_in.ensures.answer c.in_err-change.ensures)

pub returns : goal.returns
returns c = fragment_accepted _ _ _ _ _ _ _ _ c.table_in.ensures.answer c.in_ok-change.ensures c.put_change.ensures.answer
