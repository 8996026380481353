use Rattle.std.proofs.Common.{rules, not, ap}
use borrow.Author.Tests.{tests}
use Rattle.std.proofs.lemmas.Iterator.{YieldsList-from_slice}
use Rattle.std.proofs.lemmas.Iterator.Search.{any_from_yields_List}
use Rattle.directory.specs.Directory.{clashes}
use Rattle.directory.proofs.Rows.{apart_is_any}
use Rattle.directory.proofs.apart_from.Goals as goal

pub returns : goal.returns
returns c =
    rw apart_is_any
    (ap not (any_from_yields_List (clashes c.args.row) _ _ _ c.any.ensures.ran (YieldsList-from_slice c.args.others.now cc) (λ x b q k. search (rules, tests))))
