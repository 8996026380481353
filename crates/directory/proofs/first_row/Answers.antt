use Rattle.std.proofs.Common.{rules, ◌∙◌}
use borrow.Author.Tests.{tests}
use lib.Dec.{eqb}
use Rattle.std.proofs.lemmas.Iterator.{YieldsList-from_slice}
use Rattle.std.proofs.lemmas.Iterator.Search.{find_from_yields_List}
use Rattle.directory.proofs.Rows.{first_is_find}
use Rattle.directory.proofs.first_row.Goals as goal

pub returns : goal.returns
returns c =
    rw (first_is_find c.args.rows.now c.args.id)
    (c.copied.ensures
    ∙ find_from_yields_List (λ row. eqb row.id c.args.id) _ _ c.find.result c.find.ensures.ran (YieldsList-from_slice c.args.rows.now cc) (λ x b q k. search (rules, tests)))
