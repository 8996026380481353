use Rattle.std.proofs.Common.{rules}
use borrow.Author.Tests.{tests}
use Rattle.std.proofs.lemmas.Iterator.{YieldsList-from_slice}
use Rattle.std.proofs.lemmas.Iterator.Search.{all_from_yields_List}
use Rattle.directory.specs.Directory.{row_sound}
use Rattle.directory.proofs.Rows.{each_is_all}
use Rattle.directory.proofs.each_sound.Goals as goal

pub returns : goal.returns
returns c =
    rw each_is_all
    (all_from_yields_List (row_sound c.args.factory c.args.writable) _ _ _ c.all.ensures.ran (YieldsList-from_slice c.args.rows.now cc) (λ x b q k. search (rules, tests)))
