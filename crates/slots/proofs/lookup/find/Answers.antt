-- The first slot that holds the pair, or past the last of the eight.
use Rattle.std.proofs.Common.{◌≡◌, ℕ, Option, length, ap, ◌∙◌, rules}
use borrow.Author.Tests.{tests}
use Rattle.std.specs.Option.{unwrap_or}
use Rattle.std.proofs.lemmas.Iterator.{YieldsList-from_slice}
use Rattle.std.proofs.lemmas.Iterator.Search.{position_from_yields_List}
use Rattle.slots.specs.Slots.{holds_pair}
use Rattle.slots.proofs.LookupLaws.{index_or}
use Rattle.slots.proofs.Tests.{long}
use Rattle.slots.proofs.lookup.find.Goals as goal

pub returns : goal.returns
returns c =
    let slots = c.args.table.slots in
    let n : length slots ≡ 8 = search (rules, long) in
    c.unwrap_or.ensures
    ∙ ap (λ (o : Option ℕ). unwrap_or o 8)
    (position_from_yields_List (holds_pair c.args.lid c.args.number) _ _ c.position.result c.position.ensures.ran (YieldsList-from_slice slots cc) (λ x b q k. search (rules, tests)))
    ∙ index_or c.args.lid c.args.number slots n
