-- `any` finds a slot that shares the pair.
use Rattle.std.proofs.Common.{not, ap, ◌∙◌, rules}
use borrow.Author.Tests.{tests}
use Rattle.std.proofs.lemmas.Iterator.{YieldsList-from_slice}
use Rattle.std.proofs.lemmas.Iterator.Search.{any_from_yields_List}
use Rattle.slots.specs.Model.{both_hold}
use Rattle.slots.proofs.SoundLaws.{alone_is}
use Rattle.slots.proofs.soundness.is_alone.Goals as goal

pub returns : goal.returns
returns c =
    ap not (any_from_yields_List (both_hold c.args.slot) _ _ _ c.any.ensures.ran (YieldsList-from_slice c.args.slots.now cc) (λ x b q k. search (rules, tests)))
    ∙ alone_is c.args.slot c.args.slots.now
