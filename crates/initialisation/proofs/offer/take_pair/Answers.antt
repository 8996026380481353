-- The search goes through the applications, and for each through the elements.
-- Assumes nothing.
use Rattle.std.proofs.Common.{◌≡◌, length, sym, ◌∙◌, rules}
use Rattle.initialisation.proofs.Lists.{long}
use Rattle.initialisation.proofs.OfferLaws.{element_here, element_next, element_none, pair_found, pair_next, pair_none, offered_is}
use Rattle.initialisation.proofs.offer.take_pair.Goals as goal

pub loop-element-preserved : goal.loop-element-preserved
loop-element-preserved c = (c.loop-element.invariant.0, c.loop-element.invariant.1 ∙ element_next _ _ _ c.loop-element-test.true c.if-element-entry.false)

pub search-preserved : goal.search-preserved
search-preserved c = (c.loop-element.invariant.0, c.search.invariant.1 ∙ pair_next _ _ _ c.search-test.true (c.loop-element.invariant.1 ∙ element_none _ _ _ c.loop-element-test.false))

pub returns-after-search : goal.returns-after-search
returns-after-search c =
    let n : length c.args.entries ≡ 32 = search (rules, long) in
    c.search.invariant.0 ∙ sym (sym (offered_is _ _ _ n c.offered.ensures) ∙ c.search.invariant.1 ∙ pair_none _ _ _ c.search-test.false)

pub returns-then-element-entry : goal.returns-then-element-entry
returns-then-element-entry c =
    let n : length c.args.entries ≡ 32 = search (rules, long) in
    sym (sym (offered_is _ _ _ n c.offered.ensures) ∙ c.search.invariant.1 ∙ pair_found _ _ _ c.search-test.true (c.loop-element.invariant.1 ∙ element_here _ _ _ c.loop-element-test.true c.if-element-entry.true))
