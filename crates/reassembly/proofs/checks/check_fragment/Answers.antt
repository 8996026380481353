-- Each test that holds is the first of the list to hold; the pair's checks follow.
use mathlib.Core.Path.{◌∙◌}
use borrow.Author.Tests.{eq-eqb, ne_eqb, lt-ltb, le-ltb}
use Rattle.refusals.specs.Check.{first_of}
use Rattle.reassembly.proofs.checks.check_fragment.Goals as goal

pub returns-then-fragment-lt-LOWEST_NUMBER : goal.returns-then-fragment-lt-LOWEST_NUMBER
unfolding first_of
returns-then-fragment-lt-LOWEST_NUMBER c = simp (lt-ltb _ _ c.if-fragment-lt-LOWEST_NUMBER.true)

pub returns-then-fragment-eq0 : goal.returns-then-fragment-eq0
unfolding first_of
returns-then-fragment-eq0 c = simp (le-ltb _ _ c.if-fragment-lt-LOWEST_NUMBER.false, eq-eqb _ _ c.if-fragment-eq0.true)

pub returns : goal.returns
unfolding first_of
returns c = c.check_pair.ensures ∙ rw (le-ltb _ _ c.if-fragment-lt-LOWEST_NUMBER.false, ne_eqb _ _ c.if-fragment-eq0.false)
