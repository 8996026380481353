use mathlib.Core.Path.{refl, ◌∙◌}
use Rattle.apdu_writing.proofs.EntryLists.{stage_first, stage_low, stage_stopped, stage_last, stage_next, last_less}
use Rattle.apdu_writing.proofs.link.entry_lists.Goals as goal

pub loop-q-init : goal.loop-q-init
loop-q-init c = (refl, stage_first _ _ _ _ _ _ _ _)

pub applications-t-requires : goal.applications-t-requires
applications-t-requires c = stage_low c.loop-q.invariant.1

pub shape_of-out-then-not-q : goal.shape_of-out-then-not-q
shape_of-out-then-not-q c = c.applications-t.auto.out ∙ c.loop-q.invariant.0

pub returns-then-not-q : goal.returns-then-not-q
returns-then-not-q c = stage_stopped c.loop-q.invariant.1 c.applications-t.ensures c.if-not-q.true

pub shape_of-out-then-not-more : goal.shape_of-out-then-not-more
shape_of-out-then-not-more c = c.applications-t.auto.out ∙ c.loop-q.invariant.0

pub returns-then-not-more : goal.returns-then-not-more
returns-then-not-more c = stage_last c.loop-q.invariant.1 c.applications-t.ensures c.if-not-more.true-raw c.within.ensures

pub loop-q-smaller : goal.loop-q-smaller
loop-q-smaller c = last_less c.loop-q.more c.if-not-more.false-raw

pub loop-q-preserved : goal.loop-q-preserved
loop-q-preserved c = (c.applications-t.auto.out ∙ c.loop-q.invariant.0, stage_next c.loop-q.invariant.1 c.applications-t.ensures c.if-not-q.false c.if-not-more.false-raw)
