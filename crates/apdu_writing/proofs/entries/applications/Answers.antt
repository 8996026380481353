use Rattle.std.proofs.Common.{rules}
use native.Mathlib.Omega.{arith}
use mathlib.Core.Path.{◌≡◌, refl, ◌∙◌}
use lib.ListN.{length}
use borrow.Author.Tests.{not-false}
use Rattle.apdu.proofs.Tables.{long}
use Rattle.apdu_writing.proofs.EntryLists.{turns_none, turns_more, turns_all, turns_stopped}
use Rattle.apdu_writing.proofs.entries.applications.Goals as goal

pub returns-then-not-d : goal.returns-then-not-d
returns-then-not-d c = turns_stopped _ _ _ _ _ _ c.if-not-d.true c.entry_count-d.ensures.0

pub loop-i-init : goal.loop-i-init
loop-i-init c = (refl, omega arith, turns_none _ _ _ _ _ _ _)

pub overflow_add-e : goal.overflow_add-e
overflow_add-e c = omega (arith, c.entry_count-d.ensures.1.so (not-false _ c.if-not-d.false))

pub offset_bounds-list-from : goal.offset_bounds-list-from
offset_bounds-list-from c = omega (arith, c.entry_count-d.ensures.1.so (not-false _ c.if-not-d.false))

pub bounds-list-from : goal.bounds-list-from
bounds-list-from c = omega (arith, c.entry_count-d.ensures.1.so (not-false _ c.if-not-d.false))

pub overflow_add-used : goal.overflow_add-used
overflow_add-used c = omega (arith, c.entry_count-d.ensures.1.so (not-false _ c.if-not-d.false), c.requires, c.loop-i.invariant.1, c.entry_rows-used.ensures.1)

pub loop-i-preserved : goal.loop-i-preserved
loop-i-preserved c = let g = c.entry_count-d.ensures.1.so (not-false _ c.if-not-d.false) in let t : length c.args.list ≡ 32 = search (rules, long) in (c.application-q.auto.out ∙ c.loop-i.invariant.0, omega (arith, c.loop-i.invariant.1, c.entry_rows-used.ensures.1), turns_more _ _ _ _ t c.requires.0 g c.loop-i.invariant.2 refl c.entry_rows-used.ensures.0 c.loop-i-test.true c.application-q.ensures)

pub returns : goal.returns
returns c = let g = c.entry_count-d.ensures.1.so (not-false _ c.if-not-d.false) in let t : length c.args.list ≡ 32 = search (rules, long) in turns_all _ _ _ _ t c.requires.0 g c.loop-i.invariant.2 (omega arith) c.loop-i.invariant.1 c.entry_count-d.ensures.0
