use Rattle.std.proofs.Common.{◌≡◌, ◌+◌, ◌-◌, Bool, true, false, ◌&&◌, length, get_or, drop, take, sym, ap, ◌∙◌, arith, drop_of_length-le, length-drop, take_all, rules}
use Rattle.slots.specs.Slots.{free}
use Rattle.slots.specs.Model.{alone, distinct}
use Rattle.slots.proofs.Tests.{long}
use Rattle.slots.proofs.SoundLaws.{distinct_step}
use Rattle.slots.proofs.soundness.pairs_differ.Goals as goal

pub returns-then-not-is_alone : goal.returns-then-not-is_alone
returns-then-not-is_alone c =
    let slots = c.args.slots in
    let i = c.loop-i.i in
    let n : length slots ≡ 8 = search (rules, long) in
    let rest : drop (i + 1) slots ≡ take (8 - (i + 1)) (drop (i + 1) slots) = sym (take_all (8 - (i + 1)) (drop (i + 1) slots) (omega (arith, length-drop (i + 1) slots))) in
    let a : alone (get_or slots i free) (drop (i + 1) slots) ≡ false = ap (alone (get_or slots i free)) rest ∙ sym c.is_alone.ensures ∙ c.if-not-is_alone.true in
    sym (c.loop-i.invariant ∙ distinct_step slots i (omega arith) ∙ ap (λ (b : Bool). b && distinct (drop (i + 1) slots)) a)

pub loop-i-preserved : goal.loop-i-preserved
loop-i-preserved c =
    let slots = c.args.slots in
    let i = c.loop-i.i in
    let n : length slots ≡ 8 = search (rules, long) in
    let rest : drop (i + 1) slots ≡ take (8 - (i + 1)) (drop (i + 1) slots) = sym (take_all (8 - (i + 1)) (drop (i + 1) slots) (omega (arith, length-drop (i + 1) slots))) in
    let a : alone (get_or slots i free) (drop (i + 1) slots) ≡ true = ap (alone (get_or slots i free)) rest ∙ sym c.is_alone.ensures ∙ c.if-not-is_alone.false in
    c.loop-i.invariant ∙ distinct_step slots i (omega arith) ∙ ap (λ (b : Bool). b && distinct (drop (i + 1) slots)) a

pub returns : goal.returns
unfolding distinct
returns c =
    let slots = c.args.slots in
    let n : length slots ≡ 8 = search (rules, long) in
    sym (c.loop-i.invariant ∙ ap distinct (drop_of_length-le slots {i = c.loop-i.i} (omega arith)))
