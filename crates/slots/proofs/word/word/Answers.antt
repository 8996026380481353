use Rattle.std.proofs.Common.{◌≡◌, ◌+◌, ◌*◌, List, length, arith, sym, ap, ◌∙◌, rules}
use Rattle.slots.specs.declared.Slot.{Slot}
use Rattle.slots.specs.Slots.{bit_of, is_busy}
use Rattle.slots.proofs.Tests.{long}
use Rattle.slots.proofs.WordLaws.{word_byte, word_before, before_none, before_le, before_last, before_end, byte_bit, bit_le}
use Rattle.slots.proofs.word.word.Goals as goal

pub loop-slot-init : goal.loop-slot-init
loop-slot-init c =
    let e : c.into_iter-slot-iterator.result.iter.rest.now ≡ c.args.slots = search rules in
    rw e (before_none c.args.slots)

pub overflow_mul-w : goal.overflow_mul-w
overflow_mul-w c =
    let n : length c.args.slots ≡ 8 = search (rules, long) in
    omega (arith, before_le c.loop-slot.slot-iterator.iter.rest.now c.loop-slot.w, word_byte c.args.slots 0 n)

pub overflow_add-w : goal.overflow_add-w
overflow_add-w c =
    let n : length c.args.slots ≡ 8 = search (rules, long) in
    let busy = is_busy c.in-Some.slot.now in
    omega (arith, before_le c.loop-slot.slot-iterator.iter.rest.now c.loop-slot.w, word_byte c.args.slots 0 n, byte_bit busy, bit_le busy)

pub loop-slot-preserved : goal.loop-slot-preserved
loop-slot-preserved c =
    let slot = c.in-Some.slot.now in
    let w = c.loop-slot.w in
    let left = c.next.new.self.iter.rest.now in
    let bit = c.from.ensures ∙ byte_bit (is_busy slot) in
    let e : bit_of (is_busy slot) + 2 * w ≡ 2 * w + c.from.result = omega (arith, bit) in
    c.loop-slot.invariant ∙ ap (λ (l : List Slot). word_before l w) c.in-Some.ensures.steps ∙ before_last left slot w ∙ ap (word_before left) e

pub returns : goal.returns
returns c =
    let left = c.loop-slot.slot-iterator.iter.rest.now in
    sym (c.loop-slot.invariant ∙ before_end left c.loop-slot.w c.in-None.ensures.steps.0)
