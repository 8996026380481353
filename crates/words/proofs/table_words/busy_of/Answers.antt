use Rattle.std.proofs.Common.{◌≡◌, ◌+◌, ◌-◌, ◌*◌, ℕ, not, get_or, drop, arith, ap, ◌∙◌}
use lib.Dec.{eqb}
use Rattle.slots.specs.Slots.{word_of}
use Rattle.slots.proofs.WordLaws.{byte_bit, bit_le}
use Rattle.words.specs.TableWords.{slots_in}
use Rattle.words.proofs.TableChange.{count_none, count_turn, count_byte}
use Rattle.words.proofs.table_words.busy_of.Goals as goal

pub loop-i-init : goal.loop-i-init
loop-i-init c = count_none c.args.words.now

pub overflow_mul-busy : goal.overflow_mul-busy
overflow_mul-busy c = omega (arith, count_byte c.args.words.now c.loop-i.i, c.loop-i.invariant)

pub overflow_add-busy : goal.overflow_add-busy
overflow_add-busy c =
    let bit = not (eqb (get_or c.args.words.now (5 * (c.loop-i.i - 1) + 3) 0) 0) in
    omega (arith, count_byte c.args.words.now c.loop-i.i, c.loop-i.invariant, c.from.ensures, byte_bit bit, bit_le bit)

pub loop-i-preserved : goal.loop-i-preserved
loop-i-preserved c =
    let words = c.args.words.now in
    let i = c.loop-i.i in
    let w = c.loop-i.busy in
    let k : i ≡ i - 1 + 1 = omega arith in
    let e = c.loop-i.invariant ∙ ap (λ (j : ℕ). word_of (drop j (slots_in words))) k in
    ap (λ (b : ℕ). 2 * w + b) (c.from.ensures ∙ byte_bit _) ∙ count_turn words (i - 1) w (omega arith) e

pub returns : goal.returns
returns c =
    let e : c.loop-i.i ≡ 0 = omega arith in
    c.loop-i.invariant ∙ ap (λ (k : ℕ). word_of (drop k (slots_in c.args.words.now))) e
