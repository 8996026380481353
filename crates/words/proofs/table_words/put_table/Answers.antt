use Rattle.std.proofs.Common.{◌≡◌, length, arith, ap, ◌∙◌, rules, length-set}
use Rattle.slots.proofs.Tests.{long}
use Rattle.words.proofs.TableWords.{put_begun, put_next, put_long, put_all, put_none}
use Rattle.words.proofs.TableLaws.{unpacking_put_table}
use Rattle.words.proofs.table_words.put_table.Goals as goal

pub returns-then-words-ne-TABLE_WORDS : goal.returns-then-words-ne-TABLE_WORDS
returns-then-words-ne-TABLE_WORDS c = record { answer = put_none c.args.words.now c.args.table c.if-words-ne-TABLE_WORDS.true; unpacking = unpacking_put_table }

pub loop-i-init : goal.loop-i-init
loop-i-init c =
    let words = c.args.words.now in
    let n : length c.put.new.words ≡ 41 = ap length c.put.ensures ∙ length-set words 0 c.args.table.busy ∙ c.if-words-ne-TABLE_WORDS.false in
    (n, put_begun _ words c.args.table.busy c.if-words-ne-TABLE_WORDS.false c.put.ensures)

pub loop-i-preserved : goal.loop-i-preserved
loop-i-preserved c =
    let inv = c.loop-i.invariant in
    let eight : length c.args.table.slots ≡ 8 = search (rules, long) in
    let gave = c.put_slot.ensures in
    let n : length c.put_slot.new.words ≡ 41 = put_long _ _ _ _ gave inv.0 in
    (n, put_next _ _ c.args.table.slots c.args.table.busy c.loop-i.i _ inv.0 eight (omega arith) inv.1 gave)

pub returns : goal.returns
returns c =
    let inv = c.loop-i.invariant in
    let eight : length c.args.table.slots ≡ 8 = search (rules, long) in
    record { answer = put_all _ c.args.words.now c.args.table c.loop-i.i (omega arith) c.if-words-ne-TABLE_WORDS.false inv.0 eight inv.1; unpacking = unpacking_put_table }
