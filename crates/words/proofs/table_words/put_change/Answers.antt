-- `words::table_words::put_change` meets its contract: the slot is put, or is past the eight, and the busy word follows. Assumes nothing.
use mathlib.Core.Path.{◌≡◌, refl, ◌∙◌}
use Rattle.words.proofs.TableChange.{words_with, slot_put_law, slot_past, still_41, changed, unchanged}
use Rattle.words.proofs.TableLaws.{unpacking_change}
use Rattle.words.proofs.table_words.put_change.Goals as goal
use Rattle.words.proofs.table_words.put_change.Goals.{then-i-lt-SLOTS, else-i-lt-SLOTS}

pub returns-then-words-ne-TABLE_WORDS : goal.returns-then-words-ne-TABLE_WORDS
returns-then-words-ne-TABLE_WORDS c = let a = c.args in record { answer = unchanged a.words.now a.i a.slot c.if-words-ne-TABLE_WORDS.true; unpacking = unpacking_change }

pub busy_of-requires : goal.busy_of-requires
busy_of-requires c =
    let a = c.args in
    let w = a.words.now in
    let n = c.if-words-ne-TABLE_WORDS.false in
    let s : c.if-i-lt-SLOTS.words ≡ words_with w a.i a.slot =
    elim c.if-i-lt-SLOTS.branch [ then-i-lt-SLOTS v ↦ v.words-is ∙ slot_put_law _ w a.i a.slot n v.if-i-lt-SLOTS.true v.put_slot.ensures | else-i-lt-SLOTS v ↦ v.words-is ∙ slot_past w a.i a.slot n v.if-i-lt-SLOTS.false ] in
    still_41 _ w a.i a.slot s

pub returns : goal.returns
returns c =
    let a = c.args in
    let w = a.words.now in
    let n = c.if-words-ne-TABLE_WORDS.false in
    let s : c.if-i-lt-SLOTS.words ≡ words_with w a.i a.slot =
    elim c.if-i-lt-SLOTS.branch [ then-i-lt-SLOTS v ↦ v.words-is ∙ slot_put_law _ w a.i a.slot n v.if-i-lt-SLOTS.true v.put_slot.ensures | else-i-lt-SLOTS v ↦ v.words-is ∙ slot_past w a.i a.slot n v.if-i-lt-SLOTS.false ] in
    record { answer = changed _ _ w a.i _ a.slot n s c.busy_of.ensures refl; unpacking = unpacking_change }
