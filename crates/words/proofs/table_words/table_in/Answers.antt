use Rattle.std.proofs.Common.{◌-◌, ◌^◌, [], ◌∷◌, ap}
use Rattle.slots.specs.declared.Table.{Table}
use Rattle.words.specs.TableWords.{slots_in}
use Rattle.words.proofs.TableLaws.{held_in, none_in, unpacking_table, other_table_length, first_table}
use Rattle.words.proofs.table_words.table_in.Goals as goal

pub returns-then-words-ne-TABLE_WORDS : goal.returns-then-words-ne-TABLE_WORDS
returns-then-words-ne-TABLE_WORDS c = record {
  answer = none_in _ c.args.words.now c.if-words-ne-TABLE_WORDS.true (ap (λ (t : Table). the (record { busy = 2 ^ 32 - 1; slots = t.slots })) c.empty.ensures);
  unpacking = unpacking_table;
  other_length = other_table_length;
  first_state = first_table;
}
  where
    the : Table → Table
    the t = t

pub returns : goal.returns
unfolding slots_in
returns c =
    let held = held_in _ c.args.words.now c.if-words-ne-TABLE_WORDS.false
    (λ i. record {
      busy = c.word-busy.ensures i;
      slots =
          c.slot_in.ensures i
          ∷ c.slot_in-2.ensures i
          ∷ c.slot_in-3.ensures i
          ∷ c.slot_in-4.ensures i
          ∷ c.slot_in-5.ensures i
          ∷ c.slot_in-6.ensures i
          ∷ c.slot_in-7.ensures i
          ∷ c.slot_in-8.ensures i
          ∷ [];
    }) in
    record { answer = held; unpacking = unpacking_table; other_length = other_table_length; first_state = first_table }
