-- `words::table_words::put_slot` meets its contract: five stores, one behind the other. Assumes nothing.
use Rattle.words.specs.TableWords.{slot_put}
use Rattle.words.proofs.Stores.{five_stores}
use Rattle.words.proofs.table_words.put_slot.Goals as goal

pub returns : goal.returns
unfolding slot_put
returns c =
    let slot = c.args.slot in
    five_stores c.args.words.now _ _ _ _ _ c.args.at slot.lid slot.number slot.next slot.held slot.tick
    c.put.ensures c.put-2.ensures c.put-3.ensures c.put-4.ensures c.put-5.ensures
