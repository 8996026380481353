-- `exports::attribute_calls::semuryeon_lookup` meets its contract: the call of the rows that the words are. Assumes nothing.
use native.Mathlib.Omega.{arith}
use Rattle.exports.proofs.AttributeCallLaws.{lookup_refused, lookup_short, lookup_found}
use Rattle.exports.proofs.AttributeNumbers.{unpacking_lookup, large_sought}
use Rattle.exports.proofs.attribute_calls.semuryeon_lookup.Goals as goal

pub returns-in-Err : goal.returns-in-Err
returns-in-Err c = record {
  answer = rw (← c.directory_in-directory.ensures.answer, ← c.narrow-sought.ensures) (lookup_refused _ _ _ _ _ c.knows_among.ensures _ c.in-Err.is c.refused.ensures);
  unpacking = unpacking_lookup;
  large_id = large_sought;
}

pub returns-in-Ok : goal.returns-in-Ok
returns-in-Ok c = record {
  answer = rw (← c.directory_in-directory.ensures.answer, ← c.narrow-sought.ensures) (lookup_short _ _ _ _ _ c.knows_among.ensures c.in-Ok.is (omega arith) c.refused-in-Ok.ensures);
  unpacking = unpacking_lookup;
  large_id = large_sought;
}

pub returns-in-Ok-2 : goal.returns-in-Ok-2
returns-in-Ok-2 c = record {
  answer =
      rw (← c.directory_in-directory.ensures.answer, ← c.narrow-sought.ensures)
      (lookup_found _ _ _ _ _ c.knows_among.ensures c.in-Ok.is (omega arith) c.from.ensures c.packed.ensures.answer c.row_for.ensures.0 c.put_part.ensures.answer);
  unpacking = unpacking_lookup;
  large_id = large_sought;
}
