-- `bits::field::put_field` meets its contract: the field is put into its window, and the window into the octets. Assumes nothing.
use native.Mathlib.Omega.{arith}
use Rattle.bits.proofs.Laws.{octets_known}
use Rattle.bits.proofs.Window.{field_put_in}
use Rattle.bits.proofs.field.put_field.Goals as goal

pub returns : goal.returns
returns c =
    field_put_in _ _ _ _ _ _ (octets_known c.args.out.now c.slice_known-1.given) (omega arith) (omega arith) c.window-whole.ensures.0 c.merged.ensures c.put_window.ensures
