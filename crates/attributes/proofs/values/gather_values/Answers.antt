use Rattle.std.proofs.Common.{ℕ, length, arith, ap, sym, ◌∙◌}
use lib.ListN.{length-replicate}
use Rattle.apdu.specs.Values.{empty_row}
use Rattle.directory.proofs.Looking.{sound_short}
use Rattle.attributes.proofs.Gathering.{gathered_none, gathered_more, gathered_all, this_inside, this_short, this_room}
use Rattle.attributes.proofs.values.gather_values.Goals as goal

pub loop-i-init : goal.loop-i-init
loop-i-init c = gathered_none _ _ _ _ _ _ _ _ (length-replicate {A = ℕ} 2032 0) (ap length c.no_rows-attributes.ensures ∙ length-replicate 32 empty_row)

pub row_at-requires : goal.row_at-requires
row_at-requires c = (omega arith, sound_short _ _ _ c.requires.2)

pub slice_bounds-put_value-end : goal.slice_bounds-put_value-end
slice_bounds-put_value-end c = sym c.loop-i.invariant.long

pub put_value-requires : goal.put_value-requires
put_value-requires c =
    let t = c.loop-i-test.true in
    let is = c.unwrap_or-row.ensures ∙ c.row_at.ensures.row in
    let k = this_room _ _ _ _ _ _ c.requires.2 c.requires.0 c.loop-i.i t c.loop-i.invariant is in
    (this_inside _ _ _ _ _ _ c.requires.2 c.requires.0 c.loop-i.i t c.loop-i.invariant is, omega (arith, k, c.loop-i.invariant.long))

pub overflow_cast-attributes : goal.overflow_cast-attributes
overflow_cast-attributes c =
    omega (arith, this_short _ _ _ _ _ _ c.requires.2 c.requires.0 c.loop-i.i c.loop-i-test.true c.loop-i.invariant (c.unwrap_or-row.ensures ∙ c.row_at.ensures.row))

pub overflow_cast-attributes-in-loop-i : goal.overflow_cast-attributes-in-loop-i
overflow_cast-attributes-in-loop-i c =
    omega (arith, this_short _ _ _ _ _ _ c.requires.2 c.requires.0 c.loop-i.i c.loop-i-test.true c.loop-i.invariant (c.unwrap_or-row.ensures ∙ c.row_at.ensures.row))

pub overflow_mul-attributes : goal.overflow_mul-attributes
overflow_mul-attributes c =
    omega (arith, this_room _ _ _ _ _ _ c.requires.2 c.requires.0 c.loop-i.i c.loop-i-test.true c.loop-i.invariant (c.unwrap_or-row.ensures ∙ c.row_at.ensures.row))

pub overflow_cast-attributes-in-loop-i-2 : goal.overflow_cast-attributes-in-loop-i-2
overflow_cast-attributes-in-loop-i-2 c =
    omega (arith, this_room _ _ _ _ _ _ c.requires.2 c.requires.0 c.loop-i.i c.loop-i-test.true c.loop-i.invariant (c.unwrap_or-row.ensures ∙ c.row_at.ensures.row))

pub bounds-attributes-i : goal.bounds-attributes-i
bounds-attributes-i c = omega (arith, c.loop-i.invariant.wide)

pub overflow_add-at : goal.overflow_add-at
overflow_add-at c =
    omega (arith, this_room _ _ _ _ _ _ c.requires.2 c.requires.0 c.loop-i.i c.loop-i-test.true c.loop-i.invariant (c.unwrap_or-row.ensures ∙ c.row_at.ensures.row))

pub loop-i-preserved : goal.loop-i-preserved
loop-i-preserved c =
    gathered_more _ _ _ _ _ _ c.requires.2 c.requires.0 c.loop-i.i c.loop-i-test.true c.loop-i.invariant (c.unwrap_or-row.ensures ∙ c.row_at.ensures.row) c.put_value.ensures

pub returns : goal.returns
returns c = gathered_all _ _ _ _ _ _ c.loop-i.i (omega arith) c.loop-i.invariant
