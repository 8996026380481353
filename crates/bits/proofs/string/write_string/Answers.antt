-- `bits::string::write_string` meets its contract: both parts are inside, and each octet is written to its place. Assumes nothing.
use native.Mathlib.Omega.{arith}
use mathlib.Core.Path.{refl, sym, ◌∙◌}
use Rattle.bits.proofs.Laws.{octets_known}
use Rattle.bits.proofs.Strings.{inside_le, next_octet, written_none, written_more, written_whole, write_outside, write_short}
use Rattle.bits.proofs.Aligned.{written_aligned}
use Rattle.bits.proofs.string.write_string.Goals as goal
use Rattle.bits.proofs.string.write_string.Goals.{then-not-inside-via-then-not-inside, then-not-inside-via-else-not-inside+then-not-inside-2}

pub returns-then-not-inside : goal.returns-then-not-inside
returns-then-not-inside c =
    elim c.then-not-inside.branch [
      | then-not-inside-via-then-not-inside w ↦ write_outside _ _ _ _ _ (sym w.if-not-inside.ensures)
      | then-not-inside-via-else-not-inside+then-not-inside-2 w ↦
          write_short _ _ _ _ _ (sym w.if-not-inside.ensures) (sym w.if-not-inside-2.ensures)
    ]

pub copy_octets-requires : goal.copy_octets-requires
copy_octets-requires c = omega (arith, inside_le _ _ _ (sym c.if-not-inside.ensures), inside_le _ _ _ (sym c.if-not-inside-2.ensures))

pub returns-then-start-at-eq0 : goal.returns-then-start-at-eq0
returns-then-start-at-eq0 c =
    let there = sym c.if-not-inside-2.ensures in
    written_whole _ _ _ _ _ (sym c.if-not-inside.ensures) _ there (written_aligned _ _ _ _ _ (omega arith) (octets_known _ c.slice_known-1.given) (inside_le _ _ _ there) c.copy_octets.ensures) refl

pub loop-k-init : goal.loop-k-init
loop-k-init c = written_none _ _ _ _ (octets_known _ c.type_inv.out)

pub string_octet-o-requires : goal.string_octet-o-requires
string_octet-o-requires c = omega (arith, inside_le _ _ _ (sym c.if-not-inside.ensures))

pub overflow_add-at : goal.overflow_add-at
overflow_add-at c = omega (arith, inside_le _ _ _ (sym c.if-not-inside-2.ensures))

pub put_field-requires : goal.put_field-requires
put_field-requires c = omega (arith, inside_le _ _ _ (sym c.if-not-inside-2.ensures))

pub loop-k-preserved : goal.loop-k-preserved
loop-k-preserved c =
    let h = inside_le _ _ _ (sym c.if-not-inside-2.ensures) in
    written_more _ _ _ _ _ c.loop-k.invariant (next_octet _ _ _ (c.from.ensures ∙ c.string_octet-o.ensures)) c.put_field.ensures (omega (arith, h))

pub returns : goal.returns
returns c =
    written_whole _ _ _ _ _ (sym c.if-not-inside.ensures) _ (sym c.if-not-inside-2.ensures) c.loop-k.invariant (omega arith)
