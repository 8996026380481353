-- `bits::string::copy_string` meets its contract: both parts are inside, and each octet is copied to its place. Assumes nothing.
use native.Mathlib.Omega.{arith}
use mathlib.Core.Path.{refl, sym}
use Rattle.bits.proofs.Strings.{inside_le, next_octet, copied_none, copied_more, copied_whole, copy_outside, copy_short}
use Rattle.bits.proofs.Aligned.{copied_aligned}
use Rattle.bits.proofs.string.copy_string.Goals as goal
use Rattle.bits.proofs.string.copy_string.Goals.{then-not-inside-via-then-not-inside, then-not-inside-via-else-not-inside+then-out-n, then-not-inside-via-else-not-inside+else-out-n+then-out-n-2}

pub returns-then-not-inside : goal.returns-then-not-inside
returns-then-not-inside c =
    elim c.then-not-inside.branch [
      | then-not-inside-via-then-not-inside w ↦ copy_outside _ _ _ _ _ (sym w.if-not-inside.ensures)
      | then-not-inside-via-else-not-inside+then-out-n w ↦ copy_short _ _ _ _ _ (sym w.if-not-inside.ensures) (omega arith)
      | then-not-inside-via-else-not-inside+else-out-n+then-out-n-2 w ↦ copy_short _ _ _ _ _ (sym w.if-not-inside.ensures) (omega arith)
    ]

pub copy_octets-requires : goal.copy_octets-requires
copy_octets-requires c = omega (arith, inside_le _ _ _ (sym c.if-not-inside.ensures))

pub returns-then-skip-eq0 : goal.returns-then-skip-eq0
returns-then-skip-eq0 c =
    copied_whole _ _ _ _ _ (sym c.if-not-inside.ensures) _ (omega arith) (copied_aligned _ _ _ _ _ (omega arith) c.copy_octets.ensures) refl

pub loop-k-init : goal.loop-k-init
loop-k-init c = copied_none _ _ _ _

pub loop-k-preserved : goal.loop-k-preserved
loop-k-preserved c = copied_more _ _ _ _ _ c.loop-k.invariant (next_octet _ _ _ c.string_octet.ensures) (omega arith)

pub returns : goal.returns
returns c = copied_whole _ _ _ _ _ (sym c.if-not-inside.ensures) _ (omega arith) c.loop-k.invariant (omega arith)
