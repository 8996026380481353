use Rattle.std.proofs.Common.{rules}
use native.Mathlib.Omega.{arith}
use mathlib.Core.Path.{refl, ap}
use Rattle.bench_lines.specs.Line.{hex_text}
use Rattle.apdu_text.proofs.Inking.{leaves_all, leaves_as, far_writes}
use Rattle.apdu_text.proofs.Pieces.{part_all, part_more, part_end, part_length, part_small, reach}
use Rattle.apdu_text.proofs.pen.Pen.part.Goals as goal

pub overflow_mul-most : goal.overflow_mul-most
overflow_mul-most c = let h = part_small _ _ _ c.shown-most.ensures in omega arith

pub returns-then-self : goal.returns-then-self
returns-then-self c = far_writes _ _ refl c.if-self.true (omega arith) (part_length _ _ _ c.shown-most.ensures) c.saturating_add-self.ensures

pub loop-k-init : goal.loop-k-init
loop-k-init c = leaves_as (ap hex_text (part_all _ _ _ c.shown-most.ensures)) (leaves_all _ _)

pub octet-requires : goal.octet-requires
octet-requires c = reach _ _ _ c.shown-most.ensures c.loop-k-test.true

pub loop-k-preserved : goal.loop-k-preserved
loop-k-preserved c = part_more _ _ _ _ c.loop-k.invariant c.loop-k-test.true c.octet.ensures c.octet-in-loop-k.ensures

pub returns : goal.returns
returns c =
    let x = part_end _ _ _ _ c.loop-k.invariant c.loop-k-test.false in
    record { same = refl; place = x.place; octets = search (rules, x.same, x.octets) }
