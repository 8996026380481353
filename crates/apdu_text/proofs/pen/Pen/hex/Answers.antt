use Rattle.std.proofs.Common.{rules}
use mathlib.Core.Path.{refl}
use Rattle.apdu_text.proofs.Figures.{hex_more, hex_end}
use Rattle.apdu_text.proofs.Inking.{leaves_all}
use Rattle.apdu_text.proofs.pen.Pen.hex.Goals as goal

pub loop-o-init : goal.loop-o-init
loop-o-init c = leaves_all _ _

pub loop-o-preserved : goal.loop-o-preserved
loop-o-preserved c = hex_more _ _ c.loop-o.invariant c.loop-o-test.true c.octet.ensures

pub returns : goal.returns
returns c =
    let x = hex_end _ _ c.loop-o.invariant c.loop-o-test.false in
    record { same = refl; place = x.place; octets = search (rules, x.same, x.octets) }
