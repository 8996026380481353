use Rattle.std.proofs.Common.{◌≡◌, ◌+◌, length, arith, rules, refl, ap, sym, ◌∙◌}
use Rattle.directory.specs.Gathered.{list_of}
use Rattle.apdu.proofs.Tables.{long}
use Rattle.attributes.specs.Serving.{set_rows}
use Rattle.attributes.proofs.Faults.{from, rows_more, rows_end}
use Rattle.attributes.proofs.setting.set_rows.Goals as goal

pub loop-i-init : goal.loop-i-init
loop-i-init c = refl

pub loop-i-preserved : goal.loop-i-preserved
loop-i-preserved c =
    let t : length c.args.attributes ≡ 32 = search (rules, long) in
    c.loop-i.invariant ∙ rows_more c.args.attributes c.args.count (omega arith) c.args.s.now (list_of c.args.d) c.loop-i.i c.loop-i.writable c.loop-i-test.true
    ∙ ap (set_rows c.args.s.now (list_of c.args.d) (from c.args.attributes c.args.count (c.loop-i.i + 1))) (sym c.set_row.ensures)

pub returns : goal.returns
returns c =
    let t : length c.args.attributes ≡ 32 = search (rules, long) in
    sym (c.loop-i.invariant ∙ rows_end c.args.attributes c.args.count (omega arith) c.args.s.now (list_of c.args.d) c.loop-i.i c.loop-i.writable (omega arith))
