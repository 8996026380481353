use Rattle.std.proofs.Common.{◌≡◌, length, arith, rules, refl, sym, ◌∙◌}
use Rattle.std.proofs.lemmas.Result.{err_from_is_err_and}
use Rattle.directory.specs.Gathered.{list_of}
use Rattle.apdu.proofs.Tables.{long}
use Rattle.attributes.proofs.Faults.{sets_fault, sets_pass, sets_end, status_nonzero}
use Rattle.attributes.proofs.setting.check_attributes.Goals as goal

pub loop-i-init : goal.loop-i-init
loop-i-init c = refl

pub returns-in_err-check_attribute : goal.returns-in_err-check_attribute
returns-in_err-check_attribute c =
    let t : length c.args.attributes ≡ 32 = search (rules, long) in
    let p = err_from_is_err_and c.from_residual.result c.from_residual.ensures.1 in
    rw (p.1, p.2)
    (sym (c.loop-i.invariant ∙ sets_fault _ _ (omega arith) _ _ c.loop-i.i c.loop-i-test.true c.in_err-check_attribute.ensures (status_nonzero c.in_err-check_attribute.field-0.0)))

pub loop-i-preserved : goal.loop-i-preserved
loop-i-preserved c =
    let t : length c.args.attributes ≡ 32 = search (rules, long) in
    c.loop-i.invariant ∙ sets_pass _ _ (omega arith) _ _ c.loop-i.i c.loop-i-test.true c.in_ok-check_attribute.ensures refl

pub returns : goal.returns
returns c =
    let t : length c.args.attributes ≡ 32 = search (rules, long) in
    sym (c.loop-i.invariant ∙ sets_end c.args.attributes c.args.count (omega arith) (list_of c.args.d) c.args.exact c.loop-i.i (omega arith))
