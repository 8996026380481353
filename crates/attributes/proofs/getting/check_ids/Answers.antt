use Rattle.std.proofs.Common.{ℕ, List, arith, ap, refl, sym, ◌∙◌}
use Rattle.std.proofs.lemmas.Result.{err_from_is_err_and}
use Rattle.refusals.specs.Check.{first_of}
use Rattle.directory.specs.Gathered.{list_of}
use Rattle.attributes.specs.Serving.{get_faults}
use Rattle.attributes.proofs.Faults.{ids_all, ids_fault, ids_pass, ids_end, status_nonzero}
use Rattle.attributes.proofs.getting.check_ids.Goals as goal

pub loop-i-init : goal.loop-i-init
loop-i-init c =
    let a = c.args in
    ap (λ (l : List ℕ). first_of (get_faults (list_of a.d) a.exact l)) (ids_all a.s.now a.ids a.count)

pub returns-in_err-check_id : goal.returns-in_err-check_id
returns-in_err-check_id c =
    let p = err_from_is_err_and c.from_residual.result c.from_residual.ensures.1 in
    rw (p.1, p.2) (sym (c.loop-i.invariant ∙ ids_fault _ _ _ _ _ c.loop-i.i c.loop-i-test.true c.in_err-check_id.ensures (status_nonzero c.in_err-check_id.field-0.0)))

pub loop-i-preserved : goal.loop-i-preserved
loop-i-preserved c = c.loop-i.invariant ∙ ids_pass _ _ _ _ _ c.loop-i.i c.loop-i-test.true c.in_ok-check_id.ensures refl

pub returns : goal.returns
returns c = sym (c.loop-i.invariant ∙ ids_end _ _ _ _ _ c.loop-i.i (omega arith))
