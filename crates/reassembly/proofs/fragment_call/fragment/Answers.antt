-- The change, made in the table; demand 3 holds of every run of such calls, and every list of calls has one.
-- Assumes nothing.
use Rattle.std.proofs.lemmas.Result.{err_from_is_err_and}
use Rattle.reassembly.proofs.Theorem.{demanded}
use Rattle.reassembly.proofs.Existing.{runs_exist}
use Rattle.reassembly.proofs.CallLaws.{refused_gives, change_gives}
use Rattle.reassembly.proofs.fragment_call.fragment.Goals as goal

pub returns-in_err-change : goal.returns-in_err-change
returns-in_err-change c =
    let p = err_from_is_err_and c.from_residual.result c.from_residual.ensures.1 in
    rw (p.1, p.2) (record { demand = demanded; answer = refused_gives c.in_err-change.ensures; runs = runs_exist })

pub returns : goal.returns
returns c = record { demand = demanded; answer = change_gives c.in_ok-change.ensures c.with_slot.ensures; runs = runs_exist }
