use Rattle.std.proofs.Common.{◌≡◌, ◌∙◌}
use Rattle.attributes.specs.Inside.{status_of}
use Rattle.attributes.specs.Serving.{set_reply}
use Rattle.attributes.proofs.setting.send_status.Goals as goal
use Rattle.attributes.proofs.setting.send_status.Goals.{in-Ok, in-Err}

pub returns : goal.returns
unfolding set_reply
returns c =
    let e : c.match-checked.reply ≡ status_of c.args.checked =
    elim c.match-checked.branch [ in-Ok w ↦ rw w.in-Ok.is w.reply-is | in-Err w ↦ rw w.in-Err.is (w.reply-is ∙ w.from.ensures) ] in
    rw (← c.no_rows.ensures, ← e) c.send.ensures
