-- The string is copied to its row's part.
use Rattle.std.proofs.Common.{◌≡◌, ◌∙◌}
use Rattle.directory.specs.Directory.{row_of}
use Rattle.directory.specs.Gathered.{list_of}
use Rattle.attributes.specs.Serving.{set_row}
use Rattle.attributes.proofs.setting.set_row.Goals as goal

pub returns : goal.returns
unfolding set_row
returns c =
    let e : c.unwrap_or-row.result ≡ row_of c.args.a.id (list_of c.args.d) = c.unwrap_or-row.ensures ∙ (rw c.from.ensures at c.look_up.ensures.row) in
    rw (← e) c.copy_string-done.ensures.1
