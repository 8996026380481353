use Rattle.std.proofs.Common.{◌≡◌, rules, length}
use Rattle.directory.proofs.Looking.{listed_law}
use Rattle.directory.proofs.listed.Goals as goal

pub returns : goal.returns
returns c = let long : length c.args.rows.now ≡ 32 = search rules in listed_law _ _ long _ c.get.ensures.lookup.0
