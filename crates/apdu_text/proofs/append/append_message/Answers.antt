use Rattle.std.proofs.Common.{rules}
use mathlib.Core.Path.{◌≡◌}
use lib.ListN.{length}
use Rattle.apdu.proofs.Tables.{long}
use Rattle.apdu_text.proofs.append.append_message.Goals as goal

pub append-requires : goal.append-requires
append-requires c κs within = let n : length c.args.rows ≡ 32 = search (rules, long) in (search rules depth 16 fits 30000, search rules fits 30000)
