-- The pieces are compared one after the other.
-- Assumes nothing.
use Rattle.apdu_same.proofs.Outcomes.{same_bits}
use Rattle.std.proofs.Common.{rules}
use mathlib.Core.Path.{◌≡◌}
use lib.ListN.{length}
use Rattle.apdu.proofs.Tables.{long}
use Rattle.apdu_same.proofs.Links.{vst_same}
use Rattle.apdu_same.proofs.link.vst.Goals as goal

pub returns : goal.returns
returns c =
    let n : length c.args.list ≡ 32 = search (rules, long) in
    let m : length c.args.other ≡ 32 = search (rules, long) in
    vst_same _ _ _ _ _ _ _ _ n m c.applications_if-applications.ensures (same_bits c.args.a.has_status c.args.b.has_status) c.number_if.ensures
