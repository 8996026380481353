-- Where the leading parts agree, the rest is compared piece by piece.
-- Assumes nothing.
use Rattle.apdu_same.proofs.Outcomes.{same_bits}
use Rattle.std.proofs.Common.{rules}
use mathlib.Core.Path.{◌≡◌, refl}
use lib.ListN.{length}
use Rattle.apdu.specs.Values.{bst_values}
use Rattle.apdu.proofs.Tables.{long}
use Rattle.apdu_same.proofs.Agreement.{lead_more, lead_last, other}
use Rattle.apdu_same.proofs.Links.{bst_same}
use Rattle.apdu_same.proofs.link.bst.Goals as goal

pub returns-then-not-lead : goal.returns-then-not-lead
unfolding bst_values
returns-then-not-lead c = other (lead_more (same_bits c.args.a.has_others c.args.b.has_others) (lead_more refl (lead_last _ _ refl))) c.if-not-lead.true-raw

pub returns : goal.returns
returns c =
    let n : length c.args.list ≡ 32 = search (rules, long) in
    let m : length c.args.other ≡ 32 = search (rules, long) in
    bst_same _ _ _ _ _ _ _ _ n m c.rows_of.ensures.0 c.rows_of-2.ensures.0 (lead_more (same_bits c.args.a.has_others c.args.b.has_others) (lead_more refl (lead_last _ _ refl))) c.if-not-lead.false-raw c.applications_if-mandatory.ensures c.applications_if-second.ensures c.part_if.ensures
