-- Where the leading parts agree, the rest is compared piece by piece.
-- Assumes nothing.
use Rattle.apdu_same.proofs.Outcomes.{same_bits}
use mathlib.Core.Path.{refl}
use Rattle.apdu.specs.Values.{response_values}
use Rattle.apdu_same.proofs.Agreement.{lead_more, lead_last, other}
use Rattle.apdu_same.proofs.Records.{response_same}
use Rattle.apdu_same.proofs.kinds.response.Goals as goal

pub returns-then-not-lead : goal.returns-then-not-lead
unfolding response_values
returns-then-not-lead c = other (lead_more (same_bits c.args.a.has_iid c.args.b.has_iid) (lead_more (same_bits c.args.a.has_ret c.args.b.has_ret) (lead_last _ _ refl))) c.if-not-lead.true-raw

pub returns : goal.returns
returns c =
    response_same _ _ (lead_more (same_bits c.args.a.has_iid c.args.b.has_iid) (lead_more (same_bits c.args.a.has_ret c.args.b.has_ret) (lead_last _ _ refl))) c.if-not-lead.false-raw c.number_if-iid.ensures c.number_if.ensures
