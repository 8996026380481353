-- Where the leading parts agree, the rest is compared piece by piece.
-- Assumes nothing.
use Rattle.apdu_same.proofs.Outcomes.{same_bits}
use mathlib.Core.Path.{refl}
use Rattle.apdu.specs.Values.{get_request_values}
use Rattle.apdu_same.proofs.Agreement.{lead_more, lead_last, other}
use Rattle.apdu_same.proofs.Records.{get_request_same}
use Rattle.apdu_same.proofs.kinds.get_request.Goals as goal

pub returns-then-not-lead : goal.returns-then-not-lead
unfolding get_request_values
returns-then-not-lead c = other (lead_more (same_bits c.args.a.has_credentials c.args.b.has_credentials) (lead_more (same_bits c.args.a.has_iid c.args.b.has_iid) (lead_more (same_bits c.args.a.has_ids c.args.b.has_ids) (lead_last _ _ refl)))) c.if-not-lead.true-raw

pub returns : goal.returns
returns c =
    get_request_same _ _ _ _ (lead_more (same_bits c.args.a.has_credentials c.args.b.has_credentials) (lead_more (same_bits c.args.a.has_iid c.args.b.has_iid) (lead_more (same_bits c.args.a.has_ids c.args.b.has_ids) (lead_last _ _ refl)))) c.if-not-lead.false-raw c.part_if-credentials.ensures c.number_if-iid.ensures c.part_if.ensures
