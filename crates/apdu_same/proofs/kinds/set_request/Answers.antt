-- Where the leading parts agree, the rest is compared piece by piece.
-- Assumes nothing.
use Rattle.apdu_same.proofs.Outcomes.{same_bits}
use mathlib.Core.Path.{refl}
use Rattle.apdu.specs.Values.{set_request_values}
use Rattle.apdu_same.proofs.Agreement.{lead_more, lead_last, other}
use Rattle.apdu_same.proofs.Records.{set_request_same}
use Rattle.apdu_same.proofs.kinds.set_request.Goals as goal

pub returns-then-not-lead : goal.returns-then-not-lead
unfolding set_request_values
returns-then-not-lead c = other (lead_more (same_bits c.args.a.has_credentials c.args.b.has_credentials) (lead_more (same_bits c.args.a.has_iid c.args.b.has_iid) (lead_more refl (lead_last _ _ (same_bits c.args.a.mode c.args.b.mode))))) c.if-not-lead.true-raw

pub returns : goal.returns
returns c =
    set_request_same _ _ _ _ _ _ (lead_more (same_bits c.args.a.has_credentials c.args.b.has_credentials) (lead_more (same_bits c.args.a.has_iid c.args.b.has_iid) (lead_more refl (lead_last _ _ (same_bits c.args.a.mode c.args.b.mode))))) c.if-not-lead.false-raw c.part_if-credentials.ensures c.attributes_if-list.ensures c.number_if.ensures
