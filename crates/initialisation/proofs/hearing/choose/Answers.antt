-- What is known, the profile and the pair decide.
-- Assumes nothing.
use Rattle.std.proofs.Common.{sym, ◌∙◌}
use Rattle.initialisation.proofs.HearingLaws.{known_is, known_stays, no_profile, no_pair, starts}
use Rattle.initialisation.proofs.hearing.choose.Goals as goal

pub returns-then-is_known : goal.returns-then-is_known
returns-then-is_known c =
    let h = known_is c.args.link c.args.bst c.is_known.ensures c.beacon_of.ensures ∙ c.if-is_known.true in
    known_stays _ _ _ _ _ h

pub returns-in_err-profile : goal.returns-in_err-profile
returns-in_err-profile c =
    let h = known_is c.args.link c.args.bst c.is_known.ensures c.beacon_of.ensures ∙ c.if-is_known.false in
    c.from_residual.ensures ∙ no_profile _ _ _ _ _ h (sym c.take_profile.ensures ∙ c.in_err-profile.was)

pub returns-in_err-element : goal.returns-in_err-element
returns-in_err-element c =
    let h = known_is c.args.link c.args.bst c.is_known.ensures c.beacon_of.ensures ∙ c.if-is_known.false in
    c.from_residual-in_err-element.ensures ∙ no_pair _ _ _ _ _ h (sym c.take_profile.ensures ∙ c.in_ok-profile.was) (sym c.take_pair.ensures ∙ c.in_err-element.was)

pub returns : goal.returns
returns c =
    let h = known_is c.args.link c.args.bst c.is_known.ensures c.beacon_of.ensures ∙ c.if-is_known.false in
    starts _ _ _ _ _ h (sym c.take_profile.ensures ∙ c.in_ok-profile.was) (sym c.take_pair.ensures ∙ c.in_ok-element.was)
