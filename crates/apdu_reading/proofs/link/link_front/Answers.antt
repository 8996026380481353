-- The leading bits, then the time of a BST, and the profile.
-- Assumes nothing.
use mathlib.Core.Path.{◌≡◌}
use mathlib.Core.Bool.{false}
use borrow.Author.Rules.{rules}
use Rattle.apdu_reading.proofs.LinkLaws.{bst_front_law, vst_front_law}
use Rattle.apdu_reading.proofs.link.link_front.Goals as goal

pub returns-then-c-eq8 : goal.returns-then-c-eq8
returns-then-c-eq8 c =
    let fill : c.default.result.fill ≡ 0 = search rules in
    rw fill
    (bst_front_law _ _ c.requires.1 c.piece-lead.ensures.0 c.piece-time.ensures.0 c.integer-profile.ensures _ c.flag-has_others.ensures c.read_field-manufacturer.ensures c.read_field-individual.ensures c.if-c-eq8.true)

pub returns-else-c-eq8 : goal.returns-else-c-eq8
returns-else-c-eq8 c =
    let others : c.default-else-c-eq8.result.has_others ≡ false = search rules in
    let manufacturer : c.default-else-c-eq8.result.manufacturer ≡ 0 = search rules in
    let individual : c.default-else-c-eq8.result.individual ≡ 0 = search rules in
    let time : c.default-else-c-eq8.result.time ≡ 0 = search rules in
    rw (others, manufacturer, individual, time)
    (vst_front_law _ _ c.requires.1 c.piece-lead-else-c-eq8.ensures.0 c.integer-profile-else-c-eq8.ensures c.read_field-fill.ensures c.requires.2 c.if-c-eq8.false)
