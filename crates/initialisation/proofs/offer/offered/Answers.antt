-- The others count where they are there.
-- Assumes nothing.
use Rattle.initialisation.proofs.OfferLaws.{counted}
use Rattle.initialisation.proofs.offer.offered.Goals.{then-bst, else-bst}
use Rattle.initialisation.proofs.offer.offered.Goals as goal

pub returns : goal.returns
returns c =
    counted _
    (elim c.if-bst.branch [
      | then-bst w ↦ rw (w.if-bst.true, w.others-is)
      | else-bst w ↦ rw (w.if-bst.false, w.others-is)
    ])
    c.saturating_add.ensures c.min.ensures
