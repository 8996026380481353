-- Each record is checked first; then they are compared. What sameness is holds of all records.
-- Assumes nothing.
use Rattle.apdu_same.proofs.Sameness.{same_exactly, same_records}
use Rattle.apdu_same.proofs.Answers.{first_broken, second_broken, compared}
use Rattle.apdu_same.proofs.comparing.same.Goals.{then-not-well_formed-via-then-not-well_formed, then-not-well_formed-via-else-not-well_formed+then-not-well_formed-2}
use Rattle.apdu_same.proofs.comparing.same.Goals as goal

pub returns-then-not-well_formed : goal.returns-then-not-well_formed
returns-then-not-well_formed c =
    record {
      answer =
          elim c.then-not-well_formed.branch [
            | then-not-well_formed-via-then-not-well_formed w ↦ first_broken _ _ _ _ _ _ _ _ c.well_formed-2.ensures w.if-not-well_formed.true
            | then-not-well_formed-via-else-not-well_formed+then-not-well_formed-2 w ↦ second_broken _ _ _ _ _ _ _ _ c.well_formed-2.ensures w.well_formed-else-not-well_formed.ensures w.if-not-well_formed.false w.if-not-well_formed-2.true
          ];
      exactly = same_exactly;
      records = same_records;
    }

pub returns : goal.returns
returns c =
    record {
      answer =
          compared _ _ _ _ _ _ _ _ c.well_formed-2.ensures c.well_formed-else-not-well_formed.ensures c.if-not-well_formed.false c.if-not-well_formed-2.false c.agree.ensures;
      exactly = same_exactly;
      records = same_records;
    }
