-- Each record in turn.
-- Assumes nothing.
use Rattle.std.proofs.Common.{sym, ◌∙◌}
use Rattle.apdu_format.proofs.Tests.{never}
use Rattle.initialisation.specs.Hearing.{records_in_range}
use Rattle.initialisation.proofs.hearing.records_in_range.Goals.{then-link_in_range, else-link_in_range}
use Rattle.initialisation.proofs.hearing.records_in_range.Goals as goal

pub returns-then-well_formed : goal.returns-then-well_formed
unfolding records_in_range
returns-then-well_formed c =
    elim c.if-link_in_range.branch [
      | then-link_in_range w ↦
          let a = sym c.link_in_range.ensures ∙ w.if-link_in_range.true in
          let b = sym w.well_formed-then-link_in_range.ensures ∙ sym w.value-is ∙ c.if-well_formed.true in
          c.configuration_in_range.ensures ∙ sym (rw (a, b))
      | else-link_in_range w ↦ never (sym w.if-link_in_range.false ∙ sym w.value-is ∙ c.if-well_formed.true)
    ]

pub returns-else-well_formed : goal.returns-else-well_formed
unfolding records_in_range
returns-else-well_formed c =
    elim c.if-link_in_range.branch [
      | then-link_in_range w ↦
          let a = sym c.link_in_range.ensures ∙ w.if-link_in_range.true in
          let b = sym w.well_formed-then-link_in_range.ensures ∙ sym w.value-is ∙ c.if-well_formed.false in
          c.if-well_formed.false ∙ sym (rw (a, b))
      | else-link_in_range w ↦ let a = sym c.link_in_range.ensures ∙ w.if-link_in_range.false in c.if-well_formed.false ∙ sym (rw a)
    ]
