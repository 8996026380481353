use Rattle.std.proofs.Common.{sym, ◌∙◌}
use Rattle.initialisation.proofs.ElementLaws.{each_bad, each_twice, each_next, each_none}
use Rattle.initialisation.proofs.elements.each_sound.Goals.{then-not-element_sound-via-then-not-element_sound, then-not-element_sound-via-else-not-element_sound+then-not-none_has}
use Rattle.initialisation.proofs.elements.each_sound.Goals as goal

pub returns-then-not-element_sound : goal.returns-then-not-element_sound
returns-then-not-element_sound c =
    elim c.then-not-element_sound.branch [
      | then-not-element_sound-via-then-not-element_sound w ↦ sym (c.loop-i.invariant ∙ each_bad _ _ _ c.loop-i-test.true (sym c.element_sound.ensures ∙ w.if-not-element_sound.true))
      | then-not-element_sound-via-else-not-element_sound+then-not-none_has w ↦ sym (c.loop-i.invariant ∙ each_twice _ _ _ c.loop-i-test.true (sym c.element_sound.ensures ∙ w.if-not-element_sound.false) w.none_has.ensures w.if-not-none_has.true)
    ]

pub loop-i-preserved : goal.loop-i-preserved
loop-i-preserved c = c.loop-i.invariant ∙ each_next _ _ _ c.loop-i-test.true (sym c.element_sound.ensures ∙ c.if-not-element_sound.false) c.none_has.ensures c.if-not-none_has.false

pub returns : goal.returns
returns c = sym (c.loop-i.invariant ∙ each_none _ _ _ c.loop-i-test.false)
