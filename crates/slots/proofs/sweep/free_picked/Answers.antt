use Rattle.std.proofs.Common.{◌≡◌, ◌+◌, ◌<◌, true, false, length, get_or, set, sym, ap, ◌∙◌, arith, rules}
use Rattle.std.proofs.lemmas.List.{set-get_or}
use Rattle.slots.specs.declared.Slot.{Slot}
use Rattle.slots.specs.Slots.{free}
use Rattle.slots.specs.Model.{picks}
use Rattle.slots.proofs.Tests.{long}
use Rattle.slots.proofs.SweepLaws.{freed_none, freed_here, dropped_none, freed_yes, freed_no, dropped_yes, dropped_no}
use Rattle.slots.proofs.sweep.free_picked.Goals as goal
use Rattle.slots.proofs.sweep.free_picked.Goals.{then-picked, else-picked}

pub loop-slot-init : goal.loop-slot-init
loop-slot-init c = (freed_none (picks c.args.sweep) c.args.slots.now, dropped_none (picks c.args.sweep), search rules)

pub loop-slot-preserved : goal.loop-slot-preserved
loop-slot-preserved c =
    let slots = c.args.slots.now in
    let at = c.loop-slot in
    let i = at.slot-index in
    let f = picks c.args.sweep in
    let n : length slots ≡ 8 = search (rules, long) in
    let h : i < length slots = omega arith in
    let here = freed_here f slots i h at.slots at.invariant.0 in
    elim c.if-picked.branch [
      | then-picked w ↦
          let e : w.default.result ≡ free = search rules in
          let t : f (get_or slots i free) ≡ true = ap f (sym here) ∙ sym c.picked.ensures ∙ w.if-picked.true in
          (w.slots-is ∙ ap (λ (s : Slot). set at.slots i s) e ∙ freed_yes f slots i h at.slots t at.invariant.0, w.dropped-is ∙ ap (λ (s : Slot). at.dropped + s.held) here ∙ dropped_yes f slots i h at.dropped t at.invariant.1, omega (arith, w.dropped-is))
      | else-picked w ↦
          let s : c.if-picked.slots ≡ set at.slots i (get_or at.slots i free) = w.slots-is in
          let t : f (get_or slots i free) ≡ false = ap f (sym here) ∙ sym c.picked.ensures ∙ w.if-picked.false in
          (s ∙ set-get_or at.slots i free ∙ freed_no f slots i h at.slots t at.invariant.0, w.dropped-is ∙ dropped_no f slots i h at.dropped t at.invariant.1, omega (arith, w.dropped-is))
    ]
