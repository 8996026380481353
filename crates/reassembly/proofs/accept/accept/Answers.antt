-- The slot of the pair gives what goes before the payload; the last mark decides between delivering and keeping.
use Rattle.std.proofs.Common.{◌≡◌, ℕ, ◌+◌, ap, eq-eqb, ne_eqb}
use Rattle.refusals.specs.Check.{pick}
use Rattle.slots.specs.Slots.{is_busy}
use Rattle.reassembly.proofs.Accepting.{deliver_gives, keep_gives}
use Rattle.reassembly.proofs.accept.accept.Goals as goal
use Rattle.reassembly.proofs.accept.accept.Goals.{then-arrival, else-arrival, then-arrival-3, else-arrival-3, then-slot-ne0, else-slot-ne0}

pub returns-then-arrival-2 : goal.returns-then-arrival-2
returns-then-arrival-2 c =
    let slot = c.args.slot in
    let begins = c.args.arrival.begins in
    let b : c.if-arrival.before.0 ≡ pick begins 0 slot.held = elim c.if-arrival.branch [
      | then-arrival w ↦ rw w.if-arrival.true (ap (λ (p : ℕ × ℕ). p.0) w.before-is)
      | else-arrival w ↦ rw w.if-arrival.false (ap (λ (p : ℕ × ℕ). p.0) w.before-is)
    ] in
    let d : c.if-arrival.before.1 ≡ pick begins slot.held 0 = elim c.if-arrival.branch [
      | then-arrival w ↦ rw w.if-arrival.true (ap (λ (p : ℕ × ℕ). p.1) w.before-is)
      | else-arrival w ↦ rw w.if-arrival.false (ap (λ (p : ℕ × ℕ). p.1) w.before-is)
    ] in
    deliver_gives b d c.if-arrival-2.true c.deliver.ensures

pub returns : goal.returns
returns c =
    let slot = c.args.slot in
    let begins = c.args.arrival.begins in
    let b : c.if-arrival.before.0 ≡ pick begins 0 slot.held = elim c.if-arrival.branch [
      | then-arrival w ↦ rw w.if-arrival.true (ap (λ (p : ℕ × ℕ). p.0) w.before-is)
      | else-arrival w ↦ rw w.if-arrival.false (ap (λ (p : ℕ × ℕ). p.0) w.before-is)
    ] in
    let d : c.if-arrival.before.1 ≡ pick begins slot.held 0 = elim c.if-arrival.branch [
      | then-arrival w ↦ rw w.if-arrival.true (ap (λ (p : ℕ × ℕ). p.1) w.before-is)
      | else-arrival w ↦ rw w.if-arrival.false (ap (λ (p : ℕ × ℕ). p.1) w.before-is)
    ] in
    let taken : c.if-slot-ne0.taken ≡ pick (is_busy slot) c.args.arrival.index c.args.lowest = elim c.if-slot-ne0.branch [
      | then-slot-ne0 w ↦ rw (ne_eqb _ _ w.if-slot-ne0.true) w.taken-is
      | else-slot-ne0 w ↦ rw (eq-eqb _ _ w.if-slot-ne0.false) w.taken-is
    ] in
    let next : c.if-arrival-3.next.0 ≡ pick begins 1 (slot.next + 1) = elim c.if-arrival-3.branch [
      | then-arrival-3 w ↦ rw w.if-arrival-3.true (ap (λ (p : ℕ × ℕ). p.0) w.next-is)
      | else-arrival-3 w ↦ rw w.if-arrival-3.false (ap (λ (p : ℕ × ℕ). p.0) w.next-is)
    ] in
    let tick : c.if-arrival-3.next.1 ≡ pick begins c.args.arrival.tick slot.tick = elim c.if-arrival-3.branch [
      | then-arrival-3 w ↦ rw w.if-arrival-3.true (ap (λ (p : ℕ × ℕ). p.1) w.next-is)
      | else-arrival-3 w ↦ rw w.if-arrival-3.false (ap (λ (p : ℕ × ℕ). p.1) w.next-is)
    ] in
    keep_gives b d c.if-arrival-2.false taken next tick c.keep.ensures
