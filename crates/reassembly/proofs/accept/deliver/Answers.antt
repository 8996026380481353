-- What is held goes to the front of the output and the payload behind it.
use mathlib.Core.Path.{◌≡◌, ap, ◌∙◌}
use borrow.Author.Rules.{rules}
use Rattle.slots.specs.Slots.{free}
use mathlib.Core.List.{List}
use Prim.Native.Nat.{ℕ, ◌*◌}
use native.Mathlib.Omega.{arith}
use lib.ListN.{length, take, drop, length-drop}
use lib.Seq.{paste, length-take-le}
use Rattle.reassembly.proofs.Accepting.{two_pastes}
use Rattle.reassembly.proofs.accept.deliver.Goals as goal

pub returns : goal.returns
returns c =
    let a = c.args in
    let pre = c.requires in
    let part = drop (512 * a.index) a.store.now in
    let long = length-take-le a.before part (omega (arith, length-drop (512 * a.index) a.store.now)) in
    let front = ap (λ (l : List ℕ). paste l a.before a.payload.now (length a.payload.now)) c.copy_held.ensures in
    let written = c.copy.ensures ∙ front ∙ two_pastes a.output.now (take a.before part) a.payload.now a.before long (omega arith) in
    let e : c.default.result ≡ free = search rules in
    record { change_is = rw e; output_is = written }
