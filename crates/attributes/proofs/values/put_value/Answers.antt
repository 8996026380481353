-- The part of the row's area.
use Rattle.std.proofs.Common.{◌≡◌, ℕ, List, Bor, ap}
use Rattle.refusals.specs.Check.{pick}
use Rattle.bits.proofs.Laws.{octets_known}
use Rattle.attributes.proofs.Gathering.{value_copied}
use Rattle.attributes.proofs.values.put_value.Goals as goal
use Rattle.attributes.proofs.values.put_value.Goals.{then-row, else-row}

pub returns : goal.returns
returns c =
    let a = c.args in
    let area : c.if-row.area.now ≡ pick a.row.writable a.writable.now a.factory.now =
    elim c.if-row.branch [
      | then-row v ↦ rw v.if-row.true (ap (λ (l : Bor (List ℕ)). l.now) v.area-is)
      | else-row v ↦ rw v.if-row.false (ap (λ (l : Bor (List ℕ)). l.now) v.area-is)
    ] in
    value_copied a.factory.now a.writable.now a.row a.out.now a.at (octets_known _ c.type_inv.factory) (octets_known _ c.type_inv.writable) c.requires.0 c.requires.1 area
    c.copy_string.ensures.1
