-- Eight slots of at most 512 octets: their sum fits.
use Rattle.std.proofs.Common.{◌≡◌, ◌≤◌, length, arith, rules}
use Rattle.std.specs.List.{sum_by}
use Rattle.std.proofs.iter.runs.Sources.{sums}
use Rattle.slots.specs.Slots.{held_of}
use Rattle.slots.proofs.LookupLaws.{total_is, total_small}
use Rattle.slots.proofs.Tests.{long}
use Rattle.slots.proofs.lookup.held_sum.Goals as goal

pub sum-requires-clause-fits : goal.sum-requires-clause-fits
sum-requires-clause-fits c =
    let slots = c.args.slots in
    let n : length slots ≡ 8 = search (rules, long) in
    let small : sum_by held_of slots ≤ 4096 = omega (arith, total_is held_of slots, total_small slots (λ k l. c.requires k (omega arith))) in
    search (rules, sums, small)

pub returns : goal.returns
returns c =
    let e : c.sum.result ≡ sum_by held_of c.args.slots = search rules in
    omega (arith, e, total_is held_of c.args.slots)
