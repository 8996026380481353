-- The two lists of checks are one behind the other, and what no check refuses is taken as defined.
-- Assumes nothing.
use Rattle.std.proofs.Common.{◌≡◌, ℕ, length, get_or, refl, sym, ap, ◌∙◌, rules}
use Rattle.std.proofs.lemmas.Result.{err_from_is_err_and}
use Rattle.refusals.specs.Check.{pick}
use Rattle.slots.specs.Slots.{free, is_busy}
use Rattle.slots.proofs.Tests.{long}
use Rattle.reassembly.specs.Checks.{FragmentFields}
use Rattle.reassembly.proofs.CallLaws.{look, refusal_gives, early_gives, header_gives, shut_is, octets_in_law, asks, gives}
use Rattle.reassembly.proofs.fragment_call.fragment_change.Goals as goal

pub returns-in_err-check_lsdu : goal.returns-in_err-check_lsdu
returns-in_err-check_lsdu c =
    let p = err_from_is_err_and c.from_residual.result c.from_residual.ensures.1 in
    rw (p.1, p.2) (early_gives c.in_err-check_lsdu.field-0.0 c.sound.ensures c.in_err-check_lsdu.ensures)

pub returns-in_err-fragment : goal.returns-in_err-fragment
returns-in_err-fragment c =
    let p = err_from_is_err_and c.from_residual-in_err-fragment.result c.from_residual-in_err-fragment.ensures.1 in
    let e = c.in_err-fragment.ensures in
    rw (p.1, p.2) (header_gives c.in_err-fragment.field-0.0 c.sound.ensures c.in_ok-check_lsdu.ensures e.fields (e.refusal ∙ ap (λ (f : FragmentFields). pick f.valid 0 5) (sym e.fields)))

pub facts_of-requires : goal.facts_of-requires
facts_of-requires c =
    let t = c.args.table in
    let e = c.slot_at-slot.ensures ∙ ap (λ (k : ℕ). get_or t.slots k free) c.find-index.ensures in
    λ h. e ∙ shut_is c.args.lid _ t.slots (ap is_busy (sym e) ∙ h)

pub returns-in_err-check_fragment : goal.returns-in_err-check_fragment
returns-in_err-check_fragment c =
    let n : length c.args.table.slots ≡ 8 = search (rules, long) in
    let l = look {store = c.args.store.now} {output = c.args.output.now} n c.sound.ensures c.in_ok-check_lsdu.ensures refl c.in_ok-fragment.ensures.fields c.find-index.ensures c.slot_at-slot.ensures c.facts_of.ensures c.in_err-check_fragment.ensures in
    let p = err_from_is_err_and c.from_residual-in_err-check_fragment.result c.from_residual-in_err-check_fragment.ensures.1 in
    rw (p.1, p.2) (refusal_gives c.in_err-check_fragment.field-0.0 l.refusal)

pub overflow_sub-start : goal.overflow_sub-start
overflow_sub-start c =
    let n : length c.args.table.slots ≡ 8 = search (rules, long) in
    let l = look {store = c.args.store.now} {output = c.args.output.now} n c.sound.ensures c.in_ok-check_lsdu.ensures refl c.in_ok-fragment.ensures.fields c.find-index.ensures c.slot_at-slot.ensures c.facts_of.ensures c.in_ok-check_fragment.ensures in
    octets_in_law l refl

pub accept-requires : goal.accept-requires
accept-requires c =
    let n : length c.args.table.slots ≡ 8 = search (rules, long) in
    let l = look {store = c.args.store.now} {output = c.args.output.now} n c.sound.ensures c.in_ok-check_lsdu.ensures refl c.in_ok-fragment.ensures.fields c.find-index.ensures c.slot_at-slot.ensures c.facts_of.ensures c.in_ok-check_fragment.ensures in
    asks l refl c.lowest_free-lowest.ensures

pub returns : goal.returns
returns c =
    let n : length c.args.table.slots ≡ 8 = search (rules, long) in
    let l = look {store = c.args.store.now} {output = c.args.output.now} n c.sound.ensures c.in_ok-check_lsdu.ensures refl c.in_ok-fragment.ensures.fields c.find-index.ensures c.slot_at-slot.ensures c.facts_of.ensures c.in_ok-check_fragment.ensures in
    gives l refl c.lowest_free-lowest.ensures c.accept.ensures
