-- The checks go before; then what is chosen is done.
-- Assumes nothing.
use Rattle.std.proofs.Common.{◌≡◌, sym, ◌∙◌}
use Rattle.std.proofs.lemmas.Result.{err_from_is_err_and}
use Rattle.initialisation.specs.Hearing.{Call, call, hearing_refusal}
use Rattle.initialisation.proofs.HearingLaws.{refusal_is, choosable, sendable, checked, refused_gives, silent_gives, started_gives}
use Rattle.initialisation.proofs.Theorems.{hears}
use Rattle.initialisation.proofs.hearing.hear_bst.Goals as goal

pub returns-in_err-check-clause-gives : goal.returns-in_err-check-clause-gives
returns-in_err-check-clause-gives c =
    let k : Call = call c.args.link.now c.args.bst c.args.lists c.args.lent.now c.args.tick c.args.lid c.args.own c.args.marks.now c.args.configuration c.args.out.now in
    let p = err_from_is_err_and c.from_residual.result c.from_residual.ensures.1 in
    rw (p.1, p.2) (refused_gives k (refusal_is k c.in_err-check.ensures c.elements_sound-sound.ensures c.records_in_range-fine.ensures))

pub returns-in_err-check-clause-hears : goal.returns-in_err-check-clause-hears
returns-in_err-check-clause-hears c = hears _

pub overflow_cast-time : goal.overflow_cast-time
overflow_cast-time c =
    let k : Call = call c.args.link.now c.args.bst c.args.lists c.args.lent.now c.args.tick c.args.lid c.args.own c.args.marks.now c.args.configuration c.args.out.now in
    let h : hearing_refusal k ≡ 0 = sym (refusal_is k c.in_ok-check.ensures c.elements_sound-sound.ensures c.records_in_range-fine.ensures) in
    record { fits = (choosable k h).2 }

pub choose-requires : goal.choose-requires
choose-requires c =
    let k : Call = call c.args.link.now c.args.bst c.args.lists c.args.lent.now c.args.tick c.args.lid c.args.own c.args.marks.now c.args.configuration c.args.out.now in
    let h : hearing_refusal k ≡ 0 = sym (refusal_is k c.in_ok-check.ensures c.elements_sound-sound.ensures c.records_in_range-fine.ensures) in
    choosable k h

pub send-octets-requires : goal.send-octets-requires
send-octets-requires c =
    let k : Call = call c.args.link.now c.args.bst c.args.lists c.args.lent.now c.args.tick c.args.lid c.args.own c.args.marks.now c.args.configuration c.args.out.now in
    let h : hearing_refusal k ≡ 0 = sym (refusal_is k c.in_ok-check.ensures c.elements_sound-sound.ensures c.records_in_range-fine.ensures) in
    let can = sendable k c.in-Some.field-0 h (sym c.in-Some.is ∙ c.choose.ensures) in
    (can.served, can.sound, can.ranges, (checked k h).room)

pub returns-in-None-clause-gives : goal.returns-in-None-clause-gives
returns-in-None-clause-gives c =
    let k : Call = call c.args.link.now c.args.bst c.args.lists c.args.lent.now c.args.tick c.args.lid c.args.own c.args.marks.now c.args.configuration c.args.out.now in
    let h : hearing_refusal k ≡ 0 = sym (refusal_is k c.in_ok-check.ensures c.elements_sound-sound.ensures c.records_in_range-fine.ensures) in
    silent_gives k h (sym c.in-None.is ∙ c.choose.ensures) c.waken-phase.ensures

pub returns-in-None-clause-hears : goal.returns-in-None-clause-hears
returns-in-None-clause-hears c = hears _

pub returns-in-Some-clause-gives : goal.returns-in-Some-clause-gives
returns-in-Some-clause-gives c =
    let k : Call = call c.args.link.now c.args.bst c.args.lists c.args.lent.now c.args.tick c.args.lid c.args.own c.args.marks.now c.args.configuration c.args.out.now in
    let h : hearing_refusal k ≡ 0 = sym (refusal_is k c.in_ok-check.ensures c.elements_sound-sound.ensures c.records_in_range-fine.ensures) in
    started_gives k h c.in-Some.field-0 (sym c.in-Some.is ∙ c.choose.ensures) c.beacon_of-beacon.ensures c.send-octets.ensures

pub returns-in-Some-clause-hears : goal.returns-in-Some-clause-hears
returns-in-Some-clause-hears c = hears _
