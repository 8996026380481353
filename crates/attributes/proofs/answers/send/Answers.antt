-- Case by case of what writing answers.
use Rattle.attributes.proofs.Sending.{sends_23, sends_21, sends_22, sends_octets}
use Rattle.attributes.proofs.answers.send.Goals as goal

pub returns-in-Ok : goal.returns-in-Ok
returns-in-Ok c = sends_octets _ _ _ _ _ _ c.no_entries.ensures c.write.ensures c.in-Ok.is

pub returns-in-Err-RecordOutOfRange : goal.returns-in-Err-RecordOutOfRange
returns-in-Err-RecordOutOfRange c = let e = c.in-Err-RecordOutOfRange in sends_23 _ _ _ _ _ _ c.no_entries.ensures c.write.ensures e.is e.field-0-is

pub returns-in-Err-MessageTooLong : goal.returns-in-Err-MessageTooLong
returns-in-Err-MessageTooLong c = let e = c.in-Err-MessageTooLong in sends_21 _ _ _ _ _ _ c.no_entries.ensures c.write.ensures e.is e.field-0-is

pub returns-in-Err-OutputTooSmall : goal.returns-in-Err-OutputTooSmall
returns-in-Err-OutputTooSmall c = let e = c.in-Err-OutputTooSmall in sends_22 _ _ _ _ _ _ c.no_entries.ensures c.write.ensures e.is e.field-0-is
