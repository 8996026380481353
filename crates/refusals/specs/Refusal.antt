-- Document 01's refusals: the number of each, as its table prints them (20 is not used).
-- Assumes nothing.
use Rattle.std.specs.Prelude.{ℕ, Result, Ok, Err}
use Rattle.refusals.specs.Check.{Answer, refused, accepted}
use Rattle.refusals.specs.declared.Refusal.{Refusal}
use Rattle.refusals.specs.declared.Refusal.TheVariants as refusal

abbrev pub number_of : Refusal → ℕ
number_of refusal.StoreOrOutputLength = 1
number_of refusal.TableNotSound = 2
number_of refusal.LidOutOfRange = 3
number_of refusal.LsduLength = 4
number_of refusal.HeaderNotValid = 5
number_of refusal.NumberReserved = 6
number_of refusal.NoPayload = 7
number_of refusal.NotOpen = 8
number_of refusal.NoFreeSlot = 9
number_of refusal.CounterNotExpected = 10
number_of refusal.CounterExhausted = 11
number_of refusal.MessageTooLong = 12
number_of refusal.CutShort = 13
number_of refusal.OctetsLeft = 14
number_of refusal.ChoiceUnknown = 15
number_of refusal.ExtensionBit = 16
number_of refusal.ContainerKind = 17
number_of refusal.CountTooLarge = 18
number_of refusal.TooDeep = 19
number_of refusal.ApduTooLong = 21
number_of refusal.OutputTooSmall = 22
number_of refusal.RecordOutOfRange = 23
number_of refusal.NotServed = 24
number_of refusal.LinkNotReady = 25
number_of refusal.ListNotSound = 26

-- 01's number or the value for each case of an answer
abbrev pub answer_of : {A : Type 0} → Result A Refusal → Answer A
answer_of (Ok a) = accepted a
answer_of (Err refusal) = refused (number_of refusal)

-- the number that checks in order refuse with, or 0
abbrev pub refused_by : {A : Type 0} → Result A Refusal → ℕ
refused_by (Ok a) = 0
refused_by (Err refusal) = number_of refusal
