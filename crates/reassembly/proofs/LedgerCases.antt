-- The cases of the ledger hold: both sides compute to the same lists.
-- Assumes nothing.
use mathlib.Core.Path.{refl}
use Rattle.refusals.specs.Check.{first_of}
use Rattle.bits.specs.Bits.{digits, bits, number, field}
use Rattle.header.specs.Header.{end_bit, header_length, counter_in, length_for, header_of, read_refusal}
use Rattle.slots.specs.Slots.{total}
use Rattle.reassembly.specs.Checks.{payload_of, fragment_in}
use Rattle.reassembly.specs.Ledger.{joined, those, facts_of, ledger_refusal, joining, ledger_step, ledger_reports}
use Rattle.reassembly.specs.History.{held_after}
use Rattle.reassembly.specs.LedgerCases.{LedgerCasesHold}

pub ledger_cases_hold : LedgerCasesHold
unfolding first_of digits bits number field end_bit header_length counter_in length_for header_of read_refusal total payload_of fragment_in joined those facts_of ledger_refusal joining ledger_step ledger_reports held_after
ledger_cases_hold = record { reports = refl; open_ones = refl; balance = refl }
