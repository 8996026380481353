-- What the bench shows of a fragment call's answer (01, "The bench program"): the answer, the octets now held for the pair or delivered, 0 for
-- refusals 0 to 6, and the octets dropped; and what the answer adds to the totals.
-- Assumes nothing.
use Rattle.std.specs.Prelude.{ℕ, ltb, Result, Ok, Err}
use Rattle.refusals.specs.Check.{pick}
use Rattle.bench_lines.specs.declared.BenchAnswer.TheVariants as shown
use Rattle.refusals.specs.declared.Refusal.{Refusal}
use Rattle.refusals.specs.Refusal.{number_of}
use Rattle.reassembly.specs.declared.Accepted.{Accepted}
use Rattle.reassembly.specs.declared.Accepted.TheVariants as answer
use Rattle.bench_joining.specs.declared.Columns.{Columns}

-- a refusal adds nothing to the totals
unfoldable pub refused_with : (number octets : ℕ) → Columns
refused_with number octets = record { answer = shown.Refused number; octets = octets; dropped = 0; accepted = 0; delivered = 0 }

-- 0 octets for refusals 0 to 6, else those held for the pair
unfoldable pub refused_columns : (number held : ℕ) → Columns
refused_columns number held = pick (ltb number 7) (refused_with number 0) (refused_with number held)

-- a fragment call's answer, with 01's number in place of its refusal
abbrev pub numbered : Result Accepted Refusal → Result Accepted ℕ
numbered (Ok taken) = Ok taken
numbered (Err refusal) = Err (number_of refusal)

-- the columns of an answer, which may refuse with any number, where so many octets are held for the pair after the call, and the fragment has so many of payload
unfoldable pub columns_of : Result Accepted ℕ → (held payload : ℕ) → Columns
columns_of (Ok (answer.Held octets dropped)) held payload =
    record { answer = shown.Held; octets = octets; dropped = dropped; accepted = payload; delivered = 0 }
columns_of (Ok (answer.Whole octets dropped)) held payload =
    record { answer = shown.Whole; octets = octets; dropped = dropped; accepted = payload; delivered = octets }
columns_of (Err number) held payload = refused_columns number held
