-- Reading what was written gives the same message, and what passes the writer is in range (01, "What the contracts have to say"), about records: if `write`
-- refuses nothing, the octets that it leaves at the output's front are read, to their end, as the values of the record.
-- Assumes nothing.
use Prim.Native.Nat.{ℕ, ◌≤◌}
use mathlib.Core.Path.{◌≡◌}
use mathlib.Core.List.{List}
use mathlib.Core.Bool.{true}
use native.Mathlib.Omega.{arith}
use lib.ListN.{length}
use lib.Dec.{ltb}
use borrow.Author.Tests.{ltb-true, ltb-false}
use Rattle.refusals.proofs.Tests.{by_cases}
use Rattle.apdu_format.specs.Limits.{longest_message}
use Rattle.apdu_format.specs.Writing.{size, encoded_octets}
use Rattle.apdu_format.specs.RoundTrip.{ReadAs}
use Rattle.apdu_format.proofs.RoundTrip.{encoded, read_written}
use Rattle.apdu.specs.declared.lists.Row.{Row}
use Rattle.apdu.specs.declared.lists.Entry.{Entry}
use Rattle.apdu.specs.declared.records.Message.{Message}
use Rattle.apdu.specs.Values.{values_of}
use Rattle.apdu.specs.Sound.{well_formed}
use Rattle.apdu.proofs.Formed.{formed_ranges}
use Rattle.apdu_writing.specs.Answer.{write_refusal}
use Rattle.apdu_writing.proofs.Answers.{refusal_23, refusal_21}

module _ (s : List ℕ) (m : Message) (es : List Entry) (rs : List Row) (out : List ℕ) (none : write_refusal s m es rs (length out) ≡ 0) where
  formed : well_formed s m es rs ≡ true
  formed = by_cases (well_formed s m es rs) (λ h. h) (λ h. absurd (omega (arith, refusal_23 s m es rs out h)))

  short : size (values_of s m es rs) ≤ longest_message
  short =
      by_cases (ltb longest_message (size (values_of s m es rs))) (λ h. absurd (omega (arith, refusal_21 s m es rs out formed (ltb-true _ _ h)))) (λ h. ltb-false _ _ h)

  -- what is written is read as the same message
  pub written_reads : ReadAs (encoded_octets (values_of s m es rs)) (values_of s m es rs)
  written_reads = read_written (encoded_octets (values_of s m es rs)) (values_of s m es rs) (encoded (values_of s m es rs) (formed_ranges s m es rs formed) short)
