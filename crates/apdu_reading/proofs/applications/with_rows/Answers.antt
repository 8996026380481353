-- The entry, and then the rows that its parameter announces.
-- Assumes nothing.
use mathlib.Core.Path.{◌≡◌}
use borrow.Author.Rules.{rules}
use Rattle.apdu.proofs.Dues.{two}
use Rattle.apdu_reading.proofs.EntryLaws.{entry_whole}
use native.Mathlib.Omega.{arith}
use Rattle.apdu_reading.proofs.applications.with_rows.Goals as goal

pub returns : goal.returns
returns c = let none : c.default.result ≡ two 0 = search rules in entry_whole _ _ c.requires.1 c.requires.2 (rw none at c.fill-rows.ensures) (λ z. absurd (omega (arith, c.requires.3)))
