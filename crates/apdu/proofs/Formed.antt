-- What a record keeps that does not break the condition of 23, and what it takes to be one; the limit of rows as an order.
-- Assumes nothing.
use Prim.Native.Nat.{ℕ, ◌≤◌}
use mathlib.Core.Path.{◌≡◌}
use mathlib.Core.List.{List}
use mathlib.Core.Bool.{Bool, true, ◌&&◌}
use native.Mathlib.Omega.{arith}
use lib.ListN.{length}
use borrow.Author.Tests.{le-leb, leb-true}
use Rattle.refusals.proofs.Tests.{and_true, by_test}
use Rattle.apdu_format.specs.Limits.{most_rows}
use Rattle.apdu_format.specs.Writing.{in_range}
use Rattle.apdu_format.proofs.Tests.{both}
use Rattle.apdu.specs.declared.lists.Row.{Row}
use Rattle.apdu.specs.declared.lists.Entry.{Entry}
use Rattle.apdu.specs.declared.records.Message.{Message}
use Rattle.apdu.specs.Values.{values_of}
use Rattle.apdu.specs.Sound.{sound, count_if, rows_present, rows_fit, well_formed}

-- ---- the limit of rows

pub count_le : (p : Bool) (n : ℕ) → count_if p n ≤ n
count_le p n = by_test (λ (k : ℕ). k ≤ n) p (λ h. omega arith) (λ h. omega arith)

module _ (m : Message) (es : List Entry) where
  pub keeps_limit : rows_present m es ≤ most_rows → rows_fit m es ≡ true
  unfolding rows_fit
  keeps_limit h = le-leb (rows_present m es) most_rows h

  pub limit_kept : rows_fit m es ≡ true → rows_present m es ≤ most_rows
  unfolding rows_fit
  limit_kept h = leb-true (rows_present m es) most_rows h

-- ---- the whole condition

module _ (s : List ℕ) (m : Message) (es : List Entry) (rs : List Row) where
  pub formed_by : in_range (values_of s m es rs) ≡ true → sound (length s) m es rs ≡ true → rows_fit m es ≡ true → well_formed s m es rs ≡ true
  unfolding well_formed
  formed_by ranges parts rows = and_true ranges (and_true parts rows)

  module _ (formed : well_formed s m es rs ≡ true) where
    pub formed_ranges : in_range (values_of s m es rs) ≡ true
    unfolding well_formed
    formed_ranges = (both (in_range (values_of s m es rs)) (sound (length s) m es rs && rows_fit m es) formed).0

    sound_and_fit : (sound (length s) m es rs && rows_fit m es) ≡ true
    unfolding well_formed
    sound_and_fit = (both (in_range (values_of s m es rs)) (sound (length s) m es rs && rows_fit m es) formed).1

    pub formed_sound : sound (length s) m es rs ≡ true
    formed_sound = (both (sound (length s) m es rs) (rows_fit m es) sound_and_fit).0

    pub formed_rows : rows_present m es ≤ most_rows
    formed_rows = limit_kept m es (both (sound (length s) m es rs) (rows_fit m es) sound_and_fit).1
