-- What the private functions answer. No public contract cites these.
-- Assumes nothing.
use Rattle.std.specs.Prelude.{◌≡◌, ℕ, ◌≤◌, Some, List, length, take}
use Rattle.apdu.specs.declared.lists.Entry.{Entry}
use Rattle.apdu.specs.declared.records.Bst.{Bst}
use Rattle.apdu_format.specs.Writing.{size}
use Rattle.initialisation.specs.declared.records.Element.{Element}
use Rattle.initialisation.specs.declared.records.Configuration.{Configuration}
use Rattle.initialisation.specs.Offer.{offered_by}
use Rattle.initialisation.specs.Hearing.{vst_for, output_for}

-- the first n of the 32 entries are those offered
pub record Counts (bst : Bst) (n : ℕ) : Type 0 where
  pub few : n ≤ 32
  pub so : (entries : List Entry) → length entries ≡ 32 → take n entries ≡ offered_by bst entries

-- the VST of a profile and an element is written to the front of an output
pub record Sends (profile : ℕ) (element : Element) (k : Configuration) (marks : List ℕ) (r : ℕ) (out out' : List ℕ) : Type 0 where
  pub octets : r ≡ size (vst_for (record { profile = profile; element = element }) marks k)
  pub output : out' ≡ output_for (Some (record { profile = profile; element = element })) marks k out
