-- Up to 32 rows in front of an array are the directory that they stand for.
-- Assumes nothing.
use Prim.Native.Nat.{ℕ, ◌≤◌}
use mathlib.Core.List.{List}
use lib.ListN.{take}
use Rattle.directory.specs.declared.Row.{Row}
use Rattle.directory.specs.declared.Directory.{Directory}
use Rattle.directory.specs.Gathered.{list_of}
use Rattle.directory.proofs.Looking.{list_is}
use Rattle.attributes.specs.declared.answers.RequestAnswer.{RequestAnswer}
use Rattle.attributes.specs.Inside.{tag_of}
use Rattle.attributes.specs.Serving.{Answered}

module _ (eid : ℕ) (credentials : List ℕ) (rows : List Row) (count : ℕ) (f w s out : List ℕ) (a : RequestAnswer) (w' out' : List ℕ) where
  abbrev among : Directory
  among = record { rows = rows; count = count }

  pub among_answered : Answered (tag_of eid credentials (take count rows) f w) s out a w' out' → count ≤ 32 → Answered (tag_of eid credentials (list_of among) f w) s out a w' out'
  among_answered h few = rw (list_is among few) h
