-- The rows by value, as `gather` hands them over: up to 32, and a count of 33 for more.
-- Assumes nothing.
use Rattle.std.specs.Prelude.{◌+◌, List, [], ◌∷◌, ltb, leb, take, set, replicate}
use Rattle.refusals.specs.Check.{pick}
use Rattle.directory.specs.declared.Row.{Row}
use Rattle.directory.specs.declared.Directory.{Directory}
use Rattle.directory.specs.Directory.{no_row, most_rows}

abbrev pub no_directory : Directory
no_directory = record { rows = replicate 32 no_row; count = 0 }

-- one row more; a thirty-third makes the count 33, and is not kept
unfoldable pub with_row : Directory → Row → Directory
with_row d r =
    pick (ltb d.count most_rows)
    (record { rows = set d.rows d.count r; count = d.count + 1 })
    (record { rows = d.rows; count = 33 })

unfoldable pub gathered_from : Directory → List Row → Directory
gathered_from d [] = d
gathered_from d (r ∷ rs) = gathered_from (with_row d r) rs

abbrev pub gathered : List Row → Directory
gathered rs = gathered_from no_directory rs

-- the rows that a directory by value stands for; too many are 33
unfoldable pub list_of : Directory → List Row
list_of d = pick (leb d.count most_rows) (take d.count d.rows) (replicate 33 no_row)
