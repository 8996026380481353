-- Attribute rows that are still to come, list by list. What `level` and `after_row` count for reading and writing.
-- Assumes nothing.
use Rattle.std.specs.Prelude.{ℕ, ◌+◌, ◌-◌, List, [], ◌∷◌, ◌++◌, eqb}
use Rattle.refusals.specs.Check.{pick}
use Rattle.apdu_format.specs.Component.{Component, integer, container}
use Rattle.apdu_format.specs.Rules.{times}
use Rattle.apdu.specs.declared.due.Due.{Due}

-- an attribute whose container stands at depth d
abbrev pub row : ℕ → List Component
row d = integer ∷ container d ∷ []

-- the depth of the next row's container: that of the innermost list with rows to come
unfoldable pub level_of : Due → ℕ
level_of o = pick (eqb o.d5 0) (pick (eqb o.d4 0) (pick (eqb o.d3 0) (pick (eqb o.d2 0) 1 2) 3) 4) 5

-- one row less to come in the innermost list, and n in the list that this row opens
unfoldable pub after_row : Due → ℕ → Due
after_row o n =
    pick (eqb o.d5 0)
    (pick (eqb o.d4 0)
    (pick (eqb o.d3 0)
    (pick (eqb o.d2 0)
    (record { d1 = o.d1 - 1; d2 = n; d3 = 0; d4 = 0; d5 = 0 })
    (record { d1 = o.d1; d2 = o.d2 - 1; d3 = n; d4 = 0; d5 = 0 }))
    (record { d1 = o.d1; d2 = o.d2; d3 = o.d3 - 1; d4 = n; d5 = 0 }))
    (record { d1 = o.d1; d2 = o.d2; d3 = o.d3; d4 = o.d4 - 1; d5 = n }))
    (record { d1 = o.d1; d2 = o.d2; d3 = o.d3; d4 = o.d4; d5 = o.d5 - 1 })

abbrev pub total : Due → ℕ
total o = o.d1 + o.d2 + o.d3 + o.d4 + o.d5

-- the components of all rows still to come, the innermost list first
unfoldable pub due_list : Due → List Component
due_list o = times o.d5 (row 5) ++ (times o.d4 (row 4) ++ (times o.d3 (row 3) ++ (times o.d2 (row 2) ++ times o.d1 (row 1))))
