-- Computed cases of RowCounters.antt: rows due at depths 1 to 5; at which depth the next one stands, what is due after it if it
-- announces three, how many are due, and the components of them all, the innermost list first: an id and a container each.
-- Assumes nothing.
use Rattle.std.specs.Prelude.{ℕ, ◌≡◌, List, [], ◌∷◌, map}
use Rattle.apdu_format.specs.Component.{Component, integer, container}
use Rattle.apdu.specs.declared.due.Due.{Due}
use Rattle.apdu.specs.RowCounters.{level_of, after_row, total, due_list}

abbrev pub due : (d1 d2 d3 d4 d5 : ℕ) → Due
due d1 d2 d3 d4 d5 = record { d1 = d1; d2 = d2; d3 = d3; d4 = d4; d5 = d5 }

pub record Counts : Type 0 where
  pub level : ℕ
  pub after : Due
  pub total : ℕ
  pub components : List Component

pub record Case : Type 0 where
  pub due : Due
  pub gives : Counts

abbrev pub counted : Due → Counts
counted o = record { level = level_of o; after = after_row o 3; total = total o; components = due_list o }

abbrev pub gives : Due → ℕ → Due → ℕ → List Component → Case
gives o level after total components = record { due = o; gives = record { level = level; after = after; total = total; components = components } }

abbrev pub cases : List Case
cases =
    gives (due 2 0 0 0 0) 1 (due 1 3 0 0 0) 2 (integer ∷ container 1 ∷ integer ∷ container 1 ∷ [])
    ∷ gives (due 1 2 0 0 0) 2 (due 1 1 3 0 0) 3 (integer ∷ container 2 ∷ integer ∷ container 2 ∷ integer ∷ container 1 ∷ [])
    ∷ gives (due 0 2 1 0 0) 3 (due 0 2 0 3 0) 3 (integer ∷ container 3 ∷ integer ∷ container 2 ∷ integer ∷ container 2 ∷ [])
    ∷ gives (due 0 0 2 1 0) 4 (due 0 0 2 0 3) 3 (integer ∷ container 4 ∷ integer ∷ container 3 ∷ integer ∷ container 3 ∷ [])
    -- a row at depth 5 announces none
    ∷ gives (due 1 1 1 1 1) 5 (due 1 1 1 1 0) 5
    (integer ∷ container 5 ∷ integer ∷ container 4 ∷ integer ∷ container 3 ∷ integer ∷ container 2 ∷ integer ∷ container 1 ∷ [])
    ∷ []

-- what is proved
abbrev pub RowCounterCasesHold : Type 0
RowCounterCasesHold = map (λ (c : Case). counted c.due) cases ≡ map (λ (c : Case). c.gives) cases
