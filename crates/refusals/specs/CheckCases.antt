-- Cases of checks in order (Check.antt): what a call answers that has these checks and would give 90 (01: the first check to hold refuses, with its number).
-- Assumes nothing.
use Rattle.std.specs.Prelude.{ℕ, ◌≡◌, true, false, List, [], ◌∷◌, map}
use Rattle.refusals.specs.Check.{Check, check, first_of, Answer, refused, accepted, decided}

pub record Case : Type 0 where
  pub checks : List Check
  pub gives : Answer ℕ

unfoldable pub check_cases : List Case
check_cases =
    -- no check; none that holds
    record { checks = []; gives = accepted 90 }
    ∷ record { checks = check 3 false ∷ check 5 false ∷ []; gives = accepted 90 }
    -- one that holds, first or behind one that does not
    ∷ record { checks = check 1 true ∷ []; gives = refused 1 }
    ∷ record { checks = check 3 false ∷ check 5 true ∷ []; gives = refused 5 }
    -- two that hold: the first, whichever number is lower
    ∷ record { checks = check 3 true ∷ check 5 true ∷ []; gives = refused 3 }
    ∷ record { checks = check 5 true ∷ check 3 true ∷ []; gives = refused 5 }
    ∷ []

-- every case gives what it says
unfoldable pub CheckCasesHold : Type 0
CheckCasesHold = map (λ (c : Case). decided (first_of c.checks) 90) check_cases ≡ map (λ (c : Case). c.gives) check_cases
