-- The other texts of the program that shows messages: a refusal, the heading and the totals.
-- Assumes nothing.
use Rattle.std.specs.Prelude.{ℕ, List, [], ◌∷◌, ◌++◌, eqb}
use Rattle.refusals.specs.Check.{pick}
use Rattle.apdu_text.specs.Words.{refused_with, at_place, messages_are, refused_are, same_are}
use Rattle.apdu_text.specs.Parts.{decimal}

-- `refused-13 at 2`; number 0, a line that is not hex, has no place: `refused-0`
unfoldable pub refusal_text : (number place : ℕ) → List ℕ
refusal_text number place = refused_with ++ (decimal number ++ pick (eqb number 0) [] (at_place ++ decimal place))

-- `messages 1 refused 0 same 1` and a line feed
unfoldable pub totals_text : (messages refused same : ℕ) → List ℕ
totals_text messages refused same =
    (messages_are ++ decimal messages) ++ ((refused_are ++ decimal refused) ++ ((same_are ++ decimal same) ++ (10 ∷ [])))
