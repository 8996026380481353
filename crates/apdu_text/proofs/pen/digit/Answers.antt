-- Digits below ten and letters.
-- Assumes nothing.
use native.Mathlib.Omega.{arith}
use Rattle.apdu_text.proofs.Figures.{digit_low, digit_high}
use Rattle.apdu_text.proofs.pen.digit.Goals as goal

pub returns-then-d-lt10 : goal.returns-then-d-lt10
returns-then-d-lt10 c = digit_low _ (omega arith)

pub returns-else-d-lt10 : goal.returns-else-d-lt10
returns-else-d-lt10 c = digit_high _ (omega arith)
