-- What is put into an answer is taken out of it again. Assumes nothing.
use Prim.Native.Nat.{ℕ, ◌<◌, ◌≤◌}
use mathlib.Core.Path.{◌≡◌}
use mathlib.Core.Bool.{false}
use native.Mathlib.Omega.{arith}
use lib.Dec.{eqb}
use Rattle.words.specs.Answer.{answer_number, Says, SaysRefused, UnpackingAnswer}
use Rattle.words.proofs.Answers.{unpacking_answer}

-- octets and positions are at most 512
pub says : (number kind first : ℕ) → number < 256 → kind < 256 → first ≤ 512 → Says (answer_number number kind first 0) number kind first 0
unfolding UnpackingAnswer
says number kind first n k f = unpacking_answer number kind first 0 n k (omega arith) (omega arith)

pub says_refused : (number position : ℕ) → eqb number 0 ≡ false → number < 256 → position ≤ 512 → SaysRefused (answer_number number 0 position 0) number position
says_refused number position e n p = (e, says number 0 position n (omega arith) p)
