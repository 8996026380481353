-- `words::answer::packed` meets its contract. Assumes nothing.
use native.Mathlib.Omega.{arith}
use Rattle.words.specs.Answer.{answer_number}
use Rattle.words.proofs.Answers.{unpacking_answer}
use Rattle.words.proofs.answer.packed.Goals as goal

pub returns : goal.returns
unfolding answer_number
returns c = record { answer = omega arith; unpacking = unpacking_answer }
