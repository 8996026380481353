-- `exports::messages::checked` meets its contract, case by case. Assumes nothing.
use Rattle.words.specs.Answer.{answer_number}
use Prim.Native.Nat.{ℕ}
use mathlib.Core.Path.{ap, ◌∙◌}
use Rattle.exports.proofs.messages.checked.Goals as goal

pub returns-in-Message : goal.returns-in-Message
returns-in-Message c = rw c.in-Message.is (c.packed.ensures.answer ∙ ap (λ (k : ℕ). answer_number 0 k 0 0) c.choice_of.ensures)

pub returns-in-Refused : goal.returns-in-Refused
returns-in-Refused c = rw c.in-Refused.is c.packed-in-Refused.ensures.answer
