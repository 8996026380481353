-- An answer as one number, from its low end: eight bits of refusal number (0: none), eight of kind, 24 of the first number and 24 of the second. The four
-- are taken out again by division, as include/semuryeon.h does.
-- Assumes nothing.
use Rattle.std.specs.Prelude.{ℕ, ◌+◌, ◌*◌, ◌/◌, ◌%◌, ◌^◌, ◌<◌, ◌≡◌, false, eqb}

unfoldable pub answer_number : (number kind first second : ℕ) → ℕ
answer_number number kind first second = number + 2 ^ 8 * kind + 2 ^ 16 * (first % 2 ^ 24) + 2 ^ 40 * (second % 2 ^ 24)

-- ---- what a caller takes out

unfoldable pub number_in : ℕ → ℕ
number_in a = a % 2 ^ 8

unfoldable pub kind_in : ℕ → ℕ
kind_in a = a / 2 ^ 8 % 2 ^ 8

unfoldable pub first_in : ℕ → ℕ
first_in a = a / 2 ^ 16 % 2 ^ 24

unfoldable pub second_in : ℕ → ℕ
second_in a = a / 2 ^ 40

pub record Says (answer number kind first second : ℕ) : Type 0 where
  pub number_is : number_in answer ≡ number
  pub kind_is : kind_in answer ≡ kind
  pub first_is : first_in answer ≡ first
  pub second_is : second_in answer ≡ second

-- a refusal, with its position or 0; its number is never 0, which is for none
abbrev pub SaysRefused : (answer number position : ℕ) → Type 0
SaysRefused answer number position = (eqb number 0 ≡ false) × Says answer number 0 position 0

-- ---- the promise (proofs/Answers.antt proves it; `packed` cites it)

-- what is packed is taken out again: a number and a kind of eight bits, and two numbers of 24
unfoldable pub UnpackingAnswer : Type 0
UnpackingAnswer =
    (number kind first second : ℕ) → number < 2 ^ 8 → kind < 2 ^ 8 → first < 2 ^ 24 → second < 2 ^ 24
    → Says (answer_number number kind first second) number kind first second
