-- The cases of words hold: the words compute, and a refusal's number is taken apart by division. Assumes nothing.
use Prim.Native.Nat.{ℕ, ◌+◌, ◌*◌, ◌^◌}
use mathlib.Core.Path.{◌≡◌, refl}
use native.Mathlib.Omega.{arith}
use borrow.Author.Tests.{ne_eqb, eqb-false}
use Rattle.words.specs.Answer.{number_in, kind_in, first_in, second_in, SaysRefused}
use Rattle.words.specs.Items.{words_of}
use Rattle.words.specs.RowWords.{row_words}
use Rattle.words.specs.WordCases.{WordCasesHold}

refusal_is : (answer n p : ℕ) → SaysRefused answer n p → answer ≡ n + 2 ^ 16 * p
unfolding number_in kind_in first_in second_in
refusal_is answer n p s =
    let a = s.1.number_is in
    let b = s.1.kind_is in
    let c = s.1.first_is in
    let d = s.1.second_is in
    omega (arith, a, b, c, d)

pub word_cases_hold : WordCasesHold
unfolding words_of row_words number_in kind_in first_in second_in
word_cases_hold = record {
  packed = refl;
  refused = λ n p h z l. (
    ne_eqb n 0 z,
    record {
      number_is = omega (arith, h, l);
      kind_is = omega (arith, h, l);
      first_is = omega (arith, h, l);
      second_is = omega (arith, h, l);
    },
  );
  only = λ answer n p s. (refusal_is answer n p s, eqb-false n 0 s.0);
}
