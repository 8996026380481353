-- What is packed into an answer is taken out of it again. Assumes nothing.
use native.Mathlib.Omega.{arith}
use Rattle.words.specs.Answer.{answer_number, number_in, kind_in, first_in, second_in, UnpackingAnswer}

pub unpacking_answer : UnpackingAnswer
unfolding UnpackingAnswer answer_number number_in kind_in first_in second_in
unpacking_answer number kind first second n k f s = record {
  number_is = omega (arith, n);
  kind_is = omega (arith, n, k);
  first_is = omega (arith, n, k, f);
  second_is = omega (arith, n, k, s);
}
