-- `bench_lines::digits::are_digits` meets its contract: the definition is the test of each character. Assumes nothing.
use mathlib.Core.Path.{◌∙◌}
use lib.Dec.{ltb}
use Rattle.std.proofs.Common.{rules, tests}
use Rattle.std.proofs.lemmas.Iterator.{YieldsList-from_slice}
use Rattle.std.proofs.lemmas.Iterator.Search.{all_from_yields_List}
use Rattle.bench_lines.specs.Numerals.{digit_value}
use Rattle.bench_lines.proofs.Spelling.{digits_all_of}
use Rattle.bench_lines.proofs.digits.are_digits.Goals as goal

pub returns : goal.returns
returns c =
    all_from_yields_List (λ x. ltb (digit_value x) c.args.base) _ _ _ c.all.ensures.ran (YieldsList-from_slice c.args.s.now c.iter.ensures.rest) (λ x b q k. search (rules, tests))
    ∙ digits_all_of c.args.base c.args.s.now
