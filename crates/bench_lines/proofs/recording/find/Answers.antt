-- `bench_lines::recording::find` meets its contract: the definition is the place that the search finds. Assumes nothing.
use mathlib.Core.Path.{refl, ap, ◌∙◌}
use Prim.Native.Nat.{ℕ, ◌+◌}
use lib.Dec.{eqb}
use Rattle.std.proofs.Common.{rules, tests}
use Rattle.std.proofs.lemmas.Iterator.{YieldsList-from_slice}
use Rattle.std.proofs.lemmas.Iterator.Search.{position_from_yields_List}
use Rattle.bench_lines.specs.Line.{before}
use Rattle.bench_lines.proofs.Marks.{found, rest_from}
use Rattle.bench_lines.proofs.recording.find.Goals as goal

pub returns : goal.returns
returns c =
    let rest = c.unwrap_or-rest.result.now in
    let mark = c.args.mark in
    ap (λ (n : ℕ). c.args.from + n)
    (c.unwrap_or.ensures
    ∙ found mark rest (position_from_yields_List (λ x. eqb x mark) _ _ c.position.result c.position.ensures.ran (YieldsList-from_slice rest c.iter.ensures.rest) (λ x b q k. search (rules, tests)))
    ∙ ap (before mark) (ap (λ x. x.now) c.unwrap_or-rest.ensures ∙ rest_from _ _ _ _ refl c.get.ensures.lookup.0))
