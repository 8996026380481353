-- `bench_lines::recording::has_form` meets its contract: its tests are those of the form, in their order. Assumes nothing.
use mathlib.Core.Path.{◌≡◌, ◌∙◌}
use Prim.Native.Nat.{◌≤◌, ◌<◌}
use lib.ListN.{length}
use Rattle.std.proofs.Common.{arith}
use Rattle.std.proofs.lemmas.Bool.Decides.{nat_tests}
use Rattle.bench_lines.specs.Line.{before}
use Rattle.bench_lines.proofs.Form.{too_long, no_lid, cut_short, fields_form}
use Rattle.bench_lines.proofs.recording.has_form.Goals as goal

pub returns-then-line-gt-LONGEST_LINE : goal.returns-then-line-gt-LONGEST_LINE
returns-then-line-gt-LONGEST_LINE c = grind (arith, nat_tests, too_long, no_lid)

pub returns-then-second-line : goal.returns-then-second-line
returns-then-second-line c =
    let short : length c.args.line.now ≤ 600 = grind (arith, nat_tests) in
    let seven : before 32 c.args.line.now ≡ 7 = grind (arith, nat_tests) in
    let inside : c.find-second.result < length c.args.line.now = grind (arith, nat_tests) in
    c.are_fields.ensures ∙ fields_form c.args.line.now short seven c.find-second.ensures inside

pub returns-else-second-line : goal.returns-else-second-line
returns-else-second-line c = grind (arith, nat_tests, too_long, no_lid, cut_short)
