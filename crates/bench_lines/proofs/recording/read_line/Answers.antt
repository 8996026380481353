-- `bench_lines::recording::read_line` meets its contract: the form tells where its fields stand, and that they fit; that a printed line reads back is a law of
-- the definitions.
-- Assumes nothing.
use native.Mathlib.Omega.{arith}
use mathlib.Core.Path.{◌≡◌, refl, sym, ◌∙◌}
use mathlib.Core.Bool.{false}
use Prim.Native.Nat.{◌<◌}
use lib.ListN.{length}
use Rattle.std.proofs.Common.{Some, rules}
use Rattle.bench_lines.specs.Numerals.{spelled}
use Rattle.bench_lines.specs.Line.{lid_text, tick_text, has_form, read_line, lsdu_after}
use Rattle.bench_lines.proofs.Reading.{facts, part_fits, part_placed, lid_some, tick_some, buffer_too_short, whole_line}
use Rattle.bench_lines.proofs.RoundTrip.{reading_printed}
use Rattle.bench_lines.proofs.recording.read_line.Goals as goal

pub returns-then-not-has_form-clause-answer : goal.returns-then-not-has_form-clause-answer
unfolding read_line lsdu_after
returns-then-not-has_form-clause-answer c =
    let h : has_form c.args.line.now ≡ false = sym c.has_form.ensures ∙ c.if-not-has_form.true in
    (simp h, refl)

pub returns-then-not-has_form-clause-printed : goal.returns-then-not-has_form-clause-printed
returns-then-not-has_form-clause-printed c = reading_printed

pub overflow_sub-octets : goal.overflow_sub-octets
overflow_sub-octets c = omega (arith, (facts _ c.has_form.ensures c.if-not-has_form.false c.find-second.ensures).inside)

pub overflow_sub-octets-2 : goal.overflow_sub-octets-2
overflow_sub-octets-2 c = omega (arith, (facts _ c.has_form.ensures c.if-not-has_form.false c.find-second.ensures).inside)

pub returns-then-lsdu-octets-clause-answer : goal.returns-then-lsdu-octets-clause-answer
unfolding lsdu_after
returns-then-lsdu-octets-clause-answer c = (buffer_too_short _ c.has_form.ensures c.if-not-has_form.false c.find-second.ensures _ (omega arith), refl)

pub returns-then-lsdu-octets-clause-printed : goal.returns-then-lsdu-octets-clause-printed
returns-then-lsdu-octets-clause-printed c = reading_printed

pub slice_bounds-number_of-end : goal.slice_bounds-number_of-end
slice_bounds-number_of-end c =
    let i : c.find-second.result < length c.args.line.now = (facts _ c.has_form.ensures c.if-not-has_form.false c.find-second.ensures).inside in
    search rules

pub unwrap-lid-requires : goal.unwrap-lid-requires
unwrap-lid-requires c = rw (c.number_of.ensures, lid_some _ c.has_form.ensures c.if-not-has_form.false c.find-second.ensures) (search rules)

pub slice_bounds-number_of-end-2 : goal.slice_bounds-number_of-end-2
slice_bounds-number_of-end-2 c = omega (arith, (facts _ c.has_form.ensures c.if-not-has_form.false c.find-second.ensures).inside)

pub unwrap-tick-requires : goal.unwrap-tick-requires
unwrap-tick-requires c = rw (c.number_of-2.ensures, tick_some _ c.has_form.ensures c.if-not-has_form.false c.find-second.ensures) (search rules)

pub slice_bounds-put_octets-count : goal.slice_bounds-put_octets-count
slice_bounds-put_octets-count c = omega (arith, (facts _ c.has_form.ensures c.if-not-has_form.false c.find-second.ensures).inside)

pub slice_bounds-put_octets-start : goal.slice_bounds-put_octets-start
slice_bounds-put_octets-start c = omega (arith, (facts _ c.has_form.ensures c.if-not-has_form.false c.find-second.ensures).inside)

pub put_octets-requires : goal.put_octets-requires
put_octets-requires c = part_fits _ c.has_form.ensures c.if-not-has_form.false c.find-second.ensures _ (omega arith)

pub returns-clause-answer : goal.returns-clause-answer
unfolding lsdu_after
returns-clause-answer c =
    let s = c.args.line.now in
    let l : Some c.unwrap-lid.result ≡ Some (spelled 16 (lid_text s)) =
    sym c.unwrap-lid.ensures ∙ c.number_of.ensures ∙ lid_some _ c.has_form.ensures c.if-not-has_form.false c.find-second.ensures in
    let t : Some c.unwrap-tick.result ≡ Some (spelled 10 (tick_text s)) =
    sym c.unwrap-tick.ensures ∙ c.number_of-2.ensures ∙ tick_some _ c.has_form.ensures c.if-not-has_form.false c.find-second.ensures in (
      whole_line _ c.has_form.ensures c.if-not-has_form.false c.find-second.ensures _ (cc) (cc) (omega arith),
      part_placed _ c.has_form.ensures c.if-not-has_form.false c.find-second.ensures _ c.put_octets.ensures,
    )

pub returns-clause-printed : goal.returns-clause-printed
returns-clause-printed c = reading_printed
