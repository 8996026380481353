-- The VST passes the writer.
-- Assumes nothing.
use Rattle.initialisation.specs.declared.hearing.Taken.{Taken}
use Rattle.initialisation.proofs.VstLaws.{Sendable, mark_ends, mark_part, sends}
use Rattle.initialisation.proofs.hearing.send.Goals as goal

pub slice_bounds-mark-end : goal.slice_bounds-mark-end
slice_bounds-mark-end c = mark_ends _ _ c.requires.1

pub returns : goal.returns
returns c =
    let t : Taken = record { profile = c.args.profile; element = c.args.element } in
    let can : Sendable c.args.marks.now t c.args.configuration = record { served = c.requires.0; sound = c.requires.1; ranges = c.requires.2 } in
    sends _ t _ can _ _ c.requires.3 c.vst_of-vst.ensures c.entry_of.ensures c.no_entries-entries.ensures (mark_part _ c.args.element) _ c.unwrap_or.ensures c.write.ensures.0 c.write.ensures.1
