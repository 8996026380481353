-- Its fields, one behind the other.
-- Assumes nothing.
use mathlib.Core.Path.{ap, ◌∙◌}
use mathlib.Core.List.{◌++◌}
use lib.ListN.{take, drop}
use Rattle.apdu.specs.Values.{rows_of}
use Rattle.apdu_text.specs.Words.{optional_is}
use Rattle.apdu_text.specs.Parts.{when, entry_list}
use Rattle.apdu_text.specs.MessageText.{bst_text}
use Rattle.apdu_text.specs.Ink.{Writes}
use Rattle.apdu_text.proofs.Inking.{writes_at, writes_then, when_there, when_absent}
use Rattle.apdu_text.proofs.Applications.{few_left, entries_as}
use Rattle.apdu_text.proofs.pen.Pen.bst.Goals as goal
use Rattle.apdu_text.proofs.pen.Pen.bst.Goals.{then-m, else-m}

pub entries-requires : goal.entries-requires
entries-requires c = few_left _ _ c.requires c.entries-rest.ensures.1

pub returns : goal.returns
unfolding bst_text
returns c =
    let a = c.args in
    let t = rw c.front-mandatory.ensures at c.entries-rest.ensures in
    let others : Writes (when a.m.has_others (optional_is ++ entry_list a.s.now (take a.m.others (drop a.m.mandatory a.entries.now)) (drop (rows_of (take a.m.mandatory a.entries.now)) a.rows.now))) c.entries-rest.new.self c.if-m.self =
    elim c.if-m.branch [
      | then-m w ↦ writes_at w.self-is (when_there _ w.if-m.true (entries_as optional_is a.s.now (w.front-others.ensures ∙ ap (take a.m.others) w.behind.ensures) t.1 w.entries.ensures.0))
      | else-m w ↦ writes_at w.self-is (when_absent _ _ w.if-m.false)
    ] in
    writes_then c.number.ensures (writes_then c.number-2.ensures (writes_then c.number-3.ensures (writes_then c.number-4.ensures (writes_then t.0 (writes_then others c.list.ensures)))))
