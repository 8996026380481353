-- With mode 0 no reply.
use Rattle.std.proofs.Common.{◌≡◌, ◌∙◌, take}
use lib.Dec.{eqb}
use Rattle.refusals.specs.Check.{pick}
use Rattle.directory.specs.Gathered.{list_of}
use Rattle.attributes.specs.Inside.{status_of}
use Rattle.attributes.specs.Serving.{set_rows}
use Rattle.attributes.proofs.Outcomes.{set_silent, set_replied, all_written, none_written}
use Rattle.attributes.proofs.setting.set.Goals as goal
use Rattle.attributes.proofs.setting.set.Goals.{then-is_ok, else-is_ok}

pub returns-then-not-m : goal.returns-then-not-m
returns-then-not-m c =
    let a = c.args in
    let r = c.check_set-checked.result in
    let ok = c.is_ok.ensures.value in
    let written : c.if-is_ok.writable ≡ pick (eqb (status_of r) 0) (set_rows a.s.now (list_of a.d) (take a.m.count a.attributes) a.writable.now) a.writable.now =
    elim c.if-is_ok.branch [
      | then-is_ok v ↦ v.writable-is ∙ v.set_rows.ensures ∙ all_written r ok v.if-is_ok.true _ _
      | else-is_ok v ↦ v.writable-is ∙ none_written r ok v.if-is_ok.false _ _
    ] in
    set_silent _ _ _ _ _ _ _ _ c.check_set-checked.ensures written c.if-not-m.true

pub returns : goal.returns
returns c =
    let a = c.args in
    let r = c.check_set-checked.result in
    let ok = c.is_ok.ensures.value in
    let written : c.if-is_ok.writable ≡ pick (eqb (status_of r) 0) (set_rows a.s.now (list_of a.d) (take a.m.count a.attributes) a.writable.now) a.writable.now =
    elim c.if-is_ok.branch [
      | then-is_ok v ↦ v.writable-is ∙ v.set_rows.ensures ∙ all_written r ok v.if-is_ok.true _ _
      | else-is_ok v ↦ v.writable-is ∙ none_written r ok v.if-is_ok.false _ _
    ] in
    set_replied _ _ _ _ _ _ _ _ c.check_set-checked.ensures written c.if-not-m.false c.send_status.ensures
