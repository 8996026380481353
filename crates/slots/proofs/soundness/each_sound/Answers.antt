-- `all` tests every slot.
use Rattle.std.proofs.Common.{◌∙◌, rules}
use borrow.Author.Tests.{tests}
use Rattle.std.proofs.lemmas.Iterator.{YieldsList-from_slice}
use Rattle.std.proofs.lemmas.Iterator.Search.{all_from_yields_List}
use Rattle.slots.specs.Model.{sound_slot}
use Rattle.slots.proofs.SoundLaws.{all_is}
use Rattle.slots.proofs.soundness.each_sound.Goals as goal

pub returns : goal.returns
returns c =
    all_from_yields_List sound_slot _ _ _ c.all.ensures.ran (YieldsList-from_slice c.args.slots cc) (λ x b q k. search (rules, tests))
    ∙ all_is c.args.slots
