use Rattle.directory.proofs.Looking.{too_many}
use Rattle.directory.proofs.sound_in.Goals as goal

pub returns-in-None : goal.returns-in-None
returns-in-None c = too_many _ _ c.args.d c.in-None.ensures
