-- Past the end `set` changes nothing.
use native.Mathlib.Omega.{arith}
use mathlib.Core.Path.{sym}
use lib.Seq.{set_out}
use Rattle.words.proofs.word.put.Goals as goal

pub returns-else-i-words : goal.returns-else-i-words
returns-else-i-words c = sym (set_out c.args.words.now c.args.i c.args.x (omega arith))
