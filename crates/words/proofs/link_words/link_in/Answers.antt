-- `words::link_words::link_in` meets its contract. Assumes nothing.
use Rattle.words.specs.LinkWords.{link_in}
use Rattle.words.proofs.LinkLaws.{unpacking_link, other_link_length, other_phase, first_link}
use Rattle.words.proofs.link_words.link_in.Goals as goal

pub returns : goal.returns
unfolding link_in
returns c = record { answer = cc; unpacking = unpacking_link; other_length = other_link_length; other_phase = other_phase; first_state = first_link }
