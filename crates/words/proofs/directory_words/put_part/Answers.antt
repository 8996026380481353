use native.Mathlib.Omega.{arith}
use mathlib.Core.Path.{◌≡◌, ◌∙◌}
use Rattle.words.proofs.RowLaws.{part_none, part_some, part_put, area_is}
use Rattle.words.specs.RowWords.{part_words, area_word}
use Rattle.words.proofs.directory_words.put_part.Goals as goal

pub returns-then-part-lt-PART_WORDS : goal.returns-then-part-lt-PART_WORDS
returns-then-part-lt-PART_WORDS c = record { answer = part_none _ _ c.if-part-lt-PART_WORDS.true; part = part_put }

pub returns : goal.returns
unfolding part_words
returns c =
    let area : c.from.result ≡ area_word c.args.row.writable = c.from.ensures ∙ area_is c.args.row.writable in
    record { answer = part_some _ _ (omega arith) (cc); part = part_put }
