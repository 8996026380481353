use Rattle.std.proofs.Common.{◌≡◌, ◌*◌, map, rules}
use Rattle.std.specs.List.{range_with_len}
use Rattle.std.proofs.lemmas.List.FromFn.{fill_by_all}
use Rattle.words.specs.Items.{items_from}
use Rattle.words.specs.ElementWords.{element_at, elements_in}
use Rattle.words.proofs.ElementLaws.{unpacking_elements, other_elements_length, large_element}
use Rattle.words.proofs.elements_words.elements_in.Goals as goal

pub returns : goal.returns
unfolding items_from elements_in
returns c =
    let words = c.args.words.now in
    let each : c.from_fn.result ≡ map (λ i. element_at words (4 * i)) (range_with_len 0 8) =
    fill_by_all (λ i. element_at words (4 * i)) c.from_fn.result 8 (element_at words 0) c.from_fn.ensures.items.long
    (λ k h. let y = c.from_fn.ensures.items.at k (element_at words 0) h in search (rules, y.2)) in
    record { answer = cc; unpacking = unpacking_elements; other_length = other_elements_length; large_element = large_element }
