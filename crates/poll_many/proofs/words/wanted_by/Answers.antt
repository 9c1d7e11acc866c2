-- By how many words there are.
use Rattle.poll_many.proofs.WordLists.{three_words, too_few_words, too_many_words}
use Rattle.poll_many.proofs.words.wanted_by.Goals as goal

pub returns-in-len3-clause-words : goal.returns-in-len3-clause-words
returns-in-len3-clause-words g =
    rw (
      g.wanted_of.ensures.wanted,
      g.number_of.ensures,
      g.number_of-in-len3.ensures,
      g.number_of-in-len3-2.ensures,
      g.as_str.ensures.value,
      g.as_str-in-len3.ensures.value,
      g.as_str-in-len3-2.ensures.value,
    )
    (three_words g.args.words.now g.port-item.result g.connections-item.result g.seats-item.result g.in-len3.len_at_least g.in-len3.len_below
    g.port-item.is g.connections-item.is g.seats-item.is)

pub returns-in_default-clause-words : goal.returns-in_default-clause-words
returns-in_default-clause-words g = too_few_words g.args.words.now g.in_default.len_below

pub returns-in_default-2-clause-words : goal.returns-in_default-2-clause-words
returns-in_default-2-clause-words g = too_many_words g.args.words.now g.in_default.len_at_least
