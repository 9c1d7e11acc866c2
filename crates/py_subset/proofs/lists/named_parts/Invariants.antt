use Rattle.std.proofs.Common.{◌≡◌, ◌-◌}
use Rattle.py_subset.specs.declared.token.Mark.TheVariants as m
use Rattle.py_subset.specs.Parsers.{further, several}
use Rattle.py_subset.specs.Parsing.{is}
use Rattle.py_subset.proofs.Prefix.{with_front_flag}
use Rattle.py_subset.proofs.lists.named_parts.Given as goal

abbrev pub invariant-loop-turn : goal.invariant-loop-turn
invariant-loop-turn g l =
    with_front_flag l.list (further (is m.Name) (g.T.Part.rule l.turns) (l.turns - l._turn) l.tokens)
    ≡ several (is m.Name) (g.T.Part.rule l.turns) l.turns l.fn.tokens
