use Rattle.std.proofs.Common.{◌≡◌, ◌-◌}
use Rattle.py_subset.specs.Parsers.{both, star, ◌▹◌}
use Rattle.py_subset.specs.Parsing.{is}
use Rattle.py_subset.specs.Trees.{cons}
use Rattle.py_subset.proofs.Prefix.{with_front}
use Rattle.py_subset.proofs.lists.parts.Given as goal

abbrev pub invariant-loop-turn : goal.invariant-loop-turn
invariant-loop-turn g l =
    with_front l.list (star (is l.between) (l.between ▹ g.T.Part.rule l.turns) (l.turns - l._turn) l.tokens)
    ≡ both cons (g.T.Part.rule l.turns) (star (is l.between) (l.between ▹ g.T.Part.rule l.turns) l.turns) l.fn.tokens
