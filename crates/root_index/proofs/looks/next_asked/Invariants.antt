use Rattle.std.proofs.Common.{◌≡◌, drop}
use Rattle.std.specs.Prelude.{filter, option_copied}
use Rattle.partial_path.specs.Sources.{asks_rule}
use Rattle.root_index.proofs.looks.next_asked.Given as goal

-- those passed can't be met
abbrev pub invariant-loop-i : goal.invariant-loop-i
invariant-loop-i l = filter (asks_rule (option_copied l.symbol)) (drop l.fn.place l.paths) ≡ filter (asks_rule (option_copied l.symbol)) (drop l.i l.paths)
