use Rattle.std.proofs.Common.{drop}
use Rattle.std.specs.Prelude.{option_copied}
use Rattle.partial_path.specs.Sources.{asks_rule}
use Rattle.partial_path.proofs.Asking.{IsLeft}
use Rattle.partial_path.proofs.list_paths.asked.Given as goal

-- what is asked for among all is what is left to ask for among those left
abbrev pub invariant-loop-place : goal.invariant-loop-place
invariant-loop-place l = IsLeft (asks_rule (option_copied l.first)) l.run (drop l.place l.run) l.fn.left l.left
