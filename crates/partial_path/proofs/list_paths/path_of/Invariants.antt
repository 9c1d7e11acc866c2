use Rattle.std.proofs.Common.{◌≡◌, drop}
use Rattle.std.specs.Prelude.{slice_get, option_copied}
use Rattle.partial_path.specs.Sources.{rules_from, rules_after}
use Rattle.partial_path.proofs.list_paths.path_of.Given as goal

-- what is asked for among the rules of all files is what is left to ask for among those of the files left
abbrev pub invariant-loop-number : goal.invariant-loop-number
invariant-loop-number l =
    slice_get (rules_from l.files l.start (option_copied l.first)) l.fn.k
    ≡ slice_get (rules_after l.number (drop l.number l.files) l.start (option_copied l.first)) l.left
