use Rattle.std.proofs.Common.{◌≡◌, ◌++◌, drop}
use Rattle.nav_answers.specs.Asking.{references_from}
use Rattle.nav_answers.specs.Sources.{graphs_seen}
use Rattle.nav_answers.proofs.listing.all_references.Given as goal

-- those that are listed and those of the files left are all
abbrev pub invariant-loop-number : goal.invariant-loop-number
invariant-loop-number l =
    l.all.items ++ references_from l.number (drop l.number (graphs_seen l.view)) ≡ references_from 0 (graphs_seen l.view)
