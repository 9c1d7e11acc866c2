use Rattle.std.proofs.Common.{◌≡◌}
use Rattle.std.specs.Prelude.{slice_get, option_copied}
use Rattle.root_index.specs.Looks.{look_left}
use Rattle.root_index.specs.Offers.{files_of}
use Rattle.root_index.specs.Roots.{root}
use Rattle.partial_path.specs.Sources.{rules_from}
use Rattle.nav_answers.proofs.source.path_of_root.Given as goal

-- what is asked for among all is what is left to ask for among those left
abbrev pub invariant-loop-found : goal.invariant-loop-found
invariant-loop-found l =
    slice_get (rules_from (files_of l.view) root (option_copied l.first)) l.k ≡ slice_get (look_left (files_of l.view) (option_copied l.first) l.at) l.left

abbrev pub decreases-loop-found : goal.decreases-loop-found
decreases-loop-found l = l.left
