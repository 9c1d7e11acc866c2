use Rattle.std.proofs.Common.{◌≡◌, drop}
use Rattle.std.specs.Prelude.{slice_get}
use Rattle.partial_path.specs.Sources.{graphs_of}
use Rattle.root_index.specs.Offers.{files_of}
use Rattle.back_stitch.specs.Sources.{rules_to, rules_to_after}
use Rattle.end_index.proofs.listing.path_to.Given as goal

-- what is asked for among the rules of all files is what is left to ask for among those of the files left
abbrev pub invariant-loop-file : goal.invariant-loop-file
invariant-loop-file l =
    slice_get (rules_to (files_of l.view) l.spot) l.fn.k ≡ slice_get (rules_to_after (graphs_of (files_of l.view)) l.file (drop l.file (files_of l.view)) l.spot) l.left
