use Rattle.std.proofs.Common.{drop}
use Rattle.partial_path.specs.Sources.{graphs_of}
use Rattle.partial_path.proofs.Asking.{IsLeft}
use Rattle.root_index.specs.Offers.{files_of}
use Rattle.end_index.proofs.Listed.{may_in}
use Rattle.end_index.proofs.listing.ending.Given as goal

-- what is asked for among all is what is left to ask for among those left
abbrev pub invariant-loop-place : goal.invariant-loop-place
invariant-loop-place l = IsLeft (may_in (graphs_of (files_of l.view)) l.spot l.file) l.paths (drop l.place l.paths) l.fn.left l.left
