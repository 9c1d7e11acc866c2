use Rattle.std.proofs.Common.{◌≡◌, ◌∷◌, drop}
use Rattle.std.specs.List.{list_any}
use Rattle.partial_path.specs.Runs.{after_cuts}
use Rattle.partial_path.specs.Same.{config_eq}
use Rattle.whole_search.proofs.open.has_met.Given as goal

abbrev pub invariant-loop-edge : goal.invariant-loop-edge
invariant-loop-edge l =
    list_any (config_eq l.at) (after_cuts l.files l.here (drop l.edge-index l.edges))
    ≡ list_any (config_eq l.at) (l.start ∷ after_cuts l.files l.start l.edges)
