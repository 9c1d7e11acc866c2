-- What a source that goes over all paths of its files still gives.
use Rattle.std.specs.Prelude.{ℕ, ◌+◌, List, [], ◌++◌, map, filter, drop, Bool, slice_get}
use Rattle.std.specs.Option.{option_map_or}
use Rattle.stacks_vars.specs.declared.patterns.SymPat.{SymPat}
use Rattle.partial_path.specs.declared.config.Spot.{Spot}
use Rattle.partial_path.specs.Rules.{Rule}
use Rattle.partial_path.specs.Moved.{moved}
use Rattle.partial_path.specs.PathSets.{FileRules}
use Rattle.partial_path.specs.Sources.{graphs_of, numbered}
use Rattle.back_stitch.specs.declared.plain.PlainEnds.{PlainEnds}
use Rattle.back_stitch.specs.Sources.{may_end_at, rules_to_after, agrees}

-- whether a path of the file with that number may end there
abbrev pub ends_in : List FileRules → Spot → ℕ → Rule → Bool
ends_in files spot number rule = may_end_at (graphs_of files) spot (moved number rule)

-- of the file where the look-up stands
abbrev pub ends_here : List FileRules → PlainEnds → List (ℕ × Rule)
ends_here files at =
    option_map_or (λ (f : FileRules). map (numbered at.file) (filter (ends_in files at.spot at.file) (drop at.place f.rules))) (slice_get files at.file) []

-- and of those behind it
abbrev pub ends_left : List FileRules → PlainEnds → List (ℕ × Rule)
ends_left files at = ends_here files at ++ rules_to_after (graphs_of files) (at.file + 1) (drop (at.file + 1) files) at.spot

-- whether the path makes what is asked for, as far as both go
abbrev pub makes : List SymPat → ℕ × Rule → Bool
makes symbols p = agrees symbols p.1.post.symbols

-- of all that are left those that make what is asked for
abbrev pub agreed_left : List FileRules → List SymPat → PlainEnds → List (ℕ × Rule)
agreed_left files symbols at = filter (makes symbols) (ends_left files at)
