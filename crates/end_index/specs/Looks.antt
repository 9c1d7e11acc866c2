-- What a look-up by where paths end still has to give.
use Rattle.std.specs.Prelude.{ℕ, List, [], ◌∷◌, ◌++◌, map, drop, filter, Bool, false, Option, IsSome, slice_get}
use Rattle.std.specs.List.{flat_map}
use Rattle.std.specs.Option.{option_map_or, option_and_then}
use Rattle.list_facts.specs.Members.{IsIn}
use Rattle.stacks_vars.specs.declared.scopes.NodeAt.{NodeAt}
use Rattle.partial_path.specs.declared.config.Spot.{Spot}
use Rattle.partial_path.specs.declared.config.Spot.TheVariants as spot
use Rattle.partial_path.specs.declared.rule.End.{End}
use Rattle.partial_path.specs.declared.rule.End.TheVariants as end
use Rattle.partial_path.specs.Rules.{Rule}
use Rattle.partial_path.specs.Same.{spot_eq}
use Rattle.partial_path.specs.Moved.{moved}
use Rattle.partial_path.specs.PathSets.{FileRules}
use Rattle.partial_path.specs.Sources.{numbered}
use Rattle.version_tree.specs.Contents.{FileRow}
use Rattle.end_index.specs.declared.place.EndPlace.{EndPlace}
use Rattle.end_index.specs.declared.runs.EndRuns.{EndRuns}
use Rattle.end_index.specs.declared.source.EndLook.{EndLook}
use Rattle.end_index.specs.declared.source.EndLook.TheVariants.{Inside, Root, Stack}
use Rattle.end_index.specs.Ends.{Ends}
use Rattle.end_index.specs.Runs.{shares_left}

-- whether a path with this end that makes these scopes ends at the spot, whatever the stack
abbrev pub ends_there : Spot → End → List NodeAt → Bool
ends_there at (end.At there) made = spot_eq there at
ends_there at end.ByStack (scope ∷ made) = spot_eq (spot.At scope) at
ends_there at end.ByStack [] = false

-- the same of a path of the file with that number, moved there
abbrev pub ends_inside : Spot → ℕ → Rule → Bool
ends_inside at file rule = ends_there at (moved file rule).end (moved file rule).post.scopes.scopes

-- the paths of the node's file, from a place on, that end at the node whatever the stack
abbrev pub inside_in : NodeAt → ℕ → FileRules → List (ℕ × Rule)
inside_in node place f = map (numbered node.file) (filter (ends_inside (spot.At node) node.file) (drop place f.rules))

abbrev pub inside_left : List FileRules → NodeAt → ℕ → List (ℕ × Rule)
inside_left files node place = option_map_or (inside_in node place) (slice_get files node.file) []

-- the rule of an index's path, where it is there, and with its file's number
abbrev pub rule_in : List FileRules → EndPlace → Option Rule
rule_in files p = option_and_then (λ (f : FileRules). slice_get f.rules p.place) (slice_get files p.file)

abbrev pub rules_of : List FileRules → EndPlace → List (ℕ × Rule)
rules_of files p = option_map_or (λ (rule : Rule). numbered p.file rule ∷ []) (rule_in files p) []

-- each of the paths is there
abbrev pub AreThere : List FileRules → List EndPlace → Type 0
AreThere files places = (p : EndPlace) → IsIn p places → IsSome (rule_in files p)

-- what is left of such paths for these texts
abbrev pub outside_left : List FileRules → List (List ℕ) → List (List EndPlace) → EndRuns → List (ℕ × Rule)
outside_left files asked shares at = flat_map (rules_of files) (shares_left asked at shares)

-- what a look-up of these texts that stands there still has to give
abbrev pub ends_left : List FileRules → List (List ℕ) → Ends → EndLook → List (ℕ × Rule)
ends_left files asked ends (Inside node place stack) = inside_left files node place ++ outside_left files asked ends.stack.shares stack
ends_left files asked ends (Root at) = outside_left files asked ends.root.shares at
ends_left files asked ends (Stack at) = outside_left files asked ends.stack.shares at

-- what is seen, with its index
pub record Seen : Type 0 where
  pub rows : List FileRow
  pub ends : Ends

abbrev pub seen_of : List FileRow → Ends → Seen
seen_of rows ends = record { rows = rows; ends = ends }
