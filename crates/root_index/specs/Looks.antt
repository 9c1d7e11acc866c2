-- What a look at a user's paths from the root still has to give: by file, and then by place.
use Rattle.std.specs.Prelude.{ℕ, ◌+◌, List, [], ◌++◌, map, drop, filter, Option, slice_get}
use Rattle.std.specs.Option.{option_map_or}
use Rattle.partial_path.specs.Rules.{Rule}
use Rattle.partial_path.specs.PathSets.{FileRules}
use Rattle.partial_path.specs.Starts.{rules_at}
use Rattle.partial_path.specs.Sources.{asks_rule, numbered, rules_after, rules_from}
use Rattle.version_tree.specs.Contents.{FileRow}
use Rattle.root_index.specs.declared.looks.RootLook.{RootLook}
use Rattle.root_index.specs.Roots.{root}
use Rattle.root_index.specs.Offers.{files_of}

-- those of a file's rules from the root, from a place on, that can be met with that symbol in front
abbrev pub asked_from : Option (List ℕ) → ℕ → List Rule → List Rule
asked_from first place rules = filter (asks_rule first) (drop place (rules_at root rules))

-- of the file where the look stands
abbrev pub look_here : List FileRules → Option (List ℕ) → RootLook → List (ℕ × Rule)
look_here files first at =
    option_map_or (λ (f : FileRules). map (numbered at.file) (asked_from first at.place f.rules)) (slice_get files at.file) []

-- of the files behind it
abbrev pub look_behind : List FileRules → Option (List ℕ) → RootLook → List (ℕ × Rule)
look_behind files first at = rules_after (at.file + 1) (drop (at.file + 1) files) root first

-- what a look that stands there still has to give of these files
abbrev pub look_left : List FileRules → Option (List ℕ) → RootLook → List (ℕ × Rule)
look_left files first at = look_here files first at ++ look_behind files first at

-- a look that stands at that place
abbrev pub look_at : ℕ → ℕ → RootLook
look_at file place = record { file = file; place = place }

-- the paths from the root of the files that a user sees that can be met with that symbol in front
abbrev pub roots_looked : List FileRow → Option (List ℕ) → List (ℕ × Rule)
roots_looked view first = rules_from (files_of view) root first
