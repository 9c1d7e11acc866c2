-- What a look-up in an index still has to offer to a user and a stack of symbols.
use Rattle.std.specs.Prelude.{ℕ, ◌+◌, List, [], ◌∷◌, map, drop, filter, Bool, Option, Some, None, if◌then◌else◌}
use Rattle.std.specs.List.{flat_map}
use Rattle.std.specs.Option.{option_map_or}
use Rattle.std.specs.Ordering.{is_eq}
use Rattle.stacks_vars.specs.declared.items.SymbolItem.{SymbolItem}
use Rattle.partial_path.specs.Rules.{Rule}
use Rattle.partial_path.specs.PathSets.{FileRules}
use Rattle.partial_path.specs.Sources.{numbered, stand_first, rules_offered}
use Rattle.version_tree.specs.Contents.{FileRow, path_cmp}
use Rattle.root_index.specs.declared.offers.RootOffers.{RootOffers}
use Rattle.root_index.specs.Roots.{RootPath, root, root_key}

-- the number of the first row with the path, of rows of which the first has that number
abbrev pub number_from : ℕ → List ℕ → List FileRow → Option ℕ
number_from n path [] = None
number_from n path (row ∷ rows) = if is_eq (path_cmp row.path path) then Some n else number_from (n + 1) path rows

-- the number of the file at the path among those that are seen, where it is seen
abbrev pub number_in : List FileRow → List ℕ → Option ℕ
number_in view path = number_from 0 path view

-- the path's rule with its file's number, where its file is seen
abbrev pub seen : List FileRow → RootPath → List (ℕ × Rule)
seen view p =
    option_map_or (λ (n : ℕ). option_map_or (λ (rule : Rule). numbered n rule ∷ []) p.rule []) (number_in view p.path) []

-- whether the texts of the first symbols that the path asks for are those of the stack's first symbols
abbrev pub asks : List SymbolItem → RootPath → Bool
asks symbols p = stand_first (root_key p) symbols

-- the paths that a look-up which stands there still meets, whoever may see them
abbrev pub paths_left : RootOffers → List SymbolItem → List RootPath → List RootPath
paths_left at symbols paths = filter (asks symbols) (drop at.place paths)

-- what it still has to offer to a user who sees these rows
abbrev pub offers_left : RootOffers → List SymbolItem → List FileRow → List RootPath → List (ℕ × Rule)
offers_left at symbols view paths = flat_map (seen view) (paths_left at symbols paths)

-- the files that are seen, by number
abbrev pub files_of : List FileRow → List FileRules
files_of rows = map (λ (row : FileRow). row.file) rows

-- the paths from the root of these rows that are offered to the symbols, by file and then by place
abbrev pub roots_offered : List FileRow → List SymbolItem → List (ℕ × Rule)
roots_offered view symbols = rules_offered (files_of view) root symbols
