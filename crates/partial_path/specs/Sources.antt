-- What a source of partial paths holds: the path sets of a list of files, from which rules are asked for by
-- their start and by the symbol in front of the stack, or by the first symbols of the stack.
use Rattle.std.specs.Prelude.{ℕ, ◌+◌, List, [], ◌∷◌, ◌++◌, map, filter, Bool, true, false, ◌&&◌, Option, Some, None}
use Rattle.std.specs.Str.{bytes_eq}
use Rattle.graph_nodes.specs.Graph.{Graph}
use Rattle.graph_nodes.specs.Checked.{IsChecked}
use Rattle.stacks_vars.specs.declared.items.SymbolItem.{SymbolItem}
use Rattle.stacks_vars.specs.declared.patterns.SymPat.{SymPat}
use Rattle.partial_path.specs.declared.rule.Start.{Start}
use Rattle.partial_path.specs.Rules.{Rule}
use Rattle.partial_path.specs.Moved.{moved_start}
use Rattle.partial_path.specs.Starts.{start_eq, begins_at}
use Rattle.partial_path.specs.Keys.{key}
use Rattle.partial_path.specs.PathSets.{FileRules, AreFileRules}

-- a file of a source: a checked graph, with its path set and its weight
pub record IsSourceFile (file : FileRules) : Type 0 where
  pub sets : AreFileRules file
  pub checked : IsChecked file.graph

-- the graphs of the files, by number
abbrev pub graphs_of : List FileRules → List Graph
graphs_of files = map (λ (f : FileRules). f.graph) files

-- whether these symbols can be met by a stack with that symbol in front, or by an empty one, as far as the
-- text of the first symbol tells
abbrev pub asks_first : Option (List ℕ) → List SymPat → Bool
asks_first first [] = true
asks_first None (pat ∷ pats) = false
asks_first (Some symbol) (pat ∷ pats) = bytes_eq symbol pat.symbol

-- whether the rule can be met with that symbol in front
abbrev pub asks_rule : Option (List ℕ) → Rule → Bool
asks_rule first rule = asks_first first rule.pre.symbols

-- whether the rule of the file with that number, moved there, begins at the start
abbrev pub begins_in : ℕ → Start → Rule → Bool
begins_in file start rule = start_eq (moved_start file rule.start) start

-- whether the rule begins there and can be met with that symbol in front
abbrev pub is_asked : ℕ → Start → Option (List ℕ) → Rule → Bool
is_asked file start first rule = begins_in file start rule && asks_rule first rule

-- the rule with its file's number
abbrev pub numbered : ℕ → Rule → ℕ × Rule
numbered file rule = (file, rule)

-- the rules that are asked for, each with its file's number, of a file with that number
abbrev pub rules_in : ℕ → FileRules → Start → Option (List ℕ) → List (ℕ × Rule)
rules_in file f start first = map (numbered file) (filter (is_asked file start first) f.rules)

-- the same of files of which the first has that number
abbrev pub rules_after : ℕ → List FileRules → Start → Option (List ℕ) → List (ℕ × Rule)
rules_after file [] start first = []
rules_after file (f ∷ files) start first = rules_in file f start first ++ rules_after (file + 1) files start first

-- the rules that are asked for, by file and then by place
abbrev pub rules_from : List FileRules → Start → Option (List ℕ) → List (ℕ × Rule)
rules_from files start first = rules_after 0 files start first

-- whether these are the texts of the first symbols, one by one
abbrev pub stand_first : List (List ℕ) → List SymbolItem → Bool
stand_first [] symbols = true
stand_first (text ∷ asked) [] = false
stand_first (text ∷ asked) (item ∷ symbols) = bytes_eq text item.symbol && stand_first asked symbols

-- whether the rule begins there, and the first symbols that it asks for have the texts of the stack's first
-- symbols, one by one
abbrev pub is_offered : Start → List SymbolItem → Rule → Bool
is_offered start symbols rule = begins_at start rule && stand_first (key rule) symbols

-- the same of the rule of the file with that number, moved there
abbrev pub is_offered_in : ℕ → Start → List SymbolItem → Rule → Bool
is_offered_in file start symbols rule = begins_in file start rule && stand_first (key rule) symbols

-- the rules that are offered, each with its file's number, of a file with that number
abbrev pub rules_offered_in : ℕ → FileRules → Start → List SymbolItem → List (ℕ × Rule)
rules_offered_in file f start symbols = map (numbered file) (filter (is_offered_in file start symbols) f.rules)

-- the same of files of which the first has that number
abbrev pub rules_offered_after : ℕ → List FileRules → Start → List SymbolItem → List (ℕ × Rule)
rules_offered_after file [] start symbols = []
rules_offered_after file (f ∷ files) start symbols =
    rules_offered_in file f start symbols ++ rules_offered_after (file + 1) files start symbols

-- the rules that are offered at a start with these symbols on the stack, by file and then by place
abbrev pub rules_offered : List FileRules → Start → List SymbolItem → List (ℕ × Rule)
rules_offered files start symbols = rules_offered_after 0 files start symbols
