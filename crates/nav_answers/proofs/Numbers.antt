-- The number of a file at a path, and the graphs of files.
use Rattle.std.proofs.Common.{◌≡◌, refl, sym, ◌∙◌, ap, ℕ, ◌+◌, ◌<◌, List, [], ◌∷◌, length, Bool, false, cond, Option, Some, None, slice_get, MatchOption, IfSome}
use Rattle.std.specs.List.{position_from}
use Rattle.std.specs.Option.{option_map}
use Rattle.std.specs.Ordering.{is_eq}
use Rattle.std.proofs.lemmas.Option.{slice_get-map}
use Rattle.partial_path.specs.PathSets.{FileRules}
use Rattle.partial_path.specs.Sources.{graphs_of}
use Rattle.version_tree.specs.Contents.{FileRow, path_cmp, IsInOrder, has_path}
use Rattle.version_tree.specs.Views.{path_at, file_at}
use Rattle.version_tree.specs.Graphs.{GraphRow, row_graph, graph_rows}
use Rattle.root_index.specs.Offers.{files_of, number_from}
use Rattle.root_index.proofs.Seen.{number_is as number_found, path_within}
use Rattle.nav_answers.specs.Replies.{graphs_in, number_of}
use Rattle.nav_answers.specs.Sources.{graphs_seen}

-- whether the row has the path
abbrev at_path : List ℕ → GraphRow → Bool
at_path path row = is_eq (path_cmp row.path path)

-- a path has one number, by the rows and by their graphs
same_number : (n : ℕ) (path : List ℕ) (rows : List FileRow) → number_from n path rows ≡ position_from (at_path path) n (graph_rows rows)
same_number n path [] = refl
same_number n path (row ∷ rows) = ap (λ found. cond (at_path path (row_graph row)) (Some n) found) (same_number (n + 1) path rows)

-- what is found by halving
pub number_is : (view : List FileRow) (path : List ℕ) (found : Option ℕ) → IsInOrder view
    → MatchOption found (has_path path view ≡ false) (λ n. path_at view n ≡ Some path) → found ≡ number_of path (graph_rows view)
number_is view path found order e = number_found view path found order e ∙ same_number 0 path view

pub number_within : (view : List FileRow) (path : List ℕ) (found : Option ℕ)
    → MatchOption found (has_path path view ≡ false) (λ n. path_at view n ≡ Some path) → IfSome found (λ n. n < length view)
number_within view path None e = tt
number_within view path (Some n) e = path_within view n path e

-- the file at a number
pub file_there : (view : List FileRow) (n : ℕ) → file_at view n ≡ slice_get (files_of view) n
file_there view n = sym (slice_get-map (λ (row : FileRow). row.file) view n)

pub graph_there : (files : List FileRules) (n : ℕ) → slice_get (graphs_of files) n ≡ option_map (λ (f : FileRules). f.graph) (slice_get files n)
graph_there files n = slice_get-map (λ (f : FileRules). f.graph) files n

-- the graphs by number are the same
pub same_graphs : (rows : List FileRow) → graphs_seen rows ≡ graphs_in (graph_rows rows)
same_graphs [] = refl
same_graphs (row ∷ rows) = ap (λ gs. row.file.graph ∷ gs) (same_graphs rows)

pub seen_there : (view : List FileRow) (n : ℕ) (f : FileRules) → file_at view n ≡ Some f → slice_get (graphs_seen view) n ≡ Some f.graph
seen_there view n f e = graph_there (files_of view) n ∙ ap (option_map (λ (f : FileRules). f.graph)) (sym (file_there view n) ∙ e)
