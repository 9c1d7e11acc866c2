-- What the references are asked of: the row of a definition that is meant, or definitions.
use Rattle.std.proofs.Common.{◌≡◌, ℕ, ◌+◌, suc, List, [], ◌∷◌, cond, Option, Some, None, Result, Ok, Err, option_map, ok_or, refl, sym, ap, ◌∙◌, arith, slice_get}
use Rattle.std.specs.Prelude.{MatchResult}
use Rattle.std.specs.List.{position_from}
use Rattle.std.specs.Option.{option_and_then, option_map_or}
use Rattle.std.specs.Ordering.{is_eq}
use Rattle.std.specs.Result.{result_map_both}
use Rattle.std.specs.FinMap.{slice_cmp-IsAntisymmetric, nat_cmp-IsAntisymmetric}
use Rattle.std.specs.declared.cmp.Ordering.{Ordering}
use Rattle.std.specs.declared.cmp.Ordering.TheVariants.{Less, Equal, Greater}
use Rattle.std.proofs.lemmas.Option.{none-some, same_Some}
use Rattle.graph_nodes.specs.declared.node.Node.{Node}
use Rattle.graph_nodes.specs.Graph.{is_definition_kind}
use Rattle.graph_nodes.specs.Whole.{node_of}
use Rattle.stacks_vars.specs.declared.scopes.NodeAt.{NodeAt}
use Rattle.partial_path.specs.Spots.{node_at}
use Rattle.version_tree.specs.Contents.{path_cmp}
use Rattle.version_tree.specs.Graphs.{GraphRow}
use Rattle.version_tree.specs.declared.row.Row.{Row}
use Rattle.nav_answers.specs.declared.found.At.{At}
use Rattle.nav_answers.specs.declared.found.AskFault.{AskFault}
use Rattle.nav_answers.specs.declared.found.AskFault.TheVariants.{NoFile, NoDefinition}
use Rattle.nav_answers.specs.Replies.{graphs_in, number_of, meant_in, meant, hit_of, row_of}
use Rattle.lsp_answers.specs.Inside.{span_in, row_in}
use Rattle.lsp_answers.specs.Queries.{AreDefinitions, AreTargets}

-- the file with that number has the path
path_there : (path : List ℕ) (files : List GraphRow) (n k : ℕ) → position_from (λ (row : GraphRow). is_eq (path_cmp row.path path)) n files ≡ Some k
    → (j : ℕ) × (k ≡ n + j) × (option_map_or (λ (row : GraphRow). row.path) (slice_get files j) [] ≡ path)
path_there path [] n k e = absurd (none-some k e)
path_there path (row ∷ files) n k e = by (path_cmp row.path path) refl (path_there path files (n + 1) k) e
  where
    by : (o : Ordering) → path_cmp row.path path ≡ o
        → (position_from (λ (row : GraphRow). is_eq (path_cmp row.path path)) (n + 1) files ≡ Some k
        → (j : ℕ) × (k ≡ (n + 1) + j) × (option_map_or (λ (row : GraphRow). row.path) (slice_get files j) [] ≡ path))
        → cond (is_eq o) (Some n) (position_from (λ (row : GraphRow). is_eq (path_cmp row.path path)) (n + 1) files) ≡ Some k
        → (j : ℕ) × (k ≡ n + j) × (option_map_or (λ (row : GraphRow). row.path) (slice_get (row ∷ files) j) [] ≡ path)
    by Equal is rest e =
        let here : n ≡ k = same_Some n k e in
        (0, omega (arith, here), slice_cmp-IsAntisymmetric nat_cmp-IsAntisymmetric row.path path is)
    by Less is rest e = let t = rest e in (suc t.0, omega (arith, t.1), t.2)
    by Greater is rest e = let t = rest e in (suc t.0, omega (arith, t.1), t.2)

path_of_number : (path : List ℕ) (files : List GraphRow) (file : ℕ) → number_of path files ≡ Some file
    → path ≡ option_map_or (λ (row : GraphRow). row.path) (slice_get files file) []
path_of_number path files file is =
    let t = path_there path files 0 file is in
    let same : t.0 ≡ file = omega (arith, t.1) in
    sym t.2 ∙ ap (λ k. option_map_or (λ (row : GraphRow). row.path) (slice_get files k) []) same

row_same : (files : List GraphRow) (path : List ℕ) (file n k : ℕ) → number_of path files ≡ Some file → n ≡ k
    → row_in files path n ≡ row_of files (hit_of (node_at file k))
row_same files path file n k is same =
    let there = path_of_number path files file is in
    let span : span_in files path n ≡ option_and_then (λ (node : Node). node.span) (node_of (graphs_in files) file k) =
    ap (λ o. option_map_or (λ (f : ℕ). option_and_then (λ (node : Node). node.span) (node_of (graphs_in files) f n)) o None) is
    ∙ ap (λ m. option_and_then (λ (node : Node). node.span) (node_of (graphs_in files) file m)) same in
    λ i. record { path = there i; node = same i; span = span i }

abbrev meant_there : List GraphRow → At → Option ℕ → Result NodeAt AskFault
meant_there files at o = option_map_or (λ (file : ℕ). ok_or (option_map (node_at file) (meant_in is_definition_kind at files file)) NoDefinition) o (Err NoFile)

abbrev node_number : Result NodeAt AskFault → Result ℕ AskFault
node_number r = result_map_both (λ (node : NodeAt). node.node) (λ fault. fault) r

-- the row of the definition that is meant
pub target_row : (files : List GraphRow) (path : List ℕ) (at : At) (n : ℕ) → Ok n ≡ node_number (meant is_definition_kind NoDefinition files path at)
    → AreTargets files path at (Ok (row_in files path n ∷ []))
target_row files path at n e = by (number_of path files) refl e
  where
    in_file : (file : ℕ) (m : Option ℕ) → number_of path files ≡ Some file → Ok n ≡ node_number (ok_or (option_map (node_at file) m) NoDefinition)
        → MatchResult (ok_or (option_map (node_at file) m) NoDefinition)
        (λ node. ◌≡◌ {A = Result (List Row) AskFault} (Ok (row_in files path n ∷ [])) (Ok (row_of files (hit_of node) ∷ [])))
        (λ fault. AreDefinitions files path at (Ok (row_in files path n ∷ [])))
    in_file file None is e = cc
    in_file file (Some k) is e = ap (λ (row : Row). Ok (row ∷ [])) (row_same files path file n k is cc)

    by : (o : Option ℕ) → number_of path files ≡ o → Ok n ≡ node_number (meant_there files at o)
        → MatchResult (meant_there files at o)
        (λ node. ◌≡◌ {A = Result (List Row) AskFault} (Ok (row_in files path n ∷ [])) (Ok (row_of files (hit_of node) ∷ [])))
        (λ fault. AreDefinitions files path at (Ok (row_in files path n ∷ [])))
    by None is e = cc
    by (Some file) is e = in_file file (meant_in is_definition_kind at files file) is e

-- where none is meant, definitions
pub other_targets : (files : List GraphRow) (path : List ℕ) (at : At) (fault : AskFault) (targets : Result (List Row) AskFault)
    → Err fault ≡ node_number (meant is_definition_kind NoDefinition files path at) → AreDefinitions files path at targets → AreTargets files path at targets
other_targets files path at fault targets e are = by (meant is_definition_kind NoDefinition files path at) e
  where
    by : (r : Result NodeAt AskFault) → Err fault ≡ node_number r
        → MatchResult r (λ node. targets ≡ Ok (row_of files (hit_of node) ∷ [])) (λ _. AreDefinitions files path at targets)
    by (Ok node) e = cc
    by (Err f) e = are
