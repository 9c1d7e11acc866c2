-- Stored paths that apply one after the other: they are a run, and each but the last ends with a cut edge.
use Rattle.std.proofs.Common.{◌≡◌, ◌≢◌, refl, sym, ap, ◌∙◌, subst, ℕ, List, [], ◌∷◌, ◌++◌, map, Bool, true, false, Option, Some, None, if◌then◌else◌}
use Rattle.std.specs.Prelude.{slice_get, All}
use Rattle.std.specs.Option.{option_map, option_and_then}
use Rattle.std.proofs.lemmas.Bool.{both_ways}
use Rattle.std.proofs.lemmas.Option.{none-some, slice_get-map, slice_get_within, get_or_from_slice_get}
use Rattle.std.proofs.lemmas.List.Elements.{All-from_recursion, All-contains}
use Rattle.graph_nodes.specs.declared.node.Node.{Node}
use Rattle.graph_nodes.specs.declared.node.Place.TheVariants as place
use Rattle.graph_nodes.specs.Graph.{Graph, is_reference_kind}
use Rattle.graph_nodes.specs.Whole.{node_of}
use Rattle.stacks_vars.specs.declared.scopes.NodeAt.{NodeAt}
use Rattle.stacks_vars.specs.Enter.{no_stacks}
use Rattle.partial_path.specs.declared.config.Spot.TheVariants as spot
use Rattle.partial_path.specs.declared.config.Config.{Config}
use Rattle.partial_path.specs.declared.config.EdgeAt.{EdgeAt}
use Rattle.partial_path.specs.declared.rule.Start.{Start}
use Rattle.partial_path.specs.declared.rule.Start.TheVariants.{Before, After}
use Rattle.partial_path.specs.Spots.{at_node}
use Rattle.partial_path.specs.Step.{start, start_at, enter_node, enter_place, is_cut_edge}
use Rattle.partial_path.specs.Runs.{run, IsClosed}
use Rattle.partial_path.specs.Rules.{Rule}
use Rattle.partial_path.specs.Apply.{apply}
use Rattle.partial_path.specs.Walks.{begin, run_from, starts_walks_of, is_cut_spot_of}
use Rattle.partial_path.specs.Moved.{moved_edge, moved_start, moved}
use Rattle.partial_path.specs.PathSets.{FileRules, IsLandingRule}
use Rattle.partial_path.specs.Sources.{IsSourceFile, graphs_of}
use Rattle.partial_path.specs.Cutting.{IsStoredIn, edges_in, path_edges, PathsLead}
use Rattle.partial_path.specs.Laws.{PathsAreRuns}
use Rattle.partial_path.proofs.SwappedRuns.{moved_rules_are_runs, moved_starts_are_starts}
use Rattle.partial_path.proofs.Equals.{spot_eq-refl}
use Rattle.partial_path.proofs.RunsOn.{run_from-append}
use Rattle.partial_path.proofs.Followed.{last_step, uncut_spot}

-- the file at a place, its graph, and that it is a file of a source

pub graph_there : (files : List FileRules) (k : ℕ) (f : FileRules) → slice_get files k ≡ Some f → slice_get (graphs_of files) k ≡ Some f.graph
graph_there files k f there = slice_get-map (λ (f : FileRules). f.graph) files k ∙ ap (option_map (λ (f : FileRules). f.graph)) there

pub source_there : (files : List FileRules) (k : ℕ) (f : FileRules) → All IsSourceFile files → slice_get files k ≡ Some f → IsSourceFile f
source_there files k f sources there =
    subst IsSourceFile (get_or_from_slice_get files k f f there) (sources k f (slice_get_within files k f there))

-- a stored path is a landing rule of its file
pub stored_lands : (files : List FileRules) (p : ℕ × Rule) → All IsSourceFile files → (stored : IsStoredIn files p) → IsLandingRule (stored.0).graph p.1
stored_lands files p sources stored =
    let sets = (source_there files p.0 stored.0 sources stored.1).sets.rules in
    All-contains (IsLandingRule (stored.0).graph) (stored.0).rules p.1 (All-from_recursion (IsLandingRule (stored.0).graph) (stored.0).rules sets.sound) stored.2

-- applying it is the run of its edges
pub stored_runs : (files : List FileRules) (p : ℕ × Rule) (c : Config) → All IsSourceFile files → IsStoredIn files p
    → apply (moved p.0 p.1) c ≡ run_from (graphs_of files) (moved_start p.0 p.1.start) (edges_in p) c
stored_runs files p c sources stored =
    let lands = stored_lands files p sources stored in
    (moved_rules_are_runs (graphs_of files) p.0 (stored.0).graph p.1 (graph_there files p.0 stored.0 stored.1) lands.exact).applies c

-- it begins where walks start
pub stored_starts : (files : List FileRules) (p : ℕ × Rule) (s : Start) → All IsSourceFile files → IsStoredIn files p → moved_start p.0 p.1.start ≡ s
    → starts_walks_of (graphs_of files) s ≡ true
stored_starts files p s sources stored is =
    let lands = stored_lands files p sources stored in
    ap (starts_walks_of (graphs_of files)) (sym is)
    ∙ moved_starts_are_starts (graphs_of files) p.0 (stored.0).graph p.1.start (graph_there files p.0 stored.0 stored.1) lands.exact.files.start
    ∙ lands.lands.walk.begins

-- a list with a last element
abbrev pub IsEnded : {X : Type 0} → List X → Type 0
IsEnded {X} xs = (front : List X) × (last : X) × (xs ≡ front ++ last ∷ [])

pub ended : {X : Type 0} (x : X) (xs : List X) → IsEnded (x ∷ xs)
ended {X} x [] = ([], x, refl)
ended {X} x (y ∷ ys) = let h = ended y ys in (x ∷ h.0, h.1, ap (λ (zs : List X). x ∷ zs) h.2)

moved_ended : (k : ℕ) (es : List EdgeAt) → es ≢ [] → IsEnded (map (moved_edge k) es)
moved_ended k [] some = absurd (some refl)
moved_ended k (e ∷ es) some = ended (moved_edge k e) (map (moved_edge k) es)

pub edges_ended : (files : List FileRules) (p : ℕ × Rule) → All IsSourceFile files → IsStoredIn files p → IsEnded (edges_in p)
edges_ended files p sources stored = moved_ended p.0 p.1.edges (stored_lands files p sources stored).lands.walk.nonempty

cut_then : (b : Bool) → (b ≡ false → ⊥) → b ≡ true
cut_then true h = refl
cut_then false h = absurd (h refl)

-- each path but the last ends with a cut edge
pub joints_are_cut : (files : List FileRules) (s : Start) (c end : Config) (p q : ℕ × Rule) (paths : List (ℕ × Rule)) → All IsSourceFile files
    → PathsLead files s c (p ∷ q ∷ paths) end → IsClosed (graphs_of files) (edges_in p)
joints_are_cut files s c end p q paths sources (stored, is, next, applied, others) =
    let g = graphs_of files in
    let last = edges_ended files p sources stored in
    let ran : run_from g (moved_start p.0 p.1.start) (last.0 ++ last.1 ∷ []) c ≡ Some next =
    ap (λ es. run_from g (moved_start p.0 p.1.start) es c) (sym last.2) ∙ sym (stored_runs files p c sources stored) ∙ applied in
    let before = last_step g (moved_start p.0 p.1.start) last.0 last.1 c next ran in
    let starts : is_cut_spot_of g next.spot ≡ true = stored_starts files q (After next.spot) sources others.0 others.1 in
    (last.0, last.1, last.2, cut_then (is_cut_edge g last.1) (λ uncut. both_ways (is_cut_spot_of g next.spot) (uncut_spot g before.0 next last.1 before.1 uncut) starts))

-- the paths are a run

-- after the spot where it stands, a configuration is the first one
pub begin_after : (g : List Graph) (c : Config) → begin g (After c.spot) c ≡ Some c
begin_after g c = ap (λ b. if b then Some c else None) (spot_eq-refl c.spot)

pub run_after : (g : List Graph) (es : List EdgeAt) (c : Config) → run_from g (After c.spot) es c ≡ run g c es
run_after g es c = ap (option_and_then (λ (first : Config). run g first es)) (begin_after g c)

-- a path that applies, and a run from where it landed
longer_run : (files : List FileRules) (s : Start) (c next end : Config) (p : ℕ × Rule) (es : List EdgeAt) → All IsSourceFile files → IsStoredIn files p
    → moved_start p.0 p.1.start ≡ s → apply (moved p.0 p.1) c ≡ Some next → run (graphs_of files) next es ≡ Some end
    → run_from (graphs_of files) s (edges_in p ++ es) c ≡ Some end
longer_run files s c next end p es sources stored is applied ran =
    let g = graphs_of files in
    run_from-append g s (edges_in p) es c
    ∙ ap (option_and_then (λ (d : Config). run g d es)) (ap (λ (x : Start). run_from g x (edges_in p) c) (sym is) ∙ sym (stored_runs files p c sources stored) ∙ applied)
    ∙ ran

pub lead_after : (files : List FileRules) (c end : Config) (paths : List (ℕ × Rule)) → All IsSourceFile files → PathsLead files (After c.spot) c paths end
    → run (graphs_of files) c (path_edges paths) ≡ Some end
lead_after files c end [] sources e = ap Some e
lead_after files c end (p ∷ paths) sources (stored, is, next, applied, others) =
    sym (run_after (graphs_of files) (path_edges (p ∷ paths)) c)
    ∙ longer_run files (After c.spot) c next end p (path_edges paths) sources stored is applied (lead_after files next end paths sources others)

pub lead_run : (files : List FileRules) (s : Start) (c end : Config) (paths : List (ℕ × Rule)) → All IsSourceFile files → paths ≢ [] → PathsLead files s c paths end
    → run_from (graphs_of files) s (path_edges paths) c ≡ Some end
lead_run files s c end [] sources some leads = absurd (some refl)
lead_run files s c end (p ∷ paths) sources some (stored, is, next, applied, others) =
    longer_run files s c next end p (path_edges paths) sources stored is applied (lead_after files next end paths sources others)

-- the start of a reference is it entered with empty stacks
started : (r : NodeAt) (o : Option Node) (c : Config) → option_and_then (start_at r) o ≡ Some c → option_and_then (λ (node : Node). enter_node r node no_stacks) o ≡ Some c
started r None c h = h
started r (Some node) c h = entered (is_reference_kind node.kind) (enter_node r node no_stacks) h
  where
    entered : (b : Bool) (o : Option Config) → (if b then o else None) ≡ Some c → o ≡ Some c
    entered true o h = h
    entered false o h = absurd (none-some c h)

pub start_entered : (g : List Graph) (r : NodeAt) (c : Config) → start g r ≡ Some c → enter_place g r.file (place.At r.node) no_stacks ≡ Some c
start_entered g r c h = started r (node_of g r.file r.node) c h

pub begin_before : (g : List Graph) (r : NodeAt) (c : Config) → start g r ≡ Some c → begin g (Before r) (at_node r no_stacks) ≡ Some c
begin_before g r c h = ap (λ b. if b then enter_place g r.file (place.At r.node) no_stacks else None) (spot_eq-refl (spot.At r)) ∙ start_entered g r c h

nil_left : (xs ys : List EdgeAt) → xs ++ ys ≡ [] → xs ≡ []
nil_left [] ys h = refl
nil_left (x ∷ xs) ys h = cc

moved_some : (k : ℕ) (es : List EdgeAt) → map (moved_edge k) es ≡ [] → es ≡ []
moved_some k [] h = refl
moved_some k (e ∷ es) h = cc

pub edges_some : (files : List FileRules) (p : ℕ × Rule) (es : List EdgeAt) → All IsSourceFile files → IsStoredIn files p → (edges_in p ++ es) ≢ []
edges_some files p es sources stored none =
    (stored_lands files p sources stored).lands.walk.nonempty (moved_some p.0 p.1.edges (nil_left (edges_in p) es none))

paths_some : (files : List FileRules) (s : Start) (c end : Config) (paths : List (ℕ × Rule)) → All IsSourceFile files → paths ≢ [] → PathsLead files s c paths end → path_edges paths ≢ []
paths_some files s c end [] sources some leads = absurd (some refl)
paths_some files s c end (p ∷ paths) sources some leads = edges_some files p (path_edges paths) sources leads.0

pub paths_are_runs : PathsAreRuns
paths_are_runs files r c end paths sources starts some leads =
    let g = graphs_of files in record {
      runs = ap (option_and_then (λ (first : Config). run g first (path_edges paths))) (sym (begin_before g r c starts)) ∙ lead_run files (Before r) (at_node r no_stacks) end paths sources some leads;
      nonempty = paths_some files (Before r) (at_node r no_stacks) end paths sources some leads;
    }
