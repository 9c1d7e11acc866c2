-- How long and how high a run is that stored paths make, one after the other.
use Rattle.std.proofs.Common.{◌≡◌, ◌≢◌, ◌≤◌, refl, sym, ap, ◌∙◌, subst, ℕ, ◌+◌, max, List, [], ◌∷◌, length, Option, Some, None, arith, length-append}
use Rattle.std.specs.Prelude.{All, ⊤, MatchOption}
use Rattle.std.specs.Option.{option_map_or, is_some}
use Rattle.std.proofs.lemmas.List.{length-map}
use Rattle.graph_nodes.specs.Graph.{Graph}
use Rattle.stacks_vars.specs.declared.scopes.NodeAt.{NodeAt}
use Rattle.stacks_vars.specs.Enter.{no_stacks}
use Rattle.partial_path.specs.declared.config.Config.{Config}
use Rattle.partial_path.specs.declared.config.EdgeAt.{EdgeAt}
use Rattle.partial_path.specs.declared.rule.Start.{Start}
use Rattle.partial_path.specs.declared.rule.Start.TheVariants.{Before, After}
use Rattle.partial_path.specs.Spots.{at_node}
use Rattle.partial_path.specs.Step.{step, start}
use Rattle.partial_path.specs.Runs.{IsShallow}
use Rattle.partial_path.specs.Rules.{Rule}
use Rattle.partial_path.specs.Apply.{apply, height}
use Rattle.partial_path.specs.Walks.{run_from, highest, highest_from}
use Rattle.partial_path.specs.Moved.{moved_edge, moved_start, moved}
use Rattle.partial_path.specs.PathSets.{FileRules}
use Rattle.partial_path.specs.Sources.{IsSourceFile, graphs_of}
use Rattle.partial_path.specs.Cutting.{IsStoredIn, edges_in, path_edges, PathsLead, LeadFrom, edge_count, heights}
use Rattle.partial_path.specs.Laws.{JoinedBounds}
use Rattle.partial_path.proofs.SwappedRuns.{moved_rules_are_runs}
use Rattle.partial_path.proofs.RunsOn.{highest-begins, highest_from-append}
use Rattle.partial_path.proofs.Joints.{graph_there, stored_lands, stored_runs, begin_after, begin_before}

-- the paths are as high as their run

stored_height : (files : List FileRules) (s : Start) (p : ℕ × Rule) (c next : Config) → All IsSourceFile files → IsStoredIn files p → moved_start p.0 p.1.start ≡ s
    → apply (moved p.0 p.1) c ≡ Some next → height (moved p.0 p.1) c ≡ highest_from (graphs_of files) s (edges_in p) c
stored_height files s p c next sources stored is applied =
    let lands = stored_lands files p sources stored in
    (moved_rules_are_runs (graphs_of files) p.0 (stored.0).graph p.1 (graph_there files p.0 stored.0 stored.1) lands.exact).peak c (ap is_some applied)
    ∙ ap (λ (x : Start). highest_from (graphs_of files) x (edges_in p) c) is

-- a path that applies, and a run from where it landed
pub longer_height : (files : List FileRules) (s : Start) (p : ℕ × Rule) (c next : Config) (paths : List (ℕ × Rule)) → All IsSourceFile files → IsStoredIn files p
    → moved_start p.0 p.1.start ≡ s → apply (moved p.0 p.1) c ≡ Some next → heights next paths ≡ highest (graphs_of files) next (path_edges paths)
    → heights c (p ∷ paths) ≡ highest_from (graphs_of files) s (path_edges (p ∷ paths)) c
longer_height files s p c next paths sources stored is applied rest =
    let g = graphs_of files in
    let ran : run_from g s (edges_in p) c ≡ Some next =
    ap (λ (x : Start). run_from g x (edges_in p) c) (sym is) ∙ sym (stored_runs files p c sources stored) ∙ applied in
    ap (λ (o : Option Config). max (height (moved p.0 p.1) c) (option_map_or (λ (next : Config). heights next paths) o 0)) applied
    ∙ (λ i. max (stored_height files s p c next sources stored is applied i) (rest i))
    ∙ sym (highest_from-append g s (edges_in p) (path_edges paths) c next ran)

pub heights_after : (files : List FileRules) (c end : Config) (paths : List (ℕ × Rule)) → All IsSourceFile files → PathsLead files (After c.spot) c paths end
    → heights c paths ≡ highest (graphs_of files) c (path_edges paths)
heights_after files c end [] sources e = refl
heights_after files c end (p ∷ paths) sources (stored, is, next, applied, others) =
    let g = graphs_of files in
    longer_height files (After c.spot) p c next paths sources stored is applied (heights_after files next end paths sources others)
    ∙ ap (λ (o : Option Config). max (length c.stacks.symbols) (option_map_or (λ (first : Config). highest g first (path_edges (p ∷ paths))) o 0)) (begin_after g c)
    ∙ sym (highest-begins g c (path_edges (p ∷ paths)))

above_none : (n : ℕ) → max 0 n ≡ n
above_none n = omega arith

heights_from : (files : List FileRules) (r : NodeAt) (c end : Config) (paths : List (ℕ × Rule)) → All IsSourceFile files → start (graphs_of files) r ≡ Some c → paths ≢ []
    → LeadFrom files r paths end → heights (at_node r no_stacks) paths ≡ highest (graphs_of files) c (path_edges paths)
heights_from files r c end [] sources starts some leads = absurd (some refl)
heights_from files r c end (p ∷ paths) sources starts some (stored, is, next, applied, others) =
    let g = graphs_of files in
    longer_height files (Before r) p (at_node r no_stacks) next paths sources stored is applied (heights_after files next end paths sources others)
    ∙ ap (λ (o : Option Config). max 0 (option_map_or (λ (first : Config). highest g first (path_edges (p ∷ paths))) o 0)) (begin_before g r c starts)
    ∙ above_none (highest g c (path_edges (p ∷ paths)))

-- a run is shallow where it isn't higher

both_below : (a b d : ℕ) → a ≤ d → b ≤ d → max a b ≤ d
both_below a b d h k = omega arith

first_below : (a b d : ℕ) → max a b ≤ d → a ≤ d
first_below a b d h = omega arith

second_below : (a b d : ℕ) → max a b ≤ d → b ≤ d
second_below a b d h = omega arith

shallow_on : (depth n : ℕ) (files : List Graph) (es : List EdgeAt) (o : Option Config) → ((next : Config) → IsShallow depth files next es → highest files next es ≤ depth)
    → n ≤ depth → MatchOption o ⊤ (λ (next : Config). IsShallow depth files next es) → max n (option_map_or (λ (next : Config). highest files next es) o 0) ≤ depth
shallow_on depth n files es None each h k = both_below n 0 depth h (omega arith)
shallow_on depth n files es (Some next) each h k = both_below n (highest files next es) depth h (each next k)

pub shallow_to : (depth : ℕ) (files : List Graph) (c : Config) (es : List EdgeAt) → IsShallow depth files c es → highest files c es ≤ depth
shallow_to depth files c [] h = h
shallow_to depth files c (e ∷ es) h = shallow_on depth (length c.stacks.symbols) files es (step files c e) (λ next k. shallow_to depth files next es k) h.0 h.1

shallow_rest : (depth n : ℕ) (files : List Graph) (es : List EdgeAt) (o : Option Config) → ((next : Config) → highest files next es ≤ depth → IsShallow depth files next es)
    → max n (option_map_or (λ (next : Config). highest files next es) o 0) ≤ depth → MatchOption o ⊤ (λ (next : Config). IsShallow depth files next es)
shallow_rest depth n files es None each h = tt
shallow_rest depth n files es (Some next) each h = each next (second_below n (highest files next es) depth h)

pub shallow_from : (depth : ℕ) (files : List Graph) (c : Config) (es : List EdgeAt) → highest files c es ≤ depth → IsShallow depth files c es
shallow_from depth files c [] h = h
shallow_from depth files c (e ∷ es) h = (
  first_below (length c.stacks.symbols) (option_map_or (λ (next : Config). highest files next es) (step files c e) 0) depth h,
  shallow_rest depth (length c.stacks.symbols) files es (step files c e) (λ next k. shallow_from depth files next es k) h,
)

-- how many edges

sum_same : (a b c n m : ℕ) → n ≡ a + b → a ≡ c → b ≡ m → n ≡ c + m
sum_same a b c n m h k l = omega arith

counted : (paths : List (ℕ × Rule)) → length (path_edges paths) ≡ edge_count paths
counted [] = refl
counted (p ∷ paths) =
    sum_same (length (edges_in p)) (length (path_edges paths)) (length p.1.edges) (length (path_edges (p ∷ paths))) (edge_count paths)
    (length-append (edges_in p) (path_edges paths)) (length-map p.1.edges (moved_edge p.0)) (counted paths)

pub joined_bounds : JoinedBounds
joined_bounds bounds files r c end paths sources starts some leads =
    let high = heights_from files r c end paths sources starts some leads in (
      λ h. (subst (λ (n : ℕ). n ≤ bounds.edges) (counted paths) h.edges, subst (λ (n : ℕ). n ≤ bounds.depth) (sym high) (shallow_to bounds.depth (graphs_of files) c (path_edges paths) h.depth)),
      λ h. record {
        edges = subst (λ (n : ℕ). n ≤ bounds.edges) (sym (counted paths)) h.0;
        depth = shallow_from bounds.depth (graphs_of files) c (path_edges paths) (subst (λ (n : ℕ). n ≤ bounds.depth) high h.1);
      },
    )
