-- A graph without edges has no walk.
use Rattle.std.proofs.Common.{◌≡◌, refl, sym, ap, ℕ, suc, zero, List, [], ◌∷◌, Option, Some, None}
use Rattle.std.specs.Prelude.{slice_get, IsSome}
use Rattle.std.specs.Option.{option_and_then}
use Rattle.std.proofs.lemmas.Bool.{false≢true}
use Rattle.std.proofs.lemmas.Option.{none-some}
use Rattle.graph_nodes.specs.Graph.{Graph}
use Rattle.graph_nodes.specs.declared.node.Edge.{Edge}
use Rattle.graph_nodes.specs.Whole.{edge_of}
use Rattle.partial_path.specs.declared.config.Config.{Config}
use Rattle.partial_path.specs.declared.config.EdgeAt.{EdgeAt}
use Rattle.partial_path.specs.declared.rule.Start.{Start}
use Rattle.partial_path.specs.Step.{step, follow}
use Rattle.partial_path.specs.Runs.{run}
use Rattle.partial_path.specs.Walks.{alone, begin, run_from, IsWalk}
use Rattle.partial_path.specs.Laws.{NoEdgesNoWalks}

no_edge : (g : Graph) → g.edges ≡ [] → (file e : ℕ) → edge_of (alone g) file e ≡ None
no_edge g none zero e = ap (λ es. slice_get es e) none
no_edge g none (suc file) e = refl

no_step : (g : Graph) → g.edges ≡ [] → (c : Config) (e : EdgeAt) → step (alone g) c e ≡ None
no_step g none c e = ap (option_and_then (λ (edge : Edge). follow (alone g) e.file edge c)) (no_edge g none e.file e.edge)

no_run : (g : Graph) → g.edges ≡ [] → (c : Config) (e : EdgeAt) (es : List EdgeAt) → run (alone g) c (e ∷ es) ≡ None
no_run g none c e es = ap (option_and_then (λ (next : Config). run (alone g) next es)) (no_step g none c e)

after_begin : (g : Graph) → g.edges ≡ [] → (e : EdgeAt) (es : List EdgeAt) (begun : Option Config) → option_and_then (λ (first : Config). run (alone g) first (e ∷ es)) begun ≡ None
after_begin g none e es None = refl
after_begin g none e es (Some c) = no_run g none c e es

isnt_some : {X : Type 0} (o : Option X) → o ≡ None → IsSome o → ⊥
isnt_some None e some = false≢true some
isnt_some (Some x) e some = none-some x (sym e)

no_walk : (g : Graph) → g.edges ≡ [] → (start : Start) (es : List EdgeAt) → IsWalk g start es → ⊥
no_walk g none start [] walk = walk.nonempty refl
no_walk g none start (e ∷ es) walk = isnt_some (run_from (alone g) start (e ∷ es) walk.runs.0) (after_begin g none e es (begin (alone g) start walk.runs.0)) walk.runs.1

pub no_edges_no_walks : NoEdgesNoWalks
no_edges_no_walks g none = (
  record { sound = tt; complete = λ start es lands. absurd (no_walk g none start es lands.walk); once = tt },
  ([], record { each = tt; once = tt }, λ start es walk. absurd (no_walk g none start es walk), refl),
)
