-- Whether a walk goes on behind its last edge, and whether a path may land there, are told by that edge's sink.
use Rattle.std.proofs.Common.{◌≡◌, List, Option, false, ◌||◌, refl, ap, ◌∙◌}
use Rattle.std.specs.Option.{option_map_or}
use Rattle.graph_nodes.specs.Graph.{Graph}
use Rattle.graph_nodes.specs.Cut.{is_cut}
use Rattle.graph_nodes.specs.declared.node.Edge.{Edge}
use Rattle.partial_path.specs.declared.config.EdgeAt.{EdgeAt}
use Rattle.partial_path.specs.Walks.{alone, is_definition_place, ends_landing}
use Rattle.partial_path.proofs.Edges.{is_cut_edge-found}
use Rattle.file_paths.specs.Walking.{ends_cut}
use Rattle.file_paths.specs.Finding.{EndsWith}
use Rattle.file_paths.proofs.UnitLaws.{edge_in}
use Rattle.partial_path.proofs.CutRuns.{landing_push}
use Rattle.file_paths.proofs.SinkLaws.{ends_cut-last}

-- whether edges end with a cut edge, told by the last one's sink
pub ends_cut-sink : (g : Graph) (es : List EdgeAt) (last : EndsWith g es) → ends_cut (alone g) es ≡ is_cut g last.edge.sink
ends_cut-sink g es last =
    ap (ends_cut (alone g)) last.is
    ∙ (ends_cut-last (alone g) last.before (edge_in last.last) ∙ is_cut_edge-found (alone g) (edge_in last.last) g last.edge refl last.there)

-- and whether a path may land there
pub ends_landing-sink : (g : Graph) (es : List EdgeAt) (last : EndsWith g es)
    → ends_landing (alone g) es ≡ (is_cut g last.edge.sink || is_definition_place (alone g) 0 last.edge.sink)
ends_landing-sink g es last =
    ap (ends_landing (alone g)) last.is
    ∙ (landing_push (alone g) last.before (edge_in last.last)
    ∙ ap (λ (o : Option Edge). option_map_or (λ (edge : Edge). is_cut g edge.sink) o false || option_map_or (λ (edge : Edge). is_definition_place (alone g) 0 edge.sink) o false) last.there)
