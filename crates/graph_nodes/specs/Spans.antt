-- The nodes that have a span.
use Rattle.std.specs.Prelude.{ℕ, ◌+◌, ◌<◌, ◌≤◌, List, [], ◌∷◌, ◌++◌, length, slice_index_or, nat_eq, Option, Some, None, if◌then◌else◌}
use Rattle.graph_nodes.specs.declared.node.Node.{Node}
use Rattle.graph_nodes.specs.declared.node.NodeKind.{NodeKind}
use Rattle.graph_nodes.specs.declared.node.Span.{Span}
use Rattle.graph_nodes.specs.declared.spans.NodeSpan.{NodeSpan}

-- the span of the node, where it has one
abbrev pub spanned : ℕ → Option Span → List NodeSpan
spanned n None = []
spanned n (Some span) = record { node = n; span = span } ∷ []

-- the nodes that have a span, each with it, in their order, where the first node's position is `n`
abbrev pub spans_from : ℕ → List Node → List NodeSpan
spans_from n [] = []
spans_from n (node ∷ nodes) = spanned n node.span ++ spans_from (n + 1) nodes

-- the first span that is the node's
abbrev pub span_of : ℕ → List NodeSpan → Option Span
span_of n [] = None
span_of n (found ∷ spans) = if nat_eq found.node n then Some found.span else span_of n spans

-- nodes of these kinds with their spans, where the first node's position is `n`
abbrev pub nodes_from : ℕ → List NodeKind → List NodeSpan → List Node
nodes_from n [] spans = []
nodes_from n (kind ∷ kinds) spans =
    record { kind = kind; span = span_of n spans } ∷ nodes_from (n + 1) kinds spans

-- each span is of a later node than the ones before it
abbrev pub AreRising : List NodeSpan → Type 0
AreRising spans = (i j : ℕ) (d : NodeSpan) → i < j → j < length spans
    → (slice_index_or spans i d).node < (slice_index_or spans j d).node

-- the spans before the place are of earlier nodes than this one, and no span from there on is
pub record IsFirstFrom (n place : ℕ) (spans : List NodeSpan) : Type 0 where
  pub earlier : (k : ℕ) (d : NodeSpan) → k < place → (slice_index_or spans k d).node < n
  pub later : (k : ℕ) (d : NodeSpan) → place ≤ k → k < length spans
      → n ≤ (slice_index_or spans k d).node
