-- Looking for the first node with a span that has a point among the spans alone.
use Rattle.std.proofs.Common.{◌≡◌, refl, sym, ◌∙◌, ap, ℕ, suc, ◌+◌, ◌<◌, ◌≤◌, List, [], ◌∷◌, ◌++◌, length, drop, get_or, Bool, true, false, ◌&&◌, cond, Option, Some, None, slice_get, arith, add-zero}
use Rattle.std.specs.List.{position_from}
use Rattle.std.specs.Option.{option_map_or}
use Rattle.std.proofs.lemmas.List.{drop_more}
use Rattle.std.proofs.Math.ListN.{drop_of_length-le}
use Rattle.graph_nodes.specs.declared.node.Node.{Node}
use Rattle.graph_nodes.specs.declared.node.NodeKind.{NodeKind}
use Rattle.graph_nodes.specs.declared.node.Span.{Span}
use Rattle.graph_nodes.specs.declared.spans.NodeSpan.{NodeSpan}
use Rattle.graph_nodes.specs.Graph.{kind_at}
use Rattle.graph_nodes.specs.Spans.{spanned, spans_from}
use Rattle.nav_answers.specs.Points.{has_point, is_there}
use Rattle.nav_answers.specs.Kinds.{is_meant}

-- the node of the first span that passes the test
abbrev pub first_node : (NodeSpan → Bool) → List NodeSpan → Option ℕ
first_node test [] = None
first_node test (found ∷ spans) = cond (test found) (Some found.node) (first_node test spans)

-- spans from a place on
from_place : (test : NodeSpan → Bool) (spans : List NodeSpan) (i : ℕ) (d : NodeSpan) → i < length spans
    → first_node test (drop i spans) ≡ cond (test (get_or spans i d)) (Some (get_or spans i d).node) (first_node test (drop (i + 1) spans))
from_place test spans i d lt = ap (first_node test) (drop_more spans i d lt)

pub span_met : (test : NodeSpan → Bool) (spans : List NodeSpan) (i : ℕ) (d : NodeSpan) → i < length spans
    → test (get_or spans i d) ≡ true → first_node test (drop i spans) ≡ Some (get_or spans i d).node
span_met test spans i d lt passes =
    from_place test spans i d lt ∙ ap (λ b. cond b (Some (get_or spans i d).node) (first_node test (drop (i + 1) spans))) passes

pub spans_over : (test : NodeSpan → Bool) (spans : List NodeSpan) (i : ℕ) → length spans ≤ i → first_node test (drop i spans) ≡ None
spans_over test spans i le = ap (first_node test) (drop_of_length-le spans le)

and_swap : (a b : Bool) → (a && b) ≡ (b && a)
and_swap true true = refl
and_swap true false = refl
and_swap false true = refl
and_swap false false = refl

and_false : (a : Bool) → (a && false) ≡ false
and_false true = refl
and_false false = refl

-- the first node that is there is the one of the first span that is meant
spans_tell_from : (kind : NodeKind → Bool) (line column : ℕ) (all : List Node) (n : ℕ) (nodes : List Node)
    → ((k : ℕ) → slice_get all (n + k) ≡ slice_get nodes k)
    → position_from (is_there kind line column) n nodes ≡ first_node (is_meant kind all line column) (spans_from n nodes)
spans_tell_from kind line column all n [] here = refl
spans_tell_from kind line column all n (node ∷ nodes) here =
    let at : slice_get all n ≡ Some node = rw add-zero at (here 0) in
    let is : kind_at kind all n ≡ kind node.kind = ap (λ (o : Option Node). option_map_or (λ (x : Node). kind x.kind) o false) at in
    by node.span (kind node.kind) is
    (spans_tell_from kind line column all (n + 1) nodes (λ k. let e : n + suc k ≡ (n + 1) + k = omega arith in rw (← e) (here (suc k))))
  where
    by : (span : Option Span) (k : Bool) → kind_at kind all n ≡ k
        → position_from (is_there kind line column) (n + 1) nodes ≡ first_node (is_meant kind all line column) (spans_from (n + 1) nodes)
        → cond (k && option_map_or (has_point line column) span false) (Some n) (position_from (is_there kind line column) (n + 1) nodes)
        ≡ first_node (is_meant kind all line column) (spanned n span ++ spans_from (n + 1) nodes)
    by None k is rest =
        ap (λ b. cond b (Some n) (position_from (is_there kind line column) (n + 1) nodes)) (and_false k) ∙ rest
    by (Some span) k is rest =
        ap (λ b. cond b (Some n) (position_from (is_there kind line column) (n + 1) nodes))
        (and_swap k (has_point line column span) ∙ ap (λ b. has_point line column span && b) (sym is))
        ∙ ap (cond (has_point line column span && kind_at kind all n) (Some n)) rest

pub spans_tell : (kind : NodeKind → Bool) (line column : ℕ) (nodes : List Node) (spans : List NodeSpan) → spans ≡ spans_from 0 nodes
    → position_from (is_there kind line column) 0 nodes ≡ first_node (is_meant kind nodes line column) spans
spans_tell kind line column nodes spans e =
    spans_tell_from kind line column nodes 0 nodes (λ k. let z : 0 + k ≡ k = omega arith in ap (slice_get nodes) z)
    ∙ ap (first_node (is_meant kind nodes line column)) (sym e)
