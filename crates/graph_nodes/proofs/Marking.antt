-- The mark of a node says what its kind and the edges do.
use Rattle.std.proofs.Common.{◌≡◌, ℕ, ◌+◌, ◌<◌, List, [], ◌∷◌, ◌++◌, length, get_or, Bool, false, refl, sym, ap, subst, ◌∙◌, arith, Some, None, slice_get, inl, inr}
use Rattle.std.specs.Option.{option_map_or}
use Rattle.std.proofs.lemmas.List.{get_or_push, get_or_append_left, length_push}
use Rattle.std.proofs.lemmas.Option.{slice_get_cases, slice_get_past, slice_get-get_or}
use Rattle.std.proofs.lemmas.Bool.{cases_lt}
use Rattle.graph_nodes.specs.declared.node.Node.{Node}
use Rattle.graph_nodes.specs.declared.node.Edge.{Edge}
use Rattle.graph_nodes.specs.declared.node.NodeKind.{NodeKind}
use Rattle.graph_nodes.specs.declared.marks.Mark.{Mark}
use Rattle.graph_nodes.specs.Graph.{kind_at, is_exported_kind, is_reference_kind, is_definition_kind, is_exported, is_reference, is_definition}
use Rattle.graph_nodes.specs.Cut.{is_turning}
use Rattle.graph_nodes.specs.Inside.{AreTurns}
use Rattle.graph_nodes.specs.Marks.{is_exported_mark, is_reference_mark, is_definition_mark, IsMarkOf, IsMarkAt, AreMarked}

-- the first nodes have their marks
pub record AreMarkedTo (done : ℕ) (nodes : List Node) (edges : List Edge) (marks : List Mark) : Type 0 where
  pub one_each : length marks ≡ done
  pub right : (n : ℕ) (d : Mark) → n < done → IsMarkAt nodes edges n (get_or marks n d)

-- the mark of a kind is that of a node of the kind
mark_there : (nodes : List Node) (edges : List Edge) (n : ℕ) (node : Node) (turning : Bool) (mark : Mark) → slice_get nodes n ≡ Some node
    → turning ≡ is_turning edges n → IsMarkOf node.kind turning mark → IsMarkAt nodes edges n mark
mark_there nodes edges n node turning mark at turns is = rw (at, ← turns) is

-- one node more
pub marked_more : (nodes : List Node) (edges : List Edge) (marks : List Mark) (n : ℕ) (d : Node) (turns : List Bool) (mark : Mark)
    → n < length nodes → AreTurns (length nodes) edges turns
    → IsMarkOf (get_or nodes n d).kind (get_or turns n false) mark → AreMarkedTo n nodes edges marks → AreMarkedTo (n + 1) nodes edges (marks ++ mark ∷ [])
marked_more nodes edges marks n d turns mark lt are of was =
    let here : IsMarkAt nodes edges n mark = mark_there nodes edges n (get_or nodes n d) (get_or turns n false) mark (slice_get-get_or nodes n d lt) (are.turning n lt) of in
    record {
      one_each = length_push marks mark ∙ ap (λ (k : ℕ). k + 1) was.one_each;
      right = λ k d below. elim (cases_lt k n) [
        | inl lt ↦ subst (λ (m : Mark). IsMarkAt nodes edges k m) (sym (get_or_append_left marks (mark ∷ []) d k (rw was.one_each lt))) (was.right k d lt)
        | inr ge ↦
            let e : k ≡ n = omega (arith, below, ge) in
            rw e (subst (λ (m : Mark). IsMarkAt nodes edges n m) (sym (get_or_push marks mark d n was.one_each)) here)
      ];
    }

-- all nodes
pub marked_all : (nodes : List Node) (edges : List Edge) (marks : List Mark) (n : ℕ) → n ≡ length nodes → AreMarkedTo n nodes edges marks → AreMarked nodes edges marks
marked_all nodes edges marks n e was = record {
  one_each = was.one_each ∙ e;
  right = λ k d lt. was.right k d (rw e lt);
}

-- what a node is, by its mark where there is one
by_mark : (test : NodeKind → Bool) (says : Mark → Bool) (nodes : List Node) (edges : List Edge) (marks : List Mark) (n : ℕ) → AreMarked nodes edges marks
    → ((mark : Mark) → IsMarkAt nodes edges n mark → says mark ≡ kind_at test nodes n) → option_map_or says (slice_get marks n) false ≡ kind_at test nodes n
by_mark test says nodes edges marks n are tells = elim (slice_get_cases marks n).1 [
  | inl found ↦
      let mark = found.0 in
      let lt : n < length nodes = rw (← are.one_each) found.1 in
      let right : IsMarkAt nodes edges n mark = subst (λ (m : Mark). IsMarkAt nodes edges n m) found.3 (are.right n mark lt) in
      rw found.2 (tells mark right)
  | inr past ↦
      let none : slice_get nodes n ≡ None = slice_get_past nodes n (rw (← are.one_each) past.0) in
      rw (past.1, none) refl
]

pub exported_by_mark : (nodes : List Node) (edges : List Edge) (marks : List Mark) (n : ℕ) → AreMarked nodes edges marks
    → option_map_or is_exported_mark (slice_get marks n) false ≡ is_exported nodes n
exported_by_mark nodes edges marks n are = by_mark is_exported_kind is_exported_mark nodes edges marks n are (λ mark m. m.tells_exported)

pub reference_by_mark : (nodes : List Node) (edges : List Edge) (marks : List Mark) (n : ℕ) → AreMarked nodes edges marks
    → option_map_or is_reference_mark (slice_get marks n) false ≡ is_reference nodes n
reference_by_mark nodes edges marks n are = by_mark is_reference_kind is_reference_mark nodes edges marks n are (λ mark m. m.tells_reference)

pub definition_by_mark : (nodes : List Node) (edges : List Edge) (marks : List Mark) (n : ℕ) → AreMarked nodes edges marks
    → option_map_or is_definition_mark (slice_get marks n) false ≡ is_definition nodes n
definition_by_mark nodes edges marks n are = by_mark is_definition_kind is_definition_mark nodes edges marks n are (λ mark m. m.tells_definition)
