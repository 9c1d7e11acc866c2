-- An expression with operators.
use Rattle.std.proofs.Common.{◌≡◌, ℕ, List, [], ◌∷◌, map, Option, Some, refl, ap, sym, ◌∙◌, subst, Result}
use Rattle.py_subset.specs.declared.tree.Expr.{Expr, out-Expr, fold_out-Expr}
use Rattle.py_subset.specs.declared.tree.Joined.{Joined}
use Rattle.graph_nodes.specs.Graph.{Graph}
use Rattle.py_graph.specs.Steps.{go_on}
use Rattle.py_graph.specs.Gives.{Gives}
use Rattle.py_graph.specs.declared.draft.Stop.{Stop}
use Rattle.py_graph.specs.Expressions as row

more : (e : row.Visit) (es : List Joined) (l : ℕ) (g : Graph) → (es ≡ [] → ⊥) → row.operated e (map row.joined es) l g ≡ go_on (λ _. row.parts (map row.joined es) l) (e l g)
more e [] l g ne = absurd (ne refl)
more e (j ∷ es) l g ne = refl

opens : (e : Expr) → row.expr e ≡ row.operated (row.operand (out-Expr e).first) (map row.joined (out-Expr e).rest)
opens e = fold_out-Expr row.Visit row.PostVisit row.Visit row.Visit row.Visit row.Visit row.Visit row.atom_row row.postfix_row row.expr_row row.exprs_row row.joined_row row.operand_row row.primary_row e

-- What its operands give behind the first one, the whole gives.
pub expr-more : (e : Expr) (l : ℕ) (g h k : Graph) (v : Option ℕ) (rest : List Joined) (result : Result (Option ℕ) Stop) → rest ≡ (out-Expr e).rest → ((out-Expr e).rest ≡ [] → ⊥)
    → row.operand (out-Expr e).first l g ≡ Some (v, h) → Gives result k (row.parts (map row.joined rest) l h) → Gives result k (row.expr e l g)
expr-more e l g h k v rest result is some gives told =
    let whole = ap (λ (f : row.Visit). f l g) (opens e) ∙ more (row.operand (out-Expr e).first) (out-Expr e).rest l g some ∙ ap (go_on (λ _. row.parts (map row.joined (out-Expr e).rest) l)) gives in
    subst (λ r. Gives result k r) (ap (λ (es : List Joined). row.parts (map row.joined es) l h) is ∙ sym whole) told
