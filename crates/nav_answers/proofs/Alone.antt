-- A single run is shadowed by none.
use Rattle.std.proofs.Common.{◌≡◌, refl, sym, ◌∙◌, ap, List, [], ◌∷◌, map, length, ◌<◌, Bool, true, false, cond, eq-eqb, ◌⊎◌, inl, inr, arith}
use Rattle.std.specs.Prelude.{not, ◌&&◌, nat_lt}
use Rattle.std.proofs.lemmas.Bool.{false≢true}
use Rattle.graph_nodes.specs.Graph.{Graph}
use Rattle.shadowing.specs.declared.paths.EdgeStep.{EdgeStep}
use Rattle.shadowing.specs.Shadow.{same_step, shadows, is_shadowed}
use Rattle.stitcher.specs.Found.{EdgePath}
use Rattle.whole_search.specs.declared.found.Hit.{Hit}
use Rattle.whole_search.specs.Answers.{IsRising}
use Rattle.list_facts.proofs.Members.{passing_member}
use Rattle.nav_answers.specs.Kept.{run_path, stays, end_of, ends_of}

-- no path shadows itself
pub same_itself : (step : EdgeStep) → same_step step step ≡ true
same_itself step = λ i. eq-eqb step.edge.file step.edge.file refl i && eq-eqb step.edge.edge step.edge.edge refl i && eq-eqb step.precedence step.precedence refl i

not_itself : (path : List EdgeStep) → shadows path path ≡ false
not_itself [] = refl
not_itself (step ∷ path) = ap (λ b. cond b (shadows path path) (nat_lt step.precedence step.precedence)) (same_itself step) ∙ not_itself path

stays_alone : (path : List EdgeStep) → stays (path ∷ []) path ≡ true
stays_alone path = by (is_shadowed (path ∷ []) path) refl
  where
    itself : (other : List EdgeStep) → (other ≡ path) ⊎ ⊥ → shadows other path ≡ true → ⊥
    itself other (inl same) t = false≢true (sym (not_itself path) ∙ ap (λ (o : List EdgeStep). shadows o path) (sym same) ∙ t)
    itself other (inr m) t = m

    by : (b : Bool) → is_shadowed (path ∷ []) path ≡ b → stays (path ∷ []) path ≡ true
    by false e = ap not e
    by true e = let m = passing_member (λ (other : List EdgeStep). shadows other path) (path ∷ []) e in absurd (itself m.0 m.1 m.2)

-- so where there is at most one run, it ends where it ends
pub alone_kept : (files : List Graph) (runs : List EdgePath) → length runs < 2 → map end_of runs ≡ ends_of files runs
alone_kept files [] few = refl
alone_kept files (run ∷ []) few = sym (ap (λ b. map end_of (cond b (run ∷ []) [])) (stays_alone (run_path files run)))
alone_kept files (run ∷ other ∷ runs) few = absurd (omega arith)

pub alone_rises : (rows : List Hit) → length rows < 2 → IsRising rows
alone_rises [] few = tt
alone_rises (row ∷ []) few = (tt, tt)
alone_rises (row ∷ other ∷ rows) few = absurd (omega arith)
