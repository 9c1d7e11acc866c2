-- The tests of the search decide what the definitions say of a run.
use Rattle.std.proofs.Common.{◌≡◌, ◌≢◌, ℕ, ◌≤◌, Bool, true, false, List, [], ◌∷◌, ◌++◌, length, Option, Some, None, MatchOption, IsSomeAnd, IsSome, IsTrue, ◌↔◌, ◌⊎◌, inl, inr, refl, ap, ◌∙◌, subst, Decides, leb, leb-true, le-leb}
use Rattle.std.specs.Option.{option_map_or}
use Rattle.std.specs.Bool.{⊤}
use Rattle.std.proofs.lemmas.Bool.{false≢true, or_cases, or_left, or_right}
use Rattle.std.proofs.lemmas.Bool.Decides.{Decides-and, Decides-like, Decides-not}
use Rattle.graph_nodes.specs.Graph.{Graph}
use Rattle.partial_path.specs.declared.config.Config.{Config}
use Rattle.partial_path.specs.declared.config.EdgeAt.{EdgeAt}
use Rattle.partial_path.specs.declared.bounds.Bounds.{Bounds}
use Rattle.partial_path.specs.Spots.{is_definition_spot}
use Rattle.partial_path.specs.Step.{step}
use Rattle.partial_path.specs.Runs.{run, IsStraight, IsClosed, IsShallow, IsBounded, IsAtDefinition}
use Rattle.partial_path.specs.Counted.{IsComplete, IsCounted}
use Rattle.whole_search.specs.Walk.{ends_cut, is_shallow, is_bounded, is_empty, is_at_definition, completes, lands}

nat_le_decides : (a b : ℕ) → Decides (leb a b) (a ≤ b)
nat_le_decides a b = (leb-true a b, le-leb a b)

shallow_on : (depth : ℕ) (files : List Graph) (es : List EdgeAt) (o : Option Config) → ((next : Config) → Decides (is_shallow depth files next es) (IsShallow depth files next es)) → Decides (option_map_or (λ (next : Config). is_shallow depth files next es) o true) (MatchOption o ⊤ (λ next. IsShallow depth files next es))
shallow_on depth files es None each = (λ _. tt, λ _. refl)
shallow_on depth files es (Some next) each = each next

pub is_shallow_decides : (depth : ℕ) (files : List Graph) (c : Config) (es : List EdgeAt) → Decides (is_shallow depth files c es) (IsShallow depth files c es)
is_shallow_decides depth files c [] = nat_le_decides (length c.stacks.symbols) depth
is_shallow_decides depth files c (e ∷ es) =
    Decides-and _ _ (nat_le_decides (length c.stacks.symbols) depth)
    (shallow_on depth files es (step files c e) (λ next. is_shallow_decides depth files next es))

bounded_from : (bounds : Bounds) (files : List Graph) (c : Config) (es : List EdgeAt) → (length es ≤ bounds.edges) × IsShallow bounds.depth files c es → IsBounded bounds files c es
bounded_from bounds files c es h = record { edges = h.0; depth = h.1 }

pub is_bounded_decides : (bounds : Bounds) (files : List Graph) (c : Config) (es : List EdgeAt) → Decides (is_bounded bounds files c es) (IsBounded bounds files c es)
is_bounded_decides bounds files c es =
    Decides-like (is_bounded bounds files c es) (bounded_from bounds files c es) (λ h. (h.edges, h.depth))
    (Decides-and _ _ (nat_le_decides (length es) bounds.edges) (is_shallow_decides bounds.depth files c es))

pub ends_cut-append : (files : List Graph) (es : List EdgeAt) (e : EdgeAt) (more : List EdgeAt) → ends_cut files (es ++ e ∷ more) ≡ ends_cut files (e ∷ more)
ends_cut-append files [] e more = refl
ends_cut-append files (x ∷ []) e more = refl
ends_cut-append files (x ∷ y ∷ es) e more = ends_cut-append files (y ∷ es) e more

closed_from : (files : List Graph) (es : List EdgeAt) → ends_cut files es ≡ true → IsClosed files es
closed_from files [] t = absurd (false≢true t)
closed_from files (e ∷ []) t = ([], e, refl, t)
closed_from files (e ∷ next ∷ es) t =
    let r = closed_from files (next ∷ es) t in (e ∷ r.0, r.1, ap (λ xs. e ∷ xs) r.2, r.3)

pub ends_cut_decides : (files : List Graph) (es : List EdgeAt) → Decides (ends_cut files es) (IsClosed files es)
ends_cut_decides files es = (closed_from files es, λ h. ap (ends_cut files) h.2 ∙ (ends_cut-append files h.0 h.1 [] ∙ h.3))

no_nil : {X : Type 0} (x : X) (xs : List X) → x ∷ xs ≡ [] → ⊥
no_nil x xs e = cc

pub is_empty_decides : {X : Type 0} (xs : List X) → Decides (is_empty xs) (xs ≡ [])
is_empty_decides [] = (λ _. refl, λ _. refl)
is_empty_decides (x ∷ xs) = (λ t. absurd (false≢true t), λ e. absurd (no_nil x xs e))

at_definition_from : (files : List Graph) (at : Config) → (is_definition_spot files at.spot ≡ true) × (at.stacks.symbols ≡ []) → IsAtDefinition files at
at_definition_from files at h = record { definition = h.0; resolved = h.1 }

itself_decides : (b : Bool) → Decides b (b ≡ true)
itself_decides b = (λ t. t, λ t. t)

pub is_at_definition_decides : (files : List Graph) (at : Config) → Decides (is_at_definition files at) (IsAtDefinition files at)
is_at_definition_decides files at =
    Decides-like (is_at_definition files at) (at_definition_from files at) (λ h. (h.definition, h.resolved))
    (Decides-and _ _ (itself_decides (is_definition_spot files at.spot)) (is_empty_decides at.stacks.symbols))

ends_at_definition : (files : List Graph) (o : Option Config) → Decides (option_map_or (is_at_definition files) o false) (IsSomeAnd o (IsAtDefinition files))
ends_at_definition files None = (λ t. absurd (false≢true t), λ h. absurd h)
ends_at_definition files (Some at) = is_at_definition_decides files at

pub completes_decides : (files : List Graph) (c : Config) (es : List EdgeAt) → Decides (completes files c es) ((es ≢ []) × IsSomeAnd (run files c es) (IsAtDefinition files))
completes_decides files c es =
    Decides-and _ _ (Decides-not (is_empty es) (is_empty_decides es)) (ends_at_definition files (run files c es))

pub complete_from : (files : List Graph) (c : Config) (es : List EdgeAt) → IsStraight files c es → completes files c es ≡ true → IsComplete files c es
complete_from files c es straight t =
    let h = (completes_decides files c es).0 t in record { nonempty = h.0; straight = straight; ends = h.1 }

pub completes_from : (files : List Graph) (c : Config) (es : List EdgeAt) → IsComplete files c es → completes files c es ≡ true
completes_from files c es h = (completes_decides files c es).1 (h.nonempty, h.ends)

pub lands_nonempty : (files : List Graph) (c : Config) (es : List EdgeAt) → lands files c es ≡ true → es ≢ []
lands_nonempty files c es t e = false≢true (subst (λ xs. lands files c xs ≡ true) e t)

pub counted_from : (files : List Graph) (c : Config) (es : List EdgeAt) → IsSome (run files c es) → IsStraight files c es → lands files c es ≡ true → IsCounted files c es
counted_from files c es runs straight t =
    record { nonempty = lands_nonempty files c es t; runs = runs; straight = straight; lands = by (or_cases _ _ t) }
  where
    by : (ends_cut files es ≡ true) ⊎ (completes files c es ≡ true) → IsClosed files es ⊎ IsComplete files c es
    by (inl h) = inl (closed_from files es h)
    by (inr h) = inr (complete_from files c es straight h)

pub lands_from : (files : List Graph) (c : Config) (es : List EdgeAt) → IsCounted files c es → lands files c es ≡ true
lands_from files c es h = by h.lands
  where
    by : IsClosed files es ⊎ IsComplete files c es → lands files c es ≡ true
    by (inl g) = or_left (ends_cut files es) (completes files c es) ((ends_cut_decides files es).1 g)
    by (inr g) = or_right (ends_cut files es) (completes files c es) (completes_from files c es g)

pub completes_tells : (files : List Graph) (c : Config) (es : List EdgeAt) → IsStraight files c es → IsTrue (completes files c es) ↔ IsComplete files c es
completes_tells files c es straight = (complete_from files c es straight, completes_from files c es)

pub lands_tells : (files : List Graph) (c : Config) (es : List EdgeAt) → IsSome (run files c es) → IsStraight files c es → IsTrue (lands files c es) ↔ IsCounted files c es
lands_tells files c es runs straight = (counted_from files c es runs straight, lands_from files c es)
