-- A rule joined with that of one edge: it is the rule of the longer run, and where no configuration passes
-- both, there is no such walk.
use Rattle.std.proofs.Common.{◌≡◌, ◌≢◌, ℕ, max, List, [], ◌∷◌, ◌++◌, Option, Some, None, IsSome, is_some, IsTrue, refl, sym, ap, ◌∙◌, subst, false}
use Rattle.std.specs.Option.{option_and_then}
use Rattle.std.proofs.lemmas.Bool.{false≢true}
use Rattle.graph_nodes.specs.Graph.{Graph}
use Rattle.partial_path.specs.declared.config.Spot.{Spot}
use Rattle.partial_path.specs.declared.config.Config.{Config}
use Rattle.partial_path.specs.declared.config.EdgeAt.{EdgeAt}
use Rattle.partial_path.specs.declared.rule.Start.{Start}
use Rattle.partial_path.specs.Runs.{run}
use Rattle.partial_path.specs.Rules.{Rule}
use Rattle.partial_path.specs.Apply.{apply, height}
use Rattle.partial_path.specs.Walks.{alone, run_from, highest_from, starts_walks, IsUncut, IsWalk, walk_of}
use Rattle.partial_path.specs.PathSets.{IsRuleOf, walk_of_rule}
use Rattle.path_join.specs.Joins.{IsJoin, NonePasses, apply_both}
use Rattle.file_paths.specs.Walking.{ends_cut, one_more}
use Rattle.file_paths.proofs.PrefixLaws.{IsUncut_push, push≢nil}
use Rattle.partial_path.proofs.RunsOn.{run_from-append, run_one, highest_from-append}
use Rattle.file_paths.proofs.UnitLaws.{edge_in, IsUnitOf, unit_applies, unit_height}

same_then : (f h : Config → Option Config) → ((d : Config) → f d ≡ h d) → (o : Option Config) → option_and_then f o ≡ option_and_then h o
same_then f h same None = refl
same_then f h same (Some d) = same d

-- applying both is the run with the edge more
pub both_run : (g : Graph) (i : ℕ) (s : Spot) (p u : Rule) → IsRuleOf g p → IsUnitOf g i s u → (c : Config)
    → apply_both p u c ≡ run_from (alone g) p.start (p.edges ++ edge_in i ∷ []) c
both_run g i s p u rule unit c =
    same_then (apply u) (λ (d : Config). run (alone g) d (edge_in i ∷ []))
    (λ d. unit_applies g i s u unit d ∙ sym (run_one (alone g) d (edge_in i))) (apply p c)
    ∙ (ap (λ (o : Option Config). option_and_then (λ (d : Config). run (alone g) d (edge_in i ∷ [])) o) (rule.applies c)
    ∙ sym (run_from-append (alone g) p.start p.edges (edge_in i ∷ []) c))

-- the joined rule has the edges of the first, and this edge
pub joined_edges : (g : Graph) (i : ℕ) (s : Spot) (p u j : Rule) → IsUnitOf g i s u → IsJoin p u j → j.edges ≡ p.edges ++ edge_in i ∷ []
joined_edges g i s p u j unit join = join.edges ∙ ap (λ (es : List EdgeAt). p.edges ++ es) unit.edges

pub joined_walk_of : (g : Graph) (i : ℕ) (s : Spot) (p u j : Rule) → IsUnitOf g i s u → IsJoin p u j → walk_of_rule j ≡ one_more (walk_of_rule p) (edge_in i)
joined_walk_of g i s p u j unit join = λ n. walk_of (join.start n) (joined_edges g i s p u j unit join n)

joined_runs : (g : Graph) (i : ℕ) (s : Spot) (p u j : Rule) → IsUnitOf g i s u → IsJoin p u j → (c : Config)
    → run_from (alone g) p.start (p.edges ++ edge_in i ∷ []) c ≡ run_from (alone g) j.start j.edges c
joined_runs g i s p u j unit join c = sym (λ n. run_from (alone g) (join.start n) (joined_edges g i s p u j unit join n) c)

-- where both have a result, what the first makes
pub both_made : (p u : Rule) (o : Option Config) → IsSome (option_and_then (apply u) o) → (d : Config) × (o ≡ Some d) × IsSome (apply u d)
both_made p u None h = cc
both_made p u (Some d) h = (d, refl, h)

module _ (g : Graph) (i : ℕ) (s : Spot) (p u j : Rule) (rule : IsRuleOf g p) (unit : IsUnitOf g i s u) (join : IsJoin p u j) where
  joined_high : (c d : Config) → apply p c ≡ Some d → IsSome (apply u d) → height j c ≡ highest_from (alone g) j.start j.edges c
  joined_high c d made some =
      join.high c d made some
      ∙ (ap (λ (n : ℕ). max n (height u d)) (rule.peak c (ap is_some made))
      ∙ (ap (λ (n : ℕ). max (highest_from (alone g) p.start p.edges c) n) (unit_height g i s u unit d some)
      ∙ (sym (highest_from-append (alone g) p.start p.edges (edge_in i ∷ []) c d (sym (rule.applies c) ∙ made))
      ∙ sym (λ n. highest_from (alone g) (join.start n) (joined_edges g i s p u j unit join n) c))))

  joined_peak : (c : Config) → IsSome (apply j c) → height j c ≡ highest_from (alone g) j.start j.edges c
  joined_peak c some =
      let made = both_made p u (apply p c) (subst (λ (o : Option Config). IsSome o) (join.applies c) some) in
      joined_high c made.0 made.1 made.2

  -- the joined rule is the rule of its own edges
  pub joined_is_rule : IsRuleOf g j
  joined_is_rule = record {
    files = join.files rule.files unit.exact.files;
    applies = λ (c : Config). join.applies c ∙ (both_run g i s p u rule unit c ∙ joined_runs g i s p u j unit join c);
    peak = joined_peak;
  }

  -- and where the first may go on, the joined one is a walk
  pub joined_is_walk : IsTrue (starts_walks g p.start) → IsUncut (alone g) p.edges → ends_cut (alone g) p.edges ≡ false → IsWalk g j.start j.edges
  joined_is_walk begins uncut on = record {
    begins = subst (λ (start : Start). IsTrue (starts_walks g start)) (sym join.start) begins;
    nonempty = subst (λ (es : List EdgeAt). es ≢ []) (sym is) (push≢nil p.edges (edge_in i));
    uncut = subst (IsUncut (alone g)) (sym is) (IsUncut_push (alone g) p.edges (edge_in i) uncut on);
    runs = (join.passed.0, subst (λ (o : Option Config). IsSome o) (joined_is_rule.applies join.passed.0) join.passed.1);
  }
    where
      is : j.edges ≡ p.edges ++ edge_in i ∷ []
      is = joined_edges g i s p u j unit join

-- where no configuration passes both, none runs the edge more
pub none_runs : (g : Graph) (i : ℕ) (s : Spot) (p u : Rule) → IsRuleOf g p → IsUnitOf g i s u → NonePasses p u → (c : Config)
    → run_from (alone g) p.start (p.edges ++ edge_in i ∷ []) c ≡ None
none_runs g i s p u rule unit none c = sym (both_run g i s p u rule unit c) ∙ none c

no_result : (o : Option Config) → o ≡ None → IsSome o → ⊥
no_result o e some = false≢true (sym (ap is_some e) ∙ some)

pub no_walk : (g : Graph) (i : ℕ) (s : Spot) (p u : Rule) → IsRuleOf g p → IsUnitOf g i s u → NonePasses p u → IsWalk g p.start (p.edges ++ edge_in i ∷ []) → ⊥
no_walk g i s p u rule unit none walk =
    no_result (run_from (alone g) p.start (p.edges ++ edge_in i ∷ []) walk.runs.0) (none_runs g i s p u rule unit none walk.runs.0) walk.runs.1
