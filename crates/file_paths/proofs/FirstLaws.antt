-- The rules of one edge, gathered start by start: with all of them the finding begins.
use Rattle.std.proofs.Common.{◌≡◌, ℕ, ◌-◌, ◌<◌, ◌≤◌, List, [], ◌∷◌, ◌++◌, map, length, Bool, true, false, Contains, refl, sym, subst, append-nil}
use Rattle.std.specs.List.{AllByRecursion}
use Rattle.std.proofs.lemmas.List.{map-append}
use Rattle.graph_nodes.specs.Graph.{Graph, is_reference}
use Rattle.graph_nodes.specs.Checked.{IsChecked}
use Rattle.graph_nodes.specs.Cut.{is_cut}
use Rattle.graph_nodes.specs.declared.node.Place.TheVariants as place
use Rattle.partial_path.specs.declared.config.Spot.TheVariants as spot
use Rattle.partial_path.specs.declared.rule.Start.{Start}
use Rattle.partial_path.specs.declared.rule.Start.TheVariants.{After}
use Rattle.partial_path.specs.Rules.{Rule}
use Rattle.partial_path.specs.Walks.{walk_of}
use Rattle.partial_path.specs.PathSets.{IsRuleOf, walk_of_rule}
use Rattle.file_paths.specs.Walking.{no_edges, AreFirst, AreLonger}
use Rattle.file_paths.specs.Finding.{AddsLonger, AddsFirst, AreFirstRules, IsFinding, after_node, before_node, start_if, starts_after, starts_rooted, starts_before, all_starts}
use Rattle.list_facts.proofs.Each.{all-append}
use Rattle.file_paths.proofs.StartsLaws.{no_first, first_more}
use Rattle.file_paths.proofs.EachStartLaws.{starts-all, after_new, root_new, before_new, starts_after-more, starts_before-more}
use Rattle.file_paths.proofs.FindingLaws.{finding_begins}

-- a rule without edges stands for its start
pub start_walk : (p : Rule) (start : Start) → p.start ≡ start → p.edges ≡ [] → walk_of_rule p ≡ no_edges start
start_walk p start h k = λ i. walk_of (h i) (k i)

first_start : (g : Graph) (starts : List Start) (first : List Rule) (start : Start) (longer : List Rule) → AreFirstRules g starts first
    → ¬ Contains starts start → AreLonger g (no_edges start) (map walk_of_rule longer) → AllByRecursion (IsRuleOf g) longer
    → AreFirstRules g (starts ++ start ∷ []) (first ++ longer)
first_start g starts first start longer are new more exact = record {
  walks = subst (AreFirst g (starts ++ start ∷ [])) (sym (map-append walk_of_rule first longer))
      (first_more g starts (map walk_of_rule first) start (map walk_of_rule longer) are.walks new more);
  exact = all-append (IsRuleOf g) first longer are.exact exact;
}

-- those of a start, where the test passes
first_tested : (g : Graph) (starts : List Start) (first now : List Rule) (start : Start) (b : Bool) → AreFirstRules g starts first
    → ¬ Contains starts start → AddsFirst g b start first now → AreFirstRules g (starts ++ start_if b start) now
first_tested g starts first now start true are new adds =
    let more = adds.some refl in
    subst (AreFirstRules g (starts ++ start ∷ [])) (sym more.2) (first_start g starts first start more.0 are new more.1.walks more.1.exact)
first_tested g starts first now start false are new adds =
    subst (AreFirstRules g (starts ++ [])) (sym (adds.none refl)) (subst (λ (ss : List Start). AreFirstRules g ss first) (sym (append-nil starts)) are)

-- none yet
pub first_none : (g : Graph) (first : List Rule) → first ≡ [] → AreFirstRules g [] first
first_none g first empty = subst (AreFirstRules g []) (sym empty) (record { walks = no_first g; exact = tt })

-- the start after the next node was looked at
pub after_more : (g : Graph) (m : ℕ) (first now : List Rule) → 0 < m → m ≤ length g.nodes → AreFirstRules g (starts_after g (length g.nodes - m)) first
    → AddsFirst g (is_cut g (place.At (m - 1))) (after_node (m - 1)) first now → AreFirstRules g (starts_after g (length g.nodes - (m - 1))) now
after_more g m first now some low are adds =
    subst (λ (ss : List Start). AreFirstRules g ss now) (sym (starts_after-more g m some low))
    (first_tested g (starts_after g (length g.nodes - m)) first now (after_node (m - 1)) (is_cut g (place.At (m - 1))) are (after_new g m some low) adds)

-- the root's follow
pub first_root : (g : Graph) (first now : List Rule) → AreFirstRules g (starts_after g (length g.nodes)) first
    → AddsLonger g (no_edges (After spot.Root)) first now → AreFirstRules g (starts_rooted g) now
first_root g first now are more =
    subst (AreFirstRules g (starts_rooted g)) (sym more.2)
    (first_start g (starts_after g (length g.nodes)) first (After spot.Root) more.0 are (root_new g) more.1.walks more.1.exact)

-- the start before the next node was looked at
pub before_more : (g : Graph) (m : ℕ) (first now : List Rule) → 0 < m → m ≤ length g.nodes → AreFirstRules g (starts_before g (length g.nodes - m)) first
    → AddsFirst g (is_reference g.nodes (m - 1)) (before_node (m - 1)) first now → AreFirstRules g (starts_before g (length g.nodes - (m - 1))) now
before_more g m first now some low are adds =
    subst (λ (ss : List Start). AreFirstRules g ss now) (sym (starts_before-more g m some low))
    (first_tested g (starts_before g (length g.nodes - m)) first now (before_node (m - 1)) (is_reference g.nodes (m - 1)) are (before_new g m some low) adds)

-- all starts were looked at
pub first_all : (g : Graph) (first : List Rule) → IsChecked g → AreFirstRules g (all_starts g) first → IsFinding g [] first 0 0
first_all g first checked are = finding_begins g (all_starts g) first are.walks (starts-all g checked) are.exact
