-- From all walks of a file to its weight and its path set.
use Rattle.std.proofs.Common.{◌≡◌, ℕ, ◌<◌, Bool, List, map, filter, Contains, sym, refl, subst}
use Rattle.std.specs.List.{AllByRecursion}
use Rattle.graph_nodes.specs.Graph.{Graph}
use Rattle.partial_path.specs.declared.config.EdgeAt.{EdgeAt}
use Rattle.partial_path.specs.declared.rule.Start.{Start}
use Rattle.partial_path.specs.Runs.{IsApart}
use Rattle.partial_path.specs.Rules.{Rule}
use Rattle.partial_path.specs.Walks.{alone, ends_landing, IsWalk, IsLandingWalk, AreWalks, Walk, walk_of, edges_of, IsWeight, IsHeavier}
use Rattle.partial_path.specs.PathSets.{IsRuleOf, IsLandingRule, walk_of_rule, IsPathSet}
use Rattle.list_facts.proofs.Each.{each_mapped, both_each}
use Rattle.list_facts.proofs.Members.{IsIn-filter, IsIn-filter_from, at_member, each_member, IsIn-from_Contains, Contains-from_IsIn}
use Rattle.list_facts.proofs.Apart.{IsApart-filter}

-- all walks of the file
abbrev pub AreAll : Graph → List Walk → Type 0
AreAll g noted = (start : Start) (es : List EdgeAt) → IsWalk g start es → Contains noted (walk_of start es)

pub is_weight : (g : Graph) (noted : List Walk) → AreWalks g noted → AreAll g noted → IsWeight g (edges_of noted)
is_weight g noted are all = (noted, are, all, refl)

pub is_heavier : (g : Graph) (noted : List Walk) (limit : ℕ) → AreWalks g noted → limit < edges_of noted → IsHeavier limit g
is_heavier g noted limit are over = (noted, are, over)

-- whether the walk is a landing one
abbrev pub is_landing : Graph → Walk → Bool
is_landing g w = ends_landing (alone g) w.edges

landing_each : (g : Graph) (noted : List Walk) → AreWalks g noted
    → AllByRecursion (λ (w : Walk). IsLandingWalk g w.start w.edges) (filter (is_landing g) noted)
landing_each g noted are =
    each_member (λ (w : Walk). IsLandingWalk g w.start w.edges) (filter (is_landing g) noted)
    (λ w h. let k = IsIn-filter_from (is_landing g) w noted h in
    record { walk = at_member (λ (v : Walk). IsWalk g v.start v.edges) w noted are.each k.0; lands = k.1 })

-- rules of the landing ones among all walks, one for each, are the path set
pub is_path_set : (g : Graph) (noted : List Walk) (rules : List Rule) → AreWalks g noted → AreAll g noted
    → AllByRecursion (IsRuleOf g) rules → map walk_of_rule rules ≡ filter (is_landing g) noted → IsPathSet g rules
is_path_set g noted rules are all exact same = record {
  sound = both_each (λ (r : Rule). IsLandingWalk g r.start r.edges) (IsRuleOf g) (IsLandingRule g) rules
      (λ r lands is. record { lands = lands; exact = is })
      (each_mapped (λ (w : Walk). IsLandingWalk g w.start w.edges) walk_of_rule rules
      (subst (λ (ws : List Walk). AllByRecursion (λ (w : Walk). IsLandingWalk g w.start w.edges) ws) (sym same) (landing_each g noted are))) exact;
  complete = λ (start : Start) (es : List EdgeAt) lands.
      subst (λ (ws : List Walk). Contains ws (walk_of start es)) (sym same)
      (Contains-from_IsIn (filter (is_landing g) noted) (walk_of start es)
      (IsIn-filter (is_landing g) (walk_of start es) noted
      (IsIn-from_Contains noted (walk_of start es) (all start es lands.walk)) lands.lands));
  once = subst (λ (ws : List Walk). IsApart ws) (sym same) (IsApart-filter (is_landing g) noted are.once);
}
