-- Finding a file's paths: rules of begun walks, rules of the landing ones among those noted, their edges
-- and their number.
use Rattle.std.proofs.Common.{◌≡◌, ℕ, ◌+◌, ◌<◌, ◌≤◌, List, [], ◌∷◌, ◌++◌, map, filter, length, cond, Bool, true, false, IsTrue, Contains, sym, refl, ap, ◌∙◌, subst, length-append, append-nil, inl, inr}
use Rattle.std.specs.List.{AllByRecursion}
use Rattle.std.proofs.lemmas.List.{map-append}
use Rattle.std.proofs.lemmas.List.Elements.{filter-append}
use Rattle.std.proofs.lemmas.List.Sums.{sum_by_push}
use Rattle.graph_nodes.specs.Graph.{Graph}
use Rattle.partial_path.specs.declared.rule.Start.{Start}
use Rattle.partial_path.specs.Rules.{Rule}
use Rattle.partial_path.specs.Walks.{alone, ends_landing, starts_walks, IsWalk, AreWalks, Walk, edges_of, IsWeight, IsHeavier}
use Rattle.partial_path.specs.PathSets.{IsRuleOf, walk_of_rule, IsPathSet}
use Rattle.file_paths.specs.Walking.{AreFirst, AreLonger, IsUnderWay}
use Rattle.file_paths.specs.Finding.{IsFinding}
use Rattle.list_facts.specs.Members.{IsIn}
use Rattle.list_facts.proofs.Each.{all_push, all-append, all-left}
use Rattle.list_facts.proofs.Members.{at_member, IsIn-append_right}
use Rattle.list_facts.proofs.Apart.{IsApart-append}
use Rattle.file_paths.proofs.PrefixLaws.{goes_on_itself}
use Rattle.file_paths.proofs.BegunLaws.{Past, begins_under_way, noted_walks, noted_all, swap_begun}
use Rattle.file_paths.proofs.StepLaws.{notes_last}
use Rattle.file_paths.proofs.SumsLaws.{walks_few, weight_holds}
use Rattle.file_paths.proofs.SetLaws.{AreAll, is_landing, is_weight, is_heavier, is_path_set}

pub finding_begins : (g : Graph) (starts : List Start) (begun : List Rule) → AreFirst g starts (map walk_of_rule begun)
    → ((start : Start) → IsTrue (starts_walks g start) → Contains starts start) → AllByRecursion (IsRuleOf g) begun → IsFinding g [] begun 0 0
finding_begins g starts begun first all exact = record {
  noted = [];
  way = begins_under_way g starts (map walk_of_rule begun) first all;
  landed = refl;
  exact = tt;
  ahead = exact;
  weighs = refl;
  counts = refl;
}

-- the noted walks and the next one are walks of the file
next_walks : (g : Graph) (noted begun : List Walk) (w : Walk) → IsUnderWay g noted (begun ++ w ∷ []) → AreWalks g (noted ++ w ∷ [])
next_walks g noted begun w h = record {
  each = all_push (λ (v : Walk). IsWalk g v.start v.edges) noted w first.were first.are.0;
  once = IsApart-append noted (w ∷ []) first.once (tt, tt) (λ v k e. apart v k e);
}
  where
    first : IsUnderWay g noted (w ∷ begun)
    first = swap_begun g noted begun (w ∷ []) h

    apart : (v : Walk) → IsIn v noted → IsIn v (w ∷ []) → ⊥
    apart v k (inl e) =
        (at_member (Past (w ∷ begun)) w noted first.past (subst (λ (x : Walk). IsIn x noted) e k)).0 (goes_on_itself w)
    apart v k (inr e) = e

mapped_push : (begun : List Rule) (p : Rule) → map walk_of_rule (begun ++ p ∷ []) ≡ map walk_of_rule begun ++ walk_of_rule p ∷ []
mapped_push begun p = map-append walk_of_rule begun (p ∷ [])

filtered_push : {X : Type 0} (p : X → Bool) (xs : List X) (x : X) → filter p (xs ++ x ∷ []) ≡ filter p xs ++ cond (p x) (x ∷ []) []
filtered_push p xs x = filter-append p xs (x ∷ [])

module _ (g : Graph) (rules begun : List Rule) (p : Rule) (weight count : ℕ) (h : IsFinding g rules (begun ++ p ∷ []) weight count) where
  next_way : IsUnderWay g h.noted (map walk_of_rule begun ++ walk_of_rule p ∷ [])
  next_way = subst (IsUnderWay g h.noted) (mapped_push begun p) h.way

  next_are : AreWalks g (h.noted ++ walk_of_rule p ∷ [])
  next_are = next_walks g h.noted (map walk_of_rule begun) (walk_of_rule p) next_way

  next_weighs : weight + length p.edges ≡ edges_of (h.noted ++ walk_of_rule p ∷ [])
  next_weighs =
      ap (λ (n : ℕ). n + length p.edges) h.weighs
      ∙ sym (sum_by_push (λ (w : Walk). length w.edges) h.noted (walk_of_rule p))

  next_counts : count + 1 ≡ length (h.noted ++ walk_of_rule p ∷ [])
  next_counts = ap (λ (n : ℕ). n + 1) h.counts ∙ sym (length-append h.noted (walk_of_rule p ∷ []))

  -- the next rule is one of the file, and its walk is a walk
  pub next_is_rule : IsRuleOf g p
  next_is_rule = at_member (IsRuleOf g) p (begun ++ p ∷ []) h.ahead (IsIn-append_right p begun (p ∷ []) (inl refl))

  pub next_is_walk : IsWalk g p.start p.edges
  next_is_walk =
      at_member (λ (w : Walk). IsWalk g w.start w.edges) (walk_of_rule p) (map walk_of_rule begun ++ walk_of_rule p ∷ []) next_way.are
      (IsIn-append_right (walk_of_rule p) (map walk_of_rule begun) (walk_of_rule p ∷ []) (inl refl))

  -- with it the walks are no more than their edges, and have no more edges than the file's walks
  pub next_few : count + 1 ≤ weight + length p.edges
  next_few = subst (λ (n : ℕ). n ≤ weight + length p.edges) (sym next_counts)
      (subst (λ (n : ℕ). length (h.noted ++ walk_of_rule p ∷ []) ≤ n) (sym next_weighs) (walks_few g (h.noted ++ walk_of_rule p ∷ []) next_are))

  pub next_within : (whole : ℕ) → IsWeight g whole → weight + length p.edges ≤ whole
  next_within whole is =
      subst (λ (n : ℕ). n ≤ whole) (sym next_weighs) (weight_holds g (h.noted ++ walk_of_rule p ∷ []) whole next_are is)

  -- where they have more edges than the limit, so does the file
  pub next_heavy : (limit : ℕ) → limit < weight + length p.edges → IsHeavier limit g
  next_heavy limit over =
      is_heavier g (h.noted ++ walk_of_rule p ∷ []) limit next_are (subst (λ (n : ℕ). limit < n) next_weighs over)

  next_under_way : (longer : List Rule) → AreLonger g (walk_of_rule p) (map walk_of_rule longer)
      → IsUnderWay g (h.noted ++ walk_of_rule p ∷ []) (map walk_of_rule (begun ++ longer))
  next_under_way longer are =
      subst (IsUnderWay g (h.noted ++ walk_of_rule p ∷ [])) (sym (map-append walk_of_rule begun longer))
      (notes_last g h.noted (map walk_of_rule begun) (walk_of_rule p) (map walk_of_rule longer) next_way are)

  next_landed : (b : Bool) → ends_landing (alone g) p.edges ≡ b
      → filter (is_landing g) (h.noted ++ walk_of_rule p ∷ []) ≡ map walk_of_rule rules ++ cond b (walk_of_rule p ∷ []) []
  next_landed b is =
      filtered_push (is_landing g) h.noted (walk_of_rule p)
      ∙ (ap (λ (ws : List Walk). ws ++ cond (ends_landing (alone g) p.edges) (walk_of_rule p ∷ []) []) (sym h.landed)
      ∙ ap (λ (t : Bool). map walk_of_rule rules ++ cond t (walk_of_rule p ∷ []) []) is)

  -- the next rule is of a landing walk, and kept
  pub finding_lands : (longer : List Rule) → AreLonger g (walk_of_rule p) (map walk_of_rule longer) → AllByRecursion (IsRuleOf g) longer
      → ends_landing (alone g) p.edges ≡ true → IsFinding g (rules ++ p ∷ []) (begun ++ longer) (weight + length p.edges) (count + 1)
  finding_lands longer are exact lands = record {
    noted = h.noted ++ walk_of_rule p ∷ [];
    way = next_under_way longer are;
    landed = mapped_push rules p ∙ sym (next_landed true lands);
    exact = all_push (IsRuleOf g) rules p h.exact next_is_rule;
    ahead = all-append (IsRuleOf g) begun longer (all-left (IsRuleOf g) begun (p ∷ []) h.ahead) exact;
    weighs = next_weighs;
    counts = next_counts;
  }

  -- or it isn't
  pub finding_passes : (longer : List Rule) → AreLonger g (walk_of_rule p) (map walk_of_rule longer) → AllByRecursion (IsRuleOf g) longer
      → ends_landing (alone g) p.edges ≡ false → IsFinding g rules (begun ++ longer) (weight + length p.edges) (count + 1)
  finding_passes longer are exact passes = record {
    noted = h.noted ++ walk_of_rule p ∷ [];
    way = next_under_way longer are;
    landed = sym (append-nil (map walk_of_rule rules)) ∙ sym (next_landed false passes);
    exact = h.exact;
    ahead = all-append (IsRuleOf g) begun longer (all-left (IsRuleOf g) begun (p ∷ []) h.ahead) exact;
    weighs = next_weighs;
    counts = next_counts;
  }

module _ (g : Graph) (rules : List Rule) (weight count : ℕ) (h : IsFinding g rules [] weight count) where
  -- in the end the rules are the path set
  pub found_set : IsPathSet g rules
  found_set = is_path_set g h.noted rules (noted_walks g h.noted h.way) (noted_all g h.noted h.way) h.exact h.landed

  -- the number of edges is the weight
  pub found_weight : IsWeight g weight
  found_weight = subst (IsWeight g) (sym h.weighs) (is_weight g h.noted (noted_walks g h.noted h.way) (noted_all g h.noted h.way))

  -- and the number of walks is that of all walks
  pub found_count : (walks : List Walk) × AreWalks g walks × AreAll g walks × (count ≡ length walks)
  found_count = (h.noted, noted_walks g h.noted h.way, noted_all g h.noted h.way, h.counts)

-- on the way, too, the noted walks are no more than their edges, and have no more edges than all walks
pub finding_few : (g : Graph) (rules begun : List Rule) (weight count : ℕ) → IsFinding g rules begun weight count → count ≤ weight
finding_few g rules begun weight count h =
    subst (λ (n : ℕ). n ≤ weight) (sym h.counts)
    (subst (λ (n : ℕ). length h.noted ≤ n) (sym h.weighs) (walks_few g h.noted (record { each = h.way.were; once = h.way.once })))

pub finding_within : (g : Graph) (rules begun : List Rule) (weight count whole : ℕ) → IsFinding g rules begun weight count → IsWeight g whole → weight ≤ whole
finding_within g rules begun weight count whole h is =
    subst (λ (n : ℕ). n ≤ whole) (sym h.weighs) (weight_holds g h.noted whole (record { each = h.way.were; once = h.way.once }) is)
