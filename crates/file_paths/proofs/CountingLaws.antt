-- Finding a file's paths with a counter of steps, one for each walk.
use Rattle.std.proofs.Common.{◌≡◌, ◌≢◌, ℕ, suc, ◌+◌, ◌-◌, ◌<◌, ◌≤◌, List, [], ◌∷◌, ◌++◌, length, take, Bool, true, false, if◌then◌else◌, ◌||◌, append-nil, refl, sym, ap, ◌∙◌, subst, arith}
use Rattle.std.specs.List.{AllByRecursion}
use Rattle.graph_nodes.specs.Graph.{Graph}
use Rattle.graph_nodes.specs.declared.node.Place.{Place}
use Rattle.graph_nodes.specs.Checked.{IsChecked}
use Rattle.graph_nodes.specs.Cut.{is_cut}
use Rattle.partial_path.specs.declared.config.EdgeAt.{EdgeAt}
use Rattle.partial_path.specs.Rules.{Rule}
use Rattle.partial_path.specs.Walks.{alone, ends_landing, is_definition_place, IsWalk, IsWeight, IsHeavier}
use Rattle.partial_path.specs.PathSets.{IsRuleOf, walk_of_rule, IsPathSet}
use Rattle.file_paths.specs.Finding.{IsFinding, AreFirstRules, AreLongerRules, AddsLonger, EndsWith, LeadsTo, if_landing, all_starts, IsShort}
use Rattle.file_paths.specs.Finds.{AddsWalks}
use Rattle.file_paths.proofs.SinkLaws.{walk_last}
use Rattle.file_paths.proofs.FirstLaws.{first_all}
use Rattle.file_paths.proofs.LastLaws.{LeadsOn, leads_on, keeps_none}
use Rattle.file_paths.proofs.FindingLaws.{next_is_rule, next_is_walk, next_few, next_within, next_heavy, finding_lands, finding_passes, found_set, found_weight, found_count, finding_few, finding_within}

pub counting_begins : (g : Graph) (rules first : List Rule) (count : ℕ) → IsChecked g → AreFirstRules g (all_starts g) first → rules ≡ [] → count ≡ 0
    → IsFinding g rules first 0 count
counting_begins g rules first count checked are none zero =
    subst (λ (n : ℕ). IsFinding g rules first 0 n) (sym zero)
    (subst (λ (ps : List Rule). IsFinding g ps first 0 0) (sym none) (first_all g first checked are))

-- the counter, which was 0 before, is never far
pub counting_few : (g : Graph) (rules begun : List Rule) (weight old count limit : ℕ) → IsFinding g rules begun weight count → weight ≤ limit → count ≤ old + limit
counting_few g rules begun weight old count limit h low = by (finding_few g rules begun weight count h)
  where
    by : count ≤ weight → count ≤ old + limit
    by k = omega (arith, low)

pub counting_within : (g : Graph) (rules begun : List Rule) (weight old count whole : ℕ) → IsFinding g rules begun weight count → IsWeight g whole → count ≤ old + whole
counting_within g rules begun weight old count whole h is =
    counting_few g rules begun weight old count whole h (finding_within g rules begun weight count whole h is)

-- the last begun path is taken
pub takes : (g : Graph) (rules before begun : List Rule) (p : Rule) (weight count : ℕ) → IsFinding g rules before weight count
    → before ≡ begun ++ p ∷ [] → IsFinding g rules (begun ++ p ∷ []) weight count
takes g rules before begun p weight count h is = subst (λ (ps : List Rule). IsFinding g rules ps weight count) is h

-- the path is another, as its parts tell
pub takes_apart : (g : Graph) (rules begun : List Rule) (p q : Rule) (weight count : ℕ) → q ≡ p → IsFinding g rules (begun ++ p ∷ []) weight count
    → IsFinding g rules (begun ++ q ∷ []) weight count
takes_apart g rules begun p q weight count same h = subst (λ (r : Rule). IsFinding g rules (begun ++ r ∷ []) weight count) (sym same) h

-- the path taken is one of a walk, and with it the counter is never far
module _ (g : Graph) (rules begun : List Rule) (p : Rule) (weight count : ℕ) (h : IsFinding g rules (begun ++ p ∷ []) weight count) where
  pub taken_rule : IsRuleOf g p
  taken_rule = next_is_rule g rules begun p weight count h

  pub taken_walk : IsWalk g p.start p.edges
  taken_walk = next_is_walk g rules begun p weight count h

  pub taken_few : (limit : ℕ) → weight ≤ limit → count + 1 ≤ limit + 1
  taken_few limit low = by (finding_few g rules (begun ++ p ∷ []) weight count h)
    where
      by : count ≤ weight → count + 1 ≤ limit + 1
      by k = omega (arith, low)

  pub taken_within : (whole : ℕ) → IsWeight g whole → count + 1 ≤ whole
  taken_within whole weighs = by (length p.edges) (next_few g rules begun p weight count h) (next_within g rules begun p weight count h whole weighs)
    where
      by : (n : ℕ) → count + 1 ≤ weight + n → weight + n ≤ whole → count + 1 ≤ whole
      by n k l = omega arith

-- it is counted, its edges being these
module _ (g : Graph) (rules begun : List Rule) (p : Rule) (weight count : ℕ) (h : IsFinding g rules (begun ++ p ∷ []) weight count) (es : List EdgeAt) (same : es ≡ p.edges) where
  pub taken_last : EndsWith g es
  taken_last = subst (EndsWith g) (sym same) (walk_last g p.start p.edges (taken_walk g rules begun p weight count h))

  pub taken_heavy : (limit : ℕ) → limit < weight + length es → IsHeavier limit g
  taken_heavy limit over =
      next_heavy g rules begun p weight count h limit (subst (λ (xs : List EdgeAt). limit < weight + length xs) same over)

  pub taken_short : (limit : ℕ) → IsShort (limit + 1) p → weight + length es ≤ limit → IsShort limit p
  taken_short limit short low = record {
    edges = by (length p.edges) (subst (λ (xs : List EdgeAt). weight + length xs ≤ limit) same low);
    peak = short.peak;
  }
    where
      by : (n : ℕ) → weight + n ≤ limit → n ≤ limit
      by n low = omega arith

  -- the weight rises
  pub taken_heavier : weight < weight + length es
  taken_heavier = by (length es) (subst (λ (xs : List EdgeAt). 0 < length xs) (sym same) (some p.edges (taken_walk g rules begun p weight count h).nonempty))
    where
      some : (xs : List EdgeAt) → xs ≢ [] → 0 < length xs
      some [] none = absurd (none refl)
      some (x ∷ xs) none = more (length xs)
        where
          more : (n : ℕ) → 0 < suc n
          more n = omega arith

      by : (n : ℕ) → 0 < n → weight < weight + n
      by n k = omega arith

  pub taken_smaller : (limit : ℕ) → weight ≤ limit → (limit + 1) - (weight + length es) < (limit + 1) - weight
  taken_smaller limit low = by (length es) taken_heavier
    where
      by : (n : ℕ) → weight < weight + n → (limit + 1) - (weight + n) < (limit + 1) - weight
      by n k = omega (arith, low)

  kept_by : (b : Bool) → ends_landing (alone g) p.edges ≡ b → (longer : List Rule) → AreLongerRules g (walk_of_rule p) longer
      → IsFinding g (rules ++ (if b then p ∷ [] else [])) (begun ++ longer) (weight + length p.edges) (count + 1)
  kept_by true lands longer are = finding_lands g rules begun p weight count h longer are.walks are.exact lands
  kept_by false passes longer are =
      subst (λ (ps : List Rule). IsFinding g ps (begun ++ longer) (weight + length p.edges) (count + 1)) (sym (append-nil rules))
      (finding_passes g rules begun p weight count h longer are.walks are.exact passes)

  pub taken_kept : (after kept : List Rule) → AddsLonger g (walk_of_rule p) begun after → kept ≡ rules ++ if_landing g p → IsFinding g kept after (weight + length es) (count + 1)
  taken_kept after kept adds k =
      subst (λ (xs : List EdgeAt). IsFinding g kept after (weight + length xs) (count + 1)) (sym same)
      (subst (λ (ps : List Rule). IsFinding g ps after (weight + length p.edges) (count + 1)) (sym k)
      (subst (λ (ps : List Rule). IsFinding g (rules ++ if_landing g p) ps (weight + length p.edges) (count + 1)) (sym adds.2)
      (kept_by (ends_landing (alone g) p.edges) refl adds.0 adds.1)))

  -- where it doesn't land, no path is found, and those that go on from it are begun
  pub taken_passed : (sink : Place) → LeadsTo g p.edges sink → (is_cut g sink || is_definition_place (alone g) 0 sink) ≡ false → (after : List Rule)
      → (LeadsOn g p sink → AddsLonger g (walk_of_rule p) begun after) → IsFinding g rules after (weight + length es) (count + 1)
  taken_passed sink leads unlanded after adds =
      taken_kept after rules
      (adds (leads_on g p sink (taken_rule g rules begun p weight count h) (taken_walk g rules begun p weight count h) leads unlanded))
      (keeps_none g p sink rules leads unlanded)

-- the same where the path is whole again
pub whole_kept : (g : Graph) (rules begun : List Rule) (p q : Rule) (weight count : ℕ) (es : List EdgeAt) → es ≡ p.edges
    → IsFinding g rules (begun ++ p ∷ []) weight count → q ≡ p
    → (after kept : List Rule) → AddsLonger g (walk_of_rule q) begun after → kept ≡ rules ++ if_landing g q
    → IsFinding g kept after (weight + length es) (count + 1)
whole_kept g rules begun p q weight count es same h is after kept adds k =
    taken_kept g rules begun q weight count (takes_apart g rules begun p q weight count is h)
    es (same ∙ sym (ap (λ (r : Rule). r.edges) is)) after kept adds k

module _ (g : Graph) (rules begun : List Rule) (weight count : ℕ) (none : begun ≡ []) (h : IsFinding g rules begun weight count) where
  last : IsFinding g rules [] weight count
  last = subst (λ (ps : List Rule). IsFinding g rules ps weight count) none h

  pub counted_set : IsPathSet g rules
  counted_set = found_set g rules weight count last

  pub counted_weight : IsWeight g weight
  counted_weight = found_weight g rules weight count last

  pub counted_steps : (old : ℕ) → old ≡ 0 → AddsWalks g old count
  counted_steps old zero = (count, found_count g rules weight count last, by)
    where
      by : count ≡ old + count
      by = omega (arith, zero)

-- short paths, of which the last is taken
pub short_last : (limit : ℕ) (before begun : List Rule) (p : Rule) → before ≡ begun ++ p ∷ [] → AllByRecursion (IsShort limit) before
    → AllByRecursion (IsShort limit) begun × IsShort limit p
short_last limit before begun p is all = by begun (subst (λ (ps : List Rule). AllByRecursion (IsShort limit) ps) is all)
  where
    by : (ps : List Rule) → AllByRecursion (IsShort limit) (ps ++ p ∷ []) → AllByRecursion (IsShort limit) ps × IsShort limit p
    by [] all = (tt, all.0)
    by (x ∷ ps) all = ((all.0, (by ps all.1).0), (by ps all.1).1)

-- a list of which none is taken has none
pub none_left : {X : Type 0} (n : ℕ) (xs new : List X) → n ≡ 0 → xs ≡ new ++ [] → new ≡ take (n - 1) xs → xs ≡ []
none_left n xs new z e t = e ∙ (append-nil new ∙ (t ∙ ap (λ (k : ℕ). take (k - 1) xs) z))

-- what fits
pub short_fits : (limit : ℕ) (es there : List EdgeAt) → length es ≤ limit → there ≡ es → length there ≤ limit
short_fits limit es there low same = subst (λ (xs : List EdgeAt). length xs ≤ limit) (sym same) low

pub least : (n : ℕ) → 0 ≤ n
least n = omega arith

pub alike : (n : ℕ) → n ≤ n
alike n = omega arith

pub one_above : (n m k : ℕ) → n ≤ m + k → n ≤ m + (k + 1)
one_above n m k h = omega arith
