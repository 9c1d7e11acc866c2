-- When paths stay straight with one path more, and that their beginnings are straight.
use Rattle.std.proofs.Common.{◌≡◌, ℕ, Bool, true, false, not, ◌&&◌, List, [], ◌∷◌, ◌++◌, Some, sym, refl, ap, ◌∙◌, subst, append-nil, filter, cond}
use Rattle.std.specs.List.{list_any}
use Rattle.std.proofs.lemmas.List.Elements.{filter-append}
use Rattle.std.proofs.lemmas.Bool.{false≢true, false_from_ne_true}
use Rattle.partial_path.specs.declared.config.Config.{Config}
use Rattle.partial_path.specs.declared.rule.Start.TheVariants.{Before}
use Rattle.partial_path.specs.Runs.{IsApart}
use Rattle.partial_path.specs.Same.{config_eq}
use Rattle.partial_path.specs.Rules.{Rule}
use Rattle.partial_path.specs.Apply.{apply}
use Rattle.partial_path.specs.Moved.{moved}
use Rattle.partial_path.specs.Cutting.{LeadFrom, landings}
use Rattle.partial_path.specs.Laws.{AreStraightPaths}
use Rattle.stitcher.specs.Joins.{Asked, origin, is_at_cut, met_at_cuts, keeps_straight, with_path}
use Rattle.list_facts.specs.Members.{IsIn}
use Rattle.list_facts.proofs.Members.{passing_member, list_any-from_member}
use Rattle.list_facts.proofs.Apart.{IsApart_push, IsApart-last, IsApart-append_left}
use Rattle.partial_path.proofs.Equals.{config_eq-Decides}
use Rattle.stitcher.proofs.Leading.{landings-with, landings-append}

apart_with : (b : Bool) (xs : List Config) (next : Config) → not (b && list_any (config_eq next) xs) ≡ true → IsApart xs → IsApart (xs ++ cond b (next ∷ []) [])
apart_with true xs next t h =
    IsApart_push xs next h
    (λ g. false≢true (ap not (sym (list_any-from_member (config_eq next) next xs g ((config_eq-Decides next next).1 refl))) ∙ t))
apart_with false xs next t h = subst IsApart (sym (append-nil xs)) h

with_apart : (b : Bool) (xs : List Config) (next : Config) → IsApart (xs ++ cond b (next ∷ []) []) → not (b && list_any (config_eq next) xs) ≡ true
with_apart true xs next h =
    ap not (false_from_ne_true (list_any (config_eq next) xs)
    (λ t. let m = passing_member (config_eq next) xs t in
    IsApart-last xs next h (subst (λ (c : Config). IsIn c xs) (sym ((config_eq-Decides next m.0).0 m.2)) m.1)))
with_apart false xs next h = refl

module _ (q : Asked) where
  cut_there : Config → Bool
  cut_there c = is_at_cut q c

  met-with : (paths : List (ℕ × Rule)) (at next : Config) (p : ℕ × Rule) → LeadFrom q.files q.node paths at → apply (moved p.0 p.1) at ≡ Some next → met_at_cuts q (with_path paths p) ≡ met_at_cuts q paths ++ cond (is_at_cut q next) (next ∷ []) []
  met-with paths at next p h g =
      ap (λ (cs : List Config). q.start ∷ filter (λ (c : Config). is_at_cut q c) cs) (landings-with q.files (Before q.node) (origin q) at next paths p h g)
      ∙ ap (λ (cs : List Config). q.start ∷ cs) (filter-append (λ (c : Config). is_at_cut q c) (landings (origin q) paths) (next ∷ []))

  -- with a path that keeps them straight the paths are straight, and only with such a one
  pub straight_with : (paths : List (ℕ × Rule)) (at next : Config) (p : ℕ × Rule) → LeadFrom q.files q.node paths at → apply (moved p.0 p.1) at ≡ Some next → keeps_straight q paths next ≡ true → AreStraightPaths q.files q.node q.start paths → AreStraightPaths q.files q.node q.start (with_path paths p)
  straight_with paths at next p h g t s =
      subst IsApart (sym (met-with paths at next p h g)) (apart_with (is_at_cut q next) (met_at_cuts q paths) next t s)

  pub keeps_from : (paths : List (ℕ × Rule)) (at next : Config) (p : ℕ × Rule) → LeadFrom q.files q.node paths at → apply (moved p.0 p.1) at ≡ Some next → AreStraightPaths q.files q.node q.start (with_path paths p) → keeps_straight q paths next ≡ true
  keeps_from paths at next p h g s =
      with_apart (is_at_cut q next) (met_at_cuts q paths) next (subst IsApart (met-with paths at next p h g) s)

  -- the beginning of straight paths is straight
  pub straight_front : (paths rest : List (ℕ × Rule)) (at : Config) → LeadFrom q.files q.node paths at → AreStraightPaths q.files q.node q.start (paths ++ rest) → AreStraightPaths q.files q.node q.start paths
  straight_front paths rest at h s =
      let same : met_at_cuts q (paths ++ rest) ≡ met_at_cuts q paths ++ filter (λ (c : Config). is_at_cut q c) (landings at rest) =
      ap (λ (cs : List Config). q.start ∷ filter (λ (c : Config). is_at_cut q c) cs) (landings-append q.files (Before q.node) (origin q) at paths rest h)
      ∙ ap (λ (cs : List Config). q.start ∷ cs) (filter-append (λ (c : Config). is_at_cut q c) (landings (origin q) paths) (landings at rest)) in
      IsApart-append_left (met_at_cuts q paths) (filter (λ (c : Config). is_at_cut q c) (landings at rest)) (subst IsApart same s)
