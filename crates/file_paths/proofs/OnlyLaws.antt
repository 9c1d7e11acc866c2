-- A path is made longer by the one edge that leads on from it: what it then is, or that no walk goes on.
use Rattle.std.proofs.Common.{◌≡◌, ◌+◌, ◌<◌, ℕ, List, [], ◌∷◌, ◌++◌, length, Bool, true, false, Option, IfSome, option_to_list, append-nil, refl, sym, ap, ◌∙◌, subst}
use Rattle.graph_nodes.specs.Graph.{Graph}
use Rattle.graph_nodes.specs.Out.{edges_from}
use Rattle.graph_nodes.specs.declared.node.Place.{Place}
use Rattle.partial_path.specs.declared.path.PathParts.{PathParts}
use Rattle.partial_path.specs.Rules.{Rule, IsRule}
use Rattle.partial_path.specs.PathSets.{walk_of_rule}
use Rattle.path_join.specs.Extended.{IsExtended, rule_apart, rule_if}
use Rattle.file_paths.specs.Finding.{IsShort, AddsLonger}
use Rattle.file_paths.proofs.GrowingLaws.{adding_begins, adding_there, adding_rule, adding_ends}
use Rattle.file_paths.proofs.LastLaws.{LeadsOn}
use Rattle.file_paths.proofs.NextLaws.{extended_rule, extended_none, extended_short}

module _ (g : Graph) (p : Rule) (from : Place) (i : ℕ) (only : edges_from g from ≡ i ∷ []) where
  pub only_there : i < length g.edges
  only_there =
      adding_there g (walk_of_rule p) from (i ∷ []) [] i [] []
      (adding_begins g (walk_of_rule p) from (i ∷ []) [] (sym only)) refl

  -- with it all longer walks were tried
  only_longer : (old : List Rule) (found : Option Rule) → LeadsOn g p from → IsExtended g p i found
      → AddsLonger g (walk_of_rule p) old (old ++ option_to_list found)
  only_longer old found on is =
      adding_ends g (walk_of_rule p) from [] old (old ++ option_to_list found)
      (adding_rule g (walk_of_rule p) from (i ∷ []) [] i old old (old ++ option_to_list found)
      (adding_begins g (walk_of_rule p) from (i ∷ []) old (sym only)) refl
      (record { found = found; joined = extended_rule g i p found is on.may; none = extended_none g i p found is on.may; added = refl }))
      refl on.onward

module _ (g : Graph) (p : Rule) (from : Place) (i : ℕ) (only : edges_from g from ≡ i ∷ []) (b : Bool) (parts : PathParts) (is : IsExtended g p i (rule_if b parts)) where
  -- no walk goes on
  pub only_none : (old : List Rule) → LeadsOn g p from → b ≡ false → AddsLonger g (walk_of_rule p) old old
  only_none old on f =
      subst (AddsLonger g (walk_of_rule p) old) (ap (λ (t : Bool). old ++ option_to_list (rule_if t parts)) f ∙ append-nil old)
      (only_longer g p from i only old (rule_if b parts) on is)

  -- or the one that the path now is
  pub only_some : (old : List Rule) → LeadsOn g p from → b ≡ true → AddsLonger g (walk_of_rule p) old (old ++ rule_apart parts ∷ [])
  only_some old on t =
      subst (AddsLonger g (walk_of_rule p) old) (ap (λ (x : Bool). old ++ option_to_list (rule_if x parts)) t)
      (only_longer g p from i only old (rule_if b parts) on is)

  pub only_short : (limit : ℕ) → IsShort limit p → IsRule p → b ≡ true → IsShort (limit + 1) (rule_apart parts)
  only_short limit short rule t =
      subst (λ (x : Bool). IfSome (rule_if x parts) (IsShort (limit + 1))) t (extended_short g i p (rule_if b parts) is limit short rule)
