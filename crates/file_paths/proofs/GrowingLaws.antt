-- The rules of one edge more than a rule's, gathered edge by edge by joining.
use Rattle.std.proofs.Common.{◌≡◌, ◌<◌, ℕ, List, [], ◌∷◌, ◌++◌, map, length, Option, Some, None, IfSome, option_to_list, false, Contains, inl, refl, sym, ap, ◌∙◌, subst, append_assoc, append-nil}
use Rattle.std.specs.List.{AllByRecursion}
use Rattle.std.proofs.lemmas.List.{map-append}
use Rattle.graph_nodes.specs.Graph.{Graph}
use Rattle.graph_nodes.specs.Out.{edges_from}
use Rattle.graph_nodes.specs.declared.node.Place.{Place}
use Rattle.partial_path.specs.declared.config.EdgeAt.{EdgeAt}
use Rattle.partial_path.specs.Rules.{Rule}
use Rattle.partial_path.specs.Runs.{IsApart}
use Rattle.partial_path.specs.Walks.{alone, IsWalk, Walk}
use Rattle.partial_path.specs.PathSets.{IsRuleOf, walk_of_rule}
use Rattle.file_paths.specs.Walking.{ends_cut, one_more, AreLonger}
use Rattle.file_paths.specs.Finding.{MayGoOn, GoesOnFrom, IsLongerRule, AreLongerRules, AddsFound, AddsLonger}
use Rattle.list_facts.specs.Members.{IsIn}
use Rattle.list_facts.proofs.Members.{IsIn-append_right, Contains-from_IsIn, IsIn-from_Contains}
use Rattle.list_facts.proofs.Each.{all_push}
use Rattle.list_facts.proofs.Apart.{IsApart-last, IsApart-append_left}
use Rattle.file_paths.proofs.GatherLaws.{AreLongerSoFar, none_tried, tried_none, tried_more, all_tried}
use Rattle.file_paths.proofs.UnitLaws.{edge_in}
use Rattle.partial_path.proofs.Positions.{IsApart-edges_from}
use Rattle.file_paths.proofs.EdgesLaws.{edges_from-there}

-- a rule that is a walk and doesn't end with a cut edge
pub walk_may_go_on : (g : Graph) (p : Rule) → IsRuleOf g p → IsWalk g p.start p.edges → ends_cut (alone g) p.edges ≡ false → MayGoOn g p
walk_may_go_on g p exact walk on = record { exact = exact; begins = walk.begins; uncut = walk.uncut; on = on }

-- of the file's edges these were tried, and these are rules for the walks of one edge more with them
pub record AreRulesSoFar (g : Graph) (w : Walk) (tried : List ℕ) (longer : List Rule) : Type 0 where
  pub walks : AreLongerSoFar g w tried (map walk_of_rule longer)
  pub exact : AllByRecursion (IsRuleOf g) longer

pub grown_none : (g : Graph) (w : Walk) → AreRulesSoFar g w [] []
grown_none g w = record { walks = none_tried g w; exact = tt }

-- one rule more, for the walk with the edge more
pub grown_by : (g : Graph) (w : Walk) (i : ℕ) (j : Rule) (tried : List ℕ) (longer : List Rule) → AreRulesSoFar g w tried longer
    → ¬ Contains tried i → walk_of_rule j ≡ one_more w (edge_in i) → IsWalk g j.start j.edges → IsRuleOf g j
    → AreRulesSoFar g w (tried ++ i ∷ []) (longer ++ j ∷ [])
grown_by g w i j tried longer so new same walk exact = record {
  walks = subst (AreLongerSoFar g w (tried ++ i ∷ [])) (sym pushed)
      (tried_more g w tried i (map walk_of_rule longer) so.walks new (subst (λ (v : Walk). IsWalk g v.start v.edges) same walk));
  exact = all_push (IsRuleOf g) longer j so.exact exact;
}
  where
    pushed : map walk_of_rule (longer ++ j ∷ []) ≡ map walk_of_rule longer ++ one_more w (edge_in i) ∷ []
    pushed = map-append walk_of_rule longer (j ∷ []) ∙ ap (λ (v : Walk). map walk_of_rule longer ++ v ∷ []) same

-- all edges with which the walk may go on were tried
pub grown_all : (g : Graph) (w : Walk) (tried : List ℕ) (longer : List Rule) → AreRulesSoFar g w tried longer
    → ((e : EdgeAt) → IsWalk g w.start (w.edges ++ e ∷ []) → (i : ℕ) × (e ≡ edge_in i) × Contains tried i)
    → AreLonger g w (map walk_of_rule longer)
grown_all g w tried longer so all = all_tried g w tried (map walk_of_rule longer) so.walks all

-- an edge of a list of edges that differ isn't among those before
pub untried : (tried rest : List ℕ) (i : ℕ) → IsApart (tried ++ i ∷ rest) → ¬ Contains tried i
untried tried rest i h =
    λ k. IsApart-last tried i (IsApart-append_left (tried ++ i ∷ []) rest (subst (λ (xs : List ℕ). IsApart xs) (sym (append_assoc tried (i ∷ []) rest)) h)) (IsIn-from_Contains tried i k)

-- the edges from a place, of which some were tried and these are left; so far these are rules for the longer
-- walks
pub record IsGrowing (g : Graph) (w : Walk) (from : Place) (left : List ℕ) (longer : List Rule) : Type 0 where
  pub tried : List ℕ
  pub whole : tried ++ left ≡ edges_from g from
  pub so : AreRulesSoFar g w tried longer

pub growing_begins : (g : Graph) (w : Walk) (from : Place) → IsGrowing g w from (edges_from g from) []
growing_begins g w from = record { tried = []; whole = refl; so = grown_none g w }

next_left : (tried rest left whole : List ℕ) (i : ℕ) → left ≡ i ∷ rest → tried ++ left ≡ whole → (tried ++ i ∷ []) ++ rest ≡ whole
next_left tried rest left whole i is h = append_assoc tried (i ∷ []) rest ∙ (ap (λ (xs : List ℕ). tried ++ xs) (sym is) ∙ h)

-- the next edge leaves the place, and is one of the file
pub growing_in : (g : Graph) (w : Walk) (from : Place) (left rest : List ℕ) (i : ℕ) (longer : List Rule) → IsGrowing g w from left longer
    → left ≡ i ∷ rest → Contains (edges_from g from) i
growing_in g w from left rest i longer h is =
    Contains-from_IsIn (edges_from g from) i
    (subst (λ (xs : List ℕ). IsIn i xs) h.whole
    (IsIn-append_right i h.tried left (subst (λ (xs : List ℕ). IsIn i xs) (sym is) (inl refl))))

pub growing_there : (g : Graph) (w : Walk) (from : Place) (left rest : List ℕ) (i : ℕ) (longer : List Rule) → IsGrowing g w from left longer
    → left ≡ i ∷ rest → i < length g.edges
growing_there g w from left rest i longer h is = edges_from-there g from i (growing_in g w from left rest i longer h is)

-- it makes the walk longer
pub growing_more : (g : Graph) (w : Walk) (from : Place) (left rest : List ℕ) (i : ℕ) (longer : List Rule) (j : Rule) → IsGrowing g w from left longer
    → left ≡ i ∷ rest → IsLongerRule g w i j → IsGrowing g w from rest (longer ++ j ∷ [])
growing_more g w from left rest i longer j h is one = record {
  tried = h.tried ++ i ∷ [];
  whole = next_left h.tried rest left (edges_from g from) i is h.whole;
  so = grown_by g w i j h.tried longer h.so
      (untried h.tried rest i
      (subst (λ (xs : List ℕ). IsApart xs) (sym (ap (λ (xs : List ℕ). h.tried ++ xs) (sym is) ∙ h.whole)) (IsApart-edges_from g from)))
      one.same one.walk one.exact;
}

-- or it doesn't
pub growing_same : (g : Graph) (w : Walk) (from : Place) (left rest : List ℕ) (i : ℕ) (longer : List Rule) → IsGrowing g w from left longer
    → left ≡ i ∷ rest → ¬ IsWalk g w.start (w.edges ++ edge_in i ∷ []) → IsGrowing g w from rest longer
growing_same g w from left rest i longer h is none = record {
  tried = h.tried ++ i ∷ [];
  whole = next_left h.tried rest left (edges_from g from) i is h.whole;
  so = record { walks = tried_none g w h.tried i (map walk_of_rule longer) h.so.walks none; exact = h.so.exact };
}

-- in the end all edges were tried
pub growing_ends : (g : Graph) (w : Walk) (from : Place) (left : List ℕ) (longer : List Rule) → IsGrowing g w from left longer → left ≡ []
    → GoesOnFrom g w from → AreLongerRules g w longer
growing_ends g w from left longer h is onward = record {
  walks = grown_all g w h.tried longer h.so
      (λ e walk. let k = onward e walk in (k.0, k.1, subst (λ (xs : List ℕ). Contains xs k.0) (sym all) k.2));
  exact = h.so.exact;
}
  where
    all : h.tried ≡ edges_from g from
    all = sym (append-nil h.tried) ∙ (ap (λ (xs : List ℕ). h.tried ++ xs) (sym is) ∙ h.whole)

-- to these rules were added those for the longer walks so far
pub record IsAdding (g : Graph) (w : Walk) (from : Place) (left : List ℕ) (old : List Rule) (now : List Rule) : Type 0 where
  pub longer : List Rule
  pub growing : IsGrowing g w from left longer
  pub added : now ≡ old ++ longer

pub adding_begins : (g : Graph) (w : Walk) (from : Place) (left : List ℕ) (old : List Rule) → left ≡ edges_from g from → IsAdding g w from left old old
adding_begins g w from left old is = record {
  longer = [];
  growing = subst (λ (xs : List ℕ). IsGrowing g w from xs []) (sym is) (growing_begins g w from);
  added = sym (append-nil old);
}

pub adding_there : (g : Graph) (w : Walk) (from : Place) (left rest : List ℕ) (i : ℕ) (old now : List Rule) → IsAdding g w from left old now
    → left ≡ i ∷ rest → i < length g.edges
adding_there g w from left rest i old now h is = growing_there g w from left rest i h.longer h.growing is

-- a rule is added
pub adding_more : (g : Graph) (w : Walk) (from : Place) (left rest : List ℕ) (i : ℕ) (old now new : List Rule) (j : Rule) → IsAdding g w from left old now
    → left ≡ i ∷ rest → IsLongerRule g w i j → new ≡ now ++ j ∷ [] → IsAdding g w from rest old new
adding_more g w from left rest i old now new j h is one pushed = record {
  longer = h.longer ++ j ∷ [];
  growing = growing_more g w from left rest i h.longer j h.growing is one;
  added = pushed ∙ (ap (λ (ps : List Rule). ps ++ j ∷ []) h.added ∙ append_assoc old h.longer (j ∷ []));
}

-- or none, where the edge doesn't make the walk longer
adding_found : (g : Graph) (w : Walk) (from : Place) (left rest : List ℕ) (i : ℕ) (old now new : List Rule) (found : Option Rule)
    → IsAdding g w from left old now → left ≡ i ∷ rest → IfSome found (IsLongerRule g w i)
    → (found ≡ None → ¬ IsWalk g w.start (w.edges ++ edge_in i ∷ [])) → new ≡ now ++ option_to_list found → IsAdding g w from rest old new
adding_found g w from left rest i old now new (Some j) h is one none pushed = adding_more g w from left rest i old now new j h is one pushed
adding_found g w from left rest i old now new None h is one none pushed = record {
  longer = h.longer;
  growing = growing_same g w from left rest i h.longer h.growing is (none refl);
  added = pushed ∙ (append-nil now ∙ h.added);
}

pub adding_rule : (g : Graph) (w : Walk) (from : Place) (left rest : List ℕ) (i : ℕ) (old now new : List Rule)
    → IsAdding g w from left old now → left ≡ i ∷ rest → AddsFound g w i now new → IsAdding g w from rest old new
adding_rule g w from left rest i old now new h is adds = adding_found g w from left rest i old now new adds.found h is adds.joined adds.none adds.added

-- in the end there are rules for all longer walks
pub adding_ends : (g : Graph) (w : Walk) (from : Place) (left : List ℕ) (old now : List Rule) → IsAdding g w from left old now → left ≡ []
    → GoesOnFrom g w from → AddsLonger g w old now
adding_ends g w from left old now h is onward = (h.longer, growing_ends g w from left h.longer h.growing is onward, h.added)
