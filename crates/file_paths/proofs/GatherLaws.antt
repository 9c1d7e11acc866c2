-- The walks of one edge more, gathered edge by edge, and the walks of one edge, gathered start by start.
use Rattle.std.proofs.Common.{◌≡◌, ℕ, List, [], ◌∷◌, ◌++◌, Contains, ◌⊎◌, inl, inr, sym, refl, ap, ◌∙◌, subst}
use Rattle.std.specs.List.{AllByRecursion}
use Rattle.std.proofs.lemmas.List.{same_from_push}
use Rattle.graph_nodes.specs.Graph.{Graph}
use Rattle.partial_path.specs.declared.config.EdgeAt.{EdgeAt}
use Rattle.partial_path.specs.Runs.{IsApart}
use Rattle.partial_path.specs.Walks.{IsWalk, Walk}
use Rattle.file_paths.specs.Walking.{one_more, AreLonger}
use Rattle.list_facts.specs.Members.{IsIn}
use Rattle.list_facts.proofs.Members.{IsIn-append_left, IsIn-append_right, IsIn-append_cases, at_member, each_member, IsIn-from_Contains, Contains-from_IsIn}
use Rattle.list_facts.proofs.Pairs.{either}
use Rattle.list_facts.proofs.Apart.{IsApart-append}
use Rattle.file_paths.proofs.UnitLaws.{edge_in}

-- the walk with one edge more, where that edge is one of these
abbrev pub IsLongerBy : Graph → Walk → List ℕ → Walk → Type 0
IsLongerBy g w tried l = ((i : ℕ) × IsIn i tried × (l ≡ one_more w (edge_in i))) × IsWalk g l.start l.edges

-- of the file's edges these were tried, and these are the walks of one edge more with them
pub record AreLongerSoFar (g : Graph) (w : Walk) (tried : List ℕ) (longer : List Walk) : Type 0 where
  pub each : AllByRecursion (IsLongerBy g w tried) longer
  pub once : IsApart longer
  pub all : (i : ℕ) → IsIn i tried → IsWalk g w.start (w.edges ++ edge_in i ∷ []) → IsIn (one_more w (edge_in i)) longer

pub none_tried : (g : Graph) (w : Walk) → AreLongerSoFar g w [] []
none_tried g w = record { each = tt; once = tt; all = λ (i : ℕ) h walk. absurd h }

more_tried : (g : Graph) (w : Walk) (tried : List ℕ) (i : ℕ) (longer : List Walk) → AllByRecursion (IsLongerBy g w tried) longer
    → AllByRecursion (IsLongerBy g w (tried ++ i ∷ [])) longer
more_tried g w tried i longer each =
    each_member (IsLongerBy g w (tried ++ i ∷ [])) longer
    (λ l h. let k = at_member (IsLongerBy g w tried) l longer each h in
    ((k.0.0, IsIn-append_left k.0.0 tried (i ∷ []) k.0.1, k.0.2), k.1))

-- the edge was tried, and there is no such walk
pub tried_none : (g : Graph) (w : Walk) (tried : List ℕ) (i : ℕ) (longer : List Walk) → AreLongerSoFar g w tried longer
    → ¬ IsWalk g w.start (w.edges ++ edge_in i ∷ []) → AreLongerSoFar g w (tried ++ i ∷ []) longer
tried_none g w tried i longer so none = record {
  each = more_tried g w tried i longer so.each;
  once = so.once;
  all = λ (k : ℕ) h walk. by_last k walk (IsIn-append_cases k tried (i ∷ []) h);
}
  where
    by_last : (k : ℕ) → IsWalk g w.start (w.edges ++ edge_in k ∷ []) → IsIn k tried ⊎ IsIn k (i ∷ []) → IsIn (one_more w (edge_in k)) longer
    by_last k walk (inl h) = so.all k h walk
    by_last k walk (inr (inl e)) = absurd (none (subst (λ (n : ℕ). IsWalk g w.start (w.edges ++ edge_in n ∷ [])) e walk))
    by_last k walk (inr (inr h)) = absurd h

last_edge : (w : Walk) (i k : ℕ) → one_more w (edge_in i) ≡ one_more w (edge_in k) → i ≡ k
last_edge w i k e = ap (λ (x : EdgeAt). x.edge) (same_from_push w.edges w.edges (edge_in i) (edge_in k) (ap (λ (x : Walk). x.edges) e)).1

-- the edge was tried, and there is one
pub tried_more : (g : Graph) (w : Walk) (tried : List ℕ) (i : ℕ) (longer : List Walk) → AreLongerSoFar g w tried longer
    → ¬ Contains tried i → IsWalk g w.start (w.edges ++ edge_in i ∷ [])
    → AreLongerSoFar g w (tried ++ i ∷ []) (longer ++ one_more w (edge_in i) ∷ [])
tried_more g w tried i longer so new walk = record {
  each = each_member (IsLongerBy g w (tried ++ i ∷ [])) (longer ++ one_more w (edge_in i) ∷ [])
      (λ l h. either (IsIn l longer) (IsIn l (one_more w (edge_in i) ∷ [])) (IsLongerBy g w (tried ++ i ∷ []) l)
      (λ k. at_member (IsLongerBy g w (tried ++ i ∷ [])) l longer (more_tried g w tried i longer so.each) k)
      (λ k. this l k) (IsIn-append_cases l longer (one_more w (edge_in i) ∷ []) h));
  once = IsApart-append longer (one_more w (edge_in i) ∷ []) so.once (tt, tt) (λ l h k. apart l h k);
  all = λ (k : ℕ) h found. by_last k found (IsIn-append_cases k tried (i ∷ []) h);
}
  where
    this : (l : Walk) → IsIn l (one_more w (edge_in i) ∷ []) → IsLongerBy g w (tried ++ i ∷ []) l
    this l (inl e) = (
      (i, IsIn-append_right i tried (i ∷ []) (inl refl), e),
      subst (λ (x : Walk). IsWalk g x.start x.edges) (sym e) walk,
    )
    this l (inr h) = absurd h

    apart : (l : Walk) → IsIn l longer → IsIn l (one_more w (edge_in i) ∷ []) → ⊥
    apart l h (inl e) =
        let k = at_member (IsLongerBy g w tried) l longer so.each h in
        new (Contains-from_IsIn tried i (subst (λ (n : ℕ). IsIn n tried) (last_edge w k.0.0 i (sym k.0.2 ∙ e)) k.0.1))
    apart l h (inr k) = k

    by_last : (k : ℕ) → IsWalk g w.start (w.edges ++ edge_in k ∷ []) → IsIn k tried ⊎ IsIn k (i ∷ []) → IsIn (one_more w (edge_in k)) (longer ++ one_more w (edge_in i) ∷ [])
    by_last k found (inl h) = IsIn-append_left (one_more w (edge_in k)) longer (one_more w (edge_in i) ∷ []) (so.all k h found)
    by_last k found (inr (inl e)) =
        IsIn-append_right (one_more w (edge_in k)) longer (one_more w (edge_in i) ∷ []) (inl (ap (λ (n : ℕ). one_more w (edge_in n)) e))
    by_last k found (inr (inr h)) = absurd h

-- where all edges with which the walk may go on were tried, these are the walks of one edge more
pub all_tried : (g : Graph) (w : Walk) (tried : List ℕ) (longer : List Walk) → AreLongerSoFar g w tried longer
    → ((e : EdgeAt) → IsWalk g w.start (w.edges ++ e ∷ []) → (i : ℕ) × (e ≡ edge_in i) × Contains tried i)
    → AreLonger g w longer
all_tried g w tried longer so all = record {
  each = each_member (λ (l : Walk). ((e : EdgeAt) × (l ≡ one_more w e)) × IsWalk g l.start l.edges) longer
      (λ l h. let k = at_member (IsLongerBy g w tried) l longer so.each h in ((edge_in k.0.0, k.0.2), k.1));
  once = so.once;
  all = λ (e : EdgeAt) walk. there e walk (all e walk);
}
  where
    there : (e : EdgeAt) → IsWalk g w.start (w.edges ++ e ∷ []) → (i : ℕ) × (e ≡ edge_in i) × Contains tried i → Contains longer (one_more w e)
    there e walk h =
        Contains-from_IsIn longer (one_more w e)
        (subst (λ (x : EdgeAt). IsIn (one_more w x) longer) (sym h.1)
        (so.all h.0 (IsIn-from_Contains tried h.0 h.2) (subst (λ (x : EdgeAt). IsWalk g w.start (w.edges ++ x ∷ [])) h.1 walk)))
