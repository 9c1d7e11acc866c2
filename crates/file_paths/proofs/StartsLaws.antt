-- The walks of one edge, gathered start by start.
use Rattle.std.proofs.Common.{◌≡◌, List, [], ◌∷◌, ◌++◌, Contains, ◌⊎◌, inl, inr, sym, ap, subst}
use Rattle.graph_nodes.specs.Graph.{Graph}
use Rattle.partial_path.specs.declared.config.EdgeAt.{EdgeAt}
use Rattle.partial_path.specs.declared.rule.Start.{Start}
use Rattle.partial_path.specs.Walks.{IsWalk, Walk, walk_of}
use Rattle.file_paths.specs.Walking.{no_edges, AreLonger, AreFirst}
use Rattle.list_facts.specs.Members.{IsIn}
use Rattle.list_facts.proofs.Members.{IsIn-append_left, IsIn-append_right, IsIn-append_cases, at_member, each_member, IsIn-from_Contains, Contains-from_IsIn}
use Rattle.list_facts.proofs.Pairs.{either}
use Rattle.list_facts.proofs.Apart.{IsApart-append}
use Rattle.file_paths.proofs.BegunLaws.{IsFirst}
use Rattle.file_paths.proofs.StepLaws.{IsLonger}

pub no_first : (g : Graph) → AreFirst g [] []
no_first g = record { each = tt; once = tt; all = λ (start : Start) (e : EdgeAt) h walk. absurd (IsIn-from_Contains [] start h) }

-- one start more: its walks of one edge are those of one edge more than none
pub first_more : (g : Graph) (starts : List Start) (first : List Walk) (start : Start) (longer : List Walk) → AreFirst g starts first
    → ¬ Contains starts start → AreLonger g (no_edges start) longer → AreFirst g (starts ++ start ∷ []) (first ++ longer)
first_more g starts first start longer are new more = record {
  each = each_member (IsFirst g (starts ++ start ∷ [])) (first ++ longer)
      (λ l h. either (IsIn l first) (IsIn l longer) (IsFirst g (starts ++ start ∷ []) l) (before l) (now l) (IsIn-append_cases l first longer h));
  once = IsApart-append first longer are.once more.once aside;
  all = λ (s : Start) (e : EdgeAt) h walk.
      Contains-from_IsIn (first ++ longer) (walk_of s (e ∷ []))
      (reached s e walk (IsIn-append_cases s starts (start ∷ []) (IsIn-from_Contains (starts ++ start ∷ []) s h)));
}
  where
    before : (l : Walk) → IsIn l first → IsFirst g (starts ++ start ∷ []) l
    before l h =
        let k = at_member (IsFirst g starts) l first are.each h in
        (k.0, Contains-from_IsIn (starts ++ start ∷ []) l.start (IsIn-append_left l.start starts (start ∷ []) (IsIn-from_Contains starts l.start k.1)), k.2)

    starts_so : (l : Walk) → IsIn l longer → l.start ≡ start
    starts_so l h = ap (λ (x : Walk). x.start) (at_member (IsLonger g (no_edges start)) l longer more.each h).0.1

    now : (l : Walk) → IsIn l longer → IsFirst g (starts ++ start ∷ []) l
    now l h =
        let k = at_member (IsLonger g (no_edges start)) l longer more.each h in (
          (k.0.0, ap (λ (x : Walk). x.edges) k.0.1),
          Contains-from_IsIn (starts ++ start ∷ []) l.start (IsIn-append_right l.start starts (start ∷ []) (inl (starts_so l h))),
          k.1,
        )

    aside : (l : Walk) → IsIn l first → IsIn l longer → ⊥
    aside l h k = new (subst (Contains starts) (starts_so l k) (at_member (IsFirst g starts) l first are.each h).1)

    reached : (s : Start) (e : EdgeAt) → IsWalk g s (e ∷ []) → IsIn s starts ⊎ IsIn s (start ∷ []) → IsIn (walk_of s (e ∷ [])) (first ++ longer)
    reached s e walk (inl h) =
        IsIn-append_left (walk_of s (e ∷ [])) first longer
        (IsIn-from_Contains first (walk_of s (e ∷ [])) (are.all s e (Contains-from_IsIn starts s h) walk))
    reached s e walk (inr (inl same)) =
        IsIn-append_right (walk_of s (e ∷ [])) first longer
        (subst (λ (x : Start). IsIn (walk_of x (e ∷ [])) longer) (sym same)
        (IsIn-from_Contains longer (walk_of start (e ∷ [])) (more.all e (subst (λ (x : Start). IsWalk g x (e ∷ [])) same walk))))
    reached s e walk (inr (inr h)) = absurd h
