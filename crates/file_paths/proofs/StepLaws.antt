-- Under way: a begun walk is noted, and in its place the walks of one edge more are begun.
use Rattle.std.proofs.Common.{◌≡◌, List, [], ◌∷◌, ◌++◌, Contains, ◌⊎◌, inl, inr, sym, ◌∙◌, subst, append-nil, append_assoc, true}
use Rattle.std.specs.List.{AllByRecursion}
use Rattle.graph_nodes.specs.Graph.{Graph}
use Rattle.partial_path.specs.declared.config.EdgeAt.{EdgeAt}
use Rattle.partial_path.specs.declared.rule.Start.{Start}
use Rattle.partial_path.specs.Walks.{alone, IsWalk, Walk}
use Rattle.file_paths.specs.Walking.{ends_cut, one_more, GoesOn, AreLonger, ArePrefixFree, IsUnderWay}
use Rattle.list_facts.specs.Members.{IsIn}
use Rattle.list_facts.specs.Apart.{Pairs}
use Rattle.list_facts.proofs.Members.{IsIn-append_left, IsIn-append_right, IsIn-append_cases, at_member, each_member, in_rest, IsIn-from_Contains, Contains-from_IsIn}
use Rattle.list_facts.proofs.Pairs.{Pairs-append, either}
use Rattle.list_facts.proofs.Apart.{Differ, all_differ}
use Rattle.file_paths.proofs.PairsLaws.{AreAside}
use Rattle.file_paths.proofs.PrefixLaws.{IsWalk-one_more, ends_cut-no_more, walk_same, goes_on_itself, goes_on_on, one_more-goes_on, one_more-from, no_way_back}
use Rattle.file_paths.proofs.BegunLaws.{Past, From, swap_begun, swap_noted}

-- a walk of one edge more
abbrev pub IsLonger : Graph → Walk → Walk → Type 0
IsLonger g w l = ((e : EdgeAt) × (l ≡ one_more w e)) × IsWalk g l.start l.edges

longer_on : (w l : Walk) (e : EdgeAt) → l ≡ one_more w e → GoesOn l w
longer_on w l e is = subst (λ (k : Walk). GoesOn k w) (sym is) (one_more-goes_on w e)

-- the walk doesn't go on from one with an edge more
back_from_longer : (w l : Walk) (e : EdgeAt) → l ≡ one_more w e → ¬ GoesOn w l
back_from_longer w l e is on = no_way_back w e (subst (GoesOn w) is on)

-- what a walk of one edge more goes on from
longer_from : (w l o : Walk) (e : EdgeAt) → l ≡ one_more w e → GoesOn l o → GoesOn w o ⊎ (l ≡ o)
longer_from w l o e is on =
    in_rest (GoesOn w o) (one_more w e ≡ o) (l ≡ o) (λ same. is ∙ same) (one_more-from w o e (subst (λ (k : Walk). GoesOn k o) is on))

longer_same : (w l k : Walk) (e f : EdgeAt) → l ≡ one_more w e → k ≡ one_more w f → GoesOn l k → l ≡ k
longer_same w l k e f is ks on =
    either (GoesOn w k) (l ≡ k) (l ≡ k) (λ h. absurd (back_from_longer w k f ks h)) (λ h. h) (longer_from w l k e is on)

longer_free : (g : Graph) (w : Walk) (ls : List Walk) → AllByRecursion (IsLonger g w) ls → Pairs Differ ls → Pairs AreAside ls
longer_free g w [] each differ = tt
longer_free g w (l ∷ ls) each differ = (each_member (AreAside l) ls aside, longer_free g w ls each.1 differ.1)
  where
    aside : (k : Walk) → IsIn k ls → AreAside l k
    aside k h =
        let ne : Differ l k = at_member (Differ l) k ls differ.0 h in
        let more : IsLonger g w k = at_member (IsLonger g w) k ls each.1 h in (
          λ on. ne (longer_same w l k each.0.0.0 more.0.0 each.0.0.1 more.0.1 on),
          λ on. ne (sym (longer_same w k l more.0.0 each.0.0.0 more.0.1 each.0.0.1 on)),
        )

-- a walk of one edge more is aside from what the walk itself is aside from
longer_aside : (w l o : Walk) (e : EdgeAt) → l ≡ one_more w e → AreAside w o → AreAside l o
longer_aside w l o e is aside = (
  λ on. either (GoesOn w o) (l ≡ o) ⊥ aside.0 (λ same. aside.1 (subst (λ (k : Walk). GoesOn k w) same (longer_on w l e is))) (longer_from w l o e is on),
  λ on. aside.1 (goes_on_on o l w on (longer_on w l e is)),
)

module _ (g : Graph) (noted begun : List Walk) (w : Walk) (longer : List Walk) (h : IsUnderWay g noted (w ∷ begun)) (are : AreLonger g w longer) where
  each_longer : (l : Walk) → IsIn l longer → IsLonger g w l
  each_longer l k = at_member (IsLonger g w) l longer are.each k

  all_walks : AllByRecursion (λ (o : Walk). IsWalk g o.start o.edges) (longer ++ begun)
  all_walks =
      each_member (λ (o : Walk). IsWalk g o.start o.edges) (longer ++ begun)
      (λ o k. either (IsIn o longer) (IsIn o begun) (IsWalk g o.start o.edges)
      (λ l. (each_longer o l).1) (λ b. at_member (λ (v : Walk). IsWalk g v.start v.edges) o begun h.are.1 b)
      (IsIn-append_cases o longer begun k))

  not_noted : IsIn w noted → ⊥
  not_noted k = (at_member (Past (w ∷ begun)) w noted h.past k).0 (goes_on_itself w)

  past_longer : (o : Walk) → ¬ GoesOn o w → Past begun o → Past (longer ++ begun) o
  past_longer o aside past =
      each_member (λ (v : Walk). ¬ GoesOn o v) (longer ++ begun)
      (λ v k. either (IsIn v longer) (IsIn v begun) (¬ GoesOn o v)
      (λ l on. aside (goes_on_on o v w on (longer_on w v (each_longer v l).0.0 (each_longer v l).0.1)))
      (λ b. at_member (λ (u : Walk). ¬ GoesOn o u) v begun past b)
      (IsIn-append_cases v longer begun k))

  past_itself : Past (longer ++ begun) w
  past_itself =
      each_member (λ (v : Walk). ¬ GoesOn w v) (longer ++ begun)
      (λ v k. either (IsIn v longer) (IsIn v begun) (¬ GoesOn w v)
      (λ l. back_from_longer w v (each_longer v l).0.0 (each_longer v l).0.1)
      (λ b. (at_member (AreAside w) v begun h.apart.0 b).0)
      (IsIn-append_cases v longer begun k))

  free : ArePrefixFree (longer ++ begun)
  free =
      Pairs-append AreAside longer begun (longer_free g w longer are.each are.once) h.apart.1
      (λ l o k b. longer_aside w l o (each_longer l k).0.0 (each_longer l k).0.1 (at_member (AreAside w) o begun h.apart.0 b))

  from_w : (v : Walk) → IsWalk g v.start v.edges → v.start ≡ w.start → (more : List EdgeAt) → v.edges ≡ w.edges ++ more
      → Contains (w ∷ noted) v ⊎ From (longer ++ begun) v
  from_w v walk same [] is =
      inl (Contains-from_IsIn (w ∷ noted) v (inl (walk_same v w same (is ∙ append-nil w.edges))))
  from_w v walk same (e ∷ more) is =
      let there : IsWalk g w.start (w.edges ++ e ∷ more) = subst (IsWalk g w.start) is (subst (λ (s : Start). IsWalk g s v.edges) same walk) in
      let k = are.all e (IsWalk-one_more g w.start w.edges more e there) in
      inr (
        one_more w e,
        Contains-from_IsIn (longer ++ begun) (one_more w e) (IsIn-append_left (one_more w e) longer begun (IsIn-from_Contains longer (one_more w e) k)),
        (same, (more, is ∙ sym (append_assoc w.edges (e ∷ []) more))),
      )

  from_begun : (v o : Walk) → IsWalk g v.start v.edges → IsIn o (w ∷ begun) → GoesOn v o → Contains (w ∷ noted) v ⊎ From (longer ++ begun) v
  from_begun v o walk (inl e) on =
      let onw : GoesOn v w = subst (GoesOn v) e on in from_w v walk onw.0 onw.1.0 onw.1.1
  from_begun v o walk (inr k) on =
      inr (o, Contains-from_IsIn (longer ++ begun) o (IsIn-append_right o longer begun k), on)

  reaches : (v : Walk) → IsWalk g v.start v.edges → Contains (w ∷ noted) v ⊎ From (longer ++ begun) v
  reaches v walk =
      either (Contains noted v) (From (w ∷ begun) v) (Contains (w ∷ noted) v ⊎ From (longer ++ begun) v)
      (λ k. inl (Contains-from_IsIn (w ∷ noted) v (inr (IsIn-from_Contains noted v k))))
      (λ k. from_begun v k.0 walk (IsIn-from_Contains (w ∷ begun) k.0 k.1) k.2)
      (h.reached v walk)

  pub notes_first : IsUnderWay g (w ∷ noted) (longer ++ begun)
  notes_first = record {
    were = (h.are.0, h.were);
    are = all_walks;
    once = (all_differ w noted not_noted, h.once);
    past = (
      past_itself,
      each_member (Past (longer ++ begun)) noted
          (λ o k. let p = at_member (Past (w ∷ begun)) o noted h.past k in past_longer o p.0 p.1),
    );
    apart = free;
    reached = reaches;
  }

-- the same where the last of the begun walks is noted last
pub notes_last : (g : Graph) (noted begun : List Walk) (w : Walk) (longer : List Walk) → IsUnderWay g noted (begun ++ w ∷ []) → AreLonger g w longer
    → IsUnderWay g (noted ++ w ∷ []) (begun ++ longer)
notes_last g noted begun w longer h are =
    swap_noted g (w ∷ []) noted (begun ++ longer)
    (swap_begun g (w ∷ noted) longer begun
    (notes_first g noted begun w longer (swap_begun g noted begun (w ∷ []) h) are))

-- behind a cut edge no walk goes on
pub none_longer : (g : Graph) (w : Walk) → ends_cut (alone g) w.edges ≡ true → AreLonger g w []
none_longer g w cut = record {
  each = tt;
  once = tt;
  all = λ (e : EdgeAt) walk. absurd (ends_cut-no_more (alone g) w.edges e walk.uncut cut);
}
