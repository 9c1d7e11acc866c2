-- Under way: the walks of one edge are begun first, and in the end every walk is noted.
use Rattle.std.proofs.Common.{◌≡◌, List, [], ◌∷◌, ◌++◌, IsTrue, Contains, ◌⊎◌, inl, inr, sym, refl, ap, ◌∙◌}
use Rattle.std.specs.List.{AllByRecursion}
use Rattle.graph_nodes.specs.Graph.{Graph}
use Rattle.partial_path.specs.declared.config.EdgeAt.{EdgeAt}
use Rattle.partial_path.specs.declared.rule.Start.{Start}
use Rattle.partial_path.specs.Walks.{starts_walks, IsWalk, AreWalks, Walk, walk_of}
use Rattle.file_paths.specs.Walking.{GoesOn, AreFirst, IsUnderWay}
use Rattle.list_facts.specs.Members.{IsIn}
use Rattle.list_facts.specs.Apart.{Pairs}
use Rattle.list_facts.proofs.Members.{IsIn-swap, at_member, each_member, in_rest, IsIn-from_Contains, Contains-from_IsIn}
use Rattle.list_facts.proofs.Apart.{Differ, IsApart-swap}
use Rattle.file_paths.proofs.PairsLaws.{AreAside, free-swap}
use Rattle.file_paths.proofs.PrefixLaws.{IsWalk-prefix, cons≢nil, walk_same}

-- the walk has this one edge
abbrev pub HasOneEdge : Walk → Type 0
HasOneEdge w = (e : EdgeAt) × (w.edges ≡ e ∷ [])

one_from_one : (e f : EdgeAt) (more : List EdgeAt) → e ∷ [] ≡ f ∷ more → e ∷ [] ≡ f ∷ []
one_from_one e f more h = ap (λ (x : EdgeAt). x ∷ []) (first e f more h)
  where
    first : (e f : EdgeAt) (more : List EdgeAt) → e ∷ [] ≡ f ∷ more → e ≡ f
    first e f more h = cc

-- one walk of one edge goes on from another only where they are the same
one_edge_same : (w o : Walk) → HasOneEdge w → HasOneEdge o → GoesOn w o → w ≡ o
one_edge_same w o h k on =
    let is : h.0 ∷ [] ≡ k.0 ∷ on.1.0 = sym h.1 ∙ (on.1.1 ∙ ap (λ (es : List EdgeAt). es ++ on.1.0) k.1) in
    walk_same w o on.0 (h.1 ∙ (one_from_one h.0 k.0 on.1.0 is ∙ sym k.1))

free_of_one : (ws : List Walk) → AllByRecursion HasOneEdge ws → Pairs Differ ws → Pairs AreAside ws
free_of_one [] one differ = tt
free_of_one (w ∷ ws) one differ = (each_member (AreAside w) ws aside, free_of_one ws one.1 differ.1)
  where
    aside : (o : Walk) → IsIn o ws → AreAside w o
    aside o h =
        let ne : Differ w o = at_member (Differ w) o ws differ.0 h in
        let two : HasOneEdge o = at_member HasOneEdge o ws one.1 h in
        (λ on. ne (one_edge_same w o one.0 two on), λ on. ne (sym (one_edge_same o w two one.0 on)))

-- a walk goes on from the first walk with its first edge
from_first : (g : Graph) (starts : List Start) (first : List Walk) → AreFirst g starts first
    → ((start : Start) → IsTrue (starts_walks g start) → Contains starts start)
    → (start : Start) (es : List EdgeAt) → IsWalk g start es → (o : Walk) × Contains first o × GoesOn (walk_of start es) o
from_first g starts first are all start [] walk = absurd (walk.nonempty refl)
from_first g starts first are all start (e ∷ es) walk =
    let one = IsWalk-prefix g start (e ∷ []) es (cons≢nil e []) walk in
    (walk_of start (e ∷ []), are.all start e (all start walk.begins) one, (refl, (es, refl)))

-- a walk of one edge from one of these starts
abbrev pub IsFirst : Graph → List Start → Walk → Type 0
IsFirst g starts l = HasOneEdge l × Contains starts l.start × IsWalk g l.start l.edges

pub begins_under_way : (g : Graph) (starts : List Start) (first : List Walk) → AreFirst g starts first
    → ((start : Start) → IsTrue (starts_walks g start) → Contains starts start)
    → IsUnderWay g [] first
begins_under_way g starts first are all = record {
  were = tt;
  are = each_member (λ (w : Walk). IsWalk g w.start w.edges) first (λ w h. (at_member (IsFirst g starts) w first are.each h).2);
  once = tt;
  past = tt;
  apart = free_of_one first (each_member HasOneEdge first (λ w h. (at_member (IsFirst g starts) w first are.each h).0)) are.once;
  reached = λ (w : Walk) walk. inr (from_first g starts first are all w.start w.edges walk);
}

-- the walk goes on from none of the begun ones, and from one of them
abbrev pub Past : List Walk → Walk → Type 0
Past begun w = AllByRecursion (λ (o : Walk). ¬ GoesOn w o) begun

abbrev pub From : List Walk → Walk → Type 0
From begun w = (o : Walk) × Contains begun o × GoesOn w o

-- in the end
pub noted_walks : (g : Graph) (noted : List Walk) → IsUnderWay g noted [] → AreWalks g noted
noted_walks g noted h = record { each = h.were; once = h.once }

no_begun : (P : Type 0) (w : Walk) → P ⊎ From [] w → P
no_begun P w (inl p) = p
no_begun P w (inr h) = absurd (IsIn-from_Contains [] h.0 h.1)

pub noted_all : (g : Graph) (noted : List Walk) → IsUnderWay g noted []
    → (start : Start) (es : List EdgeAt) → IsWalk g start es → Contains noted (walk_of start es)
noted_all g noted h start es walk = no_begun (Contains noted (walk_of start es)) (walk_of start es) (h.reached (walk_of start es) walk)

all-swap : {X : Type 0} (P : X → Type 0) (xs ys : List X) → AllByRecursion P (xs ++ ys) → AllByRecursion P (ys ++ xs)
all-swap P xs ys h = each_member P (ys ++ xs) (λ x g. at_member P x (xs ++ ys) h (IsIn-swap x ys xs g))

pub Contains-swap : {X : Type 0} (x : X) (xs ys : List X) → Contains (xs ++ ys) x → Contains (ys ++ xs) x
Contains-swap x xs ys h = Contains-from_IsIn (ys ++ xs) x (IsIn-swap x xs ys (IsIn-from_Contains (xs ++ ys) x h))

-- which of the begun walks stand first doesn't matter
pub swap_begun : (g : Graph) (noted xs ys : List Walk) → IsUnderWay g noted (xs ++ ys) → IsUnderWay g noted (ys ++ xs)
swap_begun g noted xs ys h = record {
  were = h.were;
  are = all-swap (λ (w : Walk). IsWalk g w.start w.edges) xs ys h.are;
  once = h.once;
  past = each_member (Past (ys ++ xs)) noted (λ w k. all-swap (λ (o : Walk). ¬ GoesOn w o) xs ys (at_member (Past (xs ++ ys)) w noted h.past k));
  apart = free-swap xs ys h.apart;
  reached = λ (w : Walk) walk. in_rest (Contains noted w) (From (xs ++ ys) w) (From (ys ++ xs) w) (λ k. (k.0, Contains-swap k.0 xs ys k.1, k.2)) (h.reached w walk);
}

in_first : (P Q R : Type 0) → (P → R) → P ⊎ Q → R ⊎ Q
in_first P Q R f (inl p) = inl (f p)
in_first P Q R f (inr q) = inr q

-- nor does it of the noted ones
pub swap_noted : (g : Graph) (xs ys begun : List Walk) → IsUnderWay g (xs ++ ys) begun → IsUnderWay g (ys ++ xs) begun
swap_noted g xs ys begun h = record {
  were = all-swap (λ (w : Walk). IsWalk g w.start w.edges) xs ys h.were;
  are = h.are;
  once = IsApart-swap xs ys h.once;
  past = all-swap (Past begun) xs ys h.past;
  apart = h.apart;
  reached = λ (w : Walk) walk. in_first (Contains (xs ++ ys) w) (From begun w) (Contains (ys ++ xs) w) (Contains-swap w xs ys) (h.reached w walk);
}
