-- The positions of elements that pass a test, and the edges that leave a place.
use Rattle.std.proofs.Common.{◌≡◌, ℕ, zero, suc, ◌+◌, Bool, true, false, List, [], ◌∷◌, Some, refl, ap, ◌∙◌, subst, inl, inr, arith, slice_get}
use Rattle.std.proofs.lemmas.Bool.{false≢true}
use Rattle.std.proofs.lemmas.Option.{none-some, same_Some}
use Rattle.graph_nodes.specs.Graph.{Graph}
use Rattle.graph_nodes.specs.Out.{place_eq, where_passes, positions_from, edges_from}
use Rattle.graph_nodes.specs.declared.node.Edge.{Edge}
use Rattle.graph_nodes.specs.declared.node.Place.{Place}
use Rattle.list_facts.specs.Members.{IsIn}
use Rattle.list_facts.specs.Apart.{IsApart}
use Rattle.list_facts.proofs.Members.{IsIn-append_left, IsIn-append_right, IsIn-append_cases}
use Rattle.list_facts.proofs.Pairs.{either}
use Rattle.list_facts.proofs.Apart.{IsApart-append}

in_passing : (n at : ℕ) (passes : Bool) → passes ≡ true → n ≡ at → IsIn n (where_passes passes at)
in_passing n at true t e = inl e
in_passing n at false t e = absurd (false≢true t)

passing_is : (n at : ℕ) (passes : Bool) → IsIn n (where_passes passes at) → (n ≡ at) × (passes ≡ true)
passing_is n at true (inl e) = (e, refl)
passing_is n at true (inr h) = absurd h
passing_is n at false h = absurd h

-- an element that passes stands at one of the positions
pub IsIn-positions_from : {X : Type 0} (test : X → Bool) (at : ℕ) (xs : List X) (k : ℕ) (x : X) → slice_get xs k ≡ Some x → test x ≡ true → IsIn (at + k) (positions_from test at xs)
IsIn-positions_from test at [] k x h t = absurd (none-some x h)
IsIn-positions_from test at (y ∷ xs) zero x h t =
    IsIn-append_left (at + 0) (where_passes (test y) at) (positions_from test (at + 1) xs)
    (in_passing (at + 0) at (test y) (ap test (same_Some y x h) ∙ t) (omega arith))
IsIn-positions_from test at (y ∷ xs) (suc k) x h t =
    let e : (at + 1) + k ≡ at + suc k = omega arith in
    IsIn-append_right (at + suc k) (where_passes (test y) at) (positions_from test (at + 1) xs)
    (subst (λ n. IsIn n (positions_from test (at + 1) xs)) e (IsIn-positions_from test (at + 1) xs k x h t))

-- the element at that position, counted from `at`, passes
abbrev pub PassesAt : {X : Type 0} → (X → Bool) → ℕ → List X → ℕ → Type 0
PassesAt {X} test at xs n = (k : ℕ) × (x : X) × (n ≡ at + k) × (slice_get xs k ≡ Some x) × (test x ≡ true)

passes_now : {X : Type 0} (test : X → Bool) (at : ℕ) (y : X) (xs : List X) (n : ℕ) → (n ≡ at) × (test y ≡ true) → PassesAt test at (y ∷ xs) n
passes_now test at y xs n h = (0, y, now at n h.0, refl, h.1)
  where
    now : (at n : ℕ) → n ≡ at → n ≡ at + 0
    now at n e = omega arith

passes_later : {X : Type 0} (test : X → Bool) (at : ℕ) (y : X) (xs : List X) (n : ℕ) → PassesAt test (at + 1) xs n → PassesAt test at (y ∷ xs) n
passes_later test at y xs n h = (suc h.0, h.1, later at h.0 n h.2, h.3, h.4)
  where
    later : (at k n : ℕ) → n ≡ (at + 1) + k → n ≡ at + suc k
    later at k n e = omega arith

-- at each of the positions stands an element that passes
pub passing_from : {X : Type 0} (test : X → Bool) (at : ℕ) (xs : List X) (n : ℕ) → IsIn n (positions_from test at xs) → PassesAt test at xs n
passing_from test at [] n h = absurd h
passing_from test at (y ∷ xs) n h =
    either (IsIn n (where_passes (test y) at)) (IsIn n (positions_from test (at + 1) xs)) (PassesAt test at (y ∷ xs) n)
    (λ g. passes_now test at y xs n (passing_is n at (test y) g))
    (λ g. passes_later test at y xs n (passing_from test (at + 1) xs n g))
    (IsIn-append_cases n (where_passes (test y) at) (positions_from test (at + 1) xs) h)

apart_passing : (at : ℕ) (passes : Bool) → IsApart (where_passes passes at)
apart_passing at true = (tt, tt)
apart_passing at false = tt

past_it : (n at k : ℕ) → n ≡ at → n ≡ (at + 1) + k → ⊥
past_it n at k e h = omega arith

-- the positions differ
pub IsApart-positions_from : {X : Type 0} (test : X → Bool) (at : ℕ) (xs : List X) → IsApart (positions_from test at xs)
IsApart-positions_from test at [] = tt
IsApart-positions_from test at (y ∷ xs) =
    IsApart-append (where_passes (test y) at) (positions_from test (at + 1) xs) (apart_passing at (test y)) (IsApart-positions_from test (at + 1) xs)
    (λ n h g. let k = passing_from test (at + 1) xs n g in past_it n at k.0 (passing_is n at (test y) h).0 k.2)

-- the edge at that position leaves the place
abbrev pub LeavesPlace : Graph → Place → ℕ → Type 0
LeavesPlace g at k = (edge : Edge) × (slice_get g.edges k ≡ Some edge) × (place_eq edge.source at ≡ true)

from_zero : (n : ℕ) → 0 + n ≡ n
from_zero n = omega arith

-- an edge that leaves a place is among those that leave it
pub IsIn-edges_from : (g : Graph) (at : Place) (k : ℕ) (edge : Edge) → slice_get g.edges k ≡ Some edge → place_eq edge.source at ≡ true → IsIn k (edges_from g at)
IsIn-edges_from g at k edge h t =
    subst (λ n. IsIn n (edges_from g at)) (from_zero k) (IsIn-positions_from (λ (x : Edge). place_eq x.source at) 0 g.edges k edge h t)

-- what is among the edges that leave a place is an edge that leaves it
pub leaves_from : (g : Graph) (at : Place) (k : ℕ) → IsIn k (edges_from g at) → LeavesPlace g at k
leaves_from g at k h =
    let p = passing_from (λ (e : Edge). place_eq e.source at) 0 g.edges k h in
    let same : p.0 ≡ k = let e : k ≡ 0 + p.0 = p.2 in omega arith in
    (p.1, subst (λ n. slice_get g.edges n ≡ Some p.1) same p.3, p.4)

-- the edges that leave a place differ
pub IsApart-edges_from : (g : Graph) (at : Place) → IsApart (edges_from g at)
IsApart-edges_from g at = IsApart-positions_from (λ (e : Edge). place_eq e.source at) 0 g.edges
