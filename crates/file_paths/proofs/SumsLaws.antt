-- How many edges walks have together: no fewer than there are walks, and no more than all walks have.
use Rattle.std.proofs.Common.{◌≡◌, ◌≢◌, ℕ, suc, ◌+◌, ◌≤◌, ◌<◌, List, [], ◌∷◌, length, sym, refl, subst, arith}
use Rattle.std.specs.List.{AllByRecursion}
use Rattle.std.proofs.lemmas.List.Sums.{sum_by-cons}
use Rattle.graph_nodes.specs.Graph.{Graph}
use Rattle.partial_path.specs.declared.config.EdgeAt.{EdgeAt}
use Rattle.partial_path.specs.Walks.{IsWalk, AreWalks, Walk, edges_of, IsWeight, IsHeavier}
use Rattle.list_facts.specs.Members.{IsIn}
use Rattle.list_facts.proofs.Members.{at_member, IsIn-from_Contains}
use Rattle.list_facts.proofs.Sums.{sum-apart_le}

has_length : (es : List EdgeAt) → es ≢ [] → 0 < length es
has_length [] some = absurd (some refl)
has_length (e ∷ es) some = omega arith

one_less : (n a s b : ℕ) → b ≡ a + s → 0 < a → n ≤ s → suc n ≤ b
one_less n a s b h less le = omega arith

count_le : (g : Graph) (ws : List Walk) → AllByRecursion (λ (w : Walk). IsWalk g w.start w.edges) ws → length ws ≤ edges_of ws
count_le g [] each = omega arith
count_le g (w ∷ ws) each =
    one_less (length ws) (length w.edges) (edges_of ws) (edges_of (w ∷ ws)) (sum_by-cons (λ (v : Walk). length v.edges) w ws)
    (has_length w.edges each.0.nonempty) (count_le g ws each.1)

-- walks are no more than their edges
pub walks_few : (g : Graph) (noted : List Walk) → AreWalks g noted → length noted ≤ edges_of noted
walks_few g noted are = count_le g noted are.each

-- some walks of the file have no more edges than its weight
pub weight_holds : (g : Graph) (noted : List Walk) (weight : ℕ) → AreWalks g noted → IsWeight g weight → edges_of noted ≤ weight
weight_holds g noted weight are is = subst (λ (n : ℕ). edges_of noted ≤ n) (sym is.3) within
  where
    all : (w : Walk) → IsIn w noted → IsIn w is.0
    all w h =
        IsIn-from_Contains is.0 w (is.2 w.start w.edges (at_member (λ (v : Walk). IsWalk g v.start v.edges) w noted are.each h))

    within : edges_of noted ≤ edges_of is.0
    within = sum-apart_le (λ (w : Walk). length w.edges) noted is.0 are.once all

limit_holds : (n weight limit : ℕ) → limit < n → n ≤ weight → weight ≤ limit → ⊥
limit_holds n weight limit over within low = omega arith

-- a file whose weight is within the limit isn't heavier
pub not_heavier : (g : Graph) (weight limit : ℕ) → IsWeight g weight → weight ≤ limit → ¬ IsHeavier limit g
not_heavier g weight limit is low h = limit_holds (edges_of h.0) weight limit h.2 (weight_holds g h.0 weight h.1 is) low

both_ways : (a b m n : ℕ) → a ≡ m → b ≡ n → m ≤ b → n ≤ a → a ≡ b
both_ways a b m n h k le ge = omega arith

-- a file has one weight
pub weight_once : (g : Graph) (a b : ℕ) → IsWeight g a → IsWeight g b → a ≡ b
weight_once g a b h k =
    both_ways a b (edges_of h.0) (edges_of k.0) h.3 k.3 (weight_holds g h.0 b h.1 k) (weight_holds g k.0 a k.1 h)
