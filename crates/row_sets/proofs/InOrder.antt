-- Sorted rows, each node once, rise, and are the same nodes.
use Rattle.std.proofs.Common.{◌≡◌, Bool, true, List, [], ◌∷◌, Contains, refl, sym, subst}
use Rattle.std.specs.declared.cmp.Ordering.{Ordering}
use Rattle.std.specs.declared.cmp.Ordering.TheVariants.{Less, Equal, Greater}
use Rattle.std.specs.Cmp.{IsTotalOrder, IsEquivalence, IsStrictWeakOrder, eq_by_cmp_equiv}
use Rattle.std.specs.Cmp.Lexicographic.{slice_cmp, nat_list_cmp_total}
use Rattle.std.specs.FinMap.{slice_cmp-IsAntisymmetric, nat_cmp-IsAntisymmetric}
use Rattle.std.specs.List.{dedup}
use Rattle.std.specs.List.Sorted.{IsSortedBy, IsStrictlySortedBy, IsPermutation}
use Rattle.std.specs.Ordering.{nat_cmp, ordering_then, is_eq, is_lt}
use Rattle.std.proofs.lemmas.Bool.{false≢true}
use Rattle.std.proofs.lemmas.Cmp.{then_total, on_total, nat_cmp_total}
use Rattle.std.proofs.lemmas.List.Kept.{Any-dedup, Contains-from_dedup, IsStrictlySortedBy-dedup}
use Rattle.std.proofs.lemmas.List.Sorted.{Contains-permutation, IsPermutation-sym, ranks_by}
use Rattle.version_tree.specs.declared.row.Row.{Row}
use Rattle.row_sets.specs.Rows.{place_cmp, AreRising, HasNode, AreInOrder}

pub place_total : IsTotalOrder place_cmp
place_total = then_total (on_total (λ (r : Row). r.path) nat_list_cmp_total) (on_total (λ (r : Row). r.node) nat_cmp_total)

pub ranks : IsStrictWeakOrder (λ (a : Row) (b : Row). is_lt (place_cmp a b))
ranks = ranks_by place_total (λ (r : Row). r)

-- whether two rows are of one node
abbrev pub same : Row → Row → Bool
same a b = is_eq (place_cmp a b)

same_equiv : IsEquivalence same
same_equiv = eq_by_cmp_equiv place_total

rising : (rows : List Row) → IsStrictlySortedBy place_cmp rows → AreRising rows
unfolding IsStrictlySortedBy
rising [] h = tt
rising (row ∷ rows) h = (h.0, rising rows h.1)

one_node : (a b : Row) (first second : Ordering) → slice_cmp nat_cmp a.path b.path ≡ first → nat_cmp a.node b.node ≡ second
    → is_eq (ordering_then first second) ≡ true → (b.path ≡ a.path) × (b.node ≡ a.node)
one_node a b Less second p n e = absurd (false≢true e)
one_node a b Equal Less p n e = absurd (false≢true e)
one_node a b Equal Equal p n e = (sym (slice_cmp-IsAntisymmetric nat_cmp-IsAntisymmetric a.path b.path p), sym (nat_cmp-IsAntisymmetric a.node b.node n))
one_node a b Equal Greater p n e = absurd (false≢true e)
one_node a b Greater second p n e = absurd (false≢true e)

has_node : (sorted : List Row) (row : Row) → Contains sorted row → HasNode (dedup same sorted) row
has_node sorted row h =
    let a = Any-dedup same_equiv sorted row h in
    let n = one_node row a.1 (slice_cmp nat_cmp row.path a.1.path) (nat_cmp row.node a.1.node) refl refl a.4 in
    (a.1, (a.0, a.2, a.3), n.0, n.1)

pub in_order : (all sorted kept : List Row) → IsPermutation all sorted → IsSortedBy (λ (a : Row) (b : Row). is_lt (place_cmp a b)) sorted → kept ≡ dedup same sorted
    → AreInOrder all kept
in_order all sorted kept moved up is = subst (AreInOrder all) (sym is) (record {
  rising = rising (dedup same sorted) (IsStrictlySortedBy-dedup place_total (λ x y. refl) sorted up);
  among = λ row h. Contains-permutation sorted all row (IsPermutation-sym all sorted moved) (Contains-from_dedup same sorted row h);
  whole = λ row h. has_node sorted row (Contains-permutation all sorted row moved h);
})
