use Rattle.std.proofs.Common.{rules, subst, sym, ◌∙◌}
use Rattle.std.specs.Ordering.{is_lt}
use Rattle.std.specs.List.Sorted.{IsPermutation}
use Rattle.std.proofs.lemmas.List.Sorted.{answers_always}
use Rattle.root_index.specs.Roots.{AreByRank, all_roots, rank, rank_cmp}
use Rattle.root_index.proofs.KeyOrders.{order_of_ranks}
use Rattle.root_index.proofs.index.RootIndex.afresh.Goals as goal

pub invariant_of-result : goal.invariant_of-result
invariant_of-result c =
    subst AreByRank (sym (c.in_ok-of.ensures ∙ c.in_ok-groups.ensures))
    (c.sort_unstable_by.ensures.sorted (λ a b. is_lt (rank_cmp (rank a) (rank b))) order_of_ranks (answers_always _ _ _ (λ f a r g h. search rules)))

pub returns : goal.returns
returns c = record {
  all = subst (IsPermutation (all_roots c.args.version.now.content.rows)) (sym (c.in_ok-of.ensures ∙ c.in_ok-groups.ensures))
      (subst (λ ps. IsPermutation ps c.sort_unstable_by.new.self.items) c.in_ok-slots.ensures c.sort_unstable_by.ensures.permutation);
  order = invariant_of-result c;
}
