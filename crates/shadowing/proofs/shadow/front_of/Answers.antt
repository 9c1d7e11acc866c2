-- The sort puts the paths in order of rank, and the pass leaves those that none shadows.
use Rattle.std.proofs.Common.{◌≡◌, rules}
use Rattle.std.specs.List.{dedup}
use Rattle.std.specs.List.Sorted.{IsSortedBy}
use Rattle.std.specs.Ordering.{is_lt}
use Rattle.std.proofs.lemmas.Fn.{dedup_same}
use Rattle.std.proofs.lemmas.List.Sorted.{answers_always}
use Rattle.shadowing.specs.Ranks.{by_rank}
use Rattle.shadowing.specs.Shadow.{shadows}
use Rattle.shadowing.proofs.Front.{front_ranked, front_exact}
use Rattle.shadowing.proofs.Order.{ranks}
use Rattle.shadowing.proofs.shadow.front_of.Goals as goal

pub returns-clause-ranked : goal.returns-clause-ranked
returns-clause-ranked c =
    let up : IsSortedBy (λ a b. is_lt (by_rank a.now b.now)) c.sort_unstable_by.new.self.items = c.sort_unstable_by.ensures.sorted (λ a b. is_lt (by_rank a.now b.now)) (ranks (λ a. a.now)) (answers_always _ _ _ (λ f a r g h. search rules)) in
    let left : c.dedup_by.new.self.items ≡ dedup (λ a k. shadows k.now a.now) c.sort_unstable_by.new.self.items = dedup_same _ (λ a k. shadows k.now a.now) _ (λ x y b f' x' y' k. search rules) _ _ c.dedup_by.ensures.filtered in
    front_ranked (λ a. a.now) c.sort_unstable_by.new.self.items c.dedup_by.new.self.items up left

pub returns-clause-exact : goal.returns-clause-exact
returns-clause-exact c =
    let up : IsSortedBy (λ a b. is_lt (by_rank a.now b.now)) c.sort_unstable_by.new.self.items = c.sort_unstable_by.ensures.sorted (λ a b. is_lt (by_rank a.now b.now)) (ranks (λ a. a.now)) (answers_always _ _ _ (λ f a r g h. search rules)) in
    let left : c.dedup_by.new.self.items ≡ dedup (λ a k. shadows k.now a.now) c.sort_unstable_by.new.self.items = dedup_same _ (λ a k. shadows k.now a.now) _ (λ x y b f' x' y' k. search rules) _ _ c.dedup_by.ensures.filtered in
    front_exact (λ a. a.now) c.args.paths.now c.in_ok-front.front.items c.sort_unstable_by.new.self.items c.dedup_by.new.self.items c.in_ok-front.ensures c.sort_unstable_by.ensures.permutation up left
