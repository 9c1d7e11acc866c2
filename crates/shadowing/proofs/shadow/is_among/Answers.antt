-- What the search by rank finds is the path.
use Rattle.std.proofs.Common.{rules}
use Rattle.std.proofs.lemmas.Fn.{always_returns_same}
use Rattle.shadowing.specs.Ranks.{by_rank}
use Rattle.shadowing.proofs.Front.{found_among}
use Rattle.shadowing.proofs.shadow.is_among.Goals as goal

pub returns : goal.returns
returns c =
    let found = found_among (λ a. a.now) c.args.front.now c.args.path.now c.binary_search_by.result c.requires c.binary_search_by.ensures.bound (c.binary_search_by.ensures.position (λ y. by_rank y.now c.args.path.now) (always_returns_same _ _ _ (λ a r g h. search rules))) in
    rw (c.is_ok.ensures.value) found
