-- The closure compares each block's first row with the path, and the slice is the blocks.
use Rattle.std.proofs.Common.{◌≡◌, rules}
use Rattle.std.proofs.lemmas.Fn.{always_returns_same}
use Rattle.version_tree.specs.Blocks.{first_beside}
use Rattle.version_tree.proofs.blocks.Blocks.find.Goals as goal
use Rattle.list_facts.proofs.Halving.{found, absent}
use Rattle.version_tree.proofs.Joined.{blocks-searchable}

pub returns-clause-found : goal.returns-clause-found
returns-clause-found c =
    let p = c.args.path.now in
    let facts = c.binary_search_by.ensures in
    let by_path = facts.position (first_beside p) (always_returns_same _ (λ a r. r ≡ first_beside p a.0.now) _ (λ a r g called. (search rules, search rules))) in
    rw (← c.self.view_is, ← c.deref.ensures.value) (found (first_beside p) _ _ facts.bound by_path)

pub returns-clause-absent : goal.returns-clause-absent
returns-clause-absent c =
    let p = c.args.path.now in
    let facts = c.binary_search_by.ensures in
    let by_path = facts.position (first_beside p) (always_returns_same _ (λ a r. r ≡ first_beside p a.0.now) _ (λ a r g called. (search rules, search rules))) in
    rw (← c.self.view_is, ← c.deref.ensures.value) (absent (first_beside p) _ _ (blocks-searchable p _ (rw c.deref.ensures.value c.self.invariant.0)) facts.bound by_path)
