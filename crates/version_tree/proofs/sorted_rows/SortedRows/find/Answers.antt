-- The closure compares each row with the path, and the slice is the rows.
use Rattle.std.proofs.Common.{◌≡◌, rules}
use Rattle.std.proofs.lemmas.Fn.{always_returns_same}
use Rattle.version_tree.specs.Places.{beside}
use Rattle.version_tree.proofs.sorted_rows.SortedRows.find.Goals as goal
use Rattle.list_facts.proofs.Halving.{found, absent}
use Rattle.version_tree.proofs.Found.{searchable}

pub returns-clause-found : goal.returns-clause-found
returns-clause-found c =
    let p = c.args.path.now in
    let facts = c.binary_search_by.ensures in
    let by_path = facts.position (beside p) (always_returns_same _ (λ a r. r ≡ beside p a.0.now) _ (λ a r g called. (search rules, search rules))) in
    rw (← c.self.view_is, ← c.deref.ensures.value) (found (beside p) _ _ facts.bound by_path)

pub returns-clause-absent : goal.returns-clause-absent
returns-clause-absent c =
    let p = c.args.path.now in
    let facts = c.binary_search_by.ensures in
    let by_path = facts.position (beside p) (always_returns_same _ (λ a r. r ≡ beside p a.0.now) _ (λ a r g called. (search rules, search rules))) in
    rw (← c.self.view_is, ← c.deref.ensures.value) (absent (beside p) _ _ (searchable p _ (rw c.deref.ensures.value c.self.invariant.order)) facts.bound by_path)
