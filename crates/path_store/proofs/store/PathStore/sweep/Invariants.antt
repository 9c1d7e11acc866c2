use Rattle.std.proofs.Common.{◌≡◌, length}
use Rattle.path_store.specs.Store.{swept}
use Rattle.path_store.proofs.store.PathStore.sweep.Given as goal

-- What is left of the pairs in the end is what would be left of those that are left now.
abbrev pub invariant-loop-self : goal.invariant-loop-self
invariant-loop-self l = swept l.cost l.initial.self ≡ swept l.cost l.self

abbrev pub decreases-loop-self : goal.decreases-loop-self
decreases-loop-self l = length l.self
