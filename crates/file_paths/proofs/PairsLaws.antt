-- Walks of which none goes on from another.
use Rattle.std.proofs.Common.{List, ◌++◌}
use Rattle.partial_path.specs.Walks.{Walk}
use Rattle.file_paths.specs.Walking.{GoesOn, ArePrefixFree}
use Rattle.list_facts.proofs.Pairs.{Pairs-swap}

-- neither goes on from the other
abbrev pub AreAside : Walk → Walk → Type 0
AreAside w o = ¬ GoesOn w o × ¬ GoesOn o w

-- walks of which none goes on from another may change places
pub free-swap : (xs ys : List Walk) → ArePrefixFree (xs ++ ys) → ArePrefixFree (ys ++ xs)
free-swap xs ys h =
    Pairs-swap AreAside (λ (x y : Walk) k. (k.1, k.0)) xs ys h
