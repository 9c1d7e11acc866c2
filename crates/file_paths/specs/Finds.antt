-- What a caller of `enumerate` is told of its steps and of its fault.
use Rattle.std.specs.Prelude.{◌≡◌, ℕ, ◌+◌, List, length, Contains, ⊤}
use Rattle.graph_nodes.specs.Graph.{Graph}
use Rattle.partial_path.specs.declared.config.EdgeAt.{EdgeAt}
use Rattle.partial_path.specs.declared.rule.Start.{Start}
use Rattle.partial_path.specs.Walks.{IsWalk, AreWalks, Walk, walk_of, IsHeavier}
use Rattle.file_paths.specs.declared.fault.PathsFault.{PathsFault}
use Rattle.file_paths.specs.declared.fault.PathsFault.TheVariants.{Heavy, NoMemory}

-- the greatest weight that a file may have
abbrev pub max_weight : ℕ
max_weight = 1000000

-- so many walks the file has
abbrev pub HasWalks : Graph → ℕ → Type 0
HasWalks g count =
    (walks : List Walk) × AreWalks g walks
    × ((start : Start) (es : List EdgeAt) → IsWalk g start es → Contains walks (walk_of start es))
    × (count ≡ length walks)

-- the counter rises by the number of the file's walks
abbrev pub AddsWalks : Graph → ℕ → ℕ → Type 0
AddsWalks g old new = (count : ℕ) × HasWalks g count × (new ≡ old + count)

-- why there is no answer: the file is heavier than the limit, and the number is the limit and one; want of
-- memory is free
abbrev pub HasCause : Graph → PathsFault → Type 0
HasCause g (Heavy n) = (n ≡ max_weight + 1) × IsHeavier max_weight g
HasCause g NoMemory = ⊤
