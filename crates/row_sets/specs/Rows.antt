-- Rows of several answers as one list: in the order of their files' paths, and within a file of their nodes.
use Rattle.std.specs.Prelude.{◌≡◌, List, [], ◌∷◌, Contains}
use Rattle.std.specs.Cmp.Lexicographic.{slice_cmp}
use Rattle.std.specs.List.{AllByRecursion}
use Rattle.std.specs.Ordering.{nat_cmp, ordering_then}
use Rattle.std.specs.declared.cmp.Ordering.{Ordering}
use Rattle.std.specs.declared.cmp.Ordering.TheVariants.{Less}
use Rattle.version_tree.specs.declared.row.Row.{Row}

-- which of two rows comes first: by the bytes of their paths, and then by the positions of their nodes
abbrev pub place_cmp : Row → Row → Ordering
place_cmp a b = ordering_then (slice_cmp nat_cmp a.path b.path) (nat_cmp a.node b.node)

-- the rows come one after the other, none twice
abbrev pub AreRising : List Row → Type 0
AreRising [] = Unit {0}
AreRising (row ∷ rows) =
    AllByRecursion (λ (later : Row). place_cmp row later ≡ Less) rows × AreRising rows

-- a row of the same node is among them
abbrev pub HasNode : List Row → Row → Type 0
HasNode rows row =
    (other : Row) × Contains rows other × (other.path ≡ row.path) × (other.node ≡ row.node)

-- The nodes of rows, each once in file order.
pub record AreInOrder (all rows : List Row) : Type 0 where
  pub rising : AreRising rows
  -- each is one of them
  pub among : (row : Row) → Contains rows row → Contains all row
  -- and none is left out
  pub whole : (row : Row) → Contains all row → HasNode rows row
