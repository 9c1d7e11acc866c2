-- The order in which shadowed paths are found; no public clause cites it.
use Rattle.std.specs.Cmp.Lexicographic.{slice_cmp}
use Rattle.std.specs.Ordering.{nat_cmp, ordering_then}
use Rattle.std.specs.Prelude.{List}
use Rattle.std.specs.declared.cmp.Ordering.{Ordering}
use Rattle.shadowing.specs.declared.paths.EdgeStep.{EdgeStep}

-- which of two steps is less: by precedence first, then by file and edge
abbrev pub by_step : EdgeStep → EdgeStep → Ordering
by_step a b =
    ordering_then (nat_cmp a.precedence b.precedence)
    (ordering_then (nat_cmp a.edge.file b.edge.file) (nat_cmp a.edge.edge b.edge.edge))

-- which of two paths has the higher rank: the one whose step is the greater at the first difference, and of
-- a path and its beginning the longer one
abbrev pub by_rank : List EdgeStep → List EdgeStep → Ordering
by_rank a b = slice_cmp by_step b a
