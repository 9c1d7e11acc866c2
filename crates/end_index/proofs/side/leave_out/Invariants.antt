use Rattle.std.proofs.lemmas.List.Filters.{FiltersInPlace}
use Rattle.end_index.specs.Ends.{is_of_other}
use Rattle.end_index.proofs.side.leave_out.Given as goal

-- of the paths before this one those of other files stand in front
abbrev pub invariant-loop-i : goal.invariant-loop-i
invariant-loop-i l = FiltersInPlace (is_of_other l.file) l.fn.places.items l.places.items l.kept l.i
