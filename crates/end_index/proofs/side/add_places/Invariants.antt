use Rattle.std.proofs.Common.{◌≡◌, ◌++◌, map, drop}
use Rattle.end_index.specs.Ends.{end_place}
use Rattle.end_index.proofs.side.add_places.Given as goal

-- what was added, then what is left, is the whole
abbrev pub invariant-loop-i : goal.invariant-loop-i
invariant-loop-i l = l.places.items ++ map (end_place l.file) (drop l.i l.marks) ≡ l.fn.places.items ++ map (end_place l.file) l.marks
