use Rattle.std.proofs.Common.{◌≡◌, map, take}
use Rattle.shadowing.specs.Shadow.{is_shadowed}
use Rattle.shadowing.proofs.shadow.marks_of.Given as goal

abbrev pub invariant-loop-path : goal.invariant-loop-path
invariant-loop-path l = l.marks.items ≡ map (is_shadowed l.paths) (take l.path-index l.paths)
