use Rattle.std.proofs.Common.{◌≡◌, ◌++◌, drop}
use Rattle.root_index.specs.Roots.{all_roots}
use Rattle.root_index.proofs.file_roots.slots_of.Given as goal

-- what was gathered, then what is left, is the whole
abbrev pub invariant-loop-i : goal.invariant-loop-i
invariant-loop-i l = l.slots.items ++ all_roots (drop l.i l.version.content.rows) ≡ all_roots l.version.content.rows
