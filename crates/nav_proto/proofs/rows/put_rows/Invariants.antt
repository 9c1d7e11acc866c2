use Rattle.std.proofs.Common.{◌≡◌, ◌++◌, string_bytes, take, flat_map}
use Rattle.nav_proto.specs.Rows.{next_text}
use Rattle.nav_proto.proofs.rows.put_rows.Given as goal

-- the first row and those so far
abbrev pub invariant-loop-row : goal.invariant-loop-row
invariant-loop-row l = string_bytes l.text ≡ string_bytes l.initial.text ++ flat_map next_text (take l.row-index l.rest)
