use Rattle.std.proofs.Common.{◌≡◌, drop}
use Rattle.lsp_wire.specs.Uris.{is_escaped}
use Rattle.lsp_wire.proofs.uris.is_escaped.Given as goal

-- each `%` so far is escaped
abbrev pub invariant-loop-i : goal.invariant-loop-i
invariant-loop-i l = is_escaped l.path ≡ is_escaped (drop l.i l.path)
