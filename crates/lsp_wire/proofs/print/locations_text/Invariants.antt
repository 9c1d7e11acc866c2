use Rattle.std.proofs.Common.{◌≡◌, ◌++◌, string_bytes, take, flat_map}
use Rattle.lsp_wire.specs.Replies.{next_text}
use Rattle.lsp_wire.proofs.print.locations_text.Given as goal

-- the first part and those so far
abbrev pub invariant-loop-location : goal.invariant-loop-location
invariant-loop-location l = string_bytes l.text ≡ string_bytes l.initial.text ++ flat_map next_text (take l.location-index l.rest)
