use Rattle.std.proofs.Common.{◌≡◌, None, map}
use Rattle.serde_json.specs.View.{view}
use Rattle.lsp_wire.specs.Messages.{text_after}
use Rattle.lsp_wire.proofs.asks.text_after.Given as goal

-- the changes that are left give the text of them all
abbrev pub invariant-loop-change : goal.invariant-loop-change
invariant-loop-change l = text_after None (map view l.fn.changes.items) ≡ text_after l.last (map view l.change-iterator.rest.items)
