-- Symbols without attached scopes, asked for and on a stack. No public clause cites this.
use Rattle.std.specs.Prelude.{Bool}
use Rattle.std.specs.Option.{is_some}
use Rattle.stacks_vars.specs.declared.items.SymbolItem.{SymbolItem}
use Rattle.stacks_vars.specs.declared.patterns.SymPat.{SymPat}

-- whether scopes are attached to a symbol that is asked for
abbrev pub asks_scopes : SymPat → Bool
asks_scopes pat = is_some pat.scopes

-- whether scopes are attached to a symbol of a stack
abbrev pub has_scopes : SymbolItem → Bool
has_scopes item = is_some item.scopes
