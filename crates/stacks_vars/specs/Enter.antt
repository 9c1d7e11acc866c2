-- What entering a node makes of the stacks, and where entry is refused.
use Rattle.std.specs.Prelude.{ℕ, List, [], ◌∷◌, Option, Some, None, if◌then◌else◌}
use Rattle.std.specs.Str.{bytes_eq}
use Rattle.stacks_vars.specs.declared.scopes.NodeAt.{NodeAt}
use Rattle.stacks_vars.specs.declared.items.SymbolItem.{SymbolItem}
use Rattle.stacks_vars.specs.declared.stacks.Stacks.{Stacks}
use Rattle.stacks_vars.specs.declared.action.Action.{Action}
use Rattle.stacks_vars.specs.declared.action.Action.TheVariants.{Pass, Push, PushScoped, Pop, PopScoped, Drops}

-- two stacks, each with its front first
abbrev pub stacks_of : List SymbolItem → List NodeAt → Stacks
stacks_of symbols scopes = record { symbols = symbols; scopes = scopes }

-- empty stacks
abbrev pub no_stacks : Stacks
no_stacks = stacks_of [] []

-- a symbol on a stack: plain, or with attached scopes
abbrev pub item_of : List ℕ → Option (List NodeAt) → SymbolItem
item_of symbol scopes = record { symbol = symbol; scopes = scopes }

-- where the front has this symbol and is plain, the stacks without it
abbrev pub popped : List ℕ → Option (List NodeAt) → List ℕ → List SymbolItem → List NodeAt
    → Option Stacks
popped front (Some attached) symbol rest scopes = None
popped front None symbol rest scopes =
    if bytes_eq front symbol then Some (stacks_of rest scopes) else None

-- where the front has this symbol and attached scopes, the stacks without it, its scopes now the scope stack
abbrev pub popped_scoped : List ℕ → Option (List NodeAt) → List ℕ → List SymbolItem → Option Stacks
popped_scoped front None symbol rest = None
popped_scoped front (Some attached) symbol rest =
    if bytes_eq front symbol then Some (stacks_of rest attached) else None

-- a plain symbol is taken off the symbols; refused where there is none, or another one in front
abbrev pub pop : List ℕ → List SymbolItem → List NodeAt → Option Stacks
pop symbol [] scopes = None
pop symbol (front ∷ rest) scopes = popped front.symbol front.scopes symbol rest scopes

-- a symbol with attached scopes is taken off the symbols; refused likewise
abbrev pub pop_scoped : List ℕ → List SymbolItem → Option Stacks
pop_scoped symbol [] = None
pop_scoped symbol (front ∷ rest) = popped_scoped front.symbol front.scopes symbol rest

-- what the stacks are once the node with this action is entered; None where entry is refused
abbrev pub enter : Action → Stacks → Option Stacks
enter Pass s = Some s
enter (Push symbol) s = Some (stacks_of (item_of symbol None ∷ s.symbols) s.scopes)
enter (PushScoped symbol scope) s =
    Some (stacks_of (item_of symbol (Some (scope ∷ s.scopes)) ∷ s.symbols) s.scopes)
enter (Pop symbol) s = pop symbol s.symbols s.scopes
enter (PopScoped symbol) s = pop_scoped symbol s.symbols
enter Drops s = Some (stacks_of s.symbols [])
