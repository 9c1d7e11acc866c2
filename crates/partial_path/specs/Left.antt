-- What a rule's variables stand for in stacks that meet its precondition, told by counting what it asks for. No
-- definition of a path cites this; code that has matched already copies by it.
use Rattle.std.specs.Prelude.{List, [], ◌∷◌, length, drop, Option, Some, None}
use Rattle.stacks_vars.specs.declared.scopes.NodeAt.{NodeAt}
use Rattle.stacks_vars.specs.declared.items.SymbolItem.{SymbolItem}
use Rattle.stacks_vars.specs.declared.stacks.Stacks.{Stacks}
use Rattle.stacks_vars.specs.declared.patterns.ScopePat.{ScopePat}
use Rattle.stacks_vars.specs.declared.patterns.SymPat.{SymPat}
use Rattle.stacks_vars.specs.declared.patterns.Pre.{Pre}
use Rattle.partial_path.specs.Apply.{Rests, rests_of}

-- the scopes behind as many as are asked for
abbrev pub left_scopes : ScopePat → List NodeAt → List NodeAt
left_scopes pat scopes = drop (length pat.fixed) scopes

-- the same of a symbol's attached scopes; none of a plain symbol
abbrev pub left_attached : Option ScopePat → Option (List NodeAt) → List NodeAt
left_attached None attached = []
left_attached (Some pat) None = []
left_attached (Some pat) (Some scopes) = left_scopes pat scopes

-- the same of each symbol that is asked for
abbrev pub left_items : List SymPat → List SymbolItem → List (List NodeAt)
left_items [] items = []
left_items (pat ∷ pats) [] = []
left_items (pat ∷ pats) (item ∷ items) = left_attached pat.scopes item.scopes ∷ left_items pats items

-- what the variables stand for
abbrev pub left_in : Pre → Stacks → Rests
left_in pre stacks = rests_of (left_scopes pre.scopes stacks.scopes) (left_items pre.symbols stacks.symbols)

-- the same of a precondition of these symbols and scopes
abbrev pub left_by : List SymPat → List NodeAt → Stacks → Rests
left_by asked fixed stacks =
    rests_of (drop (length fixed) stacks.scopes) (left_items asked stacks.symbols)
