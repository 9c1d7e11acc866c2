-- What it means that a text is a module.
use Rattle.std.specs.Prelude.{◌≡◌, ℕ, List, Ok}
use Rattle.py_subset.specs.declared.token.Token.{Token}
use Rattle.py_subset.specs.declared.tree.Module.{Module}
use Rattle.py_subset.specs.Layout.{tokens_of}
use Rattle.py_subset.specs.Grammar.{Derives}

-- The text's tokens are without fault, and the grammar derives the module from them.
abbrev pub IsModule : List ℕ → Module → Type 0
IsModule text whole = (ts : List Token) × (tokens_of text ≡ Ok ts) × Derives ts whole
