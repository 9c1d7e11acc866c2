-- How a key stands to those that the texts of a stack's first symbols make; no public clause cites this.
use Rattle.std.specs.Prelude.{◌≡◌, ℕ, ◌+◌, ◌<◌, List, take, true}
use Rattle.std.specs.declared.cmp.Ordering.TheVariants.{Less, Greater}
use Rattle.stacks_vars.specs.declared.items.SymbolItem.{SymbolItem}
use Rattle.partial_path.specs.Keys.{key_cmp, texts}
use Rattle.partial_path.specs.Sources.{stand_first}
use Rattle.root_index.specs.declared.met.Met.{Met}
use Rattle.root_index.specs.declared.met.Met.TheVariants.{Asks, Before, Behind}

-- it is one of them, or stands between that of the first n and those of more, or behind those of up to so many
abbrev pub IsMet : List SymbolItem → ℕ → List (List ℕ) → Met → Type 0
IsMet symbols most key Asks = stand_first key symbols ≡ true
IsMet symbols most key (Before n) = (n < most) × (key_cmp key (take n (texts symbols)) ≡ Greater) × (key_cmp key (take (n + 1) (texts symbols)) ≡ Less)
IsMet symbols most key Behind = key_cmp key (take most (texts symbols)) ≡ Greater
