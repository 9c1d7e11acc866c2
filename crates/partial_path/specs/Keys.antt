-- By what the rules of one start are told apart: the texts of the first symbols that they ask for.
use Rattle.std.specs.Prelude.{ℕ, List, map, take, filter, Bool, ◌&&◌, IsSortedByKey}
use Rattle.std.specs.Ordering.{nat_cmp, ordering_then}
use Rattle.std.specs.declared.cmp.Ordering.{Ordering}
use Rattle.std.specs.Cmp.Lexicographic.{pointwise, slice_cmp}
use Rattle.std.specs.Str.{bytes_eq}
use Rattle.stacks_vars.specs.declared.items.SymbolItem.{SymbolItem}
use Rattle.stacks_vars.specs.declared.patterns.SymPat.{SymPat}
use Rattle.partial_path.specs.declared.rule.Start.{Start}
use Rattle.partial_path.specs.Rules.{Rule}
use Rattle.partial_path.specs.Starts.{start_cmp, begins_at}

-- of how many symbols a key has the texts
abbrev pub key_size : ℕ
key_size = 6

-- the texts of symbols that are asked for, and of those on a stack
abbrev pub asked_texts : List SymPat → List (List ℕ)
asked_texts pats = map (λ (pat : SymPat). pat.symbol) pats

abbrev pub texts : List SymbolItem → List (List ℕ)
texts symbols = map (λ (item : SymbolItem). item.symbol) symbols

-- a rule's key: the texts of the first symbols that it asks for
abbrev pub key : Rule → List (List ℕ)
key rule = asked_texts (take key_size rule.pre.symbols)

-- texts stand by their bytes, keys by their texts; a shorter one stands before those that begin with it
abbrev pub key_cmp : List (List ℕ) → List (List ℕ) → Ordering
key_cmp = slice_cmp (slice_cmp nat_cmp)

-- whether two keys are the same
abbrev pub key_eq : List (List ℕ) → List (List ℕ) → Bool
key_eq = pointwise bytes_eq

-- a start and a key
abbrev pub slot_of : Rule → Start × List (List ℕ)
slot_of rule = (rule.start, key rule)

-- they stand by start, and then by key
abbrev pub slot_cmp : Start × List (List ℕ) → Start × List (List ℕ) → Ordering
slot_cmp a b = ordering_then (start_cmp a.0 b.0) (key_cmp a.1 b.1)

-- the rules are in the order of their starts, those of one start in the order of their keys
abbrev pub IsByKey : List Rule → Type 0
IsByKey = IsSortedByKey slot_of slot_cmp

-- whether the rule begins there and has that key
abbrev pub has_slot : Start → List (List ℕ) → Rule → Bool
has_slot start asked rule = begins_at start rule && key_eq (key rule) asked

-- the rules that begin there and have that key, in their order
abbrev pub rules_asking : Start → List (List ℕ) → List Rule → List Rule
rules_asking start asked rules = filter (has_slot start asked) rules
