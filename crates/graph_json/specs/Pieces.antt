-- What the pieces of a graph file's JSON are: truth values, texts, spans and lists.
use Rattle.std.specs.Prelude.{ℕ, ◌^◌, ◌<◌, ◌&&◌, ◌||◌, ◌==◌, List, length, IfSome, Bool, false, nat_lt, nat_le, Option, Some, None, option_map, option_and_then}
use Rattle.std.specs.Option.{option_map_or}
use Rattle.serde_json.specs.Data.{Data}
use Rattle.serde_json.specs.Find.{get, at, as_bool, as_str, as_array}
use Rattle.serde_json.specs.Events.{items_len}
use Rattle.json_values.specs.Numbers.{only_if, u32_of}
use Rattle.json_values.specs.Lists.{list_of}
use Rattle.graph_nodes.specs.declared.node.Span.{Span}

-- first the one, and then what follows from its value, where there is one
infixl 10 ◌>>=◌
abbrev pub ◌>>=◌ : {A B : Type 0} → Option A → (A → Option B) → Option B
o >>= f = option_and_then f o

-- a truth value, which is false where it is left out
abbrev pub flag_of : Option Data → Option Bool
flag_of None = Some false
flag_of (Some d) = as_bool d

-- the truth value of that member
abbrev pub flag_in : List ℕ → Data → Option Bool
flag_in name d = flag_of (get name d)

-- the text of that member
abbrev pub text_in : List ℕ → Data → Option (List ℕ)
text_in name d = option_and_then as_str (get name d)

-- the number at that place of an array
abbrev pub u32_at : ℕ → Data → Option ℕ
u32_at i d = option_and_then u32_of (at i d)

-- whether the value is an array of so many items
abbrev pub has_items : ℕ → Data → Bool
has_items n d = option_map_or (λ ds. items_len ds == n) (as_array d) false

-- whether a span's end isn't before its start
abbrev pub is_forward : Span → Bool
is_forward s =
    nat_lt s.from_line s.to_line || (s.from_line == s.to_line && nat_le s.from_column s.to_column)

-- a span: an array of the line and column of its start and of its end, which isn't before the start
unfoldable pub span_of : Data → Option Span
span_of d = do
  from_line ← u32_at 0 d
  from_column ← u32_at 1 d
  to_line ← u32_at 2 d
  to_column ← u32_at 3 d
  span ← Some (record { from_line = from_line; from_column = from_column; to_line = to_line; to_column = to_column })
  only_if (has_items 4 d && is_forward span) span

-- a span, which may be left out
abbrev pub optional_span : Option Data → Option (Option Span)
optional_span None = Some None
optional_span (Some d) = option_map Some (span_of d)

-- the array that is the member of that name
abbrev pub list_in : List ℕ → Data → Option (List Data)
list_in name d = option_and_then list_of (get name d)

-- each array that is a member of the value has fewer than 2 to the 32 items
abbrev pub HasShortLists : Data → Type 0
HasShortLists d = (name : List ℕ) → IfSome (list_in name d) (λ xs. length xs < 2 ^ 32)
