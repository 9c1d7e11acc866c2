-- Which text the answer to a query has.
use Rattle.std.specs.Prelude.{ℕ, List, [], ◌∷◌, ◌++◌, Bool, true, false, Option, None, Some, flat_map, codes, decimal}
use Rattle.std.specs.List.{concat}
use Rattle.json.specs.Print.{quoted}
use Rattle.graph_nodes.specs.declared.node.Span.{Span}
use Rattle.version_tree.specs.declared.row.Row.{Row}
use Rattle.version_tree.specs.declared.row.Answer.{Answer}

-- an array of line and column of the start, line and column of the end, or `null`
abbrev pub span_text : Option Span → List ℕ
span_text None = codes "null"
span_text (Some s) =
    concat (codes "[" ∷ decimal s.from_line ∷ codes "," ∷ decimal s.from_column ∷ codes ","
    ∷ decimal s.to_line ∷ codes "," ∷ decimal s.to_column ∷ codes "]" ∷ [])

-- one row
abbrev pub row_text : Row → List ℕ
row_text r =
    concat (codes "{\"node\":" ∷ decimal r.node ∷ codes ",\"path\":" ∷ quoted r.path
    ∷ codes ",\"span\":" ∷ span_text r.span ∷ codes "}" ∷ [])

-- a row after another one
abbrev pub next_text : Row → List ℕ
next_text r = codes "," ++ row_text r

-- the rows with a comma between each and the next
abbrev pub rows_text : List Row → List ℕ
rows_text [] = []
rows_text (r ∷ rs) = row_text r ++ flat_map next_text rs

-- the flag as JSON
abbrev pub flag_text : Bool → List ℕ
flag_text true = codes "true"
flag_text false = codes "false"

-- the answer
abbrev pub answer_text : Answer → List ℕ
answer_text a =
    concat (codes "{\"limit\":" ∷ flag_text a.limit ∷ codes ",\"rows\":[" ∷ rows_text a.rows
    ∷ codes "]}" ∷ [])

-- the rows of `callers`, which have no flag
abbrev pub callers_text : List Row → List ℕ
callers_text rows = concat (codes "{\"rows\":[" ∷ rows_text rows ∷ codes "]}" ∷ [])
