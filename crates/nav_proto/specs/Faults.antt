-- Which text the reply on a bad file has.
use Rattle.std.specs.Prelude.{ℕ, List, [], ◌∷◌, codes, decimal}
use Rattle.std.specs.List.{concat}
use Rattle.json.specs.Print.{quoted}
use Rattle.nav_proto.specs.declared.reply.FileError.{FileError}
use Rattle.nav_proto.specs.declared.reply.FileError.TheVariants.{Kind, Large, Json, Shape, TooManyNodes, TooManyEdges, BadEnd, JumpSource, BadScope, NotAscii, BadIndent, BadToken, Unsupported, Expected, TooDeep, BadName, Heavy, SameName, UnknownName}
use Rattle.nav_proto.specs.declared.reply.ShapePart.{ShapePart}
use Rattle.nav_proto.specs.declared.reply.ShapePart.TheVariants.{Top, Node, Edge}

-- a fault with no further member
abbrev pub fault_alone : List ℕ → List ℕ → List ℕ
fault_alone fault path =
    concat (codes "{\"error\":\"bad_file\",\"fault\":\"" ∷ fault ∷ codes "\",\"path\":"
    ∷ quoted path ∷ codes "}" ∷ [])

-- a fault with a number whose name comes before `error`
abbrev pub number_first : List ℕ → ℕ → List ℕ → List ℕ → List ℕ
number_first name n fault path =
    concat (codes "{\"" ∷ name ∷ codes "\":" ∷ decimal n
    ∷ codes ",\"error\":\"bad_file\",\"fault\":\"" ∷ fault ∷ codes "\",\"path\":" ∷ quoted path
    ∷ codes "}" ∷ [])

-- a fault with a number whose name comes between `fault` and `path`
abbrev pub number_inside : List ℕ → ℕ → List ℕ → List ℕ → List ℕ
number_inside name n fault path =
    concat (codes "{\"error\":\"bad_file\",\"fault\":\"" ∷ fault ∷ codes "\",\"" ∷ name
    ∷ codes "\":" ∷ decimal n ∷ codes ",\"path\":" ∷ quoted path ∷ codes "}" ∷ [])

-- a fault with a number whose name comes after `path`
abbrev pub number_last : List ℕ → ℕ → List ℕ → List ℕ → List ℕ
number_last name n fault path =
    concat (codes "{\"error\":\"bad_file\",\"fault\":\"" ∷ fault ∷ codes "\",\"path\":"
    ∷ quoted path ∷ codes ",\"" ∷ name ∷ codes "\":" ∷ decimal n ∷ codes "}" ∷ [])

-- a fault of a part of a graph file: of the whole, of a node or of an edge
abbrev pub part_text : List ℕ → List ℕ → ShapePart → List ℕ
part_text fault path Top = fault_alone fault path
part_text fault path (Node n) = number_inside (codes "node") n fault path
part_text fault path (Edge n) = number_first (codes "edge") n fault path

-- the text for a path and its file's fault
abbrev pub bad_file_text : List ℕ → FileError → List ℕ
bad_file_text path Kind = fault_alone (codes "kind") path
bad_file_text path (Large n) = number_first (codes "bytes") n (codes "large") path
bad_file_text path Json = fault_alone (codes "json") path
bad_file_text path (Shape part) = part_text (codes "shape") path part
bad_file_text path (TooManyNodes n) = number_inside (codes "nodes") n (codes "too_many_nodes") path
bad_file_text path (TooManyEdges n) = number_first (codes "edges") n (codes "too_many_edges") path
bad_file_text path (BadEnd n) = number_first (codes "edge") n (codes "bad_end") path
bad_file_text path (JumpSource n) = number_first (codes "edge") n (codes "jump_source") path
bad_file_text path (BadScope n) = number_inside (codes "node") n (codes "bad_scope") path
bad_file_text path (NotAscii n) = number_inside (codes "line") n (codes "not_ascii") path
bad_file_text path (BadIndent n) = number_inside (codes "line") n (codes "bad_indent") path
bad_file_text path (BadToken n) = number_inside (codes "line") n (codes "bad_token") path
bad_file_text path (Unsupported n) = number_inside (codes "line") n (codes "unsupported") path
bad_file_text path (Expected n) = number_inside (codes "line") n (codes "expected") path
bad_file_text path (TooDeep n) = number_inside (codes "line") n (codes "too_deep") path
bad_file_text path BadName = fault_alone (codes "bad_name") path
bad_file_text path (Heavy n) = number_last (codes "weight") n (codes "heavy") path
bad_file_text path (SameName n) = number_inside (codes "node") n (codes "same_name") path
bad_file_text path (UnknownName part) = part_text (codes "unknown_name") path part
