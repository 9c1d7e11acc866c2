-- The made tree: files whose references go where a generator draws, and the requests that commit and query them.
use Rattle.std.specs.Prelude.{ℕ, zero, suc, ◌+◌, ◌-◌, ◌*◌, ◌/◌, ◌%◌, min, List, [], ◌∷◌, ◌++◌, map, true, false, None, codes, decimal}
use Rattle.std.specs.List.{concat, range_with_len}
use Rattle.graph_nodes.specs.declared.node.Node.{Node}
use Rattle.graph_nodes.specs.declared.node.Edge.{Edge}
use Rattle.graph_nodes.specs.declared.node.Place.{Place}
use Rattle.graph_nodes.specs.declared.node.Place.TheVariants.{Root, At}
use Rattle.graph_nodes.specs.declared.node.NodeKind.{NodeKind}
use Rattle.graph_nodes.specs.declared.node.NodeKind.TheVariants.{Push, Pop}
use Rattle.graph_nodes.specs.Graph.{Graph}
use Rattle.graph_json.specs.Printed.{graph_text}
use Rattle.partial_path.specs.declared.bounds.Bounds.{Bounds}
use Rattle.nav_proto.specs.declared.request.FileEdit.{FileEdit}
use Rattle.nav_proto.specs.declared.request.FileEdit.TheVariants as file
use Rattle.nav_proto.specs.declared.request.Point.TheVariants as point
use Rattle.nav_proto.specs.declared.request.Request.{Request}
use Rattle.nav_proto.specs.declared.request.Request.TheVariants as request

-- the generator: from each value comes the next
abbrev pub next_value : ℕ → ℕ
next_value r = (r * 1103515245 + 12345) % 2147483648

-- its value after so many draws
abbrev pub value_after : ℕ → ℕ → ℕ
value_after start zero = start % 2147483648
value_after start (suc n) = next_value (value_after start n)

-- the number that a value draws: one of so many files
abbrev pub number_from : ℕ → ℕ → ℕ
number_from files r = (r / 65536) % files

-- the number that is drawn after so many others
abbrev pub drawn : ℕ → ℕ → ℕ → ℕ
drawn files start n = number_from files (value_after start (suc n))

-- a letter with a number behind it
abbrev pub symbol : List ℕ → ℕ → List ℕ
symbol letter n = letter ++ decimal n

-- the nodes of file k
abbrev pub plain_node : NodeKind → Node
plain_node kind = record { kind = kind; span = None }

-- a definition of `d` with k, a reference to `a` with j, and for `a` with k what puts `d` with t in its place
abbrev pub made_nodes : ℕ → ℕ → ℕ → List Node
made_nodes k j t =
    plain_node (Pop (symbol (codes "d") k) true)
    ∷ plain_node (Push (symbol (codes "a") j) true)
    ∷ plain_node (Pop (symbol (codes "a") k) false)
    ∷ plain_node (Push (symbol (codes "d") t) false)
    ∷ []

-- its edges
abbrev pub plain_edge : Place → Place → Edge
plain_edge source sink = record { source = source; sink = sink; precedence = 0 }

-- the root leads to its `d` and its `a`, its `a` leads on to `d` with t, and this and the reference lead to the root
abbrev pub made_edges : List Edge
made_edges =
    plain_edge Root (At 0)
    ∷ plain_edge (At 1) Root
    ∷ plain_edge Root (At 2)
    ∷ plain_edge (At 2) (At 3)
    ∷ plain_edge (At 3) Root
    ∷ []

-- The graph of file k: it defines `d` with its number, and refers to `a` with j. Who refers to `a` with its number goes
-- on to `d` with t.
abbrev pub made_graph : ℕ → ℕ → ℕ → Graph
made_graph k j t = record { nodes = made_nodes k j t; edges = made_edges }

-- the path of file k: its number in four digits
abbrev pub made_path : ℕ → List ℕ
made_path k =
    concat (codes "f" ∷ decimal (k / 1000 % 10) ∷ decimal (k / 100 % 10) ∷ decimal (k / 10 % 10) ∷ decimal (k % 10) ∷ codes ".sg.json" ∷ [])

-- The edit that puts file k, for which j and then t are drawn behind those for the files before it.
abbrev pub made_file : ℕ → ℕ → ℕ → FileEdit
made_file files start k =
    file.Put (made_path k) (graph_text (made_graph k (drawn files start (2 * k)) (drawn files start (suc (2 * k)))))

-- the files from this one on, so many
abbrev pub made_files : ℕ → ℕ → ℕ → ℕ → List FileEdit
made_files files start k count = map (made_file files start) (range_with_len k count)

-- the commit of this number from 0, without a base: the last one puts the rest
abbrev pub made_commit : ℕ → ℕ → ℕ → Request
made_commit files start n = request.Commit None (made_files files start (64 * n) (min (files - 64 * n) 64))

-- how many commits put all files
abbrev pub commit_count : ℕ → ℕ
commit_count files = (files + 63) / 64

-- what commits the tree: the operator names itself, and commits the files in order
abbrev pub made_commits : ℕ → ℕ → ℕ → List Request
made_commits files start count = map (made_commit files start) (range_with_len 0 count)

-- all requests that commit the tree
abbrev pub committing : ℕ → ℕ → List Request
committing files start = request.Hello (codes "operator") ∷ made_commits files start (commit_count files)

-- the bounds of a query that states none
abbrev pub usual : Bounds
usual = record { edges = 128; depth = 48 }

-- what asks for the definitions of the reference in file k
abbrev pub query : ℕ → Request
query k = request.Define (made_path k) (point.Node 1) usual

-- what asks so of each file, in order
abbrev pub queries : ℕ → List Request
queries files = map query (range_with_len 0 files)
