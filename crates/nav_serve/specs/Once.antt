-- What `once` replies to its input.
use Rattle.std.specs.Prelude.{◌≡◌, ℕ, List, [], ◌∷◌, map, Bool, IsTrue, Option, Some, None, codes, Result, Ok, Err, ◌⊎◌, ◌↔◌, slice_get}
use Rattle.std.specs.Option.{option_and_then}
use Rattle.graph_nodes.specs.declared.node.Node.{Node}
use Rattle.graph_nodes.specs.declared.node.Edge.{Edge}
use Rattle.graph_nodes.specs.declared.node.Span.{Span}
use Rattle.graph_nodes.specs.Graph.{Graph}
use Rattle.partial_path.specs.declared.bounds.Bounds.{Bounds}
use Rattle.partial_path.specs.declared.config.Config.{Config}
use Rattle.partial_path.specs.Spots.{node_at}
use Rattle.partial_path.specs.Step.{start}
use Rattle.partial_path.specs.Counted.{IsCrowded, HasLimit}
use Rattle.whole_search.specs.declared.found.Hit.{Hit}
use Rattle.whole_search.specs.Answers.{AreDefinitions}
use Rattle.version_tree.specs.declared.row.Row.{Row}
use Rattle.version_tree.specs.declared.row.Answer.{Answer}
use Rattle.nav_proto.specs.declared.reply.Reply.{Reply}
use Rattle.nav_proto.specs.declared.reply.Reply.TheVariants.{Rows, Plain, BadRequest}
use Rattle.nav_proto.specs.declared.reply.PlainError.TheVariants.{NoReference, Crowded}
use Rattle.nav_proto.specs.NodeLine.{node_from}
use Rattle.nav_io.specs.Lines.{line_at_front, after_line}
use Rattle.nav_serve.specs.Files.{graph_line}
use Rattle.nav_serve.specs.NodeLine.{node_or_refusal}

-- the path that `once` gives its graph
abbrev pub once_path : List ℕ
once_path = codes "once.sg.json"

-- the bounds of a query that states none
abbrev pub usual : Bounds
usual = record { edges = 128; depth = 48 }

-- the node that the line asks for, or the reply that refuses it
abbrev pub node_line : Option (List ℕ) → Result ℕ Reply
node_line None = Err (BadRequest (codes "node"))
node_line (Some line) = node_or_refusal (node_from line)

-- the span of a node of the graph
abbrev pub span_at : Graph → ℕ → Option Span
span_at g n = option_and_then (λ (node : Node). node.span) (slice_get g.nodes n)

-- a node that was found, as a row of the reply
abbrev pub row_of : Graph → Hit → Row
row_of g hit = record { path = once_path; node = hit.node; span = span_at g hit.node }

-- an answer with the definitions that are found
abbrev pub answer_of : Graph → Bool → List Hit → Answer
answer_of g limit hits = record { limit = limit; rows = map (row_of g) hits }

-- the reply gives the definitions of the paths that start here, and whether one was cut short
abbrev pub GivesDefinitions : Graph → Config → Reply → Type 0
GivesDefinitions g c reply =
    (hits : List Hit) × (limit : Bool)
    × AreDefinitions usual (g ∷ []) c hits
    × (IsTrue limit ↔ HasLimit usual (g ∷ []) c)
    × (reply ≡ Rows (answer_of g limit hits))

-- the reply on a reference whose paths start here: it is crowded, or its definitions are given
abbrev pub AnswersFrom : Graph → Option Config → Reply → Type 0
AnswersFrom g None reply = reply ≡ Plain NoReference
AnswersFrom g (Some c) reply =
    (IsCrowded usual (g ∷ []) c × (reply ≡ Plain Crowded))
    ⊎ (¬ IsCrowded usual (g ∷ []) c × GivesDefinitions g c reply)

-- the reply on a node of the graph
abbrev pub AnswersNode : Graph → Result ℕ Reply → Reply → Type 0
AnswersNode g (Err refusal) reply = reply ≡ refusal
AnswersNode g (Ok n) reply = AnswersFrom g (start (g ∷ []) (node_at 0 n)) reply

-- the reply on the text behind a graph's line
abbrev pub AnswersRest : Result (List Node × List Edge) Reply → List ℕ → Reply → Type 0
AnswersRest (Err refusal) rest reply = reply ≡ refusal
AnswersRest (Ok parts) rest reply =
    AnswersNode (record { nodes = parts.0; edges = parts.1 }) (node_line (line_at_front rest)) reply

-- the one reply to the input
abbrev pub IsOnceReply : List ℕ → Reply → Type 0
IsOnceReply input reply =
    AnswersRest (graph_line once_path (line_at_front input)) (after_line input) reply
