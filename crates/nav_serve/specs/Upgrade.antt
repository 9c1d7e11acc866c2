-- What `upgrade` writes to its input.
use Rattle.std.specs.Prelude.{ℕ, List, codes, Result, Ok, Err}
use Rattle.graph_nodes.specs.declared.node.Node.{Node}
use Rattle.graph_nodes.specs.declared.node.Edge.{Edge}
use Rattle.graph_json.specs.Printed.{named_text}
use Rattle.nav_proto.specs.declared.reply.Reply.{Reply}
use Rattle.nav_proto.specs.Replies.{reply_text}
use Rattle.nav_io.specs.Lines.{line_at_front}
use Rattle.nav_serve.specs.Files.{graph_line}

-- the path that `upgrade` gives its graph
abbrev pub upgrade_path : List ℕ
upgrade_path = codes "upgrade.sg.json"

-- the graph's text in format 2, or the text of the reply that refuses it
abbrev pub named_or_reply : Result (List Node × List Edge) Reply → List ℕ
named_or_reply (Ok parts) = named_text (record { nodes = parts.0; edges = parts.1 })
named_or_reply (Err refusal) = reply_text refusal

-- the one line that answers the input, without its newline
abbrev pub upgrade_text : List ℕ → List ℕ
upgrade_text input = named_or_reply (graph_line upgrade_path (line_at_front input))
