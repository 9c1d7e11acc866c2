-- What a call that may refuse the input answers, beside what is defined: the value, or the reply that refuses it.
use Rattle.std.specs.Prelude.{◌≡◌, List, Result, Ok, Err}
use Rattle.graph_nodes.specs.declared.node.Node.{Node}
use Rattle.graph_nodes.specs.declared.node.Edge.{Edge}
use Rattle.graph_nodes.specs.Graph.{Graph}
use Rattle.nav_proto.specs.declared.reply.Reply.{Reply}
use Rattle.nav_serve.specs.declared.file.Refused.{Refused}
use Rattle.nav_serve.specs.declared.file.Refused.TheVariants as refused
use Rattle.nav_session.specs.declared.halt.Halt.{Halt}
use Rattle.nav_session.specs.declared.halt.Halt.TheVariants as halt

-- a reply is the one that is defined; a stop is for want of memory, which is free
abbrev pub RefusesAs : {Y : Type 0} → Refused → Result Y Reply → Type 0
RefusesAs (refused.Reply reply) defined = defined ≡ Err reply
RefusesAs (refused.Halt reason) defined = reason ≡ halt.NoMemory

-- a call answered what is defined, its value seen by the view
abbrev pub AnswersAs : {X Y : Type 0} → (X → Y) → Result X Refused → Result Y Reply → Type 0
AnswersAs view (Ok x) defined = defined ≡ Ok (view x)
AnswersAs view (Err e) defined = RefusesAs e defined

-- the nodes and edges of a graph
abbrev pub parts : Graph → List Node × List Edge
parts g = (g.nodes, g.edges)

-- the reply, or the stop as an error
abbrev pub reply_of : Refused → Result Reply Halt
reply_of (refused.Reply reply) = Ok reply
reply_of (refused.Halt reason) = Err reason
