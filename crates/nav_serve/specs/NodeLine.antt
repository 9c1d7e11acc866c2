-- What a line that has to ask for a node is answered with.
use Rattle.std.specs.Prelude.{ℕ, Result, Ok, Err}
use Rattle.nav_proto.specs.declared.proto_fault.ProtoFault.{ProtoFault}
use Rattle.nav_proto.specs.declared.proto_fault.ProtoFault.TheVariants as fault
use Rattle.nav_proto.specs.declared.reply.Reply.{Reply}
use Rattle.nav_proto.specs.declared.reply.Reply.TheVariants.{Plain, BadRequest}
use Rattle.nav_proto.specs.declared.reply.PlainError.TheVariants.{BadJson}
use Rattle.nav_serve.specs.declared.file.Refused.{Refused}
use Rattle.nav_serve.specs.declared.file.Refused.TheVariants as refused
use Rattle.nav_session.specs.declared.halt.Halt.TheVariants as halt

-- the reply to a line's fault; want of memory is no fault, and a definition never gives it
abbrev pub reply_to : ProtoFault → Reply
reply_to fault.BadJson = Plain BadJson
reply_to (fault.BadRequest field) = BadRequest field
reply_to fault.NoMemory = Plain BadJson

-- the node, or the reply to its line's fault
abbrev pub node_or_refusal : Result ℕ ProtoFault → Result ℕ Reply
node_or_refusal (Ok n) = Ok n
node_or_refusal (Err fault) = Err (reply_to fault)

-- what stands in place of a node: the reply, or a stop for want of memory; no public clause cites this
abbrev pub refusal_of : ProtoFault → Refused
refusal_of fault.BadJson = refused.Reply (Plain BadJson)
refusal_of (fault.BadRequest field) = refused.Reply (BadRequest field)
refusal_of fault.NoMemory = refused.Halt halt.NoMemory
