-- The replies to what is refused, and to queries. Want of memory is no reply, and no definition gives it.
use Rattle.std.specs.Prelude.{ℕ, List, length, Bool, false, not, nat_eq, if◌then◌else◌, Option, Some, Result, Ok, Err}
use Rattle.std.specs.Option.{option_map, option_map_or}
use Rattle.version_tree.specs.declared.edit.Edit.{Edit}
use Rattle.version_tree.specs.declared.edit.EditFault.{EditFault}
use Rattle.version_tree.specs.declared.edit.EditFault.TheVariants as edit
use Rattle.version_tree.specs.declared.entry.Entry.{Entry}
use Rattle.version_tree.specs.declared.row.Answer.{Answer}
use Rattle.version_tree.specs.declared.row.Row.{Row}
use Rattle.version_board.specs.declared.fault.CommitFault.{CommitFault}
use Rattle.version_board.specs.declared.fault.CommitFault.TheVariants as why
use Rattle.version_board.specs.Logs.{refusal}
use Rattle.nav_answers.specs.declared.found.AskFault.{AskFault}
use Rattle.nav_answers.specs.declared.found.AskFault.TheVariants as ask
use Rattle.nav_proto.specs.declared.proto_fault.ProtoFault.{ProtoFault}
use Rattle.nav_proto.specs.declared.proto_fault.ProtoFault.TheVariants as proto
use Rattle.nav_proto.specs.declared.reply.Reply.{Reply}
use Rattle.nav_proto.specs.declared.reply.Reply.TheVariants.{Rows, Callers, Plain, BadRequest, Stale, Twice, AbsentFile, AbsentGrant, TooManyFiles, TooHeavy}
use Rattle.nav_proto.specs.declared.reply.PlainError.TheVariants.{BadJson, Spent, NoFile, NoReference, NoDefinition, Crowded}

-- to a line that is no request
abbrev pub fault_reply : ProtoFault → Reply
fault_reply proto.BadJson = Plain BadJson
fault_reply (proto.BadRequest field) = BadRequest field
fault_reply proto.NoMemory = Plain BadJson

-- to edits that the head refuses
abbrev pub edit_reply : EditFault → Reply
edit_reply (edit.Twice path) = Twice path
edit_reply (edit.Absent path) = AbsentFile path
edit_reply (edit.GrantAbsent user prefix) = AbsentGrant user prefix
edit_reply (edit.DenyAbsent user prefix) = AbsentGrant user prefix
edit_reply (edit.TooManyFiles files) = TooManyFiles files
edit_reply (edit.TooHeavy weight) = TooHeavy weight
edit_reply edit.Spent = Plain Spent
edit_reply edit.NoMemory = Plain Spent

-- to edits that the board refuses
abbrev pub commit_reply : CommitFault → Reply
commit_reply (why.Stale head) = Stale head
commit_reply (why.Edit fault) = edit_reply fault
commit_reply why.NoMemory = Plain Spent

-- to a query
abbrev pub query_reply : Result Answer AskFault → Reply
query_reply (Ok answer) = Rows answer
query_reply (Err ask.NoFile) = Plain NoFile
query_reply (Err ask.NoReference) = Plain NoReference
query_reply (Err ask.NoDefinition) = Plain NoDefinition
query_reply (Err ask.Crowded) = Plain Crowded
query_reply (Err ask.NoMemory) = Plain Crowded

-- to `callers`, which is refused in the same words
abbrev pub callers_reply : Result (List Row) AskFault → Reply
callers_reply (Ok rows) = Callers rows
callers_reply (Err fault) = query_reply (Err fault)

-- whether a base was given that isn't the head
abbrev pub is_stale : Option ℕ → ℕ → Bool
is_stale base head = option_map_or (λ (b : ℕ). not (nat_eq b head)) base false

-- what refuses edits on the head of a log: another base, and then the first fault of the edits
abbrev pub verdict : Option ℕ → List Entry → List Edit → Option Reply
verdict base log edits =
    if is_stale base (length log) then Some (Stale (length log)) else option_map edit_reply (refusal log edits)
