-- What a task does with its input and output: what it reads, what it writes, and where it stops.
use Rattle.std.specs.Prelude.{◌≡◌, ℕ, ◌<◌, ◌⊎◌, List, [], ◌∷◌, ◌++◌, Option, Some, IfSome, Ok}
use Rattle.std.specs.Io.KnownBytes.{prepend_known, append_known}
use Rattle.graph_nodes.specs.declared.node.Node.{Node}
use Rattle.graph_nodes.specs.declared.node.Edge.{Edge}
use Rattle.nav_io.specs.Lines.{line_max, line_len, line_at_front, after_line, HasNoNewline}
use Rattle.nav_proto.specs.declared.reply.Reply.{Reply}
use Rattle.nav_proto.specs.Replies.{reply_text}
use Rattle.nav_session.specs.Transcripts.{with_newline}
use Rattle.nav_serve.specs.declared.tasks.Task.{Task}
use Rattle.nav_serve.specs.declared.tasks.Task.TheVariants.{Once, Upgrade}
use Rattle.nav_serve.specs.Files.{graph_line}
use Rattle.nav_serve.specs.Once.{once_path, IsOnceReply}
use Rattle.nav_serve.specs.Upgrade.{upgrade_text}

-- the output that answers the input of the task
abbrev pub IsOutput : Task → List ℕ → List ℕ → Type 0
IsOutput Once input output =
    (reply : Reply) × IsOnceReply input reply × (output ≡ with_newline (reply_text reply))
IsOutput Upgrade input output = output ≡ with_newline (upgrade_text input)

-- nothing, or the beginning of an output that answers the input
abbrev pub IsBeginning : Task → List ℕ → List ℕ → Type 0
IsBeginning task input written =
    (written ≡ []) ⊎ ((rest : List ℕ) × IsOutput task input (written ++ rest))

-- the whole output was written, where the source told its input
abbrev pub WritesOutput : Task → Option (List ℕ) → Option (List ℕ) → Option (List ℕ) → Type 0
WritesOutput task left held held' =
    (output : List ℕ) × (held' ≡ append_known held output)
    × IfSome left (λ input. IsOutput task input output)

-- nothing or the beginning of an output was written
abbrev pub WritesBeginning : Task → Option (List ℕ) → Option (List ℕ) → Option (List ℕ) → Type 0
WritesBeginning task left held held' =
    (written : List ℕ) × (held' ≡ append_known held written)
    × IfSome left (λ input. IsBeginning task input written)

-- the line is a graph file that `once` accepts
abbrev pub IsAccepted : Option (List ℕ) → Type 0
IsAccepted line = (parts : List Node × List Edge) × (graph_line once_path line ≡ Ok parts)

-- the bytes lack a whole line that the task needs: the first, or for `once` the second behind a graph
abbrev pub LacksLine : Task → List ℕ → Type 0
LacksLine Once bytes =
    HasNoNewline bytes
    ⊎ ((graph : List ℕ) × (rest : List ℕ) × (bytes ≡ graph ++ 10 ∷ rest)
    × HasNoNewline graph × IsAccepted (Some graph) × HasNoNewline rest)
LacksLine Upgrade bytes = HasNoNewline bytes

-- the source failed before a line that the task needs was whole: what was taken lacks it
abbrev pub StopsShort : Task → Option (List ℕ) → Option (List ℕ) → Type 0
StopsShort task left left' =
    (taken : List ℕ) × (left ≡ prepend_known taken left') × LacksLine task taken

-- a line that the task needs is longer than a line may be
abbrev pub HasLongLine : Task → List ℕ → Type 0
HasLongLine Once input =
    (line_max < line_len input)
    ⊎ (IsAccepted (line_at_front input) × (line_max < line_len (after_line input)))
HasLongLine Upgrade input = line_max < line_len input
