-- What serving the messages of an input does, whatever they are replied: which are answered, what is written, and the
-- status.
use Rattle.std.specs.Prelude.{◌≡◌, ℕ, Bool, true, List, [], ◌++◌, Option, None, Some, IfSome}
use Rattle.std.specs.List.{flat_map}
use Rattle.std.specs.Io.KnownBytes.{append_known}
use Rattle.lsp_frames.specs.Frames.{frame_text}
use Rattle.lsp_wire.specs.declared.reply.Reply.{Reply}
use Rattle.lsp_wire.specs.Replies.{reply_text}
use Rattle.lsp_messages.specs.Inputs.{max_messages, to_answer, ending, status_at}
use Rattle.lsp_messages.specs.Ends.{writes_all, answers_all}
use Rattle.lsp_messages.specs.Reached.{AreFirst, AreTaken, AreAllTaken}

-- the frame of a reply, where there is one
abbrev pub reply_frame : Option Reply → List ℕ
reply_frame None = []
reply_frame (Some reply) = frame_text (reply_text reply)

-- the text of replies
abbrev pub replies_text : List (Option Reply) → List ℕ
replies_text replies = flat_map reply_frame replies

-- what messages were replied, one reply or none to each, and whether `shutdown` was answered among them
abbrev pub Told : Type 1
Told = List (List ℕ) → List (Option Reply) → Bool → Type 0

-- Messages of a source that had left the first of these inputs, and has the second one left now, were served.
pub record Serves (IsTold : Told) (left left' held held' : Option (List ℕ))
    (status : ℕ) : Type 0 where
  pub answered : List (List ℕ)
  pub replies : List (Option Reply)
  pub shut : Bool
  pub told : IsTold answered replies shut
  -- they are the first of those that are to be answered, and whole
  pub first : IfSome left (λ input. AreFirst answered (to_answer max_messages input))
  pub taken : AreTaken answered left left'
  -- a beginning of their replies' text was written, and with most statuses all of it
  pub written : List ℕ
  pub unwritten : List ℕ
  pub text : written ++ unwritten ≡ replies_text replies
  pub holds : held' ≡ append_known held written
  pub whole : writes_all status ≡ true → written ≡ replies_text replies
  -- with 0, 1, 6, 7 and 9 all messages that are to be answered were, and the status tells why no more are
  pub all : answers_all status ≡ true
      → IfSome left (λ input. answered ≡ to_answer max_messages input)
  pub ends : answers_all status ≡ true
      → IfSome left (λ input. status ≡ status_at shut (ending max_messages input))
  -- with 3 the source failed where no more whole messages were taken
  pub short : status ≡ 3 → AreAllTaken answered left left'
