-- What the reading of the next message does, and the looking for more behind the last one.
use Rattle.std.specs.Prelude.{◌≡◌, ◌<◌, ◌⊎◌, ℕ, List, length, Option, Some, None, IfSome, Result, Ok, Err}
use Rattle.nav_io.specs.Reading.{Reading, ahead}
use Rattle.lsp_frames.specs.Frames.{cut, body_of}
use Rattle.lsp_frames.specs.Reading.{AfterFrame, AfterFrameError}
use Rattle.lsp_frames.specs.declared.reader.FrameError.{FrameError}
use Rattle.lsp_frames.specs.declared.reader.FrameError.TheVariants as frame
use Rattle.lsp_wire.specs.declared.message.Body.{Body}
use Rattle.lsp_wire.specs.Messages.{body_from}
use Rattle.lsp_messages.specs.declared.halt.Halt.{Halt}
use Rattle.lsp_messages.specs.declared.halt.Halt.TheVariants.{SourceFailed, SinkFailed, NoMemory, Large, Broken}
use Rattle.lsp_messages.specs.declared.receiving.More.{More}
use Rattle.lsp_messages.specs.declared.receiving.More.TheVariants as more

-- the reader went from old to new and the source from left to left', and next is the body or none
pub record ReadsFrame (old new : Reading) (left left' next : Option (List ℕ)) : Type 0 where
  pub frame : IfSome (ahead old left) (λ text. body_of (cut text) ≡ Ok next)
  pub after : AfterFrame old new left left' next

-- no body was read, for this reason
pub record FailsToRead (old new : Reading) (left left' : Option (List ℕ))
    (error : FrameError) : Type 0 where
  pub why : error ≡ frame.Broken
      → IfSome (ahead old left) (λ text. body_of (cut text) ≡ Err frame.Broken)
  pub large : error ≡ frame.TooLong
      → IfSome (ahead old left) (λ text. body_of (cut text) ≡ Err frame.TooLong)
  pub after : AfterFrameError old new left left' error

-- a message was read, which is that of these bytes
abbrev pub ReadsMessage : Reading → Reading → Option (List ℕ) → Option (List ℕ) → Body → Type 0
ReadsMessage old new left left' body =
    (bytes : List ℕ) × ReadsFrame old new left left' (Some bytes) × (body ≡ body_from bytes)

-- what comes of reading the next message
abbrev pub ReadsNext : Reading → Reading → Option (List ℕ) → Option (List ℕ)
    → Result (Option Body) Halt → Type 0
ReadsNext old new left left' (Ok (Some body)) = ReadsMessage old new left left' body
ReadsNext old new left left' (Ok None) = ReadsFrame old new left left' None
ReadsNext old new left left' (Err SourceFailed) = FailsToRead old new left left' frame.ReadFault
ReadsNext old new left left' (Err Broken) = FailsToRead old new left left' frame.Broken
ReadsNext old new left left' (Err Large) = FailsToRead old new left left' frame.TooLong
ReadsNext old new left left' (Err NoMemory) =
    FailsToRead old new left left' frame.NoMemory
    ⊎ ((bytes : List ℕ) × ReadsFrame old new left left' (Some bytes))
ReadsNext old new left left' (Err SinkFailed) = ⊥

-- memory was wanting for the next message: no body was read, or the body that was isn't empty
abbrev pub WantsMemory : Reading → Reading → Option (List ℕ) → Option (List ℕ) → Type 0
WantsMemory old new left left' =
    FailsToRead old new left left' frame.NoMemory
    ⊎ ((bytes : List ℕ) × ReadsFrame old new left left' (Some bytes) × (0 < length bytes))

-- what comes of looking whether more stands behind the last message that may be answered
abbrev pub LooksOn : Reading → Reading → Option (List ℕ) → Option (List ℕ) → Result More Halt
    → Type 0
LooksOn old new left left' (Ok more.Nothing) = ReadsFrame old new left left' None
LooksOn old new left left' (Ok more.Bytes) =
    FailsToRead old new left left' frame.Broken
    ⊎ (FailsToRead old new left left' frame.TooLong
    ⊎ ((bytes : List ℕ) × ReadsFrame old new left left' (Some bytes)))
LooksOn old new left left' (Err SourceFailed) = FailsToRead old new left left' frame.ReadFault
LooksOn old new left left' (Err NoMemory) = FailsToRead old new left left' frame.NoMemory
LooksOn old new left left' _ = ⊥
