-- Which messages of an input are to be answered, and why no more are. A message is the body of a frame.
use Rattle.std.specs.Prelude.{◌≡◌, ℕ, zero, suc, ◌&&◌, Bool, true, false, is_none, List, [], ◌∷◌, if◌then◌else◌, Option, None, Some}
use Rattle.lsp_wire.specs.declared.message.Asks.{Asks}
use Rattle.lsp_wire.specs.declared.message.Asks.TheVariants.{Exit}
use Rattle.lsp_wire.specs.declared.message.Body.{Body}
use Rattle.lsp_wire.specs.declared.message.Body.TheVariants as body
use Rattle.lsp_wire.specs.Messages.{body_from}
use Rattle.lsp_frames.specs.Frames.{Cut, Nothing, Malformed, Large, Unfinished, Frame, cut, rest_of}

-- the most messages of a session
abbrev pub max_messages : ℕ
max_messages = 1000000

-- whether a message asks to end
abbrev pub asks_exit : Asks → Bool
asks_exit Exit = true
asks_exit _ = false

-- whether it is the notification `exit`: with an id it is a request, and ends nothing
abbrev pub is_exit_body : Body → Bool
is_exit_body (body.Message m) = is_none m.id && asks_exit m.asks
is_exit_body _ = false

-- the same of the bytes of a body
abbrev pub is_exit : List ℕ → Bool
is_exit bytes = is_exit_body (body_from bytes)

-- the message of a whole frame
abbrev pub whole_body : Cut → Option (List ℕ)
whole_body (Frame bytes rest) = Some bytes
whole_body _ = None

-- a message and those behind it, of which there are none behind `exit`
abbrev pub up_to_exit : Option (List ℕ) → List (List ℕ) → List (List ℕ)
up_to_exit None behind = []
up_to_exit (Some bytes) behind = bytes ∷ (if is_exit bytes then [] else behind)

-- Of the messages of an input, those that are to be answered, where at most so many may be: all whole ones from the
-- front, up to and with the first `exit`.
unfoldable pub to_answer : ℕ → List ℕ → List (List ℕ)
to_answer zero input = []
to_answer (suc n) input = up_to_exit (whole_body (cut input)) (to_answer n (rest_of (cut input)))

-- why no more are to be answered: the input ends between messages; a message ends the session; no frame stands there,
-- or none that is whole; one states too long a body; or there were as many as may be, and more stands behind them
pub data Ending : Type 0 where
  AtEnd : Ending
  AtExit : Ending
  AtBroken : Ending
  AtLarge : Ending
  AtMost : Ending

-- behind as many as may be
abbrev pub ending_full : Cut → Ending
ending_full Nothing = AtEnd
ending_full _ = AtMost

-- where another may be, and behind it that ending comes
abbrev pub ending_with : Cut → Ending → Ending
ending_with Nothing behind = AtEnd
ending_with Malformed behind = AtBroken
ending_with Large behind = AtLarge
ending_with Unfinished behind = AtBroken
ending_with (Frame bytes rest) behind = if is_exit bytes then AtExit else behind

-- why no more messages of an input are to be answered, where at most so many may be
unfoldable pub ending : ℕ → List ℕ → Ending
ending zero input = ending_full (cut input)
ending (suc n) input = ending_with (cut input) (ending n (rest_of (cut input)))

-- the status that tells of it, where a `shutdown` was answered or none
abbrev pub status_at : Bool → Ending → ℕ
status_at shut AtEnd = 0
status_at shut AtExit = if shut then 0 else 1
status_at shut AtBroken = 9
status_at shut AtLarge = 6
status_at shut AtMost = 7

-- the messages are those of the frames at the front of a text, one behind the other, and this is what stands behind them
abbrev pub AreFrames : List (List ℕ) → List ℕ → List ℕ → Type 0
AreFrames [] text rest = text ≡ rest
AreFrames (bytes ∷ more) text rest =
    (behind : List ℕ) × (cut text ≡ Frame bytes behind) × AreFrames more behind rest

-- none of the messages is an `exit`
abbrev pub HaveNoExit : List (List ℕ) → Type 0
HaveNoExit [] = Unit {0}
HaveNoExit (bytes ∷ more) = (is_exit bytes ≡ false) × HaveNoExit more
