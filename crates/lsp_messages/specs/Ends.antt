-- Why a session halts before its work is done, and the statuses.
use Rattle.std.specs.Prelude.{ℕ, Bool, ◌||◌, ◌==◌}
use Rattle.lsp_frames.specs.declared.reader.FrameError.{FrameError}
use Rattle.lsp_frames.specs.declared.reader.FrameError.TheVariants as frame
use Rattle.nav_io.specs.declared.write.WriteError.{WriteError}
use Rattle.nav_io.specs.declared.write.WriteError.TheVariants as write
use Rattle.lsp_messages.specs.declared.halt.Halt.{Halt}
use Rattle.lsp_messages.specs.declared.halt.Halt.TheVariants.{SourceFailed, SinkFailed, NoMemory, Large, Broken}

-- the status that tells of the halt
abbrev pub status_of : Halt → ℕ
status_of SourceFailed = 3
status_of SinkFailed = 4
status_of NoMemory = 5
status_of Large = 6
status_of Broken = 9

-- the halt where no message could be read
abbrev pub halt_of_frame : FrameError → Halt
halt_of_frame frame.ReadFault = SourceFailed
halt_of_frame frame.Broken = Broken
halt_of_frame frame.TooLong = Large
halt_of_frame frame.NoMemory = NoMemory

-- the halt where a reply could not be written
abbrev pub halt_of_write : WriteError → Halt
halt_of_write write.WriteFault = SinkFailed
halt_of_write write.NoMemory = NoMemory

-- whether all replies to the messages that were answered are written with the status
abbrev pub writes_all : ℕ → Bool
writes_all status =
    status == 0 || status == 1 || status == 3 || status == 6 || status == 7 || status == 9

-- whether all messages that are to be answered are, with the status
abbrev pub answers_all : ℕ → Bool
answers_all status = status == 0 || status == 1 || status == 6 || status == 7 || status == 9

-- whether a session may end with the status, and whether one may that nothing outside hinders
abbrev pub ends_session : ℕ → Bool
ends_session status =
    status == 0 || status == 1 || status == 3 || status == 4 || status == 5 || status == 6
    || status == 7 || status == 9

abbrev pub ends_unhindered : ℕ → Bool
ends_unhindered status =
    status == 0 || status == 1 || status == 5 || status == 6 || status == 7 || status == 9
