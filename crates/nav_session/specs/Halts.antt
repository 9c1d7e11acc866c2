-- Which status tells of a halt, and which halt an error is.
use Rattle.std.specs.Prelude.{ℕ}
use Rattle.nav_io.specs.declared.lines.LineError.{LineError}
use Rattle.nav_io.specs.declared.lines.LineError.TheVariants as line
use Rattle.nav_io.specs.declared.write.WriteError.{WriteError}
use Rattle.nav_io.specs.declared.write.WriteError.TheVariants as write
use Rattle.nav_session.specs.declared.halt.Halt.{Halt}
use Rattle.nav_session.specs.declared.halt.Halt.TheVariants.{SourceFailed, SinkFailed, NoMemory, LongLine}

-- the status that tells of the halt
abbrev pub status_of : Halt → ℕ
status_of SourceFailed = 3
status_of SinkFailed = 4
status_of NoMemory = 5
status_of LongLine = 6

-- the halt where no line could be read
abbrev pub halt_of_line : LineError → Halt
halt_of_line line.ReadFault = SourceFailed
halt_of_line line.TooLong = LongLine
halt_of_line line.NoMemory = NoMemory

-- the halt where a text could not be written
abbrev pub halt_of_write : WriteError → Halt
halt_of_write write.WriteFault = SinkFailed
halt_of_write write.NoMemory = NoMemory
