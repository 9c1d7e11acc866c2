-- Which error of a line reader comes from which of taking bytes. No public clause cites it.
use Rattle.nav_io.specs.declared.taking.TakeError.{TakeError}
use Rattle.nav_io.specs.declared.taking.TakeError.TheVariants.{ReadFault as take_fault, NoMemory as take_memory}
use Rattle.nav_io.specs.declared.lines.LineError.{LineError}
use Rattle.nav_io.specs.declared.lines.LineError.TheVariants.{ReadFault, NoMemory}

-- the error of a line reader after an error of taking bytes
abbrev pub line_error_of : TakeError → LineError
line_error_of take_fault = ReadFault
line_error_of take_memory = NoMemory
