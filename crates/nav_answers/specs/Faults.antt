-- What a query says where stitching has a fault.
use Rattle.stitcher.specs.declared.found.StitchFault.{StitchFault}
use Rattle.stitcher.specs.declared.found.StitchFault.TheVariants as stitch
use Rattle.nav_answers.specs.declared.found.AskFault.{AskFault}
use Rattle.nav_answers.specs.declared.found.AskFault.TheVariants as ask

-- crowded is crowded, and want of memory is want of memory
abbrev pub ask_fault : StitchFault → AskFault
ask_fault stitch.Crowded = ask.Crowded
ask_fault stitch.NoMemory = ask.NoMemory
