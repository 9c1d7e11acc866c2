use Rattle.std.proofs.Common.{◌≡◌, take}
use Rattle.root_index.specs.Offers.{files_of}
use Rattle.nav_answers.proofs.viewed.FileTable.of.Given as goal

abbrev pub invariant-loop-file : goal.invariant-loop-file
invariant-loop-file l = l.files.items ≡ take l.file (files_of l.view)
