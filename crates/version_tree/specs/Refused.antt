-- What a refusal of edits tells; want of memory alone tells nothing.
use Rattle.std.specs.Prelude.{◌≡◌, ◌≢◌, Option, Some}
use Rattle.version_tree.specs.declared.edit.EditFault.{EditFault}
use Rattle.version_tree.specs.declared.edit.EditFault.TheVariants.{NoMemory}

-- the fault is the one that there is, unless it is want of memory
abbrev pub Refuses : Option EditFault → EditFault → Type 0
Refuses there e = e ≢ NoMemory → there ≡ Some e
