use Rattle.std.proofs.Common.{◌≡◌, drop}
use Rattle.std.specs.Prelude.{option_copied}
use Rattle.partial_path.specs.Sources.{rules_after}
use Rattle.root_index.specs.Roots.{root}
use Rattle.root_index.specs.Offers.{files_of}
use Rattle.root_index.specs.Looks.{look_behind}
use Rattle.root_index.proofs.looks.looked_behind.Given as goal

-- the files passed have no more
abbrev pub invariant-loop-file : goal.invariant-loop-file
invariant-loop-file l =
    look_behind (files_of l.view) (option_copied l.symbol) l.fn.at ≡ rules_after l.file (drop l.file (files_of l.view)) root (option_copied l.symbol)
