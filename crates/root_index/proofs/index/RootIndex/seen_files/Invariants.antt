use Rattle.std.proofs.Common.{◌≡◌, take}
use Rattle.root_index.specs.SeenFiles.{files_seen}
use Rattle.root_index.proofs.index.RootIndex.seen_files.Given as goal

-- those of the paths before this one
abbrev pub invariant-loop-place : goal.invariant-loop-place
invariant-loop-place l = l.files ≡ files_seen (take l.place l.self) l.view
