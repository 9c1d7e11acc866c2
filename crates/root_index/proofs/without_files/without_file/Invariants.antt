use Rattle.std.proofs.Common.{◌≡◌}
use Rattle.std.specs.Prelude.{filter}
use Rattle.root_index.specs.Blocks.{all_paths}
use Rattle.root_index.proofs.WithoutFile.{is_left}
use Rattle.root_index.proofs.without_files.without_file.Given as goal

-- the file's paths of earlier places are out
abbrev pub invariant-loop-place : goal.invariant-loop-place
invariant-loop-place l = all_paths l.rest ≡ filter (is_left l.file l.place) (all_paths l.fn.groups)
