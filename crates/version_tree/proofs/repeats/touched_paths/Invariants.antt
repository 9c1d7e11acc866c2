use Rattle.std.proofs.Common.{◌≡◌, take, map}
use Rattle.version_tree.specs.Verdict.{all_touched}
use Rattle.version_tree.proofs.repeats.touched_paths.Given as goal

abbrev pub invariant-loop-edit : goal.invariant-loop-edit
invariant-loop-edit l = map (λ p. p.now) l.paths.items ≡ all_touched (take l.edit-index l.edits)
