use Rattle.std.proofs.Common.{◌≡◌, drop}
use Rattle.back_stitch.specs.Sources.{agrees}
use Rattle.back_stitch.proofs.plain.agrees.Given as goal

-- those passed over have the texts that are asked for
abbrev pub invariant-loop-place : goal.invariant-loop-place
invariant-loop-place l = agrees l.asked l.made ≡ agrees (drop l.place l.asked) (drop l.place l.made)
