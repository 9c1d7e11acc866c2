use Rattle.std.proofs.Common.{◌≡◌, drop, filter}
use Rattle.back_stitch.specs.Plain.{ends_in}
use Rattle.back_stitch.proofs.plain.next_in.Given as goal

-- those passed over may not end there
abbrev pub invariant-loop-next : goal.invariant-loop-next
invariant-loop-next l = filter (ends_in l.files l.spot l.number) (drop l.place l.paths) ≡ filter (ends_in l.files l.spot l.number) (drop l.next l.paths)
