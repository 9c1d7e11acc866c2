use Rattle.std.proofs.Common.{◌≡◌}
use Rattle.back_stitch.specs.Plain.{ends_left}
use Rattle.back_stitch.proofs.plain.next_of.Given as goal

-- the files passed over have none left
abbrev pub invariant-loop-file : goal.invariant-loop-file
invariant-loop-file l = ends_left l.files l.at ≡ ends_left l.files (record { spot = l.at.spot; file = l.file; place = l.place })
