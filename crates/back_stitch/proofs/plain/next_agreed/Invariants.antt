use Rattle.std.proofs.Common.{◌≡◌, length}
use Rattle.back_stitch.specs.Plain.{ends_left, agreed_left}
use Rattle.back_stitch.proofs.plain.next_agreed.Given as goal

-- those passed over don't make what is asked for
abbrev pub invariant-loop-found : goal.invariant-loop-found
invariant-loop-found l = agreed_left l.files l.symbols l.fn.at ≡ agreed_left l.files l.symbols l.next

abbrev pub decreases-loop-found : goal.decreases-loop-found
decreases-loop-found l = length (ends_left l.files l.next)
