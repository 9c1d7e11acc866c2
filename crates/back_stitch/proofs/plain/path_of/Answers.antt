-- As many paths are passed over as are asked for.
use Rattle.std.proofs.Common.{sym, ap, ℕ, List}
use Rattle.std.specs.Prelude.{slice_get}
use Rattle.partial_path.specs.Rules.{Rule}
use Rattle.back_stitch.proofs.plain.path_of.Goals as goal

pub loop-left-init : goal.loop-left-init
loop-left-init c = ap (λ (xs : List (ℕ × Rule)). slice_get xs c.args.k) (sym (c.first_end-at.ensures c.args.files.now))
