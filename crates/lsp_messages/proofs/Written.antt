-- What is held where nothing was written.
use Rattle.std.proofs.Common.{ℕ, List, [], Option, refl, sym}
use Rattle.nav_io.specs.Write.{HoldsPrefix}
use Rattle.nav_io.proofs.Written.{append_known-nil}

pub nothing_written : (held : Option (List ℕ)) (text : List ℕ) → HoldsPrefix held text held
nothing_written held text = ([], text, refl, sym (append_known-nil held))
