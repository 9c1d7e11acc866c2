use Rattle.std.specs.Prelude.{length}
use Rattle.path_store.proofs.Appended.{HasMoved}
use Rattle.path_store.proofs.store.PathStore.append.Given as goal

abbrev pub invariant-loop-held : goal.invariant-loop-held
invariant-loop-held l = HasMoved l.initial.newer l.initial.self l.newer l.self

abbrev pub decreases-loop-held : goal.decreases-loop-held
decreases-loop-held l = length l.newer
