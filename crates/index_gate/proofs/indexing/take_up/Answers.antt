use Rattle.std.specs.Prelude.{IfOk}
use Rattle.std.proofs.Common.{sym, subst, arith}
use Rattle.partial_path.specs.PathSets.{FileRules}
use Rattle.file_paths.specs.Finds.{AddsWalks}
use Rattle.index_gate.proofs.indexing.take_up.Goals as goal

pub returns-in_ok-share-in-Ok-clause-steps : goal.returns-in_ok-share-in-Ok-clause-steps
returns-in_ok-share-in-Ok-clause-steps g c =
    let found = subst (λ r. IfOk r (λ (file : FileRules). AddsWalks file.graph 0 c.args.done.now.walks)) c.in-Ok.is c.requires.walks in
    record { walks = subst (λ (file : FileRules). AddsWalks file.graph c.args.steps.now c.add.new.self) (sym c.in_ok-share-in-Ok.ensures) (found.0, found.1, omega (arith, c.add.ensures, found.2)) }
