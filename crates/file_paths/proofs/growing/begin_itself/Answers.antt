-- What the path is with the edge more tells what walk it is; where there is none, there is no walk.
use Rattle.std.proofs.lemmas.Result.{on_ok_weaker}
use Rattle.file_paths.specs.declared.fault.TheConstants.{MAX_WEIGHT}
use Rattle.file_paths.proofs.NextLaws.{adds_none, adds_some, adds_short}
use Rattle.file_paths.proofs.growing.begin_itself.Goals as goal

pub returns-in_default-clause-found : goal.returns-in_default-clause-found
returns-in_default-clause-found c =
    adds_none c.args.graph.now c.args.edge c.args.path c.in_ok-longer.field-0 c.in_ok-longer.ensures c.args.begun.now.items c.requires.may c.in_default.is

pub returns-clause-found : goal.returns-clause-found
returns-clause-found c =
    on_ok_weaker c.put.result
    (λ added.
    adds_some c.args.graph.now c.args.edge c.args.path c.in_ok-longer.field-0 c.in_ok-longer.ensures c.args.begun.now.items c.put.new.paths.items c.in-Some.longer
    c.requires.may c.in-Some.is added) c.put.ensures

pub returns-clause-begun : goal.returns-clause-begun
returns-clause-begun c =
    on_ok_weaker c.put.result
    (λ added.
    adds_short c.args.graph.now c.args.edge c.args.path c.in_ok-longer.field-0 c.in_ok-longer.ensures MAX_WEIGHT c.args.begun.now.items c.put.new.paths.items c.in-Some.longer
    c.requires.short c.start.ensures.rule c.requires.begun c.in-Some.is added) c.put.ensures
