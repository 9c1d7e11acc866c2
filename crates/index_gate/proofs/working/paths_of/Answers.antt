use Rattle.std.proofs.Common.{ap, ◌∙◌}
use Rattle.partial_path.specs.PathSets.{FileRules}
use Rattle.index_gate.proofs.Adding.{counts, weight_is}
use Rattle.index_gate.proofs.working.paths_of.Goals as goal

pub returns-in_err-of-in-Ok-clause-few : goal.returns-in_err-of-in-Ok-clause-few
returns-in_err-of-in-Ok-clause-few c = weight_is c.args.doc.now c.in_ok-graph.graph c.find_paths.new.walks c.in_ok-graph.ensures c.find_paths.ensures.fewer

pub returns-in_ok-of-in-Ok-clause-walks : goal.returns-in_ok-of-in-Ok-clause-walks
returns-in_ok-of-in-Ok-clause-walks c =
    counts c.in_ok-of-in-Ok.field-0 c.in_ok-graph.graph c.args.walks.now c.find_paths.new.walks
    (ap (λ (file : FileRules). file.graph) c.in_ok-of-in-Ok.ensures ∙ c.in-Ok.ensures.graph) c.requires c.in-Ok.ensures.walks

pub returns-in_ok-of-in-Ok-clause-few : goal.returns-in_ok-of-in-Ok-clause-few
returns-in_ok-of-in-Ok-clause-few c = weight_is c.args.doc.now c.in_ok-graph.graph c.find_paths.new.walks c.in_ok-graph.ensures c.find_paths.ensures.fewer

pub returns-in-Err-Heavy-clause-few : goal.returns-in-Err-Heavy-clause-few
returns-in-Err-Heavy-clause-few c = weight_is c.args.doc.now c.in_ok-graph.graph c.find_paths.new.walks c.in_ok-graph.ensures c.find_paths.ensures.fewer

pub returns-in-Err-NoMemory-clause-few : goal.returns-in-Err-NoMemory-clause-few
returns-in-Err-NoMemory-clause-few c = weight_is c.args.doc.now c.in_ok-graph.graph c.find_paths.new.walks c.in_ok-graph.ensures c.find_paths.ensures.fewer
