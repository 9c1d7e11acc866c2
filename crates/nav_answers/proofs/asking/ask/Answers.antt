use Rattle.std.proofs.Common.{subst, List, IfOk}
use Rattle.version_tree.specs.Contents.{FileRow}
use Rattle.nav_answers.specs.Asking.{IsFound}
use Rattle.nav_answers.specs.Sources.{graphs_seen}
use Rattle.nav_answers.proofs.Referred.{found_told}
use Rattle.nav_answers.proofs.asking.ask.Goals as goal

pub returns-clause-found : goal.returns-clause-found
returns-clause-found g c =
    subst (λ (rows : List FileRow). IfOk c.definitions_by-found.result (λ found. IsFound c.args.query.now.bounds (graphs_seen rows) c.args.reference found.rows found.limit)) c.requires.source
    (found_told c.args.query.now.bounds (graphs_seen c.args.query.now.source.now.rows) c.args.reference c.definitions_by-found.result c.definitions_by-found.ensures.rows c.definitions_by-found.ensures.limit
    c.definitions_by-found.ensures.not_crowded)
