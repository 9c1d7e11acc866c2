use Rattle.std.proofs.Common.{◌+◌}
use Rattle.py_graph.proofs.Parts.{is_last-no, is_last-yes}
use Rattle.py_graph.proofs.head.is_last.Goals as goal

pub returns-then-i-parts : goal.returns-then-i-parts
returns-then-i-parts c = is_last-no c.args.parts.now (c.args.i + 1) c.if-i-parts.true

pub returns-else-i-parts : goal.returns-else-i-parts
returns-else-i-parts c = is_last-yes c.args.parts.now (c.args.i + 1) c.if-i-parts.false
