use Rattle.std.proofs.Common.{arith}
use Rattle.nav_io.proofs.Cuts.{line_len-drop-le}
use Rattle.nav_io.proofs.lines.held.take_line.Goals as goal

pub overflow_add-end : goal.overflow_add-end
overflow_add-end c = omega (arith, c.requires.line, line_len-drop-le c.args.start.now c.args.held.now c.requires.within)

pub slice_bounds-result-end : goal.slice_bounds-result-end
slice_bounds-result-end c = omega (arith, c.requires.line, line_len-drop-le c.args.start.now c.args.held.now c.requires.within)
