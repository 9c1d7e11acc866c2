use Rattle.std.proofs.Common.{map}
use Rattle.std.specs.List.{range_with_len}
use Rattle.nav_session.specs.Desks.{GoesOn, moment}
use Rattle.nav_demo.specs.MadeTree.{query}
use Rattle.nav_demo.specs.Inside.{Totalled}
use Rattle.nav_demo.proofs.session.query_all.Given as goal

-- The queries of the files so far were answered, and their replies are added up.
abbrev pub invariant-loop-k : goal.invariant-loop-k
invariant-loop-k g l = record {
  goes_on : GoesOn (moment (g.B.Pins.seat l.fn.board) (g.B.Pins.log l.fn.board) (g.B.Pins.pin_at l.fn.board) l.fn.desk)
      (moment (g.B.Pins.seat l.board) (g.B.Pins.log l.board) (g.B.Pins.pin_at l.board) l.desk);
  answered : Totalled l.files (map query (range_with_len 0 l.k))
      (moment (g.B.Pins.seat l.fn.board) (g.B.Pins.log l.fn.board) (g.B.Pins.pin_at l.fn.board) l.fn.desk)
      (moment (g.B.Pins.seat l.board) (g.B.Pins.log l.board) (g.B.Pins.pin_at l.board) l.desk) l.totals;
}
