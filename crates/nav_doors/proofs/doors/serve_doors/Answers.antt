use Rattle.std.proofs.Common.{List, sym, subst}
use Rattle.shared_board.specs.Seats.{Holder, AreSeats}
use Rattle.nav_doors.specs.Connections.{outside}
use Rattle.nav_doors.proofs.Placed.{seats_stay}
use Rattle.nav_doors.proofs.doors.serve_doors.Goals as goal

-- the seats keep their names
pub tie-requires : goal.tie-requires
tie-requires g c =
    subst (λ (seats : List Holder). AreSeats g.J.Naming.board.seats seats) (sym c.as_mut_slice.ensures.value)
    (seats_stay (outside g.D.Door.gave g.D.Door.got_back g.D.Door.faults g.D.S.Source.left g.D.S.Source.faults g.D.K.Sink.held g.D.K.Sink.faults)
    g.J.Naming.board.seats c.args.connections c.args.doors.now.items c.serve_all.new.doors.items c.args.seats.now.items c.serve_all.new.seats.items c.in-Some.status
    c.requires.seats c.in-Some.ensures.all)
