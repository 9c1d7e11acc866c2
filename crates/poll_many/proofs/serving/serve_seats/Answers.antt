-- The seats are all seats still, and one log is that of them all.
use Rattle.std.proofs.Common.{List, refl, sym, subst}
use Rattle.shared_board.specs.Seats.{Holder, AreSeats, IsLogOfAll, last_log}
use Rattle.poll_many.proofs.Seated.{still_all, all_served}
use Rattle.poll_many.proofs.serving.serve_seats.Goals as goal

pub tie-requires : goal.tie-requires
tie-requires g c =
    subst (λ (hs : List Holder). AreSeats g.J.Naming.board.seats hs) (sym c.as_mut_slice.ensures.value)
    (still_all g.P.Port g.P.K.Link
    c.args.connections g.J.Naming.board.seats c.args.port.now c.serve_all-status.new.port c.args.seats.now.items c.serve_all-status.new.seats.items
    c.serve_all-status.result c.serve_all-status.ensures.served c.requires.seats)

pub returns-in-Ok-clause-served : goal.returns-in-Ok-clause-served
returns-in-Ok-clause-served g c =
    all_served g.P.Port g.P.K.Link
    c.args.connections g.J.Naming.board.seats c.args.port.now c.serve_all-status.new.port c.args.seats.now.items c.serve_all-status.new.seats.items
    c.serve_all-status.result c.serve_all-status.ensures.served c.requires.seats c.serve_all-status.result (λ not. refl)
    (λ not. (last_log c.tie.new.seats, subst (λ (hs : List Holder). IsLogOfAll hs (last_log c.tie.new.seats)) c.as_mut_slice.ensures.value c.in-Ok.ensures.tied))

pub returns-in-Err-clause-served : goal.returns-in-Err-clause-served
returns-in-Err-clause-served g c =
    all_served g.P.Port g.P.K.Link
    c.args.connections g.J.Naming.board.seats c.args.port.now c.serve_all-status.new.port c.args.seats.now.items c.serve_all-status.new.seats.items
    c.serve_all-status.result c.serve_all-status.ensures.served c.requires.seats 5 (λ not. absurd (not refl)) (λ not. absurd (not refl))
