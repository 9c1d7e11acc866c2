-- The yard gave out a port, whose links were served, or none.
use Rattle.std.proofs.Common.{ℕ, [], ◌∷◌, Err, inl, inr, refl, ap, subst, ◌∙◌, arith}
use Rattle.nav_io.specs.Told.{append_told}
use Rattle.shared_board.specs.Seats.{Holder, AreNewcomers}
use Rattle.poll_many.specs.Connections.{outside_of_seats}
use Rattle.poll_many.specs.Yards.{yard_at}
use Rattle.poll_many.proofs.Yarded.{newcomers_are_seats, served_one, opened_none}
use Rattle.poll_many.proofs.running.serve_yard.Goals as goal

pub serve_many-status-requires-clause-seats : goal.serve_many-status-requires-clause-seats
serve_many-status-requires-clause-seats g c _ _ =
    newcomers_are_seats g.J.Naming.board.seats c.args.seats.items c.requires.seats

pub returns-in-Ok-clause-served : goal.returns-in-Ok-clause-served
returns-in-Ok-clause-served g c =
    served_one
    (outside_of_seats g.Y.P.Port g.Y.P.K.Link)
    c.args.wanted.seats c.args.wanted.connections
    (yard_at g.Y.Yard c.args.yard.now)
    (yard_at g.Y.Yard c.close.new.self)
    c.in-Ok.port c.serve_many-status.new.port c.args.seats.items c.serve_many-status.result
    (c.close.ensures.given ∙ c.in-Ok.ensures.ok)
    (c.close.ensures.back ∙ ap (λ told. append_told told (c.serve_many-status.new.port ∷ [])) c.in-Ok.ensures.back)
    (subst (λ (n : ℕ). AreNewcomers n c.args.seats.items) c.requires.all c.requires.seats)
    c.serve_many-status.ensures.served c.serve_many-status.ensures.settled
    (omega (arith, c.in-Ok.ensures.count, c.close.ensures.count))

pub returns-in-Err-Failed-clause-served : goal.returns-in-Err-Failed-clause-served
returns-in-Err-Failed-clause-served g c =
    opened_none
    (outside_of_seats g.Y.P.Port g.Y.P.K.Link)
    c.args.wanted.seats c.args.wanted.connections
    (yard_at g.Y.Yard c.args.yard.now)
    (yard_at g.Y.Yard c.port.new.self)
    8 c.in-Err-Failed.ensures.err c.in-Err-Failed.ensures.back c.in-Err-Failed.ensures.count
    (inl (refl, c.in-Err-Failed.ensures.cause (ap Err c.in-Err-Failed.field-0-is)))

pub returns-in-Err-NoMemory-clause-served : goal.returns-in-Err-NoMemory-clause-served
returns-in-Err-NoMemory-clause-served g c =
    opened_none
    (outside_of_seats g.Y.P.Port g.Y.P.K.Link)
    c.args.wanted.seats c.args.wanted.connections
    (yard_at g.Y.Yard c.args.yard.now)
    (yard_at g.Y.Yard c.port.new.self)
    5 c.in-Err-NoMemory.ensures.err c.in-Err-NoMemory.ensures.back c.in-Err-NoMemory.ensures.count (inr refl)
