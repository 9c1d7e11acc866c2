-- The house gave out doors, which were served, or none.
use Rattle.std.proofs.Common.{ℕ, Err, subst, ap, arith, ◌∙◌}
use Rattle.nav_io.specs.Faults.{HasRisen}
use Rattle.nav_io.specs.Told.{append_told}
use Rattle.shared_board.specs.Seats.{AreNewcomers}
use Rattle.nav_doors.specs.Connections.{outside}
use Rattle.nav_doors.specs.Houses.{house_with, ServesOneBoard}
use Rattle.nav_doors.proofs.Housed.{served_house, opened_none, none_for}
use Rattle.nav_doors.proofs.house.serve_seats.Goals as goal

pub returns-in-Ok : goal.returns-in-Ok
returns-in-Ok g c =
    let o = outside g.H.D.Door.gave g.H.D.Door.got_back g.H.D.Door.faults g.H.D.S.Source.left g.H.D.S.Source.faults g.H.D.K.Sink.held g.H.D.K.Sink.faults in
    let served : ServesOneBoard o c.args.doors c.args.connections c.in-Ok.opened.items c.serve_doors-status.new.doors.items c.serve_doors-status.result = record {
      all = omega (arith, c.in-Ok.ensures.all, c.in-Ok.opened.ok.0);
      seats = c.args.seats.now.items;
      seats' = c.serve_doors-status.new.seats.items;
      new = subst (λ (n : ℕ). AreNewcomers n c.args.seats.now.items) c.requires.all c.requires.seats;
      served = c.serve_doors-status.ensures.served;
    } in
    record {
      served = served_house o c.args.doors c.args.connections
          (house_with (g.H.House.gave c.args.house.now) (g.H.House.got_back c.args.house.now) (g.H.House.faults c.args.house.now))
          (house_with (g.H.House.gave c.close.new.self) (g.H.House.got_back c.close.new.self) (g.H.House.faults c.close.new.self))
          c.in-Ok.opened.items c.serve_doors-status.new.doors.items c.serve_doors-status.result
          (c.close.ensures.given ∙ c.in-Ok.ensures.ok)
          (c.close.ensures.back ∙ ap (λ told. append_told told c.serve_doors-status.new.doors.items) c.in-Ok.ensures.back)
          served (omega (arith, c.in-Ok.ensures.count, c.close.ensures.count));
    }

pub returns-in-Err : goal.returns-in-Err
returns-in-Err g c =
    let before = g.H.House.faults c.args.house.now in
    let after = g.H.House.faults c.doors.new.self in
    record {
      served = opened_none
          (outside g.H.D.Door.gave g.H.D.Door.got_back g.H.D.Door.faults g.H.D.S.Source.left g.H.D.S.Source.faults g.H.D.K.Sink.held g.H.D.K.Sink.faults)
          c.args.doors c.args.connections
          (house_with (g.H.House.gave c.args.house.now) (g.H.House.got_back c.args.house.now) before)
          (house_with (g.H.House.gave c.doors.new.self) (g.H.House.got_back c.doors.new.self) after)
          c.status_of_fault.result c.in-Err.ensures.err c.in-Err.ensures.back c.in-Err.ensures.count
          (none_for (HasRisen before after) c.in-Err.fault c.status_of_fault.result c.status_of_fault.ensures.failed c.status_of_fault.ensures.memory
          (λ e. c.in-Err.ensures.cause (ap Err e)));
    }
