use Rattle.std.proofs.Common.{◌≡◌, ◌≤◌, false, length}
use Rattle.futures.specs.Task.{Keeps}
use Rattle.poll_many.specs.Connections.{outside}
use Rattle.poll_many.specs.Waiting.{HaveWaited}
use Rattle.poll_many.specs.Rounds.{IsUnderWay}
use Rattle.poll_many.proofs.rounds.take_turns.Given as goal

abbrev pub invariant-loop-n : goal.invariant-loop-n
invariant-loop-n g l = record {
  under_way : IsUnderWay (outside g.P.Port g.P.K.Link g.B.Pins) l.means.call.now 0 l.wanted l.port l.places;
  len : length l.places ≡ length l.fn.places;
  count : g.P.Port.faults l.fn.port ≤ g.P.Port.faults l.port;
  unsettled : g.P.Port.settles l.port ≡ g.P.Port.settles l.fn.port;
  waits : l.any ≡ false → HaveWaited (outside g.P.Port g.P.K.Link g.B.Pins) l.n l.fn.port l.port l.fn.places l.places;
  kept : Keeps l.fn.cx l.cx;
}
