use Rattle.std.proofs.Common.{◌≡◌, ◌≤◌, length}
use Rattle.futures.specs.Task.{Keeps}
use Rattle.poll_many.specs.Connections.{outside}
use Rattle.poll_many.specs.Waiting.{SettlesOn}
use Rattle.poll_many.specs.Rounds.{IsUnderWay}
use Rattle.poll_many.proofs.rounds.go_on.Given as goal

abbrev pub invariant-loop : goal.invariant-loop
invariant-loop g l = record {
  under_way : IsUnderWay (outside g.P.Port g.P.K.Link g.B.Pins) l.means.call.now 0 l.wanted l.port l.places;
  len : length l.places ≡ length l.fn.places;
  count : g.P.Port.faults l.fn.port ≤ g.P.Port.faults l.port;
  settled : SettlesOn (outside g.P.Port g.P.K.Link g.B.Pins) l.means.call.now.port.value l.fn.port l.port;
  kept : Keeps l.fn.cx l.cx;
}
