use Rattle.std.proofs.Common.{◌≡◌, ◌≤◌, length}
use Rattle.poll_many.specs.Connections.{outside}
use Rattle.poll_many.specs.Rounds.{IsUnderWay, RestBefore}
use Rattle.poll_many.proofs.closing.close_all.Given as goal

-- So many places have no open session.
abbrev pub invariant-loop-n : goal.invariant-loop-n
invariant-loop-n g l = record {
  under_way : IsUnderWay (outside g.P.Port g.P.K.Link g.B.Pins) l.call l.n l.wanted l.port l.places;
  before : RestBefore l.n l.places;
  few : l.n ≤ length l.places;
  len : length l.places ≡ length l.fn.places;
  count : g.P.Port.faults l.fn.port ≤ g.P.Port.faults l.port;
  unsettled : g.P.Port.settles l.port ≡ g.P.Port.settles l.fn.port;
}
