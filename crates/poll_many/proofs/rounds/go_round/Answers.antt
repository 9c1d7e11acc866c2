-- Nothing was given out, and all had to wait.
use Rattle.std.proofs.Common.{true, Ok, ap, sym, ◌∙◌}
use Rattle.poll_many.specs.Connections.{outside}
use Rattle.poll_many.proofs.Settled.{neither, ok_same, quiet_round}
use Rattle.poll_many.proofs.rounds.go_round.Goals as goal

pub returns-clause-quiet : goal.returns-clause-quiet
returns-clause-quiet g c e =
    let n = neither c.in_ok-given.given c.take_turns-ended.result (sym c.is_quiet.ensures ∙ ok_same c.is_quiet.result true e) in
    quiet_round (outside g.P.Port g.P.K.Link g.B.Pins)
    c.args.port.now c.take_links.new.port c.take_turns-ended.new.port c.args.places.now c.take_links.new.places c.take_turns-ended.new.places
    (c.in_ok-given.ensures.none (ap Ok n.0)) (c.take_turns-ended.ensures.waits n.1)
