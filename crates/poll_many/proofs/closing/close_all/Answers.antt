-- Behind the last place all rest.
use Rattle.std.proofs.Common.{length, arith}
use Rattle.std.proofs.lemmas.Option.{slice_get_within}
use Rattle.poll_many.specs.Connections.{outside}
use Rattle.poll_many.proofs.PlaceTurns.{weaker}
use Rattle.poll_many.proofs.closing.close_all.Goals as goal

pub returns-clause-under_way : goal.returns-clause-under_way
returns-clause-under_way g c =
    weaker (outside g.P.Port g.P.K.Link g.B.Pins)
    c.args.call.now c.loop-n.n (length c.loop-n.places) c.args.wanted c.loop-n.port c.loop-n.places c.loop-n.invariant.few c.loop-n.invariant.under_way

pub returns-clause-rest : goal.returns-clause-rest
returns-clause-rest g c k p e =
    c.loop-n.invariant.before k p
    (let within = slice_get_within c.loop-n.places k p e in omega (arith, within, c.loop-n-test.false, c.loop-n.auto.places)) e
