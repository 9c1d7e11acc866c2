-- The rounds came to their end, or the port failed.
use Rattle.std.proofs.Common.{◌∙◌, refl, ap, if◌then◌else◌}
use Rattle.std.specs.List.{list_any}
use Rattle.poll_many.specs.Connections.{outside}
use Rattle.poll_many.specs.Places.{is_lost}
use Rattle.poll_many.proofs.PlaceSteps.{risen_later}
use Rattle.poll_many.proofs.Finished.{finished_over, finished_failed}
use Rattle.poll_many.proofs.Settled.{settled_at_first, unsettled_on}
use Rattle.poll_many.proofs.finishing.serve_places.Goals as goal

pub returns-in-Ok-clause-finished : goal.returns-in-Ok-clause-finished
returns-in-Ok-clause-finished g c =
    finished_over (outside g.P.Port g.P.K.Link g.B.Pins)
    c.args.means.now.call.now c.go_on.new.wanted c.go_on.new.port c.go_on.new.places (list_any is_lost c.go_on.new.places) c.status_of.result
    (rw c.in-Ok.ensures.goes.len c.requires.some) c.in-Ok.ensures.goes.under_way (c.in-Ok.ensures.over) refl
    (c.status_of.ensures ∙ ap (λ lost. if lost then 5 else 0) c.any_lost.ensures)

pub returns-in-Err-clause-finished : goal.returns-in-Err-clause-finished
returns-in-Err-clause-finished g c =
    finished_failed (outside g.P.Port g.P.K.Link g.B.Pins)
    c.args.means.now.call.now c.go_on.new.wanted c.close_all.new.port c.close_all.new.places (list_any is_lost c.close_all.new.places) c.status_of-in-Err.result
    c.close_all.ensures.under_way c.close_all.ensures.rest
    (rw c.requires.at_first (risen_later (g.P.Port.faults c.args.port.now) (g.P.Port.faults c.go_on.new.port) (g.P.Port.faults c.close_all.new.port)
    c.in-Err.ensures.failed c.close_all.ensures.count)) refl
    (c.status_of-in-Err.ensures ∙ ap (λ lost. if lost then 5 else 8) c.any_lost-in-Err.ensures)

pub returns-in-Ok-clause-settled : goal.returns-in-Ok-clause-settled
returns-in-Ok-clause-settled g c =
    c.in-Ok.ensures.settled (settled_at_first (outside g.P.Port g.P.K.Link g.B.Pins)
    c.args.means.now.call.now.port.value c.args.port.now c.requires.at_first)

pub returns-in-Err-clause-settled : goal.returns-in-Err-clause-settled
returns-in-Err-clause-settled g c =
    unsettled_on (outside g.P.Port g.P.K.Link g.B.Pins)
    c.args.means.now.call.now.port.value c.go_on.new.port c.close_all.new.port c.close_all.ensures.unsettled
    (c.in-Err.ensures.settled (settled_at_first (outside g.P.Port g.P.K.Link g.B.Pins)
    c.args.means.now.call.now.port.value c.args.port.now c.requires.at_first))
