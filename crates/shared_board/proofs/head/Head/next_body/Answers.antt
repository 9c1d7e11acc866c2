use Rattle.std.proofs.Common.{◌∙◌, ◌<◌, ◌+◌, ◌^◌, sym, ap, subst, slice_index, slice_set}
use Rattle.std.specs.Arc.{arc_value}
use Rattle.shared_board.specs.declared.body.Body.{Body}
use Rattle.shared_board.specs.Bodies.{IsNext}
use Rattle.shared_board.proofs.Grown.{room_for, body_with}
use Rattle.shared_board.proofs.head.Head.next_body.Goals as goal

pub counted-requires-clause-room : goal.counted-requires-clause-room
counted-requires-clause-room g c =
    let made : IsNext c.args.base c.args.edits.now (arc_value (arc_value c.self.inside.body).pinned.version) c.in_ok-pinned.pinned =
    subst (λ (b : Body). IsNext c.args.base c.args.edits.now (arc_value b.pinned.version) c.in_ok-pinned.pinned) c.deref.ensures c.in_ok-pinned.ensures.made in
    let few : (arc_value c.in_ok-pinned.pinned.version).number < 2 ^ 32 =
    subst (λ n. n < 2 ^ 32) (c.number-number.ensures ∙ ap (λ v. v.number) c.deref-2.ensures) c.number-number.type_inv in
    subst (λ (b : Body). slice_index b.counts.items c.args.seat + 1 < 2 ^ 32) (sym c.deref-3.ensures)
    (room_for g.J.Naming.board.seats (arc_value c.self.inside.body) c.in_ok-pinned.pinned c.self.inside.front c.args.base c.args.seat c.args.edits.now c.self.invariant c.requires made few)

pub returns-clause-ok : goal.returns-clause-ok
returns-clause-ok g c =
    let made : IsNext c.args.base c.args.edits.now (arc_value (arc_value c.self.inside.body).pinned.version) c.in_ok-pinned.pinned =
    subst (λ (b : Body). IsNext c.args.base c.args.edits.now (arc_value b.pinned.version) c.in_ok-pinned.pinned) c.deref.ensures c.in_ok-pinned.ensures.made in
    let counts = c.in_ok-counts.ensures ∙ ap (λ (b : Body). slice_set b.counts.items c.args.seat (slice_index b.counts.items c.args.seat + 1)) c.deref-3.ensures in
    rw (← c.self.view_is)
    (body_with g.J.Naming.board.seats (arc_value c.self.inside.body) (record { pinned = c.in_ok-pinned.pinned; counts = c.in_ok-counts.counts }) c.self.inside.front c.args.base c.args.seat c.args.edits.now c.self.invariant c.requires made counts)
