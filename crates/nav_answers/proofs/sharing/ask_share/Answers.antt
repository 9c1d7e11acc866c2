use Rattle.std.proofs.Common.{◌∙◌, ◌+◌, sym, subst, length, arith}
use Rattle.nav_answers.specs.declared.links.Links.{Links}
use Rattle.nav_answers.specs.declared.twins.Searched.{Searched}
use Rattle.nav_answers.specs.Asking.{AreFound, IsShareOf}
use Rattle.nav_answers.specs.Sources.{graphs_seen}
use Rattle.nav_answers.specs.Twins.{AreKept}
use Rattle.nav_answers.proofs.Shared.{run_begins, run_follows, run_share, share_left, share_ended, share_sorted}
use Rattle.nav_answers.proofs.sharing.ask_share.Goals.{then-turn-step+in_ok-ask_run, else-turn-step}
use Rattle.nav_answers.proofs.sharing.ask_share.Goals as goal

pub ask_run-requires-clause-mine : goal.ask_run-requires-clause-mine
ask_run-requires-clause-mine g c = λ k low high.
    run_share c.args.all.now c.args.step c.loop-from.turn c.run_of-len.result c.loop-from.from k c.run_of-len.ensures.value
    (run_begins c.loop-from.turn c.run_of-len.result c.loop-from.from (length c.args.all.now) c.loop-from.invariant.begins c.loop-from-test.true)
    low (omega (arith, high, c.min.ensures)) ∙ c.if-turn-step.true

pub loop-from-preserved : goal.loop-from-preserved
loop-from-preserved g c =
    let begun = run_begins c.loop-from.turn c.run_of-len.result c.loop-from.from (length c.args.all.now) c.loop-from.invariant.begins c.loop-from-test.true in
    record {
      begins = run_follows c.loop-from.turn c.run_of-len.result c.loop-from.from (length c.args.all.now) c.min.result begun (omega (arith, c.min.ensures)) c.loop-from-test.true;
      inside = omega (arith, c.min.ensures, c.loop-from-test.true);
      few = omega (arith, c.loop-from.invariant.few, c.min.ensures, c.run_of-len.ensures.some, c.loop-from-test.true);
      found = elim c.if-turn-step.branch [
        | then-turn-step+in_ok-ask_run w ↦
            subst (λ (links : Links). AreFound c.args.query.now.bounds (graphs_seen c.args.query.now.view.now) c.args.query.now.definitions.now (IsShareOf c.args.all.now c.args.step c.args.first (c.loop-from.from + c.min.result)) links)
            (sym w.links-is) w.in_ok-ask_run.ensures.found
        | else-turn-step w ↦
            subst (λ (links : Links). AreFound c.args.query.now.bounds (graphs_seen c.args.query.now.view.now) c.args.query.now.definitions.now (IsShareOf c.args.all.now c.args.step c.args.first (c.loop-from.from + c.min.result)) links)
            (sym w.links-is)
            (share_left c.args.query.now.bounds (graphs_seen c.args.query.now.view.now) c.args.query.now.definitions.now c.args.all.now c.args.step c.args.first c.loop-from.from (c.loop-from.from + c.min.result) c.loop-from.links (omega arith)
            (λ k low high e. w.if-turn-step.false (sym (run_share c.args.all.now c.args.step c.loop-from.turn c.run_of-len.result c.loop-from.from k c.run_of-len.ensures.value begun low (omega (arith, high, c.min.ensures))) ∙ e))
            c.loop-from.invariant.found)
      ];
      kept = elim c.if-turn-step.branch [
        | then-turn-step+in_ok-ask_run w ↦
            subst (λ (searched : Searched). AreKept c.args.query.now.bounds (graphs_seen c.args.query.now.view.now) searched.list.items) (sym w.searched-is) w.in_ok-ask_run.ensures.kept
        | else-turn-step w ↦
            subst (λ (searched : Searched). AreKept c.args.query.now.bounds (graphs_seen c.args.query.now.view.now) searched.list.items) (sym w.searched-is) c.loop-from.invariant.kept
      ];
    }

pub returns : goal.returns
returns g c = record {
  found =
      share_sorted c.args.query.now.bounds (graphs_seen c.args.query.now.view.now) c.args.query.now.definitions.now c.args.all.now c.args.step c.args.first c.loop-from.links c.in_order.result
      c.in_order.ensures.exact c.in_order.ensures.limit c.in_order.ensures.whole
      (share_ended c.args.query.now.bounds (graphs_seen c.args.query.now.view.now) c.args.query.now.definitions.now c.args.all.now c.args.step c.args.first c.loop-from.from c.loop-from.links
      (omega (arith, c.loop-from-test.false, c.loop-from.invariant.inside)) c.loop-from.invariant.found);
  order = c.in_order.ensures.order;
}
