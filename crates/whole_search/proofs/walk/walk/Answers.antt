-- With each run that is noted, what is found and what is ahead stay the whole.
use Rattle.std.proofs.Common.{◌≡◌, Some, Err}
use Rattle.std.proofs.lemmas.List.Elements.{All-pop}
use Rattle.std.proofs.lemmas.Result.{err_from_is_err_and}
use Rattle.whole_search.specs.declared.found.SearchFault.TheVariants.{Crowded}
use Rattle.whole_search.specs.Leads.{live_at}
use Rattle.whole_search.specs.Query.{IsOpenIn}
use Rattle.whole_search.proofs.UnderWay.{goes_on_under_way, fewer_ahead, crowded}
use Rattle.whole_search.proofs.walk.walk.Goals as goal

pub visit-requires-clause-stack : goal.visit-requires-clause-stack
visit-requires-clause-stack c =
    (All-pop (IsOpenIn c.args.query.now) c.loop-reached.stack.items c.pop.new.self.items (Some c.in-Some.reached) c.in-Some.ensures.items c.loop-reached.invariant.stands).0

pub loop-reached-smaller : goal.loop-reached-smaller
loop-reached-smaller c =
    fewer_ahead (live_at c.args.query.now.leads.now) c.args.query.now.bounds c.args.query.now.files.now c.args.query.now.start.now c.loop-reached.stack.items c.pop.new.self.items c.visit.new.stack.items c.in-Some.reached c.visit.new.tally.limit c.in-Some.ensures.items
    (All-pop (IsOpenIn c.args.query.now) c.loop-reached.stack.items c.pop.new.self.items (Some c.in-Some.reached) c.in-Some.ensures.items c.loop-reached.invariant.stands).1
    c.in_ok-visit.ensures.longer

pub loop-reached-preserved : goal.loop-reached-preserved
loop-reached-preserved c = record {
  stands = c.in_ok-visit.ensures.stack;
  few = c.in_ok-visit.ensures.few;
  under_way =
      goes_on_under_way (live_at c.args.query.now.leads.now) c.args.query.now.bounds c.args.query.now.files.now c.args.query.now.start.now c.loop-reached.stack.items c.pop.new.self.items c.visit.new.stack.items c.in-Some.reached c.loop-reached.tally c.visit.new.tally
      c.in-Some.ensures.items
      (All-pop (IsOpenIn c.args.query.now) c.loop-reached.stack.items c.pop.new.self.items (Some c.in-Some.reached) c.in-Some.ensures.items c.loop-reached.invariant.stands).1
      c.in_ok-visit.ensures.noted c.in_ok-visit.ensures.longer c.loop-reached.invariant.under_way;
  dead_ends = c.in_ok-visit.ensures.dead_ends;
}

pub returns-in_err-visit-clause-crowded : goal.returns-in_err-visit-clause-crowded
returns-in_err-visit-clause-crowded c = λ e.
    let p = err_from_is_err_and c.from_residual-in_err-visit.result c.from_residual-in_err-visit.ensures.1 in
    let q : c.visit.result ≡ Err Crowded = cc (p.1, p.2, c.in_err-visit.was, e) in
    crowded (live_at c.args.query.now.leads.now) c.args.query.now.bounds c.args.query.now.files.now c.args.query.now.start.now c.loop-reached.stack.items c.pop.new.self.items c.in-Some.reached c.loop-reached.tally c.in-Some.ensures.items
    (All-pop (IsOpenIn c.args.query.now) c.loop-reached.stack.items c.pop.new.self.items (Some c.in-Some.reached) c.in-Some.ensures.items c.loop-reached.invariant.stands).1
    (c.visit.ensures.full q) (c.visit.ensures.crowded q) c.loop-reached.invariant.under_way
