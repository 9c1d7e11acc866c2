use Rattle.std.proofs.Common.{◌≡◌, ◌∙◌, refl, sym, subst, get_or, length, arith, Result}
use Rattle.std.specs.Prelude.{vec_len}
use Rattle.stitcher.specs.declared.found.StitchFault.{StitchFault}
use Rattle.nav_answers.specs.declared.links.Links.{Links}
use Rattle.nav_answers.specs.Asking.{IsDone}
use Rattle.nav_answers.specs.Sources.{graphs_seen}
use Rattle.nav_answers.proofs.Shared.{place_next, share_inside, share_next, shares_begun, shares_ended, shares_left, shares_passed}
use Rattle.nav_answers.proofs.sharing.together.Goals as goal

pub loop-share-init : goal.loop-share-init
loop-share-init c = record {
  place = refl;
  rest = c.into_iter-share-iterator.ensures.into_iter_gives.0;
  found = shares_begun c.args.query.now.bounds (graphs_seen c.args.query.now.view.now) c.args.query.now.definitions.now c.args.all.now c.len-count.result c.in_ok-parts.parts
      c.in_ok-parts.ensures.list c.in_ok-parts.ensures.limit c.in_ok-parts.ensures.whole;
}

pub add_share-requires-clause-done : goal.add_share-requires-clause-done
add_share-requires-clause-done c =
    let count : vec_len c.args.shares ≡ c.len-count.result = omega (arith, c.len-count.ensures, c.args.shares.ok.0) in
    let inside = share_inside c.loop-share.yielded c.loop-share.share-iterator.rest.items c.next.new.self.rest.items c.args.shares.items c.in-Some.share c.in-Some.ensures.steps.0 c.loop-share.invariant.rest c.loop-share.place
    c.loop-share.invariant.place in
    subst (λ (share : Result Links StitchFault). IsDone c.args.query.now.bounds (graphs_seen c.args.query.now.view.now) c.args.query.now.definitions.now c.args.all.now c.len-count.result c.loop-share.place share)
    (share_next c.loop-share.yielded c.loop-share.share-iterator.rest.items c.next.new.self.rest.items c.args.shares.items c.in-Some.share c.in-Some.ensures.steps.0 c.loop-share.invariant.rest c.loop-share.place c.in-Some.share
    c.loop-share.invariant.place)
    (subst (λ n. IsDone c.args.query.now.bounds (graphs_seen c.args.query.now.view.now) c.args.query.now.definitions.now c.args.all.now n c.loop-share.place (get_or c.args.shares.items c.loop-share.place c.in-Some.share)) count
    (c.requires.done c.loop-share.place c.in-Some.share (omega (arith, c.args.shares.ok.0, inside))))

pub loop-share-preserved : goal.loop-share-preserved
loop-share-preserved c = record {
  place =
      place_next c.loop-share.yielded c.loop-share.share-iterator.rest.items c.next.new.self.rest.items c.args.shares.items c.in-Some.share c.in-Some.ensures.steps.0 c.loop-share.invariant.rest c.loop-share.place
      c.loop-share.invariant.place;
  rest = shares_left c.loop-share.yielded c.loop-share.share-iterator.rest.items c.next.new.self.rest.items c.args.shares.items c.in-Some.share c.in-Some.ensures.steps.0 c.loop-share.invariant.rest;
  found = c.in_ok-add_share.ensures.added;
}

pub returns-clause-found : goal.returns-clause-found
returns-clause-found c =
    let passed = shares_passed c.loop-share.yielded c.loop-share.share-iterator.rest.items c.args.shares.items c.loop-share.place (sym c.loop-share.share-iterator.rest.ok.0 ∙ c.in-None.ensures.steps.0) c.loop-share.invariant.rest
    c.loop-share.invariant.place in
    shares_ended c.args.query.now.bounds (graphs_seen c.args.query.now.view.now) c.args.query.now.definitions.now c.args.all.now c.len-count.result c.loop-share.place c.loop-share.parts
    (omega (arith, c.requires.some, c.len-count.ensures))
    (omega (arith, c.args.shares.ok.0, c.len-count.ensures, passed))
    c.loop-share.invariant.found
