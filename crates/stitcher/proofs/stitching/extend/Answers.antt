-- Each path of the look-up is tried, one after the other.
use Rattle.std.proofs.Common.{◌≡◌, Err, ℕ, List, [], ◌∷◌, ◌++◌, refl, sym, ap, ◌∙◌, append_assoc}
use Rattle.std.proofs.lemmas.Result.{err_from_is_err_and}
use Rattle.partial_path.specs.Rules.{Rule}
use Rattle.stitcher.specs.declared.found.StitchFault.TheVariants.{Crowded}
use Rattle.stitcher.specs.Joins.{Asked}
use Rattle.stitcher.specs.Trail.{stood}
use Rattle.stitcher.proofs.Tried.{offered_there, one_offered, taken_more}
use Rattle.stitcher.proofs.Opening.{added_none, added_more, overfull}
use Rattle.stitcher.proofs.Within.{none_taken}
use Rattle.stitcher.proofs.stitching.extend.Goals as goal

pub loop-found-init : goal.loop-found-init
loop-found-init g c = record {
  added = added_none c.args.search.now c.args.here.now.trail.now c.args.progress.now.work.items;
  taken = ([], refl, none_taken c.args.search.now c.args.here.now.trail.now c.args.progress.now);
}

pub join-requires-clause-offered : goal.join-requires-clause-offered
join-requires-clause-offered g c =
    one_offered c.args.search.now c.args.here.now.trail.now c.args.here.now.at.now c.loop-found.invariant.taken.0 _ _ (c.in-Some.found.0, c.in-Some.found.1)
    (ap (λ (xs : List (ℕ × Rule)). c.loop-found.invariant.taken.0 ++ xs) (sym c.in-Some.ensures) ∙ c.loop-found.invariant.taken.1)
    (offered_there c.args.search.now c.args.here.now (g.P.PathSource.files c.search.inside.source.now) c.symbols-symbols.result.now (g.P.PathSource.offered c.search.inside.source.now c.symbols-symbols.result.now c.offers-next.result)
    c.requires.here (ap (λ (q : Asked). q.files) c.search.view_is) c.symbols-symbols.ensures c.offers-next.ensures.exact)

pub loop-found-preserved : goal.loop-found-preserved
loop-found-preserved g c = record {
  added = added_more c.args.search.now c.args.here.now.trail.now _ _ _ c.loop-found.invariant.added c.in_ok-join.ensures.added;
  taken = (
    c.loop-found.invariant.taken.0 ++ (c.in-Some.found.0, c.in-Some.found.1) ∷ [],
    (append_assoc c.loop-found.invariant.taken.0 ((c.in-Some.found.0, c.in-Some.found.1) ∷ []) _
        ∙ (ap (λ (xs : List (ℕ × Rule)). c.loop-found.invariant.taken.0 ++ xs) (sym c.in-Some.ensures) ∙ c.loop-found.invariant.taken.1)),
    taken_more c.args.search.now c.args.here.now.trail.now (stood c.args.here.now) c.loop-found.invariant.taken.0 (c.in-Some.found.0, c.in-Some.found.1) _ _ _
        c.loop-found.invariant.taken.2 c.in_ok-join.ensures.taken,
  );
}

pub returns-in_err-join-clause-crowded : goal.returns-in_err-join-clause-crowded
returns-in_err-join-clause-crowded g c h =
    let fault = err_from_is_err_and c.from_residual.result c.from_residual.ensures.1 in
    let was : c.join.result ≡ Err Crowded = cc (fault.1, fault.2, c.in_err-join.was, h) in
    overfull c.args.search.now c.args.here.now.trail.now (stood c.args.here.now) c.loop-found.invariant.taken.0 (g.P.PathSource.offered c.search.inside.source.now c.symbols-symbols.result.now c.in-Some.found.2) (g.P.PathSource.offered c.search.inside.source.now c.symbols-symbols.result.now c.offers-next.result) (c.in-Some.found.0, c.in-Some.found.1) c.args.progress.now c.loop-found.progress
    (ap (λ (xs : List (ℕ × Rule)). c.loop-found.invariant.taken.0 ++ xs) (sym c.in-Some.ensures) ∙ c.loop-found.invariant.taken.1)
    (offered_there c.args.search.now c.args.here.now (g.P.PathSource.files c.search.inside.source.now) c.symbols-symbols.result.now (g.P.PathSource.offered c.search.inside.source.now c.symbols-symbols.result.now c.offers-next.result)
    c.requires.here (ap (λ (q : Asked). q.files) c.search.view_is) c.symbols-symbols.ensures c.offers-next.ensures.exact)
    c.loop-found.invariant.taken.2 (c.join.ensures.full was) (c.join.ensures.crowded was)
