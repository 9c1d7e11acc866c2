-- One open run after the other is gone on from; what was found when none is left tells of all runs, and a part that
-- is too much tells that the reference is crowded.
use Rattle.std.proofs.Common.{◌≡◌, ◌<◌, ◌-◌, ◌∙◌, ℕ, Err, List, Vec, Global, [], take, length, flat_map, append-nil, ap, sym, subst}
use Rattle.std.proofs.lemmas.Result.{err_from_is_err_and}
use Rattle.stitcher.specs.Found.{EdgePath}
use Rattle.stitcher.specs.declared.found.StitchFault.TheVariants.{Crowded}
use Rattle.stitcher.specs.declared.trail.Open.{Open}
use Rattle.stitcher.specs.declared.trail.Level.{Level}
use Rattle.stitcher.specs.Opens.{opens_of}
use Rattle.stitcher.proofs.UnderWay.{onward}
use Rattle.stitcher.proofs.Going.{IsGoing, open_of, going_first, going_on, fewer, too_many, too_many_first, going_ends}
use Rattle.stitcher.proofs.stitching.join_all.Goals as goal

pub returns-in_err-begin-clause-crowded : goal.returns-in_err-begin-clause-crowded
returns-in_err-begin-clause-crowded g c h =
    let fault = err_from_is_err_and c.from_residual.result c.from_residual.ensures.1 in
    let was : c.begin.result ≡ Err Crowded = cc (fault.1, fault.2, c.in_err-begin.was, h) in
    too_many_first c.cutting_laws.ensures c.args.search.now c.are_sources.ensures c.requires.begins c.with.result c.with.ensures.counted (c.begin.ensures.crowded was)

pub loop-open-init : goal.loop-open-init
loop-open-init g c =
    let q = c.args.search.now in
    subst (λ (trail : List Level). IsGoing q trail c.begin.new.progress.work.items c.begin.new.progress.tally) (sym c.take_trail-trail.ensures)
    (going_first c.cutting_laws.ensures q c.are_sources.ensures c.requires.begins _ c.begin.new.progress c.take_work.ensures
    (ap (λ (runs : Vec EdgePath Global). runs.items) c.with.ensures.complete ∙ c.take_complete.ensures) c.with.ensures.counted c.with.ensures.limit
    c.in_ok-begin.ensures.extended c.in_ok-begin.ensures.added)

pub advance-requires-clause-open : goal.advance-requires-clause-open
advance-requires-clause-open g c =
    open_of c.args.search.now c.loop-open.trail.items c.pop.new.self.items c.in-Some.open c.loop-open.progress.tally
    (subst (λ (ws : List Open). IsGoing c.args.search.now c.loop-open.trail.items ws c.loop-open.progress.tally) c.in-Some.ensures.items c.loop-open.invariant)

pub loop-open-smaller : goal.loop-open-smaller
loop-open-smaller g c =
    let q = c.args.search.now in
    subst (λ (ws : List Open). length (flat_map (onward q) (opens_of c.advance.new.trail.items c.advance.new.progress.work.items)) < length (flat_map (onward q) (opens_of c.loop-open.trail.items ws))) (sym c.in-Some.ensures.items)
    (fewer c.cutting_laws.ensures q c.are_sources.ensures c.requires.begins c.loop-open.trail.items c.advance.new.trail.items c.in-Some.open _ c.advance.new.progress
    (subst (λ (ws : List Open). IsGoing q c.loop-open.trail.items ws c.loop-open.progress.tally) c.in-Some.ensures.items c.loop-open.invariant)
    c.in_ok-advance.ensures.trail c.in_ok-advance.ensures.extended)

pub loop-open-preserved : goal.loop-open-preserved
loop-open-preserved g c =
    let q = c.args.search.now in
    going_on c.cutting_laws.ensures q c.are_sources.ensures c.requires.begins c.loop-open.trail.items c.advance.new.trail.items c.in-Some.open _ c.advance.new.progress
    (subst (λ (ws : List Open). IsGoing q c.loop-open.trail.items ws c.loop-open.progress.tally) c.in-Some.ensures.items c.loop-open.invariant)
    c.in_ok-advance.ensures.trail c.in_ok-advance.ensures.extended c.in_ok-advance.ensures.added

pub returns-in_err-advance-clause-crowded : goal.returns-in_err-advance-clause-crowded
returns-in_err-advance-clause-crowded g c h =
    let q = c.args.search.now in
    let fault = err_from_is_err_and c.from_residual-in_err-advance.result c.from_residual-in_err-advance.ensures.1 in
    let was : c.advance.result ≡ Err Crowded = cc (fault.1, fault.2, c.in_err-advance.was, h) in
    too_many c.cutting_laws.ensures q c.are_sources.ensures c.requires.begins c.loop-open.trail.items c.pop.new.self.items c.in-Some.open c.loop-open.progress.tally
    (subst (λ (ws : List Open). IsGoing q c.loop-open.trail.items ws c.loop-open.progress.tally) c.in-Some.ensures.items c.loop-open.invariant)
    (c.advance.ensures.crowded was)

pub returns-clause-ended : goal.returns-clause-ended
returns-clause-ended g c =
    let none : c.loop-open.progress.work.items ≡ [] =
    c.in_default.ensures.items ∙ (append-nil c.pop.new.self.items
    ∙ (c.in_default.ensures.rest ∙ ap (λ (n : ℕ). take (n - 1) c.loop-open.progress.work.items) c.in_default.ensures.cases.0)) in
    going_ends c.cutting_laws.ensures c.args.search.now c.are_sources.ensures c.requires.begins c.loop-open.trail.items c.loop-open.progress.work.items c.loop-open.progress.tally none
    c.loop-open.progress.tally.few c.loop-open.invariant
