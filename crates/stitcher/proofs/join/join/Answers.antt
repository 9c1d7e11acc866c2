-- What the tests before the path is applied tell.
use Rattle.std.proofs.Common.{◌≡◌, ◌∙◌, ◌+◌, ℕ, [], ◌∷◌, sym, ap, subst, Some, Option, IfSome}
use Rattle.std.specs.Option.{option_map_or}
use Rattle.partial_path.specs.Apply.{apply}
use Rattle.partial_path.specs.Moved.{moved, moved_start}
use Rattle.partial_path.specs.Rules.{Rule, start_spot}
use Rattle.partial_path.specs.Same.{spot_eq}
use Rattle.partial_path.specs.Sources.{graphs_of}
use Rattle.partial_path.specs.Laws.{IsSpotOf}
use Rattle.stitcher.specs.declared.join.Landing.{Landing}
use Rattle.stitcher.specs.Joins.{is_at_cut, joined, with_path}
use Rattle.stitcher.specs.Trail.{paths_of}
use Rattle.stitcher.proofs.Joining.{stored_fits}
use Rattle.stitcher.proofs.Heights.{edge_count-with}
use Rattle.stitcher.proofs.Opening.{here_next}
use Rattle.stitcher.proofs.Within.{met_asks, stored_moves, within_is, past_taken}
use Rattle.stitcher.proofs.Plain.{begins_here}
use Rattle.stitcher.proofs.Pruned.{end_there, pruned_taken}
use Rattle.stitcher.proofs.join.join.Goals as goal

pub is_met-requires-clause-begins : goal.is_met-requires-clause-begins
is_met-requires-clause-begins g c =
    begins_here c.args.search.now c.args.here.now.trail.now c.args.here.now.at.now (c.args.file, c.args.path.now) c.requires.here.here c.requires.offered

pub is_within-bounded-requires-clause-met : goal.is_within-bounded-requires-clause-met
is_within-bounded-requires-clause-met g c =
    met_asks c.args.file c.args.path.now.pre c.args.here.now.at.now.stacks (spot_eq (start_spot (moved_start c.args.file c.args.path.now.start)) c.args.here.now.at.now.spot) (sym c.is_met.ensures ∙ c.if-not-is_met.false)

pub returns-then-not-bounded-clause-taken : goal.returns-then-not-bounded-clause-taken
returns-then-not-bounded-clause-taken g c =
    past_taken c.args.search.now c.args.here.now.trail.now c.args.here.now.at.now (c.args.file, c.args.path.now) c.args.progress.now c.if-progress.true
    (λ next applies.
    sym (within_is c.args.search.now c.args.here.now.trail.now c.args.here.now.at.now next (c.args.file, c.args.path.now) c.args.here.now.edges c.is_within-bounded.result c.requires.here.here applies
    c.edge_numbers-more.ensures.rule c.requires.here.edges c.requires.here.low (c.is_within-bounded.ensures.within c.args.file)) ∙ c.if-not-bounded.true)

pub is_cut_end-cut-requires-clause-fits : goal.is_cut_end-cut-requires-clause-fits
is_cut_end-cut-requires-clause-fits g c =
    (stored_fits c.file_zero_moves.ensures c.args.search.now c.args.here.now.trail.now c.args.here.now.at.now (c.args.file, c.args.path.now) c.requires.here.asked.sources c.ranges.file.fits c.requires.offered).end

pub is_cut_end-cut-requires-clause-spot : goal.is_cut_end-cut-requires-clause-spot
is_cut_end-cut-requires-clause-spot g c =
    end_there c.args.search.now c.args.here.now.trail.now c.args.here.now.at.now (c.args.file, c.args.path.now) c.requires.here.asked.sources c.requires.here.asked.begins c.requires.here.here c.requires.offered
    c.joined_paths_are_runs.ensures c.runs_end_in_files.ensures (sym c.is_met.ensures ∙ c.if-not-is_met.false)

pub returns-then-not-may_land-clause-taken : goal.returns-then-not-may_land-clause-taken
returns-then-not-may_land-clause-taken g c =
    pruned_taken c.args.search.now c.args.here.now.trail.now c.args.here.now.at.now (c.args.file, c.args.path.now) c.is_cut_end-cut.result c.is_cut_end-cut.ensures
    (sym c.may_land.ensures ∙ c.if-not-may_land.true)
    (met_asks c.args.file c.args.path.now.pre c.args.here.now.at.now.stacks (spot_eq (start_spot (moved_start c.args.file c.args.path.now.start)) c.args.here.now.at.now.spot) (sym c.is_met.ensures ∙ c.if-not-is_met.false))
    c.args.progress.now

pub landing_of-requires-clause-met : goal.landing_of-requires-clause-met
landing_of-requires-clause-met g c = sym c.is_met.ensures ∙ c.if-not-is_met.false

pub note-requires : goal.note-requires
note-requires g c =
    let q = c.args.search.now in
    let trail = c.args.here.now.trail.now in
    let at = c.args.here.now.at.now in
    let p : ℕ × Rule = (c.args.file, c.args.path.now) in
    let applies : apply (moved c.args.file c.args.path.now) at ≡ Some c.in-Some.landing.at =
    subst (λ (o : Option Landing). IfSome o (λ (landing : Landing). apply (moved c.args.file c.args.path.now) at ≡ Some landing.at)) c.in-Some.is c.in_ok-landing.ensures.applies in
    record {
      run = record {
        spot = subst (λ (o : Option Landing). IfSome o (λ (landing : Landing). IsSpotOf (graphs_of q.files) landing.at.spot)) c.in-Some.is c.in_ok-landing.ensures.spot;
        bounded = rw c.again.ensures (within_is q trail at c.in-Some.landing.at p c.args.here.now.edges c.is_within-bounded.result c.requires.here.here applies
            c.edge_numbers-more.ensures.rule c.requires.here.edges c.requires.here.low (c.is_within-bounded.ensures.within c.args.file));
        cut = subst (λ (o : Option Landing). IfSome o (λ (landing : Landing). landing.cut ≡ is_at_cut q landing.at)) c.in-Some.is c.in_ok-landing.ensures.cut;
        here = rw c.again.ensures (here_next q trail at _ c.requires.here.here c.requires.offered applies
            (c.in_ok-landing.ensures.joined
            ∙ ap (λ (o : Option Landing). option_map_or (λ (landing : Landing). joined (with_path (paths_of trail) p) landing.at ∷ []) o []) c.in-Some.is));
        edges = rw c.again.ensures ((λ i. c.requires.here.edges i + c.edge_numbers-more.ensures.count i) ∙ sym (edge_count-with (paths_of trail) p));
        moves = c.requires.here.moves;
        level = rw c.again.ensures (stored_moves c.file_zero_moves.ensures q trail at p c.requires.here.asked.sources c.ranges.file.fits c.requires.offered);
      };
    }
