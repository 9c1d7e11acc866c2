-- Where the path lands, and whether the run comes back, by the laws of joined paths.
use Rattle.std.proofs.Common.{◌≡◌, ◌↔◌, ◌⊎◌, ◌∙◌, sym, subst, map, Bool, Option, Some, IfSome, IsTrue}
use Rattle.std.specs.List.{list_any}
use Rattle.partial_path.specs.Apply.{apply}
use Rattle.partial_path.specs.Moved.{moved}
use Rattle.partial_path.specs.Same.{config_eq}
use Rattle.partial_path.specs.Walks.{is_cut_spot_of}
use Rattle.partial_path.specs.Sources.{graphs_of}
use Rattle.partial_path.specs.Laws.{IsAtStart}
use Rattle.stitcher.specs.Trail.{landed_at}
use Rattle.stitcher.proofs.Joining.{stored_fits, spot_next, joined_none, joined_one}
use Rattle.stitcher.proofs.Pruned.{cut_is}
use Rattle.stitcher.proofs.join.landing_of.Goals as goal

pub apply_met-requires-clause-fits : goal.apply_met-requires-clause-fits
apply_met-requires-clause-fits g c =
    stored_fits c.file_zero_moves.ensures c.args.search.now c.args.here.now.trail.now c.args.here.now.at.now (c.args.file, c.args.path.now) c.requires.here.asked.sources c.ranges.file.fits c.requires.offered

pub is_at_cut-is_cut-requires-clause-known : goal.is_at_cut-is_cut-requires-clause-known
is_at_cut-is_cut-requires-clause-known g c =
    let applies : Some c.in-Some.next ≡ apply (moved c.args.file c.args.path.now) c.args.here.now.at.now =
    sym c.in-Some.is ∙ c.in_ok-next.ensures in
    subst (λ (o : Option Bool). IfSome o (λ (cut : Bool). cut ≡ is_cut_spot_of (graphs_of c.args.search.now.files) c.in-Some.next.spot)) (sym c.requires.cut)
    (cut_is (graphs_of c.args.search.now.files) (c.args.file, c.args.path.now) c.args.here.now.at.now c.in-Some.next (sym applies))

pub is_at_cut-is_cut-requires-clause-spot : goal.is_at_cut-is_cut-requires-clause-spot
is_at_cut-is_cut-requires-clause-spot g c =
    let applies : Some c.in-Some.next ≡ apply (moved c.args.file c.args.path.now) c.args.here.now.at.now =
    sym c.in-Some.is ∙ c.in_ok-next.ensures in
    spot_next c.args.search.now c.args.here.now.trail.now c.args.here.now.at.now c.in-Some.next (c.args.file, c.args.path.now) c.requires.here.asked.sources c.requires.here.asked.begins c.requires.here.here c.requires.offered applies
    c.joined_paths_are_runs.ensures c.runs_end_in_files.ensures

pub returns-then-comes_back-clause-joined : goal.returns-then-comes_back-clause-joined
returns-then-comes_back-clause-joined g c =
    let applies : Some c.in-Some.next ≡ apply (moved c.args.file c.args.path.now) c.args.here.now.at.now =
    sym c.in-Some.is ∙ c.in_ok-next.ensures in
    joined_none c.args.search.now c.args.here.now.trail.now c.args.here.now.at.now c.in-Some.next (c.args.file, c.args.path.now) c.requires.here.asked.sources c.requires.here.asked.begins c.requires.here.here c.requires.offered applies
    c.joined_paths_are_runs.ensures c.returns_are_starts.ensures c.comes_back.result c.if-comes_back.true
    (subst (λ (b : Bool). IsTrue c.comes_back.result ↔ (IsTrue b × (IsAtStart c.args.search.now.node c.in-Some.next ⊎ IsTrue (list_any (config_eq c.in-Some.next) (map landed_at c.args.here.now.trail.now))))) c.is_at_cut-is_cut.ensures c.comes_back.ensures)

pub returns-clause-joined : goal.returns-clause-joined
returns-clause-joined g c =
    let applies : Some c.in-Some.next ≡ apply (moved c.args.file c.args.path.now) c.args.here.now.at.now =
    sym c.in-Some.is ∙ c.in_ok-next.ensures in
    joined_one c.args.search.now c.args.here.now.trail.now c.args.here.now.at.now c.in-Some.next (c.args.file, c.args.path.now) c.requires.here.asked.sources c.requires.here.asked.begins c.requires.here.here c.requires.offered applies
    c.joined_paths_are_runs.ensures c.returns_are_starts.ensures c.comes_back.result c.if-comes_back.false
    (subst (λ (b : Bool). IsTrue c.comes_back.result ↔ (IsTrue b × (IsAtStart c.args.search.now.node c.in-Some.next ⊎ IsTrue (list_any (config_eq c.in-Some.next) (map landed_at c.args.here.now.trail.now))))) c.is_at_cut-is_cut.ensures c.comes_back.ensures)

pub returns-clause-spot : goal.returns-clause-spot
returns-clause-spot g c =
    let applies : Some c.in-Some.next ≡ apply (moved c.args.file c.args.path.now) c.args.here.now.at.now =
    sym c.in-Some.is ∙ c.in_ok-next.ensures in
    spot_next c.args.search.now c.args.here.now.trail.now c.args.here.now.at.now c.in-Some.next (c.args.file, c.args.path.now) c.requires.here.asked.sources c.requires.here.asked.begins c.requires.here.here c.requires.offered applies
    c.joined_paths_are_runs.ensures c.runs_end_in_files.ensures

pub returns-clause-applies : goal.returns-clause-applies
returns-clause-applies g c =
    sym (sym c.in-Some.is ∙ c.in_ok-next.ensures)
