-- A run from any start of walks is cut, behind each of its cut edges, into stored paths; and such paths are a run.
use Rattle.std.proofs.Common.{◌≡◌, ◌≢◌, refl, sym, ap, ◌∙◌, subst, ℕ, List, [], ◌∷◌, true, Some, ◌⊎◌, inl, inr}
use Rattle.std.specs.Prelude.{All, IsTrue}
use Rattle.std.specs.Option.{option_and_then}
use Rattle.std.proofs.lemmas.Bool.{or_left}
use Rattle.std.proofs.lemmas.Option.{same_Some, option_and_then_some}
use Rattle.graph_nodes.specs.declared.node.Place.TheVariants as place
use Rattle.graph_nodes.specs.Graph.{Graph}
use Rattle.partial_path.specs.declared.config.Spot.TheVariants as spot
use Rattle.partial_path.specs.Same.{spot_eq}
use Rattle.partial_path.specs.Spots.{is_definition_spot}
use Rattle.partial_path.specs.Step.{enter_place}
use Rattle.partial_path.proofs.Equals.{spot_eq-Decides}
use Rattle.partial_path.specs.declared.config.Config.{Config}
use Rattle.partial_path.specs.declared.config.EdgeAt.{EdgeAt}
use Rattle.partial_path.specs.declared.rule.Start.{Start}
use Rattle.partial_path.specs.declared.rule.Start.TheVariants.{Before, After}
use Rattle.partial_path.specs.Step.{step, is_cut_edge}
use Rattle.partial_path.specs.Runs.{run, IsClosed}
use Rattle.partial_path.specs.Rules.{Rule}
use Rattle.partial_path.specs.Walks.{begin, run_from, highest_from, starts_walks_of, ends_landing}
use Rattle.partial_path.specs.FileNumbers.{SpotIn, StartIn}
use Rattle.partial_path.specs.PathSets.{FileRules}
use Rattle.partial_path.specs.Sources.{IsSourceFile, graphs_of}
use Rattle.partial_path.specs.Cutting.{path_edges, PathsLead, heights}
use Rattle.partial_path.proofs.Followed.{entered_spot, definition_lands, last_step, if_some}
use Rattle.partial_path.proofs.MovedWalks.{IsFile}
use Rattle.partial_path.proofs.Joints.{IsEnded, stored_starts, edges_some, lead_run}
use Rattle.partial_path.proofs.Exported.{AreChecked, place_scopes, step_scopes}
use Rattle.partial_path.proofs.CutRuns.{all_checked, IsUnderWay, first_of_run, cut_on, landing_same, run_ended, paths_some}
use Rattle.partial_path.proofs.HighJoints.{longer_height, heights_after}
use Rattle.back_stitch.specs.Cuts.{HoldExported, LandingRunsAreCut, LeadingPathsAreRuns, ExportedScopesStay}

-- a start is begun

module _ (files : List FileRules) (sources : All IsSourceFile files) where
  begun_scopes : (s : Start) (c first : Config) → HoldExported (graphs_of files) c.stacks → begin (graphs_of files) s c ≡ Some first → HoldExported (graphs_of files) first.stacks
  begun_scopes (Before r) c first scopes h =
      let t = if_some (spot_eq (spot.At r) c.spot) (enter_place (graphs_of files) r.file (place.At r.node) c.stacks) first h in
      place_scopes (graphs_of files) r.file (place.At r.node) c.stacks first (all_checked files sources) scopes t.1
  begun_scopes (After at) c first scopes h =
      let t = if_some (spot_eq at c.spot) (Some c) first h in
      subst (λ (d : Config). HoldExported (graphs_of files) d.stacks) (same_Some c first t.1) scopes

  -- what begins in a file is where the start is
  begun_file : (s : Start) (c first : Config) (k : ℕ) → begin (graphs_of files) s c ≡ Some first → SpotIn (IsFile k) first.spot → StartIn (IsFile k) s
  begun_file (Before r) c first k h there =
      let t = if_some (spot_eq (spot.At r) c.spot) (enter_place (graphs_of files) r.file (place.At r.node) c.stacks) first h in
      subst (SpotIn (IsFile k)) (entered_spot (graphs_of files) r.file r.node c.stacks first t.1) there
  begun_file (After at) c first k h there =
      let t = if_some (spot_eq at c.spot) (Some c) first h in
      let same : at ≡ first.spot = (spot_eq-Decides at c.spot).0 t.0 ∙ ap (λ (d : Config). d.spot) (same_Some c first t.1) in
      subst (SpotIn (IsFile k)) (sym same) there

  begun : (s : Start) (c first : Config) → IsTrue (starts_walks_of (graphs_of files) s) → HoldExported (graphs_of files) c.stacks → begin (graphs_of files) s c ≡ Some first
      → IsUnderWay (graphs_of files) s c [] first
  begun s c first starts scopes h = record {
    starts = starts;
    runs = ap (option_and_then (λ (x : Config). run (graphs_of files) x [])) h;
    uncut = tt;
    scopes = begun_scopes s c first scopes h;
    one = λ k there. (begun_file s c first k h there, tt);
  }

-- a run that is closed or ends at a definition lands

definition_run : (files : List Graph) (s : Start) (c end : Config) (es : List EdgeAt) → IsTrue (is_definition_spot files end.spot) → run_from files s es c ≡ Some end → IsEnded es
    → ends_landing files es ≡ true
definition_run files s c end es at ran (front, last, is) =
    let before = last_step files s front last c end (ap (λ (xs : List EdgeAt). run_from files s xs c) (sym is) ∙ ran) in
    landing_same files es front last is (definition_lands files before.0 end last before.1 at)

lands : (files : List Graph) (s : Start) (c end : Config) (es : List EdgeAt) → es ≢ [] → run_from files s es c ≡ Some end
    → IsClosed files es ⊎ IsTrue (is_definition_spot files end.spot) → ends_landing files es ≡ true
lands files s c end es some ran (inl (front, last, is, cut)) = landing_same files es front last is (or_left (is_cut_edge files last) _ cut)
lands files s c end es some ran (inr at) = definition_run files s c end es at ran (run_ended es some)

pub landing_runs_are_cut : LandingRunsAreCut
landing_runs_are_cut files s c end es sources starts scopes some ran landed =
    option_and_then_some (λ (first : Config). run (graphs_of files) first es) (begin (graphs_of files) s c) end ran
    (λ first began on.
    let cut = cut_on files s c first end [] es sources (begun files sources s c first starts scopes began) some on (lands (graphs_of files) s c end es some ran landed) in
    (cut.0, record { nonempty = paths_some cut.0 es some cut.2; leads = cut.1; edges = cut.2 }))

-- such paths are a run, as high as they are

high_run : (files : List FileRules) (s : Start) (c end : Config) (paths : List (ℕ × Rule)) → All IsSourceFile files → paths ≢ [] → PathsLead files s c paths end
    → heights c paths ≡ highest_from (graphs_of files) s (path_edges paths) c
high_run files s c end [] sources some leads = absurd (some refl)
high_run files s c end (p ∷ paths) sources some (stored, is, next, applied, others) =
    longer_height files s p c next paths sources stored is applied (heights_after files next end paths sources others)

run_starts : (files : List FileRules) (s : Start) (c end : Config) (paths : List (ℕ × Rule)) → All IsSourceFile files → paths ≢ [] → PathsLead files s c paths end
    → IsTrue (starts_walks_of (graphs_of files) s)
run_starts files s c end [] sources some leads = absurd (some refl)
run_starts files s c end (p ∷ paths) sources some (stored, is, next, applied, others) = stored_starts files p s sources stored is

run_some : (files : List FileRules) (s : Start) (c end : Config) (paths : List (ℕ × Rule)) → All IsSourceFile files → paths ≢ [] → PathsLead files s c paths end
    → path_edges paths ≢ []
run_some files s c end [] sources some leads = absurd (some refl)
run_some files s c end (p ∷ paths) sources some leads = edges_some files p (path_edges paths) sources leads.0

pub leading_paths_are_runs : LeadingPathsAreRuns
leading_paths_are_runs files s c end paths sources some leads = record {
  starts = run_starts files s c end paths sources some leads;
  runs = lead_run files s c end paths sources some leads;
  nonempty = run_some files s c end paths sources some leads;
  high = high_run files s c end paths sources some leads;
}

-- exported scopes stay

run_scopes : (files : List Graph) (c end : Config) (es : List EdgeAt) → AreChecked files → HoldExported files c.stacks → run files c es ≡ Some end → HoldExported files end.stacks
run_scopes files c end [] checked scopes ran = subst (λ (d : Config). HoldExported files d.stacks) (same_Some c end ran) scopes
run_scopes files c end (e ∷ es) checked scopes ran =
    let x = first_of_run files es (step files c e) end ran in run_scopes files x.0 end es checked (step_scopes files c x.0 e checked scopes x.1) x.2

pub exported_scopes_stay : ExportedScopesStay
exported_scopes_stay files s c end [] sources leads scopes = subst (λ (d : Config). HoldExported (graphs_of files) d.stacks) leads scopes
exported_scopes_stay files s c end (p ∷ paths) sources leads scopes =
    option_and_then_some (λ (first : Config). run (graphs_of files) first (path_edges (p ∷ paths))) (begin (graphs_of files) s c) end
    (lead_run files s c end (p ∷ paths) sources (λ h. cc) leads)
    (λ first begun on. run_scopes (graphs_of files) first end (path_edges (p ∷ paths)) (all_checked files sources) (begun_scopes files sources s c first scopes begun) on)
