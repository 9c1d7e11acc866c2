-- Where a run that stored paths make is cut: where they land at the root, at exported scopes and at turning nodes.
use Rattle.std.proofs.Common.{◌≡◌, ◌≢◌, refl, sym, ap, ◌∙◌, subst, ℕ, List, [], ◌∷◌, ◌++◌, Bool, true, false, cond, Option, Some, None, if◌then◌else◌, append_assoc, append-nil, ◌⊎◌, inl, inr}
use Rattle.std.specs.Prelude.{All, IsTrue, IsSomeAnd}
use Rattle.std.specs.Option.{option_and_then, option_map_or, is_some}
use Rattle.std.proofs.lemmas.Option.{none-some, same_Some}
use Rattle.graph_nodes.specs.declared.node.Place.TheVariants as place
use Rattle.graph_nodes.specs.Graph.{Graph}
use Rattle.stacks_vars.specs.declared.scopes.NodeAt.{NodeAt}
use Rattle.stacks_vars.specs.Enter.{no_stacks}
use Rattle.partial_path.specs.declared.config.Config.{Config}
use Rattle.partial_path.specs.declared.config.EdgeAt.{EdgeAt}
use Rattle.partial_path.specs.declared.rule.Start.{Start}
use Rattle.partial_path.specs.declared.rule.Start.TheVariants.{Before, After}
use Rattle.partial_path.specs.Spots.{at_node}
use Rattle.partial_path.specs.Step.{step, start, is_cut_edge}
use Rattle.partial_path.specs.Runs.{run, where_cut, after_cuts, IsApart, IsStraight, IsClosed, IsAtDefinition}
use Rattle.partial_path.specs.Counted.{IsComplete}
use Rattle.partial_path.specs.Rules.{Rule}
use Rattle.partial_path.specs.Apply.{apply}
use Rattle.partial_path.specs.Walks.{begin, run_from, is_cut_spot_of, IsUncut}
use Rattle.partial_path.specs.Moved.{moved_start, moved}
use Rattle.partial_path.specs.PathSets.{FileRules}
use Rattle.partial_path.specs.Sources.{IsSourceFile, graphs_of}
use Rattle.partial_path.specs.Cutting.{IsStoredIn, edges_in, path_edges, PathsLead, LeadFrom, landings, at_cuts}
use Rattle.partial_path.specs.Laws.{AreStraightPaths, LandingsTell}
use Rattle.partial_path.proofs.Followed.{uncut_spot}
use Rattle.partial_path.proofs.MovedWalks.{uncut_moved}
use Rattle.partial_path.proofs.OnlyCuts.{zeros_of}
use Rattle.partial_path.proofs.Joints.{IsEnded, ended, graph_there, stored_lands, stored_runs, edges_ended, begin_after, start_entered, begin_before, paths_are_runs}
use Rattle.partial_path.proofs.Exported.{AreChecked, HoldScopeNodes, place_scopes, step_scopes, cut_spot}
use Rattle.partial_path.proofs.CutRuns.{all_checked}

same_tests : (a b : Bool) → (a ≡ true → b ≡ true) → (a ≡ false → b ≡ false) → a ≡ b
same_tests true b h k = sym (h refl)
same_tests false b h k = sym (k refl)

-- an edge is a cut edge exactly where it leads to a cut spot
cut_same : (files : List Graph) (d next : Config) (e : EdgeAt) → HoldScopeNodes files d.stacks → step files d e ≡ Some next → is_cut_edge files e ≡ is_cut_spot_of files next.spot
cut_same files d next e scopes stepped =
    same_tests (is_cut_edge files e) (is_cut_spot_of files next.spot) (cut_spot files d next e scopes stepped) (uncut_spot files d next e stepped)

-- after one edge
one_cut : (files : List Graph) (d next : Config) (e : EdgeAt) → HoldScopeNodes files d.stacks → step files d e ≡ Some next → where_cut files e next ≡ at_cuts files (next ∷ [])
one_cut files d next e scopes stepped = ap (λ (b : Bool). if b then next ∷ [] else []) (cut_same files d next e scopes stepped)

first_of_run : (files : List Graph) (es : List EdgeAt) (o : Option Config) (end : Config) → option_and_then (λ (next : Config). run files next es) o ≡ Some end
    → (next : Config) × (o ≡ Some next) × (run files next es ≡ Some end)
first_of_run files es None end h = absurd (none-some end h)
first_of_run files es (Some next) end h = (next, refl, h)

cuts_stepped : (files : List Graph) (d next : Config) (e : EdgeAt) (es : List EdgeAt) → step files d e ≡ Some next
    → after_cuts files d (e ∷ es) ≡ where_cut files e next ++ after_cuts files next es
cuts_stepped files d next e es stepped = ap (λ (o : Option Config). option_map_or (λ (x : Config). where_cut files e x ++ after_cuts files x es) o []) stepped

-- where the run of edges stands that may end with a cut edge, but have none before
abbrev CutOnce : List Graph → Config → List EdgeAt → Config → Type 0
CutOnce files d es end = (after_cuts files d es ≡ at_cuts files (end ∷ [])) × HoldScopeNodes files end.stacks

cut_once : (files : List Graph) (d end : Config) (e : EdgeAt) (es : List EdgeAt) → AreChecked files → HoldScopeNodes files d.stacks → IsUncut files (e ∷ es)
    → run files d (e ∷ es) ≡ Some end → CutOnce files d (e ∷ es) end
cut_once files d end e [] checked scopes uncut ran =
    let (next, stepped, is) = first_of_run files [] (step files d e) end ran in
    subst (CutOnce files d (e ∷ [])) (same_Some next end is)
    (cuts_stepped files d next e [] stepped ∙ append-nil (where_cut files e next) ∙ one_cut files d next e scopes stepped, step_scopes files d next e checked scopes stepped)
cut_once files d end e (x ∷ es) checked scopes uncut ran =
    let (next, stepped, rest) = first_of_run files (x ∷ es) (step files d e) end ran in
    let more = cut_once files next end x es checked (step_scopes files d next e checked scopes stepped) uncut.1 rest in
    (cuts_stepped files d next e (x ∷ es) stepped ∙ ap (λ (b : Bool). (if b then next ∷ [] else []) ++ after_cuts files next (x ∷ es)) uncut.0 ∙ more.0, more.1)

cut_once_some : (files : List Graph) (d end : Config) (es : List EdgeAt) → AreChecked files → HoldScopeNodes files d.stacks → es ≢ [] → IsUncut files es
    → run files d es ≡ Some end → CutOnce files d es end
cut_once_some files d end [] checked scopes some uncut ran = absurd (some refl)
cut_once_some files d end (e ∷ es) checked scopes some uncut ran = cut_once files d end e es checked scopes uncut ran

-- after the edges of one run and then another

cuts_on : (files : List Graph) (e : EdgeAt) (es more : List EdgeAt) (d : Config)
    → ((next : Config) → run files next es ≡ Some d → after_cuts files next (es ++ more) ≡ after_cuts files next es ++ after_cuts files d more)
    → (o : Option Config) → option_and_then (λ (next : Config). run files next es) o ≡ Some d
    → option_map_or (λ (next : Config). where_cut files e next ++ after_cuts files next (es ++ more)) o []
    ≡ option_map_or (λ (next : Config). where_cut files e next ++ after_cuts files next es) o [] ++ after_cuts files d more
cuts_on files e es more d each None h = absurd (none-some d h)
cuts_on files e es more d each (Some next) h =
    ap (λ (xs : List Config). where_cut files e next ++ xs) (each next h) ∙ sym (append_assoc (where_cut files e next) (after_cuts files next es) (after_cuts files d more))

after_cuts-append : (files : List Graph) (c d : Config) (es more : List EdgeAt) → run files c es ≡ Some d → after_cuts files c (es ++ more) ≡ after_cuts files c es ++ after_cuts files d more
after_cuts-append files c d [] more h = ap (λ (x : Config). after_cuts files x more) (same_Some c d h)
after_cuts-append files c d (e ∷ es) more h = cuts_on files e es more d (λ next k. after_cuts-append files next d es more k) (step files c e) h

-- along the paths

at_cuts-cons : (files : List Graph) (d : Config) (ds : List Config) → at_cuts files (d ∷ []) ++ at_cuts files ds ≡ at_cuts files (d ∷ ds)
at_cuts-cons files d ds = by (is_cut_spot_of files d.spot)
  where
    by : (b : Bool) → cond b (d ∷ []) [] ++ at_cuts files ds ≡ cond b (d ∷ at_cuts files ds) (at_cuts files ds)
    by true = refl
    by false = refl

-- the first path, from the configuration in which its start is entered, and what is told of the others
path_cuts : (files : List FileRules) (s : Start) (c first next : Config) (p : ℕ × Rule) (paths : List (ℕ × Rule)) → All IsSourceFile files → HoldScopeNodes (graphs_of files) first.stacks
    → begin (graphs_of files) s c ≡ Some first → IsStoredIn files p → moved_start p.0 p.1.start ≡ s → apply (moved p.0 p.1) c ≡ Some next
    → (HoldScopeNodes (graphs_of files) next.stacks → after_cuts (graphs_of files) next (path_edges paths) ≡ at_cuts (graphs_of files) (landings next paths))
    → after_cuts (graphs_of files) first (path_edges (p ∷ paths)) ≡ at_cuts (graphs_of files) (landings c (p ∷ paths))
path_cuts files s c first next p paths sources scopes begun stored is applied rest =
    let g = graphs_of files in
    let ran : run g first (edges_in p) ≡ Some next =
    ap (option_and_then (λ (x : Config). run g x (edges_in p))) (sym begun) ∙ ap (λ (x : Start). run_from g x (edges_in p) c) (sym is)
    ∙ sym (stored_runs files p c sources stored) ∙ applied in
    let last = edges_ended files p sources stored in
    let uncut = uncut_moved g p.0 (stored.0).graph p.1.edges (graph_there files p.0 stored.0 stored.1) (zeros_of files p sources stored) (stored_lands files p sources stored).lands.walk.uncut in
    let once = cut_once_some g first next (edges_in p) (all_checked files sources) scopes (some_edges (edges_in p) last) uncut ran in
    after_cuts-append g first next (edges_in p) (path_edges paths) ran
    ∙ (λ i. once.0 i ++ rest once.1 i)
    ∙ at_cuts-cons g next (landings next paths)
    ∙ ap (λ (o : Option Config). at_cuts g (option_map_or (λ (x : Config). x ∷ landings x paths) o [])) (sym applied)
  where
    some_edges : (es : List EdgeAt) → IsEnded es → es ≢ []
    some_edges [] ([], last, is) e = cc
    some_edges [] (x ∷ front, last, is) e = cc
    some_edges (e ∷ es) last h = cc

cuts_after : (files : List FileRules) (c end : Config) (paths : List (ℕ × Rule)) → All IsSourceFile files → HoldScopeNodes (graphs_of files) c.stacks → PathsLead files (After c.spot) c paths end
    → after_cuts (graphs_of files) c (path_edges paths) ≡ at_cuts (graphs_of files) (landings c paths)
cuts_after files c end [] sources scopes leads = refl
cuts_after files c end (p ∷ paths) sources scopes (stored, is, next, applied, others) =
    path_cuts files (After c.spot) c c next p paths sources scopes (begin_after (graphs_of files) c) stored is applied (λ h. cuts_after files next end paths sources h others)

start_scopes : (files : List FileRules) (r : NodeAt) (c : Config) → All IsSourceFile files → start (graphs_of files) r ≡ Some c → HoldScopeNodes (graphs_of files) c.stacks
start_scopes files r c sources h =
    place_scopes (graphs_of files) r.file (place.At r.node) no_stacks c (all_checked files sources) (tt, tt) (start_entered (graphs_of files) r c h)

cuts_from : (files : List FileRules) (r : NodeAt) (c end : Config) (paths : List (ℕ × Rule)) → All IsSourceFile files → start (graphs_of files) r ≡ Some c → LeadFrom files r paths end
    → after_cuts (graphs_of files) c (path_edges paths) ≡ at_cuts (graphs_of files) (landings (at_node r no_stacks) paths)
cuts_from files r c end [] sources starts leads = refl
cuts_from files r c end (p ∷ paths) sources starts (stored, is, next, applied, others) =
    path_cuts files (Before r) (at_node r no_stacks) c next p paths sources (start_scopes files r c sources starts) (begin_before (graphs_of files) r c starts) stored is applied
    (λ h. cuts_after files next end paths sources h others)

-- where the run is closed

before_last : (files : List Graph) (c end : Config) (front : List EdgeAt) (last : EdgeAt) → AreChecked files → HoldScopeNodes files c.stacks → run files c (front ++ last ∷ []) ≡ Some end
    → (d : Config) × (step files d last ≡ Some end) × HoldScopeNodes files d.stacks
before_last files c end [] last checked scopes ran =
    let (next, stepped, is) = first_of_run files [] (step files c last) end ran in (c, stepped ∙ is, scopes)
before_last files c end (e ∷ front) last checked scopes ran =
    let (next, stepped, rest) = first_of_run files (front ++ last ∷ []) (step files c e) end ran in
    before_last files next end front last checked (step_scopes files c next e checked scopes stepped) rest

closed_to : (files : List Graph) (c end : Config) (es : List EdgeAt) → AreChecked files → HoldScopeNodes files c.stacks → run files c es ≡ Some end → IsClosed files es → is_cut_spot_of files end.spot ≡ true
closed_to files c end es checked scopes ran (front, last, is, cut) =
    let (d, stepped, there) = before_last files c end front last checked scopes (ap (run files c) (sym is) ∙ ran) in cut_spot files d end last there stepped cut

closed_from : (files : List Graph) (c end : Config) (e : EdgeAt) (es : List EdgeAt) → AreChecked files → HoldScopeNodes files c.stacks → run files c (e ∷ es) ≡ Some end → is_cut_spot_of files end.spot ≡ true
    → IsClosed files (e ∷ es)
closed_from files c end e es checked scopes ran cut =
    let (front, last, is) = ended e es in
    let (d, stepped, there) = before_last files c end front last checked scopes (ap (run files c) (sym is) ∙ ran) in
    (front, last, is, cut_same files d end last there stepped ∙ cut)

closed_some : (files : List Graph) (c end : Config) (es : List EdgeAt) → AreChecked files → HoldScopeNodes files c.stacks → es ≢ [] → run files c es ≡ Some end → is_cut_spot_of files end.spot ≡ true
    → IsClosed files es
closed_some files c end [] checked scopes some ran cut = absurd (some refl)
closed_some files c end (e ∷ es) checked scopes some ran cut = closed_from files c end e es checked scopes ran cut

-- where the run is complete or counted

end_lands : (files : List Graph) (c end : Config) (es : List EdgeAt) → run files c es ≡ Some end → IsComplete files c es → IsAtDefinition files end
end_lands files c end es ran complete = subst (λ (o : Option Config). IsSomeAnd o (IsAtDefinition files)) ran complete.ends

completed : (files : List Graph) (c end : Config) (es : List EdgeAt) → es ≢ [] → run files c es ≡ Some end → IsStraight files c es → IsAtDefinition files end → IsComplete files c es
completed files c end es some ran straight at = record {
  nonempty = some;
  straight = straight;
  ends = subst (λ (o : Option Config). IsSomeAnd o (IsAtDefinition files)) (sym ran) at;
}

counted_to : (files : List Graph) (c end : Config) (es : List EdgeAt) → AreChecked files → HoldScopeNodes files c.stacks → run files c es ≡ Some end
    → IsClosed files es ⊎ IsComplete files c es → IsTrue (is_cut_spot_of files end.spot) ⊎ IsAtDefinition files end
counted_to files c end es checked scopes ran (inl closed) = inl (closed_to files c end es checked scopes ran closed)
counted_to files c end es checked scopes ran (inr complete) = inr (end_lands files c end es ran complete)

counted_from : (files : List Graph) (c end : Config) (es : List EdgeAt) → AreChecked files → HoldScopeNodes files c.stacks → es ≢ [] → run files c es ≡ Some end → IsStraight files c es
    → IsTrue (is_cut_spot_of files end.spot) ⊎ IsAtDefinition files end → IsClosed files es ⊎ IsComplete files c es
counted_from files c end es checked scopes some ran straight (inl cut) = inl (closed_some files c end es checked scopes some ran cut)
counted_from files c end es checked scopes some ran straight (inr at) = inr (completed files c end es some ran straight at)

pub landings_tell : LandingsTell
landings_tell files r c end paths sources starts some leads =
    let g = graphs_of files in
    let es = path_edges paths in
    let checked = all_checked files sources in
    let scopes = start_scopes files r c sources starts in
    let ran = paths_are_runs files r c end paths sources starts some leads in
    let cuts : after_cuts g c es ≡ at_cuts g (landings (at_node r no_stacks) paths) = cuts_from files r c end paths sources starts leads in
    let to : IsStraight g c es → AreStraightPaths files r c paths = subst (λ (cs : List Config). IsApart (c ∷ cs)) cuts in
    let from : AreStraightPaths files r c paths → IsStraight g c es = subst (λ (cs : List Config). IsApart (c ∷ cs)) (sym cuts) in record {
      cuts = cuts;
      closed = (closed_to g c end es checked scopes ran.runs, closed_some g c end es checked scopes ran.nonempty ran.runs);
      complete = (
        λ h. (to h.straight, end_lands g c end es ran.runs h),
        λ h. completed g c end es ran.nonempty ran.runs (from h.0) h.1,
      );
      counted = (
        λ h. (to h.straight, counted_to g c end es checked scopes ran.runs h.lands),
        λ h. record {
          nonempty = ran.nonempty;
          runs = ap is_some ran.runs;
          straight = from h.0;
          lands = counted_from g c end es checked scopes ran.nonempty ran.runs (from h.0) h.1;
        },
      );
    }
