-- A run from a reference is cut, behind each of its cut edges, into stored paths.
use Rattle.std.proofs.Common.{◌≡◌, ◌≢◌, refl, sym, ap, ◌∙◌, subst, ℕ, zero, suc, ◌<◌, List, [], ◌∷◌, ◌++◌, map, length, get_or, Bool, true, false, Option, Some, None, arith, append_assoc, append-nil, ◌⊎◌, inl, inr}
use Rattle.std.specs.Prelude.{slice_get, All, Contains, IsSome, IsSomeAnd}
use Rattle.std.specs.Option.{option_map, option_and_then, option_map_or, is_some}
use Rattle.std.specs.List.{AllByRecursion}
use Rattle.std.proofs.lemmas.Bool.{or_left}
use Rattle.std.proofs.lemmas.Option.{none-some, same_Some, slice_get-map}
use Rattle.graph_nodes.specs.declared.node.Node.{Node}
use Rattle.graph_nodes.specs.declared.node.Place.TheVariants as place
use Rattle.graph_nodes.specs.Graph.{Graph, is_reference_kind, is_reference}
use Rattle.graph_nodes.specs.Checked.{IsChecked}
use Rattle.stacks_vars.specs.declared.scopes.NodeAt.{NodeAt}
use Rattle.stacks_vars.specs.Enter.{no_stacks}
use Rattle.partial_path.specs.declared.config.Spot.{Spot}
use Rattle.partial_path.specs.declared.config.Config.{Config}
use Rattle.partial_path.specs.declared.config.EdgeAt.{EdgeAt}
use Rattle.partial_path.specs.declared.rule.Start.{Start}
use Rattle.partial_path.specs.declared.rule.Start.TheVariants.{Before, After}
use Rattle.partial_path.specs.Spots.{at_node}
use Rattle.partial_path.specs.Step.{step, start, start_at, enter_node, is_cut_edge}
use Rattle.partial_path.specs.Runs.{run, IsClosed, IsAtDefinition}
use Rattle.partial_path.specs.Counted.{IsComplete}
use Rattle.partial_path.specs.Rules.{Rule}
use Rattle.partial_path.specs.Apply.{apply}
use Rattle.partial_path.specs.Walks.{alone, run_from, starts_walks_of, IsUncut, lands_after, ends_landing, IsLandingWalk, Walk, walk_of}
use Rattle.partial_path.specs.Moved.{moved_edge, moved_start, moved}
use Rattle.partial_path.specs.FileNumbers.{EdgeIn, SpotIn, StartIn}
use Rattle.partial_path.specs.Inside.{start_inside}
use Rattle.partial_path.specs.PathSets.{FileRules, walk_of_rule}
use Rattle.partial_path.specs.Sources.{IsSourceFile, graphs_of}
use Rattle.partial_path.specs.Cutting.{IsStoredIn, edges_in, path_edges, PathsLead}
use Rattle.partial_path.specs.Laws.{CountedRunsAreCut}
use Rattle.partial_path.proofs.Swaps.{sw_config, some_mapped}
use Rattle.partial_path.proofs.SwappedRuns.{ran_from, moved_starts_are_starts}
use Rattle.partial_path.proofs.Followed.{followed_by, entered_spot, uncut_file, stood_in, definition_lands, last_step, if_some}
use Rattle.partial_path.proofs.MovedWalks.{IsFile, edge_inside, edges_there, edges_zero, start_there, start_zero, uncut_alone, landing_alone}
use Rattle.list_facts.proofs.Each.{all_push}
use Rattle.partial_path.proofs.RunsOn.{run_from-append}
use Rattle.partial_path.proofs.Joints.{IsEnded, ended, graph_there, source_there, stored_runs, run_after, start_entered, begin_before}
use Rattle.partial_path.proofs.Exported.{AreChecked, HoldScopeNodes, place_scopes, step_scopes, cut_spot}

-- the file whose graph is there

abbrev HasFile : List FileRules → ℕ → Graph → Type 0
HasFile files k g = (f : FileRules) × (slice_get files k ≡ Some f) × (f.graph ≡ g)

mapped_file : (o : Option FileRules) (g : Graph) → option_map (λ (f : FileRules). f.graph) o ≡ Some g → (f : FileRules) × (o ≡ Some f) × (f.graph ≡ g)
mapped_file None g h = absurd (none-some g h)
mapped_file (Some f) g h = (f, refl, same_Some f.graph g h)

file_there : (files : List FileRules) (k : ℕ) (g : Graph) → slice_get (graphs_of files) k ≡ Some g → HasFile files k g
file_there files k g h = mapped_file (slice_get files k) g (sym (slice_get-map (λ (f : FileRules). f.graph) files k) ∙ h)

pub all_checked : (files : List FileRules) → All IsSourceFile files → AreChecked (graphs_of files)
all_checked files sources k g h =
    let file = file_there files k g h in subst IsChecked file.2 (source_there files k file.0 sources file.1).checked

-- what has an image in a list

pub image_of : {X Y : Type 0} (f : X → Y) (xs : List X) (y : Y) (k : ℕ) → k < length (map f xs) → get_or (map f xs) k y ≡ y → (x : X) × Contains xs x × (f x ≡ y)
image_of f [] y k lt is = absurd (omega (arith, lt))
image_of f (x ∷ xs) y zero lt is = (x, (zero, omega arith, refl), is)
image_of f (x ∷ xs) y (suc k) lt is =
    let (z, at, same) = image_of f xs y k (omega (arith, lt)) is in (z, (suc at.0, omega (arith, at.1), at.2), same)

inside_some : (es : List EdgeAt) → es ≢ [] → map edge_inside es ≢ []
inside_some [] some h = some refl
inside_some (e ∷ es) some h = cc

-- a stored path of that start and those edges
abbrev HasPath : List FileRules → ℕ → Start → List EdgeAt → Type 0
HasPath files k s es = (rule : Rule) × IsStoredIn files (k, rule) × (moved_start k rule.start ≡ s) × (edges_in (k, rule) ≡ es)

-- edges of one file that land, of which at most the last is a cut edge, are those of a stored path
stored_path : (files : List FileRules) (k : ℕ) (f : FileRules) (s : Start) (es : List EdgeAt) (c : Config) → All IsSourceFile files → slice_get files k ≡ Some f
    → StartIn (IsFile k) s → AllByRecursion (EdgeIn (IsFile k)) es → starts_walks_of (graphs_of files) s ≡ true → es ≢ [] → IsUncut (graphs_of files) es
    → IsSome (run_from (graphs_of files) s es c) → ends_landing (graphs_of files) es ≡ true → HasPath files k s es
stored_path files k f s es c sources there in_file edges starts some uncut runs lands =
    let all = graphs_of files in
    let g = f.graph in
    let at = graph_there files k f there in
    let start_is = start_there k s in_file in
    let edges_are = edges_there k es edges in
    let zeros = edges_zero es in
    let walk : IsLandingWalk g (start_inside s) (map edge_inside es) = record {
      walk = record {
        begins = sym (moved_starts_are_starts all k g (start_inside s) at (start_zero s)) ∙ ap (starts_walks_of all) start_is ∙ starts;
        nonempty = inside_some es some;
        uncut = uncut_alone all k g (map edge_inside es) at zeros (subst (IsUncut all) (sym edges_are) uncut);
        runs = (
          sw_config k c,
          sym (some_mapped (sw_config k) (run_from (alone g) (start_inside s) (map edge_inside es) (sw_config k c)))
              ∙ ap is_some (sym (ran_from all k g at (start_inside s) (map edge_inside es) c (start_zero s) zeros))
              ∙ (λ i. is_some (run_from all (start_is i) (edges_are i) c)) ∙ runs,
        );
      };
      lands = landing_alone all k g (map edge_inside es) at zeros ∙ ap (ends_landing all) edges_are ∙ lands;
    } in
    let found = (source_there files k f sources there).sets.rules.complete (start_inside s) (map edge_inside es) walk in
    let (rule, stored, same) = image_of walk_of_rule f.rules (walk_of (start_inside s) (map edge_inside es)) found.0 found.1 found.2 in (
      rule,
      (f, there, stored),
      ap (λ (w : Walk). moved_start k w.start) same ∙ start_is,
      ap (λ (w : Walk). map (moved_edge k) w.edges) same ∙ edges_are,
    )

-- runs between cuts

-- none of these edges is a cut edge
abbrev pub AreUncut : List Graph → List EdgeAt → Type 0
AreUncut files es = AllByRecursion (λ (e : EdgeAt). is_cut_edge files e ≡ false) es

uncut_push : (files : List Graph) (es : List EdgeAt) (e : EdgeAt) → AreUncut files es → IsUncut files (es ++ e ∷ [])
uncut_push files [] e h = tt
uncut_push files (x ∷ []) e h = (h.0, tt)
uncut_push files (x ∷ y ∷ es) e h = (h.0, uncut_push files (y ∷ es) e h.1)

-- whether a path may land after some edges is told by the last
pub landing_push : (files : List Graph) (es : List EdgeAt) (e : EdgeAt) → ends_landing files (es ++ e ∷ []) ≡ lands_after files e
landing_push files [] e = refl
landing_push files (x ∷ []) e = refl
landing_push files (x ∷ y ∷ es) e = landing_push files (y ∷ es) e

push_some : (es : List EdgeAt) (e : EdgeAt) → (es ++ e ∷ []) ≢ []
push_some [] e h = cc
push_some (x ∷ es) e h = cc

-- what was followed from a start, up to a spot, is of the file that the spot is in
abbrev pub AreOfOne : Start → List EdgeAt → Spot → Type 0
AreOfOne s es at = (k : ℕ) → SpotIn (IsFile k) at → StartIn (IsFile k) s × AllByRecursion (EdgeIn (IsFile k)) es

-- edges followed from a start of walks, none of them a cut edge
pub record IsUnderWay (files : List Graph) (s : Start) (c : Config) (es : List EdgeAt) (d : Config) : Type 0 where
  pub starts : starts_walks_of files s ≡ true
  pub runs : run_from files s es c ≡ Some d
  pub uncut : AreUncut files es
  pub scopes : HoldScopeNodes files d.stacks
  pub one : AreOfOne s es d.spot

one_more : (files : List Graph) (s : Start) (c d next : Config) (es : List EdgeAt) (e : EdgeAt) → run_from files s es c ≡ Some d → step files d e ≡ Some next
    → run_from files s (es ++ e ∷ []) c ≡ Some next
one_more files s c d next es e ran stepped =
    run_from-append files s es (e ∷ []) c ∙ ap (option_and_then (λ (x : Config). run files x (e ∷ []))) ran
    ∙ ap (option_and_then (λ (x : Config). run files x [])) stepped

-- the stored path that is followed there with one more edge, after which it lands
abbrev Lands : List FileRules → Start → Config → List EdgeAt → Config → Type 0
Lands files s c es next =
    (p : ℕ × Rule) × IsStoredIn files p × (moved_start p.0 p.1.start ≡ s) × (apply (moved p.0 p.1) c ≡ Some next) × (edges_in p ≡ es)

landed : (files : List FileRules) (s : Start) (c d next : Config) (es : List EdgeAt) (e : EdgeAt) → All IsSourceFile files → IsUnderWay (graphs_of files) s c es d
    → step (graphs_of files) d e ≡ Some next → lands_after (graphs_of files) e ≡ true → Lands files s c (es ++ e ∷ []) next
landed files s c d next es e sources way stepped lands =
    let all = graphs_of files in
    let by = followed_by all d next e stepped in
    let file = file_there files e.file by.graph by.in_files in
    let one = way.one e.file (stood_in all d next e stepped) in
    let ran = one_more all s c d next es e way.runs stepped in
    let (rule, stored, starts, edges) = stored_path files e.file file.0 s (es ++ e ∷ []) c sources file.1 one.0 (all_push (EdgeIn (IsFile e.file)) es e one.1 refl) way.starts
    (push_some es e) (uncut_push all es e way.uncut) (ap is_some ran) (landing_push all es e ∙ lands) in (
      (e.file, rule),
      stored,
      starts,
      stored_runs files (e.file, rule) c sources stored ∙ (λ i. run_from all (starts i) (edges i) c) ∙ ran,
      edges,
    )

-- after an edge that is no cut edge more is under way
way_on : (files : List FileRules) (s : Start) (c d next : Config) (es : List EdgeAt) (e : EdgeAt) → All IsSourceFile files → IsUnderWay (graphs_of files) s c es d
    → step (graphs_of files) d e ≡ Some next → is_cut_edge (graphs_of files) e ≡ false → IsUnderWay (graphs_of files) s c (es ++ e ∷ []) next
way_on files s c d next es e sources way stepped uncut =
    let all = graphs_of files in
    let at = uncut_file all d next e stepped uncut in
    let one = way.one e.file (stood_in all d next e stepped) in record {
      starts = way.starts;
      runs = one_more all s c d next es e way.runs stepped;
      uncut = all_push (λ (x : EdgeAt). is_cut_edge all x ≡ false) es e way.uncut uncut;
      scopes = step_scopes all d next e (all_checked files sources) way.scopes stepped;
      one = λ k there.
          let file : e.file ≡ k = subst (SpotIn (IsFile k)) at.1 there in
          subst (λ (k : ℕ). StartIn (IsFile k) s × AllByRecursion (EdgeIn (IsFile k)) (es ++ e ∷ [])) file
          (one.0, all_push (EdgeIn (IsFile e.file)) es e one.1 refl);
    }

-- after a cut edge the way begins anew
way_anew : (files : List FileRules) (d next : Config) (e : EdgeAt) → All IsSourceFile files → HoldScopeNodes (graphs_of files) d.stacks
    → step (graphs_of files) d e ≡ Some next → is_cut_edge (graphs_of files) e ≡ true → IsUnderWay (graphs_of files) (After next.spot) next [] next
way_anew files d next e sources scopes stepped cut = let all = graphs_of files in record {
  starts = cut_spot all d next e scopes stepped cut;
  runs = run_after all [] next;
  uncut = tt;
  scopes = step_scopes all d next e (all_checked files sources) scopes stepped;
  one = λ k there. (there, tt);
}

-- stored paths that lead there with those edges
abbrev pub AreCut : List FileRules → Start → Config → List EdgeAt → Config → Type 0
AreCut files s c es end = (paths : List (ℕ × Rule)) × PathsLead files s c paths end × (path_edges paths ≡ es)

pub first_of_run : (files : List Graph) (es : List EdgeAt) (o : Option Config) (end : Config) → option_and_then (λ (next : Config). run files next es) o ≡ Some end
    → (next : Config) × (o ≡ Some next) × (run files next es ≡ Some end)
first_of_run files es None end h = absurd (none-some end h)
first_of_run files es (Some next) end h = (next, refl, h)

cut_there : (files : List FileRules) (s : Start) (c next end : Config) (es more : List EdgeAt) → Lands files s c es next → AreCut files (After next.spot) next more end
    → AreCut files s c (es ++ more) end
cut_there files s c next end es more (p, stored, starts, applied, edges) (paths, leads, same) =
    (p ∷ paths, (stored, starts, next, applied, leads), λ i. edges i ++ same i)

-- what is under way, and a run from there that lands, are cut into stored paths
pub cut_on : (files : List FileRules) (s : Start) (c d end : Config) (es more : List EdgeAt) → All IsSourceFile files → IsUnderWay (graphs_of files) s c es d
    → more ≢ [] → run (graphs_of files) d more ≡ Some end → ends_landing (graphs_of files) more ≡ true → AreCut files s c (es ++ more) end
cut_on files s c d end es [] sources way some ran lands = absurd (some refl)
cut_on files s c d end es (e ∷ []) sources way some ran lands =
    let (next, stepped, is) = first_of_run (graphs_of files) [] (step (graphs_of files) d e) end ran in
    let cut = cut_there files s c next end (es ++ e ∷ []) [] (landed files s c d next es e sources way stepped lands) ([], same_Some next end is, refl) in
    (cut.0, cut.1, cut.2 ∙ append-nil (es ++ e ∷ []))
cut_on files s c d end es (e ∷ x ∷ more) sources way some ran lands =
    let (next, stepped, rest) = first_of_run (graphs_of files) (x ∷ more) (step (graphs_of files) d e) end ran in
    let all = graphs_of files in
    let cut = by next stepped (is_cut_edge all e) refl
    (λ cut. cut_on files (After next.spot) next next end [] (x ∷ more) sources (way_anew files d next e sources way.scopes stepped cut) (λ h. cc) rest lands)
    (λ uncut. cut_on files s c next end (es ++ e ∷ []) (x ∷ more) sources (way_on files s c d next es e sources way stepped uncut) (λ h. cc) rest lands) in
    (cut.0, cut.1, cut.2 ∙ append_assoc es (e ∷ []) (x ∷ more))
  where
    by : (next : Config) → step (graphs_of files) d e ≡ Some next → (b : Bool) → is_cut_edge (graphs_of files) e ≡ b
        → (is_cut_edge (graphs_of files) e ≡ true → AreCut files (After next.spot) next (x ∷ more) end)
        → (is_cut_edge (graphs_of files) e ≡ false → AreCut files s c ((es ++ e ∷ []) ++ x ∷ more) end)
        → AreCut files s c ((es ++ e ∷ []) ++ x ∷ more) end
    by next stepped true is anew on =
        cut_there files s c next end (es ++ e ∷ []) (x ∷ more)
        (landed files s c d next es e sources way stepped (or_left (is_cut_edge (graphs_of files) e) _ is)) (anew is)
    by next stepped false is anew on = on is

-- the start of a reference

reference_node : (r : NodeAt) (o : Option Node) (c : Config) → option_and_then (start_at r) o ≡ Some c → option_map_or (λ (node : Node). is_reference_kind node.kind) o false ≡ true
reference_node r None c h = absurd (none-some c h)
reference_node r (Some node) c h = (if_some (is_reference_kind node.kind) (enter_node r node no_stacks) c h).0

reference_graph : (r : NodeAt) (o : Option Graph) (c : Config) → option_and_then (start_at r) (option_and_then (λ (g : Graph). slice_get g.nodes r.node) o) ≡ Some c
    → option_map_or (λ (g : Graph). is_reference g.nodes r.node) o false ≡ true
reference_graph r None c h = absurd (none-some c h)
reference_graph r (Some g) c h = reference_node r (slice_get g.nodes r.node) c h

way_begins : (files : List FileRules) (r : NodeAt) (c : Config) → All IsSourceFile files → start (graphs_of files) r ≡ Some c
    → IsUnderWay (graphs_of files) (Before r) (at_node r no_stacks) [] c
way_begins files r c sources h =
    let all = graphs_of files in
    let entered = start_entered all r c h in record {
      starts = reference_graph r (slice_get all r.file) c h;
      runs = ap (option_and_then (λ (x : Config). run all x [])) (begin_before all r c h);
      uncut = tt;
      scopes = place_scopes all r.file (place.At r.node) no_stacks c (all_checked files sources) (tt, tt) entered;
      one = λ k there. (subst (SpotIn (IsFile k)) (entered_spot all r.file r.node no_stacks c entered) there, tt);
    }

-- a counted run lands

pub landing_same : (files : List Graph) (es front : List EdgeAt) (last : EdgeAt) → es ≡ front ++ last ∷ [] → lands_after files last ≡ true → ends_landing files es ≡ true
landing_same files es front last is lands = ap (ends_landing files) is ∙ landing_push files front last ∙ lands

at_end : (files : List Graph) (o : Option Config) (end : Config) → o ≡ Some end → IsSomeAnd o (IsAtDefinition files) → IsAtDefinition files end
at_end files o end is h = subst (λ (x : Option Config). IsSomeAnd x (IsAtDefinition files)) is h

complete_lands : (files : List Graph) (c end : Config) (es : List EdgeAt) → IsAtDefinition files end → run files c es ≡ Some end → IsEnded es → ends_landing files es ≡ true
complete_lands files c end es at ran (front, last, is) =
    let before = last_step files (After c.spot) front last c end (ap (λ (xs : List EdgeAt). run_from files (After c.spot) xs c) (sym is) ∙ run_after files es c ∙ ran) in
    landing_same files es front last is (definition_lands files before.0 end last before.1 at.definition)

pub run_ended : (es : List EdgeAt) → es ≢ [] → IsEnded es
run_ended [] some = absurd (some refl)
run_ended (e ∷ es) some = ended e es

counted_lands : (files : List Graph) (c end : Config) (es : List EdgeAt) → run files c es ≡ Some end → es ≢ [] → IsClosed files es ⊎ IsComplete files c es → ends_landing files es ≡ true
counted_lands files c end es ran some (inl (before, last, is, cut)) = landing_same files es before last is (or_left (is_cut_edge files last) _ cut)
counted_lands files c end es ran some (inr complete) = complete_lands files c end es (at_end files (run files c es) end ran complete.ends) ran (run_ended es some)

pub paths_some : (paths : List (ℕ × Rule)) (es : List EdgeAt) → es ≢ [] → path_edges paths ≡ es → paths ≢ []
paths_some paths es some is none = some (sym is ∙ ap path_edges none)

pub counted_runs_are_cut : CountedRunsAreCut
counted_runs_are_cut files r c end es sources starts counted ran =
    let all = graphs_of files in
    let cut = cut_on files (Before r) (at_node r no_stacks) c end [] es sources (way_begins files r c sources starts) counted.nonempty ran
    (counted_lands all c end es ran counted.nonempty counted.lands) in
    (cut.0, record { nonempty = paths_some cut.0 es counted.nonempty cut.2; leads = cut.1; edges = cut.2 })
