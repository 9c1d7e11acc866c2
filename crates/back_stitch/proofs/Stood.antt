-- A rule that does what stored paths do tells whether they are a back list.
use Rattle.std.proofs.Common.{◌≡◌, ◌≢◌, ◌≤◌, refl, sym, ap, ◌∙◌, subst, ℕ, ◌+◌, max, List, [], ◌∷◌, ◌++◌, map, length, true, Option, Some, None, arith, leb, leb-true, append-nil, length-append, inr}
use Rattle.std.specs.Prelude.{IsTrue, All}
use Rattle.std.specs.Option.{option_and_then, option_map_or, is_some}
use Rattle.std.specs.List.{AllByRecursion}
use Rattle.std.proofs.lemmas.Bool.{false≢true, and_parts, and_from, le-leb}
use Rattle.std.proofs.lemmas.Option.{same_Some, option_and_then_some}
use Rattle.std.proofs.lemmas.List.{length-map}
use Rattle.graph_nodes.specs.Graph.{Graph}
use Rattle.graph_nodes.specs.Whole.{is_definition_of}
use Rattle.stacks_vars.specs.declared.scopes.NodeAt.{NodeAt}
use Rattle.stacks_vars.specs.declared.stacks.Stacks.{Stacks}
use Rattle.partial_path.specs.declared.config.Spot.{Spot}
use Rattle.partial_path.specs.declared.config.Spot.TheVariants as spot
use Rattle.partial_path.specs.declared.config.Config.{Config}
use Rattle.partial_path.specs.declared.config.EdgeAt.{EdgeAt}
use Rattle.partial_path.specs.declared.rule.Start.{Start}
use Rattle.partial_path.specs.declared.rule.Start.TheVariants.{Before, After}
use Rattle.partial_path.specs.Spots.{is_definition_spot}
use Rattle.partial_path.specs.Same.{spot_eq}
use Rattle.partial_path.specs.Rules.{Rule, IsRule, start_spot}
use Rattle.partial_path.specs.Apply.{apply, height}
use Rattle.partial_path.specs.Moved.{moved, moved_spot, moved_start}
use Rattle.partial_path.specs.Walks.{highest_from, Walk, walk_of}
use Rattle.partial_path.specs.PathSets.{FileRules}
use Rattle.partial_path.specs.Sources.{IsSourceFile, graphs_of}
use Rattle.partial_path.specs.Cutting.{IsStoredIn, edges_in, path_edges, PathsLead, heights}
use Rattle.partial_path.proofs.Equals.{spot_eq-Decides}
use Rattle.back_stitch.specs.Lists.{most_edges, most_depth, at_start, LeadTo, IsBackList}
use Rattle.back_stitch.specs.Sources.{may_end_at}
use Rattle.back_stitch.specs.Joined.{follow_all, is_after, AreJoints, BeginAt, IsJoined, is_none, is_certain, all_exported, is_kept}
use Rattle.back_stitch.specs.Paths.{IsBackPath}
use Rattle.back_stitch.proofs.CutFrom.{landing_runs_are_cut, leading_paths_are_runs, exported_scopes_stay}
use Rattle.back_stitch.proofs.Matched.{least, least_item, least_exported}
use Rattle.back_stitch.proofs.Applied.{applied_by, end_low, none_made, ends_there, asks_there, certain_there, least_applies}

-- stored paths that apply one after the other, behind spots, lead from where the first begins

after_spot : (s : Start) (k : ℕ) (at : Spot) → is_after s ≡ true → spot_eq (start_spot (moved_start k s)) at ≡ true → After at ≡ moved_start k s
after_spot (Before node) k at h e = absurd (false≢true h)
after_spot (After there) k at h e = ap After (sym ((spot_eq-Decides (moved_spot k there) at).0 e))

next_begins : (q : ℕ × Rule) (paths : List (ℕ × Rule)) (next end : Config) → is_after q.1.start ≡ true → follow_all (q ∷ paths) next ≡ Some end → After next.spot ≡ moved_start q.0 q.1.start
next_begins q paths next end after ran =
    option_and_then_some (follow_all paths) (apply (moved q.0 q.1) next) end ran
    (λ d applied rest. after_spot q.1.start q.0 next.spot after (applied_by (moved q.0 q.1) next d applied).stands)

pub chain_leads : (files : List FileRules) (start : Start) (c end : Config) (paths : List (ℕ × Rule)) → AllByRecursion (IsStoredIn files) paths → BeginAt start paths → AreJoints paths
    → follow_all paths c ≡ Some end → PathsLead files start c paths end
chain_leads files start c end [] stored begins joints ran = absurd begins
chain_leads files start c end (p ∷ []) stored begins joints ran =
    option_and_then_some (follow_all []) (apply (moved p.0 p.1) c) end ran (λ next applied rest. (stored.0, sym begins, next, applied, same_Some next end rest))
chain_leads files start c end (p ∷ q ∷ paths) stored begins joints ran =
    option_and_then_some (follow_all (q ∷ paths)) (apply (moved p.0 p.1) c) end ran
    (λ next applied rest. (stored.0, sym begins, next, applied, chain_leads files (After next.spot) next end (q ∷ paths) stored.1 (next_begins q paths next end joints.0 rest) joints.1 rest))

pub leads_chain : (files : List FileRules) (start : Start) (c end : Config) (paths : List (ℕ × Rule)) → PathsLead files start c paths end → follow_all paths c ≡ Some end
leads_chain files start c end [] e = ap Some e
leads_chain files start c end (p ∷ paths) (stored, is, next, applied, others) =
    ap (option_and_then (follow_all paths)) applied ∙ leads_chain files (After next.spot) next end paths others

-- a rule that is kept stands for a back list

pub nil_is : {X : Type 0} (xs : List X) → is_none xs ≡ true → xs ≡ []
nil_is [] h = refl
nil_is (x ∷ xs) h = absurd (false≢true h)

pub is_nil : {X : Type 0} (xs : List X) → xs ≡ [] → is_none xs ≡ true
is_nil xs h = ap is_none h

-- what a rule that is kept is
pub record IsFit (files : List Graph) (j : Rule) : Type 0 where
  pub none : j.post.symbols ≡ []
  pub short : length j.edges ≤ most_edges
  pub low : j.peak ≤ most_depth
  pub asks : all_exported files j.pre ≡ true
  pub certain : is_certain j.end j.post.scopes.scopes ≡ true

pub fit : (files : List Graph) (j : Rule) → is_kept files j ≡ true → IsFit files j
fit files j h =
    let a = and_parts (is_none j.post.symbols) _ h in
    let b = and_parts (leb (length j.edges) most_edges) _ a.1 in
    let c = and_parts (leb j.peak most_depth) _ b.1 in
    let d = and_parts (all_exported files j.pre) (is_certain j.end j.post.scopes.scopes) c.1 in
    record { none = nil_is j.post.symbols a.0; short = leb-true (length j.edges) most_edges b.0; low = leb-true j.peak most_depth c.0; asks = d.0; certain = d.1 }

begins_some : (start : Start) (paths : List (ℕ × Rule)) → BeginAt start paths → paths ≢ []
begins_some start [] begins none = absurd begins
begins_some start (p ∷ paths) begins none = cc

-- it does on the least stacks that it can
pub stands_least : (files : List FileRules) (d : NodeAt) (paths : List (ℕ × Rule)) (j : Rule) → IsJoined files paths j → ((c next : Config) → apply j c ≡ Some next → next.spot ≡ spot.At d)
    → is_kept (graphs_of files) j ≡ true → (b : IsBackPath files d j.start paths) × (b.stacks ≡ least j.pre)
stands_least files d paths j joined lands kept =
    let f = fit (graphs_of files) j kept in
    let c = at_start j.start (least j.pre) in
    let (next, applied, none) = least_applies j f.none f.certain in
    let high : height j c ≡ heights c paths = joined.high c (ap is_some applied) in
    let same : length (map least_item j.pre.symbols) ≡ length j.pre.symbols = length-map j.pre.symbols least_item in
    let low : j.peak ≤ most_depth = f.low in
    let flat : height j c ≤ most_depth = omega (arith, same, low) in (
      record {
        nonempty = begins_some j.start paths joined.begins;
        short = subst (λ (es : List EdgeAt). length es ≤ most_edges) joined.edges f.short;
        stacks = least j.pre;
        exported = least_exported (graphs_of files) j.pre f.asks;
        end = next;
        leads = chain_leads files j.start c next paths joined.stored joined.begins joined.joints (sym (joined.applies c) ∙ applied);
        there = lands c next applied;
        resolved = none;
        shallow = subst (λ (n : ℕ). n ≤ most_depth) high flat;
      },
      refl,
    )

pub stands : (files : List FileRules) (d : NodeAt) (paths : List (ℕ × Rule)) (j : Rule) → IsJoined files paths j → ((c next : Config) → apply j c ≡ Some next → next.spot ≡ spot.At d)
    → is_kept (graphs_of files) j ≡ true → IsBackPath files d j.start paths
stands files d paths j joined lands kept = (stands_least files d paths j joined lands kept).0

-- a back list and its stored paths

pub leads_of : (files : List FileRules) (d : NodeAt) (start : Start) (paths : List (ℕ × Rule)) → All IsSourceFile files → (b : IsBackPath files d start paths)
    → LeadTo (graphs_of files) d start (path_edges paths) b.stacks
leads_of files d start paths sources b =
    let r = leading_paths_are_runs files start (at_start start b.stacks) b.end paths sources b.nonempty b.leads in
    record { end = b.end; runs = r.runs; there = b.there; resolved = b.resolved; shallow = subst (λ (n : ℕ). n ≤ most_depth) r.high b.shallow }

pub list_of : (files : List FileRules) (d : NodeAt) (start : Start) (paths : List (ℕ × Rule)) → All IsSourceFile files → IsBackPath files d start paths
    → IsBackList (graphs_of files) d (walk_of start (path_edges paths))
list_of files d start paths sources b =
    let r = leading_paths_are_runs files start (at_start start b.stacks) b.end paths sources b.nonempty b.leads in record {
      starts = r.starts;
      nonempty = r.nonempty;
      short = b.short;
      stacks = b.stacks;
      exported = b.exported;
      leads = leads_of files d start paths sources b;
    }

pub record HasPaths (files : List FileRules) (d : NodeAt) (list : Walk) (stacks : Stacks) : Type 0 where
  pub paths : List (ℕ × Rule)
  pub back : IsBackPath files d list.start paths
  pub same : back.stacks ≡ stacks
  pub edges : path_edges paths ≡ list.edges

pub paths_of : (files : List FileRules) (d : NodeAt) (list : Walk) → All IsSourceFile files → IsTrue (is_definition_of (graphs_of files) d.file d.node) → (b : IsBackList (graphs_of files) d list)
    → HasPaths files d list b.stacks
paths_of files d list sources at b =
    let c = at_start list.start b.stacks in
    let there : is_definition_spot (graphs_of files) b.leads.end.spot ≡ true = ap (is_definition_spot (graphs_of files)) b.leads.there ∙ at in
    let (paths, cut) = landing_runs_are_cut files list.start c b.leads.end list.edges sources b.starts b.exported b.nonempty b.leads.runs (inr there) in
    let r = leading_paths_are_runs files list.start c b.leads.end paths sources cut.nonempty cut.leads in record {
      paths = paths;
      back = record {
        nonempty = cut.nonempty;
        short = subst (λ (es : List EdgeAt). length es ≤ most_edges) (sym cut.edges) b.short;
        stacks = b.stacks;
        exported = b.exported;
        end = b.leads.end;
        leads = cut.leads;
        there = b.leads.there;
        resolved = b.leads.resolved;
        shallow = subst (λ (n : ℕ). n ≤ most_depth) (sym (r.high ∙ ap (λ (es : List EdgeAt). highest_from (graphs_of files) list.start es c) cut.edges)) b.leads.shallow;
      };
      same = refl;
      edges = cut.edges;
    }

-- a rule that does what the paths of a back list do is kept

fit_from : (files : List Graph) (j : Rule) → IsFit files j → is_kept files j ≡ true
fit_from files j f =
    and_from (is_none j.post.symbols) _ (is_nil j.post.symbols f.none)
    (and_from (leb (length j.edges) most_edges) _ (le-leb (length j.edges) most_edges f.short)
    (and_from (leb j.peak most_depth) _ (le-leb j.peak most_depth f.low)
    (and_from (all_exported files j.pre) (is_certain j.end j.post.scopes.scopes) f.asks f.certain)))

pub kept_of : (files : List FileRules) (d : NodeAt) (start : Start) (paths : List (ℕ × Rule)) (j : Rule) → IsTrue (is_definition_of (graphs_of files) d.file d.node)
    → IsJoined files paths j → IsBackPath files d start paths → is_kept (graphs_of files) j ≡ true
kept_of files d start paths j at joined b =
    let c = at_start start b.stacks in
    let applied : apply j c ≡ Some b.end = joined.applies c ∙ leads_chain files start c b.end paths b.leads in
    let none = none_made j c b.end applied b.resolved in
    let high : height j c ≡ heights c paths = joined.high c (ap is_some applied) in
    let flat : heights c paths ≤ most_depth = b.shallow in
    let peak : height j c ≡ j.peak = none.1 in
    let may = subst (λ (s : Spot). may_end_at (graphs_of files) s j ≡ true) b.there (ends_there (graphs_of files) j c b.end b.exported applied) in
    fit_from (graphs_of files) j record {
      none = none.0;
      short = subst (λ (es : List EdgeAt). length es ≤ most_edges) (sym joined.edges) b.short;
      low = omega (arith, high, flat, peak);
      asks = asks_there (graphs_of files) j c b.end b.exported applied;
      certain = certain_there (graphs_of files) d j.end j.post.scopes.scopes at may;
    }

-- a back list of one path, and one with a path more

pub first_may : (files : List FileRules) (d : NodeAt) (start : Start) (p : ℕ × Rule) → IsBackPath files d start (p ∷ [])
    → may_end_at (graphs_of files) (spot.At d) (moved p.0 p.1) ≡ true
first_may files d start p b =
    let (stored, is, next, applied, same) = b.leads in
    let there : next.spot ≡ spot.At d = ap (λ (c : Config). c.spot) same ∙ b.there in
    subst (λ (s : Spot). may_end_at (graphs_of files) s (moved p.0 p.1) ≡ true) there (ends_there (graphs_of files) (moved p.0 p.1) (at_start start b.stacks) next b.exported applied)

-- what stands behind the first path of a back list
pub record IsRest (files : List FileRules) (d : NodeAt) (p q : ℕ × Rule) (paths : List (ℕ × Rule)) : Type 0 where
  pub at : Spot
  pub begins : moved_start q.0 q.1.start ≡ After at
  pub back : IsBackPath files d (After at) (q ∷ paths)
  pub may : may_end_at (graphs_of files) at (moved p.0 p.1) ≡ true
  pub stored : IsStoredIn files p

pub rest_of : (files : List FileRules) (d : NodeAt) (start : Start) (p q : ℕ × Rule) (paths : List (ℕ × Rule)) → All IsSourceFile files → IsBackPath files d start (p ∷ q ∷ paths)
    → IsRest files d p q paths
rest_of files d start p q paths sources b =
    let (stored, is, next, applied, others) = b.leads in
    let c = at_start start b.stacks in
    let all : length (edges_in p ++ path_edges (q ∷ paths)) ≤ most_edges = b.short in
    let sum : length (edges_in p ++ path_edges (q ∷ paths)) ≡ length (edges_in p) + length (path_edges (q ∷ paths)) = length-append (edges_in p) (path_edges (q ∷ paths)) in
    let high : heights c (p ∷ q ∷ paths) ≡ max (height (moved p.0 p.1) c) (heights next (q ∷ paths))
    = ap (λ (o : Option Config). max (height (moved p.0 p.1) c) (option_map_or (λ (x : Config). heights x (q ∷ paths)) o 0)) applied in
    let flat : heights c (p ∷ q ∷ paths) ≤ most_depth = b.shallow in record {
      at = next.spot;
      begins = others.1;
      back = record {
        nonempty = λ h. cc;
        short = omega (arith, all, sum);
        stacks = next.stacks;
        exported = exported_scopes_stay files start c next (p ∷ []) sources (stored, is, next, applied, refl) b.exported;
        end = b.end;
        leads = others;
        there = b.there;
        resolved = b.resolved;
        shallow = omega (arith, high, flat);
      };
      may = ends_there (graphs_of files) (moved p.0 p.1) c next b.exported applied;
      stored = stored;
    }

-- a moved path, as the rule of itself

itself : (o : Option Config) → o ≡ option_and_then (follow_all []) o
itself None = refl
itself (Some c) = refl

as_high : (h : ℕ) (o : Option Config) → ((next : Config) → o ≡ Some next → length next.stacks.symbols ≤ h) → h ≡ max h (option_map_or (λ (next : Config). heights next []) o 0)
as_high h None low = omega arith
as_high h (Some next) low = let n : length next.stacks.symbols ≤ h = low next refl in omega (arith, n)

pub one_joined : (files : List FileRules) (p : ℕ × Rule) → IsStoredIn files p → IsRule (moved p.0 p.1) → IsJoined files (p ∷ []) (moved p.0 p.1)
one_joined files p stored rule = record {
  stored = (stored, tt);
  begins = refl;
  joints = tt;
  edges = sym (append-nil (edges_in p));
  applies = λ c. itself (apply (moved p.0 p.1) c);
  high = λ c some. as_high (height (moved p.0 p.1) c) (apply (moved p.0 p.1) c) (λ next h. end_low (moved p.0 p.1) c next rule h);
  rule = rule;
}
