-- A stored path joined in front of a rule that is kept.
use Rattle.std.proofs.Common.{◌≡◌, ◌<◌, ◌≤◌, refl, sym, ap, ◌∙◌, subst, ℕ, ◌+◌, max, List, [], ◌∷◌, ◌++◌, length, true, false, Option, Some, None, arith, length-append, ◌⊎◌, inl, inr}
use Rattle.std.specs.Prelude.{IsTrue, All, ◌^◌}
use Rattle.std.specs.Option.{IfSome, option_and_then, option_map_or, is_some}
use Rattle.std.proofs.lemmas.Bool.{both_ways}
use Rattle.std.proofs.lemmas.Option.{none-some, option_and_then_some}
use Rattle.std.proofs.lemmas.List.{length-map}
use Rattle.graph_nodes.specs.Whole.{is_definition_of}
use Rattle.stacks_vars.specs.declared.scopes.NodeAt.{NodeAt}
use Rattle.partial_path.specs.declared.config.Config.{Config}
use Rattle.partial_path.specs.declared.config.Spot.{Spot}
use Rattle.partial_path.specs.declared.config.Spot.TheVariants.{At}
use Rattle.partial_path.specs.declared.config.EdgeAt.{EdgeAt}
use Rattle.partial_path.specs.declared.rule.Start.{Start}
use Rattle.partial_path.specs.declared.rule.Start.TheVariants.{Before, After}
use Rattle.partial_path.specs.Rules.{Rule, IsRule}
use Rattle.partial_path.specs.Apply.{apply, height}
use Rattle.partial_path.specs.FileNumbers.{CanMove, FileZeroMoves}
use Rattle.partial_path.specs.Moved.{moved, moved_start, moved_edge, moved_symbol_out}
use Rattle.partial_path.specs.PathSets.{FileRules}
use Rattle.partial_path.specs.Sources.{IsSourceFile, graphs_of}
use Rattle.partial_path.specs.Cutting.{IsStoredIn, edges_in, path_edges, heights}
use Rattle.partial_path.proofs.Joints.{stored_lands}
use Rattle.path_join.specs.Joins.{IsJoin, NonePasses, joined_peak}
use Rattle.back_stitch.specs.Lists.{most_edges, most_depth, at_start}
use Rattle.back_stitch.specs.Sources.{may_end_at}
use Rattle.back_stitch.specs.Joined.{follow_all, is_after, AreJoints, BeginAt, IsJoined, is_kept}
use Rattle.back_stitch.specs.Held.{IsBack, IsHeld, IsOutcome, IsBehind, IsOpen}
use Rattle.back_stitch.proofs.Applied.{peak_low, lands_there}
use Rattle.back_stitch.proofs.Stood.{leads_chain, kept_of, one_joined}

-- the joints of the longer list

moved_after : (k : ℕ) (s : Start) → is_after (moved_start k s) ≡ is_after s
moved_after k (Before node) = refl
moved_after k (After at) = refl

more_joints : (start : Start) (p : ℕ × Rule) (paths : List (ℕ × Rule)) → BeginAt start paths → is_after start ≡ true → AreJoints paths → AreJoints (p ∷ paths)
more_joints start p [] begins after joints = tt
more_joints start p (q ∷ paths) begins after joints = (sym (moved_after q.0 q.1.start) ∙ sym (ap is_after begins) ∙ after, joints)

same_then : (f g : Config → Option Config) → ((c : Config) → f c ≡ g c) → (o : Option Config) → option_and_then f o ≡ option_and_then g o
same_then f g same None = refl
same_then f g same (Some c) = same c

-- what both do
both_some : (f : Config → Option Config) (o : Option Config) → is_some (option_and_then f o) ≡ true → (d : Config) × (o ≡ Some d) × (is_some (f d) ≡ true)
both_some f None h = absurd (no_some h)
  where
    no_some : is_some (option_and_then f None) ≡ true → ⊥
    no_some k = both_ways false refl k
both_some f (Some d) h = (d, refl, h)

pub joined_more : (files : List FileRules) (p : ℕ × Rule) (paths : List (ℕ × Rule)) (j k : Rule) → IsJoined files paths j → IsStoredIn files p → is_after j.start ≡ true
    → IsJoin (moved p.0 p.1) j k → IsRule k → IsJoined files (p ∷ paths) k
joined_more files p paths j k joined stored after join rule = record {
  stored = (stored, joined.stored);
  begins = join.start;
  joints = more_joints j.start p paths joined.begins after joined.joints;
  edges = join.edges ∙ ap (λ (es : List EdgeAt). edges_in p ++ es) joined.edges;
  applies = λ c. join.applies c ∙ same_then (apply j) (follow_all paths) joined.applies (apply (moved p.0 p.1) c);
  high = λ c some.
      let (d, applied, rest) = both_some (apply j) (apply (moved p.0 p.1) c) (sym (ap is_some (join.applies c)) ∙ some) in
      join.high c d applied rest ∙ ap (λ (n : ℕ). max (height (moved p.0 p.1) c) n) (joined.high d rest)
      ∙ sym (ap (λ (o : Option Config). max (height (moved p.0 p.1) c) (option_map_or (λ (x : Config). heights x paths) o 0)) applied);
  rule = rule;
}

-- the join is kept, or the paths are no back list

pub held_more : (files : List FileRules) (d : NodeAt) (p : ℕ × Rule) (paths : List (ℕ × Rule)) (j k : Rule) → IsHeld files d paths j → IsStoredIn files p → is_after j.start ≡ true
    → IsJoin (moved p.0 p.1) j k → IsRule k → is_kept (graphs_of files) k ≡ true → IsHeld files d (p ∷ paths) k
held_more files d p paths j k held stored after join rule kept = record {
  joined = joined_more files p paths j k held.joined stored after join rule;
  lands = λ c next applied.
      option_and_then_some (apply j) (apply (moved p.0 p.1) c) next (sym (join.applies c) ∙ applied) (λ x first rest. held.lands x next rest);
  kept = kept;
}

pub not_kept : (files : List FileRules) (d : NodeAt) (p : ℕ × Rule) (paths : List (ℕ × Rule)) (j k : Rule) → IsTrue (is_definition_of (graphs_of files) d.file d.node)
    → IsHeld files d paths j → IsStoredIn files p → is_after j.start ≡ true → IsJoin (moved p.0 p.1) j k → IsRule k → is_kept (graphs_of files) k ≡ false → IsBack files d (p ∷ paths) → ⊥
not_kept files d p paths j k at held stored after join rule unkept (start, back) =
    both_ways (is_kept (graphs_of files) k) unkept
    (kept_of files d start (p ∷ paths) k at (joined_more files p paths j k held.joined stored after join rule) back)

pub none_back : (files : List FileRules) (d : NodeAt) (p : ℕ × Rule) (paths : List (ℕ × Rule)) (j : Rule) → IsHeld files d paths j → NonePasses (moved p.0 p.1) j → IsBack files d (p ∷ paths) → ⊥
none_back files d p paths j held none (start, back) =
    let c = at_start start back.stacks in
    none-some back.end
    (sym (none c) ∙ same_then (apply j) (follow_all paths) held.joined.applies (apply (moved p.0 p.1) c) ∙ leads_chain files start c back.end (p ∷ paths) back.leads)

pub too_long : (files : List FileRules) (d : NodeAt) (p : ℕ × Rule) (paths : List (ℕ × Rule)) (j : Rule) → IsHeld files d paths j → most_edges < length p.1.edges + length j.edges
    → IsBack files d (p ∷ paths) → ⊥
too_long files d p paths j held long (start, back) =
    let short : length (edges_in p ++ path_edges paths) ≤ most_edges = back.short in
    let sum : length (edges_in p ++ path_edges paths) ≡ length (edges_in p) + length (path_edges paths) = length-append (edges_in p) (path_edges paths) in
    let one : length (edges_in p) ≡ length p.1.edges = length-map p.1.edges (moved_edge p.0) in
    let two : length j.edges ≡ length (path_edges paths) = ap length held.joined.edges in
    omega (arith, long, short, sum, one, two)

pub too_high : (files : List FileRules) (d : NodeAt) (p : ℕ × Rule) (paths : List (ℕ × Rule)) → most_depth < p.1.peak → IsBack files d (p ∷ paths) → ⊥
too_high files d p paths high (start, back) =
    let (stored, is, next, applied, others) = back.leads in
    let c = at_start start back.stacks in
    let low : p.1.peak ≤ height (moved p.0 p.1) c = peak_low (moved p.0 p.1) c next applied in
    let flat : max (height (moved p.0 p.1) c) (option_map_or (λ (x : Config). heights x paths) (apply (moved p.0 p.1) c) 0) ≤ most_depth = back.shallow in
    omega (arith, high, low, flat)

-- a path that may end at the definition

pub held_first : (files : List FileRules) (d : NodeAt) (p : ℕ × Rule) → IsTrue (is_definition_of (graphs_of files) d.file d.node) → IsStoredIn files p → IsRule (moved p.0 p.1)
    → may_end_at (graphs_of files) (At d) (moved p.0 p.1) ≡ true → is_kept (graphs_of files) (moved p.0 p.1) ≡ true → IsHeld files d (p ∷ []) (moved p.0 p.1)
held_first files d p at stored rule may kept = record {
  joined = one_joined files p stored rule;
  lands = λ c next applied. lands_there (graphs_of files) d (moved p.0 p.1) c next at may applied;
  kept = kept;
}

pub first_unkept : (files : List FileRules) (d : NodeAt) (p : ℕ × Rule) → IsTrue (is_definition_of (graphs_of files) d.file d.node) → IsStoredIn files p → IsRule (moved p.0 p.1)
    → is_kept (graphs_of files) (moved p.0 p.1) ≡ false → IsBack files d (p ∷ []) → ⊥
first_unkept files d p at stored rule unkept (start, back) =
    both_ways (is_kept (graphs_of files) (moved p.0 p.1)) unkept (kept_of files d start (p ∷ []) (moved p.0 p.1) at (one_joined files p stored rule) back)

-- what the calls ask for

pub stored_moves : FileZeroMoves → (files : List FileRules) (file : ℕ) (rule : Rule) → All IsSourceFile files → IsStoredIn files (file, rule) → file < 2 ^ 32 → CanMove file rule
stored_moves moves files file rule sources stored lt = (moves file rule lt (stored_lands files (file, rule) sources stored).exact.files).0

pub small_edges : (k : ℕ) (p j m : Rule) → m ≡ moved k p → length p.edges + length j.edges ≤ most_edges → length m.edges + length j.edges < 2 ^ 32
small_edges k p j m is few =
    let n : length (moved k p).edges ≡ length p.edges = length-map p.edges (moved_edge k) in
    let e : length m.edges ≡ length (moved k p).edges = ap (λ (r : Rule). length r.edges) is in
    let low : length p.edges + length j.edges ≤ 128 = few in omega (arith, n, e, low)

pub small_peak : (k : ℕ) (p j m : Rule) → m ≡ moved k p → IsRule p → IsRule j → p.peak ≤ most_depth → j.peak ≤ most_depth → joined_peak m j < 2 ^ 32
small_peak k p j m is first second low flat =
    let e : m.peak ≡ p.peak = ap (λ (r : Rule). r.peak) is in
    let a : length m.post.symbols ≡ length p.post.symbols = ap (λ (r : Rule). length r.post.symbols) is ∙ length-map p.post.symbols (moved_symbol_out k) in
    let reach : max (length p.pre.symbols) (length p.post.symbols) ≤ p.peak = first.peak in
    let other : max (length j.pre.symbols) (length j.post.symbols) ≤ j.peak = second.peak in
    let one : p.peak ≤ 48 = low in
    let two : j.peak ≤ 48 = flat in
    omega (arith, e, a, reach, other, one, two)

-- what comes of a path in front of one that is known

pub past_back : (files : List FileRules) (d : NodeAt) (p : ℕ × Rule) (paths : List (ℕ × Rule)) (j : Rule) → IsHeld files d paths j
    → (most_edges < length p.1.edges + length j.edges) ⊎ (most_depth < p.1.peak) → IsBack files d (p ∷ paths) → ⊥
past_back files d p paths j held (inl long) back = too_long files d p paths j held long back
past_back files d p paths j held (inr high) back = too_high files d p paths high back

pub none_joined : (files : List FileRules) (d : NodeAt) (p : ℕ × Rule) (paths : List (ℕ × Rule)) (j m : Rule) → m ≡ moved p.0 p.1 → IsHeld files d paths j → NonePasses m j
    → IsBack files d (p ∷ paths) → ⊥
none_joined files d p paths j m is held none = none_back files d p paths j held (subst (λ (r : Rule). NonePasses r j) is none)

pub joined_held : (files : List FileRules) (d : NodeAt) (p : ℕ × Rule) (paths : List (ℕ × Rule)) (j m k : Rule) → m ≡ moved p.0 p.1 → IsHeld files d paths j → IsStoredIn files p
    → is_after j.start ≡ true → IsJoin m j k → IsRule k → is_kept (graphs_of files) k ≡ true → IsHeld files d (p ∷ paths) k
joined_held files d p paths j m k is held stored after join rule kept =
    held_more files d p paths j k held stored after (subst (λ (r : Rule). IsJoin r j k) is join) rule kept

pub joined_unkept : (files : List FileRules) (d : NodeAt) (p : ℕ × Rule) (paths : List (ℕ × Rule)) (j m k : Rule) → IsTrue (is_definition_of (graphs_of files) d.file d.node) → m ≡ moved p.0 p.1
    → IsHeld files d paths j → IsStoredIn files p → is_after j.start ≡ true → IsJoin m j k → IsRule k → is_kept (graphs_of files) k ≡ false → IsBack files d (p ∷ paths) → ⊥
joined_unkept files d p paths j m k at is held stored after join rule unkept =
    not_kept files d p paths j k at held stored after (subst (λ (r : Rule). IsJoin r j k) is join) rule unkept

pub moved_held : (files : List FileRules) (d : NodeAt) (p : ℕ × Rule) (m : Rule) → IsTrue (is_definition_of (graphs_of files) d.file d.node) → IsStoredIn files p → m ≡ moved p.0 p.1
    → IsRule m → may_end_at (graphs_of files) (At d) (moved p.0 p.1) ≡ true → is_kept (graphs_of files) m ≡ true → IsHeld files d (p ∷ []) m
moved_held files d p m at stored is rule may kept =
    subst (λ (r : Rule). IsHeld files d (p ∷ []) r) (sym is)
    (held_first files d p at stored (subst IsRule is rule) may (subst (λ (r : Rule). is_kept (graphs_of files) r ≡ true) is kept))

pub moved_unkept : (files : List FileRules) (d : NodeAt) (p : ℕ × Rule) (m : Rule) → IsTrue (is_definition_of (graphs_of files) d.file d.node) → IsStoredIn files p → m ≡ moved p.0 p.1
    → IsRule m → is_kept (graphs_of files) m ≡ false → IsBack files d (p ∷ []) → ⊥
moved_unkept files d p m at stored is rule unkept =
    first_unkept files d p at stored (subst IsRule is rule) (subst (λ (r : Rule). is_kept (graphs_of files) r ≡ false) is unkept)

-- behind what is known, or behind nothing

pub opened : (o : Option Rule) (j : Rule) → o ≡ Some j → IfSome o IsOpen → IsOpen j
opened o j is h = subst (λ (x : Option Rule). IfSome x IsOpen) is h

pub outcome_behind : (files : List FileRules) (p : ℕ × Rule) (o : Option Rule) (j : Rule) (found : Option Rule) → o ≡ Some j
    → ((d : NodeAt) (paths : List (ℕ × Rule)) → IsTrue (is_definition_of (graphs_of files) d.file d.node) → IsHeld files d paths j → IsOutcome files d (p ∷ paths) found)
    → (d : NodeAt) (paths : List (ℕ × Rule)) (at : Spot) → IsTrue (is_definition_of (graphs_of files) d.file d.node) → IsBehind files d paths at o
    → may_end_at (graphs_of files) at (moved p.0 p.1) ≡ true → IsOutcome files d (p ∷ paths) found
outcome_behind files p o j found is h d paths at there behind may =
    h d paths there (subst (λ (x : Option Rule). IsBehind files d paths at x) is behind).0

pub outcome_first : (files : List FileRules) (p : ℕ × Rule) (o found : Option Rule) → o ≡ None
    → ((d : NodeAt) → IsTrue (is_definition_of (graphs_of files) d.file d.node) → may_end_at (graphs_of files) (At d) (moved p.0 p.1) ≡ true → IsOutcome files d (p ∷ []) found)
    → (d : NodeAt) (paths : List (ℕ × Rule)) (at : Spot) → IsTrue (is_definition_of (graphs_of files) d.file d.node) → IsBehind files d paths at o
    → may_end_at (graphs_of files) at (moved p.0 p.1) ≡ true → IsOutcome files d (p ∷ paths) found
outcome_first files p o found is h d paths at there behind may =
    let both : (paths ≡ []) × (at ≡ At d) = subst (λ (x : Option Rule). IsBehind files d paths at x) is behind in
    subst (λ (ps : List (ℕ × Rule)). IsOutcome files d (p ∷ ps) found) (sym both.0)
    (h d there (subst (λ (s : Spot). may_end_at (graphs_of files) s (moved p.0 p.1) ≡ true) both.1 may))
