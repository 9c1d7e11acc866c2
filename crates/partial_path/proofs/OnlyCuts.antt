-- A run is cut into stored paths in one way alone.
use Rattle.std.proofs.Common.{◌≡◌, ◌≢◌, refl, sym, ap, ◌∙◌, subst, ℕ, ◌+◌, List, [], ◌∷◌, ◌++◌, map, arith, append_assoc, append-nil, ◌⊎◌, inl, inr}
use Rattle.std.specs.Prelude.{slice_get, All, Contains}
use Rattle.std.specs.List.{AllByRecursion}
use Rattle.std.proofs.lemmas.Bool.{both_ways}
use Rattle.std.proofs.lemmas.Option.{same_Some}
use Rattle.std.proofs.lemmas.List.Elements.{recursion_from_All}
use Rattle.graph_nodes.specs.Graph.{Graph}
use Rattle.partial_path.specs.declared.config.Config.{Config}
use Rattle.partial_path.specs.declared.config.EdgeAt.{EdgeAt}
use Rattle.partial_path.specs.declared.rule.Start.{Start}
use Rattle.partial_path.specs.declared.rule.Start.TheVariants.{Before, After}
use Rattle.stacks_vars.specs.Enter.{no_stacks}
use Rattle.partial_path.specs.Spots.{at_node}
use Rattle.partial_path.specs.Step.{is_cut_edge}
use Rattle.partial_path.specs.Runs.{IsClosed}
use Rattle.partial_path.specs.Rules.{Rule}
use Rattle.partial_path.specs.Apply.{apply}
use Rattle.partial_path.specs.Walks.{IsUncut}
use Rattle.partial_path.specs.Moved.{moved_edge, moved_start, moved}
use Rattle.partial_path.specs.FileNumbers.{EdgeIn}
use Rattle.partial_path.specs.Inside.{start_inside}
use Rattle.partial_path.specs.PathSets.{FileRules, walk_of_rule}
use Rattle.partial_path.specs.Sources.{IsSourceFile, graphs_of}
use Rattle.partial_path.specs.Cutting.{IsStoredIn, edges_in, path_edges, PathsLead}
use Rattle.partial_path.specs.Laws.{CutsAreUnique, BeginningsAreCut}
use Rattle.list_facts.proofs.Members.{IsIn-from_Contains}
use Rattle.list_facts.proofs.Apart.{same_image}
use Rattle.partial_path.proofs.Swaps.{IsZero}
use Rattle.partial_path.proofs.MovedWalks.{edge_inside, edges_back, start_back, uncut_moved, inner_uncut}
use Rattle.partial_path.proofs.Joints.{graph_there, source_there, stored_lands, joints_are_cut, edges_some}

-- lists

abbrev first_or : {X : Type 0} → X → List X → X
first_or x [] = x
first_or x (y ∷ ys) = y

abbrev rest : {X : Type 0} → List X → List X
rest [] = []
rest (y ∷ ys) = ys

-- one list goes on where the other ends, and so does what stands behind that
abbrev pub GoesOn : {X : Type 0} → List X → List X → List X → List X → Type 0
GoesOn {X} xs ys more others = (z : X) × (zs : List X) × (ys ≡ xs ++ z ∷ zs) × (more ≡ z ∷ zs ++ others)

-- two lists that begin one list are equal, or one goes on where the other ends
abbrev pub AreSplit : {X : Type 0} → List X → List X → List X → List X → Type 0
AreSplit xs ys more others = ((xs ≡ ys) × (more ≡ others)) ⊎ (GoesOn xs ys more others ⊎ GoesOn ys xs others more)

split_more : {X : Type 0} (x y : X) (xs ys more others : List X) → x ≡ y → AreSplit xs ys more others → AreSplit (x ∷ xs) (y ∷ ys) more others
split_more x y xs ys more others e (inl h) = inl (λ i. e i ∷ h.0 i, h.1)
split_more {X} x y xs ys more others e (inr (inl (z, zs, h, k))) = inr (inl (z, zs, (λ i. sym e i ∷ h i), k))
split_more {X} x y xs ys more others e (inr (inr (z, zs, h, k))) = inr (inr (z, zs, (λ i. e i ∷ h i), k))

pub split : {X : Type 0} (xs ys more others : List X) → xs ++ more ≡ ys ++ others → AreSplit xs ys more others
split [] [] more others h = inl (refl, h)
split [] (y ∷ ys) more others h = inr (inl (y, ys, refl, h))
split (x ∷ xs) [] more others h = inr (inr (x, xs, refl, sym h))
split (x ∷ xs) (y ∷ ys) more others h = split_more x y xs ys more others (ap (first_or x) h) (split xs ys more others (ap rest h))

-- two stored paths that begin at one start

-- whose edges begin the same list are of one file
pub same_file : (k m : ℕ) (xs ys more others : List EdgeAt) → AllByRecursion (EdgeIn IsZero) xs → AllByRecursion (EdgeIn IsZero) ys → xs ≢ [] → ys ≢ []
    → map (moved_edge k) xs ++ more ≡ map (moved_edge m) ys ++ others → k ≡ m
same_file k m [] ys more others zx zy sx sy h = absurd (sx refl)
same_file k m (x ∷ xs) [] more others zx zy sx sy h = absurd (sy refl)
same_file k m (x ∷ xs) (y ∷ ys) more others zx zy sx sy h =
    let first : k + x.file ≡ m + y.file = ap (λ es. (first_or x es).file) h in
    omega (arith, first, zx.0, zy.0)

pub zeros_of : (files : List FileRules) (p : ℕ × Rule) → All IsSourceFile files → IsStoredIn files p → AllByRecursion (EdgeIn IsZero) p.1.edges
zeros_of files p sources stored = recursion_from_All (EdgeIn IsZero) p.1.edges (stored_lands files p sources stored).exact.files.edges

-- with the same edges are one path
pub same_path : (files : List FileRules) (s : Start) (p q : ℕ × Rule) → All IsSourceFile files → IsStoredIn files p → IsStoredIn files q
    → moved_start p.0 p.1.start ≡ s → moved_start q.0 q.1.start ≡ s → p.0 ≡ q.0 → edges_in p ≡ edges_in q → p ≡ q
same_path files s p q sources ps qs is_p is_q file edges =
    let f : FileRules = ps.0 in
    let same : qs.0 ≡ f = same_Some qs.0 f (sym qs.1 ∙ ap (slice_get files) (sym file) ∙ ps.1) in
    let there : Contains f.rules q.1 = subst (λ (h : FileRules). Contains h.rules q.1) same qs.2 in
    let starts : p.1.start ≡ q.1.start =
    sym (start_back p.0 p.1.start (stored_lands files p sources ps).exact.files.start) ∙ ap start_inside (is_p ∙ sym is_q)
    ∙ start_back q.0 q.1.start (stored_lands files q sources qs).exact.files.start in
    let walked : p.1.edges ≡ q.1.edges =
    sym (edges_back p.0 p.1.edges (zeros_of files p sources ps)) ∙ ap (map edge_inside) edges ∙ edges_back q.0 q.1.edges (zeros_of files q sources qs) in
    let rules : p.1 ≡ q.1 =
    same_image walk_of_rule f.rules p.1 q.1 (source_there files p.0 f sources ps.1).sets.rules.once
    (IsIn-from_Contains f.rules p.1 ps.2) (IsIn-from_Contains f.rules q.1 there) (λ i. record { start = starts i; edges = walked i }) in
    λ i. (file i, rules i)

-- the edges of a path that applies, with a path behind it, are not the first edges of a longer one
pub no_longer : (files : List FileRules) (s : Start) (c end : Config) (p q : ℕ × Rule) (paths : List (ℕ × Rule)) (others : List EdgeAt) → All IsSourceFile files
    → PathsLead files s c (p ∷ paths) end → IsStoredIn files q → GoesOn (edges_in p) (edges_in q) (path_edges paths) others → ⊥
no_longer files s c end p q [] others sources leads stored (z, zs, h, k) = cc
no_longer files s c end p q (next ∷ paths) others sources leads stored (z, zs, h, k) =
    let g = graphs_of files in
    let (front, last, is, cut) = joints_are_cut files s c end p next paths sources leads in
    let uncut = uncut_moved g q.0 (stored.0).graph q.1.edges (graph_there files q.0 stored.0 stored.1) (zeros_of files q sources stored) (stored_lands files q sources stored).lands.walk.uncut in
    both_ways (is_cut_edge g last) (inner_uncut g front last z zs (subst (IsUncut g) (h ∙ ap (λ (es : List EdgeAt). es ++ z ∷ zs) is) uncut)) cut

-- two lists of such paths with the same edges are the same
one_cut : (files : List FileRules) (s : Start) (c end other : Config) (paths more : List (ℕ × Rule)) → All IsSourceFile files
    → PathsLead files s c paths end → PathsLead files s c more other → path_edges paths ≡ path_edges more → paths ≡ more
one_cut files s c end other [] [] sources h k e = refl
one_cut files s c end other [] (q ∷ more) sources h k e = absurd (edges_some files q (path_edges more) sources k.0 (sym e))
one_cut files s c end other (p ∷ paths) [] sources h k e = absurd (edges_some files p (path_edges paths) sources h.0 e)
one_cut files s c end other (p ∷ paths) (q ∷ more) sources (ps, is_p, next, applied, h) (qs, is_q, after, applied_q, k) e =
    by (split (edges_in p) (edges_in q) (path_edges paths) (path_edges more) e) (λ same next_more. one_cut files (After next.spot) next end other paths more sources h next_more same)
  where
    by : AreSplit (edges_in p) (edges_in q) (path_edges paths) (path_edges more)
        → (path_edges paths ≡ path_edges more → PathsLead files (After next.spot) next more other → paths ≡ more) → p ∷ paths ≡ q ∷ more
    by (inl both) on =
        let file = same_file p.0 q.0 p.1.edges q.1.edges (path_edges paths) (path_edges more) (zeros_of files p sources ps) (zeros_of files q sources qs)
        (stored_lands files p sources ps).lands.walk.nonempty (stored_lands files q sources qs).lands.walk.nonempty e in
        let path = same_path files s p q sources ps qs is_p is_q file both.0 in
        let landed : after ≡ next = same_Some after next (sym applied_q ∙ ap (λ (x : ℕ × Rule). apply (moved x.0 x.1) c) (sym path) ∙ applied) in
        let others = on both.1 (subst (λ (d : Config). PathsLead files (After d.spot) d more other) landed k) in
        λ i. path i ∷ others i
    by (inr (inl longer)) on = absurd (no_longer files s c end p q paths (path_edges more) sources (ps, is_p, next, applied, h) qs longer)
    by (inr (inr longer)) on = absurd (no_longer files s c other q p more (path_edges paths) sources (qs, is_q, after, applied_q, k) ps longer)

pub cuts_are_unique : CutsAreUnique
cuts_are_unique files r end other paths more sources h k e = one_cut files (Before r) (at_node r no_stacks) end other paths more sources h k e

-- what begins such a list

first_paths : (files : List FileRules) (s : Start) (c end : Config) (before after : List (ℕ × Rule)) → PathsLead files s c (before ++ after) end
    → (middle : Config) × PathsLead files s c before middle
first_paths files s c end [] after h = (c, refl)
first_paths files s c end (p ∷ before) after (stored, is, next, applied, others) =
    let rest = first_paths files (After next.spot) next end before after others in (rest.0, (stored, is, next, applied, rest.1))

closed_behind : (g : List Graph) (xs ys : List EdgeAt) → IsClosed g ys → IsClosed g (xs ++ ys)
closed_behind g xs ys (front, last, is, cut) = (xs ++ front, last, ap (λ (zs : List EdgeAt). xs ++ zs) is ∙ sym (append_assoc xs front (last ∷ [])), cut)

first_closed : (files : List FileRules) (s : Start) (c end : Config) (before : List (ℕ × Rule)) (q : ℕ × Rule) (after : List (ℕ × Rule)) → All IsSourceFile files → before ≢ []
    → PathsLead files s c (before ++ q ∷ after) end → IsClosed (graphs_of files) (path_edges before)
first_closed files s c end [] q after sources some h = absurd (some refl)
first_closed files s c end (p ∷ []) q after sources some h =
    subst (IsClosed (graphs_of files)) (sym (append-nil (edges_in p))) (joints_are_cut files s c end p q after sources h)
first_closed files s c end (p ∷ x ∷ before) q after sources some (stored, is, next, applied, others) =
    closed_behind (graphs_of files) (edges_in p) (path_edges (x ∷ before))
    (first_closed files (After next.spot) next end (x ∷ before) q after sources (λ e. cc) others)

pub beginnings_are_cut : BeginningsAreCut
beginnings_are_cut files r end before q after sources some h =
    let first = first_paths files (Before r) (at_node r no_stacks) end before (q ∷ after) h in
    record { leads = (first.0, first.1); closed = first_closed files (Before r) (at_node r no_stacks) end before q after sources some h }
