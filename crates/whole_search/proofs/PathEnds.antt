-- At which nodes the paths of runs end.
use Rattle.std.proofs.Common.{Bool, ◌≡◌, ℕ, List, [], ◌∷◌, ◌++◌, map, Option, Some, None, eqb, eqb-true, eq-eqb, IsTrue, IsSomeAnd, Contains, ◌↔◌, inl, inr, sym, refl, ap, ◌∙◌, subst, take, get_or, ◌+◌, ◌<◌, length, not}
use Rattle.std.specs.Option.{option_and_then, option_to_list}
use Rattle.std.specs.List.{filter, filter_map, cons_option}
use Rattle.std.proofs.lemmas.Bool.{false≢true, and_parts, and_from}
use Rattle.std.proofs.lemmas.List.{take_more}
use Rattle.std.proofs.lemmas.List.Elements.{filter_map-append}
use Rattle.std.proofs.lemmas.Option.{none-some, same_Some}
use Rattle.graph_nodes.specs.Graph.{Graph}
use Rattle.partial_path.specs.declared.config.Spot.{Spot}
use Rattle.partial_path.specs.declared.config.Spot.TheVariants.{Root, At}
use Rattle.partial_path.specs.declared.config.Config.{Config}
use Rattle.partial_path.specs.declared.config.EdgeAt.{EdgeAt}
use Rattle.partial_path.specs.declared.bounds.Bounds.{Bounds}
use Rattle.partial_path.specs.Spots.{is_node}
use Rattle.partial_path.specs.Runs.{run}
use Rattle.shadowing.specs.declared.paths.EdgeStep.{EdgeStep}
use Rattle.shadowing.specs.Shadow.{is_shadowed, unshadowed}
use Rattle.whole_search.specs.declared.found.Hit.{Hit}
use Rattle.whole_search.specs.Answers.{path_of, IsRising, AreDefinitions}
use Rattle.whole_search.specs.Ends.{hit_at, edges_of, path_end, path_ends}
use Rattle.whole_search.specs.Walk.{met_runs, is_bounded_complete, IsLive}
use Rattle.list_facts.specs.Members.{IsIn}
use Rattle.list_facts.proofs.Members.{IsIn-filter_from, IsIn-map_from, IsIn-from_Contains, Contains-from_IsIn}
use Rattle.whole_search.proofs.MetComplete.{EndsKept, rows}

-- the node at which one more path ends comes after the others
one_end : (o : Option Hit) → cons_option o [] ≡ option_to_list o
one_end None = refl
one_end (Some hit) = refl

pub path_ends-more : (files : List Graph) (c : Config) (paths : List (List EdgeStep)) (i : ℕ) (d : List EdgeStep) → i < length paths → path_ends files c (take (i + 1) paths) ≡ path_ends files c (take i paths) ++ option_to_list (path_end files c (get_or paths i d))
path_ends-more files c paths i d lt =
    ap (path_ends files c) (take_more paths i d lt)
    ∙ (filter_map-append (path_end files c) (take i paths) (get_or paths i d ∷ [])
    ∙ ap (λ xs. path_ends files c (take i paths) ++ xs) (one_end (path_end files c (get_or paths i d))))

in_front : {X Y : Type 0} (h : X → Option Y) (o : Option Y) (x : X) (xs : List X) (y : Y) → h x ≡ o → IsIn y (cons_option o (filter_map h xs)) → (IsIn y (filter_map h xs) → (z : X) × IsIn z xs × (h z ≡ Some y)) → (z : X) × IsIn z (x ∷ xs) × (h z ≡ Some y)
in_front h None x xs y is m more = let r = more m in (r.0, inr r.1, r.2)
in_front h (Some w) x xs y is (inl e) more = (x, inl refl, is ∙ ap (λ v. Some v) (sym e))
in_front h (Some w) x xs y is (inr m) more = let r = more m in (r.0, inr r.1, r.2)

IsIn-filter_map_from : {X Y : Type 0} (h : X → Option Y) (xs : List X) (y : Y) → IsIn y (filter_map h xs) → (z : X) × IsIn z xs × (h z ≡ Some y)
IsIn-filter_map_from h [] y m = absurd m
IsIn-filter_map_from h (x ∷ xs) y m = in_front h (h x) x xs y refl m (IsIn-filter_map_from h xs y)

behind : {Y : Type 0} (o : Option Y) (y : Y) (ys : List Y) → IsIn y ys → IsIn y (cons_option o ys)
behind None y ys m = m
behind (Some w) y ys m = inr m

IsIn-filter_map : {X Y : Type 0} (h : X → Option Y) (xs : List X) (x : X) (y : Y) → IsIn x xs → h x ≡ Some y → IsIn y (filter_map h xs)
IsIn-filter_map h [] x y m e = absurd m
IsIn-filter_map {X} {Y} h (z ∷ xs) x y (inl is) e =
    subst (λ (o : Option Y). IsIn y (cons_option o (filter_map h xs))) (sym (ap h (sym is) ∙ e)) (inl refl)
IsIn-filter_map h (z ∷ xs) x y (inr m) e = behind (h z) y (filter_map h xs) (IsIn-filter_map h xs x y m e)

-- a run's path has the run's edges
pub edges_of-path_of : (files : List Graph) (es : List EdgeAt) → edges_of (path_of files es) ≡ es
edges_of-path_of files [] = refl
edges_of-path_of files (e ∷ es) = ap (λ xs. e ∷ xs) (edges_of-path_of files es)

same_hit : (a b : Hit) → a.file ≡ b.file → a.node ≡ b.node → a ≡ b
same_hit a b f n = λ i. record { file = f i; node = n i }

at_from : (hit : Hit) (spot : Spot) → IsTrue (is_node hit.file hit.node spot) → hit_at spot ≡ Some hit
at_from hit Root t = absurd (false≢true t)
at_from hit (At node) t =
    let p = and_parts (eqb node.file hit.file) (eqb node.node hit.node) t in
    ap (λ x. Some x) (same_hit (record { file = node.file; node = node.node }) hit (eqb-true node.file hit.file p.0) (eqb-true node.node hit.node p.1))

from_at : (hit : Hit) (spot : Spot) → hit_at spot ≡ Some hit → IsTrue (is_node hit.file hit.node spot)
from_at hit Root e = absurd (none-some hit e)
from_at hit (At node) e =
    let s = same_Some (record { file = node.file; node = node.node }) hit e in
    and_from (eqb node.file hit.file) (eqb node.node hit.node) (eq-eqb node.file hit.file (ap (λ (h : Hit). h.file) s)) (eq-eqb node.node hit.node (ap (λ (h : Hit). h.node) s))

end_from : (hit : Hit) (o : Option Config) → IsSomeAnd o (λ end. IsTrue (is_node hit.file hit.node end.spot)) → option_and_then (λ (end : Config). hit_at end.spot) o ≡ Some hit
end_from hit None h = absurd h
end_from hit (Some end) h = at_from hit end.spot h

from_end : (hit : Hit) (o : Option Config) → option_and_then (λ (end : Config). hit_at end.spot) o ≡ Some hit → IsSomeAnd o (λ end. IsTrue (is_node hit.file hit.node end.spot))
from_end hit None e = absurd (none-some hit e)
from_end hit (Some end) e = from_at hit end.spot e

path_end-run : (files : List Graph) (c : Config) (es : List EdgeAt) → path_end files c (path_of files es) ≡ option_and_then (λ (end : Config). hit_at end.spot) (run files c es)
path_end-run files c es = ap (λ xs. option_and_then (λ (end : Config). hit_at end.spot) (run files c xs)) (edges_of-path_of files es)

module _ (live : Spot → Bool) (bounds : Bounds) (files : List Graph) (c : Config) (lives : IsLive live files) (runs : List (List EdgeAt)) (is : runs ≡ filter (is_bounded_complete bounds files c) (met_runs live bounds files c)) where
  abbrev kept : List (List EdgeStep)
  kept = unshadowed (map (path_of files) runs)

  kept_from : (hit : Hit) → IsIn hit (path_ends files c kept) → EndsKept live bounds files c kept hit
  kept_from hit h =
      let p = IsIn-filter_map_from (path_end files c) kept hit h in
      let r = IsIn-map_from (path_of files) p.0 runs (IsIn-filter_from (λ (path : List EdgeStep). not (is_shadowed (map (path_of files) runs) path)) p.0 (map (path_of files) runs) p.1).0 in (
        r.0,
        subst (λ (xs : List (List EdgeAt)). IsIn r.0 xs) is r.1,
        subst (λ (path : List EdgeStep). IsIn path kept) (sym r.2) p.1,
        from_end hit (run files c r.0) (sym (path_end-run files c r.0) ∙ (ap (path_end files c) r.2 ∙ p.2)),
      )

  from_kept : (hit : Hit) → EndsKept live bounds files c kept hit → IsIn hit (path_ends files c kept)
  from_kept hit h =
      IsIn-filter_map (path_end files c) kept (path_of files h.0) hit h.2 (path_end-run files c h.0 ∙ end_from hit (run files c h.0) h.3)

  -- rising rows that are exactly the ends of the paths that are kept are the definitions
  pub AreDefinitions-from_ends : (found : List Hit) → IsRising found → ((hit : Hit) → Contains found hit ↔ Contains (path_ends files c (unshadowed (map (path_of files) runs))) hit) → AreDefinitions bounds files c found
  AreDefinitions-from_ends found rising exact =
      rows live bounds files c lives kept (ap (λ xs. unshadowed (map (path_of files) xs)) is) found rising
      (λ hit. (
        λ h. kept_from hit (IsIn-from_Contains (path_ends files c kept) hit ((exact hit).0 h)),
        λ h. (exact hit).1 (Contains-from_IsIn (path_ends files c kept) hit (from_kept hit h)),
      ))
