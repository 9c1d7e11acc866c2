-- Whether a stored path is joined to the trail.
use Rattle.std.proofs.Common.{◌≡◌, ◌↔◌, ℕ, ◌<◌, ◌^◌, Bool, true, false, not, ◌&&◌, List, [], ◌∷◌, map, Option, Some, All, IsTrue, sym, refl, ap, ◌∙◌, filter, cond, if◌then◌else◌, ◌⊎◌, inl, inr}
use Rattle.std.specs.Option.{option_map_or}
use Rattle.std.specs.List.{AllByRecursion, list_any}
use Rattle.std.proofs.lemmas.Bool.{false≢true, and_from, and_parts, or_cases, or_left, or_right, false_from_ne_true}
use Rattle.std.proofs.lemmas.List.Elements.{recursion_from_All}
use Rattle.partial_path.specs.declared.config.Config.{Config}
use Rattle.partial_path.specs.declared.rule.Start.TheVariants.{Before}
use Rattle.partial_path.specs.Same.{config_eq}
use Rattle.partial_path.specs.Step.{start}
use Rattle.partial_path.specs.Rules.{Rule}
use Rattle.partial_path.specs.Apply.{apply}
use Rattle.partial_path.specs.Moved.{moved, Fits}
use Rattle.partial_path.specs.FileNumbers.{FileZeroMoves}
use Rattle.partial_path.specs.PathSets.{IsLandingRule}
use Rattle.partial_path.specs.Sources.{IsSourceFile, graphs_of}
use Rattle.partial_path.specs.Cutting.{path_edges, LeadFrom, landings, at_cuts}
use Rattle.partial_path.specs.Laws.{PathsAreRuns, RunsEndInFiles, ReturnsAreStarts, IsSpotOf, IsAtStart, IsRunTo}
use Rattle.stitcher.specs.declared.trail.Level.{Level}
use Rattle.stitcher.specs.Joins.{Asked, joined, with_path, origin, is_at_cut, met_at_cuts, keeps_straight, landed, joined_by}
use Rattle.stitcher.specs.Trail.{paths_of, landed_at, IsHere, IsOffered}
use Rattle.list_facts.proofs.Members.{at_member, IsIn-from_Contains}
use Rattle.partial_path.proofs.Equals.{config_eq-Decides}
use Rattle.stitcher.proofs.Leading.{lead_with, nonempty_with}
use Rattle.stitcher.proofs.Offered.{source_at}

-- a stored path can be moved to its file
pub stored_fits : FileZeroMoves → (q : Asked) (trail : List Level) (at : Config) (p : ℕ × Rule) → All IsSourceFile q.files → p.0 < 2 ^ 32 → IsOffered q trail at p → Fits p.0 p.1
stored_fits moves q trail at p sources lt o =
    let source = source_at q.files p.0 o.stored.0 (recursion_from_All IsSourceFile q.files sources) o.stored.1 in
    let rule = at_member (IsLandingRule o.stored.0.graph) p.1 o.stored.0.rules source.sets.rules.sound (IsIn-from_Contains o.stored.0.rules p.1 o.stored.2) in
    (moves p.0 p.1 lt rule.exact.files).1

filter_all : (p : Config → Bool) (xs : List Config) → AllByRecursion (λ (c : Config). IsTrue (p c)) xs → filter p xs ≡ xs
filter_all p [] h = refl
filter_all p (x ∷ xs) h = ap (λ (b : Bool). cond b (x ∷ filter p xs) (filter p xs)) h.0 ∙ ap (λ (ys : List Config). x ∷ ys) (filter_all p xs h.1)

module _ (q : Asked) (trail : List Level) (at next : Config) (p : ℕ × Rule) (sources : All IsSourceFile q.files) (begins : start (graphs_of q.files) q.node ≡ Some q.start) (here : IsHere q trail at) (offered : IsOffered q trail at p) (applies : Some next ≡ apply (moved p.0 p.1) at) where
  leads_next : LeadFrom q.files q.node (with_path (paths_of trail) p) next
  leads_next =
      lead_with q.files (Before q.node) (origin q) at next (paths_of trail) p here.leads
      record { stored = offered.stored; begins = offered.begins; applies = sym applies }

  run_next : PathsAreRuns → IsRunTo q.files q.start (with_path (paths_of trail) p) next
  run_next runs = runs q.files q.node q.start next (with_path (paths_of trail) p) sources begins (nonempty_with (paths_of trail) p []) leads_next

  -- it lands at a spot of the files
  pub spot_next : PathsAreRuns → RunsEndInFiles → IsSpotOf (graphs_of q.files) next.spot
  spot_next runs ends =
      let r = run_next runs in ends q.files q.node q.start next (path_edges (with_path (paths_of trail) p)) sources begins r.nonempty r.runs

  met_is : met_at_cuts q (paths_of trail) ≡ q.start ∷ map landed_at trail
  met_is =
      ap (λ (cs : List Config). q.start ∷ filter (λ (c : Config). is_at_cut q c) cs) here.landed
      ∙ ap (λ (cs : List Config). q.start ∷ cs) (filter_all (λ (c : Config). is_at_cut q c) (map landed_at trail) (recursion_from_All (λ (c : Config). IsTrue (is_at_cut q c)) (map landed_at trail) here.cuts))

  -- what the program's test tells
  abbrev pub ComesBack : Type 0
  ComesBack = IsTrue (is_at_cut q next) × (IsAtStart q.node next ⊎ IsTrue (list_any (config_eq next) (map landed_at trail)))

  seen_from : PathsAreRuns → ReturnsAreStarts → IsAtStart q.node next ⊎ IsTrue (list_any (config_eq next) (map landed_at trail)) → list_any (config_eq next) (met_at_cuts q (paths_of trail)) ≡ true
  seen_from runs back (inl h) =
      let r = run_next runs in
      let same : next ≡ q.start = (back q.files q.node q.start next (path_edges (with_path (paths_of trail) p)) sources begins r.nonempty r.runs).1 h in
      or_left (config_eq next q.start) (list_any (config_eq next) (at_cuts (graphs_of q.files) (landings (origin q) (paths_of trail)))) ((config_eq-Decides next q.start).1 same)
  seen_from runs back (inr t) =
      ap (λ (cs : List Config). list_any (config_eq next) cs) met_is ∙ or_right (config_eq next q.start) (list_any (config_eq next) (map landed_at trail)) t

  from_seen : PathsAreRuns → ReturnsAreStarts → list_any (config_eq next) (met_at_cuts q (paths_of trail)) ≡ true → IsAtStart q.node next ⊎ IsTrue (list_any (config_eq next) (map landed_at trail))
  from_seen runs back t = by (or_cases (config_eq next q.start) (list_any (config_eq next) (map landed_at trail)) (ap (λ (cs : List Config). list_any (config_eq next) cs) (sym met_is) ∙ t))
    where
      by : (config_eq next q.start ≡ true) ⊎ (list_any (config_eq next) (map landed_at trail) ≡ true) → IsAtStart q.node next ⊎ IsTrue (list_any (config_eq next) (map landed_at trail))
      by (inl h) =
          let r = run_next runs in
          inl ((back q.files q.node q.start next (path_edges (with_path (paths_of trail) p)) sources begins r.nonempty r.runs).0 ((config_eq-Decides next q.start).0 h))
      by (inr h) = inr h

  joined_as : joined_by q (joined (paths_of trail) at) p ≡ landed q (joined (paths_of trail) at) p next
  joined_as = ap (λ (o : Option Config). option_map_or (landed q (joined (paths_of trail) at) p) o []) (sym applies)

  -- nothing is joined where the run comes back; else the path is
  pub joined_none : PathsAreRuns → ReturnsAreStarts → (b : Bool) → b ≡ true → IsTrue b ↔ ComesBack → joined_by q (joined (paths_of trail) at) p ≡ []
  joined_none runs back b t tells =
      let h = tells.0 t in
      let keeps : keeps_straight q (paths_of trail) next ≡ false =
      ap not (and_from (is_at_cut q next) (list_any (config_eq next) (met_at_cuts q (paths_of trail))) h.0 (seen_from runs back h.1)) in
      joined_as ∙ ap (λ (k : Bool). if k then joined (with_path (paths_of trail) p) next ∷ [] else []) keeps

  pub joined_one : PathsAreRuns → ReturnsAreStarts → (b : Bool) → b ≡ false → IsTrue b ↔ ComesBack → joined_by q (joined (paths_of trail) at) p ≡ joined (with_path (paths_of trail) p) next ∷ []
  joined_one runs back b f tells =
      let seen : (is_at_cut q next && list_any (config_eq next) (met_at_cuts q (paths_of trail))) ≡ false =
      false_from_ne_true (is_at_cut q next && list_any (config_eq next) (met_at_cuts q (paths_of trail)))
      (λ t. let h = and_parts (is_at_cut q next) (list_any (config_eq next) (met_at_cuts q (paths_of trail))) t in
      false≢true (sym f ∙ tells.1 (h.0, from_seen runs back h.1))) in
      let keeps : keeps_straight q (paths_of trail) next ≡ true = ap not seen in
      joined_as ∙ ap (λ (k : Bool). if k then joined (with_path (paths_of trail) p) next ∷ [] else []) keeps
