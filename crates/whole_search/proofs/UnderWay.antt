-- What the search has found so far, with what is still ahead of it, is what it finds in all.
use Rattle.std.proofs.Common.{◌≡◌, ◌+◌, ◌<◌, Bool, true, false, not, ◌&&◌, ◌||◌, List, [], ◌∷◌, ◌++◌, length, sym, refl, ap, ◌∙◌, subst, arith, if◌then◌else◌, append_assoc, length-append, IsTrue, ◌⊎◌, inl, inr}
use Rattle.std.specs.Option.{option_map_or}
use Rattle.std.specs.List.{list_any, filter, flat_map}
use Rattle.std.proofs.lemmas.Bool.{and_parts, or_right}
use Rattle.std.proofs.lemmas.List.{map-append}
use Rattle.graph_nodes.specs.Graph.{Graph}
use Rattle.partial_path.specs.declared.config.Spot.{Spot}
use Rattle.partial_path.specs.declared.config.Config.{Config}
use Rattle.partial_path.specs.declared.config.EdgeAt.{EdgeAt}
use Rattle.partial_path.specs.declared.bounds.Bounds.{Bounds}
use Rattle.partial_path.specs.declared.bounds.TheConstants.{MAX_RUNS}
use Rattle.whole_search.specs.declared.open.Open.{Open}
use Rattle.whole_search.specs.declared.tally.Tally.{Tally}
use Rattle.whole_search.specs.Walk.{ends_cut, is_bounded, is_empty, is_at_definition, completes, lands, met_runs, is_bounded_counted, is_past_bounds, is_bounded_complete}
use Rattle.whole_search.specs.Refusals.{IsDeadEnd}
use Rattle.whole_search.specs.Open.{IsOpen, IsNoted, runs_of, those, open_completes, open_lands, open_goes_on}
use Rattle.whole_search.proofs.Ahead.{ahead, onward, next_edges, serves, ahead-last, goes_on-open}
use Rattle.whole_search.proofs.Nowhere.{met_after_dead_end}
use Rattle.whole_search.proofs.Serving.{behind_one, added, AsksLanding, AsksBounded, ServesFor, serves_without}

and_false : (a b : Bool) → b ≡ false → (a && b) ≡ false
and_false true b f = f
and_false false b f = refl

counted_asks : (bounds : Bounds) (files : List Graph) (c : Config) → AsksBounded bounds files c (is_bounded_counted bounds files c)
counted_asks bounds files c = record {
  unbounded = λ es u. and_false (lands files c es) (is_bounded bounds files c es) u;
  landing = λ es t. (and_parts (lands files c es) (is_bounded bounds files c es) t).0;
}

complete_asks : (bounds : Bounds) (files : List Graph) (c : Config) → AsksBounded bounds files c (is_bounded_complete bounds files c)
complete_asks bounds files c = record {
  unbounded = λ es u. and_false (completes files c es) (is_bounded bounds files c es) u;
  landing = λ es t.
      or_right (ends_cut files es) (completes files c es) (and_parts (completes files c es) (is_bounded bounds files c es) t).0;
}

past_asks : (bounds : Bounds) (files : List Graph) (c : Config) → AsksLanding files c (is_past_bounds bounds files c)
past_asks bounds files c = λ es t. (and_parts (lands files c es) (not (is_bounded bounds files c es)) t).0

completes-open : (bounds : Bounds) (files : List Graph) (c : Config) (o : Open) → IsOpen bounds files c o → completes files c o.run ≡ open_completes files o
completes-open bounds files c o h = ap (λ x. not (is_empty o.run) && option_map_or (is_at_definition files) x false) h.stands

lands-open : (bounds : Bounds) (files : List Graph) (c : Config) (o : Open) → IsOpen bounds files c o → lands files c o.run ≡ open_lands files o
lands-open bounds files c o h = ap (λ b. ends_cut files o.run || b) (completes-open bounds files c o h)

counted-open : (bounds : Bounds) (files : List Graph) (c : Config) (o : Open) → IsOpen bounds files c o → is_bounded_counted bounds files c o.run ≡ (open_lands files o && o.bounded)
counted-open bounds files c o h =
    ap (λ b. b && is_bounded bounds files c o.run) (lands-open bounds files c o h) ∙ ap (λ b. open_lands files o && b) (sym h.marked)

complete-open : (bounds : Bounds) (files : List Graph) (c : Config) (o : Open) → IsOpen bounds files c o → is_bounded_complete bounds files c o.run ≡ (open_completes files o && o.bounded)
complete-open bounds files c o h =
    ap (λ b. b && is_bounded bounds files c o.run) (completes-open bounds files c o h) ∙ ap (λ b. open_completes files o && b) (sym h.marked)

past-open : (bounds : Bounds) (files : List Graph) (c : Config) (o : Open) → IsOpen bounds files c o → is_past_bounds bounds files c o.run ≡ (open_lands files o && not o.bounded)
past-open bounds files c o h =
    ap (λ b. b && not (is_bounded bounds files c o.run)) (lands-open bounds files c o h) ∙ ap (λ b. open_lands files o && not b) (sym h.marked)

filter-those : (p : List EdgeAt → Bool) (passes : Bool) (es : List EdgeAt) (xs : List (List EdgeAt)) → p es ≡ passes → filter p (es ∷ xs) ≡ those passes es ++ filter p xs
filter-those p passes es xs h = ap (λ b. if b then es ∷ filter p xs else filter p xs) h ∙ by passes
  where
    by : (b : Bool) → (if b then es ∷ filter p xs else filter p xs) ≡ (if b then es ∷ [] else []) ++ filter p xs
    by true = refl
    by false = refl

or_assoc : (a b c : Bool) → ((a || b) || c) ≡ (a || (b || c))
or_assoc true b c = refl
or_assoc false b c = refl

module _ (live : Spot → Bool) where
  -- the runs that are met, as they are counted, kept and marked
  pub record IsUnderWay (bounds : Bounds) (files : List Graph) (c : Config) (opens : List (List EdgeAt)) (tally : Tally) : Type 0 where
    pub counted : tally.counted + length (filter (is_bounded_counted bounds files c) (ahead live bounds files c opens)) ≡ length (filter (is_bounded_counted bounds files c) (met_runs live bounds files c))
    pub runs : tally.runs.items ++ filter (is_bounded_complete bounds files c) (ahead live bounds files c opens) ≡ filter (is_bounded_complete bounds files c) (met_runs live bounds files c)
    pub limit : (tally.limit || list_any (is_past_bounds bounds files c) (ahead live bounds files c opens)) ≡ list_any (is_past_bounds bounds files c) (met_runs live bounds files c)

  -- what is ahead before the last open run is noted
  ahead-before : (bounds : Bounds) (files : List Graph) (c : Config) (before rest : List Open) (o : Open) → before ≡ rest ++ o ∷ [] → IsOpen bounds files c o → ahead live bounds files c (runs_of before) ≡ o.run ∷ (flat_map (onward live bounds files c) (behind_one o.run (next_edges live bounds files c o.run o.at)) ++ ahead live bounds files c (runs_of rest))
  ahead-before bounds files c before rest o is h =
      ap (λ xs. ahead live bounds files c (runs_of xs)) is
      ∙ (ap (ahead live bounds files c) (map-append (λ (x : Open). x.run) rest (o ∷ []))
      ∙ ahead-last live bounds files c o.at (runs_of rest) o.run h.stands)

  -- the longer runs were added where the search goes on, or none at a dead end
  abbrev pub IsFollowed : Bounds → List Graph → Config → List Open → List Open → Open → Bool → Type 0
  IsFollowed bounds files c rest after o limit =
      (runs_of after ≡ runs_of rest ++ added (open_goes_on live bounds files o && (o.bounded || not limit)) files c o)
      ⊎ (IsDeadEnd files o.at × (runs_of after ≡ runs_of rest))

  -- what is met after a run, and what is ahead once it is noted
  serves-noted : (bounds : Bounds) (files : List Graph) (c : Config) (rest after : List Open) (o : Open) (limit : Bool) → IsOpen bounds files c o → IsFollowed bounds files c rest after o limit → ServesFor bounds files c limit (flat_map (onward live bounds files c) (behind_one o.run (next_edges live bounds files c o.run o.at)) ++ ahead live bounds files c (runs_of rest)) (ahead live bounds files c (runs_of after))
  serves-noted bounds files c rest after o limit h (inr dead) =
      subst (λ (xs : List (List EdgeAt)). ServesFor bounds files c limit (flat_map (onward live bounds files c) (behind_one o.run (next_edges live bounds files c o.run o.at)) ++ ahead live bounds files c (runs_of rest)) (ahead live bounds files c xs))
      (sym dead.1)
      (serves_without bounds files c limit (flat_map (onward live bounds files c) (behind_one o.run (next_edges live bounds files c o.run o.at))) (ahead live bounds files c (runs_of rest))
      (met_after_dead_end live bounds files c o.at o.run h.stands dead.0))
  serves-noted bounds files c rest after o limit h (inl is) =
      subst (λ (xs : List (List EdgeAt)). ServesFor bounds files c limit (flat_map (onward live bounds files c) (behind_one o.run (next_edges live bounds files c o.run o.at)) ++ ahead live bounds files c (runs_of rest)) (ahead live bounds files c xs))
      (sym is)
      (serves live bounds files c o limit (runs_of rest) (open_goes_on live bounds files o) o.bounded (goes_on-open live bounds files c o h) (sym h.marked))

  -- the next run is noted
  pub goes_on_under_way : (bounds : Bounds) (files : List Graph) (c : Config) (before rest after : List Open) (o : Open) (old new : Tally) → before ≡ rest ++ o ∷ [] → IsOpen bounds files c o → IsNoted files o old new → IsFollowed bounds files c rest after o new.limit → IsUnderWay bounds files c (runs_of before) old → IsUnderWay bounds files c (runs_of after) new
  goes_on_under_way bounds files c before rest after o old new is h noted longer w = record {
    counted =
        let more : length (filter (is_bounded_counted bounds files c) (ahead live bounds files c (runs_of before))) ≡ length (those (open_lands files o && o.bounded) o.run) + length (filter (is_bounded_counted bounds files c) (ahead live bounds files c (runs_of after))) =
        ap (λ xs. length (filter (is_bounded_counted bounds files c) xs)) was
        ∙ (ap length (filter-those (is_bounded_counted bounds files c) (open_lands files o && o.bounded) o.run met (counted-open bounds files c o h))
        ∙ (length-append (those (open_lands files o && o.bounded) o.run) (filter (is_bounded_counted bounds files c) met)
        ∙ ap (λ xs. length (those (open_lands files o && o.bounded) o.run) + length xs) (sym (s.same (is_bounded_counted bounds files c) (counted_asks bounds files c))))) in
        let a : new.counted ≡ old.counted + length (those (open_lands files o && o.bounded) o.run) = noted.counted in
        let b : old.counted + length (filter (is_bounded_counted bounds files c) (ahead live bounds files c (runs_of before))) ≡ length (filter (is_bounded_counted bounds files c) (met_runs live bounds files c)) = w.counted in
        omega arith;
    runs =
        ap (λ xs. xs ++ filter (is_bounded_complete bounds files c) (ahead live bounds files c (runs_of after))) noted.runs
        ∙ (append_assoc old.runs.items (those (open_completes files o && o.bounded) o.run) (filter (is_bounded_complete bounds files c) (ahead live bounds files c (runs_of after)))
        ∙ (ap (λ xs. old.runs.items ++ (those (open_completes files o && o.bounded) o.run ++ xs)) (s.same (is_bounded_complete bounds files c) (complete_asks bounds files c))
        ∙ (ap (λ xs. old.runs.items ++ xs) (sym (filter-those (is_bounded_complete bounds files c) (open_completes files o && o.bounded) o.run met (complete-open bounds files c o h)))
        ∙ (ap (λ xs. old.runs.items ++ filter (is_bounded_complete bounds files c) xs) (sym was) ∙ w.runs))));
    limit =
        s.flag (is_past_bounds bounds files c) (past_asks bounds files c)
        ∙ (ap (λ b. b || list_any (is_past_bounds bounds files c) met) (noted.limit ∙ ap (λ b. old.limit || b) (sym (past-open bounds files c o h)))
        ∙ (or_assoc old.limit (is_past_bounds bounds files c o.run) (list_any (is_past_bounds bounds files c) met)
        ∙ (ap (λ xs. old.limit || list_any (is_past_bounds bounds files c) xs) (sym was) ∙ w.limit)));
  }
    where
      met : List (List EdgeAt)
      met = flat_map (onward live bounds files c) (behind_one o.run (next_edges live bounds files c o.run o.at)) ++ ahead live bounds files c (runs_of rest)

      was : ahead live bounds files c (runs_of before) ≡ o.run ∷ met
      was = ahead-before bounds files c before rest o is h

      s : ServesFor bounds files c new.limit met (ahead live bounds files c (runs_of after))
      s = serves-noted bounds files c rest after o new.limit h longer

  -- with each run that is noted fewer are ahead
  pub fewer_ahead : (bounds : Bounds) (files : List Graph) (c : Config) (before rest after : List Open) (o : Open) (limit : Bool) → before ≡ rest ++ o ∷ [] → IsOpen bounds files c o → IsFollowed bounds files c rest after o limit → length (ahead live bounds files c (runs_of after)) < length (ahead live bounds files c (runs_of before))
  fewer_ahead bounds files c before rest after o limit is h longer =
      let s = (serves-noted bounds files c rest after o limit h longer).shorter in
      let k = ap length (ahead-before bounds files c before rest o is h) in
      omega (arith, s, k)

  -- one bounded counted run too many is met
  pub crowded : (bounds : Bounds) (files : List Graph) (c : Config) (before rest : List Open) (o : Open) (old : Tally) → before ≡ rest ++ o ∷ [] → IsOpen bounds files c o → old.counted ≡ MAX_RUNS → IsTrue (open_lands files o && o.bounded) → IsUnderWay bounds files c (runs_of before) old → MAX_RUNS < length (filter (is_bounded_counted bounds files c) (met_runs live bounds files c))
  crowded bounds files c before rest o old is h full t w =
      let some : 0 < length (filter (is_bounded_counted bounds files c) (ahead live bounds files c (runs_of before))) =
      subst (λ (xs : List (List EdgeAt)). 0 < length (filter (is_bounded_counted bounds files c) xs)) (sym (ahead-before bounds files c before rest o is h))
      (subst (λ (xs : List (List EdgeAt)). 0 < length xs) (sym (filter-those (is_bounded_counted bounds files c) true o.run (flat_map (onward live bounds files c) (behind_one o.run (next_edges live bounds files c o.run o.at)) ++ ahead live bounds files c (runs_of rest)) (counted-open bounds files c o h ∙ t))) (omega arith)) in
      let total : old.counted + length (filter (is_bounded_counted bounds files c) (ahead live bounds files c (runs_of before))) ≡ length (filter (is_bounded_counted bounds files c) (met_runs live bounds files c)) = w.counted in
      omega arith
