-- The runs that the search still meets from its open runs.
use Rattle.std.proofs.Common.{◌≡◌, ℕ, zero, suc, ◌+◌, ◌-◌, ◌<◌, Bool, true, false, not, ◌&&◌, ◌||◌, List, [], ◌∷◌, ◌++◌, length, map, reverse, Option, Some, None, sym, refl, ap, ◌∙◌, subst, arith, if◌then◌else◌, ltb, ltb-true, append-nil, length-append, inl, inr, ◌⊎◌}
use Rattle.std.specs.Option.{option_map_or}
use Rattle.std.specs.List.{filter, flat_map}
use Rattle.std.proofs.lemmas.Bool.{and_parts, cases_Bool}
use Rattle.std.proofs.lemmas.List.{reverse-append}
use Rattle.std.proofs.lemmas.List.Elements.{filter-append}
use Rattle.graph_nodes.specs.Graph.{Graph}
use Rattle.partial_path.specs.declared.config.Spot.{Spot}
use Rattle.partial_path.specs.declared.config.Config.{Config}
use Rattle.partial_path.specs.declared.config.EdgeAt.{EdgeAt}
use Rattle.partial_path.specs.declared.bounds.Bounds.{Bounds}
use Rattle.partial_path.specs.Runs.{run, after_cuts}
use Rattle.whole_search.specs.declared.open.Open.{Open}
use Rattle.whole_search.specs.Walk.{with_edge, longer_from, longer_runs, out, can_follow, ends_cut, is_bounded, longest, goes_on, next_runs, meets}
use Rattle.whole_search.specs.Open.{IsOpen, longer_by, open_goes_on}
use Rattle.whole_search.proofs.Serving.{behind_one, flat_map-append, flat_map_agree, filter_reverse_none, AsksBounded, filter_skip, ServesFor, serves_itself, true_or, added}
use Rattle.whole_search.proofs.Prefixes.{unbounded_longer}

module _ (live : Spot → Bool) where
  -- the runs met from an open run on
  abbrev pub onward : Bounds → List Graph → Config → List EdgeAt → List (List EdgeAt)
  onward bounds files c es = meets (longest bounds - length es) live bounds files c es

  -- the runs met from the open runs on, the last open first
  abbrev pub ahead : Bounds → List Graph → Config → List (List EdgeAt) → List (List EdgeAt)
  ahead bounds files c opens = flat_map (onward bounds files c) (reverse opens)

  -- the edges by which the search goes on from a run
  abbrev pub next_edges : Bounds → List Graph → Config → List EdgeAt → Config → List EdgeAt
  next_edges bounds files c es at =
      if goes_on live bounds files c es then filter (can_follow files (c ∷ after_cuts files c es) at) (out files at.spot) else []

  next_runs-standing : (bounds : Bounds) (files : List Graph) (c at : Config) (es : List EdgeAt) → run files c es ≡ Some at → next_runs live bounds files c es ≡ behind_one es (next_edges bounds files c es at)
  next_runs-standing bounds files c at es h =
      ap (λ o. if goes_on live bounds files c es then reverse (option_map_or (longer_from files c es) o []) else []) h
      ∙ by (goes_on live bounds files c es)
    where
      by : (b : Bool) → (if b then reverse (longer_from files c es at) else []) ≡ behind_one es (if b then filter (can_follow files (c ∷ after_cuts files c es) at) (out files at.spot) else [])
      by true = refl
      by false = refl

  short_from : (bounds : Bounds) (files : List Graph) (c : Config) (es : List EdgeAt) → goes_on live bounds files c es ≡ true → length es < longest bounds
  short_from bounds files c es t = ltb-true _ _ (and_parts _ _ (and_parts _ _ t).0).0

  -- a run is met, and then what is met from the runs to go on with
  pub onward-unrolled : (bounds : Bounds) (files : List Graph) (c at : Config) (es : List EdgeAt) → run files c es ≡ Some at → onward bounds files c es ≡ es ∷ flat_map (onward bounds files c) (behind_one es (next_edges bounds files c es at))
  onward-unrolled bounds files c at es h = by (cases_Bool (goes_on live bounds files c es))
    where
      none : (n : ℕ) → goes_on live bounds files c es ≡ false → meets n live bounds files c es ≡ es ∷ []
      none zero f = refl
      none (suc n) f =
          ap (λ b. es ∷ flat_map (λ (next : List EdgeAt). meets n live bounds files c next) (if b then reverse (longer_runs files c es) else [])) f

      some : (n : ℕ) → longest bounds - length es ≡ suc n → onward bounds files c es ≡ es ∷ flat_map (onward bounds files c) (behind_one es (next_edges bounds files c es at))
      some n k =
          ap (λ m. meets m live bounds files c es) k
          ∙ (ap (λ xs. es ∷ flat_map (λ (next : List EdgeAt). meets n live bounds files c next) xs) (next_runs-standing bounds files c at es h)
          ∙ ap (λ xs. es ∷ xs) (flat_map_agree (λ (next : List EdgeAt). meets n live bounds files c next) (onward bounds files c) es (next_edges bounds files c es at)
          (λ e. ap (λ m. meets m live bounds files c (with_edge es e)) (same e))))
        where
          same : (e : EdgeAt) → n ≡ longest bounds - length (with_edge es e)
          same e = let more : length (with_edge es e) ≡ length es + 1 = length-append es (e ∷ []) in omega arith

      by : (goes_on live bounds files c es ≡ true) ⊎ (goes_on live bounds files c es ≡ false) → onward bounds files c es ≡ es ∷ flat_map (onward bounds files c) (behind_one es (next_edges bounds files c es at))
      by (inl t) =
          let short = short_from bounds files c es t in
          some (longest bounds - length es - 1) (omega arith)
      by (inr f) =
          none (longest bounds - length es) f
          ∙ ap (λ b. es ∷ flat_map (onward bounds files c) (behind_one es (if b then filter (can_follow files (c ∷ after_cuts files c es) at) (out files at.spot) else []))) (sym f)

  -- the runs met after one of these in at most so many edges more
  abbrev pub meets_next : ℕ → Bounds → List Graph → Config → List EdgeAt → List (List EdgeAt)
  meets_next n bounds files c next = meets n live bounds files c next

  unbounded_next : (p : List EdgeAt → Bool) (n : ℕ) (bounds : Bounds) (files : List Graph) (c : Config) (es : List EdgeAt) → ((e : EdgeAt) → filter p (meets_next n bounds files c (with_edge es e)) ≡ []) → (b : Bool) (o : Option Config) → filter p (flat_map (meets_next n bounds files c) (if b then reverse (option_map_or (longer_from files c es) o []) else [])) ≡ []
  unbounded_next p n bounds files c es each false o = refl
  unbounded_next p n bounds files c es each true None = refl
  unbounded_next p n bounds files c es each true (Some at) =
      filter_reverse_none p (meets_next n bounds files c) es (filter (can_follow files (c ∷ after_cuts files c es) at) (out files at.spot)) each

  -- past the bounds no test passes that asks for a bounded run
  pub filter_unbounded : (p : List EdgeAt → Bool) (bounds : Bounds) (files : List Graph) (c : Config) → AsksBounded bounds files c p → (n : ℕ) (es : List EdgeAt) → is_bounded bounds files c es ≡ false → filter p (meets n live bounds files c es) ≡ []
  filter_unbounded p bounds files c asks zero es u = filter_skip p es [] (asks.unbounded es u)
  filter_unbounded p bounds files c asks (suc n) es u =
      filter_skip p es (flat_map (meets_next n bounds files c) (next_runs live bounds files c es)) (asks.unbounded es u)
      ∙ unbounded_next p n bounds files c es
      (λ e. filter_unbounded p bounds files c asks n (with_edge es e) (unbounded_longer bounds files c es (e ∷ []) u))
      (goes_on live bounds files c es) (run files c es)

  -- ---- what is ahead, before and after a run is noted
  pub ahead-last : (bounds : Bounds) (files : List Graph) (c at : Config) (rest : List (List EdgeAt)) (es : List EdgeAt) → run files c es ≡ Some at → ahead bounds files c (rest ++ es ∷ []) ≡ es ∷ (flat_map (onward bounds files c) (behind_one es (next_edges bounds files c es at)) ++ ahead bounds files c rest)
  ahead-last bounds files c at rest es h =
      ap (flat_map (onward bounds files c)) (reverse-append rest (es ∷ []))
      ∙ ap (λ xs. xs ++ ahead bounds files c rest) (onward-unrolled bounds files c at es h)

  ahead-longer : (bounds : Bounds) (files : List Graph) (c : Config) (rest : List (List EdgeAt)) (es edges : List EdgeAt) → ahead bounds files c (rest ++ map (with_edge es) edges) ≡ flat_map (onward bounds files c) (behind_one es edges) ++ ahead bounds files c rest
  ahead-longer bounds files c rest es edges =
      ap (flat_map (onward bounds files c)) (reverse-append rest (map (with_edge es) edges))
      ∙ flat_map-append (onward bounds files c) (behind_one es edges) (reverse rest)

  filter_onward : (p : List EdgeAt → Bool) (bounds : Bounds) (files : List Graph) (c : Config) → AsksBounded bounds files c p → (es edges : List EdgeAt) → is_bounded bounds files c es ≡ false → filter p (flat_map (onward bounds files c) (behind_one es edges)) ≡ []
  filter_onward p bounds files c asks es edges u =
      filter_reverse_none p (onward bounds files c) es edges
      (λ e. filter_unbounded p bounds files c asks (longest bounds - length (with_edge es e)) (with_edge es e) (unbounded_longer bounds files c es (e ∷ []) u))

  serves_saved : (bounds : Bounds) (files : List Graph) (c : Config) (limit : Bool) (es edges : List EdgeAt) (rest : List (List EdgeAt)) → is_bounded bounds files c es ≡ false → limit ≡ true → ServesFor bounds files c limit (flat_map (onward bounds files c) (behind_one es edges) ++ rest) rest
  serves_saved bounds files c limit es edges rest u t = record {
    same = λ p asks.
        sym (filter-append p (flat_map (onward bounds files c) (behind_one es edges)) rest
        ∙ ap (λ xs. xs ++ filter p rest) (filter_onward p bounds files c asks es edges u));
    flag = λ q asks. true_or limit _ _ t;
    shorter = let k : length (flat_map (onward bounds files c) (behind_one es edges) ++ rest) ≡ length (flat_map (onward bounds files c) (behind_one es edges)) + length rest = length-append (flat_map (onward bounds files c) (behind_one es edges)) rest in omega arith;
  }

  -- the search goes on from an open run exactly where its record says so
  pub goes_on-open : (bounds : Bounds) (files : List Graph) (c : Config) (o : Open) → IsOpen bounds files c o → goes_on live bounds files c o.run ≡ open_goes_on live bounds files o
  goes_on-open bounds files c o h =
      ap (λ x. (ltb (length o.run) (longest bounds) && (not (ends_cut files o.run) || is_bounded bounds files c o.run)) && option_map_or (λ (at : Config). live at.spot) x false) h.stands
      ∙ ap (λ b. (ltb (length o.run) (longest bounds) && (not (ends_cut files o.run) || b)) && live o.at.spot) (sym h.marked)

  serves_all : (bounds : Bounds) (files : List Graph) (c : Config) (o : Open) (rest : List (List EdgeAt)) → goes_on live bounds files c o.run ≡ true → ahead bounds files c (rest ++ longer_by files c o.run o.at (out files o.at.spot)) ≡ flat_map (onward bounds files c) (behind_one o.run (next_edges bounds files c o.run o.at)) ++ ahead bounds files c rest
  serves_all bounds files c o rest g =
      ahead-longer bounds files c rest o.run (filter (can_follow files (c ∷ after_cuts files c o.run) o.at) (out files o.at.spot))
      ∙ sym (ap (λ b. flat_map (onward bounds files c) (behind_one o.run (if b then filter (can_follow files (c ∷ after_cuts files c o.run) o.at) (out files o.at.spot) else [])) ++ ahead bounds files c rest) g)

  pub serves : (bounds : Bounds) (files : List Graph) (c : Config) (o : Open) (limit : Bool) (rest : List (List EdgeAt)) (on marked : Bool) → goes_on live bounds files c o.run ≡ on → is_bounded bounds files c o.run ≡ marked → ServesFor bounds files c limit (flat_map (onward bounds files c) (behind_one o.run (next_edges bounds files c o.run o.at)) ++ ahead bounds files c rest) (ahead bounds files c (rest ++ added (on && (marked || not limit)) files c o))
  serves bounds files c o limit rest false marked g m =
      serves_itself bounds files c limit _ _
      (ap (ahead bounds files c) (append-nil rest)
      ∙ sym (ap (λ b. flat_map (onward bounds files c) (behind_one o.run (if b then filter (can_follow files (c ∷ after_cuts files c o.run) o.at) (out files o.at.spot) else [])) ++ ahead bounds files c rest) g))
  serves bounds files c o limit rest true true g m = serves_itself bounds files c limit _ _ (serves_all bounds files c o rest g)
  serves bounds files c o false rest true false g m = serves_itself bounds files c false _ _ (serves_all bounds files c o rest g)
  serves bounds files c o true rest true false g m =
      subst (λ (xs : List (List EdgeAt)). ServesFor bounds files c true (flat_map (onward bounds files c) (behind_one o.run (next_edges bounds files c o.run o.at)) ++ ahead bounds files c rest) (ahead bounds files c xs))
      (sym (append-nil rest))
      (serves_saved bounds files c true o.run (next_edges bounds files c o.run o.at) (ahead bounds files c rest) m refl)
