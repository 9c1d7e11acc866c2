-- Each bounded counted run is met, and where a counted run isn't bounded, one past the bounds is met.
use Rattle.std.proofs.Common.{◌≡◌, ◌≢◌, ℕ, suc, ◌+◌, ◌<◌, ◌≤◌, Bool, true, false, not, List, [], ◌∷◌, ◌++◌, length, IsSome, is_some, sym, refl, ap, ◌∙◌, subst, arith, append_assoc, append-nil, length-append, inl, inr, ◌⊎◌}
use Rattle.std.proofs.lemmas.Bool.{and_from, or_parts, or_left, or_right, cases_Bool, not-false, not_from_false, false_from_ne_true}
use Rattle.std.proofs.lemmas.List.{same_from_push}
use Rattle.graph_nodes.specs.Graph.{Graph}
use Rattle.partial_path.specs.declared.config.Spot.{Spot}
use Rattle.partial_path.specs.declared.config.Config.{Config}
use Rattle.partial_path.specs.declared.config.EdgeAt.{EdgeAt}
use Rattle.partial_path.specs.declared.bounds.Bounds.{Bounds}
use Rattle.partial_path.specs.Runs.{run, IsStraight, IsBounded}
use Rattle.partial_path.specs.Counted.{IsCounted}
use Rattle.whole_search.specs.Walk.{ends_cut, is_bounded, completes, lands, longest, with_edge, goes_on, met_runs, IsLive, is_past_bounds}
use Rattle.list_facts.specs.Members.{IsIn}
use Rattle.whole_search.proofs.Prefixes.{parts_of, straight_front, bounded_front}
use Rattle.whole_search.proofs.Reflect.{is_bounded_decides, lands_from, lands_nonempty}
use Rattle.whole_search.proofs.Rising.{AreSmall, stays, FrontsStay, nonempty_append, length-front}
use Rattle.whole_search.proofs.MetRuns.{in_meets, leads_from, goes_from}

split_last : (es : List EdgeAt) → es ≢ [] → (before : List EdgeAt) × (last : EdgeAt) × (es ≡ before ++ last ∷ [])
split_last [] some = absurd (some refl)
split_last (e ∷ []) some = ([], e, refl)
split_last (e ∷ next ∷ es) some =
    let s = split_last (next ∷ es) (nonempty_append [] next es) in (e ∷ s.0, s.1, ap (λ (xs : List EdgeAt). e ∷ xs) s.2)

module _ (live : Spot → Bool) (bounds : Bounds) (files : List Graph) (c : Config) where
  -- a straight run that lands is met where it is short enough and the search goes on from its fronts
  in_met_runs : IsLive live files → (es : List EdgeAt) → IsSome (run files c es) → IsStraight files c es → lands files c es ≡ true → length es ≤ longest bounds → FrontsStay bounds files c es → IsIn es (met_runs live bounds files c)
  in_met_runs is_live es runs straight t short each =
      in_meets live bounds files c (longest bounds) [] es short
      (leads_from live bounds files c es [] es refl runs straight goes)
    where
      goes : (q r : List EdgeAt) → q ++ r ≡ es → r ≢ [] → goes_on live bounds files c q ≡ true
      goes q [] is some = absurd (some refl)
      goes q (e ∷ r) is some =
          let whole : length (q ++ e ∷ r) ≡ length q + length (e ∷ r) = length-append q (e ∷ r) in
          let same : length (q ++ e ∷ r) ≡ length es = ap length is in
          let less : length q < longest bounds = shorter (length q) (length r) (length es) (sym same ∙ whole) short in
          goes_from live bounds files c is_live q e r
          (subst (λ (xs : List EdgeAt). IsSome (run files c xs)) (sym is) runs)
          (subst (λ (xs : List EdgeAt). lands files c xs ≡ true) (sym is) t)
          less
          (each q (e ∷ r) is some)
        where
          shorter : (a b n : ℕ) → n ≡ a + suc b → n ≤ longest bounds → a < longest bounds
          shorter a b n h g = omega arith

  stays_bounded : (q : List EdgeAt) → is_bounded bounds files c q ≡ true → stays bounds files c q ≡ true
  stays_bounded q t = or_right (not (ends_cut files q)) (is_bounded bounds files c q) t

  pub IsIn-met_runs : IsLive live files → (es : List EdgeAt) → IsCounted files c es → IsBounded bounds files c es → IsIn es (met_runs live bounds files c)
  IsIn-met_runs is_live es counted bounded =
      let t : is_bounded bounds files c es ≡ true = (is_bounded_decides bounds files c es).1 bounded in
      let l : length es ≤ bounds.edges = bounded.edges in
      in_met_runs is_live es counted.runs counted.straight (lands_from files c es counted) (omega arith)
      (λ q r is some. stays_bounded q (bounded_front bounds files c q r (subst (λ (xs : List EdgeAt). is_bounded bounds files c xs ≡ true) (sym is) t)))

  -- a front of a run at which the search stops, or the whole: it lands, and isn't bounded
  record IsStop (whole : List EdgeAt) : Type 0 where
    es : List EdgeAt
    rest : List EdgeAt
    is : es ++ rest ≡ whole
    lands_there : lands files c es ≡ true
    unbounded : is_bounded bounds files c es ≡ false
    fronts : FrontsStay bounds files c es

  fronts_push : (p : List EdgeAt) (e : EdgeAt) → FrontsStay bounds files c p → stays bounds files c p ≡ true → FrontsStay bounds files c (with_edge p e)
  fronts_push p e each stay q r is some =
      let s = split_last r some in
      let on : (q ++ s.0) ++ s.1 ∷ [] ≡ p ++ e ∷ [] =
      append_assoc q s.0 (s.1 ∷ []) ∙ (ap (λ (xs : List EdgeAt). q ++ xs) (sym s.2) ∙ is) in
      by s.0 (same_from_push (q ++ s.0) p s.1 e on).0
    where
      by : (before : List EdgeAt) → q ++ before ≡ p → stays bounds files c q ≡ true
      by [] h = subst (λ (xs : List EdgeAt). stays bounds files c xs ≡ true) (sym h ∙ append-nil q) stay
      by (x ∷ before) h = each q (x ∷ before) h (nonempty_append [] x before)

  whole_stop : (whole p : List EdgeAt) → p ++ [] ≡ whole → lands files c whole ≡ true → is_bounded bounds files c whole ≡ false → FrontsStay bounds files c p → IsStop whole
  whole_stop whole p is t f each =
      let same : p ≡ whole = sym (append-nil p) ∙ is in
      record {
        es = p;
        rest = [];
        is = is;
        lands_there = subst (λ (xs : List EdgeAt). lands files c xs ≡ true) (sym same) t;
        unbounded = subst (λ (xs : List EdgeAt). is_bounded bounds files c xs ≡ false) (sym same) f;
        fronts = each;
      }

  stop_here : (whole p rest : List EdgeAt) → p ++ rest ≡ whole → FrontsStay bounds files c p → stays bounds files c p ≡ false → IsStop whole
  stop_here whole p rest is each f =
      let parts = or_parts (not (ends_cut files p)) (is_bounded bounds files c p) f in
      record {
        es = p;
        rest = rest;
        is = is;
        lands_there = ends_cut_lands (not-false (ends_cut files p) parts.0);
        unbounded = parts.1;
        fronts = each;
      }
    where
      ends_cut_lands : ends_cut files p ≡ true → lands files c p ≡ true
      ends_cut_lands t = or_left (ends_cut files p) (completes files c p) t

  stop_by : (whole p rest : List EdgeAt) → p ++ rest ≡ whole → FrontsStay bounds files c p → (stays bounds files c p ≡ true → IsStop whole) → (stays bounds files c p ≡ true) ⊎ (stays bounds files c p ≡ false) → IsStop whole
  stop_by whole p rest is each later (inl t) = later t
  stop_by whole p rest is each later (inr f) = stop_here whole p rest is each f

  stop_of : (whole p rest : List EdgeAt) → p ++ rest ≡ whole → lands files c whole ≡ true → is_bounded bounds files c whole ≡ false → FrontsStay bounds files c p → IsStop whole
  stop_of whole p [] is t f each = whole_stop whole p is t f each
  stop_of whole p (e ∷ rest) is t f each =
      stop_by whole p (e ∷ rest) is each
      (λ stay. stop_of whole (with_edge p e) rest (append_assoc p (e ∷ []) rest ∙ is) t f (fronts_push p e each stay))
      (cases_Bool (stays bounds files c p))

  no_fronts : FrontsStay bounds files c []
  no_fronts [] r is some = absurd (some is)
  no_fronts (x ∷ q) r is some = cc

  -- a run whose fronts all stay is no longer than the longest
  short_stop : AreSmall files → (es : List EdgeAt) → es ≢ [] → IsSome (run files c es) → FrontsStay bounds files c es → length es ≤ longest bounds
  short_stop small es some runs each =
      let s = split_last es some in
      let less : length s.0 < longest bounds =
      length-front bounds files small c s.0 s.1 []
      (subst (λ (xs : List EdgeAt). IsSome (run files c xs)) s.2 runs)
      (subst (λ (xs : List EdgeAt). FrontsStay bounds files c xs) s.2 each) in
      let one : length (s.0 ++ s.1 ∷ []) ≡ length s.0 + 1 = length-append s.0 (s.1 ∷ []) in
      let same : length es ≡ length (s.0 ++ s.1 ∷ []) = ap length s.2 in
      omega arith

  pub past_bounds-met : IsLive live files → AreSmall files → (es : List EdgeAt) → IsCounted files c es → ¬ IsBounded bounds files c es → (past : List EdgeAt) × IsIn past (met_runs live bounds files c) × (is_past_bounds bounds files c past ≡ true)
  past_bounds-met is_live small es counted unbounded =
      let f : is_bounded bounds files c es ≡ false = false_from_ne_true (is_bounded bounds files c es) (λ t. unbounded ((is_bounded_decides bounds files c es).0 t)) in
      let s = stop_of es [] es refl (lands_from files c es counted) f no_fronts in
      let runs = subst (λ (xs : List EdgeAt). IsSome (run files c xs)) (sym s.is) counted.runs in
      let a = parts_of files c s.es s.rest runs in
      let runs_there : IsSome (run files c s.es) = ap is_some a.1 in
      let straight = straight_front files c s.es s.rest a.0 a.1 (subst (λ (xs : List EdgeAt). IsStraight files c xs) (sym s.is) counted.straight) in (
        s.es,
        in_met_runs is_live s.es runs_there straight s.lands_there
            (short_stop small s.es (lands_nonempty files c s.es s.lands_there) runs_there s.fronts) s.fronts,
        and_from (lands files c s.es) (not (is_bounded bounds files c s.es)) s.lands_there (not_from_false (is_bounded bounds files c s.es) s.unbounded),
      )
