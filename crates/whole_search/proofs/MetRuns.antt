-- The runs that the search meets: each is a straight run, no two are equal, and none that matters is missed.
use Rattle.std.proofs.Common.{◌≡◌, ◌≢◌, ℕ, zero, suc, ◌+◌, ◌<◌, ◌≤◌, Bool, true, false, ◌&&◌, List, [], ◌∷◌, ◌++◌, reverse, length, take, Option, Some, None, IsSome, is_some, sym, refl, ap, ◌∙◌, subst, ltb, lt-ltb, arith, filter, flat_map, if◌then◌else◌, append_assoc, append-nil, length-append, take_at, inl, inr}
use Rattle.std.specs.Option.{option_map_or}
use Rattle.std.proofs.lemmas.Bool.{false≢true, and_from}
use Rattle.std.proofs.lemmas.List.{same_from_push}
use Rattle.graph_nodes.specs.Graph.{Graph}
use Rattle.partial_path.specs.declared.config.Spot.{Spot}
use Rattle.partial_path.specs.declared.config.Config.{Config}
use Rattle.partial_path.specs.declared.config.EdgeAt.{EdgeAt}
use Rattle.partial_path.specs.declared.bounds.Bounds.{Bounds}
use Rattle.partial_path.specs.Step.{step}
use Rattle.partial_path.specs.Runs.{run, after_cuts, IsStraight, IsApart}
use Rattle.whole_search.specs.Walk.{lands, longest, keeps_straight, can_follow, with_edge, longer_from, longer_runs, ends_live, goes_on, next_runs, meets, IsLive, out}
use Rattle.list_facts.proofs.Apart.{all_differ, IsApart-map, IsApart-filter, IsApart-reverse, IsApart-flat_map}
use Rattle.list_facts.specs.Members.{IsIn}
use Rattle.list_facts.proofs.Members.{IsIn-map, IsIn-map_from, IsIn-filter, IsIn-filter_from, IsIn-reverse, IsIn-reverse_from, IsIn-flat_map, IsIn-flat_map_from}
use Rattle.whole_search.proofs.Outs.{IsIn-out, IsApart-out}
use Rattle.whole_search.proofs.Prefixes.{parts_of, first_step, run-with_edge, straight_front, straight_longer, keeps_from, lands_rest}
use Rattle.whole_search.proofs.Rising.{stays, nonempty_append}

-- a run of one edge more: from where, by which edge and to where
pub record IsLonger (files : List Graph) (c : Config) (es longer : List EdgeAt) : Type 0 where
  pub at : Config
  pub e : EdgeAt
  pub next : Config
  pub runs : run files c es ≡ Some at
  pub steps : step files at e ≡ Some next
  pub keeps : keeps_straight files (c ∷ after_cuts files c es) e next ≡ true
  pub is : with_edge es e ≡ longer

follows_by : (files : List Graph) (met : List Config) (e : EdgeAt) (o : Option Config) → option_map_or (keeps_straight files met e) o false ≡ true → (next : Config) × (o ≡ Some next) × (keeps_straight files met e next ≡ true)
follows_by files met e None t = absurd (false≢true t)
follows_by files met e (Some next) t = (next, refl, t)

longer_at : (files : List Graph) (c : Config) (es : List EdgeAt) (o : Option Config) (x : List EdgeAt) → run files c es ≡ o → IsIn x (option_map_or (longer_from files c es) o []) → IsLonger files c es x
longer_at files c es None x h there = absurd there
longer_at files c es (Some at) x h there =
    let r = IsIn-map_from (with_edge es) x (filter (can_follow files (c ∷ after_cuts files c es) at) (out files at.spot)) there in
    let p = IsIn-filter_from (can_follow files (c ∷ after_cuts files c es) at) r.0 (out files at.spot) r.1 in
    let f = follows_by files (c ∷ after_cuts files c es) r.0 (step files at r.0) p.1 in
    record { at = at; e = r.0; next = f.0; runs = h; steps = f.1; keeps = f.2; is = r.2 }

pub IsLonger-from_in : (files : List Graph) (c : Config) (es x : List EdgeAt) → IsIn x (longer_runs files c es) → IsLonger files c es x
IsLonger-from_in files c es x h = longer_at files c es (run files c es) x refl h

-- each straight run of one edge more is among the longer runs
pub IsIn-longer_runs : (files : List Graph) (c at next : Config) (es : List EdgeAt) (e : EdgeAt) → run files c es ≡ Some at → step files at e ≡ Some next → IsStraight files c (with_edge es e) → IsIn (with_edge es e) (longer_runs files c es)
IsIn-longer_runs files c at next es e h g straight =
    subst (λ (o : Option Config). IsIn (with_edge es e) (option_map_or (longer_from files c es) o [])) (sym h)
    (IsIn-map (with_edge es) e (filter (can_follow files (c ∷ after_cuts files c es) at) (out files at.spot))
    (IsIn-filter (can_follow files (c ∷ after_cuts files c es) at) e (out files at.spot) (IsIn-out files at next e g)
    (ap (λ (o : Option Config). option_map_or (keeps_straight files (c ∷ after_cuts files c es) e) o false) g
    ∙ keeps_from files c at next es e h g straight)))

same_edge : (es : List EdgeAt) (a b : EdgeAt) → with_edge es a ≡ with_edge es b → a ≡ b
same_edge es a b h = (same_from_push es es a b h).1

apart_longer : (files : List Graph) (c : Config) (es : List EdgeAt) (o : Option Config) → IsApart (option_map_or (longer_from files c es) o [])
apart_longer files c es None = tt
apart_longer files c es (Some at) =
    IsApart-map (with_edge es) (same_edge es) (filter (can_follow files (c ∷ after_cuts files c es) at) (out files at.spot))
    (IsApart-filter (can_follow files (c ∷ after_cuts files c es) at) (out files at.spot) (IsApart-out files at.spot))

module _ (live : Spot → Bool) (bounds : Bounds) (files : List Graph) (c : Config) where
  next_from : (es x : List EdgeAt) (b : Bool) → IsIn x (if b then reverse (longer_runs files c es) else []) → IsIn x (longer_runs files c es)
  next_from es x true h = IsIn-reverse_from x (longer_runs files c es) h
  next_from es x false h = absurd h

  longer_of : (es x : List EdgeAt) → IsIn x (next_runs live bounds files c es) → IsLonger files c es x
  longer_of es x h = IsLonger-from_in files c es x (next_from es x (goes_on live bounds files c es) h)

  next_in : (es x : List EdgeAt) (b : Bool) → b ≡ true → IsIn x (longer_runs files c es) → IsIn x (if b then reverse (longer_runs files c es) else [])
  next_in es x true t h = IsIn-reverse x (longer_runs files c es) h
  next_in es x false t h = absurd (false≢true t)

  apart_next : (es : List EdgeAt) (b : Bool) → IsApart (if b then reverse (longer_runs files c es) else [])
  apart_next es true = IsApart-reverse (longer_runs files c es) (apart_longer files c es (run files c es))
  apart_next es false = tt

  -- a run that is met from another begins with it
  pub meets_begin : (n : ℕ) (es x : List EdgeAt) → IsIn x (meets n live bounds files c es) → (more : List EdgeAt) × (es ++ more ≡ x)
  meets_begin zero es x (inl e) = ([], append-nil es ∙ sym e)
  meets_begin zero es x (inr h) = absurd h
  meets_begin (suc n) es x (inl e) = ([], append-nil es ∙ sym e)
  meets_begin (suc n) es x (inr h) =
      let r = IsIn-flat_map_from (λ (next : List EdgeAt). meets n live bounds files c next) x (next_runs live bounds files c es) h in
      let l = longer_of es r.0 r.1 in
      let m = meets_begin n r.0 x r.2 in
      (l.e ∷ m.0, sym (append_assoc es (l.e ∷ []) m.0) ∙ (ap (λ (xs : List EdgeAt). xs ++ m.0) l.is ∙ m.1))

  -- each run that is met from a straight run is a straight run
  pub meets_sound : (n : ℕ) (es x : List EdgeAt) → IsSome (run files c es) → IsStraight files c es → IsIn x (meets n live bounds files c es) → IsSome (run files c x) × IsStraight files c x
  meets_sound zero es x runs straight (inl e) =
      (subst (λ (xs : List EdgeAt). IsSome (run files c xs)) (sym e) runs, subst (λ (xs : List EdgeAt). IsStraight files c xs) (sym e) straight)
  meets_sound zero es x runs straight (inr h) = absurd h
  meets_sound (suc n) es x runs straight (inl e) =
      (subst (λ (xs : List EdgeAt). IsSome (run files c xs)) (sym e) runs, subst (λ (xs : List EdgeAt). IsStraight files c xs) (sym e) straight)
  meets_sound (suc n) es x runs straight (inr h) =
      let r = IsIn-flat_map_from (λ (next : List EdgeAt). meets n live bounds files c next) x (next_runs live bounds files c es) h in
      let l = longer_of es r.0 r.1 in
      meets_sound n r.0 x
      (subst (λ (xs : List EdgeAt). IsSome (run files c xs)) l.is (ap is_some (run-with_edge files c l.at l.next es l.e l.runs l.steps)))
      (subst (λ (xs : List EdgeAt). IsStraight files c xs) l.is (straight_longer files c l.at l.next es l.e l.runs l.steps straight l.keeps))
      r.2

  -- and from any run only runs are met
  pub meets_runs : (n : ℕ) (es x : List EdgeAt) → IsSome (run files c es) → IsIn x (meets n live bounds files c es) → IsSome (run files c x)
  meets_runs zero es x runs (inl e) = subst (λ (xs : List EdgeAt). IsSome (run files c xs)) (sym e) runs
  meets_runs zero es x runs (inr h) = absurd h
  meets_runs (suc n) es x runs (inl e) = subst (λ (xs : List EdgeAt). IsSome (run files c xs)) (sym e) runs
  meets_runs (suc n) es x runs (inr h) =
      let r = IsIn-flat_map_from (λ (next : List EdgeAt). meets n live bounds files c next) x (next_runs live bounds files c es) h in
      let l = longer_of es r.0 r.1 in
      meets_runs n r.0 x
      (subst (λ (xs : List EdgeAt). IsSome (run files c xs)) l.is (ap is_some (run-with_edge files c l.at l.next es l.e l.runs l.steps)))
      r.2

  no_room : (es more : List EdgeAt) (e : EdgeAt) → with_edge es e ++ more ≡ es → ⊥
  no_room es more e h =
      let one : length (with_edge es e) ≡ length es + 1 = length-append es (e ∷ []) in
      let two : length (with_edge es e ++ more) ≡ length (with_edge es e) + length more = length-append (with_edge es e) more in
      let three : length (with_edge es e ++ more) ≡ length es = ap length h in
      omega arith

  same_front : (xs ys s t : List EdgeAt) → length xs ≡ length ys → xs ++ s ≡ ys ++ t → xs ≡ ys
  same_front xs ys s t l h =
      sym (take_at xs s (length ys) l) ∙ (ap (take (length ys)) h ∙ take_at ys t (length ys) refl)

  pub length-longer : (es x : List EdgeAt) → IsLonger files c es x → length x ≡ length es + 1
  length-longer es x l = ap length (sym l.is) ∙ length-append es (l.e ∷ [])

  -- no two of the runs that are met are equal
  pub IsApart-meets : (n : ℕ) (es : List EdgeAt) → IsApart (meets n live bounds files c es)
  IsApart-meets zero es = (tt, tt)
  IsApart-meets (suc n) es = (
    all_differ es (flat_map (λ (next : List EdgeAt). meets n live bounds files c next) (next_runs live bounds files c es))
        (λ h.
        let r = IsIn-flat_map_from (λ (next : List EdgeAt). meets n live bounds files c next) es (next_runs live bounds files c es) h in
        let l = longer_of es r.0 r.1 in
        let m = meets_begin n r.0 es r.2 in
        no_room es m.0 l.e (ap (λ (xs : List EdgeAt). xs ++ m.0) l.is ∙ m.1)),
    IsApart-flat_map (λ (next : List EdgeAt). meets n live bounds files c next) (next_runs live bounds files c es)
        (apart_next es (goes_on live bounds files c es))
        (λ x h. IsApart-meets n x)
        (λ x z y hx hz gx gz.
        let mx = meets_begin n x y gx in
        let mz = meets_begin n z y gz in
        same_front x z mx.0 mz.0
        (length-longer es x (longer_of es x hx) ∙ sym (length-longer es z (longer_of es z hz)))
        (mx.1 ∙ sym mz.1)),
  )

  -- the search goes on from the run and from each front of what is left
  abbrev pub Leads : List EdgeAt → List EdgeAt → Type 0
  Leads es [] = Unit {0}
  Leads es (e ∷ rest) =
      (goes_on live bounds files c es ≡ true) × IsIn (with_edge es e) (longer_runs files c es) × Leads (with_edge es e) rest

  pub in_meets : (n : ℕ) (es rest : List EdgeAt) → length rest ≤ n → Leads es rest → IsIn (es ++ rest) (meets n live bounds files c es)
  in_meets zero es [] le leads = inl (append-nil es)
  in_meets zero es (e ∷ rest) le leads = absurd (omega arith)
  in_meets (suc n) es [] le leads = inl (append-nil es)
  in_meets (suc n) es (e ∷ rest) le leads =
      inr (IsIn-flat_map (λ (next : List EdgeAt). meets n live bounds files c next) (with_edge es e) (es ++ e ∷ rest) (next_runs live bounds files c es)
      (next_in es (with_edge es e) (goes_on live bounds files c es) leads.0 leads.1)
      (subst (λ (xs : List EdgeAt). IsIn xs (meets n live bounds files c (with_edge es e))) (append_assoc es (e ∷ []) rest)
      (in_meets n (with_edge es e) rest (omega arith) leads.2)))

  pub leads_from : (whole p rest : List EdgeAt) → p ++ rest ≡ whole → IsSome (run files c whole) → IsStraight files c whole → ((q r : List EdgeAt) → q ++ r ≡ whole → r ≢ [] → goes_on live bounds files c q ≡ true) → Leads p rest
  leads_from whole p [] is runs straight each = tt
  leads_from whole p (e ∷ rest) is runs straight each =
      let a = parts_of files c p (e ∷ rest) (subst (λ (xs : List EdgeAt). IsSome (run files c xs)) (sym is) runs) in
      let f = first_step files a.0 e rest a.2 in
      let on : with_edge p e ++ rest ≡ whole = append_assoc p (e ∷ []) rest ∙ is in (
        each p (e ∷ rest) is (nonempty_append [] e rest),
        IsIn-longer_runs files c a.0 f.0 p e a.1 f.1
            (straight_front files c (with_edge p e) rest f.0 (run-with_edge files c a.0 f.0 p e a.1 f.1)
            (subst (λ (xs : List EdgeAt). IsStraight files c xs) (sym on) straight)),
        leads_from whole (with_edge p e) rest on runs straight each,
      )

  ends_live_at : (q : List EdgeAt) (at : Config) → run files c q ≡ Some at → live at.spot ≡ true → ends_live live files c q ≡ true
  ends_live_at q at h t = ap (λ (o : Option Config). option_map_or (λ (x : Config). live x.spot) o false) h ∙ t

  pub goes_from : IsLive live files → (q : List EdgeAt) (e : EdgeAt) (r : List EdgeAt) → IsSome (run files c (q ++ e ∷ r)) → lands files c (q ++ e ∷ r) ≡ true → length q < longest bounds → stays bounds files c q ≡ true → goes_on live bounds files c q ≡ true
  goes_from is_live q e r runs t short stay =
      let a = parts_of files c q (e ∷ r) runs in
      and_from (ltb (length q) (longest bounds) && stays bounds files c q) (ends_live live files c q)
      (and_from (ltb (length q) (longest bounds)) (stays bounds files c q) (lt-ltb (length q) (longest bounds) short) stay)
      (ends_live_at q a.0 a.1 (is_live a.0 (e ∷ r) (nonempty_append [] e r) a.2 (lands_rest files c a.0 q e r a.1 t)))
