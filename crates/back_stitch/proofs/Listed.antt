-- Which stored paths a look-up by a spot lists, and what comes of them one after the other.
use Rattle.std.proofs.Common.{◌≡◌, ◌≢◌, refl, sym, ap, ◌∙◌, subst, ℕ, zero, suc, ◌+◌, List, [], ◌∷◌, ◌++◌, map, filter, length, true, Option, Some, None, arith, length-append, append_assoc, append-nil, ◌⊎◌, inl, inr}
use Rattle.std.specs.Prelude.{All, slice_get, Contains}
use Rattle.std.specs.List.{AllByRecursion, flat_map}
use Rattle.std.proofs.lemmas.Option.{none-some, same_Some}
use Rattle.std.proofs.lemmas.List.Elements.{All-tail, filter-append}
use Rattle.graph_nodes.specs.Graph.{Graph}
use Rattle.stacks_vars.specs.declared.scopes.NodeAt.{NodeAt}
use Rattle.stacks_vars.specs.declared.patterns.SymPat.{SymPat}
use Rattle.partial_path.specs.declared.config.Spot.{Spot}
use Rattle.partial_path.specs.declared.config.Spot.TheVariants.{At}
use Rattle.partial_path.specs.declared.rule.Start.TheVariants.{After}
use Rattle.partial_path.specs.Rules.{Rule}
use Rattle.partial_path.specs.Moved.{moved, moved_start}
use Rattle.partial_path.specs.PathSets.{FileRules, walk_of_rule}
use Rattle.partial_path.specs.Sources.{IsSourceFile, graphs_of, numbered}
use Rattle.partial_path.specs.Cutting.{IsStoredIn}
use Rattle.list_facts.specs.Members.{IsIn}
use Rattle.list_facts.specs.Apart.{IsApart}
use Rattle.list_facts.proofs.Members.{IsIn-append_left, IsIn-append_right, IsIn-append_cases, IsIn-map, IsIn-map_from, IsIn-filter, IsIn-filter_from, IsIn-from_Contains, Contains-from_IsIn}
use Rattle.list_facts.proofs.Apart.{absent, all_differ, IsApart-append, IsApart-map, IsApart-filter}
use Rattle.back_stitch.specs.Lists.{most_lists}
use Rattle.back_stitch.specs.Sources.{may_end_at, rules_to_in, rules_to_after, agrees, AreEnds}
use Rattle.back_stitch.specs.Held.{IsBack, IsHeld, AreHeld, IsOutcome, begun, AreThose, in_front, HasExtended, IsOverfull, goes_on}
use Rattle.back_stitch.proofs.Agreed.{front_agrees, alone_agrees}
use Rattle.back_stitch.proofs.Stood.{stands, rest_of, first_may}
use Rattle.back_stitch.proofs.Searched.{P, held-append, flat_map-append, ListsAll}

-- stored in one of the files, of which the first has that number
abbrev IsStoredFrom : ℕ → List FileRules → P → Type 0
IsStoredFrom k files p = (i : ℕ) × (p.0 ≡ k + i) × (f : FileRules) × (slice_get files i ≡ Some f) × Contains f.rules p.1

module _ (graphs : List Graph) (at : Spot) where
  out_of : (k : ℕ) (files : List FileRules) (p : P) → IsIn p (rules_to_after graphs k files at) → IsStoredFrom k files p × (may_end_at graphs at (moved p.0 p.1) ≡ true)
  out_of k [] p h = absurd h
  out_of k (f ∷ files) p h = by (IsIn-append_cases p (rules_to_in graphs k f at) (rules_to_after graphs (k + 1) files at) h) (λ g. out_of (k + 1) files p g)
    where
      here : (rule : Rule) → IsIn rule (filter (λ (r : Rule). may_end_at graphs at (moved k r)) f.rules) → numbered k rule ≡ p
          → IsStoredFrom k (f ∷ files) p × (may_end_at graphs at (moved p.0 p.1) ≡ true)
      here rule g is =
          let both = IsIn-filter_from (λ (r : Rule). may_end_at graphs at (moved k r)) rule f.rules g in
          subst (λ (q : P). IsStoredFrom k (f ∷ files) q × (may_end_at graphs at (moved q.0 q.1) ≡ true)) is
          ((zero, omega arith, f, refl, Contains-from_IsIn f.rules rule both.0), both.1)

      by : IsIn p (rules_to_in graphs k f at) ⊎ IsIn p (rules_to_after graphs (k + 1) files at)
          → (IsIn p (rules_to_after graphs (k + 1) files at) → IsStoredFrom (k + 1) files p × (may_end_at graphs at (moved p.0 p.1) ≡ true))
          → IsStoredFrom k (f ∷ files) p × (may_end_at graphs at (moved p.0 p.1) ≡ true)
      by (inl g) on =
          let (rule, there, is) = IsIn-map_from (numbered k) p (filter (λ (r : Rule). may_end_at graphs at (moved k r)) f.rules) g in here rule there is
      by (inr g) on =
          let ((i, number, file, found, stored), ends) = on g in
          ((suc i, omega (arith, number), file, found, stored), ends)

  into : (k : ℕ) (files : List FileRules) (p : P) → IsStoredFrom k files p → may_end_at graphs at (moved p.0 p.1) ≡ true → IsIn p (rules_to_after graphs k files at)
  into k [] p (i, number, file, found, stored) ends = absurd (none-some file found)
  into k (f ∷ files) p (zero, number, file, found, stored) ends =
      let same : file ≡ f = sym (same_Some f file found) in
      let k_is : k ≡ p.0 = omega (arith, number) in
      let there : IsIn p.1 f.rules = IsIn-from_Contains f.rules p.1 (subst (λ (g : FileRules). Contains g.rules p.1) same stored) in
      let own : IsIn p (rules_to_in graphs p.0 f at) =
      IsIn-map (numbered p.0) p.1 (filter (λ (r : Rule). may_end_at graphs at (moved p.0 r)) f.rules) (IsIn-filter (λ (r : Rule). may_end_at graphs at (moved p.0 r)) p.1 f.rules there ends) in
      IsIn-append_left p (rules_to_in graphs k f at) (rules_to_after graphs (k + 1) files at) (subst (λ (n : ℕ). IsIn p (rules_to_in graphs n f at)) (sym k_is) own)
  into k (f ∷ files) p (suc i, number, file, found, stored) ends =
      IsIn-append_right p (rules_to_in graphs k f at) (rules_to_after graphs (k + 1) files at)
      (into (k + 1) files p (i, omega (arith, number), file, found, stored) ends)

  apart_unmapped : {X Y : Type 0} (f : X → Y) (xs : List X) → IsApart (map f xs) → IsApart xs
  apart_unmapped f [] h = tt
  apart_unmapped f (x ∷ xs) h = (all_differ x xs (λ here. absent (f x) (map f xs) h.0 (IsIn-map f x xs here)), apart_unmapped f xs h.1)

  same_rule : (k : ℕ) (a b : Rule) → numbered k a ≡ numbered k b → a ≡ b
  same_rule k a b e = ap (λ (p : P). p.1) e

  apart_in : (k : ℕ) (f : FileRules) → IsSourceFile f → IsApart (rules_to_in graphs k f at)
  apart_in k f source =
      IsApart-map (numbered k) (same_rule k) (filter (λ (r : Rule). may_end_at graphs at (moved k r)) f.rules)
      (IsApart-filter (λ (r : Rule). may_end_at graphs at (moved k r)) f.rules (apart_unmapped walk_of_rule f.rules source.sets.rules.once))

  apart_after : (k : ℕ) (files : List FileRules) → All IsSourceFile files → IsApart (rules_to_after graphs k files at)
  apart_after k [] sources = tt
  apart_after k (f ∷ files) sources =
      IsApart-append (rules_to_in graphs k f at) (rules_to_after graphs (k + 1) files at) (apart_in k f (sources 0 f (omega arith)))
      (apart_after (k + 1) files (All-tail IsSourceFile f files sources))
      (λ p here there.
      let (rule, g, is) = IsIn-map_from (numbered k) p (filter (λ (r : Rule). may_end_at graphs at (moved k r)) f.rules) here in
      let own : k ≡ p.0 = ap (λ (q : P). q.0) is in
      let ((i, number, file, found, stored), ends) = out_of (k + 1) files p there in
      omega (arith, own, number))

-- what a look-up lists

module _ (files : List FileRules) (d : NodeAt) (sources : All IsSourceFile files) where
  pub listed_apart : (at : Spot) (symbols : List SymPat) (listed : List P) → AreEnds files at symbols listed → IsApart listed
  listed_apart at symbols listed ends = ends.apart (apart_after (graphs_of files) at 0 files sources)

  listed_is : (at : Spot) (symbols : List SymPat) (listed : List P) (p : P) → AreEnds files at symbols listed → IsIn p listed
      → IsStoredIn files p × (may_end_at (graphs_of files) at (moved p.0 p.1) ≡ true)
  listed_is at symbols listed p ends here =
      let ((i, number, file, found, stored), may) = out_of (graphs_of files) at 0 files p (ends.sound p here) in
      let i_is : i ≡ p.0 = omega (arith, number) in
      ((file, subst (λ (n : ℕ). slice_get files n ≡ Some file) i_is found, stored), may)

  listed_has : (at : Spot) (symbols : List SymPat) (listed : List P) (p : P) → AreEnds files at symbols listed → IsStoredIn files p → may_end_at (graphs_of files) at (moved p.0 p.1) ≡ true
      → agrees symbols p.1.post.symbols ≡ true → IsIn p listed
  listed_has at symbols listed p ends (file, found, stored) may agree =
      ends.complete p (into (graphs_of files) at 0 files p (p.0, omega arith, file, found, stored) may) agree

  -- all that may be joined in front of a list which begins behind the spot
  pub lists_behind : (at : Spot) (listed : List P) (j : Rule) (q : P) (paths : List P) → AreEnds files at j.pre.symbols listed → After at ≡ moved_start q.0 q.1.start
      → IsHeld files d (q ∷ paths) j → ListsAll files d sources (q ∷ paths) listed
  lists_behind at listed j q paths ends begins held p (start, back) =
      let rest = rest_of files d start p q paths sources back in
      let there : rest.at ≡ at = same_spot rest.at at (sym rest.begins ∙ sym begins) in
      listed_has at j.pre.symbols listed p ends rest.stored (subst (λ (s : Spot). may_end_at (graphs_of files) s (moved p.0 p.1) ≡ true) there rest.may)
      (front_agrees files d start p (q ∷ paths) j held back)
    where
      same_spot : (a b : Spot) → After a ≡ After b → a ≡ b
      same_spot a b e = cc

  -- all that lead to the definition at once
  pub lists_first : (listed : List P) → AreEnds files (At d) [] listed → ListsAll files d sources [] listed
  lists_first listed ends p (start, back) =
      listed_has (At d) [] listed p ends back.leads.0 (first_may files d start p back) (alone_agrees files d start p back)

  -- one of them
  pub listed_next : (at : Spot) (symbols : List SymPat) (listed gone rest : List P) (p : P) → AreEnds files at symbols listed → gone ++ p ∷ rest ≡ listed
      → IsStoredIn files p × (may_end_at (graphs_of files) at (moved p.0 p.1) ≡ true)
  listed_next at symbols listed gone rest p ends whole =
      listed_is at symbols listed p ends (subst (IsIn p) whole (IsIn-append_right p gone (p ∷ rest) (inl refl)))

-- one after the other

module _ (files : List FileRules) (d : NodeAt) (paths : List P) where
  abbrev Backs : P → Type 0
  Backs p = IsBack files d (p ∷ paths)

  pub those_none : AreThose Backs [] []
  those_none = record { sound = λ x h. absurd h; complete = λ x h q. absurd h; apart = λ h. tt }

  parts : (xs ys : List P) → IsApart (xs ++ ys) → IsApart xs × IsApart ys × ((p : P) → IsIn p xs → IsIn p ys → ⊥)
  parts [] ys h = (tt, h, λ p g k. g)
  parts (x ∷ xs) ys h =
      let (left, right, differ) = parts xs ys h.1 in (
        (all_differ x xs (λ g. absent x (xs ++ ys) h.0 (IsIn-append_left x xs ys g)), left),
        right,
        λ p g k. first x xs ys h.0 p k differ g,
      )
    where
      first : (x : P) (xs ys : List P) → AllByRecursion (λ (y : P). x ≢ y) (xs ++ ys) → (p : P) → IsIn p ys → ((p : P) → IsIn p xs → IsIn p ys → ⊥) → (p ≡ x) ⊎ IsIn p xs → ⊥
      first x xs ys all p k differ (inl is) = absent x (xs ++ ys) all (IsIn-append_right x xs ys (subst (λ (z : P). IsIn z ys) is k))
      first x xs ys all p k differ (inr g) = differ p g k

  pub those_more : (gone a more b : List P) → AreThose Backs gone a → AreThose Backs more b → AreThose Backs (gone ++ more) (a ++ b)
  those_more gone a more b x y = record {
    sound = λ p h. sound p (IsIn-append_cases p a b h);
    complete = λ p h q. complete p q (IsIn-append_cases p gone more h);
    apart = λ h.
        let (left, right, differ) = parts gone more h in
        IsApart-append a b (x.apart left) (y.apart right) (λ p in_a in_b. differ p (x.sound p in_a).0 (y.sound p in_b).0);
  }
    where
      sound : (p : P) → IsIn p a ⊎ IsIn p b → IsIn p (gone ++ more) × Backs p
      sound p (inl h) = (IsIn-append_left p gone more (x.sound p h).0, (x.sound p h).1)
      sound p (inr h) = (IsIn-append_right p gone more (y.sound p h).0, (y.sound p h).1)

      complete : (p : P) → Backs p → IsIn p gone ⊎ IsIn p more → IsIn p (a ++ b)
      complete p q (inl h) = IsIn-append_left p a b (x.complete p h q)
      complete p q (inr h) = IsIn-append_right p a b (y.complete p h q)

  made-append : (a b : List P) → map (in_front paths) (a ++ b) ≡ map (in_front paths) a ++ map (in_front paths) b
  made-append [] b = refl
  made-append (p ∷ a) b = ap (λ (xs : List (List P)). (p ∷ paths) ∷ xs) (made-append a b)

  pub extended_none : (count : ℕ) (rows : List NodeAt) (work : List Rule) → HasExtended files d paths [] count count rows rows work work
  extended_none count rows work =
      ([], [], record { those = those_none; held = tt; count = omega arith; rows = sym (append-nil rows) }, sym (append-nil work))

  pub extended_more : (gone more : List P) (old middle new : ℕ) (before between after : List NodeAt) (work some all : List Rule)
      → HasExtended files d paths gone old middle before between work some → HasExtended files d paths more middle new between after some all
      → HasExtended files d paths (gone ++ more) old new before after work all
  extended_more gone more old middle new before between after work some all (a, x, e, w) (b, y, f, v) = (
    a ++ b,
    x ++ y,
    record {
      those = those_more gone a more b e.those f.those;
      held = subst (λ (ls : List (List P)). AreHeld files d ls (x ++ y)) (sym (made-append a b)) (held-append files d (map (in_front paths) a) (map (in_front paths) b) x y e.held f.held);
      count = (let n : length (a ++ b) ≡ length a + length b = length-append a b in let i = e.count in let j = f.count in omega (arith, n, i, j));
      rows = f.rows ∙ ap (λ (rs : List NodeAt). rs ++ flat_map begun y) e.rows ∙ append_assoc before (flat_map begun x) (flat_map begun y)
          ∙ ap (λ (rs : List NodeAt). before ++ rs) (sym (flat_map-append begun x y));
    },
    v ∙ ap (λ (rs : List Rule). rs ++ filter goes_on y) w ∙ append_assoc work (filter goes_on x) (filter goes_on y)
        ∙ ap (λ (rs : List Rule). work ++ rs) (sym (filter-append goes_on x y)),
  )

  -- a path of which nothing comes, and one of which a rule does
  pub extended_not : (p : P) (count : ℕ) (rows : List NodeAt) (work : List Rule) → (IsBack files d (p ∷ paths) → ⊥) → HasExtended files d paths (p ∷ []) count count rows rows work work
  extended_not p count rows work none = (
    [],
    [],
    record {
      those = record { sound = λ x h. absurd h; complete = λ x h q. absurd (only x h q); apart = λ h. tt };
      held = tt;
      count = omega arith;
      rows = sym (append-nil rows);
    },
    sym (append-nil work),
  )
    where
      only : (x : P) → (x ≡ p) ⊎ IsIn x [] → IsBack files d (x ∷ paths) → ⊥
      only x (inl is) back = none (subst (λ (y : P). IsBack files d (y ∷ paths)) is back)
      only x (inr never) back = never

  pub extended_by : (p : P) (j : Rule) (old new : ℕ) (before after : List NodeAt) (work all : List Rule) → IsBack files d (p ∷ paths) → IsHeld files d (p ∷ paths) j
      → new ≡ old + 1 → after ≡ before ++ begun j → all ≡ work ++ filter goes_on (j ∷ []) → HasExtended files d paths (p ∷ []) old new before after work all
  extended_by p j old new before after work all back held count rows is = (
    p ∷ [],
    j ∷ [],
    record {
      those = record { sound = λ x h. (h, only x h); complete = λ x h q. h; apart = λ h. h };
      held = (held, tt);
      count = count;
      rows = rows ∙ ap (λ (rs : List NodeAt). before ++ rs) (sym (append-nil (begun j)));
    },
    is,
  )
    where
      only : (x : P) → (x ≡ p) ⊎ IsIn x [] → IsBack files d (x ∷ paths)
      only x (inl h) = subst (λ (y : P). IsBack files d (y ∷ paths)) (sym h) back
      only x (inr never) = absurd never

  -- one path too many
  pub overfull : (gone rest : List P) (p : P) (old now : ℕ) (before after : List NodeAt) (work some : List Rule) (listed : List P)
      → HasExtended files d paths gone old now before after work some → listed ≡ gone ++ p ∷ rest → now ≡ most_lists → IsBack files d (p ∷ paths) → IsOverfull files d paths listed old
  overfull gone rest p old now before after work some listed (a, x, e, w) whole full back = record {
    part = gone;
    next = p;
    rest = rest;
    whole = whole;
    added = a;
    those = e.those;
    full = (let n = e.count in omega (arith, n, full));
    back = back;
  }

  -- what comes of a path, by the rule that was found for it
  pub tried_not : (p : P) (count : ℕ) (rows : List NodeAt) (work : List Rule) (found : Option Rule) → IsOutcome files d (p ∷ paths) found → found ≡ None
      → HasExtended files d paths (p ∷ []) count count rows rows work work
  tried_not p count rows work found outcome is = extended_not p count rows work (subst (λ (o : Option Rule). IsOutcome files d (p ∷ paths) o) is outcome)

  back_of : (p : P) (j : Rule) → IsHeld files d (p ∷ paths) j → IsBack files d (p ∷ paths)
  back_of p j held = (j.start, stands files d (p ∷ paths) j held.joined held.lands held.kept)

  pub tried_by : (p : P) (j : Rule) (old new : ℕ) (before after : List NodeAt) (work all : List Rule) (found : Option Rule) → IsOutcome files d (p ∷ paths) found → found ≡ Some j
      → new ≡ old + 1 → after ≡ before ++ begun j → all ≡ work ++ filter goes_on (j ∷ []) → HasExtended files d paths (p ∷ []) old new before after work all
  tried_by p j old new before after work all found outcome is count rows more =
      let held : IsHeld files d (p ∷ paths) j = subst (λ (o : Option Rule). IsOutcome files d (p ∷ paths) o) is outcome in
      extended_by p j old new before after work all (back_of p j held) held count rows more

  pub tried_back : (p : P) (j : Rule) (found : Option Rule) → IsOutcome files d (p ∷ paths) found → found ≡ Some j → IsBack files d (p ∷ paths)
  tried_back p j found outcome is = back_of p j (subst (λ (o : Option Rule). IsOutcome files d (p ∷ paths) o) is outcome)

  -- all of them
  pub extended_all : (gone listed : List P) (old new : ℕ) (before after : List NodeAt) (work all : List Rule) → gone ++ [] ≡ listed
      → HasExtended files d paths gone old new before after work all → HasExtended files d paths listed old new before after work all
  extended_all gone listed old new before after work all whole so_far =
      subst (λ (xs : List P). HasExtended files d paths xs old new before after work all) (sym (append-nil gone) ∙ whole) so_far
