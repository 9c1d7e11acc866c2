-- Nothing that matters is missed: paths are met whose beginnings are all gone on with.
use Rattle.std.proofs.Common.{◌≡◌, ◌≢◌, ℕ, zero, suc, ◌+◌, ◌<◌, ◌≤◌, Bool, true, false, ◌&&◌, ◌||◌, List, [], ◌∷◌, ◌++◌, length, Option, Some, None, is_some, MatchOption, Contains, All, Decides, sym, refl, ap, ◌∙◌, subst, arith, append_assoc, append-nil, length-append, leb, leb-true, le-leb, ◌⊎◌, inl, inr}
use Rattle.std.specs.Bool.{⊤}
use Rattle.std.proofs.lemmas.Bool.{false≢true, and_from, and_parts, or_right, or_left, cases_Bool, false_from_ne_true}
use Rattle.std.proofs.lemmas.Bool.Decides.{Decides-and}
use Rattle.std.proofs.lemmas.List.{same_from_push}
use Rattle.graph_nodes.specs.Graph.{Graph}
use Rattle.partial_path.specs.declared.config.Config.{Config}
use Rattle.partial_path.specs.declared.config.EdgeAt.{EdgeAt}
use Rattle.partial_path.specs.declared.bounds.Bounds.{Bounds}
use Rattle.partial_path.specs.declared.rule.Start.{Start}
use Rattle.partial_path.specs.declared.rule.Start.TheVariants.{Before, After}
use Rattle.partial_path.specs.Step.{start, step}
use Rattle.partial_path.specs.Runs.{IsShallow, IsBounded}
use Rattle.partial_path.specs.Rules.{Rule}
use Rattle.partial_path.specs.PathSets.{FileRules}
use Rattle.partial_path.specs.Sources.{IsSourceFile, graphs_of, rules_offered}
use Rattle.partial_path.specs.Cutting.{path_edges, PathsLead, LeadFrom, edge_count, heights}
use Rattle.partial_path.specs.Laws.{AreStraightPaths}
use Rattle.stitcher.specs.Joins.{Asked, Joined, joined, with_path, origin, none_joined, is_none, start_behind, next_start, is_at_cut, is_bounded, goes_on, offered_to, longer, meets, met, lands, is_at_result}
use Rattle.stitcher.specs.Laws.{CutLaws}
use Rattle.list_facts.specs.Members.{IsIn}
use Rattle.list_facts.proofs.Members.{IsIn-flat_map, IsIn-from_Contains}
use Rattle.stitcher.proofs.Leading.{IsNext, lead_with, lead_once, parts, path_edges-append, split_last, nonempty_with}
use Rattle.stitcher.proofs.Straight.{keeps_from, straight_front}
use Rattle.stitcher.proofs.Offered.{stored_nonempty}
use Rattle.stitcher.proofs.Meeting.{Stands, none_stands, in_longer}

match_more : {P Q : Config → Type 0} (o : Option Config) → ((next : Config) → P next → Q next) → MatchOption o ⊤ P → MatchOption o ⊤ Q
match_more None f h = h
match_more (Some next) f h = f next h

shallow_front : (d : ℕ) (files : List Graph) (c : Config) (a b : List EdgeAt) → IsShallow d files c (a ++ b) → IsShallow d files c a
shallow_front d files c [] [] h = h
shallow_front d files c [] (e ∷ b) h = h.0
shallow_front d files c (e ∷ a) b h = (h.0, match_more (step files c e) (λ next. shallow_front d files next a b) h.1)

bounded_front : (bounds : Bounds) (files : List Graph) (c : Config) (a b : List EdgeAt) → IsBounded bounds files c (a ++ b) → IsBounded bounds files c a
bounded_front bounds files c a b h = record {
  edges = (let n = length-append a b in let l : length (a ++ b) ≤ bounds.edges = h.edges in omega arith);
  depth = shallow_front bounds.depth files c a b h.depth;
}

some_length : {X : Type 0} (xs : List X) → xs ≢ [] → 1 ≤ length xs
some_length [] some = absurd (some refl)
some_length (x ∷ xs) some = omega arith

-- each of the paths has an edge
length_edge_count : (files : List FileRules) → All IsSourceFile files → (s : Start) (c end : Config) (paths : List (ℕ × Rule)) → PathsLead files s c paths end → length paths ≤ edge_count paths
length_edge_count files sources s c end [] h = omega arith
length_edge_count files sources s c end (p ∷ paths) h =
    let rest : length paths ≤ edge_count paths = length_edge_count files sources (After h.2.spot) h.2 end paths h.4 in
    let one : 1 ≤ length p.1.edges = some_length p.1.edges (stored_nonempty files p sources h.0) in
    omega arith

pub behind_with : (s : Start) (paths : List (ℕ × Rule)) (p : ℕ × Rule) (at : Config) → start_behind s (with_path paths p) at ≡ After at.spot
behind_with s [] p at = refl
behind_with s (x ∷ paths) p at = refl

nat_le_decides : (a b : ℕ) → Decides (leb a b) (a ≤ b)
nat_le_decides a b = (leb-true a b, le-leb a b)

module _ (laws : CutLaws) (q : Asked) (sources : All IsSourceFile q.files) (begins : start (graphs_of q.files) q.node ≡ Some q.start) where
  -- the search goes on from each beginning of the paths
  abbrev pub FrontsGo : List (ℕ × Rule) → Type 0
  FrontsGo whole = (b : Joined) (rest : List (ℕ × Rule)) → b.paths ++ rest ≡ whole → rest ≢ [] → Stands q b → goes_on q b ≡ true

  -- the test of the bounds decides whether the run is bounded
  pub bounded_decides : (j : Joined) → Stands q j → j.paths ≢ [] → Decides (is_bounded q j.paths) (IsBounded q.bounds (graphs_of q.files) q.start (path_edges j.paths))
  bounded_decides j s some =
      let d = Decides-and _ _ (nat_le_decides (edge_count j.paths) q.bounds.edges) (nat_le_decides (heights (origin q) j.paths) q.bounds.depth) in
      let b = laws.bounds q.bounds q.files q.node q.start j.at j.paths sources begins some s.leads in
      (λ t. b.1 (d.0 t), λ h. d.1 (b.0 h))

  -- the paths with the next one: met where the shorter ones are gone on with
  record IsStep (j : Joined) (p : ℕ × Rule) (next : Config) : Type 0 where
    stands : Stands q (joined (with_path j.paths p) next)
    there : goes_on q j ≡ true → IsIn (joined (with_path j.paths p) next) (longer q j)

  step_in : (whole : List (ℕ × Rule)) → AreStraightPaths q.files q.node q.start whole → (j : Joined) (p : ℕ × Rule) (next : Config) (more : List (ℕ × Rule)) → Stands q j → j.paths ++ p ∷ more ≡ whole → IsNext q.files (Before q.node) j.paths j.at p next → IsStep j p next
  step_in whole straight j p next more s is n =
      let leads = lead_with q.files (Before q.node) (origin q) j.at next j.paths p s.leads n in
      let on : with_path j.paths p ++ more ≡ whole = append_assoc j.paths (p ∷ []) more ∙ is in
      let there = straight_front q (with_path j.paths p) more next leads (subst (AreStraightPaths q.files q.node q.start) (sym on) straight) in
      let offered = laws.offered q.files p.0 n.stored.0 p.1 j.at n.stored.1 n.stored.2 (ap is_some n.applies) in record {
        stands = record { leads = leads; straight = there };
        there = λ goes.
            in_longer q j p next goes
            (IsIn-from_Contains (offered_to q j) p
            (subst (λ (st : Start). Contains (rules_offered q.files st j.at.stacks.symbols) p) n.begins offered))
            n.applies (keeps_from q j.paths j.at next p s.leads n.applies there);
      }

  next_of : (j : Joined) (p : ℕ × Rule) (more : List (ℕ × Rule)) (end : Config) → (h : PathsLead q.files (next_start q j) j.at (p ∷ more) end) → IsNext q.files (Before q.node) j.paths j.at p h.2
  next_of j p more end h = record { stored = h.0; begins = h.1; applies = h.3 }

  rest_of : (j : Joined) (p : ℕ × Rule) (more : List (ℕ × Rule)) (end : Config) → (h : PathsLead q.files (next_start q j) j.at (p ∷ more) end) → PathsLead q.files (next_start q (joined (with_path j.paths p) h.2)) h.2 more end
  rest_of j p more end h =
      subst (λ (s : Start). PathsLead q.files s h.2 more end) (sym (behind_with (Before q.node) j.paths p h.2)) h.4

  pub in_meets : (whole : List (ℕ × Rule)) (end : Config) → AreStraightPaths q.files q.node q.start whole → FrontsGo whole → (n : ℕ) (j : Joined) (p : ℕ × Rule) (more : List (ℕ × Rule)) → Stands q j → j.paths ++ p ∷ more ≡ whole → PathsLead q.files (next_start q j) j.at (p ∷ more) end → length more < n → IsIn (joined whole end) (meets n q j)
  in_meets whole end straight each zero j p more s is h lt = absurd (omega (arith, lt))
  in_meets whole end straight each (suc n) j p [] s is h lt =
      let t = step_in whole straight j p h.2 [] s is (next_of j p [] end h) in
      IsIn-flat_map (λ (next : Joined). next ∷ meets n q next) (joined (with_path j.paths p) h.2) (joined whole end) (longer q j)
      (t.there (each j (p ∷ []) is (λ e. cc) s))
      (inl (λ i. joined (sym is i) (sym h.4 i)))
  in_meets whole end straight each (suc n) j p (x ∷ more) s is h lt =
      let t = step_in whole straight j p h.2 (x ∷ more) s is (next_of j p (x ∷ more) end h) in
      IsIn-flat_map (λ (next : Joined). next ∷ meets n q next) (joined (with_path j.paths p) h.2) (joined whole end) (longer q j)
      (t.there (each j (p ∷ x ∷ more) is (λ e. cc) s))
      (inr (in_meets whole end straight each n (joined (with_path j.paths p) h.2) x more t.stands
      (append_assoc j.paths (p ∷ []) (x ∷ more) ∙ is) (rest_of j p (x ∷ more) end h) (omega (arith, lt))))

  -- the beginning of paths that stand
  stands_front : (a : List (ℕ × Rule)) (p : ℕ × Rule) (b : List (ℕ × Rule)) (end : Config) → Stands q (joined (a ++ p ∷ b) end) → (mid : Config) × Stands q (joined a mid)
  stands_front a p b end s =
      let r = parts q.files (Before q.node) (origin q) end a p b s.leads in
      (r.mid, record { leads = r.leads; straight = straight_front q a (p ∷ b) r.mid r.leads s.straight })

  pub count_of : (j : Joined) → Stands q j → (ps : List (ℕ × Rule)) → j.paths ≡ ps → goes_on q j ≡ true → length j.paths ≤ q.bounds.edges
  count_of j s [] e t = let n = ap length e in omega arith
  count_of j s (x ∷ ps) e t =
      let f : is_none j.paths ≡ false = ap is_none e in
      let both : (is_none j.paths || (is_at_cut q j.at && is_bounded q j.paths)) ≡ true = t in
      let rest : (is_at_cut q j.at && is_bounded q j.paths) ≡ true =
      ap (λ (b : Bool). b || (is_at_cut q j.at && is_bounded q j.paths)) (sym f) ∙ both in
      let b = (and_parts (is_at_cut q j.at) (is_bounded q j.paths) rest).1 in
      let few : edge_count j.paths ≤ q.bounds.edges = leb-true (edge_count j.paths) q.bounds.edges (and_parts (leb (edge_count j.paths) q.bounds.edges) (leb (heights (origin q) j.paths) q.bounds.depth) b).0 in
      let each = length_edge_count q.files sources (Before q.node) (origin q) j.at j.paths s.leads in
      omega arith

  -- paths are met whose beginnings are gone on with
  pub in_met : (whole : List (ℕ × Rule)) (end : Config) → whole ≢ [] → Stands q (joined whole end) → FrontsGo whole → IsIn (joined whole end) (met q)
  in_met [] end some s each = absurd (some refl)
  in_met (p ∷ more) end some s each =
      let l = split_last (p ∷ more) some in
      let f = stands_front l.0 l.1 [] end (subst (λ (ps : List (ℕ × Rule)). Stands q (joined ps end)) l.2 s) in
      let go = each (joined l.0 f.0) (l.1 ∷ []) (sym l.2) (λ e. cc) f.1 in
      let few : length l.0 ≤ q.bounds.edges = count_of (joined l.0 f.0) f.1 l.0 refl go in
      let whole : length (l.0 ++ l.1 ∷ []) ≡ length l.0 + 1 = length-append l.0 (l.1 ∷ []) in
      let same : length (p ∷ more) ≡ length (l.0 ++ l.1 ∷ []) = ap length l.2 in
      in_meets (p ∷ more) end s.straight each (q.bounds.edges + 1) (none_joined q) p more (none_stands q) refl s.leads (omega arith)

  -- where more paths follow, these end at a cut
  cut_before : (j : Joined) (rest whole : List (ℕ × Rule)) (end : Config) → Stands q j → j.paths ≢ [] → j.paths ++ rest ≡ whole → rest ≢ [] → LeadFrom q.files q.node whole end → is_at_cut q j.at ≡ true
  cut_before j [] whole end s some is more leads = absurd (more refl)
  cut_before j (p ∷ rest) whole end s some is more leads =
      let c = laws.beginnings q.files q.node end j.paths p rest sources some (subst (λ (ps : List (ℕ × Rule)). LeadFrom q.files q.node ps end) (sym is) leads) in
      (laws.tell q.files q.node q.start j.at j.paths sources begins some s.leads).closed.0 c.closed

  goes_from : (j : Joined) (ps : List (ℕ × Rule)) → j.paths ≡ ps → (j.paths ≢ [] → (is_at_cut q j.at && is_bounded q j.paths) ≡ true) → goes_on q j ≡ true
  goes_from j [] e f = or_left (is_none j.paths) (is_at_cut q j.at && is_bounded q j.paths) (ap is_none e)
  goes_from j (x ∷ ps) e f = or_right (is_none j.paths) (is_at_cut q j.at && is_bounded q j.paths) (f (λ z. some (sym e ∙ z)))
    where
      some : x ∷ ps ≡ [] → ⊥
      some z = cc

  -- the beginnings of a bounded run are gone on with
  pub bounded_fronts : (whole : List (ℕ × Rule)) (end : Config) → Stands q (joined whole end) → IsBounded q.bounds (graphs_of q.files) q.start (path_edges whole) → FrontsGo whole
  bounded_fronts whole end s bounded b rest is more t =
      goes_from b b.paths refl
      (λ some.
      and_from (is_at_cut q b.at) (is_bounded q b.paths) (cut_before b rest whole end t some is more s.leads)
      ((bounded_decides b t some).1
      (bounded_front q.bounds (graphs_of q.files) q.start (path_edges b.paths) (path_edges rest)
      (subst (λ (es : List EdgeAt). IsBounded q.bounds (graphs_of q.files) q.start es) (ap path_edges (sym is) ∙ path_edges-append b.paths rest) bounded))))

  -- paths at which the search stops: they land, and aren't bounded
  pub record IsStop : Type 0 where
    pub paths : List (ℕ × Rule)
    pub at : Config
    pub some : paths ≢ []
    pub stands : Stands q (joined paths at)
    pub lands_there : lands q (joined paths at) ≡ true
    pub unbounded : is_bounded q paths ≡ false
    pub fronts : FrontsGo paths

  pub same_joined : (a b : Joined) → Stands q a → Stands q b → a.paths ≡ b.paths → a ≡ b
  same_joined a b s t e =
      let at : a.at ≡ b.at =
      lead_once q.files (Before q.node) (origin q) a.at b.at b.paths
      (subst (λ (ps : List (ℕ × Rule)). LeadFrom q.files q.node ps a.at) e s.leads) t.leads in
      λ i. joined (e i) (at i)

  fronts_push : (j : Joined) (p : ℕ × Rule) → Stands q j → FrontsGo j.paths → goes_on q j ≡ true → FrontsGo (with_path j.paths p)
  fronts_push j p s each goes b rest is more t =
      let l = split_last rest more in
      let on : (b.paths ++ l.0) ++ l.1 ∷ [] ≡ j.paths ++ p ∷ [] =
      append_assoc b.paths l.0 (l.1 ∷ []) ∙ (ap (λ (ps : List (ℕ × Rule)). b.paths ++ ps) (sym l.2) ∙ is) in
      by l.0 (same_from_push (b.paths ++ l.0) j.paths l.1 p on).0
    where
      by : (before : List (ℕ × Rule)) → b.paths ++ before ≡ j.paths → goes_on q b ≡ true
      by [] e = subst (λ (x : Joined). goes_on q x ≡ true) (sym (same_joined b j t s (sym (append-nil b.paths) ∙ e))) goes
      by (x ∷ before) e = each b (x ∷ before) e (λ z. cc) t

  some_there : (j : Joined) → goes_on q j ≡ false → j.paths ≢ []
  some_there j f e = false≢true (sym f ∙ or_left (is_none j.paths) (is_at_cut q j.at && is_bounded q j.paths) (ap is_none e))

  stop_here : (j : Joined) (rest whole : List (ℕ × Rule)) (end : Config) → Stands q j → j.paths ++ rest ≡ whole → rest ≢ [] → LeadFrom q.files q.node whole end → FrontsGo j.paths → goes_on q j ≡ false → IsStop
  stop_here j rest whole end s is more leads each f =
      let some = some_there j f in
      let cut = cut_before j rest whole end s some is more leads in record {
        paths = j.paths;
        at = j.at;
        some = some;
        stands = s;
        lands_there = or_left (is_at_cut q j.at) (is_at_result q j.at) cut;
        unbounded = false_from_ne_true (is_bounded q j.paths)
            (λ t. false≢true (sym f ∙ goes_from j j.paths refl (λ some. and_from (is_at_cut q j.at) (is_bounded q j.paths) cut t)));
        fronts = each;
      }

  stop_by : (j : Joined) (rest whole : List (ℕ × Rule)) (end : Config) → Stands q j → j.paths ++ rest ≡ whole → rest ≢ [] → LeadFrom q.files q.node whole end → FrontsGo j.paths → (goes_on q j ≡ true → IsStop) → (goes_on q j ≡ true) ⊎ (goes_on q j ≡ false) → IsStop
  stop_by j rest whole end s is more leads each later (inl t) = later t
  stop_by j rest whole end s is more leads each later (inr f) = stop_here j rest whole end s is more leads each f

  stop_of : (whole : List (ℕ × Rule)) (end : Config) → whole ≢ [] → Stands q (joined whole end) → lands q (joined whole end) ≡ true → is_bounded q whole ≡ false → (j : Joined) (rest : List (ℕ × Rule)) → Stands q j → j.paths ++ rest ≡ whole → PathsLead q.files (next_start q j) j.at rest end → FrontsGo j.paths → IsStop
  stop_of whole end some s t f j [] sj is h each =
      let same : j.paths ≡ whole = sym (append-nil j.paths) ∙ is in record {
        paths = whole;
        at = end;
        some = some;
        stands = s;
        lands_there = t;
        unbounded = f;
        fronts = subst FrontsGo same each;
      }
  stop_of whole end some s t f j (p ∷ rest) sj is h each =
      stop_by j (p ∷ rest) whole end sj is (λ e. cc) s.leads each
      (λ goes.
      stop_of whole end some s t f (joined (with_path j.paths p) h.2) rest
      (step_in whole s.straight j p h.2 rest sj is (next_of j p rest end h)).stands
      (append_assoc j.paths (p ∷ []) rest ∙ is) (rest_of j p rest end h) (fronts_push j p sj each goes))
      (cases_Bool (goes_on q j))

  no_fronts : FrontsGo []
  no_fronts b [] is more t = absurd (more refl)
  no_fronts b (x ∷ rest) is more t = absurd (nonempty_with b.paths x rest is)

  -- where paths land and aren't bounded, the search meets such as stop it
  pub stop : (whole : List (ℕ × Rule)) (end : Config) → whole ≢ [] → Stands q (joined whole end) → lands q (joined whole end) ≡ true → is_bounded q whole ≡ false → IsStop
  stop whole end some s t f = stop_of whole end some s t f (none_joined q) whole (none_stands q) refl s.leads no_fronts
