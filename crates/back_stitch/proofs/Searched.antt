-- A search that joins stored paths in front of those that it knows, one list after the other, comes to all back lists.
use Rattle.std.proofs.Common.{◌≡◌, ◌≤◌, ◌<◌, refl, sym, ap, ◌∙◌, subst, ℕ, suc, ◌+◌, List, [], ◌∷◌, ◌++◌, map, length, arith, length-append, append_assoc, ◌⊎◌, inl, inr}
use Rattle.std.specs.Prelude.{All, IsTrue}
use Rattle.std.specs.List.{AllByRecursion, flat_map}
use Rattle.std.proofs.lemmas.List.{length-map}
use Rattle.graph_nodes.specs.Whole.{is_definition_of}
use Rattle.stacks_vars.specs.declared.scopes.NodeAt.{NodeAt}
use Rattle.partial_path.specs.declared.config.Spot.TheVariants.{Root}
use Rattle.partial_path.specs.declared.rule.Start.{Start}
use Rattle.partial_path.specs.declared.rule.Start.TheVariants.{After}
use Rattle.partial_path.specs.Rules.{Rule}
use Rattle.partial_path.specs.Moved.{moved_start}
use Rattle.partial_path.specs.Walks.{Walk, walk_of}
use Rattle.partial_path.specs.PathSets.{FileRules}
use Rattle.partial_path.specs.Sources.{IsSourceFile, graphs_of}
use Rattle.partial_path.specs.Cutting.{path_edges}
use Rattle.list_facts.specs.Members.{IsIn}
use Rattle.list_facts.specs.Apart.{IsApart}
use Rattle.list_facts.proofs.Each.{all-append}
use Rattle.list_facts.proofs.Members.{IsIn-append_left, IsIn-append_right, IsIn-append_cases, IsIn-map, IsIn-map_from, at_member, each_member}
use Rattle.list_facts.proofs.Apart.{absent, all_differ, IsApart-append, IsApart-append_left, IsApart-swap, IsApart-last, IsApart-map}
use Rattle.list_facts.proofs.Sums.{length-apart_le}
use Rattle.back_stitch.specs.Lists.{most_lists, IsBackList, HasMany}
use Rattle.back_stitch.specs.Paths.{IsBackPath}
use Rattle.back_stitch.specs.Held.{IsBack, AreHeld, begun, AreThose, in_front, IsExtended}
use Rattle.back_stitch.proofs.OnlyCut.{cuts_from_are_unique}
use Rattle.back_stitch.proofs.Stood.{list_of, paths_of, rest_of}

-- lists

first_same : {X : Type 0} (x y : X) (xs ys : List X) → x ∷ xs ≡ y ∷ ys → x ≡ y
first_same x y xs ys e = cc

rest_same : {X : Type 0} (x y : X) (xs ys : List X) → x ∷ xs ≡ y ∷ ys → xs ≡ ys
rest_same x y xs ys e = cc

longer : {X : Type 0} (x : X) (xs ys : List X) → x ∷ xs ≡ ys → length ys ≡ suc (length xs)
longer x xs ys e = sym (ap length e)

not_its_rest : {X : Type 0} (x : X) (xs : List X) → x ∷ xs ≡ xs → ⊥
not_its_rest x xs e = let n : length xs ≡ suc (length xs) = longer x xs xs e in omega (arith, n)

apart_mapped : {X Y : Type 0} (f : X → Y) (xs : List X) → ((a b : X) → IsIn a xs → IsIn b xs → f a ≡ f b → a ≡ b) → IsApart xs → IsApart (map f xs)
apart_mapped f [] same apart = tt
apart_mapped {X} {Y} f (x ∷ xs) same apart = (
  all_differ (f x) (map f xs) (λ here.
      let (b, in_xs, is) = IsIn-map_from f (f x) xs here in
      absent x xs apart.0 (subst (λ (z : X). IsIn z xs) (sym (same x b (inl refl) (inr in_xs) (sym is))) in_xs)),
  apart_mapped f xs (λ a b h k. same a b (inr h) (inr k)) apart.1,
)

pub flat_map-append : {X Y : Type 0} (f : X → List Y) (xs ys : List X) → flat_map f (xs ++ ys) ≡ flat_map f xs ++ flat_map f ys
flat_map-append f [] ys = refl
flat_map-append f (x ∷ xs) ys = ap (λ zs. f x ++ zs) (flat_map-append f xs ys) ∙ sym (append_assoc (f x) (flat_map f xs) (flat_map f ys))

-- which stored paths there are

abbrev pub P : Type 0
P = ℕ × Rule

pub held-append : (files : List FileRules) (d : NodeAt) (a b : List (List P)) (x y : List Rule) → AreHeld files d a x → AreHeld files d b y → AreHeld files d (a ++ b) (x ++ y)
held-append files d [] b [] y h k = k
held-append files d [] b (j ∷ x) y h k = absurd h
held-append files d (ps ∷ a) b [] y h k = absurd h
held-append files d (ps ∷ a) b (j ∷ x) y h k = (h.0, held-append files d a b x y h.1 k)

-- the start of the first of the paths
abbrev head_start : List P → Start
head_start [] = After Root
head_start (p ∷ paths) = moved_start p.0 p.1.start

leads_head : (files : List FileRules) (d : NodeAt) (start : Start) (paths : List P) → IsBackPath files d start paths → head_start paths ≡ start
leads_head files d start [] b = absurd (b.nonempty refl)
leads_head files d start (p ∷ paths) b = b.leads.1

-- the back list of stored paths
abbrev pub list_by : List P → Walk
list_by paths = walk_of (head_start paths) (path_edges paths)

module _ (files : List FileRules) (d : NodeAt) (sources : All IsSourceFile files) where
  back_list : (paths : List P) → IsBack files d paths → IsBackList (graphs_of files) d (list_by paths)
  back_list paths (start, b) =
      subst (λ (s : Start). IsBackList (graphs_of files) d (walk_of s (path_edges paths))) (sym (leads_head files d start paths b)) (list_of files d start paths sources b)

  one_list : (a b : List P) → IsBack files d a → IsBack files d b → list_by a ≡ list_by b → a ≡ b
  one_list a b (s, x) (t, y) same =
      let start : t ≡ s = sym (leads_head files d t b y) ∙ sym (ap (λ (w : Walk). w.start) same) ∙ leads_head files d s a x in
      let z : IsBackPath files d s b = subst (λ (u : Start). IsBackPath files d u b) start y in
      cuts_from_are_unique files s _ _ x.end z.end a b sources x.leads z.leads (ap (λ (w : Walk). w.edges) same)

  -- apart paths that are back lists are apart back lists
  lists_apart : (all : List (List P)) → AllByRecursion (IsBack files d) all → IsApart all → IsApart (map list_by all)
  lists_apart all each apart = apart_mapped list_by all (λ a b h k same. one_list a b (at_member (IsBack files d) a all each h) (at_member (IsBack files d) b all each k) same) apart

  lists_each : (all : List (List P)) → AllByRecursion (IsBack files d) all → AllByRecursion (IsBackList (graphs_of files) d) (map list_by all)
  lists_each [] h = tt
  lists_each (paths ∷ all) h = (back_list paths h.0, lists_each all h.1)

  -- too many of them
  pub many : (all : List (List P)) → AllByRecursion (IsBack files d) all → IsApart all → most_lists < length all → HasMany (graphs_of files) d
  many all each apart big =
      let n : length (map list_by all) ≡ length all = length-map all list_by in
      (map list_by all, lists_apart all each apart, lists_each all each, omega (arith, big, n))

  -- the state of the search: the back lists that are known, and those of them in front of which nothing was joined yet
  pub record IsSearched (opens noted : List (List P)) (rules : List Rule) (count : ℕ) (rows : List NodeAt) : Type 0 where
    pub known : AllByRecursion (IsBack files d) noted
    pub apart : IsApart noted
    pub opens_apart : IsApart opens
    pub opens_in : (paths : List P) → IsIn paths opens → IsIn paths noted
    pub first : (p : P) → IsBack files d (p ∷ []) → IsIn (p ∷ []) noted
    pub closed : (p : P) (paths : List P) → IsIn paths noted → IsBack files d (p ∷ paths) → IsIn (p ∷ paths) noted ⊎ IsIn paths opens
    pub fresh : (p : P) (paths : List P) → IsIn paths opens → IsIn (p ∷ paths) noted → ⊥
    pub tails : (p q : P) (paths : List P) → IsIn (p ∷ q ∷ paths) noted → IsIn (q ∷ paths) noted
    pub held : AreHeld files d noted rules
    pub counted : count ≡ length noted
    pub told : rows ≡ flat_map begun rules

  -- the lists that are made of one by joining
  abbrev pub made : List P → List P → List (List P)
  made paths added = map (in_front paths) added

  pub made_apart : (paths added : List P) → IsApart added → IsApart (made paths added)
  made_apart paths added apart = IsApart-map (in_front paths) (λ a b e. first_same a b paths paths e) added apart

  pub made_each : (paths added listed : List P) → AreThose (λ (p : P). IsBack files d (p ∷ paths)) listed added → AllByRecursion (IsBack files d) (made paths added)
  made_each paths added listed those =
      each_member (IsBack files d) (made paths added)
      (λ x here. let (p, in_added, is) = IsIn-map_from (in_front paths) x added here in subst (IsBack files d) is (those.sound p in_added).1)

  -- none of them was known
  made_new : (opens noted : List (List P)) (rules : List Rule) (count : ℕ) (rows : List NodeAt) (paths added : List P) → IsSearched (opens ++ paths ∷ []) noted rules count rows
      → (x : List P) → IsIn x noted → IsIn x (made paths added) → ⊥
  made_new opens noted rules count rows paths added s x known new =
      let (p, in_added, is) = IsIn-map_from (in_front paths) x added new in
      s.fresh p paths (IsIn-append_right paths opens (paths ∷ []) (inl refl)) (subst (λ (y : List P). IsIn y noted) (sym is) known)

  -- the known lists with those that are made
  pub known_more : (opens noted : List (List P)) (rules : List Rule) (count : ℕ) (rows : List NodeAt) (paths added listed : List P) → IsSearched (opens ++ paths ∷ []) noted rules count rows
      → IsApart listed → AreThose (λ (p : P). IsBack files d (p ∷ paths)) listed added
      → AllByRecursion (IsBack files d) (noted ++ made paths added) × IsApart (noted ++ made paths added)
  known_more opens noted rules count rows paths added listed s apart those = (
    all-append (IsBack files d) noted (made paths added) s.known (made_each paths added listed those),
    IsApart-append noted (made paths added) s.apart (made_apart paths added (those.apart apart)) (made_new opens noted rules count rows paths added s),
  )

  -- all that may be joined in front of the list was listed
  abbrev pub ListsAll : List P → List P → Type 0
  ListsAll paths listed = (p : P) → IsBack files d (p ∷ paths) → IsIn p listed

  more_closed : (opens noted : List (List P)) (rules : List Rule) (count : ℕ) (rows : List NodeAt) (paths added listed : List P) → IsSearched (opens ++ paths ∷ []) noted rules count rows
      → ListsAll paths listed → AreThose (λ (p : P). IsBack files d (p ∷ paths)) listed added
      → (p : P) (more : List P) → IsIn more (noted ++ made paths added) → IsBack files d (p ∷ more)
      → IsIn (p ∷ more) (noted ++ made paths added) ⊎ IsIn more (opens ++ made paths added)
  more_closed opens noted rules count rows paths added listed s lists those p more here back = by (IsIn-append_cases more noted (made paths added) here)
    where
      last : (more ≡ paths) ⊎ IsIn more [] → IsIn (p ∷ more) (noted ++ made paths added) ⊎ IsIn more (opens ++ made paths added)
      last (inl same) =
          let joined : IsBack files d (p ∷ paths) = subst (λ (x : List P). IsBack files d (p ∷ x)) same back in
          let in_added = those.complete p (lists p joined) joined in
          inl (IsIn-append_right (p ∷ more) noted (made paths added) (subst (λ (x : List P). IsIn (p ∷ x) (made paths added)) (sym same) (IsIn-map (in_front paths) p added in_added)))
      last (inr none) = absurd none

      old : IsIn (p ∷ more) noted ⊎ IsIn more (opens ++ paths ∷ []) → IsIn (p ∷ more) (noted ++ made paths added) ⊎ IsIn more (opens ++ made paths added)
      old (inl known) = inl (IsIn-append_left (p ∷ more) noted (made paths added) known)
      old (inr open') = split (IsIn-append_cases more opens (paths ∷ []) open')
        where
          split : IsIn more opens ⊎ IsIn more (paths ∷ []) → IsIn (p ∷ more) (noted ++ made paths added) ⊎ IsIn more (opens ++ made paths added)
          split (inl still) = inr (IsIn-append_left more opens (made paths added) still)
          split (inr is) = last is

      by : IsIn more noted ⊎ IsIn more (made paths added) → IsIn (p ∷ more) (noted ++ made paths added) ⊎ IsIn more (opens ++ made paths added)
      by (inl known) = old (s.closed p more known back)
      by (inr new) = inr (IsIn-append_right more opens (made paths added) new)

  more_fresh : (opens noted : List (List P)) (rules : List Rule) (count : ℕ) (rows : List NodeAt) (paths added : List P) → IsSearched (opens ++ paths ∷ []) noted rules count rows
      → (p : P) (more : List P) → IsIn more (opens ++ made paths added) → IsIn (p ∷ more) (noted ++ made paths added) → ⊥
  more_fresh opens noted rules count rows paths added s p more here front =
      by (IsIn-append_cases more opens (made paths added) here) (IsIn-append_cases (p ∷ more) noted (made paths added) front)
    where
      by : IsIn more opens ⊎ IsIn more (made paths added) → IsIn (p ∷ more) noted ⊎ IsIn (p ∷ more) (made paths added) → ⊥
      by (inl open') (inl known) = s.fresh p more (IsIn-append_left more opens (paths ∷ []) open') known
      by (inl open') (inr new) =
          let (q, in_added, is) = IsIn-map_from (in_front paths) (p ∷ more) added new in
          IsApart-last opens paths s.opens_apart (subst (λ (x : List P). IsIn x opens) (sym (rest_same q p paths more is)) open')
      by (inr made_one) (inl known) =
          let (q, in_added, is) = IsIn-map_from (in_front paths) more added made_one in
          s.fresh q paths (IsIn-append_right paths opens (paths ∷ []) (inl refl)) (s.tails p q paths (subst (λ (x : List P). IsIn (p ∷ x) noted) (sym is) known))
      by (inr made_one) (inr new) =
          let (q, in_added, is) = IsIn-map_from (in_front paths) more added made_one in
          let (r, in_other, same) = IsIn-map_from (in_front paths) (p ∷ more) added new in
          not_its_rest q paths (is ∙ sym (rest_same r p paths more same))

  more_tails : (opens noted : List (List P)) (rules : List Rule) (count : ℕ) (rows : List NodeAt) (paths added : List P) → IsSearched (opens ++ paths ∷ []) noted rules count rows
      → (p q : P) (more : List P) → IsIn (p ∷ q ∷ more) (noted ++ made paths added) → IsIn (q ∷ more) (noted ++ made paths added)
  more_tails opens noted rules count rows paths added s p q more here = by (IsIn-append_cases (p ∷ q ∷ more) noted (made paths added) here)
    where
      by : IsIn (p ∷ q ∷ more) noted ⊎ IsIn (p ∷ q ∷ more) (made paths added) → IsIn (q ∷ more) (noted ++ made paths added)
      by (inl known) = IsIn-append_left (q ∷ more) noted (made paths added) (s.tails p q more known)
      by (inr new) =
          let (r, in_added, is) = IsIn-map_from (in_front paths) (p ∷ q ∷ more) added new in
          IsIn-append_left (q ∷ more) noted (made paths added)
          (subst (λ (x : List P). IsIn x noted) (rest_same r p paths (q ∷ more) is) (s.opens_in paths (IsIn-append_right paths opens (paths ∷ []) (inl refl))))

  -- one list is gone on from
  pub searched_more : (opens noted : List (List P)) (rules new : List Rule) (count after : ℕ) (rows now : List NodeAt) (paths added listed : List P)
      → IsSearched (opens ++ paths ∷ []) noted rules count rows → IsApart listed → ListsAll paths listed → IsExtended files d paths listed added new count after rows now
      → IsSearched (opens ++ made paths added) (noted ++ made paths added) (rules ++ new) after now
  searched_more opens noted rules new count after rows now paths added listed s apart lists e =
      let both = known_more opens noted rules count rows paths added listed s apart e.those in
      let sum : length (noted ++ made paths added) ≡ length noted + length (made paths added) = length-append noted (made paths added) in
      let one : length (made paths added) ≡ length added = length-map added (in_front paths) in
      let was : count ≡ length noted = s.counted in
      let is : after ≡ count + length added = e.count in record {
        known = both.0;
        apart = both.1;
        opens_apart = IsApart-append opens (made paths added) (IsApart-append_left opens (paths ∷ []) s.opens_apart) (made_apart paths added (e.those.apart apart))
            (λ x open' new. made_new opens noted rules count rows paths added s x (s.opens_in x (IsIn-append_left x opens (paths ∷ []) open')) new);
        opens_in = λ x here. in_noted x (IsIn-append_cases x opens (made paths added) here);
        first = λ p back. IsIn-append_left (p ∷ []) noted (made paths added) (s.first p back);
        closed = more_closed opens noted rules count rows paths added listed s lists e.those;
        fresh = more_fresh opens noted rules count rows paths added s;
        tails = more_tails opens noted rules count rows paths added s;
        held = held-append files d noted (made paths added) rules new s.held e.held;
        counted = omega (arith, sum, one, was, is);
        told = e.rows ∙ ap (λ (xs : List NodeAt). xs ++ flat_map begun new) s.told ∙ sym (flat_map-append begun rules new);
      }
    where
      in_noted : (x : List P) → IsIn x opens ⊎ IsIn x (made paths added) → IsIn x (noted ++ made paths added)
      in_noted x (inl open') = IsIn-append_left x noted (made paths added) (s.opens_in x (IsIn-append_left x opens (paths ∷ []) open'))
      in_noted x (inr new) = IsIn-append_right x noted (made paths added) new

  -- the search begins with the lists of one path
  pub searched_first : (added listed : List P) (rules : List Rule) (after : ℕ) (now : List NodeAt) → IsApart listed → ListsAll [] listed
      → IsExtended files d [] listed added rules 0 after [] now → IsSearched (made [] added) (made [] added) rules after now
  searched_first added listed rules after now apart lists e =
      let one : length (made [] added) ≡ length added = length-map added (in_front []) in
      let is : after ≡ 0 + length added = e.count in record {
        known = made_each [] added listed e.those;
        apart = made_apart [] added (e.those.apart apart);
        opens_apart = made_apart [] added (e.those.apart apart);
        opens_in = λ x here. here;
        first = λ p back. IsIn-map (in_front []) p added (e.those.complete p (lists p back) back);
        closed = λ p paths here back. inr here;
        fresh = λ p paths here front. not_single p paths here (IsIn-map_from (in_front []) (p ∷ paths) added front);
        tails = λ p q paths here. absurd (no_tail p q paths (IsIn-map_from (in_front []) (p ∷ q ∷ paths) added here));
        held = e.held;
        counted = omega (arith, one, is);
        told = e.rows;
      }
    where
      no_tail : (p q : P) (paths : List P) → (x : P) × IsIn x added × (in_front [] x ≡ p ∷ q ∷ paths) → ⊥
      no_tail p q paths (x, here, is) = let e : [] ≡ q ∷ paths = rest_same x p [] (q ∷ paths) is in cc

      not_single : (p : P) (paths : List P) → IsIn paths (made [] added) → (x : P) × IsIn x added × (in_front [] x ≡ p ∷ paths) → ⊥
      not_single p paths here (x, in_added, is) =
          let e : [] ≡ paths = rest_same x p [] paths is in
          let (y, in_other, same) = IsIn-map_from (in_front []) paths added here in
          let f : in_front [] y ≡ [] = same ∙ sym e in cc

  -- nothing can be joined in front of a list that begins before a reference
  pub searched_past : (opens others noted : List (List P)) (rules : List Rule) (count : ℕ) (rows : List NodeAt) (paths : List P)
      → IsSearched (opens ++ paths ∷ others) noted rules count rows → ((p : P) → IsBack files d (p ∷ paths) → ⊥) → IsSearched (opens ++ others) noted rules count rows
  searched_past opens others noted rules count rows paths s none = record {
    known = s.known;
    apart = s.apart;
    opens_apart = IsApart-swap others opens (IsApart-swap opens (paths ∷ others) s.opens_apart).1;
    opens_in = λ x here. s.opens_in x (was x (IsIn-append_cases x opens others here));
    first = s.first;
    closed = λ p more here back. still p more back (s.closed p more here back);
    fresh = λ p more here front. s.fresh p more (was more (IsIn-append_cases more opens others here)) front;
    tails = s.tails;
    held = s.held;
    counted = s.counted;
    told = s.told;
  }
    where
      was : (x : List P) → IsIn x opens ⊎ IsIn x others → IsIn x (opens ++ paths ∷ others)
      was x (inl here) = IsIn-append_left x opens (paths ∷ others) here
      was x (inr here) = IsIn-append_right x opens (paths ∷ others) (inr here)

      ends : (p : P) (more : List P) → IsBack files d (p ∷ more) → IsIn more opens ⊎ IsIn more (paths ∷ others) → IsIn (p ∷ more) noted ⊎ IsIn more (opens ++ others)
      ends p more back (inl open') = inr (IsIn-append_left more opens others open')
      ends p more back (inr (inl same)) = absurd (none p (subst (λ (x : List P). IsBack files d (p ∷ x)) same back))
      ends p more back (inr (inr open')) = inr (IsIn-append_right more opens others open')

      still : (p : P) (more : List P) → IsBack files d (p ∷ more) → IsIn (p ∷ more) noted ⊎ IsIn more (opens ++ paths ∷ others) → IsIn (p ∷ more) noted ⊎ IsIn more (opens ++ others)
      still p more back (inl known) = inl known
      still p more back (inr open') = ends p more back (IsIn-append_cases more opens (paths ∷ others) open')

  -- with none open all back lists are known
  pub all_known : (noted : List (List P)) (rules : List Rule) (count : ℕ) (rows : List NodeAt) → IsSearched [] noted rules count rows → (paths : List P) → IsBack files d paths → IsIn paths noted
  all_known noted rules count rows s [] (start, back) = absurd (back.nonempty refl)
  all_known noted rules count rows s (p ∷ []) back = s.first p back
  all_known noted rules count rows s (p ∷ q ∷ paths) (start, back) =
      let rest = rest_of files d start p q paths sources back in
      by (s.closed p (q ∷ paths) (all_known noted rules count rows s (q ∷ paths) (After rest.at, rest.back)) (start, back))
    where
      by : IsIn (p ∷ q ∷ paths) noted ⊎ IsIn (q ∷ paths) [] → IsIn (p ∷ q ∷ paths) noted
      by (inl known) = known
      by (inr none) = absurd none

  -- so there are no more than that
  pub few : (noted : List (List P)) (rules : List Rule) (count : ℕ) (rows : List NodeAt) → IsTrue (is_definition_of (graphs_of files) d.file d.node) → IsSearched [] noted rules count rows → count ≤ most_lists
      → HasMany (graphs_of files) d → ⊥
  few noted rules count rows at s low (lists, apart, each, big) =
      let n : length lists ≤ length (map list_by noted) = length-apart_le lists (map list_by noted) apart (λ w here. there w (at_member (IsBackList (graphs_of files) d) w lists each here)) in
      let m : length (map list_by noted) ≡ length noted = length-map noted list_by in
      let c : count ≡ length noted = s.counted in
      omega (arith, big, low, n, m, c)
    where
      there : (w : Walk) → IsBackList (graphs_of files) d w → IsIn w (map list_by noted)
      there w list =
          let h = paths_of files d w sources at list in
          let known = all_known noted rules count rows s h.paths (w.start, h.back) in
          let same : list_by h.paths ≡ w = (λ i. walk_of (leads_head files d w.start h.paths h.back i) (h.edges i)) in
          subst (λ (x : Walk). IsIn x (map list_by noted)) same (IsIn-map list_by h.paths noted known)
