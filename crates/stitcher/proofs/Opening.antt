-- Which runs are still to be gone on from, and what is known of them.
use Rattle.std.proofs.Common.{◌≡◌, ℕ, ◌+◌, ◌≤◌, Bool, true, false, ◌&&◌, ◌||◌, nat_le, leb-true, List, [], ◌∷◌, ◌++◌, map, length, take, drop, Some, All, IsTrue, get_or, sym, refl, ap, ◌∙◌, subst, arith, filter, flat_map, append_assoc, append-nil, length-append, IsPermutation, inl}
use Rattle.std.specs.List.{AllByRecursion}
use Rattle.std.proofs.lemmas.Bool.{and_parts, and_from, or_right}
use Rattle.std.proofs.lemmas.List.{map-append, take-append-le, take-append-drop, length-take-le}
use Rattle.std.proofs.lemmas.List.Elements.{recursion_from_All, All-from_recursion, filter-append}
use Rattle.std.proofs.lemmas.List.Concat.{flat_map-append}
use Rattle.std.proofs.Math.Seq.{get_or-append_seam, take-length}
use Rattle.partial_path.specs.declared.config.Config.{Config}
use Rattle.partial_path.specs.declared.rule.Start.TheVariants.{Before, After}
use Rattle.partial_path.specs.Limits.{max_runs}
use Rattle.partial_path.specs.Rules.{Rule}
use Rattle.partial_path.specs.Apply.{apply}
use Rattle.partial_path.specs.Moved.{moved}
use Rattle.partial_path.specs.Cutting.{LeadFrom, landings, edge_count, heights}
use Rattle.partial_path.specs.Laws.{AreStraightPaths}
use Rattle.stitcher.specs.declared.note.Run.{Run}
use Rattle.stitcher.specs.declared.trail.Open.{Open}
use Rattle.stitcher.specs.declared.tally.Progress.{Progress}
use Rattle.stitcher.specs.declared.trail.Level.{Level}
use Rattle.stitcher.specs.declared.trail.Standing.{Standing}
use Rattle.stitcher.specs.Joins.{Asked, IsAsked, Joined, joined, with_path, origin, is_none, start_behind, next_start, is_at_cut, is_bounded, is_bounded_counted, keeps_straight, joined_by, goes_on, offered_to}
use Rattle.stitcher.specs.Opens.{opened, opened_at, opens_of, those, levels_of, AreOpen, IsLanded, IsOpen, IsLast, AreTaken, IsOverfull}
use Rattle.stitcher.specs.Trail.{Moves, path_of, paths_of, landed_at, IsHere, IsOffered, IsStanding}
use Rattle.list_facts.proofs.Each.{all-append}
use Rattle.list_facts.specs.Members.{IsIn}
use Rattle.stitcher.proofs.Leading.{lead_with, landings-with}
use Rattle.stitcher.proofs.Straight.{straight_with}
use Rattle.stitcher.proofs.Meeting.{Stands, landed_of}
use Rattle.stitcher.proofs.Reached.{behind_with}
use Rattle.stitcher.proofs.Noting.{some_with}

pub paths_with : (trail : List Level) (l : Level) → paths_of (trail ++ l ∷ []) ≡ with_path (paths_of trail) (path_of l)
paths_with trail l = map-append path_of trail (l ∷ [])

all_with : {X : Type 0} (P : X → Type 0) (xs : List X) (x : X) → All P xs → P x → All P (xs ++ x ∷ [])
all_with P xs x h p =
    All-from_recursion P (xs ++ x ∷ []) (all-append P xs (x ∷ []) (recursion_from_All P xs h) (p, tt))

-- the level of a path that was joined stands behind the trail
module _ (q : Asked) (trail : List Level) (at : Config) (level : Level) (here : IsHere q trail at) (offered : IsOffered q trail at (path_of level)) (applies : apply (moved level.file level.path) at ≡ Some level.at) where
  keeps_there : joined_by q (joined (paths_of trail) at) (path_of level) ≡ joined (with_path (paths_of trail) (path_of level)) level.at ∷ [] → keeps_straight q (paths_of trail) level.at ≡ true
  keeps_there one =
      let x = joined (with_path (paths_of trail) (path_of level)) level.at in
      let r = landed_of q (joined (paths_of trail) at) x (path_of level) (apply (moved level.file level.path) at) (subst (IsIn x) (sym one) (inl refl)) in
      subst (λ (n : Config). keeps_straight q (paths_of trail) n ≡ true) (ap (λ (y : Joined). y.at) r.3) r.2

  pub here_next : joined_by q (joined (paths_of trail) at) (path_of level) ≡ joined (with_path (paths_of trail) (path_of level)) level.at ∷ [] → IsTrue (is_at_cut q level.at) → IsHere q (trail ++ level ∷ []) level.at
  here_next one cut =
      let same = paths_with trail level in record {
        leads = subst (λ (ps : List (ℕ × Rule)). LeadFrom q.files q.node ps level.at) (sym same)
            (lead_with q.files (Before q.node) (origin q) at level.at (paths_of trail) (path_of level) here.leads
            record { stored = offered.stored; begins = offered.begins; applies = applies });
        straight = subst (AreStraightPaths q.files q.node q.start) (sym same)
            (straight_with q (paths_of trail) at level.at (path_of level) here.leads applies (keeps_there one) here.straight);
        landed =
            ap (landings (origin q)) same
            ∙ (landings-with q.files (Before q.node) (origin q) at level.at (paths_of trail) (path_of level) here.leads applies
            ∙ (ap (λ (cs : List Config). cs ++ level.at ∷ []) here.landed ∙ sym (map-append landed_at trail (level ∷ []))));
        cuts = subst (All (λ (c : Config). IsTrue (is_at_cut q c))) (sym (map-append landed_at trail (level ∷ [])))
            (all_with (λ (c : Config). IsTrue (is_at_cut q c)) (map landed_at trail) level.at here.cuts cut);
      }

-- nothing was added; one was, where the test passes; and more were
abbrev Adds : Asked → List Level → List Open → List Open → Type 0
Adds q trail before after = (more : List Open) × (after ≡ before ++ more) × AllByRecursion (IsLast q trail) more

pub added_none : (q : Asked) (trail : List Level) (ws : List Open) → Adds q trail ws ws
added_none q trail ws = ([], sym (append-nil ws), tt)

added_by : (q : Asked) (trail : List Level) (b : Bool) (o : Open) → (b ≡ true → IsLast q trail o) → AllByRecursion (IsLast q trail) (those b o)
added_by q trail true o is = (is refl, tt)
added_by q trail false o is = tt

pub added_one : (q : Asked) (trail : List Level) (before after : List Open) (b : Bool) (o : Open) → after ≡ before ++ those b o → (b ≡ true → IsLast q trail o) → Adds q trail before after
added_one q trail before after b o e is = (those b o, e, added_by q trail b o is)

pub added_more : (q : Asked) (trail : List Level) (a b c : List Open) → Adds q trail a b → Adds q trail b c → Adds q trail a c
added_more q trail a b c m n = (
  m.0 ++ n.0,
  n.1 ∙ (ap (λ (ws : List Open). ws ++ n.0) m.1 ∙ append_assoc a m.0 n.0),
  all-append (IsLast q trail) m.0 n.0 m.2 n.2,
)

pub last_of : (q : Asked) (trail : List Level) (run : Run) → IsLanded q trail run → (run.cut && run.bounded) ≡ true → IsLast q trail (opened_at trail run)
last_of q trail run h t =
    let level = run.level in
    let both = and_parts run.cut run.bounded t in
    let there : is_at_cut q level.at ≡ true = sym h.cut ∙ both.0 in
    let within : is_bounded q (with_path (paths_of trail) (path_of level)) ≡ true = sym h.bounded ∙ both.1 in
    let same = paths_with trail level in record {
      depth = refl;
      levels = record {
        here = h.here there;
        goes = subst (λ (ps : List (ℕ × Rule)). goes_on q (joined ps level.at) ≡ true) (sym same)
            (or_right (is_none (with_path (paths_of trail) (path_of level))) (is_at_cut q level.at && is_bounded q (with_path (paths_of trail) (path_of level))) (and_from (is_at_cut q level.at) (is_bounded q (with_path (paths_of trail) (path_of level))) there within));
        edges = h.edges ∙ ap edge_count (sym same);
        moves = all_with (λ (l : Level). Moves l.file l.path) trail level h.moves h.level;
      };
    }

-- the first of the offered paths are too many, with the one that is one run too many
pub overfull : (q : Asked) (trail : List Level) (from : Joined) (gone rest all : List (ℕ × Rule)) (p : ℕ × Rule) (a b : Progress) → gone ++ p ∷ rest ≡ all → IsPermutation (offered_to q from) all → AreTaken q trail (flat_map (joined_by q from) gone) a b → b.tally.counted ≡ max_runs → length (filter (is_bounded_counted q) (joined_by q from p)) ≡ 1 → IsOverfull q from a.tally.counted
overfull q trail from gone rest all p a b is perm t full one = record {
  part = gone ++ p ∷ [];
  rest = rest;
  offered = subst (IsPermutation (offered_to q from)) (sym (append_assoc gone (p ∷ []) rest ∙ is)) perm;
  many =
      (let whole : flat_map (joined_by q from) (gone ++ p ∷ []) ≡ flat_map (joined_by q from) gone ++ joined_by q from p =
      flat_map-append (joined_by q from) gone (p ∷ []) ∙ ap (λ (xs : List Joined). flat_map (joined_by q from) gone ++ xs) (append-nil (joined_by q from p)) in
      let sum : length (filter (is_bounded_counted q) (flat_map (joined_by q from) (gone ++ p ∷ []))) ≡ length (filter (is_bounded_counted q) (flat_map (joined_by q from) gone)) + length (filter (is_bounded_counted q) (joined_by q from p)) =
      ap (λ (xs : List Joined). length (filter (is_bounded_counted q) xs)) whole
      ∙ (ap length (filter-append (is_bounded_counted q) (flat_map (joined_by q from) gone) (joined_by q from p))
      ∙ length-append (filter (is_bounded_counted q) (flat_map (joined_by q from) gone)) (filter (is_bounded_counted q) (joined_by q from p))) in
      let so_far : b.tally.counted ≡ a.tally.counted + length (filter (is_bounded_counted q) (flat_map (joined_by q from) gone)) = t.noted.counted in
      omega arith);
}

-- the trail of an open one, and of another that left it no later
pub take_kept : (trail : List Level) (o x : Open) → x.depth ≤ o.depth → o.depth ≤ length trail → take x.depth (levels_of trail o) ≡ take x.depth trail
take_kept trail o x le fits =
    let long = length-take-le o.depth trail fits in
    let short : x.depth ≤ length (take o.depth trail) = omega arith in
    take-append-le x.depth (take o.depth trail) (o.level ∷ []) short
    ∙ (sym (take-append-le x.depth (take o.depth trail) (drop o.depth trail) short)
    ∙ ap (take x.depth) (take-append-drop o.depth trail))

pub length-levels : (trail : List Level) (o : Open) → o.depth ≤ length trail → length (levels_of trail o) ≡ o.depth + 1
length-levels trail o fits =
    length-append (take o.depth trail) (o.level ∷ []) ∙ ap (λ (n : ℕ). n + 1) (length-take-le o.depth trail fits)

pub open_kept : (q : Asked) (trail : List Level) (o x : Open) → IsOpen q trail x → x.depth ≤ o.depth → o.depth ≤ length trail → IsOpen q (levels_of trail o) x
open_kept q trail o x h le fits = record {
  depth = (let n = length-levels trail o fits in omega arith);
  levels = subst (λ (ls : List Level). AreOpen q (ls ++ x.level ∷ []) x) (sym (take_kept trail o x le fits)) h.levels;
}

pub opens_kept : (trail : List Level) (o : Open) (xs : List Open) → AllByRecursion (λ (x : Open). x.depth ≤ o.depth) xs → o.depth ≤ length trail → opens_of (levels_of trail o) xs ≡ opens_of trail xs
opens_kept trail o [] h fits = refl
opens_kept trail o (x ∷ xs) h fits =
    (λ i. joined (with_path (paths_of (take_kept trail o x h.0 fits i)) (path_of x.level)) x.level.at ∷ opens_of (levels_of trail o) xs)
    ∙ ap (λ (js : List Joined). opened trail x ∷ js) (opens_kept trail o xs h.1 fits)

-- one that has one level more than the whole trail is open
pub open_last : (q : Asked) (trail : List Level) (o : Open) → IsLast q trail o → IsOpen q trail o
open_last q trail o h =
    let same : take o.depth trail ≡ trail = ap (λ (n : ℕ). take n trail) h.depth ∙ take-length trail in record {
      depth = omega (arith, h.depth);
      levels = subst (λ (ls : List Level). AreOpen q (ls ++ o.level ∷ []) o) (sym same) h.levels;
    }

-- an open one leads from the reference, and more paths are joined to it
pub opened_as : (trail : List Level) (o : Open) → joined (paths_of (levels_of trail o)) o.level.at ≡ opened trail o
opened_as trail o = ap (λ (ps : List (ℕ × Rule)). joined ps o.level.at) (paths_with (take o.depth trail) o.level)

pub open_stands : (q : Asked) (trail : List Level) (o : Open) → IsOpen q trail o → Stands q (opened trail o)
open_stands q trail o h =
    subst (Stands q) (opened_as trail o) record { leads = h.levels.here.leads; straight = h.levels.here.straight }

pub open_goes : (q : Asked) (trail : List Level) (o : Open) → IsOpen q trail o → goes_on q (opened trail o) ≡ true
open_goes q trail o h = subst (λ (j : Joined). goes_on q j ≡ true) (opened_as trail o) h.levels.goes

-- the path behind an open one begins where its last path landed, and the open one is within the bounds
pub begins_behind : (q : Asked) (trail : List Level) (o : Open) (at : Config) → After at.spot ≡ next_start q (joined (paths_of (levels_of trail o)) at)
begins_behind q trail o at =
    sym (ap (λ (ps : List (ℕ × Rule)). start_behind (Before q.node) ps at) (paths_with (take o.depth trail) o.level)
    ∙ behind_with (Before q.node) (paths_of (take o.depth trail)) (path_of o.level) at)

pub open_bounded : (q : Asked) (trail : List Level) (o : Open) → IsOpen q trail o → (edge_count (paths_of (levels_of trail o)) ≤ q.bounds.edges) × (heights (origin q) (paths_of (levels_of trail o)) ≤ q.bounds.depth)
open_bounded q trail o h =
    let paths = with_path (paths_of (take o.depth trail)) (path_of o.level) in
    let goes : (is_none paths || (is_at_cut q o.level.at && is_bounded q paths)) ≡ true = open_goes q trail o h in
    let later : (is_at_cut q o.level.at && is_bounded q paths) ≡ true =
    ap (λ (b : Bool). b || (is_at_cut q o.level.at && is_bounded q paths)) (sym (some_with (paths_of (take o.depth trail)) (path_of o.level))) ∙ goes in
    let bounded = and_parts (nat_le (edge_count paths) q.bounds.edges) (nat_le (heights (origin q) paths) q.bounds.depth) (and_parts (is_at_cut q o.level.at) (is_bounded q paths) later).1 in
    subst (λ (ps : List (ℕ × Rule)). (edge_count ps ≤ q.bounds.edges) × (heights (origin q) ps ≤ q.bounds.depth)) (sym (paths_with (take o.depth trail) o.level))
    (leb-true (edge_count paths) q.bounds.edges bounded.0, leb-true (heights (origin q) paths) q.bounds.depth bounded.1)

-- the level behind those up to the depth is the open one's own
pub last_level : (trail : List Level) (o : Open) (l : Level) (items : List Level) → o.depth ≤ length trail → items ≡ levels_of trail o → l ≡ get_or items o.depth l → l ≡ o.level
last_level trail o l items fits is there =
    there ∙ (ap (λ (ls : List Level). get_or ls o.depth l) is
    ∙ (ap (λ (n : ℕ). get_or (levels_of trail o) n l) (sym (length-take-le o.depth trail fits)) ∙ get_or-append_seam (take o.depth trail) o.level [] l))

-- there the search stands where it is gone on from
pub stands_open : (q : Asked) (asked : IsAsked q) (s : Standing) (trail : List Level) (o : Open) → IsOpen q trail o → s.trail.now ≡ levels_of trail o → s.at.now ≡ o.level.at → s.begin ≡ After s.at.now.spot → s.edges ≡ o.edges → IsStanding q s
stands_open q asked s trail o h levels at begin edges =
    let within = open_bounded q trail o h in record {
      asked = asked;
      here = subst (λ (ls : List Level). IsHere q ls s.at.now) (sym levels) (subst (IsHere q (levels_of trail o)) (sym at) h.levels.here);
      begin = begin
          ∙ (begins_behind q trail o s.at.now ∙ ap (λ (ls : List Level). next_start q (joined (paths_of ls) s.at.now)) (sym levels));
      edges = edges ∙ (h.levels.edges ∙ ap (λ (ls : List Level). edge_count (paths_of ls)) (sym levels));
      few_edges = subst (λ (n : ℕ). n ≤ q.bounds.edges) (sym (edges ∙ h.levels.edges)) within.0;
      low = subst (λ (ls : List Level). heights (origin q) (paths_of ls) ≤ q.bounds.depth) (sym levels) within.1;
      moves = subst (All (λ (l : Level). Moves l.file l.path)) (sym levels) h.levels.moves;
    }
