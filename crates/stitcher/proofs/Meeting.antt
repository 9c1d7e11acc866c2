-- The lists of paths that are met: each leads from the reference and is straight, and no two are equal.
use Rattle.std.proofs.Common.{◌≡◌, ℕ, zero, suc, ◌+◌, Bool, true, false, List, [], ◌∷◌, ◌++◌, length, take, Option, Some, None, All, sym, refl, ap, ◌∙◌, subst, arith, flat_map, if◌then◌else◌, append_assoc, append-nil, length-append, take_at, ◌⊎◌, inl, inr}
use Rattle.std.specs.Option.{option_map_or}
use Rattle.std.proofs.lemmas.Bool.{false≢true}
use Rattle.std.proofs.lemmas.Option.{same_Some}
use Rattle.std.proofs.lemmas.List.{same_from_push}
use Rattle.partial_path.specs.declared.config.Config.{Config}
use Rattle.partial_path.specs.declared.rule.Start.TheVariants.{Before}
use Rattle.partial_path.specs.Runs.{IsApart}
use Rattle.partial_path.specs.Rules.{Rule}
use Rattle.partial_path.specs.Apply.{apply}
use Rattle.partial_path.specs.Moved.{moved}
use Rattle.partial_path.specs.Sources.{IsSourceFile}
use Rattle.partial_path.specs.Cutting.{LeadFrom}
use Rattle.partial_path.specs.Laws.{AreStraightPaths}
use Rattle.stitcher.specs.Joins.{Asked, Joined, joined, with_path, origin, none_joined, next_start, keeps_straight, landed, joined_by, goes_on, offered_to, longer, meets}
use Rattle.list_facts.specs.Members.{IsIn}
use Rattle.list_facts.proofs.Members.{IsIn-flat_map, IsIn-flat_map_from}
use Rattle.list_facts.proofs.Apart.{all_differ, IsApart-flat_map}
use Rattle.stitcher.proofs.Leading.{lead_with}
use Rattle.stitcher.proofs.Straight.{straight_with}
use Rattle.stitcher.proofs.Offered.{offered_stored, apart_offered}

-- the joined paths lead there from the reference, and are straight
pub record Stands (q : Asked) (j : Joined) : Type 0 where
  pub leads : LeadFrom q.files q.node j.paths j.at
  pub straight : AreStraightPaths q.files q.node q.start j.paths

pub none_stands : (q : Asked) → Stands q (none_joined q)
none_stands q = record { leads = refl; straight = (tt, tt) }

-- joined by one path more: by which, and where it lands
pub record IsLonger (q : Asked) (j x : Joined) : Type 0 where
  pub p : ℕ × Rule
  pub next : Config
  pub offered : IsIn p (offered_to q j)
  pub applies : apply (moved p.0 p.1) j.at ≡ Some next
  pub keeps : keeps_straight q j.paths next ≡ true
  pub is : joined (with_path j.paths p) next ≡ x
  pub goes : goes_on q j ≡ true

one_if : {X : Type 0} (x y : X) (b : Bool) → IsIn x (if b then y ∷ [] else []) → (b ≡ true) × (y ≡ x)
one_if x y true (inl e) = (refl, sym e)
one_if x y true (inr h) = absurd h
one_if x y false h = absurd h

in_if : {X : Type 0} (x : X) (b : Bool) → b ≡ true → IsIn x (if b then x ∷ [] else [])
in_if x true t = inl refl
in_if x false t = absurd (false≢true t)

pub landed_of : (q : Asked) (j x : Joined) (p : ℕ × Rule) (o : Option Config) → IsIn x (option_map_or (landed q j p) o []) → (next : Config) × (o ≡ Some next) × (keeps_straight q j.paths next ≡ true) × (joined (with_path j.paths p) next ≡ x)
landed_of q j x p None h = absurd h
landed_of q j x p (Some next) h =
    let r = one_if x (joined (with_path j.paths p) next) (keeps_straight q j.paths next) h in (next, refl, r.0, r.1)

pub longer_of : (q : Asked) (j x : Joined) → IsIn x (longer q j) → IsLonger q j x
longer_of q j x h = by (goes_on q j) refl h
  where
    by : (b : Bool) → goes_on q j ≡ b → IsIn x (if b then flat_map (joined_by q j) (offered_to q j) else []) → IsLonger q j x
    by true t g =
        let r = IsIn-flat_map_from (joined_by q j) x (offered_to q j) g in
        let l = landed_of q j x r.0 (apply (moved r.0.0 r.0.1) j.at) r.2 in
        record { p = r.0; next = l.0; offered = r.1; applies = l.1; keeps = l.2; is = l.3; goes = t }
    by false t g = absurd g

pub in_longer : (q : Asked) (j : Joined) (p : ℕ × Rule) (next : Config) → goes_on q j ≡ true → IsIn p (offered_to q j) → apply (moved p.0 p.1) j.at ≡ Some next → keeps_straight q j.paths next ≡ true → IsIn (joined (with_path j.paths p) next) (longer q j)
in_longer q j p next goes offered applies keeps =
    subst (λ (b : Bool). IsIn (joined (with_path j.paths p) next) (if b then flat_map (joined_by q j) (offered_to q j) else [])) (sym goes)
    (IsIn-flat_map (joined_by q j) p (joined (with_path j.paths p) next) (offered_to q j) offered
    (subst (λ (o : Option Config). IsIn (joined (with_path j.paths p) next) (option_map_or (landed q j p) o [])) (sym applies)
    (in_if (joined (with_path j.paths p) next) (keeps_straight q j.paths next) keeps)))

pub stands_longer : (q : Asked) (j x : Joined) → Stands q j → IsLonger q j x → Stands q x
stands_longer q j x s l =
    let o = offered_stored q.files (next_start q j) j.at.stacks.symbols l.p l.offered in
    subst (Stands q) l.is
    record {
      leads = lead_with q.files (Before q.node) (origin q) j.at l.next j.paths l.p s.leads
          record { stored = o.0; begins = o.1; applies = l.applies };
      straight = straight_with q j.paths j.at l.next l.p s.leads l.applies l.keeps s.straight;
    }

-- what is met stands
pub meets_sound : (n : ℕ) (q : Asked) (j x : Joined) → Stands q j → IsIn x (meets n q j) → Stands q x
meets_sound zero q j x s h = absurd h
meets_sound (suc n) q j x s h =
    let r = IsIn-flat_map_from (λ (next : Joined). next ∷ meets n q next) x (longer q j) h in
    let there = stands_longer q j r.0 s (longer_of q j r.0 r.1) in
    by (λ g. meets_sound n q r.0 x there g) r.0 there r.2
  where
    by : {Q : Type 0} → (Q → Stands q x) → (y : Joined) → Stands q y → (x ≡ y) ⊎ Q → Stands q x
    by later y there (inl e) = subst (Stands q) (sym e) there
    by later y there (inr g) = later g

paths_of_longer : (q : Asked) (j x : Joined) → (l : IsLonger q j x) → with_path j.paths l.p ≡ x.paths
paths_of_longer q j x l = ap (λ (y : Joined). y.paths) l.is

begin_by : {Q : Type 0} (q : Asked) (j x y : Joined) (l : IsLonger q j y) → (Q → (p : ℕ × Rule) × (more : List (ℕ × Rule)) × (y.paths ++ p ∷ more ≡ x.paths)) → (x ≡ y) ⊎ Q → (p : ℕ × Rule) × (more : List (ℕ × Rule)) × (j.paths ++ p ∷ more ≡ x.paths)
begin_by q j x y l later (inl e) = (l.p, [], paths_of_longer q j y l ∙ ap (λ (z : Joined). z.paths) (sym e))
begin_by q j x y l later (inr g) =
    let m = later g in (
      l.p,
      m.0 ∷ m.1,
      sym (append_assoc j.paths (l.p ∷ []) (m.0 ∷ m.1)) ∙ (ap (λ (ps : List (ℕ × Rule)). ps ++ m.0 ∷ m.1) (paths_of_longer q j y l) ∙ m.2),
    )

-- what is met from there begins with its paths and has more
pub meets_begin : (n : ℕ) (q : Asked) (j x : Joined) → IsIn x (meets n q j) → (p : ℕ × Rule) × (more : List (ℕ × Rule)) × (j.paths ++ p ∷ more ≡ x.paths)
meets_begin zero q j x h = absurd h
meets_begin (suc n) q j x h =
    let r = IsIn-flat_map_from (λ (next : Joined). next ∷ meets n q next) x (longer q j) h in
    let l = longer_of q j r.0 r.1 in
    begin_by q j x r.0 l (λ g. meets_begin n q r.0 x g) r.2

pub same_front : {X : Type 0} (xs ys s t : List X) → length xs ≡ length ys → xs ++ s ≡ ys ++ t → xs ≡ ys
same_front xs ys s t l h =
    sym (take_at xs s (length ys) l) ∙ (ap (take (length ys)) h ∙ take_at ys t (length ys) refl)

-- two that are joined by one path more and have the same paths are the same
pub same_longer : (q : Asked) (j x z : Joined) → IsLonger q j x → IsLonger q j z → x.paths ≡ z.paths → x ≡ z
same_longer q j x z l m e =
    let p : l.p ≡ m.p = (same_from_push j.paths j.paths l.p m.p (paths_of_longer q j x l ∙ (e ∙ sym (paths_of_longer q j z m)))).1 in
    let n : l.next ≡ m.next = same_Some l.next m.next (sym l.applies ∙ (ap (λ (r : ℕ × Rule). apply (moved r.0 r.1) j.at) p ∙ m.applies)) in
    sym l.is ∙ ((λ i. joined (with_path j.paths (p i)) (n i)) ∙ m.is)

pub length_longer : (q : Asked) (j x : Joined) → IsLonger q j x → length x.paths ≡ length j.paths + 1
length_longer q j x l = ap length (sym (paths_of_longer q j x l)) ∙ length-append j.paths (l.p ∷ [])

apart_one : {X : Type 0} (x : X) (b : Bool) → IsApart (if b then x ∷ [] else [])
apart_one x true = (tt, tt)
apart_one x false = tt

pub apart_landed : (q : Asked) (j : Joined) (p : ℕ × Rule) (o : Option Config) → IsApart (option_map_or (landed q j p) o [])
apart_landed q j p None = tt
apart_landed q j p (Some next) = apart_one (joined (with_path j.paths p) next) (keeps_straight q j.paths next)

pub path_of_joined : (q : Asked) (j x : Joined) (p : ℕ × Rule) → IsIn x (joined_by q j p) → with_path j.paths p ≡ x.paths
path_of_joined q j x p h = ap (λ (y : Joined). y.paths) (landed_of q j x p (apply (moved p.0 p.1) j.at) h).3

apart_longer : (q : Asked) (j : Joined) → All IsSourceFile q.files → IsApart (longer q j)
apart_longer q j sources = by (goes_on q j)
  where
    by : (b : Bool) → IsApart (if b then flat_map (joined_by q j) (offered_to q j) else [])
    by true =
        IsApart-flat_map (joined_by q j) (offered_to q j) (apart_offered q.files (next_start q j) j.at.stacks.symbols sources)
        (λ p h. apart_landed q j p (apply (moved p.0 p.1) j.at))
        (λ p r y hp hr gp gr. (same_from_push j.paths j.paths p r (path_of_joined q j y p gp ∙ sym (path_of_joined q j y r gr))).1)
    by false = tt

pub no_room : {X : Type 0} (xs : List X) (p : X) (more : List X) → xs ++ p ∷ more ≡ xs → ⊥
no_room xs p more h =
    let one : length (xs ++ p ∷ more) ≡ length xs + suc (length more) = length-append xs (p ∷ more) in
    let two : length (xs ++ p ∷ more) ≡ length xs = ap length h in
    omega arith

-- what stands in the piece of one begins with its paths
pub piece_begins : (n : ℕ) (q : Asked) (x y : Joined) → IsIn y (x ∷ meets n q x) → (more : List (ℕ × Rule)) × (x.paths ++ more ≡ y.paths)
piece_begins n q x y (inl e) = ([], append-nil x.paths ∙ ap (λ (z : Joined). z.paths) (sym e))
piece_begins n q x y (inr h) = let m = meets_begin n q x y h in (m.0 ∷ m.1, m.2)

-- no two of those that are met are equal
pub apart_meets : (n : ℕ) (q : Asked) (j : Joined) → All IsSourceFile q.files → IsApart (meets n q j)
apart_meets zero q j sources = tt
apart_meets (suc n) q j sources =
    IsApart-flat_map (λ (next : Joined). next ∷ meets n q next) (longer q j) (apart_longer q j sources)
    (λ x h. (
      all_differ x (meets n q x) (λ g. let m = meets_begin n q x x g in no_room x.paths m.0 m.1 m.2),
      apart_meets n q x sources,
    ))
    (λ x z y hx hz gx gz.
    let lx = longer_of q j x hx in
    let lz = longer_of q j z hz in
    let mx = piece_begins n q x y gx in
    let mz = piece_begins n q z y gz in
    same_longer q j x z lx lz
    (same_front x.paths z.paths mx.0 mz.0 (length_longer q j x lx ∙ sym (length_longer q j z lz)) (mx.1 ∙ sym mz.1)))
