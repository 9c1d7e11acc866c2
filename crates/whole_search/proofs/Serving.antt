-- What serves a search as well as all the runs that it would meet.
use Rattle.std.proofs.Common.{◌≡◌, ◌+◌, ◌≤◌, Bool, true, false, ◌||◌, List, [], ◌∷◌, ◌++◌, length, map, reverse, sym, refl, ap, ◌∙◌, arith, if◌then◌else◌, append_assoc, append-nil, length-append, inl, inr}
use Rattle.std.specs.List.{list_any, filter, flat_map}
use Rattle.std.proofs.lemmas.Bool.{false≢true, both_ways, false_from_ne_true}
use Rattle.std.proofs.lemmas.List.Elements.{filter-append}
use Rattle.graph_nodes.specs.Graph.{Graph}
use Rattle.partial_path.specs.declared.config.Config.{Config}
use Rattle.partial_path.specs.declared.config.EdgeAt.{EdgeAt}
use Rattle.partial_path.specs.declared.bounds.Bounds.{Bounds}
use Rattle.whole_search.specs.declared.open.Open.{Open}
use Rattle.whole_search.specs.Walk.{with_edge, out, is_bounded, lands}
use Rattle.whole_search.specs.Open.{longer_by}
use Rattle.list_facts.specs.Members.{IsIn}
use Rattle.list_facts.proofs.Members.{reverse-cons, filter-none}

-- the runs of one edge more, the last first
abbrev pub behind_one : List EdgeAt → List EdgeAt → List (List EdgeAt)
behind_one es edges = reverse (map (with_edge es) edges)

pub flat_map-append : {X Y : Type 0} (f : X → List Y) (xs ys : List X) → flat_map f (xs ++ ys) ≡ flat_map f xs ++ flat_map f ys
flat_map-append f [] ys = refl
flat_map-append f (x ∷ xs) ys =
    ap (λ zs. f x ++ zs) (flat_map-append f xs ys) ∙ sym (append_assoc (f x) (flat_map f xs) (flat_map f ys))

pub flat_map_reverse : {X Y : Type 0} (f : X → List Y) (x : X) (xs : List X) → flat_map f (reverse (x ∷ xs)) ≡ flat_map f (reverse xs) ++ f x
flat_map_reverse f x xs =
    ap (flat_map f) (reverse-cons x xs)
    ∙ (flat_map-append f (reverse xs) (x ∷ []) ∙ ap (λ zs. flat_map f (reverse xs) ++ zs) (append-nil (f x)))

-- two functions that agree at each longer run meet the same from them
pub flat_map_agree : {Y : Type 0} (f g : List EdgeAt → List Y) (es edges : List EdgeAt) → ((e : EdgeAt) → f (with_edge es e) ≡ g (with_edge es e)) → flat_map f (behind_one es edges) ≡ flat_map g (behind_one es edges)
flat_map_agree f g es [] each = refl
flat_map_agree f g es (e ∷ edges) each =
    flat_map_reverse f (with_edge es e) (map (with_edge es) edges)
    ∙ (ap (λ zs. zs ++ f (with_edge es e)) (flat_map_agree f g es edges each)
    ∙ (ap (λ zs. flat_map g (behind_one es edges) ++ zs) (each e)
    ∙ sym (flat_map_reverse g (with_edge es e) (map (with_edge es) edges))))

pub filter_reverse_none : {Y : Type 0} (p : Y → Bool) (f : List EdgeAt → List Y) (es edges : List EdgeAt) → ((e : EdgeAt) → filter p (f (with_edge es e)) ≡ []) → filter p (flat_map f (behind_one es edges)) ≡ []
filter_reverse_none p f es [] each = refl
filter_reverse_none p f es (e ∷ edges) each =
    ap (filter p) (flat_map_reverse f (with_edge es e) (map (with_edge es) edges))
    ∙ (filter-append p (flat_map f (behind_one es edges)) (f (with_edge es e))
    ∙ (ap (λ zs. zs ++ filter p (f (with_edge es e))) (filter_reverse_none p f es edges each) ∙ each e))

-- the test passes only for runs that land
abbrev pub AsksLanding : List Graph → Config → (List EdgeAt → Bool) → Type 0
AsksLanding files c p = (es : List EdgeAt) → p es ≡ true → lands files c es ≡ true

-- the test passes only for bounded runs that land
pub record AsksBounded (bounds : Bounds) (files : List Graph) (c : Config) (p : List EdgeAt → Bool) : Type 0 where
  pub unbounded : (es : List EdgeAt) → is_bounded bounds files c es ≡ false → p es ≡ false
  pub landing : AsksLanding files c p

pub filter_skip : {X : Type 0} (p : X → Bool) (x : X) (xs : List X) → p x ≡ false → filter p (x ∷ xs) ≡ filter p xs
filter_skip p x xs f = ap (λ b. if b then x ∷ filter p xs else filter p xs) f

-- what is ahead after a step serves as well as all that is met after the run
pub record ServesFor (bounds : Bounds) (files : List Graph) (c : Config) (limit : Bool) (met after : List (List EdgeAt)) : Type 0 where
  pub same : (p : List EdgeAt → Bool) → AsksBounded bounds files c p → filter p after ≡ filter p met
  pub flag : (q : List EdgeAt → Bool) → AsksLanding files c q → (limit || list_any q after) ≡ (limit || list_any q met)
  pub shorter : length after ≤ length met

pub serves_itself : (bounds : Bounds) (files : List Graph) (c : Config) (limit : Bool) (met after : List (List EdgeAt)) → after ≡ met → ServesFor bounds files c limit met after
serves_itself bounds files c limit met after e = record {
  same = λ p asks. ap (filter p) e;
  flag = λ q asks. ap (λ xs. limit || list_any q xs) e;
  shorter = let k : length after ≡ length met = ap length e in omega arith;
}

pub true_or : (limit x y : Bool) → limit ≡ true → (limit || x) ≡ (limit || y)
true_or true x y t = refl
true_or false x y t = absurd (false≢true t)

none_passes : (files : List Graph) (c : Config) (q : List EdgeAt → Bool) → AsksLanding files c q → (x : List EdgeAt) → lands files c x ≡ false → q x ≡ false
none_passes files c q asks x f = false_from_ne_true (q x) (λ t. both_ways (lands files c x) f (asks x t))

any_skip : (q : List EdgeAt → Bool) (xs ys : List (List EdgeAt)) → ((x : List EdgeAt) → IsIn x xs → q x ≡ false) → list_any q (xs ++ ys) ≡ list_any q ys
any_skip q [] ys each = refl
any_skip q (x ∷ xs) ys each =
    ap (λ b. b || list_any q (xs ++ ys)) (each x (inl refl)) ∙ any_skip q xs ys (λ y h. each y (inr h))

-- what is met before the rest may be left out where none of it lands
pub serves_without : (bounds : Bounds) (files : List Graph) (c : Config) (limit : Bool) (met rest : List (List EdgeAt)) → ((x : List EdgeAt) → IsIn x met → lands files c x ≡ false) → ServesFor bounds files c limit (met ++ rest) rest
serves_without bounds files c limit met rest none = record {
  same = λ p asks.
      sym (filter-append p met rest
      ∙ ap (λ xs. xs ++ filter p rest) (filter-none p met (λ x h. none_passes files c p asks.landing x (none x h))));
  flag = λ q asks.
      ap (λ b. limit || b) (sym (any_skip q met rest (λ x h. none_passes files c q asks x (none x h))));
  shorter = let k : length (met ++ rest) ≡ length met + length rest = length-append met rest in omega arith;
}

-- the runs that are added after a run is noted
abbrev pub added : Bool → List Graph → Config → Open → List (List EdgeAt)
added goes files c o = if goes then longer_by files c o.run o.at (out files o.at.spot) else []
