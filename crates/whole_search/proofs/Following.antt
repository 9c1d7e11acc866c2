-- What one edge more makes of what is said of a run.
use Rattle.std.proofs.Common.{◌≡◌, ℕ, suc, ◌+◌, ◌-◌, ◌<◌, ◌≤◌, map, leb-true, le-leb, length-append, get_or, drop, Bool, true, false, ◌&&◌, ◌||◌, List, [], ◌∷◌, ◌++◌, length, Option, Some, None, sym, refl, ap, ◌∙◌, arith, slice_get, if◌then◌else◌, leb}
use Rattle.std.specs.Option.{option_map_or}
use Rattle.std.specs.List.{list_any, filter}
use Rattle.std.proofs.lemmas.List.{drop_more}
use Rattle.std.proofs.lemmas.Bool.{false≢true}
use Rattle.std.proofs.lemmas.List.{map-append}
use Rattle.std.proofs.lemmas.List.Elements.{filter-append}
use Rattle.std.proofs.lemmas.Option.{none-some, same_Some, option_and_then_some}
use Rattle.graph_nodes.specs.Graph.{Graph}
use Rattle.partial_path.specs.declared.config.Config.{Config}
use Rattle.partial_path.specs.declared.config.EdgeAt.{EdgeAt}
use Rattle.partial_path.specs.Step.{step, is_cut_edge}
use Rattle.partial_path.specs.Runs.{run, after_cuts, where_cut}
use Rattle.partial_path.specs.declared.bounds.Bounds.{Bounds}
use Rattle.whole_search.specs.declared.open.Open.{Open}
use Rattle.whole_search.specs.Walk.{ends_cut, can_follow, with_edge, is_shallow, is_bounded}
use Rattle.whole_search.specs.Open.{IsOpen, longer_by}
use Rattle.whole_search.proofs.Prefixes.{run-with_edge}

-- the last edge decides whether a run ends with a cut edge
pub ends_cut-last : (files : List Graph) (es : List EdgeAt) (e : EdgeAt) → slice_get es (length es - 1) ≡ Some e → is_cut_edge files e ≡ ends_cut files es
ends_cut-last files [] e h = absurd (none-some e h)
ends_cut-last files (x ∷ []) e h = ap (is_cut_edge files) (sym (same_Some x e h))
ends_cut-last files (x ∷ y ∷ es) e h =
    let n : length (x ∷ y ∷ es) - 1 ≡ suc (length (y ∷ es) - 1) = omega arith in
    ends_cut-last files (y ∷ es) e (sym (ap (slice_get (x ∷ y ∷ es)) n) ∙ h)

any_where : {X : Type 0} (p : X → Bool) (passes : Bool) (x : X) (xs : List X) → list_any p ((if passes then x ∷ [] else []) ++ xs) ≡ ((passes && p x) || list_any p xs)
any_where p true x xs = refl
any_where p false x xs = refl

-- what is met after the cut edges of a run that begins with this edge
pub any_cut-some : (p : Config → Bool) (files : List Graph) (here next : Config) (e : EdgeAt) (rest : List EdgeAt) → step files here e ≡ Some next → list_any p (after_cuts files here (e ∷ rest)) ≡ ((is_cut_edge files e && p next) || list_any p (after_cuts files next rest))
any_cut-some p files here next e rest h =
    ap (λ o. list_any p (option_map_or (λ (x : Config). where_cut files e x ++ after_cuts files x rest) o [])) h
    ∙ any_where p (is_cut_edge files e) next (after_cuts files next rest)

pub any_cut-none : (p : Config → Bool) (files : List Graph) (here : Config) (e : EdgeAt) (rest : List EdgeAt) → step files here e ≡ None → list_any p (after_cuts files here (e ∷ rest)) ≡ false
any_cut-none p files here e rest h =
    ap (λ o. list_any p (option_map_or (λ (x : Config). where_cut files e x ++ after_cuts files x rest) o [])) h

-- one edge of the loop that looks for a configuration after the cut edges
any_cut-at : (p : Config → Bool) (files : List Graph) (here next : Config) (edges : List EdgeAt) (i : ℕ) (d : EdgeAt) (o : Option Config) (r all : Bool) → i < length edges → o ≡ step files here (get_or edges i d) → o ≡ Some next → r ≡ (is_cut_edge files (get_or edges i d) && p next) → list_any p (after_cuts files here (drop i edges)) ≡ all → (r || list_any p (after_cuts files next (drop (i + 1) edges))) ≡ all
any_cut-at p files here next edges i d o r all lt steps some is h =
    ap (λ b. b || list_any p (after_cuts files next (drop (i + 1) edges))) is
    ∙ sym (any_cut-some p files here next (get_or edges i d) (drop (i + 1) edges) (sym steps ∙ some))
    ∙ ap (λ es. list_any p (after_cuts files here es)) (sym (drop_more edges i d lt))
    ∙ h

pub any_cut-found : (p : Config → Bool) (files : List Graph) (here next : Config) (edges : List EdgeAt) (i : ℕ) (d : EdgeAt) (o : Option Config) (r all : Bool) → i < length edges → o ≡ step files here (get_or edges i d) → o ≡ Some next → r ≡ (is_cut_edge files (get_or edges i d) && p next) → r ≡ true → list_any p (after_cuts files here (drop i edges)) ≡ all → true ≡ all
any_cut-found p files here next edges i d o r all lt steps some is t h =
    sym (ap (λ b. b || list_any p (after_cuts files next (drop (i + 1) edges))) t)
    ∙ any_cut-at p files here next edges i d o r all lt steps some is h

pub any_cut-more : (p : Config → Bool) (files : List Graph) (here next : Config) (edges : List EdgeAt) (i : ℕ) (d : EdgeAt) (o : Option Config) (r all : Bool) → i < length edges → o ≡ step files here (get_or edges i d) → o ≡ Some next → r ≡ (is_cut_edge files (get_or edges i d) && p next) → r ≡ false → list_any p (after_cuts files here (drop i edges)) ≡ all → list_any p (after_cuts files next (drop (i + 1) edges)) ≡ all
any_cut-more p files here next edges i d o r all lt steps some is f h =
    sym (ap (λ b. b || list_any p (after_cuts files next (drop (i + 1) edges))) f)
    ∙ any_cut-at p files here next edges i d o r all lt steps some is h

-- the straight runs that are longer by an edge of two lists
pub longer_by-append : (files : List Graph) (c : Config) (es : List EdgeAt) (at : Config) (xs ys : List EdgeAt) → longer_by files c es at (xs ++ ys) ≡ longer_by files c es at xs ++ longer_by files c es at ys
longer_by-append files c es at xs ys =
    ap (map (with_edge es)) (filter-append (can_follow files (c ∷ after_cuts files c es) at) xs ys)
    ∙ map-append (with_edge es) (filter (can_follow files (c ∷ after_cuts files c es) at) xs) (filter (can_follow files (c ∷ after_cuts files c es) at) ys)

and_assoc : (a b c : Bool) → (a && (b && c)) ≡ ((a && b) && c)
and_assoc true b c = refl
and_assoc false b c = refl

shallow-with_edge : (depth : ℕ) (files : List Graph) (c at next : Config) (es : List EdgeAt) (e : EdgeAt) → run files c es ≡ Some at → step files at e ≡ Some next → is_shallow depth files c (with_edge es e) ≡ (is_shallow depth files c es && leb (length next.stacks.symbols) depth)
shallow-with_edge depth files c at next [] e h s =
    ap (λ o. leb (length c.stacks.symbols) depth && option_map_or (λ (x : Config). is_shallow depth files x []) o true)
    (ap (λ x. step files x e) (same_Some c at h) ∙ s)
shallow-with_edge depth files c at next (x ∷ es) e h s =
    option_and_then_some (λ (n : Config). run files n es) (step files c x) at h (λ n first rest.
    ap (λ o. leb (length c.stacks.symbols) depth && option_map_or (λ (y : Config). is_shallow depth files y (with_edge es e)) o true) first
    ∙ (ap (λ b. leb (length c.stacks.symbols) depth && b) (shallow-with_edge depth files n at next es e rest s)
    ∙ (and_assoc (leb (length c.stacks.symbols) depth) (is_shallow depth files n es) (leb (length next.stacks.symbols) depth)
    ∙ ap (λ o. (leb (length c.stacks.symbols) depth && option_map_or (λ (y : Config). is_shallow depth files y es) o true) && leb (length next.stacks.symbols) depth) (sym first))))

both_tests : (longer short shallow low : Bool) → (longer ≡ true → short ≡ true) → (longer && (shallow && low)) ≡ ((short && shallow) && (longer && low))
both_tests false false s l h = refl
both_tests false true true l h = refl
both_tests false true false l h = refl
both_tests true true true l h = refl
both_tests true true false l h = refl
both_tests true false s l h = absurd (false≢true (h refl))

-- a run is bounded where it was before, and still is with its last edge
pub bounded-with_edge : (bounds : Bounds) (files : List Graph) (c at next : Config) (es : List EdgeAt) (e : EdgeAt) → run files c es ≡ Some at → step files at e ≡ Some next → is_bounded bounds files c (with_edge es e) ≡ (is_bounded bounds files c es && (leb (length (with_edge es e)) bounds.edges && leb (length next.stacks.symbols) bounds.depth))
bounded-with_edge bounds files c at next es e h s =
    ap (λ b. leb (length (with_edge es e)) bounds.edges && b) (shallow-with_edge bounds.depth files c at next es e h s)
    ∙ both_tests (leb (length (with_edge es e)) bounds.edges) (leb (length es) bounds.edges) (is_shallow bounds.depth files c es) (leb (length next.stacks.symbols) bounds.depth) shorter
  where
    shorter : leb (length (with_edge es e)) bounds.edges ≡ true → leb (length es) bounds.edges ≡ true
    shorter t =
        let long : length (with_edge es e) ≤ bounds.edges = leb-true _ _ t in
        let more : length (with_edge es e) ≡ length es + 1 = length-append es (e ∷ []) in
        le-leb (length es) bounds.edges (omega arith)

-- the open run that is longer by an edge
pub IsOpen-longer : (bounds : Bounds) (files : List Graph) (c next : Config) (o : Open) (e : EdgeAt) (longer : List EdgeAt) (n : ℕ) (bounded : Bool) → IsOpen bounds files c o → step files o.at e ≡ Some next → longer ≡ with_edge o.run e → n ≡ length longer → bounded ≡ (o.bounded && (leb n bounds.edges && leb (length next.stacks.symbols) bounds.depth)) → IsOpen bounds files c (record { run = longer; at = next; bounded = bounded })
IsOpen-longer bounds files c next o e longer n bounded h s is count marked = record {
  stands = ap (run files c) is ∙ run-with_edge files c o.at next o.run e h.stands s;
  marked =
      (marked ∙ ap (λ m. o.bounded && (leb m bounds.edges && leb (length next.stacks.symbols) bounds.depth)) count)
      ∙ (ap (λ b. b && (leb (length longer) bounds.edges && leb (length next.stacks.symbols) bounds.depth)) h.marked
      ∙ (ap (λ es. is_bounded bounds files c o.run && (leb (length es) bounds.edges && leb (length next.stacks.symbols) bounds.depth)) is
      ∙ (sym (bounded-with_edge bounds files c o.at next o.run e h.stands s) ∙ ap (is_bounded bounds files c) (sym is))));
}
