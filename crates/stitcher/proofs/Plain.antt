-- A path that is offered is met where no scopes are asked for or attached: its texts were compared when it was found.
use Rattle.std.proofs.Common.{◌≡◌, refl, sym, ◌∙◌, ap, ℕ, ◌-◌, List, [], ◌∷◌, ◌++◌, length, take, drop, reverse, map, arith, Option, Some, None, Bool, true, false, ◌&&◌, ◌≤◌, if◌then◌else◌}
use Rattle.std.specs.List.{list_any}
use Rattle.std.specs.Option.{is_some, option_map, option_and_then}
use Rattle.std.specs.Str.{bytes_eq}
use Rattle.std.proofs.lemmas.Bool.{and_parts, or_parts, false≢true}
use Rattle.std.proofs.lemmas.List.{take_all, take-append-drop, reverse-append, length-reverse, length-drop}
use Rattle.std.proofs.Math.Seq.{drop-append_seam}
use Rattle.std.proofs.lemmas.List.Sorted.{IsPermutation-reverse, list_any-IsPermutation}
use Rattle.stacks_vars.specs.declared.scopes.NodeAt.{NodeAt}
use Rattle.stacks_vars.specs.declared.items.SymbolItem.{SymbolItem}
use Rattle.stacks_vars.specs.declared.patterns.ScopePat.{ScopePat}
use Rattle.stacks_vars.specs.declared.patterns.SymPat.{SymPat}
use Rattle.partial_path.specs.declared.config.Config.{Config}
use Rattle.partial_path.specs.declared.config.Spot.TheVariants as spot
use Rattle.partial_path.specs.declared.rule.Start.{Start}
use Rattle.partial_path.specs.Apply.{after_fixed, match_attached, match_item, match_items, match_stacks, rests_of}
use Rattle.partial_path.specs.Keys.{asked_texts, key}
use Rattle.partial_path.specs.Cutting.{LeadFrom}
use Rattle.partial_path.specs.Moved.{moved_node, moved_pre, moved_scopes, moved_start, moved_symbol}
use Rattle.partial_path.specs.Rules.{Rule, start_spot}
use Rattle.partial_path.specs.Same.{spot_eq}
use Rattle.partial_path.specs.Sources.{stand_first}
use Rattle.partial_path.proofs.Equals.{spot_eq-Decides}
use Rattle.stitcher.specs.Plain.{asks_scopes, has_scopes}
use Rattle.stitcher.specs.declared.trail.Level.{Level}
use Rattle.stitcher.specs.Joins.{Asked, joined, next_start}
use Rattle.stitcher.specs.Trail.{paths_of, IsHere, IsOffered}

attached : (base : ℕ) (pat : Option ScopePat) (scopes : Option (List NodeAt)) → is_some pat ≡ false → is_some scopes ≡ false
    → match_attached (option_map (moved_scopes base) pat) scopes ≡ Some []
attached base None None a b = refl
attached base None (Some scopes) a b = absurd (false≢true (sym b))
attached base (Some pat) scopes a b = absurd (false≢true (sym a))

-- the last so many of a stack that is kept turned round are the first so many of it
pub in_front : {X : Type 0} (test : X → Bool) (stack items : List X) (n below : ℕ) → items ≡ reverse stack → below ≡ length items - n
    → list_any test (take (length items - below) (drop below items)) ≡ list_any test (take n stack)
in_front test stack items n below turned less =
    let split : items ≡ reverse (drop n stack) ++ reverse (take n stack) =
    turned ∙ ap reverse (sym (take-append-drop n stack)) ∙ reverse-append (take n stack) (drop n stack) in
    let left : below ≡ length (reverse (drop n stack)) =
    (let a = ap length turned in let b = length-reverse stack in let c = length-reverse (drop n stack) in let d = length-drop n stack in omega arith) in
    let last : drop below items ≡ reverse (take n stack) =
    (λ i. drop (left i) (split i)) ∙ drop-append_seam (reverse (drop n stack)) (reverse (take n stack)) in
    let whole : length (drop below items) ≤ length items - below = (let a = length-drop below items in omega arith) in
    ap (list_any test) (take_all (length items - below) (drop below items) whole ∙ last)
    ∙ sym (list_any-IsPermutation test (take n stack) (reverse (take n stack)) (IsPermutation-reverse (take n stack)))

-- one plain symbol
item_met : (base : ℕ) (pat : SymPat) (item : SymbolItem) → asks_scopes pat ≡ false → has_scopes item ≡ false → bytes_eq pat.symbol item.symbol ≡ true
    → match_item (moved_symbol base pat) item ≡ Some []
item_met base pat item a b t =
    ap (λ (x : Bool). if x then match_attached (option_map (moved_scopes base) pat.scopes) item.scopes else None) t
    ∙ attached base pat.scopes item.scopes a b

kept_some : (rest : List NodeAt) (o : Option (List (List NodeAt))) → is_some (option_map (λ (rests : List (List NodeAt)). rest ∷ rests) o) ≡ is_some o
kept_some rest None = refl
kept_some rest (Some rests) = refl

-- all of them, where as many symbols in front are plain
items_met : (base : ℕ) (pats : List SymPat) (items : List SymbolItem) → list_any asks_scopes pats ≡ false → list_any has_scopes (take (length pats) items) ≡ false
    → stand_first (asked_texts pats) items ≡ true → is_some (match_items (map (moved_symbol base) pats) items) ≡ true
items_met base [] items a b t = refl
items_met base (pat ∷ pats) [] a b t = absurd (false≢true t)
items_met base (pat ∷ pats) (item ∷ items) a b t =
    let no_pats = or_parts (asks_scopes pat) (list_any asks_scopes pats) a in
    let no_items = or_parts (has_scopes item) (list_any has_scopes (take (length pats) items)) b in
    let texts = and_parts (bytes_eq pat.symbol item.symbol) (stand_first (asked_texts pats) items) t in
    let left = match_items (map (moved_symbol base) pats) items in
    ap (λ (m : Option (List NodeAt)). is_some (option_and_then (λ (rest : List NodeAt). option_map (λ (rests : List (List NodeAt)). rest ∷ rests) left) m))
    (item_met base pat item no_pats.0 no_items.0 texts.0)
    ∙ (kept_some [] left ∙ items_met base pats items no_pats.1 no_items.1 texts.1)

kept_rests : (front : List NodeAt) (o : Option (List (List NodeAt))) → is_some (option_map (rests_of front) o) ≡ is_some o
kept_rests front None = refl
kept_rests front (Some rests) = refl

-- what is asked first is all that is asked, where that are six symbols or fewer
pub plain_met : (base : ℕ) (rule : Rule) (at : Config) → spot_eq (start_spot (moved_start base rule.start)) at.spot ≡ true → stand_first (key rule) at.stacks.symbols ≡ true
    → length rule.pre.symbols ≤ 6 → rule.pre.scopes.fixed ≡ [] → list_any asks_scopes rule.pre.symbols ≡ false → list_any has_scopes (take (length rule.pre.symbols) at.stacks.symbols) ≡ false
    → (spot_eq (start_spot (moved_start base rule.start)) at.spot && is_some (match_stacks (moved_pre base rule.pre) at.stacks)) ≡ true
plain_met base rule at here texts few none no_pats no_items =
    let met = match_items (map (moved_symbol base) rule.pre.symbols) at.stacks.symbols in
    let all : stand_first (asked_texts rule.pre.symbols) at.stacks.symbols ≡ true =
    ap (λ (pats : List SymPat). stand_first (asked_texts pats) at.stacks.symbols) (sym (take_all 6 rule.pre.symbols few)) ∙ texts in
    ap (λ (x : Bool). x && is_some (match_stacks (moved_pre base rule.pre) at.stacks)) here
    ∙ (ap (λ (fixed : List NodeAt). is_some (option_and_then (λ (front : List NodeAt). option_map (rests_of front) met) (after_fixed (map (moved_node base) fixed) at.stacks.scopes))) none
    ∙ (kept_rests at.stacks.scopes met ∙ items_met base rule.pre.symbols at.stacks.symbols no_pats no_items all))

-- an offered path begins where the trail landed
pub begins_here : (q : Asked) (trail : List Level) (at : Config) (p : ℕ × Rule) → IsHere q trail at → IsOffered q trail at p
    → spot_eq (start_spot (moved_start p.0 p.1.start)) at.spot ≡ true
begins_here q trail at p here offered = by trail here.leads offered.begins
  where
    by : (levels : List Level) → LeadFrom q.files q.node (paths_of levels) at → moved_start p.0 p.1.start ≡ next_start q (joined (paths_of levels) at)
        → spot_eq (start_spot (moved_start p.0 p.1.start)) at.spot ≡ true
    by [] leads e =
        ap (λ (s : Start). spot_eq (start_spot s) at.spot) e
        ∙ (spot_eq-Decides (spot.At q.node) at.spot).1 (ap (λ (c : Config). c.spot) leads)
    by (l ∷ levels) leads e = ap (λ (s : Start). spot_eq (start_spot s) at.spot) e ∙ (spot_eq-Decides at.spot at.spot).1 refl
