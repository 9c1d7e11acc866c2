-- Applying a rule of file 0 alone, moved: it is applying the rule itself with the file numbers changed.
use Rattle.std.proofs.Common.{◌≡◌, refl, sym, ◌∙◌, ap, ℕ, ◌+◌, ◌-◌, List, [], ◌∷◌, ◌++◌, length, map, drop, Option, Some, None, if◌then◌else◌}
use Rattle.std.specs.Prelude.{slice_get}
use Rattle.std.specs.Option.{option_map, option_and_then, option_map_or, IfSome}
use Rattle.std.specs.List.{AllByRecursion}
use Rattle.std.specs.Prelude.{All}
use Rattle.std.specs.Str.{bytes_eq}
use Rattle.std.proofs.lemmas.List.{map-append, drop-map, length-map}
use Rattle.std.proofs.lemmas.List.Elements.{recursion_from_All}
use Rattle.std.proofs.lemmas.Option.{slice_get-map}
use Rattle.stacks_vars.specs.declared.scopes.NodeAt.{NodeAt}
use Rattle.stacks_vars.specs.declared.items.SymbolItem.{SymbolItem}
use Rattle.stacks_vars.specs.declared.stacks.Stacks.{Stacks}
use Rattle.stacks_vars.specs.declared.patterns.ScopePat.{ScopePat}
use Rattle.stacks_vars.specs.declared.patterns.SymPat.{SymPat}
use Rattle.stacks_vars.specs.declared.patterns.Pre.{Pre}
use Rattle.stacks_vars.specs.declared.patterns.Tail.{Tail}
use Rattle.stacks_vars.specs.declared.patterns.Tail.TheVariants.{Nil, Front, Item}
use Rattle.stacks_vars.specs.declared.patterns.ScopeOut.{ScopeOut}
use Rattle.stacks_vars.specs.declared.patterns.SymOut.{SymOut}
use Rattle.stacks_vars.specs.declared.patterns.Post.{Post}
use Rattle.stacks_vars.specs.Enter.{item_of, stacks_of}
use Rattle.stacks_vars.specs.Same.{node_eq}
use Rattle.partial_path.specs.declared.config.Spot.{Spot}
use Rattle.partial_path.specs.declared.config.Spot.TheVariants as spot
use Rattle.partial_path.specs.declared.config.Config.{Config}
use Rattle.partial_path.specs.declared.rule.Start.{Start}
use Rattle.partial_path.specs.declared.rule.Start.TheVariants.{Before, After}
use Rattle.partial_path.specs.declared.rule.End.{End}
use Rattle.partial_path.specs.declared.rule.End.TheVariants as end
use Rattle.partial_path.specs.Same.{spot_eq}
use Rattle.partial_path.specs.Step.{enter_jump}
use Rattle.partial_path.specs.Rules.{Rule, start_spot}
use Rattle.partial_path.specs.Apply.{Rests, rests_of, after_fixed, match_attached, match_item, match_items, match_stacks, tail_scopes, fill_scopes, fill_item, fill, rewrite, end_at, apply, height}
use Rattle.partial_path.specs.Moved.{moved_node, moved_spot, moved_start, moved_end, moved_scopes, moved_symbol, moved_pre, moved_scopes_out, moved_symbol_out, moved_post, moved}
use Rattle.partial_path.specs.FileNumbers.{NodeIn, SpotIn, StartIn, EndIn, AskedIn, MadeIn, IsOfFileZero}
use Rattle.partial_path.proofs.Swaps.{IsZero, sw_node, sw_nodes, sw_item, sw_stacks, sw_spot, sw_config, nodes_twice, items_twice, node_moved, nodes_moved, node_met, tested}

-- the precondition is met

fixed_met : (b : ℕ) (fixed scopes : List NodeAt) → AllByRecursion (NodeIn IsZero) fixed
    → after_fixed (map (moved_node b) fixed) scopes ≡ option_map (sw_nodes b) (after_fixed fixed (sw_nodes b scopes))
fixed_met b [] scopes zeros = ap Some (sym (nodes_twice b scopes))
fixed_met b (f ∷ fixed) [] zeros = refl
fixed_met b (f ∷ fixed) (s ∷ scopes) zeros =
    (λ i. if node_met b f s zeros.0 i then fixed_met b fixed scopes zeros.1 i else None)
    ∙ tested (sw_nodes b) (node_eq f (sw_node b s)) (after_fixed fixed (sw_nodes b scopes))

scopes_met : (b : ℕ) (fixed scopes : List NodeAt) → All (NodeIn IsZero) fixed
    → after_fixed (map (moved_node b) fixed) scopes ≡ option_map (sw_nodes b) (after_fixed fixed (sw_nodes b scopes))
scopes_met b fixed scopes zeros = fixed_met b fixed scopes (recursion_from_All (NodeIn IsZero) fixed zeros)

attached_met : (b : ℕ) (pat : Option ScopePat) (scopes : Option (List NodeAt)) → IfSome pat (λ (s : ScopePat). All (NodeIn IsZero) s.fixed)
    → match_attached (option_map (moved_scopes b) pat) scopes ≡ option_map (sw_nodes b) (match_attached pat (option_map (sw_nodes b) scopes))
attached_met b None None zeros = refl
attached_met b None (Some scopes) zeros = refl
attached_met b (Some pat) None zeros = refl
attached_met b (Some pat) (Some scopes) zeros = scopes_met b pat.fixed scopes zeros

item_met : (b : ℕ) (pat : SymPat) (item : SymbolItem) → AskedIn IsZero pat
    → match_item (moved_symbol b pat) item ≡ option_map (sw_nodes b) (match_item pat (sw_item b item))
item_met b pat item zeros =
    ap (λ m. if bytes_eq pat.symbol item.symbol then m else None) (attached_met b pat.scopes item.scopes zeros)
    ∙ tested (sw_nodes b) (bytes_eq pat.symbol item.symbol) (match_attached pat.scopes (option_map (sw_nodes b) item.scopes))

-- a rest before the others
abbrev with_rest : Option (List (List NodeAt)) → Option (List NodeAt) → Option (List (List NodeAt))
with_rest others first =
    option_and_then (λ (rest : List NodeAt). option_map (λ (rests : List (List NodeAt)). rest ∷ rests) others) first

with_rest_swapped : (b : ℕ) (others : Option (List (List NodeAt))) (first : Option (List NodeAt))
    → with_rest (option_map (map (sw_nodes b)) others) (option_map (sw_nodes b) first) ≡ option_map (map (sw_nodes b)) (with_rest others first)
with_rest_swapped b None None = refl
with_rest_swapped b None (Some rest) = refl
with_rest_swapped b (Some rests) None = refl
with_rest_swapped b (Some rests) (Some rest) = refl

items_met : (b : ℕ) (pats : List SymPat) (items : List SymbolItem) → AllByRecursion (AskedIn IsZero) pats
    → match_items (map (moved_symbol b) pats) items ≡ option_map (map (sw_nodes b)) (match_items pats (map (sw_item b) items))
items_met b [] items zeros = refl
items_met b (pat ∷ pats) [] zeros = refl
items_met b (pat ∷ pats) (item ∷ items) zeros =
    (λ i. with_rest (items_met b pats items zeros.1 i) (item_met b pat item zeros.0 i))
    ∙ with_rest_swapped b (match_items pats (map (sw_item b) items)) (match_item pat (sw_item b item))

abbrev sw_rests : ℕ → Rests → Rests
sw_rests b rests = rests_of (sw_nodes b rests.front) (map (sw_nodes b) rests.items)

abbrev both_rests : Option (List (List NodeAt)) → Option (List NodeAt) → Option Rests
both_rests items front = option_and_then (λ (f : List NodeAt). option_map (rests_of f) items) front

both_rests_swapped : (b : ℕ) (items : Option (List (List NodeAt))) (front : Option (List NodeAt))
    → both_rests (option_map (map (sw_nodes b)) items) (option_map (sw_nodes b) front) ≡ option_map (sw_rests b) (both_rests items front)
both_rests_swapped b None None = refl
both_rests_swapped b None (Some front) = refl
both_rests_swapped b (Some items) None = refl
both_rests_swapped b (Some items) (Some front) = refl

stacks_met : (b : ℕ) (pre : Pre) (s : Stacks) → All (AskedIn IsZero) pre.symbols → All (NodeIn IsZero) pre.scopes.fixed
    → match_stacks (moved_pre b pre) s ≡ option_map (sw_rests b) (match_stacks pre (sw_stacks b s))
stacks_met b pre s asked scopes =
    (λ i. both_rests (items_met b pre.symbols s.symbols (recursion_from_All (AskedIn IsZero) pre.symbols asked) i) (scopes_met b pre.scopes.fixed s.scopes scopes i))
    ∙ both_rests_swapped b (match_items pre.symbols (map (sw_item b) s.symbols)) (after_fixed pre.scopes.fixed (sw_nodes b s.scopes))

-- the postcondition is filled in

item_tail : (b : ℕ) (found : Option (List NodeAt))
    → option_map_or (λ (scopes : List NodeAt). scopes) (option_map (sw_nodes b) found) [] ≡ sw_nodes b (option_map_or (λ (scopes : List NodeAt). scopes) found [])
item_tail b None = refl
item_tail b (Some scopes) = refl

tail_swapped : (b : ℕ) (rests : Rests) (tail : Tail) → tail_scopes (sw_rests b rests) tail ≡ sw_nodes b (tail_scopes rests tail)
tail_swapped b rests Nil = refl
tail_swapped b rests Front = refl
tail_swapped b rests (Item n) =
    ap (λ found. option_map_or (λ (scopes : List NodeAt). scopes) found []) (slice_get-map (sw_nodes b) rests.items n) ∙ item_tail b (slice_get rests.items n)

scopes_made : (b : ℕ) (rests : Rests) (out : ScopeOut) → All (NodeIn IsZero) out.scopes
    → fill_scopes (sw_rests b rests) (moved_scopes_out b out) ≡ sw_nodes b (fill_scopes rests out)
scopes_made b rests out zeros =
    (λ i. nodes_moved b out.scopes (recursion_from_All (NodeIn IsZero) out.scopes zeros) i ++ tail_swapped b rests out.tail i)
    ∙ sym (map-append (sw_node b) out.scopes (tail_scopes rests out.tail))

attached_made : (b : ℕ) (rests : Rests) (out : Option ScopeOut) → IfSome out (λ (s : ScopeOut). All (NodeIn IsZero) s.scopes)
    → option_map (fill_scopes (sw_rests b rests)) (option_map (moved_scopes_out b) out) ≡ option_map (sw_nodes b) (option_map (fill_scopes rests) out)
attached_made b rests None zeros = refl
attached_made b rests (Some out) zeros = ap Some (scopes_made b rests out zeros)

items_made : (b : ℕ) (rests : Rests) (outs : List SymOut) → AllByRecursion (MadeIn IsZero) outs
    → map (fill_item (sw_rests b rests)) (map (moved_symbol_out b) outs) ≡ map (sw_item b) (map (fill_item rests) outs)
items_made b rests [] zeros = refl
items_made b rests (out ∷ outs) zeros =
    λ i. item_of out.symbol (attached_made b rests out.scopes zeros.0 i) ∷ items_made b rests outs zeros.1 i

stacks_made : (b : ℕ) (rests : Rests) (post : Post) (left : List SymbolItem) → All (MadeIn IsZero) post.symbols → All (NodeIn IsZero) post.scopes.scopes
    → fill (sw_rests b rests) (moved_post b post) left ≡ sw_stacks b (fill rests post (map (sw_item b) left))
stacks_made b rests post left made scopes =
    let back = sym (items_twice b left) in
    let whole = sym (map-append (sw_item b) (map (fill_item rests) post.symbols) (map (sw_item b) left)) in
    (λ i. stacks_of (items_made b rests post.symbols (recursion_from_All (MadeIn IsZero) post.symbols made) i ++ back i) (scopes_made b rests post.scopes scopes i))
    ∙ (λ i. stacks_of (whole i) (sw_nodes b (fill_scopes rests post.scopes)))

filled : (b : ℕ) (post : Post) (n : ℕ) (symbols : List SymbolItem) (rests : Option Rests) → All (MadeIn IsZero) post.symbols → All (NodeIn IsZero) post.scopes.scopes
    → option_map (λ (r : Rests). fill r (moved_post b post) (drop n symbols)) (option_map (sw_rests b) rests)
    ≡ option_map (sw_stacks b) (option_map (λ (r : Rests). fill r post (drop n (map (sw_item b) symbols))) rests)
filled b post n symbols None made scopes = refl
filled b post n symbols (Some rests) made scopes =
    ap Some (stacks_made b rests post (drop n symbols) made scopes ∙ ap (λ left. sw_stacks b (fill rests post left)) (sym (drop-map (sw_item b) n symbols)))

rewritten : (b : ℕ) (rule : Rule) (s : Stacks) → IsOfFileZero rule
    → rewrite (moved_pre b rule.pre) (moved_post b rule.post) s ≡ option_map (sw_stacks b) (rewrite rule.pre rule.post (sw_stacks b s))
rewritten b rule s zeros =
    (λ i. option_map (λ (r : Rests). fill r (moved_post b rule.post) (drop (length-map rule.pre.symbols (moved_symbol b) i) s.symbols)) (stacks_met b rule.pre s zeros.asked zeros.asked_scopes i))
    ∙ filled b rule.post (length rule.pre.symbols) s.symbols (match_stacks rule.pre (sw_stacks b s)) zeros.made zeros.made_scopes

-- its ends

spot_moved : (b : ℕ) (s : Spot) → SpotIn IsZero s → moved_spot b s ≡ sw_spot b s
spot_moved b spot.Root zeros = refl
spot_moved b (spot.At node) zeros = ap spot.At (node_moved b node zeros)

pub jumped : (b : ℕ) (symbols : List SymbolItem) (scopes : List NodeAt) → enter_jump (map (sw_item b) symbols) (sw_nodes b scopes) ≡ option_map (sw_config b) (enter_jump symbols scopes)
jumped b symbols [] = refl
jumped b symbols (scope ∷ scopes) = refl

ended : (b : ℕ) (e : End) (s : Stacks) → EndIn IsZero e → end_at (moved_end b e) (sw_stacks b s) ≡ option_map (sw_config b) (end_at e s)
ended b (end.At at) s zeros = λ i. Some (record { spot = spot_moved b at zeros i; stacks = sw_stacks b s })
ended b end.ByStack s zeros = jumped b s.symbols s.scopes

pub begun : (b : ℕ) (start : Start) (at : Spot) → StartIn IsZero start → spot_eq (start_spot (moved_start b start)) at ≡ spot_eq (start_spot start) (sw_spot b at)
begun b (Before node) spot.Root zeros = refl
begun b (Before node) (spot.At at) zeros = node_met b node at zeros
begun b (After spot.Root) spot.Root zeros = refl
begun b (After spot.Root) (spot.At at) zeros = refl
begun b (After (spot.At node)) spot.Root zeros = refl
begun b (After (spot.At node)) (spot.At at) zeros = node_met b node at zeros

ended_from : (b : ℕ) (e : End) (s : Option Stacks) → EndIn IsZero e
    → option_and_then (end_at (moved_end b e)) (option_map (sw_stacks b) s) ≡ option_map (sw_config b) (option_and_then (end_at e) s)
ended_from b e None zeros = refl
ended_from b e (Some s) zeros = ended b e s zeros

pub applied : (b : ℕ) (rule : Rule) (c : Config) → IsOfFileZero rule → apply (moved b rule) c ≡ option_map (sw_config b) (apply rule (sw_config b c))
applied b rule c zeros =
    (λ i. if begun b rule.start c.spot zeros.start i then option_and_then (end_at (moved_end b rule.end)) (rewritten b rule c.stacks zeros i) else None)
    ∙ ap (λ x. if spot_eq (start_spot rule.start) (sw_spot b c.spot) then x else None) (ended_from b rule.end (rewrite rule.pre rule.post (sw_stacks b c.stacks)) zeros.end)
    ∙ tested (sw_config b) (spot_eq (start_spot rule.start) (sw_spot b c.spot)) (option_and_then (end_at rule.end) (rewrite rule.pre rule.post (sw_stacks b c.stacks)))

pub as_high : (b : ℕ) (rule : Rule) (c : Config) → height (moved b rule) c ≡ height rule (sw_config b c)
as_high b rule c =
    let symbols = sym (length-map c.stacks.symbols (sw_item b)) in
    λ i. (rule.peak + symbols i) - length-map rule.pre.symbols (moved_symbol b) i
