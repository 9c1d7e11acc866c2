-- Whether paths are within the bounds with one path more, told without applying it again.
use Rattle.std.proofs.Common.{◌≡◌, ℕ, ◌+◌, ◌-◌, ◌≤◌, max, Bool, true, false, ◌&&◌, List, [], ◌∷◌, map, drop, length, Option, Some, None, sym, refl, ap, ◌∙◌, arith, leb, leb-true, le-leb, length-append, nat_le, if◌then◌else◌}
use Rattle.std.specs.Option.{option_map, option_and_then, option_map_or}
use Rattle.std.proofs.lemmas.List.{length-map, length-drop}
use Rattle.std.proofs.lemmas.Option.{none-some, same_Some, option_and_then_some}
use Rattle.stacks_vars.specs.declared.stacks.Stacks.{Stacks}
use Rattle.stacks_vars.specs.declared.scopes.NodeAt.{NodeAt}
use Rattle.stacks_vars.specs.declared.items.SymbolItem.{SymbolItem}
use Rattle.stacks_vars.specs.declared.patterns.SymPat.{SymPat}
use Rattle.stacks_vars.specs.Enter.{stacks_of}
use Rattle.partial_path.specs.declared.config.Config.{Config}
use Rattle.partial_path.specs.declared.rule.Start.{Start}
use Rattle.partial_path.specs.declared.rule.Start.TheVariants.{Before, After}
use Rattle.partial_path.specs.declared.rule.End.{End}
use Rattle.partial_path.specs.declared.rule.End.TheVariants.{At, ByStack}
use Rattle.partial_path.specs.Spots.{at_node}
use Rattle.partial_path.specs.Step.{enter_jump}
use Rattle.partial_path.specs.Same.{spot_eq}
use Rattle.partial_path.specs.Rules.{Rule, IsRule, peak_reaches, start_spot}
use Rattle.partial_path.specs.Apply.{Rests, rests_of, after_fixed, match_item, match_items, match_stacks, fill, fill_item, rewrite, end_at, apply, height}
use Rattle.partial_path.specs.Moved.{moved, moved_symbol, moved_symbol_out}
use Rattle.partial_path.specs.PathSets.{FileRules}
use Rattle.partial_path.specs.Cutting.{PathsLead, LeadFrom, edge_count, heights}
use Rattle.stitcher.specs.Joins.{Asked, Joined, origin, with_path, is_bounded}

-- the peak is as high as a path's ends
abbrev pub Reaches : Rule → Type 0
Reaches rule = peak_reaches rule.pre rule.post ≤ rule.peak

pub moved_reaches : (base : ℕ) (rule : Rule) → IsRule rule → Reaches (moved base rule)
moved_reaches base rule h =
    let a = length-map rule.pre.symbols (moved_symbol base) in
    let b = length-map rule.post.symbols (moved_symbol_out base) in
    let p : max (length rule.pre.symbols) (length rule.post.symbols) ≤ rule.peak = h.peak in
    omega arith

-- how many symbols the stacks have after a path that ends there
symbols_ended : (end : End) (s : Stacks) (next : Config) → end_at end s ≡ Some next → length next.stacks.symbols ≡ length s.symbols
symbols_ended (At spot) s next e = ap (λ (c : Config). length c.stacks.symbols) (sym (same_Some (record { spot = spot; stacks = s }) next e))
symbols_ended ByStack s next e = by s.scopes e
  where
    by : (scopes : List NodeAt) → enter_jump s.symbols scopes ≡ Some next → length next.stacks.symbols ≡ length s.symbols
    by [] h = absurd (none-some next h)
    by (scope ∷ rest) h = ap (λ (c : Config). length c.stacks.symbols) (sym (same_Some (at_node scope (stacks_of s.symbols rest)) next h))

symbols_made : (rule : Rule) (c : Config) (o : Option Rests) (t : Stacks) → option_map (λ (rests : Rests). fill rests rule.post (drop (length rule.pre.symbols) c.stacks.symbols)) o ≡ Some t → length t.symbols ≡ length rule.post.symbols + (length c.stacks.symbols - length rule.pre.symbols)
symbols_made rule c None t e = absurd (none-some t e)
symbols_made rule c (Some rests) t e =
    let left = drop (length rule.pre.symbols) c.stacks.symbols in
    ap (λ (s : Stacks). length s.symbols) (sym (same_Some (fill rests rule.post left) t e))
    ∙ (length-append (map (fill_item rests) rule.post.symbols) left
    ∙ (λ i. length-map rule.post.symbols (fill_item rests) i + length-drop (length rule.pre.symbols) c.stacks.symbols i))

pub mapped_some : {X Y : Type 0} (f : X → Y) (o : Option X) (y : Y) → option_map f o ≡ Some y → (x : X) × (o ≡ Some x)
mapped_some f None y h = absurd (none-some y h)
mapped_some f (Some x) y h = (x, refl)

-- a precondition that is met asks for no more symbols than there are
pub symbols_met : (pats : List SymPat) (items : List SymbolItem) (rests : List (List NodeAt)) → match_items pats items ≡ Some rests → length pats ≤ length items
symbols_met [] items rests h = omega arith
symbols_met (pat ∷ pats) [] rests h = absurd (none-some rests h)
symbols_met (pat ∷ pats) (item ∷ items) rests h =
    option_and_then_some (λ (rest : List NodeAt). option_map (λ (more : List (List NodeAt)). rest ∷ more) (match_items pats items)) (match_item pat item) rests h
    (λ rest there more.
    let m = mapped_some (λ (xs : List (List NodeAt)). rest ∷ xs) (match_items pats items) rests more in
    let le = symbols_met pats items m.0 m.1 in
    omega arith)

asked_met : (rule : Rule) (c : Config) (t : Stacks) → rewrite rule.pre rule.post c.stacks ≡ Some t → length rule.pre.symbols ≤ length c.stacks.symbols
asked_met rule c t e =
    let r = mapped_some (λ (rests : Rests). fill rests rule.post (drop (length rule.pre.symbols) c.stacks.symbols)) (match_stacks rule.pre c.stacks) t e in
    option_and_then_some (λ (front : List NodeAt). option_map (rests_of front) (match_items rule.pre.symbols c.stacks.symbols)) (after_fixed rule.pre.scopes.fixed c.stacks.scopes) r.0 r.1
    (λ front there more.
    let m = mapped_some (rests_of front) (match_items rule.pre.symbols c.stacks.symbols) r.0 more in
    symbols_met rule.pre.symbols c.stacks.symbols m.0 m.1)

-- where a path applies, its height is no less than the number of symbols before and after it
pub height_least : (rule : Rule) (c next : Config) → Reaches rule → apply rule c ≡ Some next → (length c.stacks.symbols ≤ height rule c) × (length next.stacks.symbols ≤ height rule c)
height_least rule c next h e =
    let a = cond_some_of (spot_eq (start_spot rule.start) c.spot) e in
    let made = option_and_then_some (λ (t : Stacks). end_at rule.end t) (rewrite rule.pre rule.post c.stacks) next a
    (λ t rewritten ended. symbols_ended rule.end t next ended ∙ symbols_made rule c (match_stacks rule.pre c.stacks) t rewritten) in
    let asked = option_and_then_some (λ (t : Stacks). end_at rule.end t) (rewrite rule.pre rule.post c.stacks) next a
    (λ t rewritten ended. asked_met rule c t rewritten) in
    let p : max (length rule.pre.symbols) (length rule.post.symbols) ≤ rule.peak = h in
    (omega arith, omega arith)
  where
    cond_some_of : (b : Bool) → (if b then option_and_then (end_at rule.end) (rewrite rule.pre rule.post c.stacks) else None) ≡ Some next → option_and_then (end_at rule.end) (rewrite rule.pre rule.post c.stacks) ≡ Some next
    cond_some_of true g = g
    cond_some_of false g = absurd (none-some next g)

pub edge_count-with : (paths : List (ℕ × Rule)) (p : ℕ × Rule) → edge_count (with_path paths p) ≡ edge_count paths + length p.1.edges
edge_count-with [] p = omega arith
edge_count-with (x ∷ paths) p = let r = edge_count-with paths p in omega arith

pub heights-with : (files : List FileRules) (s : Start) (c mid next : Config) (paths : List (ℕ × Rule)) (p : ℕ × Rule) → PathsLead files s c paths mid → apply (moved p.0 p.1) mid ≡ Some next → length mid.stacks.symbols ≤ height (moved p.0 p.1) mid → heights c (with_path paths p) ≡ max (heights c paths) (max (height (moved p.0 p.1) mid) (length next.stacks.symbols))
heights-with files s c mid next [] p h g le =
    let one : heights c (p ∷ []) ≡ max (height (moved p.0 p.1) c) (length next.stacks.symbols) =
    ap (λ (o : Option Config). max (height (moved p.0 p.1) c) (option_map_or (λ (n : Config). length n.stacks.symbols) o 0)) (ap (apply (moved p.0 p.1)) h ∙ g) in
    let two : height (moved p.0 p.1) c ≡ height (moved p.0 p.1) mid = ap (height (moved p.0 p.1)) h in
    let three : length c.stacks.symbols ≡ length mid.stacks.symbols = ap (λ (x : Config). length x.stacks.symbols) h in
    by (height (moved p.0 p.1) c) (height (moved p.0 p.1) mid) (length c.stacks.symbols) (length mid.stacks.symbols) (length next.stacks.symbols) (heights c (p ∷ [])) one two three le
  where
    by : (hc hm lc lm ln n : ℕ) → n ≡ max hc ln → hc ≡ hm → lc ≡ lm → lm ≤ hm → n ≡ max lc (max hm ln)
    by hc hm lc lm ln n a b d e = omega arith
heights-with files s c mid next (x ∷ paths) p h g le =
    let r = heights-with files (After h.2.spot) h.2 mid next paths p h.4 g le in
    let one : heights c (x ∷ with_path paths p) ≡ max (height (moved x.0 x.1) c) (heights h.2 (with_path paths p)) =
    ap (λ (o : Option Config). max (height (moved x.0 x.1) c) (option_map_or (λ (n : Config). heights n (with_path paths p)) o 0)) h.3 in
    let two : heights c (x ∷ paths) ≡ max (height (moved x.0 x.1) c) (heights h.2 paths) =
    ap (λ (o : Option Config). max (height (moved x.0 x.1) c) (option_map_or (λ (n : Config). heights n paths) o 0)) h.3 in
    by (heights c (x ∷ with_path paths p)) (heights c (x ∷ paths)) (height (moved x.0 x.1) c) (heights h.2 (with_path paths p)) (heights h.2 paths) (max (height (moved p.0 p.1) mid) (length next.stacks.symbols)) one two r
  where
    by : (a b k u v w : ℕ) → a ≡ max k u → b ≡ max k v → u ≡ max v w → a ≡ max b w
    by a b k u v w e f g = omega arith

bool_same : (a b : Bool) → (a ≡ true → b ≡ true) → (b ≡ true → a ≡ true) → a ≡ b
bool_same true b f g = sym (f refl)
bool_same false true f g = g refl
bool_same false false f g = refl

-- paths that are within the bounds so far are so with one path more exactly where they have few enough edges with
-- it, and it isn't too high
pub bounded-with : (q : Asked) (j : Joined) (p : ℕ × Rule) (next : Config) → LeadFrom q.files q.node j.paths j.at → apply (moved p.0 p.1) j.at ≡ Some next → Reaches (moved p.0 p.1) → heights (origin q) j.paths ≤ q.bounds.depth → is_bounded q (with_path j.paths p) ≡ (nat_le (edge_count j.paths + length p.1.edges) q.bounds.edges && nat_le (height (moved p.0 p.1) j.at) q.bounds.depth)
bounded-with q j p next leads applies reaches low =
    let least = height_least (moved p.0 p.1) j.at next reaches applies in
    let high = heights-with q.files (Before q.node) (origin q) j.at next j.paths p leads applies least.0 in
    let same : nat_le (heights (origin q) (with_path j.paths p)) q.bounds.depth ≡ nat_le (height (moved p.0 p.1) j.at) q.bounds.depth =
    by (heights (origin q) (with_path j.paths p)) (heights (origin q) j.paths) (height (moved p.0 p.1) j.at) (length next.stacks.symbols) q.bounds.depth high low least.1 in
    λ i. nat_le (edge_count-with j.paths p i) q.bounds.edges && same i
  where
    by : (a b h n d : ℕ) → a ≡ max b (max h n) → b ≤ d → n ≤ h → leb a d ≡ leb h d
    by a b h n d e f g =
        bool_same (leb a d) (leb h d)
        (λ t. le-leb h d (let k : a ≤ d = leb-true a d t in omega arith))
        (λ t. le-leb a d (let k : h ≤ d = leb-true h d t in omega arith))
