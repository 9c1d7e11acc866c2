-- What a rule's variables stand for where its precondition is met: what is left behind as many as are asked for.
use Rattle.std.proofs.Common.{◌≡◌, refl, sym, ◌∙◌, ap, ℕ, zero, suc, ◌<◌, ◌≤◌, List, [], ◌∷◌, ◌-◌, length, map, drop, reverse, Bool, true, false, Option, Some, None, is_some, get_or, arith, if◌then◌else◌}
use Rattle.std.specs.Prelude.{slice_get}
use Rattle.std.specs.Option.{option_map, option_and_then, option_map_or}
use Rattle.std.specs.Str.{bytes_eq}
use Rattle.std.specs.Prelude.{◌&&◌}
use Rattle.std.proofs.lemmas.Bool.{false≢true}
use Rattle.std.proofs.lemmas.List.{length-map, get_or-reverse}
use Rattle.std.proofs.lemmas.Option.{none-some, same_Some, option_and_then_some}
use Rattle.stacks_vars.specs.declared.scopes.NodeAt.{NodeAt}
use Rattle.stacks_vars.specs.declared.items.SymbolItem.{SymbolItem}
use Rattle.stacks_vars.specs.declared.stacks.Stacks.{Stacks}
use Rattle.stacks_vars.specs.declared.patterns.ScopePat.{ScopePat}
use Rattle.stacks_vars.specs.declared.patterns.SymPat.{SymPat}
use Rattle.stacks_vars.specs.declared.patterns.Pre.{Pre}
use Rattle.stacks_vars.specs.Same.{node_eq}
use Rattle.partial_path.specs.declared.config.Config.{Config}
use Rattle.partial_path.specs.Same.{spot_eq}
use Rattle.partial_path.specs.Rules.{Rule, start_spot}
use Rattle.partial_path.specs.Apply.{Rests, rests_of, after_fixed, match_attached, match_item, match_items, match_stacks, fill, rewrite, end_at, apply}
use Rattle.partial_path.specs.Moved.{moved_node, moved_scopes, moved_symbol, moved_pre, moved_post, moved_end, moved_start, moved}
use Rattle.partial_path.specs.Left.{left_scopes, left_attached, left_items, left_in}
use Rattle.partial_path.proofs.KeyOrders.{turned_back, turned_length}

-- what follows fixed scopes that are met
fixed_left : (fixed scopes rest : List NodeAt) → after_fixed fixed scopes ≡ Some rest → rest ≡ drop (length fixed) scopes
fixed_left [] scopes rest e = sym (same_Some scopes rest e)
fixed_left (f ∷ fixed) [] rest e = absurd (none-some rest e)
fixed_left (f ∷ fixed) (s ∷ scopes) rest e = by (λ h. fixed_left fixed scopes rest h) (node_eq f s) e
  where
    by : (after_fixed fixed scopes ≡ Some rest → rest ≡ drop (length fixed) scopes) → (b : Bool) → (if b then after_fixed fixed scopes else None) ≡ Some rest
        → rest ≡ drop (length (f ∷ fixed)) (s ∷ scopes)
    by more true h = more h
    by more false h = absurd (none-some rest h)

scopes_met : (base : ℕ) (pat : ScopePat) (scopes rest : List NodeAt) → after_fixed (moved_scopes base pat).fixed scopes ≡ Some rest → rest ≡ left_scopes pat scopes
scopes_met base pat scopes rest e =
    fixed_left (map (moved_node base) pat.fixed) scopes rest e ∙ ap (λ (n : ℕ). drop n scopes) (length-map pat.fixed (moved_node base))

attached_met : (base : ℕ) (pat : Option ScopePat) (attached : Option (List NodeAt)) (rest : List NodeAt) → match_attached (option_map (moved_scopes base) pat) attached ≡ Some rest → rest ≡ left_attached pat attached
attached_met base None None rest e = sym (same_Some [] rest e)
attached_met base None (Some scopes) rest e = absurd (none-some rest e)
attached_met base (Some pat) None rest e = absurd (none-some rest e)
attached_met base (Some pat) (Some scopes) rest e = scopes_met base pat scopes rest e

item_met : (base : ℕ) (pat : SymPat) (item : SymbolItem) (rest : List NodeAt) → match_item (moved_symbol base pat) item ≡ Some rest → rest ≡ left_attached pat.scopes item.scopes
item_met base pat item rest e = by (bytes_eq pat.symbol item.symbol) e
  where
    by : (b : Bool) → (if b then match_attached (option_map (moved_scopes base) pat.scopes) item.scopes else None) ≡ Some rest → rest ≡ left_attached pat.scopes item.scopes
    by true h = attached_met base pat.scopes item.scopes rest h
    by false h = absurd (none-some rest h)

items_met : (base : ℕ) (pats : List SymPat) (items : List SymbolItem) (rests : List (List NodeAt)) → match_items (map (moved_symbol base) pats) items ≡ Some rests → rests ≡ left_items pats items
items_met base [] items rests e = sym (same_Some [] rests e)
items_met base (pat ∷ pats) [] rests e = absurd (none-some rests e)
items_met base (pat ∷ pats) (item ∷ items) rests e =
    option_and_then_some (λ (rest : List NodeAt). option_map (λ (more : List (List NodeAt)). rest ∷ more) (match_items (map (moved_symbol base) pats) items)) (match_item (moved_symbol base pat) item) rests e
    (λ rest here more. by (λ others there. items_met base pats items others there) rest (item_met base pat item rest here) (match_items (map (moved_symbol base) pats) items) refl more)
  where
    by : ((others : List (List NodeAt)) → match_items (map (moved_symbol base) pats) items ≡ Some others → others ≡ left_items pats items)
        → (rest : List NodeAt) → rest ≡ left_attached pat.scopes item.scopes → (o : Option (List (List NodeAt))) → match_items (map (moved_symbol base) pats) items ≡ o
        → option_map (λ (more : List (List NodeAt)). rest ∷ more) o ≡ Some rests → rests ≡ left_attached pat.scopes item.scopes ∷ left_items pats items
    by behind rest is None there h = absurd (none-some rests h)
    by behind rest is (Some more) there h = sym (same_Some (rest ∷ more) rests h) ∙ (λ i. is i ∷ behind more there i)

stacks_met : (base : ℕ) (pre : Pre) (stacks : Stacks) (rests : Rests) → match_stacks (moved_pre base pre) stacks ≡ Some rests → rests ≡ left_in pre stacks
stacks_met base pre stacks rests e =
    option_and_then_some (λ (front : List NodeAt). option_map (rests_of front) (match_items (moved_pre base pre).symbols stacks.symbols)) (after_fixed (moved_pre base pre).scopes.fixed stacks.scopes) rests e
    (λ front here more. by front (scopes_met base pre.scopes stacks.scopes front here) (match_items (moved_pre base pre).symbols stacks.symbols) refl more)
  where
    by : (front : List NodeAt) → front ≡ left_scopes pre.scopes stacks.scopes → (o : Option (List (List NodeAt))) → match_items (moved_pre base pre).symbols stacks.symbols ≡ o → option_map (rests_of front) o ≡ Some rests
        → rests ≡ left_in pre stacks
    by front is None there h = absurd (none-some rests h)
    by front is (Some items) there h = sym (same_Some (rests_of front items) rests h) ∙ (λ i. rests_of (is i) (items_met base pre.symbols stacks.symbols items there i))

both : (a b : Bool) → (a && b) ≡ true → (a ≡ true) × (b ≡ true)
both true b e = (refl, e)
both false b e = absurd (false≢true e)

-- a rule that is met makes its postcondition of that, and ends
pub met_applies : (base : ℕ) (rule : Rule) (at : Config) → (spot_eq (start_spot (moved_start base rule.start)) at.spot && is_some (match_stacks (moved_pre base rule.pre) at.stacks)) ≡ true
    → end_at (moved_end base rule.end) (fill (left_in rule.pre at.stacks) (moved_post base rule.post) (drop (length rule.pre.symbols) at.stacks.symbols)) ≡ apply (moved base rule) at
met_applies base rule at t =
    let parts = both (spot_eq (start_spot (moved_start base rule.start)) at.spot) (is_some (match_stacks (moved_pre base rule.pre) at.stacks)) t in
    sym (ap (λ (b : Bool). if b then option_and_then (end_at (moved_end base rule.end)) (rewrite (moved_pre base rule.pre) (moved_post base rule.post) at.stacks) else None) parts.0
    ∙ by (match_stacks (moved_pre base rule.pre) at.stacks) refl parts.1)
  where
    made : Rests → Stacks
    made rests = fill rests (moved_post base rule.post) (drop (length (moved_pre base rule.pre).symbols) at.stacks.symbols)

    by : (o : Option Rests) → match_stacks (moved_pre base rule.pre) at.stacks ≡ o → is_some o ≡ true
        → option_and_then (end_at (moved_end base rule.end)) (option_map made o) ≡ end_at (moved_end base rule.end) (fill (left_in rule.pre at.stacks) (moved_post base rule.post) (drop (length rule.pre.symbols) at.stacks.symbols))
    by None is some = absurd (false≢true some)
    by (Some rests) is some =
        λ i. end_at (moved_end base rule.end)
        (fill (stacks_met base rule.pre at.stacks rests is i) (moved_post base rule.post) (drop (length-map rule.pre.symbols (moved_symbol base) i) at.stacks.symbols))

-- the rest of the symbol at a place; none past the symbols that are asked for, or those that there are
pub item_at : (asked : List SymPat) (symbols : List SymbolItem) (place : ℕ) (d : SymPat) (e : SymbolItem) → place < length asked → place < length symbols
    → option_map_or (λ (scopes : List NodeAt). scopes) (slice_get (left_items asked symbols) place) [] ≡ left_attached (get_or asked place d).scopes (get_or symbols place e).scopes
item_at [] symbols place d e a b = absurd (omega (arith, a))
item_at (pat ∷ asked) [] place d e a b = absurd (omega (arith, b))
item_at (pat ∷ asked) (item ∷ symbols) zero d e a b = refl
item_at (pat ∷ asked) (item ∷ symbols) (suc place) d e a b = item_at asked symbols place d e (omega (arith, a)) (omega (arith, b))

pub none_past : (asked : List SymPat) (symbols : List SymbolItem) (place : ℕ) → length asked ≤ place → option_map_or (λ (scopes : List NodeAt). scopes) (slice_get (left_items asked symbols) place) [] ≡ []
none_past [] symbols place a = refl
none_past (pat ∷ asked) [] place a = refl
none_past (pat ∷ asked) (item ∷ symbols) zero a = absurd (omega (arith, a))
none_past (pat ∷ asked) (item ∷ symbols) (suc place) a = none_past asked symbols place (omega (arith, a))

pub none_there : (asked : List SymPat) (symbols : List SymbolItem) (place : ℕ) → length symbols ≤ place → option_map_or (λ (scopes : List NodeAt). scopes) (slice_get (left_items asked symbols) place) [] ≡ []
none_there [] symbols place a = refl
none_there (pat ∷ asked) [] place a = refl
none_there (pat ∷ asked) (item ∷ symbols) zero a = absurd (omega (arith, a))
none_there (pat ∷ asked) (item ∷ symbols) (suc place) a = none_there asked symbols place (omega (arith, a))

-- the same, of a stack that is stored turned round
pub item_there : (asked : List SymPat) (symbols stored : List SymbolItem) (place : ℕ) (pat : SymPat) (item : SymbolItem) → stored ≡ reverse symbols → place < length asked → place < length stored
    → pat ≡ get_or asked place pat → item ≡ get_or stored (length stored - 1 - place) item
    → left_attached pat.scopes item.scopes ≡ option_map_or (λ (scopes : List NodeAt). scopes) (slice_get (left_items asked symbols) place) []
item_there asked symbols stored place pat item turned a b is there =
    let size : length stored ≡ length symbols = turned_length stored symbols turned in
    let front : item ≡ get_or symbols place item = there ∙ sym (get_or-reverse stored place item b) ∙ ap (λ items. get_or items place item) (turned_back stored symbols turned) in
    (λ i. left_attached (is i).scopes (front i).scopes) ∙ sym (item_at asked symbols place pat item a (omega (arith, b, size)))
