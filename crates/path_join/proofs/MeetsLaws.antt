-- Matching a precondition as a test of the stacks, and what is left as a value.
use Rattle.std.proofs.Common.{◌≡◌, List, [], ◌∷◌, length, drop, Bool, true, false, ◌&&◌, Option, Some, None, if◌then◌else◌, refl}
use Rattle.std.specs.Option.{option_map, option_and_then}
use Rattle.std.specs.Str.{bytes_eq}
use Rattle.stacks_vars.specs.declared.scopes.NodeAt.{NodeAt}
use Rattle.stacks_vars.specs.declared.items.SymbolItem.{SymbolItem}
use Rattle.stacks_vars.specs.declared.stacks.Stacks.{Stacks}
use Rattle.stacks_vars.specs.declared.patterns.ScopePat.{ScopePat}
use Rattle.stacks_vars.specs.declared.patterns.SymPat.{SymPat}
use Rattle.stacks_vars.specs.declared.patterns.Pre.{Pre}
use Rattle.partial_path.specs.declared.config.Config.{Config}
use Rattle.partial_path.specs.Same.{spot_eq}
use Rattle.partial_path.specs.Rules.{Rule, start_spot}
use Rattle.partial_path.specs.Apply.{Rests, rests_of, after_fixed, match_attached, match_item, match_items, match_stacks, fill, end_at, apply}
use Rattle.path_join.proofs.AndLaws.{if_both}
use Rattle.path_join.proofs.BeginsLaws.{begins, after_fixed-begins}

abbrev pub meets_attached : Option ScopePat → Option (List NodeAt) → Bool
meets_attached None None = true
meets_attached None (Some scopes) = false
meets_attached (Some pat) None = false
meets_attached (Some pat) (Some scopes) = begins pat.fixed scopes

-- the attached scopes past the fixed ones
abbrev pub rest_attached : Option ScopePat → Option (List NodeAt) → List NodeAt
rest_attached None scopes = []
rest_attached (Some pat) None = []
rest_attached (Some pat) (Some scopes) = drop (length pat.fixed) scopes

abbrev pub meets_item : SymPat → SymbolItem → Bool
meets_item pat item = bytes_eq pat.symbol item.symbol && meets_attached pat.scopes item.scopes

abbrev pub rest_item : SymPat → SymbolItem → List NodeAt
rest_item pat item = rest_attached pat.scopes item.scopes

abbrev pub meets_items : List SymPat → List SymbolItem → Bool
meets_items [] items = true
meets_items (pat ∷ pats) [] = false
meets_items (pat ∷ pats) (item ∷ items) = meets_item pat item && meets_items pats items

abbrev pub rest_items : List SymPat → List SymbolItem → List (List NodeAt)
rest_items [] items = []
rest_items (pat ∷ pats) [] = []
rest_items (pat ∷ pats) (item ∷ items) = rest_item pat item ∷ rest_items pats items

abbrev pub meets : Pre → Stacks → Bool
meets pre stacks = begins pre.scopes.fixed stacks.scopes && meets_items pre.symbols stacks.symbols

abbrev pub rests_in : Pre → Stacks → Rests
rests_in pre stacks = rests_of (drop (length pre.scopes.fixed) stacks.scopes) (rest_items pre.symbols stacks.symbols)

match_attached-meets : (pat : Option ScopePat) (scopes : Option (List NodeAt))
    → match_attached pat scopes ≡ (if meets_attached pat scopes then Some (rest_attached pat scopes) else None)
match_attached-meets None None = refl
match_attached-meets None (Some scopes) = refl
match_attached-meets (Some pat) None = refl
match_attached-meets (Some pat) (Some scopes) = after_fixed-begins pat.fixed scopes

match_item-meets : (pat : SymPat) (item : SymbolItem)
    → match_item pat item ≡ (if meets_item pat item then Some (rest_item pat item) else None)
match_item-meets pat item =
    if_both (bytes_eq pat.symbol item.symbol) (meets_attached pat.scopes item.scopes) (match_attached pat.scopes item.scopes) (rest_item pat item)
    (match_attached-meets pat.scopes item.scopes)

-- two values, each under its test, are put together under both
put_together : {X Y Z : Type 0} (a b : Bool) (x : X) (y : Y) (f : X → Y → Z) (o : Option X) (u : Option Y)
    → o ≡ (if a then Some x else None) → u ≡ (if b then Some y else None)
    → option_and_then (λ (v : X). option_map (f v) u) o ≡ (if a && b then Some (f x y) else None)
put_together true true x y f o u h k = rw (h, k)
put_together true false x y f o u h k = rw (h, k)
put_together false b x y f o u h k = rw h

pub match_items-meets : (pats : List SymPat) (items : List SymbolItem)
    → match_items pats items ≡ (if meets_items pats items then Some (rest_items pats items) else None)
match_items-meets [] items = refl
match_items-meets (pat ∷ pats) [] = refl
match_items-meets (pat ∷ pats) (item ∷ items) =
    put_together (meets_item pat item) (meets_items pats items) (rest_item pat item) (rest_items pats items)
    (λ (rest : List NodeAt) (rests : List (List NodeAt)). rest ∷ rests) (match_item pat item) (match_items pats items)
    (match_item-meets pat item) (match_items-meets pats items)

pub match_stacks-meets : (pre : Pre) (stacks : Stacks)
    → match_stacks pre stacks ≡ (if meets pre stacks then Some (rests_in pre stacks) else None)
match_stacks-meets pre stacks =
    put_together (begins pre.scopes.fixed stacks.scopes) (meets_items pre.symbols stacks.symbols) (drop (length pre.scopes.fixed) stacks.scopes)
    (rest_items pre.symbols stacks.symbols) rests_of (after_fixed pre.scopes.fixed stacks.scopes) (match_items pre.symbols stacks.symbols)
    (after_fixed-begins pre.scopes.fixed stacks.scopes) (match_items-meets pre.symbols stacks.symbols)

-- the stacks that the rule leaves where its precondition is met
abbrev pub filled : Rule → Stacks → Stacks
filled rule stacks = fill (rests_in rule.pre stacks) rule.post (drop (length rule.pre.symbols) stacks.symbols)

-- whether the rule's start and precondition are met
abbrev pub passes : Rule → Config → Bool
passes rule c = spot_eq (start_spot rule.start) c.spot && meets rule.pre c.stacks

apply-at : {X Y Z : Type 0} (a b : Bool) (x : X) (f : X → Y) (g : Y → Option Z) (o : Option X)
    → o ≡ (if b then Some x else None)
    → (if a then option_and_then g (option_map f o) else None) ≡ (if a && b then g (f x) else None)
apply-at true true x f g o h = rw h
apply-at true false x f g o h = rw h
apply-at false b x f g o h = refl

pub apply-passes : (rule : Rule) (c : Config) → apply rule c ≡ (if passes rule c then end_at rule.end (filled rule c.stacks) else None)
apply-passes rule c =
    apply-at (spot_eq (start_spot rule.start) c.spot) (meets rule.pre c.stacks) (rests_in rule.pre c.stacks)
    (λ (rests : Rests). fill rests rule.post (drop (length rule.pre.symbols) c.stacks.symbols)) (end_at rule.end)
    (match_stacks rule.pre c.stacks) (match_stacks-meets rule.pre c.stacks)
