-- A precondition that asks for what is known besides: it is met where the variables fit that.
use Rattle.std.proofs.Common.{◌≡◌, ℕ, zero, suc, List, [], ◌∷◌, ◌++◌, length, drop, Bool, true, ◌&&◌, Option, Some, None, is_some, refl, sym, ap, ◌∙◌, option_map}
use Rattle.std.specs.Str.{bytes_eq}
use Rattle.stacks_vars.specs.declared.scopes.NodeAt.{NodeAt}
use Rattle.stacks_vars.specs.declared.items.SymbolItem.{SymbolItem}
use Rattle.stacks_vars.specs.declared.stacks.Stacks.{Stacks}
use Rattle.stacks_vars.specs.declared.patterns.ScopePat.{ScopePat}
use Rattle.stacks_vars.specs.declared.patterns.SymPat.{SymPat}
use Rattle.stacks_vars.specs.declared.patterns.Pre.{Pre}
use Rattle.stacks_vars.specs.declared.patterns.Tail.{Tail}
use Rattle.stacks_vars.specs.declared.patterns.Tail.TheVariants.{Nil, Front, Item}
use Rattle.partial_path.specs.Rules.{has_scopes}
use Rattle.partial_path.specs.Apply.{Rests}
use Rattle.path_join.specs.Joining.{longer_scopes, longer_symbol, longer_symbols}
use Rattle.path_join.proofs.AndLaws.{and_assoc, and_cross}
use Rattle.path_join.proofs.BeginsLaws.{begins, begins-append}
use Rattle.path_join.proofs.FitsLaws.{same_cons, same_rests, fits, beyond, begins_all, past_all}
use Rattle.path_join.proofs.MeetsLaws.{meets_attached, rest_attached, meets_item, rest_item, meets_items, rest_items, meets, rests_in}
use Rattle.path_join.proofs.GoodLaws.{good_tail}
use Rattle.path_join.proofs.SuitsLaws.{Suit, Suits}

drop_none : (n : ℕ) → drop {A = NodeAt} n [] ≡ []
drop_none zero = refl
drop_none (suc n) = refl

drop_both : (fixed more scopes : List NodeAt) → drop (length (fixed ++ more)) scopes ≡ drop (length more) (drop (length fixed) scopes)
drop_both [] more scopes = refl
drop_both (f ∷ fixed) more [] = sym (drop_none (length more))
drop_both (f ∷ fixed) more (s ∷ scopes) = drop_both fixed more scopes

meets-longer_scopes : (pat : Option ScopePat) (more : List NodeAt) (scopes : Option (List NodeAt)) → Suit pat more
    → meets_attached (option_map (longer_scopes more) pat) scopes ≡ (meets_attached pat scopes && begins more (rest_attached pat scopes))
meets-longer_scopes None more None h = ap (λ (m : List NodeAt). begins m []) (sym h)
meets-longer_scopes None more (Some scopes) h = refl
meets-longer_scopes (Some pat) more None h = refl
meets-longer_scopes (Some pat) more (Some scopes) h = begins-append pat.fixed more scopes

rest-longer_scopes : (pat : Option ScopePat) (more : List NodeAt) (scopes : Option (List NodeAt))
    → rest_attached (option_map (longer_scopes more) pat) scopes ≡ drop (length more) (rest_attached pat scopes)
rest-longer_scopes None more scopes = sym (drop_none (length more))
rest-longer_scopes (Some pat) more None = sym (drop_none (length more))
rest-longer_scopes (Some pat) more (Some scopes) = drop_both pat.fixed more scopes

meets-longer_symbol : (pat : SymPat) (more : List NodeAt) (item : SymbolItem) → Suit pat.scopes more
    → meets_item (longer_symbol pat more) item ≡ (meets_item pat item && begins more (rest_item pat item))
meets-longer_symbol pat more item h =
    ap (λ (b : Bool). bytes_eq pat.symbol item.symbol && b) (meets-longer_scopes pat.scopes more item.scopes h)
    ∙ sym (and_assoc (bytes_eq pat.symbol item.symbol) (meets_attached pat.scopes item.scopes) (begins more (rest_attached pat.scopes item.scopes)))

pub meets-longer : (pats : List SymPat) (known : List (List NodeAt)) (items : List SymbolItem) → Suits pats known
    → meets_items (longer_symbols pats known) items ≡ (meets_items pats items && begins_all known (rest_items pats items))
meets-longer [] [] items h = refl
meets-longer [] (k ∷ known) items h = absurd h
meets-longer (pat ∷ pats) [] items h = absurd h
meets-longer (pat ∷ pats) (k ∷ known) [] h = refl
meets-longer (pat ∷ pats) (k ∷ known) (item ∷ items) h =
    ap (λ (b : Bool). b && meets_items (longer_symbols pats known) items) (meets-longer_symbol pat k item h.0)
    ∙ ap (λ (b : Bool). (meets_item pat item && begins k (rest_item pat item)) && b) (meets-longer pats known items h.1)
    ∙ and_cross (meets_item pat item) (begins k (rest_item pat item)) (meets_items pats items) (begins_all known (rest_items pats items))

pub rest-longer : (pats : List SymPat) (known : List (List NodeAt)) (items : List SymbolItem) → Suits pats known
    → rest_items (longer_symbols pats known) items ≡ past_all known (rest_items pats items)
rest-longer [] [] items h = refl
rest-longer [] (k ∷ known) items h = absurd h
rest-longer (pat ∷ pats) [] items h = absurd h
rest-longer (pat ∷ pats) (k ∷ known) [] h = refl
rest-longer (pat ∷ pats) (k ∷ known) (item ∷ items) h =
    same_cons _ _ _ _ (rest-longer_scopes pat.scopes k item.scopes) (rest-longer pats known items h.1)

pub length-longer : (pats : List SymPat) (known : List (List NodeAt)) → Suits pats known → length (longer_symbols pats known) ≡ length pats
length-longer [] [] h = refl
length-longer [] (k ∷ known) h = absurd h
length-longer (pat ∷ pats) [] h = absurd h
length-longer (pat ∷ pats) (k ∷ known) h = ap suc (length-longer pats known h.1)

-- a whole precondition
abbrev pub longer : Pre → Rests → Pre
longer pre known = record { symbols = longer_symbols pre.symbols known.items; scopes = longer_scopes known.front pre.scopes }

pub meets-longer_pre : (pre : Pre) (known : Rests) (stacks : Stacks) → Suits pre.symbols known.items
    → meets (longer pre known) stacks ≡ (meets pre stacks && fits known (rests_in pre stacks))
meets-longer_pre pre known stacks h =
    ap (λ (b : Bool). b && meets_items (longer_symbols pre.symbols known.items) stacks.symbols) (begins-append pre.scopes.fixed known.front stacks.scopes)
    ∙ ap (λ (b : Bool). (begins pre.scopes.fixed stacks.scopes && begins known.front (drop (length pre.scopes.fixed) stacks.scopes)) && b)
    (meets-longer pre.symbols known.items stacks.symbols h)
    ∙ and_cross (begins pre.scopes.fixed stacks.scopes) (begins known.front (drop (length pre.scopes.fixed) stacks.scopes))
    (meets_items pre.symbols stacks.symbols) (begins_all known.items (rest_items pre.symbols stacks.symbols))

pub rests-longer_pre : (pre : Pre) (known : Rests) (stacks : Stacks) → Suits pre.symbols known.items
    → rests_in (longer pre known) stacks ≡ beyond known (rests_in pre stacks)
rests-longer_pre pre known stacks h =
    same_rests _ _ _ _ (drop_both pre.scopes.fixed known.front stacks.scopes) (rest-longer pre.symbols known.items stacks.symbols h)

-- which variables are good stays
is_some-map : (f : ScopePat → ScopePat) (o : Option ScopePat) → is_some (option_map f o) ≡ is_some o
is_some-map f None = refl
is_some-map f (Some x) = refl

has_scopes-longer : (pats : List SymPat) (known : List (List NodeAt)) (i : ℕ) → Suits pats known → has_scopes (longer_symbols pats known) i ≡ has_scopes pats i
has_scopes-longer [] [] i h = refl
has_scopes-longer [] (k ∷ known) i h = absurd h
has_scopes-longer (pat ∷ pats) [] i h = absurd h
has_scopes-longer (pat ∷ pats) (k ∷ known) zero h = is_some-map (longer_scopes k) pat.scopes
has_scopes-longer (pat ∷ pats) (k ∷ known) (suc i) h = has_scopes-longer pats known i h.1

pub good_tail-longer : (pats : List SymPat) (known : List (List NodeAt)) (tail : Tail) → Suits pats known → good_tail pats tail ≡ true
    → good_tail (longer_symbols pats known) tail ≡ true
good_tail-longer pats known Nil h good = refl
good_tail-longer pats known Front h good = refl
good_tail-longer pats known (Item i) h good = has_scopes-longer pats known i h ∙ good
