-- Entering a node is a rule, and applying it is the entry.
use Rattle.std.proofs.Common.{◌≡◌, ◌≤◌, refl, ap, ◌∙◌, sym, ℕ, suc, ◌+◌, ◌-◌, List, [], ◌∷◌, length, max, Bool, true, false, Option, Some, None, cond, arith}
use Rattle.std.specs.Option.{option_and_then, option_map}
use Rattle.std.specs.Str.{bytes_eq}
use Rattle.stacks_vars.specs.declared.scopes.NodeAt.{NodeAt}
use Rattle.stacks_vars.specs.declared.items.SymbolItem.{SymbolItem}
use Rattle.stacks_vars.specs.declared.stacks.Stacks.{Stacks}
use Rattle.stacks_vars.specs.declared.action.Action.{Action}
use Rattle.stacks_vars.specs.declared.action.Action.TheVariants.{Pass, Push, PushScoped, Pop, PopScoped, Drops}
use Rattle.stacks_vars.specs.declared.patterns.Post.{Post}
use Rattle.stacks_vars.specs.Enter.{enter, stacks_of, item_of, popped, popped_scoped}
use Rattle.partial_path.specs.declared.config.EdgeAt.{EdgeAt}
use Rattle.partial_path.specs.declared.rule.Start.{Start}
use Rattle.partial_path.specs.declared.rule.End.{End}
use Rattle.partial_path.specs.Rules.{IsRule}
use Rattle.partial_path.specs.Apply.{Rests, rests_of, fill, rewrite}
use Rattle.list_facts.proofs.Orders.{bytes_eq-sym}
use Rattle.path_join.specs.Units.{asked_by, made_by, peak_by, entry_rule}

pub entry-ruled : (start : Start) (end : End) (action : Action) (edges : List EdgeAt) → IsRule (entry_rule start end action edges)
entry-ruled start end Pass edges = record { tails = refl; peak = omega arith }
entry-ruled start end (Push symbol) edges = record { tails = refl; peak = omega arith }
entry-ruled start end (PushScoped symbol scope) edges = record { tails = refl; peak = omega arith }
entry-ruled start end (Pop symbol) edges = record { tails = refl; peak = omega arith }
entry-ruled start end (PopScoped symbol) edges = record { tails = refl; peak = omega arith }
entry-ruled start end Drops edges = record { tails = refl; peak = omega arith }

pub ruleset ruled = (entry-ruled)

-- on the way there is at most one symbol more than those left
pub peak-low : (action : Action) → peak_by action ≤ 1
peak-low Pass = omega arith
peak-low (Push symbol) = omega arith
peak-low (PushScoped symbol scope) = omega arith
peak-low (Pop symbol) = omega arith
peak-low (PopScoped symbol) = omega arith
peak-low Drops = omega arith

-- the symbols of stacks that are there
same_symbols : (s t : Stacks) → Some s ≡ Some t → s.symbols ≡ t.symbols
same_symbols s t e = let f : s ≡ t = cc in ap (λ (x : Stacks). x.symbols) f

cond-symbols : (b : Bool) (s t : Stacks) → cond b (Some s) None ≡ Some t → t.symbols ≡ s.symbols
cond-symbols true s t e = sym (same_symbols s t e)
cond-symbols false s t e = cc

-- what is made where one symbol is asked for, from what follows its fixed scopes
abbrev after_front : Post → List SymbolItem → List NodeAt → Option (List NodeAt) → Option Stacks
after_front post rest scopes o =
    option_map (λ (rests : Rests). fill rests post rest) (option_map (rests_of scopes) (option_and_then (λ (r : List NodeAt). Some (r ∷ [])) o))

after-tested : (post : Post) (rest : List SymbolItem) (scopes : List NodeAt) (t u : Bool) (o : Option (List NodeAt)) → t ≡ u
    → after_front post rest scopes (cond t o None) ≡ cond u (after_front post rest scopes o) None
after-tested post rest scopes true true o e = refl
after-tested post rest scopes true false o e = cc
after-tested post rest scopes false true o e = cc
after-tested post rest scopes false false o e = refl

never-some : (b : Bool) → cond {A = Option Stacks} b None None ≡ None
never-some true = refl
never-some false = refl

-- rewriting by the patterns of an action is entering
pops : (symbol front : List ℕ) (attached : Option (List NodeAt)) (rest : List SymbolItem) (scopes : List NodeAt)
    → rewrite (asked_by (Pop symbol)) (made_by (Pop symbol)) (stacks_of (item_of front attached ∷ rest) scopes) ≡ popped front attached symbol rest scopes
pops symbol front None rest scopes =
    after-tested (made_by (Pop symbol)) rest scopes (bytes_eq symbol front) (bytes_eq front symbol) (Some []) (bytes_eq-sym symbol front)
pops symbol front (Some attached) rest scopes =
    after-tested (made_by (Pop symbol)) rest scopes (bytes_eq symbol front) (bytes_eq front symbol) None (bytes_eq-sym symbol front) ∙ never-some (bytes_eq front symbol)

pops_scoped : (symbol front : List ℕ) (attached : Option (List NodeAt)) (rest : List SymbolItem) (scopes : List NodeAt)
    → rewrite (asked_by (PopScoped symbol)) (made_by (PopScoped symbol)) (stacks_of (item_of front attached ∷ rest) scopes) ≡ popped_scoped front attached symbol rest
pops_scoped symbol front None rest scopes =
    after-tested (made_by (PopScoped symbol)) rest scopes (bytes_eq symbol front) (bytes_eq front symbol) None (bytes_eq-sym symbol front) ∙ never-some (bytes_eq front symbol)
pops_scoped symbol front (Some attached) rest scopes =
    after-tested (made_by (PopScoped symbol)) rest scopes (bytes_eq symbol front) (bytes_eq front symbol) (Some attached) (bytes_eq-sym symbol front)

pub rewrites : (action : Action) (symbols : List SymbolItem) (scopes : List NodeAt)
    → rewrite (asked_by action) (made_by action) (stacks_of symbols scopes) ≡ enter action (stacks_of symbols scopes)
rewrites Pass symbols scopes = refl
rewrites (Push symbol) symbols scopes = refl
rewrites (PushScoped symbol scope) symbols scopes = refl
rewrites (Pop symbol) [] scopes = refl
rewrites (Pop symbol) (front ∷ rest) scopes = pops symbol front.symbol front.scopes rest scopes
rewrites (PopScoped symbol) [] scopes = refl
rewrites (PopScoped symbol) (front ∷ rest) scopes = pops_scoped symbol front.symbol front.scopes rest scopes
rewrites Drops symbols scopes = refl

-- the height of the entry is the higher of the stacks before and after it
pub max-same : (n : ℕ) → (0 + n) - 0 ≡ max n n
max-same n = omega arith

max-more : (n : ℕ) → (1 + n) - 0 ≡ max n (suc n)
max-more n = omega arith

max-less : (n : ℕ) → (1 + suc n) - 1 ≡ max (suc n) n
max-less n = omega arith

popped-rest : (front : List ℕ) (attached : Option (List NodeAt)) (symbol : List ℕ) (rest : List SymbolItem) (scopes : List NodeAt) (t : Stacks)
    → popped front attached symbol rest scopes ≡ Some t → t.symbols ≡ rest
popped-rest front None symbol rest scopes t e = cond-symbols (bytes_eq front symbol) (stacks_of rest scopes) t e
popped-rest front (Some attached) symbol rest scopes t e = cc

popped_scoped-rest : (front : List ℕ) (attached : Option (List NodeAt)) (symbol : List ℕ) (rest : List SymbolItem) (t : Stacks)
    → popped_scoped front attached symbol rest ≡ Some t → t.symbols ≡ rest
popped_scoped-rest front None symbol rest t e = cc
popped_scoped-rest front (Some attached) symbol rest t e = cond-symbols (bytes_eq front symbol) (stacks_of rest attached) t e

pub entry-high : (action : Action) (symbols : List SymbolItem) (scopes : List NodeAt) (t : Stacks) → enter action (stacks_of symbols scopes) ≡ Some t
    → (peak_by action + length symbols) - length (asked_by action).symbols ≡ max (length symbols) (length t.symbols)
entry-high Pass symbols scopes t e = let f : symbols ≡ t.symbols = same_symbols _ t e in max-same (length symbols) ∙ ap (λ xs. max (length symbols) (length xs)) f
entry-high (Push symbol) symbols scopes t e =
    let f = same_symbols (stacks_of (item_of symbol None ∷ symbols) scopes) t e in max-more (length symbols) ∙ ap (λ xs. max (length symbols) (length xs)) f
entry-high (PushScoped symbol scope) symbols scopes t e =
    let f = same_symbols (stacks_of (item_of symbol (Some (scope ∷ scopes)) ∷ symbols) scopes) t e in max-more (length symbols) ∙ ap (λ xs. max (length symbols) (length xs)) f
entry-high (Pop symbol) [] scopes t e = cc
entry-high (Pop symbol) (front ∷ rest) scopes t e =
    max-less (length rest) ∙ ap (λ xs. max (suc (length rest)) (length xs)) (sym (popped-rest front.symbol front.scopes symbol rest scopes t e))
entry-high (PopScoped symbol) [] scopes t e = cc
entry-high (PopScoped symbol) (front ∷ rest) scopes t e =
    max-less (length rest) ∙ ap (λ xs. max (suc (length rest)) (length xs)) (sym (popped_scoped-rest front.symbol front.scopes symbol rest t e))
entry-high Drops symbols scopes t e =
    let f = same_symbols (stacks_of symbols []) t e in max-same (length symbols) ∙ ap (λ xs. max (length symbols) (length xs)) f
