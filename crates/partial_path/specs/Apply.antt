-- Applying a partial path to a configuration: its precondition is matched, its postcondition filled in.
use Rattle.std.specs.Prelude.{ℕ, ◌+◌, ◌-◌, List, [], ◌∷◌, ◌++◌, length, map, drop, Option, Some, None, if◌then◌else◌, slice_get}
use Rattle.std.specs.Option.{option_map, option_and_then, option_map_or}
use Rattle.std.specs.Str.{bytes_eq}
use Rattle.stacks_vars.specs.declared.scopes.NodeAt.{NodeAt}
use Rattle.stacks_vars.specs.declared.items.SymbolItem.{SymbolItem}
use Rattle.stacks_vars.specs.declared.stacks.Stacks.{Stacks}
use Rattle.stacks_vars.specs.declared.patterns.ScopePat.{ScopePat}
use Rattle.stacks_vars.specs.declared.patterns.SymPat.{SymPat}
use Rattle.stacks_vars.specs.declared.patterns.Pre.{Pre}
use Rattle.stacks_vars.specs.declared.patterns.Tail.{Tail}
use Rattle.stacks_vars.specs.declared.patterns.Tail.TheVariants.{Nil, Front, Item}
use Rattle.stacks_vars.specs.declared.patterns.ScopeOut.{ScopeOut}
use Rattle.stacks_vars.specs.declared.patterns.SymOut.{SymOut}
use Rattle.stacks_vars.specs.declared.patterns.Post.{Post}
use Rattle.stacks_vars.specs.Enter.{stacks_of, item_of}
use Rattle.stacks_vars.specs.Same.{node_eq}
use Rattle.partial_path.specs.declared.config.Config.{Config}
use Rattle.partial_path.specs.declared.rule.End.{End}
use Rattle.partial_path.specs.declared.rule.End.TheVariants.{At, ByStack}
use Rattle.partial_path.specs.Step.{enter_jump}
use Rattle.partial_path.specs.Same.{spot_eq}
use Rattle.partial_path.specs.Rules.{Rule, start_spot}

-- what a rule's variables stand for: what follows the fixed scopes of the scope stack, and for each symbol
-- of the precondition what follows the fixed ones of its attached scopes (nothing for a plain symbol)
pub record Rests : Type 0 where
  pub front : List NodeAt
  pub items : List (List NodeAt)

-- what the variables stand for: of the scope stack these scopes, and of each symbol those at its place
abbrev pub rests_of : List NodeAt → List (List NodeAt) → Rests
rests_of front items = record { front = front; items = items }

-- what follows the fixed scopes; None where the stack doesn't begin with them
abbrev pub after_fixed : List NodeAt → List NodeAt → Option (List NodeAt)
after_fixed [] scopes = Some scopes
after_fixed (f ∷ fixed) [] = None
after_fixed (f ∷ fixed) (s ∷ scopes) = if node_eq f s then after_fixed fixed scopes else None

-- a plain symbol is asked for and met, or attached scopes that begin with the fixed ones
abbrev pub match_attached : Option ScopePat → Option (List NodeAt) → Option (List NodeAt)
match_attached None None = Some []
match_attached None (Some scopes) = None
match_attached (Some pat) None = None
match_attached (Some pat) (Some scopes) = after_fixed pat.fixed scopes

-- the symbol has the text that is asked for, and such scopes
abbrev pub match_item : SymPat → SymbolItem → Option (List NodeAt)
match_item pat item = if bytes_eq pat.symbol item.symbol then match_attached pat.scopes item.scopes else None

-- the first symbols are asked for one by one; None where one isn't met or there are too few
abbrev pub match_items : List SymPat → List SymbolItem → Option (List (List NodeAt))
match_items [] items = Some []
match_items (pat ∷ pats) [] = None
match_items (pat ∷ pats) (item ∷ items) =
    option_and_then (λ (rest : List NodeAt). option_map (λ (rests : List (List NodeAt)). rest ∷ rests) (match_items pats items)) (match_item pat item)

-- what the variables stand for where these stacks meet the precondition
abbrev pub match_stacks : Pre → Stacks → Option Rests
match_stacks pre stacks =
    option_and_then (λ (front : List NodeAt). option_map (rests_of front) (match_items pre.symbols stacks.symbols))
    (after_fixed pre.scopes.fixed stacks.scopes)

-- the scopes that a variable stands for
abbrev pub tail_scopes : Rests → Tail → List NodeAt
tail_scopes rests Nil = []
tail_scopes rests Front = rests.front
tail_scopes rests (Item i) = option_map_or (λ (scopes : List NodeAt). scopes) (slice_get rests.items i) []

-- the scopes that an output makes: the fixed ones, then those of its variable
abbrev pub fill_scopes : Rests → ScopeOut → List NodeAt
fill_scopes rests out = out.scopes ++ tail_scopes rests out.tail

-- the symbol that an output makes, plain or with the scopes that are attached to it
abbrev pub fill_item : Rests → SymOut → SymbolItem
fill_item rests out = item_of out.symbol (option_map (fill_scopes rests) out.scopes)

-- the stacks that a postcondition makes, before the symbols that are left as they are
abbrev pub fill : Rests → Post → List SymbolItem → Stacks
fill rests post left = stacks_of (map (fill_item rests) post.symbols ++ left) (fill_scopes rests post.scopes)

-- what the rule makes of these stacks; None where they don't meet the precondition
abbrev pub rewrite : Pre → Post → Stacks → Option Stacks
rewrite pre post stacks =
    option_map (λ (rests : Rests). fill rests post (drop (length pre.symbols) stacks.symbols)) (match_stacks pre stacks)

-- where the path stands in the end: at its spot, or at the scope in front, which is taken off
abbrev pub end_at : End → Stacks → Option Config
end_at (At spot) stacks = Some (record { spot = spot; stacks = stacks })
end_at ByStack stacks = enter_jump stacks.symbols stacks.scopes

-- the path applied to a configuration; None where that isn't at its start, doesn't meet its precondition,
-- or has no scope by which the path could end
abbrev pub apply : Rule → Config → Option Config
apply rule c =
    if spot_eq (start_spot rule.start) c.spot then option_and_then (end_at rule.end) (rewrite rule.pre rule.post c.stacks) else None

-- the greatest number of symbols on the way from a configuration that meets the precondition
abbrev pub height : Rule → Config → ℕ
height rule c = (rule.peak + length c.stacks.symbols) - length rule.pre.symbols
