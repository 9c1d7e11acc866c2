-- A configuration that passes a rule: each symbol as it is asked for, one more scope in each variable.
use Rattle.std.proofs.Common.{◌≡◌, ℕ, zero, suc, List, [], ◌∷◌, ◌++◌, length, map, Bool, true, false, Option, Some, None, IsSome, is_some, if◌then◌else◌, refl, drop_at, option_map}
use Rattle.std.specs.Str.{bytes_eq}
use Rattle.std.proofs.lemmas.Slice.Eq.{bytes_eq-Decides}
use Rattle.stacks_vars.specs.declared.scopes.NodeAt.{NodeAt}
use Rattle.stacks_vars.specs.declared.items.SymbolItem.{SymbolItem}
use Rattle.stacks_vars.specs.declared.stacks.Stacks.{Stacks}
use Rattle.stacks_vars.specs.declared.patterns.ScopePat.{ScopePat}
use Rattle.stacks_vars.specs.declared.patterns.SymPat.{SymPat}
use Rattle.stacks_vars.specs.declared.patterns.Pre.{Pre}
use Rattle.stacks_vars.specs.declared.patterns.Tail.{Tail}
use Rattle.stacks_vars.specs.declared.patterns.Tail.TheVariants.{Nil, Front, Item}
use Rattle.stacks_vars.specs.Enter.{stacks_of, item_of}
use Rattle.partial_path.specs.declared.config.Config.{Config}
use Rattle.partial_path.specs.declared.rule.End.{End}
use Rattle.partial_path.specs.declared.rule.End.TheVariants.{At, ByStack}
use Rattle.partial_path.specs.Spots.{node_at}
use Rattle.partial_path.specs.Same.{spot_eq}
use Rattle.partial_path.specs.Rules.{Rule, has_scopes, start_spot}
use Rattle.partial_path.specs.Apply.{tail_scopes, end_at, apply}
use Rattle.partial_path.proofs.Equals.{spot_eq-refl}
use Rattle.path_join.specs.Joining.{can_end}
use Rattle.path_join.proofs.AndLaws.{and_both, and_second}
use Rattle.path_join.proofs.BeginsLaws.{begins, begins_itself}
use Rattle.path_join.proofs.MeetsLaws.{meets_attached, rest_attached, meets_item, meets_items, rest_items, meets, rests_in, filled, passes, apply-passes}
use Rattle.path_join.proofs.GoodLaws.{good_tail, good_outs, good_post}
use Rattle.path_join.proofs.FitsLaws.{list_at}

-- the one scope in each variable
abbrev one_scope : List NodeAt
one_scope = node_at 0 0 ∷ []

abbrev with_one : ScopePat → List NodeAt
with_one pat = pat.fixed ++ one_scope

abbrev example_item : SymPat → SymbolItem
example_item pat = item_of pat.symbol (option_map with_one pat.scopes)

abbrev example_stacks : Pre → Stacks
example_stacks pre = stacks_of (map example_item pre.symbols) (with_one pre.scopes)

abbrev example : Rule → Config
example rule = record { spot = start_spot rule.start; stacks = example_stacks rule.pre }

example-attached : (pat : Option ScopePat) → meets_attached pat (option_map with_one pat) ≡ true
example-attached None = refl
example-attached (Some pat) = begins_itself pat.fixed one_scope

example-items : (pats : List SymPat) → meets_items pats (map example_item pats) ≡ true
example-items [] = refl
example-items (pat ∷ pats) =
    and_both (meets_item pat (example_item pat)) (meets_items pats (map example_item pats))
    (and_both (bytes_eq pat.symbol pat.symbol) (meets_attached pat.scopes (option_map with_one pat.scopes))
    ((bytes_eq-Decides pat.symbol pat.symbol).1 refl) (example-attached pat.scopes))
    (example-items pats)

example-passes : (rule : Rule) → passes rule (example rule) ≡ true
example-passes rule =
    and_both (spot_eq (start_spot rule.start) (start_spot rule.start)) (meets rule.pre (example_stacks rule.pre)) (spot_eq-refl (start_spot rule.start))
    (and_both (begins rule.pre.scopes.fixed (with_one rule.pre.scopes)) (meets_items rule.pre.symbols (map example_item rule.pre.symbols))
    (begins_itself rule.pre.scopes.fixed one_scope) (example-items rule.pre.symbols))

-- each variable stands for the one scope
example-rest : (pat : Option ScopePat) → is_some pat ≡ true → rest_attached pat (option_map with_one pat) ≡ one_scope
example-rest None h = cc
example-rest (Some pat) h = drop_at pat.fixed one_scope (length pat.fixed) refl

example-at : (pats : List SymPat) (i : ℕ) → has_scopes pats i ≡ true → list_at (rest_items pats (map example_item pats)) i ≡ one_scope
example-at [] i h = cc
example-at (pat ∷ pats) zero h = example-rest pat.scopes h
example-at (pat ∷ pats) (suc i) h = example-at pats i h

-- a path that can end so ends
ends-by : (symbols : List SymbolItem) (scopes : List NodeAt) (first : NodeAt) (rest : List NodeAt) → scopes ≡ first ∷ rest
    → IsSome (end_at ByStack (stacks_of symbols scopes))
ends-by symbols scopes first rest h = rw h refl

example-ends : (end : End) (symbols : List SymbolItem) (pre : Pre) (scopes : List NodeAt) (tail : Tail) → good_tail pre.symbols tail ≡ true
    → can_end end (record { scopes = scopes; tail = tail }) ≡ true
    → IsSome (end_at end (stacks_of symbols (scopes ++ tail_scopes (rests_in pre (example_stacks pre)) tail)))
example-ends (At place) symbols pre scopes tail good h = refl
example-ends ByStack symbols pre (s ∷ scopes) tail good h = refl
example-ends ByStack symbols pre [] Nil good h = cc
example-ends ByStack symbols pre [] Front good h =
    ends-by symbols _ (node_at 0 0) [] (drop_at pre.scopes.fixed one_scope (length pre.scopes.fixed) refl)
example-ends ByStack symbols pre [] (Item i) good h = ends-by symbols _ (node_at 0 0) [] (example-at pre.symbols i good)

-- a rule that can end has a result somewhere
some_at : (a : Bool) (o x : Option Config) → x ≡ (if a then o else None) → a ≡ true → IsSome o → IsSome x
some_at true o x h k some = rw h some
some_at false o x h k some = cc

pub some-passes : (rule : Rule) → good_post rule.pre.symbols rule.post ≡ true → can_end rule.end rule.post.scopes ≡ true
    → (c : Config) × IsSome (apply rule c)
some-passes rule good ends = (
  example rule,
  some_at (passes rule (example rule)) (end_at rule.end (filled rule (example_stacks rule.pre))) (apply rule (example rule))
      (apply-passes rule (example rule)) (example-passes rule)
      (example-ends rule.end (filled rule (example_stacks rule.pre)).symbols rule.pre rule.post.scopes.scopes rule.post.scopes.tail
      (and_second (good_outs rule.pre.symbols rule.post.symbols) (good_tail rule.pre.symbols rule.post.scopes.tail) good) ends),
)
