-- Where the first path ends and the second starts: what is then asked of the scopes that the first leaves.
use Rattle.std.proofs.Common.{◌≡◌, List, [], ◌∷◌, length, drop, Bool, true, false, ◌&&◌, Option, Some, None, if◌then◌else◌, refl, sym, ap, ◌∙◌, option_and_then}
use Rattle.std.specs.Option.{option_map_or}
use Rattle.stacks_vars.specs.declared.scopes.NodeAt.{NodeAt}
use Rattle.stacks_vars.specs.declared.items.SymbolItem.{SymbolItem}
use Rattle.stacks_vars.specs.declared.stacks.Stacks.{Stacks}
use Rattle.stacks_vars.specs.Enter.{stacks_of}
use Rattle.stacks_vars.specs.Same.{node_eq}
use Rattle.stacks_vars.proofs.SameLaws.{node_eq-Decides}
use Rattle.partial_path.specs.declared.config.Spot.{Spot}
use Rattle.partial_path.specs.declared.config.Spot.TheVariants as spot
use Rattle.partial_path.specs.declared.config.Config.{Config}
use Rattle.partial_path.specs.declared.rule.End.{End}
use Rattle.partial_path.specs.declared.rule.End.TheVariants.{At, ByStack}
use Rattle.partial_path.specs.Same.{spot_eq}
use Rattle.partial_path.specs.Rules.{Rule, start_spot}
use Rattle.partial_path.specs.Apply.{rests_of, fill, end_at, apply}
use Rattle.path_join.specs.Joins.{apply_both}
use Rattle.path_join.specs.Joining.{asked_scopes}
use Rattle.path_join.proofs.AndLaws.{and_assoc}
use Rattle.path_join.proofs.BeginsLaws.{begins}
use Rattle.path_join.proofs.MeetsLaws.{meets, meets_items, rest_items, filled, passes, apply-passes}

-- whether the second path's symbols are met, and the scopes that are asked for
abbrev pub meets_asked : Rule → List NodeAt → Stacks → Bool
meets_asked q asked stacks = begins asked stacks.scopes && meets_items q.pre.symbols stacks.symbols

-- what the second path makes where they are
abbrev pub filled_asked : Rule → List NodeAt → Stacks → Stacks
filled_asked q asked stacks =
    fill (rests_of (drop (length asked) stacks.scopes) (rest_items q.pre.symbols stacks.symbols)) q.post (drop (length q.pre.symbols) stacks.symbols)

-- where the second path then ends
abbrev pub second : Rule → Stacks → List NodeAt → Option Config
second q stacks asked = if meets_asked q asked stacks then end_at q.end (filled_asked q asked stacks) else None

same_tests : (a b : Bool) → (a ≡ true → b ≡ true) → (b ≡ true → a ≡ true) → a ≡ b
same_tests true b h k = sym (h refl)
same_tests false true h k = k refl
same_tests false false h k = refl

node_eq-sym : (a b : NodeAt) → node_eq a b ≡ node_eq b a
node_eq-sym a b =
    same_tests (node_eq a b) (node_eq b a) (λ h. (node_eq-Decides b a).1 (sym ((node_eq-Decides a b).0 h)))
    (λ h. (node_eq-Decides a b).1 (sym ((node_eq-Decides b a).0 h)))

spot_eq-sym : (a b : Spot) → spot_eq a b ≡ spot_eq b a
spot_eq-sym spot.Root spot.Root = refl
spot_eq-sym spot.Root (spot.At b) = refl
spot_eq-sym (spot.At a) spot.Root = refl
spot_eq-sym (spot.At a) (spot.At b) = node_eq-sym a b

-- the second path as it starts at a spot
abbrev from_spot : Rule → Spot → Config → Option Config
from_spot q start c = if spot_eq start c.spot && meets q.pre c.stacks then end_at q.end (filled q c.stacks) else None

at_spot : (a b : Bool) (x : Option Config) (fixed : List NodeAt) (f : List NodeAt → Option Config) → f fixed ≡ (if b then x else None)
    → (if a && b then x else None) ≡ option_map_or f (if a then Some fixed else None) None
at_spot true b x fixed f h = sym h
at_spot false b x fixed f h = refl

from-at : (q : Rule) (start end : Spot) (stacks : Stacks)
    → from_spot q start (record { spot = end; stacks = stacks }) ≡ option_map_or (second q stacks) (asked_scopes (At end) start q.pre.scopes.fixed) None
from-at q start end stacks =
    ap (λ (b : Bool). if b && meets q.pre stacks then end_at q.end (filled q stacks) else None) (spot_eq-sym start end)
    ∙ at_spot (spot_eq end start) (meets q.pre stacks) (end_at q.end (filled q stacks)) q.pre.scopes.fixed (second q stacks) refl

from-stack : (q : Rule) (start : Spot) (symbols : List SymbolItem) (scopes : List NodeAt)
    → option_and_then (from_spot q start) (end_at ByStack (stacks_of symbols scopes))
    ≡ option_map_or (second q (stacks_of symbols scopes)) (asked_scopes ByStack start q.pre.scopes.fixed) None
from-stack q spot.Root symbols [] = refl
from-stack q spot.Root symbols (scope ∷ rest) = refl
from-stack q (spot.At node) symbols [] = refl
from-stack q (spot.At node) symbols (scope ∷ rest) =
    ap (λ (b : Bool). if b then end_at q.end (filled q (stacks_of symbols rest)) else None)
    (sym (and_assoc (node_eq node scope) (begins q.pre.scopes.fixed rest) (meets_items q.pre.symbols symbols)))

from-end : (q : Rule) (start : Spot) (end : End) (stacks : Stacks)
    → option_and_then (from_spot q start) (end_at end stacks) ≡ option_map_or (second q stacks) (asked_scopes end start q.pre.scopes.fixed) None
from-end q start (At end) stacks = from-at q start end stacks
from-end q start ByStack stacks = from-stack q start stacks.symbols stacks.scopes

same_then : (f g : Config → Option Config) (o : Option Config) → ((c : Config) → f c ≡ g c) → option_and_then f o ≡ option_and_then g o
same_then f g None h = refl
same_then f g (Some c) h = h c

both-at : (q : Rule) (a : Bool) (o x y : Option Config) → x ≡ (if a then o else None) → option_and_then (apply q) o ≡ y
    → option_and_then (apply q) x ≡ (if a then y else None)
both-at q true o x y h k = rw h k
both-at q false o x y h k = rw h

-- applying both: the first path is passed, and then what is asked for is met
pub apply_both-second : (p q : Rule) (c : Config) → apply_both p q c
    ≡ (if passes p c then option_map_or (second q (filled p c.stacks)) (asked_scopes p.end (start_spot q.start) q.pre.scopes.fixed) None else None)
apply_both-second p q c =
    both-at q (passes p c) (end_at p.end (filled p c.stacks)) (apply p c) _ (apply-passes p c)
    (same_then (apply q) (from_spot q (start_spot q.start)) (end_at p.end (filled p c.stacks)) (apply-passes q)
    ∙ from-end q (start_spot q.start) p.end (filled p c.stacks))
