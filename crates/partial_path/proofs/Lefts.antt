-- A list looked at from its end on, and another from its beginning on.
use Rattle.std.proofs.Common.{◌≡◌, sym, ◌∙◌, ap, ℕ, ◌+◌, ◌-◌, ◌<◌, ◌≤◌, List, [], ◌∷◌, ◌++◌, length, take, drop, reverse, map, Some, None, get_or, arith, true, false, if◌then◌else◌}
use Rattle.std.proofs.lemmas.List.{take_more, drop_more, reverse-append}
use Rattle.std.proofs.Math.ListN.{drop_of_length-le}
use Rattle.stacks_vars.specs.declared.scopes.NodeAt.{NodeAt}
use Rattle.stacks_vars.specs.Same.{node_eq}
use Rattle.partial_path.specs.Apply.{after_fixed}
use Rattle.partial_path.specs.Moved.{moved_node}

-- the last of the first `n + 1` is the first of them reversed
pub last_first : {X : Type 0} (xs : List X) (n : ℕ) (d : X) → n < length xs → reverse (take (n + 1) xs) ≡ get_or xs n d ∷ reverse (take n xs)
last_first xs n d below = ap reverse (take_more xs n d below) ∙ reverse-append (take n xs) (get_or xs n d ∷ [])

-- what is asked for of the scopes left, one scope further on
next_asked : (base : ℕ) (f s : NodeAt) (fixed scopes : List NodeAt) → node_eq (moved_node base f) s ≡ true
    → after_fixed (moved_node base f ∷ fixed) (s ∷ scopes) ≡ after_fixed fixed scopes
next_asked base f s fixed scopes e = ap (λ b. if b then after_fixed fixed scopes else None) e

not_asked : (base : ℕ) (f s : NodeAt) (fixed scopes : List NodeAt) → node_eq (moved_node base f) s ≡ false
    → after_fixed (moved_node base f ∷ fixed) (s ∷ scopes) ≡ None
not_asked base f s fixed scopes e = ap (λ b. if b then after_fixed fixed scopes else None) e

asked_split : (base : ℕ) (fixed scopes : List NodeAt) (i left : ℕ) (d : NodeAt) → i < length fixed → left < length scopes
    → after_fixed (map (moved_node base) (drop i fixed)) (reverse (take (left + 1) scopes))
    ≡ after_fixed (moved_node base (get_or fixed i d) ∷ map (moved_node base) (drop (i + 1) fixed)) (get_or scopes left d ∷ reverse (take left scopes))
asked_split base fixed scopes i left d a b =
    ap (λ fs. after_fixed (map (moved_node base) fs) (reverse (take (left + 1) scopes))) (drop_more fixed i d a)
    ∙ ap (after_fixed (moved_node base (get_or fixed i d) ∷ map (moved_node base) (drop (i + 1) fixed))) (last_first scopes left d b)

-- the scopes left, where there is one: its front is the last
lefts_split : (base : ℕ) (fixed scopes : List NodeAt) (i left : ℕ) (d : NodeAt) → i < length fixed → (left ≡ 0 → ⊥) → left ≤ length scopes
    → after_fixed (map (moved_node base) (drop i fixed)) (reverse (take left scopes))
    ≡ after_fixed (moved_node base (get_or fixed i d) ∷ map (moved_node base) (drop (i + 1) fixed)) (get_or scopes (left - 1) d ∷ reverse (take (left - 1) scopes))
lefts_split base fixed scopes i left d a some b =
    let e : left ≡ (left - 1) + 1 = omega arith in
    ap (λ n. after_fixed (map (moved_node base) (drop i fixed)) (reverse (take n scopes))) e ∙ asked_split base fixed scopes i (left - 1) d a (omega arith)

pub one_further : (base : ℕ) (fixed scopes : List NodeAt) (i left : ℕ) (d : NodeAt) → i < length fixed → (left ≡ 0 → ⊥) → left ≤ length scopes
    → true ≡ node_eq (moved_node base (get_or fixed i d)) (get_or scopes (left - 1) d)
    → after_fixed (map (moved_node base) (drop i fixed)) (reverse (take left scopes)) ≡ after_fixed (map (moved_node base) (drop (i + 1) fixed)) (reverse (take (left - 1) scopes))
one_further base fixed scopes i left d a some b e =
    lefts_split base fixed scopes i left d a some b
    ∙ next_asked base (get_or fixed i d) (get_or scopes (left - 1) d) (map (moved_node base) (drop (i + 1) fixed)) (reverse (take (left - 1) scopes)) (sym e)

pub refused : (base : ℕ) (fixed scopes : List NodeAt) (i left : ℕ) (d : NodeAt) → i < length fixed → (left ≡ 0 → ⊥) → left ≤ length scopes
    → false ≡ node_eq (moved_node base (get_or fixed i d)) (get_or scopes (left - 1) d)
    → after_fixed (map (moved_node base) (drop i fixed)) (reverse (take left scopes)) ≡ None
refused base fixed scopes i left d a some b e =
    lefts_split base fixed scopes i left d a some b
    ∙ not_asked base (get_or fixed i d) (get_or scopes (left - 1) d) (map (moved_node base) (drop (i + 1) fixed)) (reverse (take (left - 1) scopes)) (sym e)

pub too_few : (base : ℕ) (fixed scopes : List NodeAt) (i left : ℕ) (d : NodeAt) → i < length fixed → left ≡ 0
    → after_fixed (map (moved_node base) (drop i fixed)) (reverse (take left scopes)) ≡ None
too_few base fixed scopes i left d a e =
    ap (λ n. after_fixed (map (moved_node base) (drop i fixed)) (reverse (take n scopes))) e
    ∙ ap (λ fs. after_fixed (map (moved_node base) fs) []) (drop_more fixed i d a)

pub all_asked : (base : ℕ) (fixed scopes : List NodeAt) (i : ℕ) → length fixed ≤ i
    → after_fixed (map (moved_node base) (drop i fixed)) scopes ≡ Some scopes
all_asked base fixed scopes i a = ap (λ fs. after_fixed (map (moved_node base) fs) scopes) (drop_of_length-le fixed a)

-- the elements from a place on, with those before it gone over from the last: one more before them
pub one_before : {X Y : Type 0} (f : X → Y) (xs : List X) (left : ℕ) (d : X) (ys : List Y) → (left ≡ 0 → ⊥) → left ≤ length xs
    → map f (drop (left - 1) xs) ++ ys ≡ f (get_or xs (left - 1) d) ∷ (map f (drop left xs) ++ ys)
one_before f xs left d ys some b =
    let n : (left - 1) + 1 ≡ left = omega arith in
    ap (λ zs. map f zs ++ ys) (drop_more xs (left - 1) d (omega arith)) ∙ ap (λ n. f (get_or xs (left - 1) d) ∷ (map f (drop n xs) ++ ys)) n
