-- Whether a scope stack begins with fixed scopes: matching as a test, and what is left as a value.
use Rattle.std.proofs.Common.{◌≡◌, ◌≤◌, List, [], ◌∷◌, ◌++◌, length, drop, Bool, true, false, ◌&&◌, Option, Some, None, if◌then◌else◌, refl, sym, ap, ◌∙◌, arith}
use Rattle.std.specs.Option.{option_map_or}
use Rattle.stacks_vars.specs.declared.scopes.NodeAt.{NodeAt}
use Rattle.stacks_vars.specs.Same.{node_eq}
use Rattle.stacks_vars.proofs.SameLaws.{node_eq-Decides}
use Rattle.partial_path.specs.Apply.{after_fixed}
use Rattle.path_join.specs.Joining.{past}
use Rattle.path_join.proofs.AndLaws.{and_assoc, and_first, and_second, if_both}

-- whether the scopes begin with the fixed ones
abbrev pub begins : List NodeAt → List NodeAt → Bool
begins [] scopes = true
begins (f ∷ fixed) [] = false
begins (f ∷ fixed) (s ∷ scopes) = node_eq f s && begins fixed scopes

pub after_fixed-begins : (fixed scopes : List NodeAt) → after_fixed fixed scopes ≡ (if begins fixed scopes then Some (drop (length fixed) scopes) else None)
after_fixed-begins [] scopes = refl
after_fixed-begins (f ∷ fixed) [] = refl
after_fixed-begins (f ∷ fixed) (s ∷ scopes) =
    if_both (node_eq f s) (begins fixed scopes) (after_fixed fixed scopes) (drop (length fixed) scopes) (after_fixed-begins fixed scopes)

pub begins-append : (fixed more scopes : List NodeAt) → begins (fixed ++ more) scopes ≡ (begins fixed scopes && begins more (drop (length fixed) scopes))
begins-append [] more scopes = refl
begins-append (f ∷ fixed) more [] = refl
begins-append (f ∷ fixed) more (s ∷ scopes) =
    ap (λ (b : Bool). node_eq f s && b) (begins-append fixed more scopes)
    ∙ sym (and_assoc (node_eq f s) (begins fixed scopes) (begins more (drop (length fixed) scopes)))

pub begins_itself : (fixed more : List NodeAt) → begins fixed (fixed ++ more) ≡ true
begins_itself [] more = refl
begins_itself (f ∷ fixed) more =
    ap (λ (b : Bool). b && begins fixed (fixed ++ more)) ((node_eq-Decides f f).1 refl) ∙ begins_itself fixed more

pub begins_whole : (fixed : List NodeAt) → begins fixed fixed ≡ true
begins_whole [] = refl
begins_whole (f ∷ fixed) =
    ap (λ (b : Bool). b && begins fixed fixed) ((node_eq-Decides f f).1 refl) ∙ begins_whole fixed

pub begins_length : (fixed scopes : List NodeAt) → begins fixed scopes ≡ true → length fixed ≤ length scopes
begins_length [] scopes h = omega arith
begins_length (f ∷ fixed) [] h = cc
begins_length (f ∷ fixed) (s ∷ scopes) h =
    let k : length fixed ≤ length scopes = begins_length fixed scopes (and_second (node_eq f s) (begins fixed scopes) h) in omega arith

-- what the scopes are where they begin so
at_front : (f s : NodeAt) (fixed scopes rest : List NodeAt) → f ≡ s → scopes ≡ fixed ++ rest → s ∷ scopes ≡ f ∷ fixed ++ rest
at_front f s fixed scopes rest h k = cc

pub begins_is : (fixed scopes : List NodeAt) → begins fixed scopes ≡ true → scopes ≡ fixed ++ drop (length fixed) scopes
begins_is [] scopes h = refl
begins_is (f ∷ fixed) [] h = cc
begins_is (f ∷ fixed) (s ∷ scopes) h =
    at_front f s fixed scopes (drop (length fixed) scopes) ((node_eq-Decides f s).0 (and_first (node_eq f s) (begins fixed scopes) h))
    (begins_is fixed scopes (and_second (node_eq f s) (begins fixed scopes) h))

-- what is asked for past the scopes that are there is asked for of those that follow
past-at : (b c : Bool) (o : Option (List NodeAt)) (more : List NodeAt) → c ≡ option_map_or (λ (asked : List NodeAt). begins asked more) o false
    → (b && c) ≡ option_map_or (λ (asked : List NodeAt). begins asked more) (if b then o else None) false
past-at true c o more h = h
past-at false c o more h = refl

pub begins_past : (fixed there more : List NodeAt) → begins fixed (there ++ more) ≡ option_map_or (λ (asked : List NodeAt). begins asked more) (past fixed there) false
begins_past [] there more = refl
begins_past (f ∷ fixed) [] more = refl
begins_past (f ∷ fixed) (s ∷ there) more =
    past-at (node_eq f s) (begins fixed (there ++ more)) (past fixed there) more (begins_past fixed there more)
