-- How many symbols the first path asks for and makes once it asks for all that the second wants.
use Rattle.std.proofs.Common.{◌≡◌, ◌≤◌, ◌+◌, ◌-◌, ℕ, suc, List, [], ◌∷◌, length, map, refl, ap, ◌∙◌, arith, length-append, length-drop}
use Rattle.std.proofs.lemmas.List.{length-map}
use Rattle.stacks_vars.specs.declared.patterns.SymPat.{SymPat}
use Rattle.partial_path.specs.Rules.{Rule}
use Rattle.partial_path.specs.Apply.{Rests, fill_item}
use Rattle.path_join.specs.Joining.{asked_symbols, handed, wide_pre, wide_post}

length-handed : (k : ℕ) (pats : List SymPat) → length (handed k pats) ≡ length pats
length-handed k [] = refl
length-handed k (pat ∷ pats) = ap suc (length-handed (suc k) pats)

pub length-wide_pre : (p q : Rule) → length (wide_pre p q) ≡ length p.pre.symbols + (length q.pre.symbols - length p.post.symbols)
length-wide_pre p q =
    length-append p.pre.symbols (asked_symbols p q) ∙ ap (λ (n : ℕ). length p.pre.symbols + n) (length-drop (length p.post.symbols) q.pre.symbols)

pub length-wide_post : (p q : Rule) → length (wide_post p q) ≡ length p.post.symbols + (length q.pre.symbols - length p.post.symbols)
length-wide_post p q =
    length-append p.post.symbols (handed (length p.pre.symbols) (asked_symbols p q))
    ∙ ap (λ (n : ℕ). length p.post.symbols + n) (length-handed (length p.pre.symbols) (asked_symbols p q) ∙ length-drop (length p.post.symbols) q.pre.symbols)

-- the outputs filled in are enough for the second path
pub enough-filled : (p q : Rule) (rests : Rests) → length q.pre.symbols ≤ length (map (fill_item rests) (wide_post p q))
enough-filled p q rests =
    let n = length-wide_post p q in
    let m = length-map (wide_post p q) (fill_item rests) in omega arith
