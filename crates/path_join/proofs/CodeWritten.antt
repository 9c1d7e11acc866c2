-- The joined conditions, written in two parts.
use Rattle.std.proofs.Common.{◌≡◌, refl, ap, ◌∙◌, sym, ℕ, suc, ◌-◌, List, [], ◌∷◌, ◌++◌, length, drop, arith, inl, inr}
use Rattle.std.specs.Prelude.{◌⊎◌}
use Rattle.std.proofs.lemmas.List.{append-nil, drop_all, length-drop}
use Rattle.stacks_vars.specs.declared.scopes.NodeAt.{NodeAt}
use Rattle.stacks_vars.specs.declared.patterns.SymPat.{SymPat}
use Rattle.partial_path.specs.Rules.{Rule}
use Rattle.path_join.specs.Joining.{longer_symbol, longer_symbols, handed, asked_symbols, wide_pre, wide_post}
use Rattle.path_join.proofs.CodeBound.{drop-parts}

pub longer-end : (xs : List SymPat) (pats : List SymPat) (lists : List (List NodeAt)) → (pats ≡ []) ⊎ (lists ≡ []) → xs ++ longer_symbols pats lists ≡ xs
longer-end xs [] lists h = append-nil xs
longer-end xs (pat ∷ pats) [] h = append-nil xs
longer-end xs (pat ∷ pats) (more ∷ lists) (inl h) = cc
longer-end xs (pat ∷ pats) (more ∷ lists) (inr h) = cc

-- what the joined path asks for: the first path's symbols, and then those that it hands on
longer-none : (pats : List SymPat) → longer_symbols pats [] ≡ []
longer-none [] = refl
longer-none (pat ∷ pats) = refl

longer-parts : (pats more : List SymPat) (lists : List (List NodeAt))
    → longer_symbols (pats ++ more) lists ≡ longer_symbols pats lists ++ longer_symbols more (drop (length pats) lists)
longer-parts [] more lists = refl
longer-parts (pat ∷ pats) more [] = sym (longer-none more)
longer-parts (pat ∷ pats) more (here ∷ lists) = ap (λ xs. longer_symbol pat here ∷ xs) (longer-parts pats more lists)

pub longer-wide : (p q : Rule) (lists : List (List NodeAt)) → longer_symbols (wide_pre p q) lists
    ≡ longer_symbols p.pre.symbols lists ++ longer_symbols (drop (length p.post.symbols) q.pre.symbols) (drop (length p.pre.symbols) lists)
longer-wide p q lists = longer-parts p.pre.symbols (asked_symbols p q) lists

-- what the second path leaves is all of the first path's making
length-handed : (n : ℕ) (pats : List SymPat) → length (handed n pats) ≡ length pats
length-handed n [] = refl
length-handed n (pat ∷ pats) = ap suc (length-handed (suc n) pats)

pub left-wide : (p q : Rule) → drop (length q.pre.symbols) (wide_post p q) ≡ drop (length q.pre.symbols) p.post.symbols
left-wide p q =
    let n = length p.pre.symbols in
    let e = length-handed n (asked_symbols p q) in
    let f = length-drop (length p.post.symbols) q.pre.symbols in
    drop-parts (length q.pre.symbols) p.post.symbols (handed n (asked_symbols p q))
    ∙ ap (λ xs. drop (length q.pre.symbols) p.post.symbols ++ xs)
    (drop_all (length q.pre.symbols - length p.post.symbols) (handed n (asked_symbols p q)) (omega (arith, e, f)))
    ∙ append-nil (drop (length q.pre.symbols) p.post.symbols)

pub ruleset written = (longer-wide, left-wide)
