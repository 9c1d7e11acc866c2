-- The first path asking for all symbols that the second wants: what it makes, and that its variables are good.
use Rattle.std.proofs.Common.{◌≡◌, ℕ, zero, suc, List, [], ◌∷◌, ◌++◌, length, map, take, drop, true, Option, Some, None, is_some, refl, sym, ap, subst, ◌∙◌, arith, append_assoc, drop-drop, length-append, take-append-drop, option_map}
use Rattle.std.proofs.lemmas.List.{map-append}
use Rattle.stacks_vars.specs.declared.items.SymbolItem.{SymbolItem}
use Rattle.stacks_vars.specs.declared.stacks.Stacks.{Stacks}
use Rattle.stacks_vars.specs.declared.patterns.ScopePat.{ScopePat}
use Rattle.stacks_vars.specs.declared.patterns.SymPat.{SymPat}
use Rattle.stacks_vars.specs.declared.patterns.Pre.{Pre}
use Rattle.partial_path.specs.Rules.{Rule, has_scopes}
use Rattle.partial_path.specs.Apply.{Rests, rests_of, fill_scopes, fill_item}
use Rattle.path_join.specs.Joining.{asked_symbols, handed_scopes, handed, wide_pre, wide_post}
use Rattle.path_join.proofs.AndLaws.{and_both, and_first, and_second}
use Rattle.path_join.proofs.MeetsLaws.{meets_items, rest_items, rests_in}
use Rattle.path_join.proofs.ItemsLaws.{rest-append, length-rest}
use Rattle.path_join.proofs.GoodLaws.{good_tail, good_scopes, good_outs, good_post, good_outs-append, good_outs-more, good_tail-append}
use Rattle.path_join.proofs.HandedLaws.{handed-fill, scopes-wider, outs-wider}

has_scopes-here : (before : List SymPat) (here : SymPat) (after : List SymPat) (k : ℕ) → length before ≡ k
    → has_scopes (before ++ here ∷ after) k ≡ is_some here.scopes
has_scopes-here [] here after zero h = refl
has_scopes-here [] here after (suc k) h = absurd (omega arith)
has_scopes-here (s ∷ before) here after zero h = absurd (omega arith)
has_scopes-here (s ∷ before) here after (suc k) h = has_scopes-here before here after k (omega arith)

good-handed_scopes : (symbols : List SymPat) (k : ℕ) (scopes : Option ScopePat) → has_scopes symbols k ≡ is_some scopes
    → good_scopes symbols (option_map (handed_scopes k) scopes) ≡ true
good-handed_scopes symbols k None h = refl
good-handed_scopes symbols k (Some pat) h = h

good-handed : (before pats : List SymPat) (k : ℕ) → length before ≡ k → good_outs (before ++ pats) (handed k pats) ≡ true
good-handed before [] k h = refl
good-handed before (pat ∷ pats) k h =
    and_both (good_scopes (before ++ pat ∷ pats) (option_map (handed_scopes k) pat.scopes)) (good_outs (before ++ pat ∷ pats) (handed (suc k) pats))
    (good-handed_scopes (before ++ pat ∷ pats) k pat.scopes (has_scopes-here before pat pats k h))
    (subst (λ (symbols : List SymPat). good_outs symbols (handed (suc k) pats) ≡ true) (append_assoc before (pat ∷ []) pats)
    (good-handed (before ++ pat ∷ []) pats (suc k) (length-append before (pat ∷ []) ∙ (omega arith))))

pub good-wide_post : (p q : Rule) → good_post p.pre.symbols p.post ≡ true → good_outs (wide_pre p q) (wide_post p q) ≡ true
good-wide_post p q h =
    good_outs-append (wide_pre p q) p.post.symbols (handed (length p.pre.symbols) (asked_symbols p q))
    (good_outs-more p.pre.symbols (asked_symbols p q) p.post.symbols
    (and_first (good_outs p.pre.symbols p.post.symbols) (good_tail p.pre.symbols p.post.scopes.tail) h))
    (good-handed p.pre.symbols (asked_symbols p q) (length p.pre.symbols) refl)

pub good-wide_tail : (p q : Rule) → good_post p.pre.symbols p.post ≡ true → good_tail (wide_pre p q) p.post.scopes.tail ≡ true
good-wide_tail p q h =
    good_tail-append p.pre.symbols (asked_symbols p q) p.post.scopes.tail
    (and_second (good_outs p.pre.symbols p.post.symbols) (good_tail p.pre.symbols p.post.scopes.tail) h)

-- the precondition that asks for all
abbrev pub wide : Rule → Rule → Pre
wide p q = record { symbols = wide_pre p q; scopes = p.pre.scopes }

-- what the first path doesn't look at
abbrev pub left_by : Rule → Stacks → List SymbolItem
left_by p stacks = drop (length p.pre.symbols) stacks.symbols

wide-rests : (p q : Rule) (stacks : Stacks) → rests_in (wide p q) stacks
    ≡ rests_of (drop (length p.pre.scopes.fixed) stacks.scopes) (rest_items p.pre.symbols stacks.symbols ++ rest_items (asked_symbols p q) (left_by p stacks))
wide-rests p q stacks =
    ap (rests_of (drop (length p.pre.scopes.fixed) stacks.scopes)) (rest-append p.pre.symbols (asked_symbols p q) stacks.symbols)

-- the scopes that the first path makes
pub wide-scopes : (p q : Rule) (stacks : Stacks) → good_post p.pre.symbols p.post ≡ true → meets_items p.pre.symbols stacks.symbols ≡ true
    → fill_scopes (rests_in p.pre stacks) p.post.scopes ≡ fill_scopes (rests_in (wide p q) stacks) p.post.scopes
wide-scopes p q stacks good h =
    sym (scopes-wider p.pre.symbols (drop (length p.pre.scopes.fixed) stacks.scopes) (rest_items p.pre.symbols stacks.symbols)
    (rest_items (asked_symbols p q) (left_by p stacks)) p.post.scopes (length-rest p.pre.symbols stacks.symbols h)
    (and_second (good_outs p.pre.symbols p.post.symbols) (good_tail p.pre.symbols p.post.scopes.tail) good))
    ∙ ap (λ (rests : Rests). fill_scopes rests p.post.scopes) (sym (wide-rests p q stacks))

put_back : (made asked : List SymbolItem) (left : List SymbolItem) (n : ℕ) → asked ≡ take n left → made ++ left ≡ (made ++ asked) ++ drop n left
put_back made asked left n h =
    ap (λ (items : List SymbolItem). made ++ items) (sym (take-append-drop n left)) ∙ sym (append_assoc made (take n left) (drop n left))
    ∙ ap (λ (items : List SymbolItem). made ++ items ++ drop n left) (sym h)

-- the symbols that all outputs make together
wide-outs : (p q : Rule) (stacks : Stacks) → good_post p.pre.symbols p.post ≡ true → meets_items p.pre.symbols stacks.symbols ≡ true
    → map (fill_item (rests_in (wide p q) stacks)) (wide_post p q)
    ≡ map (fill_item (rests_in p.pre stacks)) p.post.symbols ++ map (fill_item (rests_in (wide p q) stacks)) (handed (length p.pre.symbols) (asked_symbols p q))
wide-outs p q stacks good h =
    map-append (fill_item (rests_in (wide p q) stacks)) p.post.symbols (handed (length p.pre.symbols) (asked_symbols p q))
    ∙ ap (λ (items : List SymbolItem). items ++ map (fill_item (rests_in (wide p q) stacks)) (handed (length p.pre.symbols) (asked_symbols p q)))
    (ap (λ (rests : Rests). map (fill_item rests) p.post.symbols) (wide-rests p q stacks)
    ∙ outs-wider p.pre.symbols (drop (length p.pre.scopes.fixed) stacks.scopes) (rest_items p.pre.symbols stacks.symbols)
    (rest_items (asked_symbols p q) (left_by p stacks)) p.post.symbols (length-rest p.pre.symbols stacks.symbols h)
    (and_first (good_outs p.pre.symbols p.post.symbols) (good_tail p.pre.symbols p.post.scopes.tail) good))

-- what all outputs make, and what nobody looks at, are the symbols that the first path leaves
pub wide-symbols : (p q : Rule) (stacks : Stacks) → good_post p.pre.symbols p.post ≡ true → meets_items p.pre.symbols stacks.symbols ≡ true
    → meets_items (asked_symbols p q) (left_by p stacks) ≡ true
    → map (fill_item (rests_in p.pre stacks)) p.post.symbols ++ left_by p stacks
    ≡ map (fill_item (rests_in (wide p q) stacks)) (wide_post p q) ++ drop (length (wide_pre p q)) stacks.symbols
wide-symbols p q stacks good h k =
    put_back (map (fill_item (rests_in p.pre stacks)) p.post.symbols)
    (map (fill_item (rests_in (wide p q) stacks)) (handed (length p.pre.symbols) (asked_symbols p q))) (left_by p stacks) (length (asked_symbols p q))
    (handed-fill (rests_in (wide p q) stacks) (rest_items p.pre.symbols stacks.symbols) (length p.pre.symbols) (asked_symbols p q) (left_by p stacks)
    (rest-append p.pre.symbols (asked_symbols p q) stacks.symbols) (length-rest p.pre.symbols stacks.symbols h) k)
    ∙ ap (λ (items : List SymbolItem). items ++ drop (length (asked_symbols p q)) (left_by p stacks)) (sym (wide-outs p q stacks good h))
    ∙ ap (λ (items : List SymbolItem). map (fill_item (rests_in (wide p q) stacks)) (wide_post p q) ++ items)
    (drop-drop (length (asked_symbols p q)) (length p.pre.symbols) stacks.symbols
    ∙ ap (λ (n : ℕ). drop n stacks.symbols) (sym (length-append p.pre.symbols (asked_symbols p q))))
