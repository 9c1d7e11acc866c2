-- What becomes known when outputs meet what is asked for: exactly the variables with which they meet it fit.
use Rattle.std.proofs.Common.{◌≡◌, ◌<◌, List, [], ◌∷◌, ◌++◌, length, map, drop, Bool, true, false, ◌&&◌, Option, Some, None, if◌then◌else◌, sym, ap, ◌∙◌, arith, append_assoc, option_map, option_and_then}
use Rattle.std.specs.Option.{option_map_or}
use Rattle.std.specs.Str.{bytes_eq}
use Rattle.stacks_vars.specs.declared.scopes.NodeAt.{NodeAt}
use Rattle.stacks_vars.specs.declared.patterns.ScopePat.{ScopePat}
use Rattle.stacks_vars.specs.declared.patterns.SymPat.{SymPat}
use Rattle.stacks_vars.specs.declared.patterns.Tail.{Tail}
use Rattle.stacks_vars.specs.declared.patterns.Tail.TheVariants.{Nil, Front, Item}
use Rattle.stacks_vars.specs.declared.patterns.ScopeOut.{ScopeOut}
use Rattle.stacks_vars.specs.declared.patterns.SymOut.{SymOut}
use Rattle.partial_path.specs.Rules.{Rule}
use Rattle.partial_path.specs.Apply.{Rests, tail_scopes, fill_scopes, fill_item}
use Rattle.path_join.specs.Joining.{past, grow, meet_scopes, meet_attached, meet_symbol, meet_symbols, nothing_known, known_with, wide_pre, wide_post}
use Rattle.path_join.proofs.AndLaws.{and_assoc, and_last, and_true, and_false, and_where, and_first, and_second}
use Rattle.path_join.proofs.BeginsLaws.{begins, begins-append, begins_past}
use Rattle.path_join.proofs.FitsLaws.{fits, beyond, begins_all, past_all, list_at, begins_all-set, begins_all_nothing, tail_scopes-beyond}
use Rattle.path_join.proofs.MeetsLaws.{meets_attached, meets_item, meets_items}
use Rattle.path_join.proofs.GoodLaws.{good_tail, good_scopes, good_outs, has_scopes-within}

-- whether there is something known, and it fits
abbrev pub fits_some : Rests → Option Rests → Bool
fits_some rests known = option_map_or (λ (k : Rests). fits k rests) known false

-- what the variables stand for has a list for each of the symbols
abbrev pub HasAll : List SymPat → Rests → Type 0
HasAll symbols rests = length rests.items ≡ length symbols

fits-grow : (symbols : List SymPat) (rests : Rests) → HasAll symbols rests → (tail : Tail) → good_tail symbols tail ≡ true
    → (more : List NodeAt) (known : Rests)
    → fits_some rests (grow tail more known) ≡ (fits known rests && begins more (tail_scopes (beyond known rests) tail))
fits-grow symbols rests all Nil good [] known = sym (and_true (fits known rests))
fits-grow symbols rests all Nil good (s ∷ more) known = sym (and_false (fits known rests))
fits-grow symbols rests all Front good more known =
    ap (λ (b : Bool). b && begins_all known.items rests.items) (begins-append known.front more rests.front)
    ∙ and_last (begins known.front rests.front) (begins more (drop (length known.front) rests.front)) (begins_all known.items rests.items)
fits-grow symbols rests all (Item i) good more known =
    let within : i < length symbols = has_scopes-within symbols i good in
    let here : i < length rests.items = omega arith in
    ap (λ (b : Bool). begins known.front rests.front && b) (begins_all-set known.items rests.items i more here)
    ∙ sym (and_assoc (begins known.front rests.front) (begins_all known.items rests.items) (begins more (list_at (past_all known.items rests.items) i)))

-- growing by what is asked for past the scopes that are there, if any
fits-past : (symbols : List SymPat) (rests : Rests) → HasAll symbols rests → (tail : Tail) → good_tail symbols tail ≡ true
    → (known : Rests) (asked : Option (List NodeAt))
    → fits_some rests (option_and_then (λ (more : List NodeAt). grow tail more known) asked)
    ≡ (fits known rests && option_map_or (λ (more : List NodeAt). begins more (tail_scopes (beyond known rests) tail)) asked false)
fits-past symbols rests all tail good known None = sym (and_false (fits known rests))
fits-past symbols rests all tail good known (Some more) = fits-grow symbols rests all tail good more known

-- an output is filled by what is known and then by what is past that
pub fill_scopes-beyond : (known rests : Rests) (out : ScopeOut) → fits known rests ≡ true
    → fill_scopes rests out ≡ fill_scopes known out ++ tail_scopes (beyond known rests) out.tail
fill_scopes-beyond known rests out h =
    ap (λ (scopes : List NodeAt). out.scopes ++ scopes) (tail_scopes-beyond known rests out.tail h)
    ∙ sym (append_assoc out.scopes (tail_scopes known out.tail) (tail_scopes (beyond known rests) out.tail))

pub fits-scopes : (symbols : List SymPat) (rests : Rests) → HasAll symbols rests → (out : ScopeOut) → good_tail symbols out.tail ≡ true
    → (known : Rests) (fixed : List NodeAt)
    → fits_some rests (meet_scopes known fixed out) ≡ (fits known rests && begins fixed (fill_scopes rests out))
fits-scopes symbols rests all out good known fixed =
    fits-past symbols rests all out.tail good known (past fixed (fill_scopes known out))
    ∙ and_where (fits known rests) _ (begins fixed (fill_scopes rests out)) (λ (h : fits known rests ≡ true).
    sym (begins_past fixed (fill_scopes known out) (tail_scopes (beyond known rests) out.tail)) ∙ ap (begins fixed) (sym (fill_scopes-beyond known rests out h)))

fits-attached : (symbols : List SymPat) (rests : Rests) → HasAll symbols rests → (known : Rests) (pat : Option ScopePat) (out : Option ScopeOut)
    → good_scopes symbols out ≡ true
    → fits_some rests (meet_attached known pat out) ≡ (fits known rests && meets_attached pat (option_map (fill_scopes rests) out))
fits-attached symbols rests all known None None good = sym (and_true (fits known rests))
fits-attached symbols rests all known None (Some out) good = sym (and_false (fits known rests))
fits-attached symbols rests all known (Some pat) None good = sym (and_false (fits known rests))
fits-attached symbols rests all known (Some pat) (Some out) good = fits-scopes symbols rests all out good known pat.fixed

-- the same under a test of the symbols
fits-under : (rests : Rests) (a b c : Bool) (o : Option Rests) → fits_some rests o ≡ (c && b) → fits_some rests (if a then o else None) ≡ (c && (a && b))
fits-under rests true b c o h = h
fits-under rests false b c o h = sym (and_false c)

fits-symbol : (symbols : List SymPat) (rests : Rests) → HasAll symbols rests → (known : Rests) (pat : SymPat) (out : SymOut)
    → good_scopes symbols out.scopes ≡ true
    → fits_some rests (meet_symbol known pat out) ≡ (fits known rests && meets_item pat (fill_item rests out))
fits-symbol symbols rests all known pat out good =
    fits-under rests (bytes_eq pat.symbol out.symbol) (meets_attached pat.scopes (option_map (fill_scopes rests) out.scopes)) (fits known rests)
    (meet_attached known pat.scopes out.scopes) (fits-attached symbols rests all known pat.scopes out.scopes good)

-- what is known goes on to what follows
fits-then : (rests : Rests) (o : Option Rests) (f : Rests → Option Rests) (a b c : Bool) → fits_some rests o ≡ (a && b)
    → ((known : Rests) → fits_some rests (f known) ≡ (fits known rests && c))
    → fits_some rests (option_and_then f o) ≡ (a && (b && c))
fits-then rests None f a b c h next = ap (λ (t : Bool). t && c) h ∙ and_assoc a b c
fits-then rests (Some known) f a b c h next = next known ∙ ap (λ (t : Bool). t && c) h ∙ and_assoc a b c

pub fits-symbols : (symbols : List SymPat) (rests : Rests) → HasAll symbols rests → (pats : List SymPat) (outs : List SymOut)
    → good_outs symbols outs ≡ true → (known : Rests)
    → fits_some rests (meet_symbols known pats outs) ≡ (fits known rests && meets_items pats (map (fill_item rests) outs))
fits-symbols symbols rests all [] outs good known = sym (and_true (fits known rests))
fits-symbols symbols rests all (pat ∷ pats) [] good known = sym (and_false (fits known rests))
fits-symbols symbols rests all (pat ∷ pats) (out ∷ outs) good known =
    fits-then rests (meet_symbol known pat out) (λ (grown : Rests). meet_symbols grown pats outs) (fits known rests)
    (meets_item pat (fill_item rests out)) (meets_items pats (map (fill_item rests) outs))
    (fits-symbol symbols rests all known pat out (and_first (good_scopes symbols out.scopes) (good_outs symbols outs) good))
    (fits-symbols symbols rests all pats outs (and_second (good_scopes symbols out.scopes) (good_outs symbols outs) good))

fits-nothing : (symbols : List SymPat) (rests : Rests) → HasAll symbols rests → fits (nothing_known (length symbols)) rests ≡ true
fits-nothing symbols rests all = begins_all_nothing rests.items (length symbols) all

-- what is known at the end fits exactly the variables with which all is met
pub fits-known : (p q : Rule) (asked : List NodeAt) (rests : Rests) → HasAll (wide_pre p q) rests
    → good_outs (wide_pre p q) (wide_post p q) ≡ true → good_tail (wide_pre p q) p.post.scopes.tail ≡ true
    → fits_some rests (known_with p q asked)
    ≡ (meets_items q.pre.symbols (map (fill_item rests) (wide_post p q)) && begins asked (fill_scopes rests p.post.scopes))
fits-known p q asked rests all outs last =
    fits-then rests (meet_symbols (nothing_known (length (wide_pre p q))) q.pre.symbols (wide_post p q))
    (λ (known : Rests). meet_scopes known asked p.post.scopes) true
    (meets_items q.pre.symbols (map (fill_item rests) (wide_post p q))) (begins asked (fill_scopes rests p.post.scopes))
    (fits-symbols (wide_pre p q) rests all q.pre.symbols (wide_post p q) outs (nothing_known (length (wide_pre p q)))
    ∙ ap (λ (b : Bool). b && meets_items q.pre.symbols (map (fill_item rests) (wide_post p q))) (fits-nothing (wide_pre p q) rests all))
    (λ (known : Rests). fits-scopes (wide_pre p q) rests all p.post.scopes last known asked)
