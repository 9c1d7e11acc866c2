-- The joined path makes of the stacks what the first and then the second path make.
use Rattle.std.proofs.Common.{◌≡◌, ℕ, List, ◌++◌, length, map, drop, true, ◌&&◌, Some, sym, ap, ◌∙◌, append_assoc}
use Rattle.std.proofs.lemmas.List.{map-append, drop-append-le, drop-map}
use Rattle.stacks_vars.specs.declared.scopes.NodeAt.{NodeAt}
use Rattle.stacks_vars.specs.declared.stacks.Stacks.{Stacks}
use Rattle.stacks_vars.specs.declared.items.SymbolItem.{SymbolItem}
use Rattle.stacks_vars.specs.declared.patterns.SymOut.{SymOut}
use Rattle.partial_path.specs.Rules.{Rule}
use Rattle.partial_path.specs.Apply.{Rests, rests_of, fill, fill_scopes, fill_item}
use Rattle.path_join.specs.Joining.{Bound, bound_by, known_with, wide_pre, wide_post, put_symbol, put_scopes, grown_symbol, joined_by, joined_post}
use Rattle.path_join.proofs.AndLaws.{and_first, and_second}
use Rattle.path_join.proofs.BeginsLaws.{begins}
use Rattle.path_join.proofs.FitsLaws.{same_rests, fits, beyond, fits_itself}
use Rattle.path_join.proofs.MeetsLaws.{meets, meets_items, rest_items, rests_in, filled}
use Rattle.path_join.proofs.ItemsLaws.{rest-enough}
use Rattle.path_join.proofs.GoodLaws.{good_post}
use Rattle.path_join.proofs.SuitsLaws.{Suits-length}
use Rattle.path_join.proofs.KnownLaws.{fits_some, fits-known}
use Rattle.path_join.proofs.KeptLaws.{suits-known}
use Rattle.path_join.proofs.LongerLaws.{longer, rests-longer_pre, length-longer}
use Rattle.path_join.proofs.PutLaws.{rests_by, put-symbols, put-scopes, grown-symbols, bound-scopes, bound-items}
use Rattle.path_join.proofs.WidenedLaws.{wide, good-wide_post, good-wide_tail, wide-scopes, wide-symbols}
use Rattle.path_join.proofs.LengthsLaws.{enough-filled}
use Rattle.path_join.proofs.EndsLaws.{filled_asked}
use Rattle.path_join.proofs.PassesLaws.{follows, meets_symbols}

-- what is known meets by itself all that is asked for
known-meets : (p q : Rule) (asked : List NodeAt) (known : Rests) → good_post p.pre.symbols p.post ≡ true → known_with p q asked ≡ Some known
    → (meets_items q.pre.symbols (map (fill_item known) (wide_post p q)) && begins asked (fill_scopes known p.post.scopes)) ≡ true
known-meets p q asked known good is =
    sym (fits-known p q asked known (Suits-length (wide_pre p q) known.items (suits-known p q asked known (good-wide_post p q good) (good-wide_tail p q good) is))
    (good-wide_post p q good) (good-wide_tail p q good))
    ∙ ap (fits_some known) is ∙ fits_itself known

-- what the second path's variables stand for
second-rests : (p q : Rule) (asked : List NodeAt) (known : Rests) (stacks : Stacks) → good_post p.pre.symbols p.post ≡ true
    → known_with p q asked ≡ Some known → meets p.pre stacks ≡ true → follows p q stacks ≡ true
    → fits known (rests_in (wide p q) stacks) ≡ true
    → rests_of (drop (length asked) (filled p stacks).scopes) (rest_items q.pre.symbols (filled p stacks).symbols)
    ≡ rests_by (bound_by p q asked known) (beyond known (rests_in (wide p q) stacks))
second-rests p q asked known stacks good is h k fit =
    let met = known-meets p q asked known good is in
    let symbols_met = and_first (meets_items q.pre.symbols (map (fill_item known) (wide_post p q))) (begins asked (fill_scopes known p.post.scopes)) met in
    let scopes_met = and_second (meets_items q.pre.symbols (map (fill_item known) (wide_post p q))) (begins asked (fill_scopes known p.post.scopes)) met in
    same_rests _ _ _ _
    (ap (drop (length asked)) (wide-scopes p q stacks good (meets_symbols p stacks h))
    ∙ bound-scopes known (rests_in (wide p q) stacks) asked p.post.scopes fit scopes_met)
    (ap (rest_items q.pre.symbols) (wide-symbols p q stacks good (meets_symbols p stacks h) k)
    ∙ rest-enough q.pre.symbols (map (fill_item (rests_in (wide p q) stacks)) (wide_post p q)) (drop (length (wide_pre p q)) stacks.symbols)
    (enough-filled p q (rests_in (wide p q) stacks))
    ∙ bound-items known (rests_in (wide p q) stacks) q.pre.symbols (wide_post p q) fit symbols_met)

-- the symbols that the second path doesn't look at
second-left : (p q : Rule) (known : Rests) (stacks : Stacks) → good_post p.pre.symbols p.post ≡ true → meets p.pre stacks ≡ true → follows p q stacks ≡ true
    → fits known (rests_in (wide p q) stacks) ≡ true
    → drop (length q.pre.symbols) (filled p stacks).symbols
    ≡ map (fill_item (beyond known (rests_in (wide p q) stacks))) (map (grown_symbol known) (drop (length q.pre.symbols) (wide_post p q)))
    ++ drop (length (wide_pre p q)) stacks.symbols
second-left p q known stacks good h k fit =
    ap (drop (length q.pre.symbols)) (wide-symbols p q stacks good (meets_symbols p stacks h) k)
    ∙ drop-append-le (length q.pre.symbols) (map (fill_item (rests_in (wide p q) stacks)) (wide_post p q)) (drop (length (wide_pre p q)) stacks.symbols)
    (enough-filled p q (rests_in (wide p q) stacks))
    ∙ ap (λ (items : List SymbolItem). items ++ drop (length (wide_pre p q)) stacks.symbols)
    (drop-map (fill_item (rests_in (wide p q) stacks)) (length q.pre.symbols) (wide_post p q)
    ∙ sym (grown-symbols known (rests_in (wide p q) stacks) (drop (length q.pre.symbols) (wide_post p q)) fit))

-- filling the joined postcondition
fill-joined : (p q : Rule) (known : Rests) (bound : Bound) (rests : Rests) (left : List SymbolItem)
    → fill rests (joined_post p q known bound) left
    ≡ fill (rests_by bound rests) q.post (map (fill_item rests) (map (grown_symbol known) (drop (length q.pre.symbols) (wide_post p q))) ++ left)
fill-joined p q known bound rests left =
    let rest : List SymOut = map (grown_symbol known) (drop (length q.pre.symbols) (wide_post p q)) in
    let symbols : map (fill_item rests) (map (put_symbol bound) q.post.symbols ++ rest) ++ left ≡ map (fill_item (rests_by bound rests)) q.post.symbols ++ (map (fill_item rests) rest ++ left) =
    ap (λ (items : List SymbolItem). items ++ left) (map-append (fill_item rests) (map (put_symbol bound) q.post.symbols) rest
    ∙ ap (λ (items : List SymbolItem). items ++ map (fill_item rests) rest) (put-symbols bound rests q.post.symbols))
    ∙ append_assoc (map (fill_item (rests_by bound rests)) q.post.symbols) (map (fill_item rests) rest) left in
    let scopes : fill_scopes rests (put_scopes bound q.post.scopes) ≡ fill_scopes (rests_by bound rests) q.post.scopes = put-scopes bound rests q.post.scopes in
    λ i. record { symbols = symbols i; scopes = scopes i }

pub joined-makes : (p q : Rule) (asked : List NodeAt) (known : Rests) (stacks : Stacks) → good_post p.pre.symbols p.post ≡ true
    → known_with p q asked ≡ Some known → meets p.pre stacks ≡ true → follows p q stacks ≡ true
    → fits known (rests_in (wide p q) stacks) ≡ true
    → filled (joined_by p q known (bound_by p q asked known)) stacks ≡ filled_asked q asked (filled p stacks)
joined-makes p q asked known stacks good is h k fit =
    let suits = suits-known p q asked known (good-wide_post p q good) (good-wide_tail p q good) is in
    let rests : Rests = beyond known (rests_in (wide p q) stacks) in
    let bound : Bound = bound_by p q asked known in
    ap (λ (r : Rests). fill r (joined_post p q known bound) (drop (length (longer (wide p q) known).symbols) stacks.symbols))
    (rests-longer_pre (wide p q) known stacks suits)
    ∙ ap (λ (n : ℕ). fill rests (joined_post p q known bound) (drop n stacks.symbols)) (length-longer (wide_pre p q) known.items suits)
    ∙ fill-joined p q known bound rests (drop (length (wide_pre p q)) stacks.symbols)
    ∙ ap (fill (rests_by bound rests) q.post) (sym (second-left p q known stacks good h k fit))
    ∙ ap (λ (r : Rests). fill r q.post (drop (length q.pre.symbols) (filled p stacks).symbols)) (sym (second-rests p q asked known stacks good is h k fit))
