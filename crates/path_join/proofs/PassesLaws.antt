-- A configuration passes both paths exactly where its variables fit what is known at the end.
use Rattle.std.proofs.Common.{◌≡◌, ℕ, List, length, map, drop, Bool, true, false, ◌&&◌, refl, sym, ap, ◌∙◌, true≢false}
use Rattle.std.proofs.lemmas.List.{length-map}
use Rattle.stacks_vars.specs.declared.scopes.NodeAt.{NodeAt}
use Rattle.stacks_vars.specs.declared.stacks.Stacks.{Stacks}
use Rattle.partial_path.specs.Rules.{Rule}
use Rattle.partial_path.specs.Apply.{fill_scopes, fill_item}
use Rattle.path_join.specs.Joining.{asked_symbols, known_with, wide_pre, wide_post}
use Rattle.path_join.proofs.AndLaws.{and_assoc, and_comm, and_false, and_both, and_second}
use Rattle.path_join.proofs.BeginsLaws.{begins}
use Rattle.path_join.proofs.MeetsLaws.{meets, meets_items, rests_in, filled}
use Rattle.path_join.proofs.ItemsLaws.{meets-append, meets-enough, meets-past, length-rest}
use Rattle.path_join.proofs.GoodLaws.{good_post}
use Rattle.path_join.proofs.KnownLaws.{fits_some, fits-known}
use Rattle.path_join.proofs.WidenedLaws.{wide, left_by, good-wide_post, good-wide_tail, wide-scopes, wide-symbols}
use Rattle.path_join.proofs.LengthsLaws.{enough-filled}
use Rattle.path_join.proofs.EndsLaws.{meets_asked}

-- whether what the second path wants besides follows
abbrev pub follows : Rule → Rule → Stacks → Bool
follows p q stacks = meets_items (asked_symbols p q) (left_by p stacks)

pub meets-wide : (p q : Rule) (stacks : Stacks) → meets (wide p q) stacks ≡ (meets p.pre stacks && follows p q stacks)
meets-wide p q stacks =
    ap (λ (b : Bool). begins p.pre.scopes.fixed stacks.scopes && b) (meets-append p.pre.symbols (asked_symbols p q) stacks.symbols)
    ∙ sym (and_assoc (begins p.pre.scopes.fixed stacks.scopes) (meets_items p.pre.symbols stacks.symbols) (follows p q stacks))

-- both met, the first path's symbols are
pub meets_symbols : (p : Rule) (stacks : Stacks) → meets p.pre stacks ≡ true → meets_items p.pre.symbols stacks.symbols ≡ true
meets_symbols p stacks h = and_second (begins p.pre.scopes.fixed stacks.scopes) (meets_items p.pre.symbols stacks.symbols) h

-- there is a list for each symbol that is asked for
pub wide-all : (p q : Rule) (stacks : Stacks) → meets p.pre stacks ≡ true → follows p q stacks ≡ true
    → length (rests_in (wide p q) stacks).items ≡ length (wide_pre p q)
wide-all p q stacks h k =
    length-rest (wide_pre p q) stacks.symbols
    (meets-append p.pre.symbols (asked_symbols p q) stacks.symbols
    ∙ and_both (meets_items p.pre.symbols stacks.symbols) (follows p q stacks) (meets_symbols p stacks h) k)

-- the second path's symbols are met by what all outputs make
second-symbols : (p q : Rule) (stacks : Stacks) → good_post p.pre.symbols p.post ≡ true → meets p.pre stacks ≡ true → follows p q stacks ≡ true
    → meets_items q.pre.symbols (filled p stacks).symbols ≡ meets_items q.pre.symbols (map (fill_item (rests_in (wide p q) stacks)) (wide_post p q))
second-symbols p q stacks good h k =
    ap (meets_items q.pre.symbols) (wide-symbols p q stacks good (meets_symbols p stacks h) k)
    ∙ meets-enough q.pre.symbols (map (fill_item (rests_in (wide p q) stacks)) (wide_post p q)) (drop (length (wide_pre p q)) stacks.symbols)
    (enough-filled p q (rests_in (wide p q) stacks))

-- where the second path's symbols are met, what it wants besides follows
second-follows : (p q : Rule) (stacks : Stacks) → meets_items q.pre.symbols (filled p stacks).symbols ≡ true → follows p q stacks ≡ true
second-follows p q stacks h =
    ap (λ (n : ℕ). meets_items (drop n q.pre.symbols) (left_by p stacks)) (sym (length-map p.post.symbols (fill_item (rests_in p.pre stacks))))
    ∙ meets-past q.pre.symbols (map (fill_item (rests_in p.pre stacks)) p.post.symbols) (left_by p stacks) h

-- two ways to test the same
same_test : (x w f m k : Bool) → (m ≡ true → w ≡ true) → (x ≡ true → w ≡ true → k ≡ (m && f)) → (x && (f && m)) ≡ ((x && w) && k)
same_test false w f m k h same = refl
same_test true true f m k h same = and_comm f m ∙ sym (same refl refl)
same_test true false f true k h same = absurd (true≢false (sym (h refl)))
same_test true false f false k h same = and_false f

pub passes_both : (p q : Rule) (asked : List NodeAt) (stacks : Stacks) → good_post p.pre.symbols p.post ≡ true
    → (meets p.pre stacks && meets_asked q asked (filled p stacks))
    ≡ (meets (wide p q) stacks && fits_some (rests_in (wide p q) stacks) (known_with p q asked))
passes_both p q asked stacks good =
    same_test (meets p.pre stacks) (follows p q stacks) (begins asked (filled p stacks).scopes) (meets_items q.pre.symbols (filled p stacks).symbols)
    (fits_some (rests_in (wide p q) stacks) (known_with p q asked)) (second-follows p q stacks)
    (λ (h : meets p.pre stacks ≡ true) (k : follows p q stacks ≡ true).
    let symbols = second-symbols p q stacks good h k in
    let scopes = wide-scopes p q stacks good (meets_symbols p stacks h) in
    fits-known p q asked (rests_in (wide p q) stacks) (wide-all p q stacks h k) (good-wide_post p q good) (good-wide_tail p q good)
    ∙ ap (λ (b : Bool). b && begins asked (fill_scopes (rests_in (wide p q) stacks) p.post.scopes)) (sym symbols)
    ∙ ap (λ (s : List NodeAt). meets_items q.pre.symbols (filled p stacks).symbols && begins asked s) (sym scopes))
    ∙ ap (λ (b : Bool). b && fits_some (rests_in (wide p q) stacks) (known_with p q asked)) (sym (meets-wide p q stacks))
