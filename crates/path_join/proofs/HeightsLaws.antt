-- The height of the joined path is the greater of the heights of the two.
use Rattle.std.proofs.Common.{◌≡◌, ◌≤◌, ◌+◌, ◌-◌, ℕ, List, [], ◌∷◌, length, map, max, Bool, true, false, Option, Some, None, IsSome, is_some, if◌then◌else◌, refl, sym, ap, ◌∙◌, arith, length-append, length-drop}
use Rattle.std.proofs.lemmas.List.{length-map}
use Rattle.std.proofs.lemmas.Option.{same_Some}
use Rattle.stacks_vars.specs.declared.scopes.NodeAt.{NodeAt}
use Rattle.stacks_vars.specs.declared.items.SymbolItem.{SymbolItem}
use Rattle.stacks_vars.specs.declared.stacks.Stacks.{Stacks}
use Rattle.stacks_vars.specs.Enter.{stacks_of}
use Rattle.partial_path.specs.declared.config.Config.{Config}
use Rattle.partial_path.specs.declared.rule.End.{End}
use Rattle.partial_path.specs.declared.rule.End.TheVariants.{At, ByStack}
use Rattle.partial_path.specs.Same.{spot_eq}
use Rattle.partial_path.specs.Rules.{Rule, start_spot}
use Rattle.partial_path.specs.Apply.{Rests, fill_item, end_at, apply, height}
use Rattle.path_join.specs.Joins.{joined_peak}
use Rattle.path_join.specs.Joining.{known_with, wide_pre}
use Rattle.path_join.proofs.AndLaws.{and_second}
use Rattle.path_join.proofs.BeginsLaws.{begins}
use Rattle.path_join.proofs.MeetsLaws.{meets, meets_items, rests_in, filled, passes, apply-passes}
use Rattle.path_join.proofs.ItemsLaws.{meets-length}
use Rattle.path_join.proofs.GoodLaws.{good_post}
use Rattle.path_join.proofs.LongerLaws.{length-longer}
use Rattle.path_join.proofs.KeptLaws.{suits-known}
use Rattle.path_join.proofs.WidenedLaws.{left_by, good-wide_post, good-wide_tail}
use Rattle.path_join.proofs.LengthsLaws.{length-wide_pre}
use Rattle.path_join.proofs.AppliesLaws.{the_join}

passed_if : (a : Bool) (o : Option Config) (d : Config) → (if a then o else None) ≡ Some d → (a ≡ true) × (o ≡ Some d)
passed_if true o d h = (refl, h)
passed_if false o d h = cc

some_if : (a : Bool) (o x : Option Config) → x ≡ (if a then o else None) → IsSome x → a ≡ true
some_if true o x h k = refl
some_if false o x h k = ap is_some (sym h) ∙ k

symbols_of : (c d : Config) → Some c ≡ Some d → d.stacks.symbols ≡ c.stacks.symbols
symbols_of c d h = ap (λ (x : Config). x.stacks.symbols) (sym (same_Some c d h))

-- where a path ends, the symbols stay
end-symbols : (end : End) (symbols : List SymbolItem) (scopes : List NodeAt) (d : Config) → end_at end (stacks_of symbols scopes) ≡ Some d
    → d.stacks.symbols ≡ symbols
end-symbols (At spot) symbols scopes d h = symbols_of _ d h
end-symbols ByStack symbols [] d h = cc
end-symbols ByStack symbols (scope ∷ rest) d h = symbols_of _ d h

-- what is passed asks for no more symbols than there are
pub passes-length : (rule : Rule) (c : Config) → passes rule c ≡ true → length rule.pre.symbols ≤ length c.stacks.symbols
passes-length rule c h =
    meets-length rule.pre.symbols c.stacks.symbols
    (and_second (begins rule.pre.scopes.fixed c.stacks.scopes) (meets_items rule.pre.symbols c.stacks.symbols)
    (and_second (spot_eq (start_spot rule.start) c.spot) (meets rule.pre c.stacks) h))

filled-length : (p : Rule) (stacks : Stacks) → length (filled p stacks).symbols ≡ length p.post.symbols + (length stacks.symbols - length p.pre.symbols)
filled-length p stacks =
    length-append (map (fill_item (rests_in p.pre stacks)) p.post.symbols) (left_by p stacks)
    ∙ ap (λ (n : ℕ). n + length (left_by p stacks)) (length-map p.post.symbols (fill_item (rests_in p.pre stacks)))
    ∙ ap (λ (n : ℕ). length p.post.symbols + n) (length-drop (length p.pre.symbols) stacks.symbols)

-- a is how many symbols the first path asks for, b how many it makes, e how many the second asks for
heights : (peak other a b e all : ℕ) → a ≤ all → e ≤ b + (all - a)
    → (max (peak + (e - b)) (other + (b - e)) + all) - (a + (e - b)) ≡ max ((peak + all) - a) ((other + (b + (all - a))) - e)
heights peak other a b e all h k = omega arith

pub joined-high : (p q : Rule) (asked : List NodeAt) (known : Rests) → good_post p.pre.symbols p.post ≡ true → known_with p q asked ≡ Some known
    → (c d : Config) → apply p c ≡ Some d → IsSome (apply q d) → height (the_join p q asked known) c ≡ max (height p c) (height q d)
joined-high p q asked known good is c d first rest =
    let one = passed_if (passes p c) (end_at p.end (filled p c.stacks)) d (sym (apply-passes p c) ∙ first) in
    let ends = end-symbols p.end (filled p c.stacks).symbols (filled p c.stacks).scopes d one.1 in
    let enough : length p.pre.symbols ≤ length c.stacks.symbols = passes-length p c one.0 in
    let more : length q.pre.symbols ≤ length d.stacks.symbols = passes-length q d (some_if (passes q d) (end_at q.end (filled q d.stacks)) (apply q d) (apply-passes q d) rest) in
    let total : length d.stacks.symbols ≡ length p.post.symbols + (length c.stacks.symbols - length p.pre.symbols) =
    ap length ends ∙ filled-length p c.stacks in
    let asks : length (the_join p q asked known).pre.symbols ≡ length p.pre.symbols + (length q.pre.symbols - length p.post.symbols) =
    length-longer (wide_pre p q) known.items (suits-known p q asked known (good-wide_post p q good) (good-wide_tail p q good) is) ∙ length-wide_pre p q in
    ap (λ (n : ℕ). (joined_peak p q + length c.stacks.symbols) - n) asks
    ∙ heights p.peak q.peak (length p.pre.symbols) (length p.post.symbols) (length q.pre.symbols) (length c.stacks.symbols) enough (omega arith)
    ∙ ap (λ (n : ℕ). max (height p c) ((q.peak + n) - length q.pre.symbols)) (sym total)
