-- Applying the joined path is applying both; and where there is none, nothing passes both.
use Rattle.std.proofs.Common.{◌≡◌, List, [], ◌∷◌, ◌++◌, Bool, true, false, ◌&&◌, Option, Some, None, if◌then◌else◌, refl, sym, ap, ◌∙◌, option_and_then}
use Rattle.std.specs.Option.{option_map_or}
use Rattle.std.proofs.lemmas.Option.{option_and_then_some}
use Rattle.stacks_vars.specs.declared.scopes.NodeAt.{NodeAt}
use Rattle.stacks_vars.specs.declared.stacks.Stacks.{Stacks}
use Rattle.stacks_vars.specs.declared.items.SymbolItem.{SymbolItem}
use Rattle.stacks_vars.specs.declared.patterns.Tail.{Tail}
use Rattle.stacks_vars.specs.declared.patterns.Tail.TheVariants.{Nil, Front, Item}
use Rattle.stacks_vars.specs.Enter.{stacks_of}
use Rattle.partial_path.specs.declared.config.Config.{Config}
use Rattle.partial_path.specs.declared.rule.End.{End}
use Rattle.partial_path.specs.declared.rule.End.TheVariants.{At, ByStack}
use Rattle.partial_path.specs.Same.{spot_eq}
use Rattle.partial_path.specs.Rules.{Rule, start_spot}
use Rattle.partial_path.specs.Apply.{Rests, tail_scopes, end_at, apply}
use Rattle.path_join.specs.Joins.{apply_both, NonePasses}
use Rattle.path_join.specs.Joining.{asked_scopes, known_with, bound_by, joined_by, can_end, if_ends, join_rules}
use Rattle.path_join.proofs.AndLaws.{and_false, and_first, and_second, if_where}
use Rattle.path_join.proofs.FitsLaws.{fits}
use Rattle.path_join.proofs.MeetsLaws.{meets, rests_in, filled, passes, apply-passes}
use Rattle.path_join.proofs.GoodLaws.{good_post}
use Rattle.path_join.proofs.KnownLaws.{fits_some}
use Rattle.path_join.proofs.KeptLaws.{suits-known}
use Rattle.path_join.proofs.LongerLaws.{meets-longer_pre}
use Rattle.path_join.proofs.WidenedLaws.{wide, good-wide_post, good-wide_tail}
use Rattle.path_join.proofs.EndsLaws.{meets_asked, filled_asked, second, apply_both-second}
use Rattle.path_join.proofs.PassesLaws.{follows, meets-wide, passes_both}
use Rattle.path_join.proofs.MakesLaws.{joined-makes}

-- what the second path asks for where it starts at the end of the first
abbrev pub asked_by : Rule → Rule → Option (List NodeAt)
asked_by p q = asked_scopes p.end (start_spot q.start) q.pre.scopes.fixed

-- the path that is the join where it can end
abbrev pub the_join : Rule → Rule → List NodeAt → Rests → Rule
the_join p q asked known = joined_by p q known (bound_by p q asked known)

if_nested : (a b c : Bool) (x : Option Config) → (if a && b then (if c then x else None) else None) ≡ (if a && (b && c) then x else None)
if_nested true true c x = refl
if_nested true false c x = refl
if_nested false b c x = refl

-- both paths applied, as one test and what they make
pub both-asked : (p q : Rule) (asked : List NodeAt) (c : Config) → asked_by p q ≡ Some asked
    → apply_both p q c
    ≡ (if spot_eq (start_spot p.start) c.spot && (meets p.pre c.stacks && meets_asked q asked (filled p c.stacks)) then end_at q.end (filled_asked q asked (filled p c.stacks)) else None)
both-asked p q asked c asks =
    apply_both-second p q c
    ∙ ap (λ (o : Option (List NodeAt)). if passes p c then option_map_or (second q (filled p c.stacks)) o None else None) asks
    ∙ if_nested (spot_eq (start_spot p.start) c.spot) (meets p.pre c.stacks) (meets_asked q asked (filled p c.stacks)) (end_at q.end (filled_asked q asked (filled p c.stacks)))

-- which configurations pass the joined path
joined-passes : (p q : Rule) (asked : List NodeAt) (known : Rests) (stacks : Stacks) → good_post p.pre.symbols p.post ≡ true
    → known_with p q asked ≡ Some known
    → meets (the_join p q asked known).pre stacks ≡ (meets (wide p q) stacks && fits known (rests_in (wide p q) stacks))
joined-passes p q asked known stacks good is =
    meets-longer_pre (wide p q) known stacks (suits-known p q asked known (good-wide_post p q good) (good-wide_tail p q good) is)

both-pass : (p q : Rule) (asked : List NodeAt) (known : Rests) (stacks : Stacks) → good_post p.pre.symbols p.post ≡ true
    → known_with p q asked ≡ Some known
    → (meets p.pre stacks && meets_asked q asked (filled p stacks)) ≡ (meets (wide p q) stacks && fits known (rests_in (wide p q) stacks))
both-pass p q asked known stacks good is =
    passes_both p q asked stacks good ∙ ap (λ (o : Option Rests). meets (wide p q) stacks && fits_some (rests_in (wide p q) stacks) o) is

pub joined-applies : (p q : Rule) (asked : List NodeAt) (known : Rests) (c : Config) → good_post p.pre.symbols p.post ≡ true
    → asked_by p q ≡ Some asked → known_with p q asked ≡ Some known → apply (the_join p q asked known) c ≡ apply_both p q c
joined-applies p q asked known c good asks is =
    let spot : Bool = spot_eq (start_spot p.start) c.spot in
    let test : Bool = meets (wide p q) c.stacks && fits known (rests_in (wide p q) c.stacks) in
    apply-passes (the_join p q asked known) c
    ∙ ap (λ (b : Bool). if spot && b then end_at q.end (filled (the_join p q asked known) c.stacks) else None)
    (joined-passes p q asked known c.stacks good is)
    ∙ if_where (spot && test) (end_at q.end (filled (the_join p q asked known) c.stacks)) (end_at q.end (filled_asked q asked (filled p c.stacks))) None
    (λ (h : (spot && test) ≡ true).
    let met : (meets (wide p q) c.stacks && fits known (rests_in (wide p q) c.stacks)) ≡ true = and_second spot test h in
    let both : (meets p.pre c.stacks && follows p q c.stacks) ≡ true =
    sym (meets-wide p q c.stacks) ∙ and_first (meets (wide p q) c.stacks) (fits known (rests_in (wide p q) c.stacks)) met in
    ap (end_at q.end)
    (joined-makes p q asked known c.stacks good is (and_first (meets p.pre c.stacks) (follows p q c.stacks) both)
    (and_second (meets p.pre c.stacks) (follows p q c.stacks) both)
    (and_second (meets (wide p q) c.stacks) (fits known (rests_in (wide p q) c.stacks)) met)))
    ∙ ap (λ (b : Bool). if spot && b then end_at q.end (filled_asked q asked (filled p c.stacks)) else None)
    (sym (both-pass p q asked known c.stacks good is))
    ∙ sym (both-asked p q asked c asks)

-- Where there is no join.

never_if : (a : Bool) (x : Option Config) → x ≡ None → (if a then x else None) ≡ None
never_if true x h = h
never_if false x h = refl

never_of : (a : Bool) (x : Option Config) → a ≡ false → (if a then x else None) ≡ None
never_of a x h = rw h refl

-- the second path doesn't start where the first ends
never-asked : (p q : Rule) → asked_by p q ≡ None → NonePasses p q
never-asked p q asks c =
    apply_both-second p q c
    ∙ ap (λ (o : Option (List NodeAt)). if passes p c then option_map_or (second q (filled p c.stacks)) o None else None) asks
    ∙ never_if (passes p c) None refl

-- no variables of the first path meet what the second asks for
never-known : (p q : Rule) (asked : List NodeAt) → good_post p.pre.symbols p.post ≡ true → asked_by p q ≡ Some asked → known_with p q asked ≡ None
    → NonePasses p q
never-known p q asked good asks is c =
    both-asked p q asked c asks
    ∙ never_of (spot_eq (start_spot p.start) c.spot && (meets p.pre c.stacks && meets_asked q asked (filled p c.stacks))) _
    (ap (λ (b : Bool). spot_eq (start_spot p.start) c.spot && b)
    (passes_both p q asked c.stacks good ∙ ap (λ (o : Option Rests). meets (wide p q) c.stacks && fits_some (rests_in (wide p q) c.stacks) o) is
    ∙ and_false (meets (wide p q) c.stacks))
    ∙ and_false (spot_eq (start_spot p.start) c.spot))

-- the path ends by the stack, and leaves no scope
no_end : (end : End) (symbols : List SymbolItem) (scopes : List NodeAt) (tail : Tail) (rests : Rests)
    → can_end end (record { scopes = scopes; tail = tail }) ≡ false
    → end_at end (stacks_of symbols (scopes ++ tail_scopes rests tail)) ≡ None
no_end (At spot) symbols scopes tail rests h = cc
no_end ByStack symbols (s ∷ scopes) tail rests h = cc
no_end ByStack symbols [] Nil rests h = refl
no_end ByStack symbols [] Front rests h = cc
no_end ByStack symbols [] (Item i) rests h = cc

never-ends : (p q : Rule) (asked : List NodeAt) (known : Rests) → good_post p.pre.symbols p.post ≡ true → asked_by p q ≡ Some asked
    → known_with p q asked ≡ Some known → can_end q.end (the_join p q asked known).post.scopes ≡ false → NonePasses p q
never-ends p q asked known good asks is ends c =
    let j : Rule = the_join p q asked known in
    sym (joined-applies p q asked known c good asks is)
    ∙ apply-passes j c
    ∙ never_if (passes j c) _ (no_end q.end (filled j c.stacks).symbols j.post.scopes.scopes j.post.scopes.tail (rests_in j.pre c.stacks) ends)

ends_not : (b : Bool) (j : Rule) → (if b then Some j else None) ≡ None → b ≡ false
ends_not true j h = cc
ends_not false j h = refl

never-if_known : (p q : Rule) (asked : List NodeAt) → good_post p.pre.symbols p.post ≡ true → asked_by p q ≡ Some asked
    → (o : Option Rests) → known_with p q asked ≡ o → option_and_then (λ (known : Rests). if_ends (the_join p q asked known)) o ≡ None → NonePasses p q
never-if_known p q asked good asks None is none = never-known p q asked good asks is
never-if_known p q asked good asks (Some known) is none =
    never-ends p q asked known good asks is (ends_not (can_end q.end (the_join p q asked known).post.scopes) (the_join p q asked known) none)

never-if_asked : (p q : Rule) → good_post p.pre.symbols p.post ≡ true → (o : Option (List NodeAt)) → asked_by p q ≡ o
    → option_and_then (λ (asked : List NodeAt). option_and_then (λ (known : Rests). if_ends (the_join p q asked known)) (known_with p q asked)) o ≡ None
    → NonePasses p q
never-if_asked p q good None asks none = never-asked p q asks
never-if_asked p q good (Some asked) asks none = never-if_known p q asked good asks (known_with p q asked) refl none

pub no-join : (p q : Rule) → good_post p.pre.symbols p.post ≡ true → join_rules p q ≡ None → NonePasses p q
no-join p q good none = never-if_asked p q good (asked_by p q) refl none

-- how a join is made
pub record IsMade (p : Rule) (q : Rule) (j : Rule) : Type 0 where
  pub asked : List NodeAt
  pub known : Rests
  pub asks : asked_by p q ≡ Some asked
  pub knows : known_with p q asked ≡ Some known
  pub ends : can_end q.end (the_join p q asked known).post.scopes ≡ true
  pub is : the_join p q asked known ≡ j

ends_where : (b : Bool) (i j : Rule) → (if b then Some i else None) ≡ Some j → (b ≡ true) × (i ≡ j)
ends_where true i j h = (refl, cc)
ends_where false i j h = cc

pub made : (p q j : Rule) → join_rules p q ≡ Some j → IsMade p q j
made p q j h =
    option_and_then_some _ (asked_by p q) j h (λ (asked : List NodeAt) (asks : asked_by p q ≡ Some asked) (rest : _).
    option_and_then_some _ (known_with p q asked) j rest (λ (known : Rests) (knows : known_with p q asked ≡ Some known) (last : _).
    let parts = ends_where (can_end q.end (the_join p q asked known).post.scopes) (the_join p q asked known) j last in
    record { asked = asked; known = known; asks = asks; knows = knows; ends = parts.0; is = parts.1 }))
