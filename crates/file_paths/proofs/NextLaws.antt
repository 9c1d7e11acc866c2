-- A path joined with that of an edge of the file: what the join is for the walk with the edge more, and how
-- long and how high it is.
use Rattle.std.proofs.Common.{◌≡◌, ◌≤◌, ◌+◌, ◌-◌, ℕ, List, [], ◌∷◌, ◌++◌, length, max, Bool, true, false, Option, Some, None, IfSome, IsSome, is_some, if◌then◌else◌, refl, sym, ap, ◌∙◌, subst, arith, length-append, append-nil, option_to_list}
use Rattle.std.specs.List.{AllByRecursion}
use Rattle.std.specs.Option.{option_map_or}
use Rattle.std.proofs.lemmas.Option.{IfSome_then}
use Rattle.graph_nodes.specs.Graph.{Graph}
use Rattle.partial_path.specs.declared.config.EdgeAt.{EdgeAt}
use Rattle.partial_path.specs.declared.config.Spot.{Spot}
use Rattle.partial_path.specs.declared.config.Config.{Config}
use Rattle.partial_path.specs.Rules.{Rule, IsRule}
use Rattle.partial_path.specs.Apply.{apply, end_at}
use Rattle.partial_path.specs.Walks.{alone, begin, highest, IsWalk}
use Rattle.partial_path.specs.PathSets.{IsRuleOf, walk_of_rule}
use Rattle.path_join.specs.Joins.{IsJoin, NonePasses, joined_peak}
use Rattle.path_join.specs.Extended.{IsExtended}
use Rattle.path_join.specs.Units.{after_source, edge_alone, place_spot}
use Rattle.file_paths.specs.Finding.{MayGoOn, IsLongerRule, IsShort, AddsFound}
use Rattle.list_facts.proofs.Each.{all_push}
use Rattle.file_paths.proofs.UnitLaws.{IsUnitOf}
use Rattle.file_paths.proofs.SourceLaws.{source_leaves}
use Rattle.path_join.proofs.MeetsLaws.{filled, passes, apply-passes}
use Rattle.path_join.proofs.HeightsLaws.{passes-length}
use Rattle.file_paths.proofs.JoinedLaws.{both_made, joined_walk_of, joined_is_rule, joined_is_walk, no_walk}

-- the path of an edge is its rule
pub unit_of : (g : Graph) (i : ℕ) (u : Rule) → after_source g i ≡ Some u.start → u.edges ≡ edge_alone i ∷ [] → IsRuleOf g u
    → (s : Spot) × IsUnitOf g i s u
unit_of g i u starts has exact =
    let k = source_leaves place_spot refl refl (λ n. refl) g i u.start starts in
    (k.0, record { leaves = k.2; start = k.1; edges = has; exact = exact })

next_rule : (g : Graph) (i : ℕ) (p u j : Rule) → MayGoOn g p → after_source g i ≡ Some u.start → u.edges ≡ edge_alone i ∷ [] → IsRuleOf g u → IsJoin p u j
    → IsLongerRule g (walk_of_rule p) i j
next_rule g i p u j may starts has exact join =
    let unit = unit_of g i u starts has exact in
    record {
      same = joined_walk_of g i unit.0 p u j unit.1 join;
      walk = joined_is_walk g i unit.0 p u j may.exact unit.1 join may.begins may.uncut may.on;
      exact = joined_is_rule g i unit.0 p u j may.exact unit.1 join;
    }

next_none : (g : Graph) (i : ℕ) (p u : Rule) → MayGoOn g p → after_source g i ≡ Some u.start → u.edges ≡ edge_alone i ∷ [] → IsRuleOf g u → NonePasses p u
    → ¬ IsWalk g p.start (p.edges ++ edge_alone i ∷ [])
next_none g i p u may starts has exact none walk =
    let unit = unit_of g i u starts has exact in no_walk g i unit.0 p u may.exact unit.1 none walk

join_low : (a b k l m n : ℕ) → m ≤ a → n ≤ b → a ≤ k + 1 → b ≤ 1 → max (a + (n - m)) (b + (m - n)) ≤ (k + 1) + 1
join_low a b k l m n hm hn ha hb = omega arith

post_low : (p : Rule) → IsRule p → length p.post.symbols ≤ p.peak
post_low p rule = let h = rule.peak in below (length p.pre.symbols) (length p.post.symbols) p.peak h
  where
    below : (m n k : ℕ) → max m n ≤ k → n ≤ k
    below m n k h = omega arith

longer_by_one : (limit k n : ℕ) → k ≤ limit → n ≡ k + 1 → n ≤ limit + 1
longer_by_one limit k n h e = omega arith

-- the join of a short path with that of an edge has one edge more, and is short
next_short : (limit i : ℕ) (p u j : Rule) → IsShort limit p → IsRule p → length u.pre.symbols ≤ u.peak → u.peak ≤ 1 → u.edges ≡ edge_alone i ∷ [] → IsJoin p u j
    → IsShort (limit + 1) j
next_short limit i p u j short rule asks low has join = record {
  edges = longer_by_one limit (length p.edges) (length j.edges) short.edges edges;
  peak = subst (λ (n : ℕ). n ≤ length j.edges + 1) (sym join.peak)
      (subst (λ (n : ℕ). joined_peak p u ≤ n + 1) (sym edges)
      (join_low p.peak u.peak (length p.edges) 0 (length p.post.symbols) (length u.pre.symbols) (post_low p rule) asks short.peak low));
}
  where
    edges : length j.edges ≡ length p.edges + 1
    edges =
        ap (λ (es : List EdgeAt). length es) join.edges
        ∙ (ap (λ (es : List EdgeAt). length (p.edges ++ es)) has ∙ length-append p.edges (edge_alone i ∷ []))

-- a rule that applies somewhere asks for no more symbols than its peak, where that is exact
asks_low : (g : Graph) (u : Rule) (d : Config) → IsRuleOf g u → IsSome (apply u d) → length u.pre.symbols ≤ u.peak
asks_low g u d exact some =
    below (length u.pre.symbols) (length d.stacks.symbols) u.peak (option_map_or (λ (first : Config). highest (alone g) first u.edges) (begin (alone g) u.start d) 0)
    (passes-length u d (some_if (passes u d) (end_at u.end (filled u d.stacks)) (apply u d) (apply-passes u d) some)) (exact.peak d some)
  where
    below : (m all peak rest : ℕ) → m ≤ all → (peak + all) - m ≡ max all rest → m ≤ peak
    below m all peak rest h e = omega arith

    some_if : (b : Bool) (o x : Option Config) → x ≡ (if b then o else None) → IsSome x → b ≡ true
    some_if true o x h k = refl
    some_if false o x h k = ap is_some (sym h) ∙ k

-- and so does the second of two that were joined
joined_asks : (g : Graph) (p u j : Rule) → IsRuleOf g u → IsJoin p u j → length u.pre.symbols ≤ u.peak
joined_asks g p u j exact join =
    let made = both_made p u (apply p join.passed.0) (subst (λ (o : Option Config). IsSome o) (join.applies join.passed.0) join.passed.1) in
    asks_low g u made.0 exact made.2

-- a path with an edge more is what its join with the edge's path is
module _ (g : Graph) (i : ℕ) (p : Rule) (found : Option Rule) (h : IsExtended g p i found) where
  pub extended_rule : MayGoOn g p → IfSome found (IsLongerRule g (walk_of_rule p) i)
  extended_rule may = IfSome_then found h.joined (λ j join. next_rule g i p h.step j may h.unit.start h.unit.edges h.unit.rule join)

  pub extended_none : MayGoOn g p → found ≡ None → ¬ IsWalk g p.start (p.edges ++ edge_alone i ∷ [])
  extended_none may none = next_none g i p h.step may h.unit.start h.unit.edges h.unit.rule (h.none none)

  pub extended_short : (limit : ℕ) → IsShort limit p → IsRule p → IfSome found (IsShort (limit + 1))
  extended_short limit short rule =
      IfSome_then found h.joined
      (λ j join. next_short limit i p h.step j short rule (joined_asks g p h.step j h.unit.rule join) h.unit.low h.unit.edges join)

  -- what is added where there is no such path, and where there is one
  pub adds_none : (old : List Rule) → MayGoOn g p → found ≡ None → AddsFound g (walk_of_rule p) i old old
  adds_none old may is = record {
    found = found;
    joined = extended_rule may;
    none = extended_none may;
    added = sym (ap (λ (o : Option Rule). old ++ option_to_list o) is ∙ append-nil old);
  }

  pub adds_some : (old new : List Rule) (j : Rule) → MayGoOn g p → found ≡ Some j → new ≡ old ++ j ∷ [] → AddsFound g (walk_of_rule p) i old new
  adds_some old new j may is added = record {
    found = found;
    joined = extended_rule may;
    none = extended_none may;
    added = added ∙ sym (ap (λ (o : Option Rule). old ++ option_to_list o) is);
  }

  pub adds_short : (limit : ℕ) (old new : List Rule) (j : Rule) → IsShort limit p → IsRule p → AllByRecursion (IsShort (limit + 1)) old
      → found ≡ Some j → new ≡ old ++ j ∷ [] → AllByRecursion (IsShort (limit + 1)) new
  adds_short limit old new j short rule all is added =
      subst (λ (ps : List Rule). AllByRecursion (IsShort (limit + 1)) ps) (sym added)
      (all_push (IsShort (limit + 1)) old j all (subst (λ (o : Option Rule). IfSome o (IsShort (limit + 1))) is (extended_short limit short rule)))

-- the path of an edge is short
pub unit_short : (limit i : ℕ) (u : Rule) → u.peak ≤ 1 → u.edges ≡ edge_alone i ∷ [] → IsShort (limit + 1) u
unit_short limit i u low has = record {
  edges = subst (λ (es : List EdgeAt). length es ≤ limit + 1) (sym has) (one limit);
  peak = subst (λ (es : List EdgeAt). u.peak ≤ length es + 1) (sym has) (two u.peak low);
}
  where
    one : (n : ℕ) → 1 ≤ n + 1
    one n = omega arith

    two : (n : ℕ) → n ≤ 1 → n ≤ 1 + 1
    two n h = omega arith
