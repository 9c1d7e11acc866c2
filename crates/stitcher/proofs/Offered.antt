-- What a look-up offers: stored paths that begin there, each once.
use Rattle.std.proofs.Common.{◌≡◌, ◌≢◌, ℕ, zero, suc, ◌+◌, true, List, [], ◌∷◌, map, Some, sym, refl, ap, ◌∙◌, subst, arith, filter, ◌⊎◌, inl, inr, All, slice_get}
use Rattle.std.specs.List.{AllByRecursion}
use Rattle.std.proofs.lemmas.Bool.{and_parts}
use Rattle.std.proofs.lemmas.List.Elements.{recursion_from_All}
use Rattle.stacks_vars.specs.declared.items.SymbolItem.{SymbolItem}
use Rattle.partial_path.specs.declared.rule.Start.{Start}
use Rattle.partial_path.specs.declared.rule.Start.TheVariants.{Before, After}
use Rattle.partial_path.specs.Runs.{IsApart}
use Rattle.partial_path.specs.Rules.{Rule}
use Rattle.partial_path.specs.Moved.{moved_start}
use Rattle.partial_path.specs.Starts.{start_eq}
use Rattle.partial_path.specs.Keys.{key}
use Rattle.partial_path.specs.PathSets.{FileRules, IsLandingRule, walk_of_rule}
use Rattle.partial_path.specs.Sources.{IsSourceFile, begins_in, stand_first, is_offered_in, numbered, rules_offered_in, rules_offered_after, rules_offered}
use Rattle.partial_path.specs.Cutting.{IsStoredIn}
use Rattle.list_facts.specs.Members.{IsIn}
use Rattle.list_facts.proofs.Members.{IsIn-append_cases, IsIn-map, IsIn-map_from, IsIn-filter_from, at_member, Contains-from_IsIn, IsIn-from_Contains}
use Rattle.list_facts.proofs.Apart.{IsApart-append, IsApart-filter, IsApart-map, absent, all_differ}
use Rattle.partial_path.proofs.Equals.{spot_eq-Decides}
use Rattle.stacks_vars.proofs.SameLaws.{node_eq-Decides}

start_same : (a b : Start) → start_eq a b ≡ true → a ≡ b
start_same (Before a) (Before b) t = ap Before ((node_eq-Decides a b).0 t)
start_same (Before a) (After b) t = cc
start_same (After a) (Before b) t = cc
start_same (After a) (After b) t = ap After ((spot_eq-Decides a b).0 t)

-- the file with that number among files of which the first has the other number
record IsOfThese (files : List FileRules) (first : ℕ) (start : Start) (symbols : List SymbolItem) (p : ℕ × Rule) : Type 0 where
  place : ℕ
  file : FileRules
  number : p.0 ≡ first + place
  there : slice_get files place ≡ Some file
  stored : IsIn p.1 file.rules
  begins : moved_start p.0 p.1.start ≡ start
  texts : stand_first (key p.1) symbols ≡ true

of_one : (first : ℕ) (f : FileRules) (start : Start) (symbols : List SymbolItem) (p : ℕ × Rule) → IsIn p (rules_offered_in first f start symbols)
    → (p.0 ≡ first) × IsIn p.1 f.rules × (moved_start p.0 p.1.start ≡ start) × (stand_first (key p.1) symbols ≡ true)
of_one first f start symbols p h =
    let m = IsIn-map_from (numbered first) p (filter (is_offered_in first start symbols) f.rules) h in
    let k = IsIn-filter_from (is_offered_in first start symbols) m.0 f.rules m.1 in
    let t = and_parts (begins_in first start m.0) (stand_first (key m.0) symbols) k.1 in
    let e : moved_start first m.0.start ≡ start = start_same (moved_start first m.0.start) start t.0 in (
      ap (λ (q : ℕ × Rule). q.0) (sym m.2),
      subst (λ (q : ℕ × Rule). IsIn q.1 f.rules) m.2 k.0,
      subst (λ (q : ℕ × Rule). moved_start q.0 q.1.start ≡ start) m.2 e,
      subst (λ (q : ℕ × Rule). stand_first (key q.1) symbols ≡ true) m.2 t.1,
    )

of_these : (files : List FileRules) (first : ℕ) (start : Start) (symbols : List SymbolItem) (p : ℕ × Rule) → IsIn p (rules_offered_after first files start symbols) → IsOfThese files first start symbols p
of_these [] first start symbols p h = absurd h
of_these (f ∷ files) first start symbols p h =
    by (λ g. of_these files (first + 1) start symbols p g)
    (IsIn-append_cases p (rules_offered_in first f start symbols) (rules_offered_after (first + 1) files start symbols) h)
  where
    by : (IsIn p (rules_offered_after (first + 1) files start symbols) → IsOfThese files (first + 1) start symbols p) → IsIn p (rules_offered_in first f start symbols) ⊎ IsIn p (rules_offered_after (first + 1) files start symbols) → IsOfThese (f ∷ files) first start symbols p
    by rest (inl g) =
        let o = of_one first f start symbols p g in
        record { place = 0; file = f; number = (let e : p.0 ≡ first = o.0 in omega arith); there = refl; stored = o.1; begins = o.2; texts = o.3 }
    by rest (inr g) =
        let o = rest g in
        record { place = suc o.place; file = o.file; number = (let e : p.0 ≡ (first + 1) + o.place = o.number in omega arith); there = o.there; stored = o.stored; begins = o.begins; texts = o.texts }

-- what is offered is stored, begins there, and asks first for the texts of the symbols
pub offered_stored : (files : List FileRules) (start : Start) (symbols : List SymbolItem) (p : ℕ × Rule) → IsIn p (rules_offered files start symbols)
    → IsStoredIn files p × (moved_start p.0 p.1.start ≡ start) × (stand_first (key p.1) symbols ≡ true)
offered_stored files start symbols p h =
    let o = of_these files 0 start symbols p h in
    let from_zero : p.0 ≡ 0 + o.place = o.number in
    let number : p.0 ≡ o.place = omega arith in (
      (o.file, ap (slice_get files) number ∙ o.there, Contains-from_IsIn o.file.rules p.1 o.stored),
      o.begins,
      o.texts,
    )

apart_from_map : {X Y : Type 0} (f : X → Y) (xs : List X) → IsApart (map f xs) → IsApart xs
apart_from_map f [] h = tt
apart_from_map {X} f (x ∷ xs) h = (
  all_differ x xs (λ g. absent (f x) (map f xs) h.0 (IsIn-map f x xs g)),
  apart_from_map f xs h.1,
)

same_rule : (first : ℕ) (a b : Rule) → numbered first a ≡ numbered first b → a ≡ b
same_rule first a b e = ap (λ (q : ℕ × Rule). q.1) e

apart_after : (files : List FileRules) (first : ℕ) (start : Start) (symbols : List SymbolItem) → AllByRecursion IsSourceFile files → IsApart (rules_offered_after first files start symbols)
apart_after [] first start symbols sources = tt
apart_after (f ∷ files) first start symbols sources =
    IsApart-append (rules_offered_in first f start symbols) (rules_offered_after (first + 1) files start symbols)
    (IsApart-map (numbered first) (same_rule first) (filter (is_offered_in first start symbols) f.rules)
    (IsApart-filter (is_offered_in first start symbols) f.rules (apart_from_map walk_of_rule f.rules sources.0.sets.rules.once)))
    (apart_after files (first + 1) start symbols sources.1)
    (λ p g h.
    let one : p.0 ≡ first = (of_one first f start symbols p g).0 in
    let o = of_these files (first + 1) start symbols p h in
    let two : p.0 ≡ (first + 1) + o.place = o.number in
    omega arith)

-- nothing is offered twice
pub apart_offered : (files : List FileRules) (start : Start) (symbols : List SymbolItem) → All IsSourceFile files → IsApart (rules_offered files start symbols)
apart_offered files start symbols sources = apart_after files 0 start symbols (recursion_from_All IsSourceFile files sources)

pub source_at : (files : List FileRules) (k : ℕ) (f : FileRules) → AllByRecursion IsSourceFile files → slice_get files k ≡ Some f → IsSourceFile f
source_at [] k f sources h = cc
source_at (g ∷ files) zero f sources h = subst IsSourceFile (let e : Some g ≡ Some f = h in cc) sources.0
source_at (g ∷ files) (suc k) f sources h = source_at files k f sources.1 h

-- a stored path has an edge
pub stored_nonempty : (files : List FileRules) (p : ℕ × Rule) → All IsSourceFile files → IsStoredIn files p → p.1.edges ≢ []
stored_nonempty files p sources h =
    let source = source_at files p.0 h.0 (recursion_from_All IsSourceFile files sources) h.1 in
    (at_member (IsLandingRule h.0.graph) p.1 h.0.rules source.sets.rules.sound (IsIn-from_Contains h.0.rules p.1 h.2)).lands.walk.nonempty
