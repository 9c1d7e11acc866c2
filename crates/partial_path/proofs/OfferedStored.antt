-- What is offered at a start are stored paths that begin there.
use Rattle.std.proofs.Common.{◌≡◌, refl, ap, ◌∙◌, subst, ℕ, suc, ◌+◌, List, [], ◌∷◌, true, Some, arith, eqb, eqb-true, ◌⊎◌, inl, inr}
use Rattle.std.specs.Prelude.{filter, slice_get, Contains}
use Rattle.std.proofs.lemmas.Bool.{false≢true, and_parts}
use Rattle.std.proofs.lemmas.List.Elements.{All-filter, All-contains, All-contains_itself, filter_passes, Contains-append_cases}
use Rattle.stacks_vars.specs.declared.scopes.NodeAt.{NodeAt}
use Rattle.stacks_vars.specs.declared.items.SymbolItem.{SymbolItem}
use Rattle.stacks_vars.specs.Same.{node_eq}
use Rattle.partial_path.specs.declared.config.Spot.TheVariants as spot
use Rattle.partial_path.specs.declared.rule.Start.{Start}
use Rattle.partial_path.specs.declared.rule.Start.TheVariants.{Before, After}
use Rattle.partial_path.specs.Rules.{Rule}
use Rattle.partial_path.specs.Moved.{moved_start}
use Rattle.partial_path.specs.Starts.{start_eq}
use Rattle.partial_path.specs.Keys.{key}
use Rattle.partial_path.specs.PathSets.{FileRules}
use Rattle.partial_path.specs.Sources.{numbered, stand_first, begins_in, is_offered_in, rules_offered_in, rules_offered_after}
use Rattle.partial_path.specs.Laws.{OfferedRulesAreStored}
use Rattle.partial_path.proofs.CutRuns.{image_of}

node_is : (a b : NodeAt) → node_eq a b ≡ true → a ≡ b
node_is a b t =
    let parts = and_parts (eqb a.file b.file) (eqb a.node b.node) t in
    λ i. record { file = eqb-true a.file b.file parts.0 i; node = eqb-true a.node b.node parts.1 i }

pub start_is : (a b : Start) → start_eq a b ≡ true → a ≡ b
start_is (Before a) (Before b) t = ap Before (node_is a b t)
start_is (Before a) (After b) t = absurd (false≢true t)
start_is (After a) (Before b) t = absurd (false≢true t)
start_is (After spot.Root) (After spot.Root) t = refl
start_is (After spot.Root) (After (spot.At b)) t = absurd (false≢true t)
start_is (After (spot.At a)) (After spot.Root) t = absurd (false≢true t)
start_is (After (spot.At a)) (After (spot.At b)) t = ap (λ (n : NodeAt). After (spot.At n)) (node_is a b t)

-- the path is of the file so many places behind the first of these, and begins at the start
abbrev IsOfFiles : ℕ → List FileRules → Start → ℕ × Rule → Type 0
IsOfFiles m files start p =
    (n : ℕ) × (p.0 ≡ m + n) × (f : FileRules) × (slice_get files n ≡ Some f) × Contains f.rules p.1 × (moved_start p.0 p.1.start ≡ start)

offered_in : (m : ℕ) (f : FileRules) (files : List FileRules) (start : Start) (symbols : List SymbolItem) (p : ℕ × Rule) → Contains (rules_offered_in m f start symbols) p
    → IsOfFiles m (f ∷ files) start p
offered_in m f files start symbols p found =
    let kept = filter (is_offered_in m start symbols) f.rules in
    let (rule, there, same) = image_of (numbered m) kept p found.0 found.1 found.2 in
    let stored : Contains f.rules rule = All-contains (Contains f.rules) kept rule (All-filter (is_offered_in m start symbols) (Contains f.rules) f.rules (All-contains_itself f.rules)) there in
    let passes : is_offered_in m start symbols rule ≡ true =
    All-contains (λ (x : Rule). is_offered_in m start symbols x ≡ true) kept rule (filter_passes (is_offered_in m start symbols) f.rules) there in
    let begins = start_is (moved_start m rule.start) start (and_parts (begins_in m start rule) (stand_first (key rule) symbols) passes).0 in
    subst (IsOfFiles m (f ∷ files) start) same (0, omega arith, f, refl, stored, begins)

further_file : (m : ℕ) (f : FileRules) (files : List FileRules) (start : Start) (p : ℕ × Rule) → IsOfFiles (m + 1) files start p → IsOfFiles m (f ∷ files) start p
further_file m f files start p (n, is, g, there, stored, begins) = (suc n, omega (arith, is), g, there, stored, begins)

offered_after : (m : ℕ) (files : List FileRules) (start : Start) (symbols : List SymbolItem) (p : ℕ × Rule) → Contains (rules_offered_after m files start symbols) p → IsOfFiles m files start p
offered_after m [] start symbols p found = absurd (omega (arith, found.1))
offered_after m (f ∷ files) start symbols p found =
    by (Contains-append_cases (rules_offered_in m f start symbols) (rules_offered_after (m + 1) files start symbols) p found) (λ h. offered_after (m + 1) files start symbols p h)
  where
    by : Contains (rules_offered_in m f start symbols) p ⊎ Contains (rules_offered_after (m + 1) files start symbols) p
        → (Contains (rules_offered_after (m + 1) files start symbols) p → IsOfFiles (m + 1) files start p) → IsOfFiles m (f ∷ files) start p
    by (inl h) on = offered_in m f files start symbols p h
    by (inr h) on = further_file m f files start p (on h)

pub offered_rules_are_stored : OfferedRulesAreStored
offered_rules_are_stored files start symbols p found =
    let (n, is, f, there, stored, begins) = offered_after 0 files start symbols p found in
    let same : p.0 ≡ n = omega (arith, is) in
    ((f, ap (slice_get files) same ∙ there, stored), begins)
