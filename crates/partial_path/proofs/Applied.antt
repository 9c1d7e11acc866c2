-- A rule that applies to a configuration is offered to its symbols.
use Rattle.std.proofs.Common.{◌≡◌, refl, sym, ◌∙◌, ap, subst, ℕ, zero, suc, ◌+◌, ◌<◌, List, [], ◌∷◌, length, map, take, get_or, Bool, true, false, cond, Option, Some, None, if◌then◌else◌, arith}
use Rattle.std.specs.Prelude.{filter, ◌&&◌, slice_get, IsSome, Contains}
use Rattle.std.specs.Option.{option_map, option_and_then, is_some, unwrap_or}
use Rattle.std.proofs.lemmas.Bool.{false≢true}
use Rattle.std.proofs.lemmas.Bool.Decides.{nat_tests}
use Rattle.std.proofs.lemmas.Option.{none-some}
use Rattle.std.proofs.lemmas.List.{length-map, get_or-map}
use Rattle.std.proofs.lemmas.List.Elements.{Contains-append_left, Contains-append_right}
use Rattle.std.specs.Str.{bytes_eq}
use Rattle.stacks_vars.specs.declared.scopes.NodeAt.{NodeAt}
use Rattle.stacks_vars.specs.declared.items.SymbolItem.{SymbolItem}
use Rattle.stacks_vars.specs.declared.stacks.Stacks.{Stacks}
use Rattle.stacks_vars.specs.declared.patterns.SymPat.{SymPat}
use Rattle.stacks_vars.specs.Same.{node_eq}
use Rattle.partial_path.specs.declared.config.Spot.TheVariants as spot
use Rattle.partial_path.specs.declared.config.Config.{Config}
use Rattle.partial_path.specs.declared.rule.Start.{Start}
use Rattle.partial_path.specs.declared.rule.Start.TheVariants.{Before, After}
use Rattle.partial_path.specs.Rules.{Rule, start_spot}
use Rattle.partial_path.specs.Same.{spot_eq}
use Rattle.partial_path.specs.Apply.{Rests, rests_of, after_fixed, match_attached, match_items, match_stacks, end_at, apply}
use Rattle.partial_path.specs.Moved.{moved_symbol, moved_pre, moved_end, moved_start, moved}
use Rattle.partial_path.specs.Starts.{start_eq}
use Rattle.partial_path.specs.PathSets.{FileRules}
use Rattle.partial_path.specs.Keys.{key_size, asked_texts}
use Rattle.partial_path.specs.Sources.{numbered, stand_first, is_offered_in, rules_offered_in, rules_offered_after}
use Rattle.partial_path.specs.Laws.{AppliedRulesAreOffered}

-- what is in a list is in it changed, filtered, and further back

contains_map : {X Y : Type 0} (f : X → Y) (xs : List X) (x : X) → Contains xs x → Contains (map f xs) (f x)
contains_map f xs x found =
    let long : length (map f xs) ≡ length xs = length-map xs f in
    (found.0, omega (arith, long, found.1), get_or-map f xs found.0 x (f x) found.1 ∙ ap f found.2)

further : {X : Type 0} (y : X) (xs : List X) (x : X) → Contains xs x → Contains (y ∷ xs) x
further y xs x found = (suc found.0, omega (arith, found.1), found.2)

contains_filter : {X : Type 0} (p : X → Bool) (xs : List X) (x : X) (k : ℕ) → k < length xs → get_or xs k x ≡ x → p x ≡ true → Contains (filter p xs) x
contains_filter p [] x k h is passes = absurd (omega (arith, h))
contains_filter p (y ∷ xs) x zero h is passes =
    subst (λ zs. Contains zs x) (sym (ap (λ b. cond b (y ∷ filter p xs) (filter p xs)) (ap p is ∙ passes))) (zero, omega arith, is)
contains_filter p (y ∷ xs) x (suc k) h is passes = kept_case (p y) (contains_filter p xs x k (omega (arith, h)) is passes)
  where
    kept_case : (b : Bool) → Contains (filter p xs) x → Contains (cond b (y ∷ filter p xs) (filter p xs)) x
    kept_case true rest = further y (filter p xs) x rest
    kept_case false rest = rest

in_files : (files : List FileRules) (m n k : ℕ) (f : FileRules) (start : Start) (symbols : List SymbolItem) (x : ℕ × Rule) → slice_get files n ≡ Some f → k ≡ m + n
    → Contains (rules_offered_in k f start symbols) x → Contains (rules_offered_after m files start symbols) x
in_files [] m n k f start symbols x there e found = absurd (none-some f there)
in_files (g ∷ files) m zero k f start symbols x there e found =
    let here : k ≡ m = omega (arith, e) in
    let same : f ≡ g = ap (λ o. unwrap_or o f) (sym there) in
    Contains-append_left (rules_offered_in m g start symbols) (rules_offered_after (m + 1) files start symbols) x
    (subst (λ h. Contains (rules_offered_in m h start symbols) x) same (subst (λ j. Contains (rules_offered_in j f start symbols) x) here found))
in_files (g ∷ files) m (suc n) k f start symbols x there e found =
    Contains-append_right (rules_offered_in m g start symbols) (rules_offered_after (m + 1) files start symbols) x
    (in_files files (m + 1) n k f start symbols x there (omega (arith, e)) found)

-- symbols that are met have the texts that are asked for

met_case : (b : Bool) (attached : Option (List NodeAt)) (others : Option (List (List NodeAt)))
    → is_some (option_and_then (λ (rest : List NodeAt). option_map (λ (rests : List (List NodeAt)). rest ∷ rests) others) (if b then attached else None)) ≡ true
    → (b ≡ true) × (is_some others ≡ true)
met_case false attached others e = absurd (false≢true e)
met_case true None others e = absurd (false≢true e)
met_case true (Some rest) None e = absurd (false≢true e)
met_case true (Some rest) (Some rests) e = (refl, refl)

met_stand : (base n : ℕ) (pats : List SymPat) (items : List SymbolItem) → is_some (match_items (map (moved_symbol base) pats) items) ≡ true
    → stand_first (asked_texts (take n pats)) items ≡ true
met_stand base zero pats items e = refl
met_stand base (suc n) [] items e = refl
met_stand base (suc n) (pat ∷ pats) [] e = absurd (false≢true e)
met_stand base (suc n) (pat ∷ pats) (item ∷ items) e =
    let both = met_case (bytes_eq pat.symbol item.symbol) (match_attached (moved_symbol base pat).scopes item.scopes) (match_items (map (moved_symbol base) pats) items) e in
    (λ i. both.0 i && stand_first (asked_texts (take n pats)) items) ∙ met_stand base n pats items both.1

matched_case : (items : Option (List (List NodeAt))) (front : Option (List NodeAt))
    → is_some (option_and_then (λ (f : List NodeAt). option_map (rests_of f) items) front) ≡ true → is_some items ≡ true
matched_case items None e = absurd (false≢true e)
matched_case None (Some front) e = absurd (false≢true e)
matched_case (Some items) (Some front) e = refl

applied_case : (b : Bool) (f : Stacks → Option Config) (h : Rests → Stacks) (found : Option Rests)
    → is_some (if b then option_and_then f (option_map h found) else None) ≡ true → is_some found ≡ true
applied_case false f h found e = absurd (false≢true e)
applied_case true f h None e = absurd (false≢true e)
applied_case true f h (Some rests) e = refl

met_where_applied : (base : ℕ) (rule : Rule) (c : Config) → IsSome (apply (moved base rule) c) → is_some (match_items (map (moved_symbol base) rule.pre.symbols) c.stacks.symbols) ≡ true
met_where_applied base rule c some =
    matched_case _ (after_fixed (moved_pre base rule.pre).scopes.fixed c.stacks.scopes)
    (applied_case (spot_eq (start_spot (moved_start base rule.start)) c.spot) (end_at (moved_end base rule.end)) _ (match_stacks (moved_pre base rule.pre) c.stacks) some)

node_same : (a : NodeAt) → node_eq a a ≡ true
node_same a = grind (arith, nat_tests)

start_same : (start : Start) → start_eq start start ≡ true
start_same (Before a) = node_same a
start_same (After spot.Root) = refl
start_same (After (spot.At a)) = node_same a

pub applied_rules_are_offered : AppliedRulesAreOffered
applied_rules_are_offered files file f rule c there found some =
    let begins = start_same (moved_start file rule.start) in
    let stands = met_stand file key_size rule.pre.symbols c.stacks.symbols (met_where_applied file rule c some) in
    in_files files 0 file file f (moved_start file rule.start) c.stacks.symbols (file, rule) there (omega arith)
    (contains_map (numbered file) (filter (is_offered_in file (moved_start file rule.start) c.stacks.symbols) f.rules) rule
    (contains_filter (is_offered_in file (moved_start file rule.start) c.stacks.symbols) f.rules rule found.0 found.1 found.2 (λ i. begins i && stands i)))
