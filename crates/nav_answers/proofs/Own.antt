-- The paths that begin at a start of one file are that file's alone.
use Rattle.std.proofs.Common.{◌≡◌, refl, sym, ◌∙◌, ap, ℕ, zero, suc, ◌+◌, ◌-◌, ◌<◌, List, [], ◌∷◌, ◌++◌, map, drop, Bool, true, false, cond, Option, Some, None, slice_get, arith}
use Rattle.std.specs.Prelude.{filter, ◌&&◌, nat_eq, All}
use Rattle.std.specs.List.{AllByRecursion}
use Rattle.std.specs.Option.{option_map, option_map_or}
use Rattle.std.proofs.lemmas.Bool.Decides.{nat_tests}
use Rattle.std.proofs.lemmas.List.{append-nil}
use Rattle.std.proofs.lemmas.List.Elements.{recursion_from_All}
use Rattle.std.proofs.lemmas.Option.{slice_get-map}
use Rattle.graph_nodes.specs.Graph.{Graph}
use Rattle.stacks_vars.specs.declared.items.SymbolItem.{SymbolItem}
use Rattle.partial_path.specs.declared.config.Spot.TheVariants as spot
use Rattle.partial_path.specs.declared.offers.FileOffers.{FileOffers}
use Rattle.partial_path.specs.declared.rule.Start.{Start}
use Rattle.partial_path.specs.declared.rule.Start.TheVariants.{Before, After}
use Rattle.partial_path.specs.Rules.{Rule}
use Rattle.partial_path.specs.Starts.{start_eq, rules_at, begins_at}
use Rattle.partial_path.specs.PathSets.{FileRules, IsLandingRule}
use Rattle.partial_path.specs.Inside.{file_of, start_inside}
use Rattle.partial_path.specs.Sources.{IsSourceFile, asks_rule, is_asked, numbered, rules_in, rules_after, rules_from, rules_offered, rules_offered_after}
use Rattle.partial_path.specs.Offers.{is_shared, offers_here}
use Rattle.partial_path.proofs.Asking.{filter_twice}
use Rattle.partial_path.proofs.Listing.{walks_start_in_0, begins_moved, filter_alike, all_so, rejected, list_offers, offers_from_is, IsAtFirst}
use Rattle.partial_path.proofs.Standing.{and_assoc}

-- whether a rule of the file itself is asked for
abbrev asked_inside : Start → Option (List ℕ) → Rule → Bool
asked_inside start first rule = begins_at (start_inside start) rule && asks_rule first rule

alike_in : (m : ℕ) (start : Start) (first : Option (List ℕ)) (b : Bool) → is_shared start ≡ false → nat_eq m (file_of start) ≡ b → (g : Graph) (rule : Rule) → IsLandingRule g rule
    → is_asked m start first rule ≡ b && asked_inside start first rule
alike_in m start first b alone e g rule lands =
    ap (λ t. t && asks_rule first rule) (begins_moved m start rule.start alone (walks_start_in_0 g rule.start lands.lands.walk.begins) ∙ ap (λ t. t && start_eq rule.start (start_inside start)) e)
    ∙ sym (and_assoc b (start_eq rule.start (start_inside start)) (asks_rule first rule))

in_this_file : (m : ℕ) (f : FileRules) (start : Start) (first : Option (List ℕ)) (b : Bool) → is_shared start ≡ false → IsSourceFile f → nat_eq m (file_of start) ≡ b
    → rules_in m f start first ≡ map (numbered m) (filter (λ rule. b && asked_inside start first rule) f.rules)
in_this_file m f start first b alone source e =
    ap (map (numbered m)) (filter_alike (is_asked m start first) (λ rule. b && asked_inside start first rule) f.rules
    (all_so (IsLandingRule f.graph) (λ rule. is_asked m start first rule ≡ b && asked_inside start first rule) (alike_in m start first b alone e f.graph) f.rules source.sets.rules.sound))

in_other_file : (m : ℕ) (f : FileRules) (start : Start) (first : Option (List ℕ)) → is_shared start ≡ false → IsSourceFile f → nat_eq m (file_of start) ≡ false
    → rules_in m f start first ≡ []
in_other_file m f start first alone source e = in_this_file m f start first false alone source e ∙ ap (map (numbered m)) (rejected f.rules)

none_later : (files : List FileRules) (m : ℕ) (start : Start) (first : Option (List ℕ)) → is_shared start ≡ false → AllByRecursion IsSourceFile files → file_of start < m
    → rules_after m files start first ≡ []
none_later [] m start first alone sources h = refl
none_later (f ∷ files) m start first alone sources h =
    (λ i. in_other_file m f start first alone sources.0 (grind (arith, nat_tests, h)) i ++ none_later files (m + 1) start first alone sources.1 (omega (arith, h)) i)

-- what the one file has
abbrev alone_in : ℕ → Start → Option (List ℕ) → Option FileRules → List (ℕ × Rule)
alone_in n start first found = option_map_or (λ (f : FileRules). map (numbered n) (filter (asked_inside start first) f.rules)) found []

one_file : (files : List FileRules) (m k : ℕ) (start : Start) (first : Option (List ℕ)) → is_shared start ≡ false → AllByRecursion IsSourceFile files → file_of start ≡ m + k
    → rules_after m files start first ≡ alone_in (file_of start) start first (slice_get files k)
one_file [] m k start first alone sources e = refl
one_file (f ∷ files) m zero start first alone sources e =
    let here : m ≡ file_of start = omega (arith, e) in
    (λ i. in_this_file m f start first true alone sources.0 (grind (arith, nat_tests, e)) i ++ none_later files (m + 1) start first alone sources.1 (omega (arith, e)) i)
    ∙ append-nil (map (numbered m) (filter (asked_inside start first) f.rules))
    ∙ ap (λ n. map (numbered n) (filter (asked_inside start first) f.rules)) here
one_file (f ∷ files) m (suc k) start first alone sources e =
    (λ i. in_other_file m f start first alone sources.0 (grind (arith, nat_tests, e)) i ++ rules_after (m + 1) files start first)
    ∙ one_file files (m + 1) k start first alone sources.1 (omega (arith, e))

at_alone : (n : ℕ) (start : Start) (first : Option (List ℕ)) (k : ℕ) (f : FileRules)
    → slice_get (alone_in n start first (Some f)) k ≡ option_map (numbered n) (slice_get (filter (asks_rule first) (rules_at (start_inside start) f.rules)) k)
at_alone n start first k f =
    slice_get-map (numbered n) (filter (asked_inside start first) f.rules) k
    ∙ ap (λ rs. option_map (numbered n) (slice_get rs k)) (filter_twice (begins_at (start_inside start)) (asks_rule first) f.rules)

-- the path asked for, in a file that is there
pub asked_alone : (files : List FileRules) (n : ℕ) (f : FileRules) (start : Start) (first : Option (List ℕ)) (k : ℕ) → All IsSourceFile files → is_shared start ≡ false → n ≡ file_of start
    → slice_get files n ≡ Some f
    → slice_get (rules_from files start first) k ≡ option_map (numbered n) (slice_get (filter (asks_rule first) (rules_at (start_inside start) f.rules)) k)
asked_alone files n f start first k sources alone here there =
    ap (λ rs. slice_get rs k) (one_file files 0 n start first alone (recursion_from_All IsSourceFile files sources) (omega (arith, here)))
    ∙ (λ i. slice_get (alone_in (sym here i) start first (there i)) k)
    ∙ at_alone n start first k f

-- the same, where the file's rules that begin there are known
pub asked_in : (files : List FileRules) (n : ℕ) (f : FileRules) (start : Start) (first : Option (List ℕ)) (k : ℕ) (run : List Rule) (found : Option Rule)
    → All IsSourceFile files → is_shared start ≡ false → n ≡ file_of start → Some f ≡ slice_get files n → run ≡ rules_at (start_inside start) f.rules
    → found ≡ slice_get (filter (asks_rule first) run) k → option_map (numbered n) found ≡ slice_get (rules_from files start first) k
asked_in files n f start first k run found sources alone here there begins is =
    sym (asked_alone files n f start first k sources alone here (sym there)
    ∙ ap (λ rs. option_map (numbered n) (slice_get (filter (asks_rule first) rs) k)) (sym begins)
    ∙ ap (option_map (numbered n)) (sym is))

-- and without such a file there is none
pub none_alone : (files : List FileRules) (n : ℕ) (start : Start) (first : Option (List ℕ)) (k : ℕ) → All IsSourceFile files → is_shared start ≡ false → n ≡ file_of start
    → slice_get files n ≡ None → slice_get (rules_from files start first) k ≡ None
none_alone files n start first k sources alone here there =
    ap (λ rs. slice_get rs k) (one_file files 0 n start first alone (recursion_from_All IsSourceFile files sources) (omega (arith, here)))
    ∙ ap (λ o. slice_get (alone_in (file_of start) start first o) k) there

inside_shared : (start : Start) → is_shared (start_inside start) ≡ is_shared start
inside_shared (Before a) = refl
inside_shared (After spot.Root) = refl
inside_shared (After (spot.At a)) = refl

-- a look-up in the file of the start offers what all files offer there
pub offers_alone : (files : List FileRules) (n : ℕ) (start : Start) (symbols : List SymbolItem) (inside : FileOffers) → All IsSourceFile files → is_shared start ≡ false → n ≡ file_of start
    → IsAtFirst (start_inside start) symbols inside → inside.start ≡ start_inside start
    → offers_here files symbols (list_offers n inside) ≡ rules_offered files start symbols
offers_alone files n start symbols inside sources alone here first begun =
    ap (λ m. offers_here files symbols (list_offers m inside)) here
    ∙ sym (append-nil (offers_here files symbols (list_offers (file_of start) inside)))
    ∙ sym (ap (λ b. offers_here files symbols (list_offers (file_of start) inside) ++ cond b (rules_offered_after (file_of start + 1) (drop (file_of start + 1) files) inside.start symbols) []) (ap is_shared begun ∙ inside_shared start ∙ alone))
    ∙ offers_from_is files symbols start inside sources first begun

-- one after another of a list
pub get_first : {X : Type 0} (x : X) (xs : List X) (n : ℕ) → n ≡ 0 → slice_get (x ∷ xs) n ≡ Some x
get_first x xs n e = ap (slice_get (x ∷ xs)) e

pub get_later : {X : Type 0} (x : X) (xs : List X) (n : ℕ) → (n ≡ 0 → ⊥) → slice_get (x ∷ xs) n ≡ slice_get xs (n - 1)
get_later x xs zero h = absurd (h refl)
get_later x xs (suc n) h = ap (slice_get xs) (omega arith)
