-- What a list of files offers: of the file where a look-up stands, and of the files behind it.
use Rattle.std.proofs.Common.{◌≡◌, refl, sym, ◌∙◌, ap, ℕ, zero, suc, ◌+◌, ◌<◌, ◌≤◌, List, [], ◌∷◌, ◌++◌, length, map, drop, Bool, true, false, cond, Option, Some, None, arith, slice_get, inl, inr}
use Rattle.std.specs.Prelude.{filter, ◌&&◌, nat_eq, All, IsTrue}
use Rattle.std.specs.List.{AllByRecursion}
use Rattle.std.specs.Option.{option_map_or}
use Rattle.std.proofs.lemmas.Bool.{false≢true, cases_Bool}
use Rattle.std.proofs.lemmas.Bool.Decides.{nat_tests}
use Rattle.std.proofs.lemmas.List.{append-nil}
use Rattle.std.proofs.lemmas.List.Elements.{recursion_from_All}
use Rattle.std.proofs.Math.ListN.{drop_of_length-le}
use Rattle.graph_nodes.specs.Graph.{Graph}
use Rattle.stacks_vars.specs.declared.scopes.NodeAt.{NodeAt}
use Rattle.stacks_vars.specs.declared.items.SymbolItem.{SymbolItem}
use Rattle.stacks_vars.specs.Same.{node_eq}
use Rattle.partial_path.specs.declared.config.Spot.TheVariants as spot
use Rattle.partial_path.specs.declared.rule.Start.{Start}
use Rattle.partial_path.specs.declared.rule.Start.TheVariants.{Before, After}
use Rattle.partial_path.specs.declared.offers.FileOffers.{FileOffers}
use Rattle.partial_path.specs.declared.file_list.ListOffers.{ListOffers}
use Rattle.partial_path.specs.Rules.{Rule}
use Rattle.partial_path.specs.Moved.{moved_node, moved_start}
use Rattle.partial_path.specs.Spots.{node_at}
use Rattle.partial_path.specs.Starts.{start_eq}
use Rattle.partial_path.specs.Walks.{starts_walks}
use Rattle.partial_path.specs.PathSets.{FileRules, IsLandingRule}
use Rattle.partial_path.specs.Keys.{key}
use Rattle.partial_path.specs.Inside.{file_of, start_inside}
use Rattle.partial_path.specs.Sources.{IsSourceFile, numbered, stand_first, is_offered, is_offered_in, rules_offered_in, rules_offered_after, rules_offered}
use Rattle.partial_path.specs.Offers.{offers_left, is_shared, offers_here, offers_behind, list_offers_left}
use Rattle.partial_path.specs.Laws.{AreOwnOffers}
use Rattle.partial_path.proofs.Halved.{filter_same}
use Rattle.partial_path.proofs.Standing.{and_assoc}

-- the offer of the file with that number, where there is one
abbrev pub offered_of : ℕ → Start → List SymbolItem → Option FileRules → List (ℕ × Rule)
offered_of n start symbols found = option_map_or (λ (f : FileRules). rules_offered_in n f start symbols) found []

-- the files from one on: that one, and those behind it
split_files : (files : List FileRules) (m n : ℕ) (start : Start) (symbols : List SymbolItem)
    → rules_offered_after m (drop n files) start symbols ≡ offered_of m start symbols (slice_get files n) ++ rules_offered_after (m + 1) (drop (suc n) files) start symbols
split_files [] m zero start symbols = refl
split_files [] m (suc n) start symbols = refl
split_files (f ∷ files) m zero start symbols = refl
split_files (f ∷ files) m (suc n) start symbols = split_files files m n start symbols

pub split_offers : (files : List FileRules) (n : ℕ) (start : Start) (symbols : List SymbolItem)
    → rules_offered_after n (drop n files) start symbols ≡ offered_of n start symbols (slice_get files n) ++ rules_offered_after (n + 1) (drop (n + 1) files) start symbols
split_offers files n start symbols =
    let next : suc n ≡ n + 1 = omega arith in
    split_files files n n start symbols ∙ ap (λ k. offered_of n start symbols (slice_get files n) ++ rules_offered_after (n + 1) (drop k files) start symbols) next

-- at the root a rule is offered by its file as it is by the file alone
root_begins : (file : ℕ) (start other : Start) → is_shared start ≡ true → start_eq other start ≡ start_eq (moved_start file other) start
root_begins file (Before a) other e = absurd (false≢true e)
root_begins file (After (spot.At a)) other e = absurd (false≢true e)
root_begins file (After spot.Root) (Before b) e = refl
root_begins file (After spot.Root) (After spot.Root) e = refl
root_begins file (After spot.Root) (After (spot.At b)) e = refl

root_offers : (n : ℕ) (start : Start) (symbols : List SymbolItem) → is_shared start ≡ true → (rule : Rule) → is_offered start symbols rule ≡ is_offered_in n start symbols rule
root_offers n start symbols e rule = ap (λ b. b && stand_first (key rule) symbols) (root_begins n start rule.start e)

-- a look-up that stands before the first path of a file
abbrev pub IsAtFirst : Start → List SymbolItem → FileOffers → Type 0
IsAtFirst start symbols inside = (rules : List Rule) → offers_left inside symbols rules ≡ filter (is_offered start symbols) rules

root_here : (n : ℕ) (start : Start) (symbols : List SymbolItem) (inside : FileOffers) → is_shared start ≡ true → IsAtFirst start symbols inside → (found : Option FileRules)
    → option_map_or (λ (f : FileRules). map (numbered n) (offers_left inside symbols f.rules)) found [] ≡ offered_of n start symbols found
root_here n start symbols inside e first None = refl
root_here n start symbols inside e first (Some f) =
    ap (map (numbered n)) (first f.rules ∙ filter_same (is_offered start symbols) (is_offered_in n start symbols) (root_offers n start symbols e) f.rules)

abbrev pub list_offers : ℕ → FileOffers → ListOffers
list_offers file inside = record { file = file; inside = inside }

pub here_at_root : (files : List FileRules) (n : ℕ) (start : Start) (symbols : List SymbolItem) (inside : FileOffers) → is_shared start ≡ true → IsAtFirst start symbols inside
    → offers_here files symbols (list_offers n inside) ≡ offered_of n start symbols (slice_get files n)
here_at_root files n start symbols inside e first = root_here n start symbols inside e first (slice_get files n)

-- what is behind the file where it stands, at the root
behind_at_root : (files : List FileRules) (symbols : List SymbolItem) (at : ListOffers) → is_shared at.inside.start ≡ true
    → offers_behind files symbols at ≡ rules_offered_after (at.file + 1) (drop (at.file + 1) files) at.inside.start symbols
behind_at_root files symbols at e = ap (λ b. cond b (rules_offered_after (at.file + 1) (drop (at.file + 1) files) at.inside.start symbols) []) e

pub nothing_behind : (files : List FileRules) (symbols : List SymbolItem) (at : ListOffers) → is_shared at.inside.start ≡ false → offers_behind files symbols at ≡ []
nothing_behind files symbols at e = ap (λ b. cond b (rules_offered_after (at.file + 1) (drop (at.file + 1) files) at.inside.start symbols) []) e

pub no_files_behind : (files : List FileRules) (symbols : List SymbolItem) (at : ListOffers) → is_shared at.inside.start ≡ true → length files ≤ at.file + 1 → offers_behind files symbols at ≡ []
no_files_behind files symbols at e past =
    behind_at_root files symbols at e ∙ ap (λ fs. rules_offered_after (at.file + 1) fs at.inside.start symbols) (drop_of_length-le files past)

pub files_behind : (files : List FileRules) (symbols : List SymbolItem) (at : ListOffers) → is_shared at.inside.start ≡ true
    → offers_behind files symbols at ≡ rules_offered_after (at.file + 1) (drop (at.file + 1) files) at.inside.start symbols
files_behind = behind_at_root

pub no_files_left : (files : List FileRules) (symbols : List SymbolItem) (start : Start) (n : ℕ) → length files ≤ n → rules_offered_after n (drop n files) start symbols ≡ []
no_files_left files symbols start n past = ap (λ fs. rules_offered_after n fs start symbols) (drop_of_length-le files past)

-- a look-up goes on where it was, in the same file
pub goes_on : (files : List FileRules) (symbols : List SymbolItem) (at after : ListOffers) (x : ℕ × Rule) → after.inside.start ≡ at.inside.start → after.file ≡ at.file
    → offers_here files symbols at ≡ x ∷ offers_here files symbols after → list_offers_left files symbols at ≡ x ∷ list_offers_left files symbols after
goes_on files symbols at after x start file here =
    let s = sym start in
    let n = sym file in
    (λ i. here i ++ cond (is_shared (s i)) (rules_offered_after (n i + 1) (drop (n i + 1) files) (s i) symbols) [])

pub none_left_here : (files : List FileRules) (symbols : List SymbolItem) (at : ListOffers) → offers_here files symbols at ≡ []
    → list_offers_left files symbols at ≡ offers_behind files symbols at
none_left_here files symbols at here = ap (λ xs. xs ++ offers_behind files symbols at) here

-- the file behind has a path
pub found_behind : (files : List FileRules) (symbols : List SymbolItem) (start : Start) (n : ℕ) (inside : FileOffers) (after : ListOffers) (x : ℕ × Rule)
    → is_shared start ≡ true → IsAtFirst start symbols inside → inside.start ≡ start → after.inside.start ≡ inside.start → after.file ≡ n
    → offers_here files symbols (list_offers n inside) ≡ x ∷ offers_here files symbols after
    → rules_offered_after n (drop n files) start symbols ≡ x ∷ list_offers_left files symbols after
found_behind files symbols start n inside after x e first begun same file here =
    split_offers files n start symbols
    ∙ ap (λ xs. xs ++ rules_offered_after (n + 1) (drop (n + 1) files) start symbols) (sym (here_at_root files n start symbols inside e first))
    ∙ ap (λ s. offers_here files symbols (list_offers n inside) ++ rules_offered_after (n + 1) (drop (n + 1) files) s symbols) (sym begun)
    ∙ ap (λ xs. offers_here files symbols (list_offers n inside) ++ xs) (sym (behind_at_root files symbols (list_offers n inside) (ap is_shared begun ∙ e)))
    ∙ goes_on files symbols (list_offers n inside) after x same file here

-- it has none
pub none_found_behind : (files : List FileRules) (symbols : List SymbolItem) (start : Start) (n : ℕ) (inside : FileOffers)
    → is_shared start ≡ true → IsAtFirst start symbols inside → offers_here files symbols (list_offers n inside) ≡ []
    → rules_offered_after n (drop n files) start symbols ≡ rules_offered_after (n + 1) (drop (n + 1) files) start symbols
none_found_behind files symbols start n inside e first none =
    split_offers files n start symbols
    ∙ ap (λ xs. xs ++ rules_offered_after (n + 1) (drop (n + 1) files) start symbols) (sym (here_at_root files n start symbols inside e first) ∙ none)

-- a start of one file: its rules begin there alone

and_true : (a b : Bool) → IsTrue (a && b) → a ≡ true
and_true true b e = refl
and_true false b e = e

-- walks start in file 0
pub walks_start_in_0 : (g : Graph) (start : Start) → IsTrue (starts_walks g start) → file_of start ≡ 0
walks_start_in_0 g (Before node) e = grind (arith, nat_tests, and_true (nat_eq node.file 0) _ e)
walks_start_in_0 g (After spot.Root) e = refl
walks_start_in_0 g (After (spot.At node)) e = grind (arith, nat_tests, and_true (nat_eq node.file 0) _ e)

node_begins : (m : ℕ) (a b : NodeAt) → a.file ≡ 0 → node_eq (moved_node m a) b ≡ nat_eq m b.file && node_eq a (node_at 0 b.node)
node_begins m a b e = grind (arith, nat_tests, e)

-- whether a rule of file 0, moved, begins there
pub begins_moved : (m : ℕ) (start other : Start) → is_shared start ≡ false → file_of other ≡ 0
    → start_eq (moved_start m other) start ≡ nat_eq m (file_of start) && start_eq other (start_inside start)
begins_moved m (Before b) (Before a) s e = node_begins m a b e
begins_moved m (Before b) (After spot.Root) s e = grind (arith, nat_tests)
begins_moved m (Before b) (After (spot.At a)) s e = grind (arith, nat_tests)
begins_moved m (After spot.Root) other s e = absurd (false≢true (sym s))
begins_moved m (After (spot.At b)) (Before a) s e = grind (arith, nat_tests)
begins_moved m (After (spot.At b)) (After spot.Root) s e = grind (arith, nat_tests)
begins_moved m (After (spot.At b)) (After (spot.At a)) s e = node_begins m a b e

pub filter_alike : {X : Type 0} (p q : X → Bool) (xs : List X) → AllByRecursion (λ x. p x ≡ q x) xs → filter p xs ≡ filter q xs
filter_alike p q [] alike = refl
filter_alike p q (x ∷ xs) alike = (λ i. cond (alike.0 i) (x ∷ filter p xs) (filter p xs)) ∙ ap (λ ys. cond (q x) (x ∷ ys) ys) (filter_alike p q xs alike.1)

pub all_so : {X : Type 0} (P Q : X → Type 0) → ((x : X) → P x → Q x) → (xs : List X) → AllByRecursion P xs → AllByRecursion Q xs
all_so P Q so [] all = tt
all_so P Q so (x ∷ xs) all = (so x all.0, all_so P Q so xs all.1)

pub rejected : {X : Type 0} (xs : List X) → filter (λ x. false) xs ≡ []
rejected [] = refl
rejected (x ∷ xs) = rejected xs

alike_in : (m : ℕ) (start : Start) (symbols : List SymbolItem) (b : Bool) → is_shared start ≡ false → nat_eq m (file_of start) ≡ b → (g : Graph) (rule : Rule) → IsLandingRule g rule
    → is_offered_in m start symbols rule ≡ b && is_offered (start_inside start) symbols rule
alike_in m start symbols b alone e g rule lands =
    ap (λ t. t && stand_first (key rule) symbols) (begins_moved m start rule.start alone (walks_start_in_0 g rule.start lands.lands.walk.begins) ∙ ap (λ t. t && start_eq rule.start (start_inside start)) e)
    ∙ sym (and_assoc b (start_eq rule.start (start_inside start)) (stand_first (key rule) symbols))

in_this_file : (m : ℕ) (f : FileRules) (start : Start) (symbols : List SymbolItem) (b : Bool) → is_shared start ≡ false → IsSourceFile f → nat_eq m (file_of start) ≡ b
    → rules_offered_in m f start symbols ≡ map (numbered m) (filter (λ rule. b && is_offered (start_inside start) symbols rule) f.rules)
in_this_file m f start symbols b alone source e =
    ap (map (numbered m)) (filter_alike (is_offered_in m start symbols) (λ rule. b && is_offered (start_inside start) symbols rule) f.rules
    (all_so (IsLandingRule f.graph) (λ rule. is_offered_in m start symbols rule ≡ b && is_offered (start_inside start) symbols rule) (alike_in m start symbols b alone e f.graph) f.rules source.sets.rules.sound))

in_other_file : (m : ℕ) (f : FileRules) (start : Start) (symbols : List SymbolItem) → is_shared start ≡ false → IsSourceFile f → nat_eq m (file_of start) ≡ false
    → rules_offered_in m f start symbols ≡ []
in_other_file m f start symbols alone source e = in_this_file m f start symbols false alone source e ∙ ap (map (numbered m)) (rejected f.rules)

none_later : (files : List FileRules) (m : ℕ) (start : Start) (symbols : List SymbolItem) → is_shared start ≡ false → AllByRecursion IsSourceFile files → file_of start < m
    → rules_offered_after m files start symbols ≡ []
none_later [] m start symbols alone sources h = refl
none_later (f ∷ files) m start symbols alone sources h =
    (λ i. in_other_file m f start symbols alone sources.0 (grind (arith, nat_tests, h)) i ++ none_later files (m + 1) start symbols alone sources.1 (omega (arith, h)) i)

-- what the one file offers
abbrev alone_in : ℕ → Start → List SymbolItem → Option FileRules → List (ℕ × Rule)
alone_in n start symbols found = option_map_or (λ (f : FileRules). map (numbered n) (filter (is_offered (start_inside start) symbols) f.rules)) found []

one_file : (files : List FileRules) (m k : ℕ) (start : Start) (symbols : List SymbolItem) → is_shared start ≡ false → AllByRecursion IsSourceFile files → file_of start ≡ m + k
    → rules_offered_after m files start symbols ≡ alone_in (file_of start) start symbols (slice_get files k)
one_file [] m k start symbols alone sources e = refl
one_file (f ∷ files) m zero start symbols alone sources e =
    let here : m ≡ file_of start = omega (arith, e) in
    (λ i. in_this_file m f start symbols true alone sources.0 (grind (arith, nat_tests, e)) i ++ none_later files (m + 1) start symbols alone sources.1 (omega (arith, e)) i)
    ∙ append-nil (map (numbered m) (filter (is_offered (start_inside start) symbols) f.rules))
    ∙ ap (λ n. map (numbered n) (filter (is_offered (start_inside start) symbols) f.rules)) here
one_file (f ∷ files) m (suc k) start symbols alone sources e =
    (λ i. in_other_file m f start symbols alone sources.0 (grind (arith, nat_tests, e)) i ++ rules_offered_after (m + 1) files start symbols)
    ∙ one_file files (m + 1) k start symbols alone sources.1 (omega (arith, e))

alone_here : (n : ℕ) (start : Start) (symbols : List SymbolItem) (inside : FileOffers) → IsAtFirst (start_inside start) symbols inside → (found : Option FileRules)
    → option_map_or (λ (f : FileRules). map (numbered n) (offers_left inside symbols f.rules)) found [] ≡ alone_in n start symbols found
alone_here n start symbols inside first None = refl
alone_here n start symbols inside first (Some f) = ap (map (numbered n)) (first f.rules)

inside_shared : (start : Start) → is_shared (start_inside start) ≡ is_shared start
inside_shared (Before a) = refl
inside_shared (After spot.Root) = refl
inside_shared (After (spot.At a)) = refl

root_inside : (start : Start) → is_shared start ≡ true → start_inside start ≡ start
root_inside (Before a) e = absurd (false≢true e)
root_inside (After spot.Root) e = refl
root_inside (After (spot.At a)) e = absurd (false≢true e)

root_file : (start : Start) → is_shared start ≡ true → file_of start ≡ 0
root_file (Before a) e = absurd (false≢true e)
root_file (After spot.Root) e = refl
root_file (After (spot.At a)) e = absurd (false≢true e)

offers_from_alone : (files : List FileRules) (symbols : List SymbolItem) (start : Start) (inside : FileOffers) → AllByRecursion IsSourceFile files
    → IsAtFirst (start_inside start) symbols inside → inside.start ≡ start_inside start → is_shared start ≡ false
    → list_offers_left files symbols (list_offers (file_of start) inside) ≡ rules_offered files start symbols
offers_from_alone files symbols start inside sources first begun e =
    ap (λ xs. offers_here files symbols (list_offers (file_of start) inside) ++ xs) (nothing_behind files symbols (list_offers (file_of start) inside) (ap is_shared begun ∙ inside_shared start ∙ e))
    ∙ append-nil (offers_here files symbols (list_offers (file_of start) inside))
    ∙ alone_here (file_of start) start symbols inside first (slice_get files (file_of start))
    ∙ sym (one_file files 0 (file_of start) start symbols e sources (omega arith))

offers_from_root : (files : List FileRules) (symbols : List SymbolItem) (start : Start) (inside : FileOffers)
    → IsAtFirst (start_inside start) symbols inside → inside.start ≡ start_inside start → is_shared start ≡ true
    → list_offers_left files symbols (list_offers (file_of start) inside) ≡ rules_offered files start symbols
offers_from_root files symbols start inside first begun e =
    let here : inside.start ≡ start = begun ∙ root_inside start e in
    let at : IsAtFirst start symbols inside = λ rules. first rules ∙ ap (λ s. filter (is_offered s symbols) rules) (root_inside start e) in
    ap (λ n. list_offers_left files symbols (list_offers n inside)) (root_file start e)
    ∙ ap (λ xs. offers_here files symbols (list_offers 0 inside) ++ xs) (behind_at_root files symbols (list_offers 0 inside) (ap is_shared here ∙ e))
    ∙ ap (λ xs. xs ++ rules_offered_after 1 (drop 1 files) inside.start symbols) (here_at_root files 0 start symbols inside e at)
    ∙ ap (λ s. offered_of 0 start symbols (slice_get files 0) ++ rules_offered_after 1 (drop 1 files) s symbols) here
    ∙ sym (split_offers files 0 start symbols)

pub offers_from_is : (files : List FileRules) (symbols : List SymbolItem) (start : Start) (inside : FileOffers) → All IsSourceFile files
    → IsAtFirst (start_inside start) symbols inside → inside.start ≡ start_inside start
    → list_offers_left files symbols (list_offers (file_of start) inside) ≡ rules_offered files start symbols
offers_from_is files symbols start inside sources first begun = elim (cases_Bool (is_shared start)) [
  | inl e ↦ offers_from_root files symbols start inside first begun e
  | inr e ↦ offers_from_alone files symbols start inside (recursion_from_All IsSourceFile files sources) first begun e
]

offered_alone : (files : List FileRules) (file : ℕ) (f : FileRules) (start : Start) (symbols : List SymbolItem) → All IsSourceFile files → slice_get files file ≡ Some f
    → is_shared start ≡ false → file_of start ≡ file → rules_offered files start symbols ≡ map (numbered file) (filter (is_offered (start_inside start) symbols) f.rules)
offered_alone files file f start symbols sources there alone here =
    one_file files 0 file start symbols alone (recursion_from_All IsSourceFile files sources) (omega (arith, here))
    ∙ (λ i. alone_in (here i) start symbols (there i))

pub own_offers : AreOwnOffers
own_offers = record {
  root = λ file f symbols. sym (root_here_alone file f symbols);
  before = λ files file f node symbols sources there. offered_alone files file f (Before (node_at file node)) symbols sources there refl refl;
  after = λ files file f node symbols sources there. offered_alone files file f (After (spot.At (node_at file node))) symbols sources there refl refl;
}
  where
    root_here_alone : (file : ℕ) (f : FileRules) (symbols : List SymbolItem)
        → map (numbered file) (filter (is_offered (After spot.Root) symbols) f.rules) ≡ rules_offered_in file f (After spot.Root) symbols
    root_here_alone file f symbols =
        ap (map (numbered file)) (filter_same (is_offered (After spot.Root) symbols) (is_offered_in file (After spot.Root) symbols) (root_offers file (After spot.Root) symbols refl) f.rules)
