-- What a look-up by a start and a stack of symbols still has to offer, of one file and of a list of files.
use Rattle.std.specs.Prelude.{ℕ, ◌+◌, List, [], ◌++◌, map, drop, filter, Bool, true, false, if◌then◌else◌, slice_get}
use Rattle.std.specs.Option.{option_map_or}
use Rattle.stacks_vars.specs.declared.items.SymbolItem.{SymbolItem}
use Rattle.partial_path.specs.declared.config.Spot.TheVariants as spot
use Rattle.partial_path.specs.declared.rule.Start.{Start}
use Rattle.partial_path.specs.declared.rule.Start.TheVariants.{Before, After}
use Rattle.partial_path.specs.declared.offers.FileOffers.{FileOffers}
use Rattle.partial_path.specs.declared.file_list.ListOffers.{ListOffers}
use Rattle.partial_path.specs.Rules.{Rule}
use Rattle.partial_path.specs.PathSets.{FileRules}
use Rattle.partial_path.specs.Sources.{is_offered, numbered, rules_offered_after}

-- what a look-up that stands there still has to offer of one file's rules
abbrev pub offers_left : FileOffers → List SymbolItem → List Rule → List Rule
offers_left at symbols rules = filter (is_offered at.start symbols) (drop at.place rules)

-- whether paths of more than one file can have the start
abbrev pub is_shared : Start → Bool
is_shared (Before node) = false
is_shared (After spot.Root) = true
is_shared (After (spot.At node)) = false

-- of the file where the look-up stands
abbrev pub offers_here : List FileRules → List SymbolItem → ListOffers → List (ℕ × Rule)
offers_here files symbols at =
    option_map_or (λ (f : FileRules). map (numbered at.file) (offers_left at.inside symbols f.rules)) (slice_get files at.file) []

-- of the files behind it
abbrev pub offers_behind : List FileRules → List SymbolItem → ListOffers → List (ℕ × Rule)
offers_behind files symbols at =
    if is_shared at.inside.start then rules_offered_after (at.file + 1) (drop (at.file + 1) files) at.inside.start symbols else []

-- what a look-up that stands there still has to offer of a list of files
abbrev pub list_offers_left : List FileRules → List SymbolItem → ListOffers → List (ℕ × Rule)
list_offers_left files symbols at = offers_here files symbols at ++ offers_behind files symbols at
