-- References with their definitions, as pairs in a list. No public clause cites this.
use Rattle.std.specs.Global.{Vec}
use Rattle.std.specs.Prelude.{List, map, filter, flat_map, Bool}
use Rattle.std.specs.List.Sorted.{IsStrictlySortedBy}
use Rattle.std.specs.Ordering.{nat_cmp, ordering_then, is_lt, is_eq}
use Rattle.std.specs.declared.cmp.Ordering.{Ordering}
use Rattle.whole_search.specs.declared.found.Hit.{Hit}
use Rattle.nav_answers.specs.declared.links.Link.{Link}

-- the reference with that definition
abbrev pub link_of : Hit → Hit → Link
link_of reference definition = record { definition = definition; reference = reference }

-- the reference with each of these definitions
abbrev pub links_of : Hit → List Hit → List Link
links_of reference definitions = map (link_of reference) definitions

-- which of two nodes comes first: by file and then by position
abbrev pub by_hit : Hit → Hit → Ordering
by_hit a b = ordering_then (nat_cmp a.file b.file) (nat_cmp a.node b.node)

-- which of two links comes first: by the definitions and then by the references
abbrev pub by_link : Link → Link → Ordering
by_link a b = ordering_then (by_hit a.definition b.definition) (by_hit a.reference b.reference)

-- how the link's definition stands to this one
abbrev pub link_side : Hit → Link → Ordering
link_side definition link = by_hit link.definition definition

-- whether the link stands before those to this definition, and whether it is one of those
abbrev pub is_before : Hit → Link → Bool
is_before definition link = is_lt (link_side definition link)

abbrev pub is_link_to : Hit → Link → Bool
is_link_to definition link = is_eq (link_side definition link)

-- the references of the links
abbrev pub references_among : List Link → List Hit
references_among links = map (λ (link : Link). link.reference) links

-- the references that the links have of the definition, and of each of several
abbrev pub rows_of_one : List Link → Hit → List Hit
rows_of_one links definition = references_among (filter (is_link_to definition) links)

abbrev pub rows_of_any : List Link → List Hit → List Hit
rows_of_any links definitions = flat_map (rows_of_one links) definitions

-- the links to a definition, and to each of several
abbrev pub links_to_one : List Link → Hit → List Link
links_to_one links definition = filter (is_link_to definition) links

abbrev pub links_to_any : List Link → List Hit → List Link
links_to_any links definitions = flat_map (links_to_one links) definitions

-- links that stand in several lists, one behind the other, whether a run was left out, and whether each reference is
-- there with each of its definitions
pub record Table : Type 0 where
  pub list : List Link
  pub limit : Bool
  pub whole : Bool

abbrev pub table_of : List Link → Bool → Bool → Table
table_of list limit whole = record { list = list; limit = limit; whole = whole }

-- the links of such lists
abbrev pub links_in : List (Vec Link) → List Link
links_in lists = flat_map (λ (list : Vec Link). list.items) lists

-- the list is by the definitions and then by the references, each pair once
abbrev pub AreInOrder : Vec Link → Type 0
AreInOrder list = IsStrictlySortedBy by_link list.items
