-- What a user sees as a source of stored paths: files by number, and the index of those from the root.
use Rattle.std.specs.Prelude.{◌≡◌, ℕ, List}
use Rattle.stacks_vars.specs.declared.items.SymbolItem.{SymbolItem}
use Rattle.partial_path.specs.declared.file_list.ListOffers.{ListOffers}
use Rattle.partial_path.specs.declared.offers.FileOffers.{FileOffers}
use Rattle.partial_path.specs.Rules.{Rule}
use Rattle.partial_path.specs.Offers.{offers_here}
use Rattle.graph_nodes.specs.Graph.{Graph}
use Rattle.partial_path.specs.Sources.{graphs_of}
use Rattle.version_tree.specs.Contents.{FileRow}
use Rattle.root_index.specs.Roots.{RootPath}
use Rattle.root_index.specs.Offers.{files_of}
use Rattle.root_index.specs.Offers as roots
use Rattle.root_index.specs.SeenFiles.{AreSeenFiles}
use Rattle.nav_answers.specs.declared.source.ForMany.{ForMany}
use Rattle.nav_answers.specs.declared.source.ViewOffers.{ViewOffers}
use Rattle.nav_answers.specs.declared.source.ViewOffers.TheVariants.{Inside, Roots}

-- the files that are seen, and the paths of the index
pub record Seen : Type 0 where
  pub rows : List FileRow
  pub paths : List RootPath

-- what is seen, of these rows and paths
abbrev pub seen_of : List FileRow → List RootPath → Seen
seen_of rows paths = record { rows = rows; paths = paths }

-- what a look-up that stands there still offers: of one file, or from the root
abbrev pub offers_left : Seen → List SymbolItem → ViewOffers → List (ℕ × Rule)
offers_left s symbols (Inside at) = offers_here (files_of s.rows) symbols at
offers_left s symbols (Roots at) = roots.offers_left at symbols s.rows s.paths

-- a look-up in the file with that number
abbrev pub in_file : ℕ → FileOffers → ListOffers
in_file file inside = record { file = file; inside = inside }

-- the graphs of the files that are seen
abbrev pub graphs_seen : List FileRow → List Graph
graphs_seen rows = graphs_of (files_of rows)

-- what serves look-ups in these rows by the index
pub record IsForMany (rows : List FileRow) (paths : List RootPath) (many : ForMany) : Type 0 where
  pub numbers : AreSeenFiles paths rows many.numbers
  pub table : many.table ≡ files_of rows
