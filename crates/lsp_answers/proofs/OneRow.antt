-- Rows of one node are equal, where no two files have the same path; and rows in order are told by those that are among
-- them.
use Rattle.std.proofs.Common.{◌≡◌, ◌≢◌, ◌∙◌, ℕ, zero, suc, List, [], ◌∷◌, Option, Some, None, option_map, slice_get, Contains, refl, sym, ap, subst}
use Rattle.std.specs.Prelude.{IsSomeAnd}
use Rattle.std.specs.List.{AllByRecursion}
use Rattle.std.specs.Option.{option_and_then, option_map_or}
use Rattle.std.specs.declared.cmp.Ordering.TheVariants.{Less}
use Rattle.std.proofs.lemmas.Option.{none-some, same_Some, slice_get-map}
use Rattle.list_facts.specs.Members.{IsIn}
use Rattle.list_facts.proofs.Members.{IsIn-from_Contains, Contains-from_IsIn}
use Rattle.list_facts.proofs.Orders as orders
use Rattle.graph_nodes.specs.declared.node.Node.{Node}
use Rattle.graph_nodes.specs.Graph.{Graph}
use Rattle.graph_nodes.specs.Whole.{node_of}
use Rattle.version_tree.specs.declared.row.Row.{Row}
use Rattle.version_tree.specs.Graphs.{GraphRow}
use Rattle.whole_search.specs.declared.found.Hit.{Hit}
use Rattle.nav_answers.specs.Replies.{graphs_in, row_of}
use Rattle.row_sets.specs.Rows.{place_cmp, AreRising, HasNode, AreInOrder}
use Rattle.row_sets.proofs.InOrder.{place_total}
use Rattle.row_sets.proofs.Rising.{Rises, same_rising}
use Rattle.lsp_answers.specs.Laws.{HavePathsApart}

-- ---- rows of files that are there

-- what holds of each file holds of the one with a number
at_number : (P : GraphRow → Type 0) (files : List GraphRow) (n : ℕ) (f : GraphRow) → AllByRecursion P files → slice_get files n ≡ Some f → P f
at_number P [] zero f all e = absurd (none-some f e)
at_number P [] (suc n) f all e = absurd (none-some f e)
at_number P (x ∷ files) zero f all e = subst P (same_Some x f e) all.0
at_number P (x ∷ files) (suc n) f all e = at_number P files n f all.1 e

-- of two files with one path there is one number
one_number : (files : List GraphRow) (m n : ℕ) (f g : GraphRow) → HavePathsApart files → slice_get files m ≡ Some f → slice_get files n ≡ Some g → f.path ≡ g.path → m ≡ n
one_number [] zero n f g apart e k same = absurd (none-some f e)
one_number [] (suc m) n f g apart e k same = absurd (none-some f e)
one_number (x ∷ files) zero zero f g apart e k same = refl
one_number (x ∷ files) zero (suc n) f g apart e k same =
    absurd (at_number (λ (later : GraphRow). x.path ≢ later.path) files n g apart.0 k (ap (λ (y : GraphRow). y.path) (same_Some x f e) ∙ same))
one_number (x ∷ files) (suc m) zero f g apart e k same =
    absurd (at_number (λ (later : GraphRow). x.path ≢ later.path) files m f apart.0 e (ap (λ (y : GraphRow). y.path) (same_Some x g k) ∙ sym same))
one_number (x ∷ files) (suc m) (suc n) f g apart e k same = ap suc (one_number files m n f g apart.1 e k same)

-- the row is one of a node of a file that is there
pub record IsOfFile (files : List GraphRow) (row : Row) : Type 0 where
  pub hit : Hit
  pub file : GraphRow
  pub there : slice_get files hit.file ≡ Some file
  pub is : row ≡ row_of files hit

path_is : (files : List GraphRow) (row : Row) (h : IsOfFile files row) → row.path ≡ h.file.path
path_is files row h = ap (λ (r : Row). r.path) h.is ∙ ap (λ o. option_map_or (λ (f : GraphRow). f.path) o []) h.there

same_hit : (h k : Hit) → h.file ≡ k.file → h.node ≡ k.node → h ≡ k
same_hit h k file node = λ i. record { file = file i; node = node i }

pub one_row : (files : List GraphRow) (a b : Row) → HavePathsApart files → IsOfFile files a → IsOfFile files b → a.path ≡ b.path → a.node ≡ b.node → a ≡ b
one_row files a b apart h k path node =
    let number : h.hit.file ≡ k.hit.file = one_number files h.hit.file k.hit.file h.file k.file apart h.there k.there (sym (path_is files a h) ∙ path ∙ path_is files b k) in
    let at : h.hit.node ≡ k.hit.node = sym (ap (λ (r : Row). r.node) h.is) ∙ node ∙ ap (λ (r : Row). r.node) k.is in
    h.is ∙ ap (row_of files) (same_hit h.hit k.hit number at) ∙ sym k.is

-- the file is there where its graph is
pub file_there : (files : List GraphRow) (n : ℕ) (g : Graph) → slice_get (graphs_in files) n ≡ Some g → (f : GraphRow) × (slice_get files n ≡ Some f)
file_there files n g e = by (slice_get files n) refl (sym (slice_get-map (λ (row : GraphRow). row.graph) files n) ∙ e)
  where
    by : (o : Option GraphRow) → slice_get files n ≡ o → option_map (λ (row : GraphRow). row.graph) o ≡ Some g → (f : GraphRow) × (slice_get files n ≡ Some f)
    by None is k = absurd (none-some g k)
    by (Some f) is k = (f, is)

-- and where it has a node with a property
pub node_there : {X : Type 0} (files : List GraphRow) (n at : ℕ) (then : Node → Option X) (P : X → Type 0)
    → IsSomeAnd (option_and_then then (node_of (graphs_in files) n at)) P → (f : GraphRow) × (slice_get files n ≡ Some f)
node_there files n at then P h = by (slice_get (graphs_in files) n) refl h
  where
    by : (o : Option Graph) → slice_get (graphs_in files) n ≡ o
        → IsSomeAnd (option_and_then then (option_and_then (λ (g : Graph). slice_get g.nodes at) o)) P → (f : GraphRow) × (slice_get files n ≡ Some f)
    by None is k = absurd k
    by (Some g) is k = file_there files n g is

-- ---- rows in order

not_both : (a b : Row) → place_cmp a b ≡ Less → place_cmp b a ≡ Less → ⊥
not_both a b less more = let greater = orders.less_flipped place_total a b less in cc

rises : (rows : List Row) → AreRising rows → Rises (λ (row : Row) (later : Row). place_cmp row later ≡ Less) rows
rises [] up = tt
rises (row ∷ rows) up = (up.0, rises rows up.1)

in_both : (files : List GraphRow) (all rows others : List Row) (p : Row) → HavePathsApart files → ((row : Row) → IsIn row all → IsOfFile files row)
    → AreInOrder all rows → AreInOrder all others → IsIn p rows → IsIn p others
in_both files all rows others p apart of_file a b m =
    let inside : Contains all p = a.among p (Contains-from_IsIn rows p m) in
    let found : HasNode others p = b.whole p inside in
    let same : found.0 ≡ p = one_row files found.0 p apart (of_file found.0 (IsIn-from_Contains all found.0 (b.among found.0 found.1)))
    (of_file p (IsIn-from_Contains all p inside)) found.2 found.3 in
    subst (λ (r : Row). IsIn r others) same (IsIn-from_Contains others found.0 found.1)

-- rows in order are told by the rows of which they are
pub one_order : (files : List GraphRow) (all rows others : List Row) → HavePathsApart files → ((row : Row) → IsIn row all → IsOfFile files row)
    → AreInOrder all rows → AreInOrder all others → rows ≡ others
one_order files all rows others apart of_file a b =
    same_rising (λ (row : Row) (later : Row). place_cmp row later ≡ Less) not_both rows others (rises rows a.rising) (rises others b.rising)
    (λ p m. in_both files all rows others p apart of_file a b m) (λ p m. in_both files all others rows p apart of_file b a m)
