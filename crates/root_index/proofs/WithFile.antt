-- Putting the paths of a file into an index, one after the other, and those of all files that edits touch.
use Rattle.std.proofs.Common.{◌≡◌, refl, sym, ◌∙◌, ap, subst, ℕ, ◌+◌, ◌<◌, List, [], ◌∷◌, ◌++◌, length, take, get_or, Bool, true, false, cond, Option, Some, None, arith}
use Rattle.std.specs.Prelude.{◌||◌}
use Rattle.std.specs.List.{filter, prefix_len, insert}
use Rattle.std.specs.List.Sorted.{IsPermutation}
use Rattle.std.specs.Option.{option_map_or}
use Rattle.std.specs.Ordering.{is_lt, is_le, is_eq, ordering_reverse}
use Rattle.std.specs.declared.cmp.Ordering.{Ordering}
use Rattle.std.specs.declared.cmp.Ordering.TheVariants.{Less, Equal, Greater}
use Rattle.std.proofs.lemmas.Bool.{false≢true}
use Rattle.std.proofs.lemmas.Grind.{flat_map-append}
use Rattle.std.proofs.lemmas.List.{append_assoc, append-nil}
use Rattle.std.proofs.lemmas.List.Sums.{prefix_len_passes, prefix_len_stops, prefix_len-le-length}
use Rattle.std.proofs.lemmas.List.Sorted.{IsPermutation-refl, IsPermutation-sym, IsPermutation-trans, IsPermutation-cons, IsPermutation-middle, IsPermutation-insert, IsPermutation-append_left, IsPermutation-append_right, IsPermutation-append_comm}
use Rattle.partial_path.specs.PathSets.{FileRules}
use Rattle.partial_path.proofs.Halved.{filter_same}
use Rattle.version_tree.specs.declared.edit.Edit.{Edit}
use Rattle.version_tree.specs.Contents.{FileRow, file_row, path_cmp, Content, IsInOrder, edited_all}
use Rattle.version_tree.specs.Views.{file_with}
use Rattle.root_index.specs.Roots.{RootPath, rank, rank_cmp, AreByRank, roots_of, all_roots, IsIndexOf}
use Rattle.root_index.specs.Amended.{edit_path, names, is_touched, touched_rows, other_paths, rows_at}
use Rattle.root_index.specs.Blocks.{is_up_to}
use Rattle.root_index.proofs.Amended.{amended_is}
use Rattle.root_index.proofs.KeyOrders.{rank_cmp_total}
use Rattle.root_index.proofs.Ranked.{insert_sorted}
use Rattle.root_index.proofs.Seen.{given_in_any_order}
use Rattle.root_index.proofs.WithoutFile.{same_file, rows_at_are, touched_more}

-- a path put in behind those that stand no higher leaves them in order
low_is : (a b : RootPath) → is_le (rank_cmp (rank a) (rank b)) ≡ true → is_lt (rank_cmp (rank b) (rank a)) ≡ false
low_is a b e = ap is_lt (rank_cmp_total.antisymm (rank b) (rank a)) ∙ by (rank_cmp (rank a) (rank b)) e
  where
    by : (r : Ordering) → is_le r ≡ true → is_lt (ordering_reverse r) ≡ false
    by Less e = refl
    by Equal e = refl
    by Greater e = absurd (false≢true e)

high_is : (r : Ordering) → is_le r ≡ false → is_lt r ≡ false
high_is Less e = absurd (false≢true (sym e))
high_is Equal e = refl
high_is Greater e = refl

pub order_with : (ps : List RootPath) (p : RootPath) → AreByRank ps → AreByRank (insert ps (prefix_len (is_up_to p) ps) p)
order_with ps p sorted =
    insert_sorted (λ (a : RootPath) (b : RootPath). is_lt (rank_cmp (rank a) (rank b))) ps (prefix_len (is_up_to p) ps) p (prefix_len-le-length (is_up_to p) ps) sorted
    (λ k d e. low_is (get_or ps k d) p (prefix_len_passes (is_up_to p) ps k d (omega (arith, e))))
    (λ d h. high_is (rank_cmp (rank (get_or ps (prefix_len (is_up_to p) ps) d)) (rank p)) (prefix_len_stops (is_up_to p) ps d h))

-- of what is to be put in, then what is there, the first is put in
pub one_in : (whole next ps : List RootPath) (p : RootPath) (n : ℕ) → IsPermutation whole (p ∷ (next ++ ps)) → IsPermutation whole (next ++ insert ps n p)
one_in whole next ps p n all =
    IsPermutation-trans whole (p ∷ (next ++ ps)) (next ++ insert ps n p) all
    (IsPermutation-trans (p ∷ (next ++ ps)) (next ++ p ∷ ps) (next ++ insert ps n p)
    (IsPermutation-sym (next ++ p ∷ ps) (p ∷ (next ++ ps)) (IsPermutation-middle next p ps))
    (IsPermutation-append_right next (p ∷ ps) (insert ps n p) (IsPermutation-insert ps n p)))

-- what is taken up by itself, and then put to what is there
pub put_to : (touched none added before after : List RootPath) → none ≡ [] → IsPermutation (touched ++ none) added → IsPermutation (added ++ before) after → IsPermutation (touched ++ before) after
put_to touched none added before after empty taken all =
    IsPermutation-trans (touched ++ before) (added ++ before) after
    (IsPermutation-append_left before touched added
    (subst (λ ps. IsPermutation ps added) (append-nil touched) (subst (λ ps. IsPermutation (touched ++ ps) added) empty taken))) all

-- those that pass one of two tests that nothing passes both of
apart_or : {X : Type 0} (a b : X → Bool) → ((x : X) → b x ≡ true → a x ≡ false) → (xs : List X) → IsPermutation (filter (λ x. a x || b x) xs) (filter b xs ++ filter a xs)
apart_or a b apart [] = IsPermutation-refl []
apart_or {X} a b apart (x ∷ xs) = by (a x) refl (b x) refl (apart_or a b apart xs)
  where
    parts : Bool → Bool → Type 0
    parts c d = IsPermutation (cond (c || d) (x ∷ filter (λ x. a x || b x) xs) (filter (λ x. a x || b x) xs)) (cond d (x ∷ filter b xs) (filter b xs) ++ cond c (x ∷ filter a xs) (filter a xs))

    by : (c : Bool) → a x ≡ c → (d : Bool) → b x ≡ d → IsPermutation (filter (λ x. a x || b x) xs) (filter b xs ++ filter a xs) → parts (a x) (b x)
    by true e true f rest = absurd (false≢true (sym (apart x f) ∙ e))
    by true e false f rest =
        subst (λ c. parts c (b x)) (sym e) (subst (λ d. parts true d) (sym f)
        (IsPermutation-trans (x ∷ filter (λ x. a x || b x) xs) (x ∷ (filter b xs ++ filter a xs)) (filter b xs ++ x ∷ filter a xs)
        (IsPermutation-cons x (filter (λ x. a x || b x) xs) (filter b xs ++ filter a xs) rest)
        (IsPermutation-sym (filter b xs ++ x ∷ filter a xs) (x ∷ (filter b xs ++ filter a xs)) (IsPermutation-middle (filter b xs) x (filter a xs)))))
    by false e true f rest =
        subst (λ c. parts c (b x)) (sym e) (subst (λ d. parts false d) (sym f)
        (IsPermutation-cons x (filter (λ x. a x || b x) xs) (filter b xs ++ filter a xs) rest))
    by false e false f rest = subst (λ c. parts c (b x)) (sym e) (subst (λ d. parts false d) (sym f) rest)

-- the paths of the rows that the edits so far touch, with what was there
module _ (edits : List Edit) (i : ℕ) (edit : Edit) (rows : List FileRow) (h : i < length edits) (is : get_or edits i edit ≡ edit) where
  -- an edit of a file that none before names
  pub edit_in : (path : List ℕ) → Some path ≡ edit_path edit → is_touched (take i edits) path ≡ false → (start before after : List RootPath)
      → IsPermutation (all_roots (touched_rows (take i edits) rows) ++ start) before → IsPermutation (all_roots (rows_at path rows) ++ before) after
      → IsPermutation (all_roots (touched_rows (take (i + 1) edits) rows) ++ start) after
  edit_in path named first start before after so_far added =
      let some : List RootPath = all_roots (touched_rows (take i edits) rows) in
      let here : List RootPath = all_roots (rows_at path rows) in
      let rows_are : touched_rows (take (i + 1) edits) rows ≡ filter (λ (row : FileRow). is_touched (take i edits) row.path || is_eq (path_cmp path row.path)) rows
      = filter_same (λ (row : FileRow). is_touched (take (i + 1) edits) row.path) (λ (row : FileRow). is_touched (take i edits) row.path || is_eq (path_cmp path row.path))
      (λ row. touched_more edits i edit row.path h is ∙ ap (λ (o : Option (List ℕ)). is_touched (take i edits) row.path || option_map_or (λ (other : List ℕ). is_eq (path_cmp other row.path)) o false) (sym named)) rows in
      let split : IsPermutation (touched_rows (take (i + 1) edits) rows) (rows_at path rows ++ touched_rows (take i edits) rows)
      = subst (λ rs. IsPermutation rs (rows_at path rows ++ touched_rows (take i edits) rows)) (sym rows_are)
      (apart_or (λ (row : FileRow). is_touched (take i edits) row.path) (λ (row : FileRow). is_eq (path_cmp path row.path))
      (λ row e. ap (is_touched (take i edits)) (sym (same_file path row.path e)) ∙ first) rows) in
      let both : IsPermutation (all_roots (touched_rows (take (i + 1) edits) rows)) (here ++ some)
      = subst (λ ps. IsPermutation (all_roots (touched_rows (take (i + 1) edits) rows)) ps) (flat_map-append roots_of (rows_at path rows) (touched_rows (take i edits) rows))
      (given_in_any_order roots_of (touched_rows (take (i + 1) edits) rows) (rows_at path rows ++ touched_rows (take i edits) rows) split) in
      IsPermutation-trans (all_roots (touched_rows (take (i + 1) edits) rows) ++ start) (here ++ (some ++ start)) after
      (subst (λ ps. IsPermutation (all_roots (touched_rows (take (i + 1) edits) rows) ++ start) ps) (append_assoc here some start)
      (IsPermutation-append_left start (all_roots (touched_rows (take (i + 1) edits) rows)) (here ++ some) both))
      (IsPermutation-trans (here ++ (some ++ start)) (here ++ before) after (IsPermutation-append_right here (some ++ start) before so_far) added)

  -- an edit that touches no further file
  no_further : ((path : List ℕ) → names path edit ≡ true → is_touched (take i edits) path ≡ true) → touched_rows (take i edits) rows ≡ touched_rows (take (i + 1) edits) rows
  no_further known =
      filter_same (λ (row : FileRow). is_touched (take i edits) row.path) (λ (row : FileRow). is_touched (take (i + 1) edits) row.path)
      (λ row. sym (touched_more edits i edit row.path h is ∙ one (is_touched (take i edits) row.path) (names row.path edit) (known row.path))) rows
    where
      one : (a b : Bool) → (b ≡ true → a ≡ true) → a || b ≡ a
      one true b k = refl
      one false true k = sym (k refl)
      one false false k = refl

  pub again_in : (path : List ℕ) → Some path ≡ edit_path edit → is_touched (take i edits) path ≡ true → touched_rows (take i edits) rows ≡ touched_rows (take (i + 1) edits) rows
  again_in path named known =
      no_further (λ q e. ap (is_touched (take i edits)) (sym (same_file path q (ap (λ (o : Option (List ℕ)). option_map_or (λ (other : List ℕ). is_eq (path_cmp other q)) o false) named ∙ e))) ∙ known)

  pub other_in : None ≡ edit_path edit → touched_rows (take i edits) rows ≡ touched_rows (take (i + 1) edits) rows
  other_in none =
      no_further (λ q e. absurd (false≢true (ap (λ (o : Option (List ℕ)). option_map_or (λ (other : List ℕ). is_eq (path_cmp other q)) o false) none ∙ e)))

-- at first no edit touches a row
pub none_touched : (rows : List FileRow) → touched_rows [] rows ≡ []
none_touched [] = refl
none_touched (row ∷ rows) = none_touched rows

-- the paths of the file at a path, where there is one
pub rows_of_file : (path : List ℕ) (rows : List FileRow) (file : FileRules) (row : FileRow) → IsInOrder rows → Some file ≡ file_with path rows → row ≡ file_row path file
    → all_roots (rows_at path rows) ≡ roots_of row
rows_of_file path rows file row order e is =
    ap all_roots (rows_at_are path rows (Some file) order e) ∙ append-nil (roots_of (file_row path file)) ∙ ap roots_of (sym is)

pub no_file_in : (path : List ℕ) (rows : List FileRow) (start : List RootPath) → IsInOrder rows → None ≡ file_with path rows → IsPermutation (all_roots (rows_at path rows) ++ start) start
no_file_in path rows start order e =
    subst (λ rs. IsPermutation (all_roots rs ++ start) start) (sym (rows_at_are path rows None order e)) (IsPermutation-refl start)

-- the paths of untouched files, with those of the touched rows, are all paths of the new rows
pub amended_all : (edits : List Edit) (v : Content) (rows : List FileRow) (paths rest after : List RootPath) → IsIndexOf v.rows paths → rows ≡ (edited_all edits v).rows
    → rest ≡ other_paths edits paths → IsPermutation (all_roots (touched_rows edits rows) ++ rest) after → IsPermutation (all_roots rows) after
amended_all edits v rows paths rest after index e kept added =
    IsPermutation-trans (all_roots rows) (other_paths edits paths ++ all_roots (touched_rows edits rows)) after
    (amended_is edits v rows paths index e)
    (IsPermutation-trans (other_paths edits paths ++ all_roots (touched_rows edits rows)) (all_roots (touched_rows edits rows) ++ other_paths edits paths) after
    (IsPermutation-append_comm (other_paths edits paths) (all_roots (touched_rows edits rows)))
    (subst (λ ps. IsPermutation (all_roots (touched_rows edits rows) ++ ps) after) kept added))
