-- What edits make of an index: the paths of the files that they don't touch stay, and those of the files that they
-- touch are those of the new rows.
use Rattle.std.proofs.Common.{◌≡◌, refl, sym, ◌∙◌, ap, subst, ℕ, ◌+◌, List, [], ◌∷◌, ◌++◌, Bool, true, false, cond, not, Some}
use Rattle.std.specs.List.{filter, flat_map}
use Rattle.std.specs.List.Sorted.{IsPermutation}
use Rattle.std.specs.Ordering.{is_lt, is_eq, is_gt}
use Rattle.std.specs.declared.cmp.Ordering.{Ordering}
use Rattle.std.specs.declared.cmp.Ordering.TheVariants.{Less, Equal, Greater}
use Rattle.std.proofs.lemmas.Bool.{or_left, or_right}
use Rattle.std.proofs.lemmas.Cmp.{nat_list_cmp_total, tied_itself}
use Rattle.std.proofs.lemmas.Grind.{flat_map-append}
use Rattle.std.proofs.lemmas.List.Elements.{filter-append}
use Rattle.std.proofs.lemmas.List.Sorted.{IsPermutation-refl, IsPermutation-sym, IsPermutation-trans, IsPermutation-cons, IsPermutation-middle, IsPermutation-append_left, IsPermutation-filter_both}
use Rattle.partial_path.specs.Rules.{Rule}
use Rattle.partial_path.specs.PathSets.{FileRules}
use Rattle.partial_path.specs.Starts.{begins_at}
use Rattle.version_tree.specs.declared.edit.Edit.{Edit}
use Rattle.version_tree.specs.declared.edit.Edit.TheVariants.{Put, Remove, Grant, Revoke, Deny, Undeny}
use Rattle.version_tree.specs.Contents.{FileRow, file_row, Content, path_cmp, with_row, without_row, rowed, edited, edited_all}
use Rattle.root_index.specs.Roots.{RootPath, root, root_path, roots_from, roots_of, all_roots, IsIndexOf}
use Rattle.root_index.specs.Amended.{names, is_touched}
use Rattle.root_index.proofs.Seen.{given_in_any_order, seen_rows, same_path}

-- rows below a path and above it
abbrev lows : List ℕ → List FileRow → List FileRow
lows path rows = filter (λ (row : FileRow). is_lt (path_cmp row.path path)) rows

abbrev highs : List ℕ → List FileRow → List FileRow
highs path rows = filter (λ (row : FileRow). is_gt (path_cmp row.path path)) rows

-- a row with a path that isn't kept
row_out : (u : List ℕ → Bool) (path : List ℕ) (row : FileRow) (rows : List FileRow) → u path ≡ false → path_cmp row.path path ≡ Equal → seen_rows u (row ∷ rows) ≡ seen_rows u rows
row_out u path row rows out e = ap (λ b. cond b (row ∷ seen_rows u rows) (seen_rows u rows)) (ap u (same_path row.path path e) ∙ out)

kept_without : (u : List ℕ → Bool) (path : List ℕ) → u path ≡ false → (rows : List FileRow) → seen_rows u (without_row path rows) ≡ seen_rows u rows
kept_without u path out [] = refl
kept_without u path out (row ∷ rows) = by (path_cmp row.path path) refl (kept_without u path out rows)
  where
    here : (o : Ordering) → path_cmp row.path path ≡ o
        → seen_rows u (without_row path (row ∷ rows)) ≡ seen_rows u (cond (not (is_eq o)) (row ∷ without_row path rows) (without_row path rows))
    here o e = ap (λ o. seen_rows u (cond (not (is_eq o)) (row ∷ without_row path rows) (without_row path rows))) e

    by : (o : Ordering) → path_cmp row.path path ≡ o → seen_rows u (without_row path rows) ≡ seen_rows u rows → seen_rows u (without_row path (row ∷ rows)) ≡ seen_rows u (row ∷ rows)
    by Less e rest = here Less e ∙ ap (λ rs. cond (u row.path) (row ∷ rs) rs) rest
    by Equal e rest = here Equal e ∙ rest ∙ sym (row_out u path row rows out e)
    by Greater e rest = here Greater e ∙ ap (λ rs. cond (u row.path) (row ∷ rs) rs) rest

-- one more in front, or not
one_low : {X : Type 0} (b : Bool) (x : X) (xs ys zs : List X) → IsPermutation xs (ys ++ zs) → IsPermutation (cond b (x ∷ xs) xs) (cond b (x ∷ ys) ys ++ zs)
one_low true x xs ys zs same = IsPermutation-cons x xs (ys ++ zs) same
one_low false x xs ys zs same = same

one_high : {X : Type 0} (b : Bool) (x : X) (xs ys zs : List X) → IsPermutation xs (ys ++ zs) → IsPermutation (cond b (x ∷ xs) xs) (ys ++ cond b (x ∷ zs) zs)
one_high true x xs ys zs same =
    IsPermutation-trans (x ∷ xs) (x ∷ (ys ++ zs)) (ys ++ x ∷ zs) (IsPermutation-cons x xs (ys ++ zs) same)
    (IsPermutation-sym (ys ++ x ∷ zs) (x ∷ (ys ++ zs)) (IsPermutation-middle ys x zs))
one_high false x xs ys zs same = same

-- the rows that are kept are those below the path and those above it
kept_parts : (u : List ℕ → Bool) (path : List ℕ) → u path ≡ false → (rows : List FileRow)
    → IsPermutation (seen_rows u rows) (seen_rows u (lows path rows) ++ seen_rows u (highs path rows))
kept_parts u path out [] = IsPermutation-refl []
kept_parts u path out (row ∷ rows) = by (path_cmp row.path path) refl (kept_parts u path out rows)
  where
    parts : Ordering → List FileRow
    parts o = seen_rows u (cond (is_lt o) (row ∷ lows path rows) (lows path rows)) ++ seen_rows u (cond (is_gt o) (row ∷ highs path rows) (highs path rows))

    by : (o : Ordering) → path_cmp row.path path ≡ o → IsPermutation (seen_rows u rows) (seen_rows u (lows path rows) ++ seen_rows u (highs path rows))
        → IsPermutation (seen_rows u (row ∷ rows)) (parts (path_cmp row.path path))
    by Less e rest = subst (λ o. IsPermutation (seen_rows u (row ∷ rows)) (parts o)) (sym e) (one_low (u row.path) row _ _ _ rest)
    by Equal e rest =
        subst (λ o. IsPermutation (seen_rows u (row ∷ rows)) (parts o)) (sym e)
        (subst (λ rs. IsPermutation rs (seen_rows u (lows path rows) ++ seen_rows u (highs path rows))) (sym (row_out u path row rows out e)) rest)
    by Greater e rest = subst (λ o. IsPermutation (seen_rows u (row ∷ rows)) (parts o)) (sym e) (one_high (u row.path) row _ _ _ rest)

kept_with : (u : List ℕ → Bool) (path : List ℕ) (file : FileRules) → u path ≡ false → (rows : List FileRow)
    → IsPermutation (seen_rows u rows) (seen_rows u (with_row path file rows))
kept_with u path file out rows =
    let apart : seen_rows u (with_row path file rows) ≡ seen_rows u (lows path rows) ++ seen_rows u (highs path rows)
    = filter-append (λ (row : FileRow). u row.path) (lows path rows) (file_row path file ∷ highs path rows)
    ∙ ap (λ b. seen_rows u (lows path rows) ++ cond b (file_row path file ∷ seen_rows u (highs path rows)) (seen_rows u (highs path rows))) out in
    subst (λ rs. IsPermutation (seen_rows u rows) rs) (sym apart) (kept_parts u path out rows)

-- a path that an edit names
named : (path : List ℕ) → is_eq (path_cmp path path) ≡ true
named path = ap is_eq (tied_itself nat_list_cmp_total path)

kept_edit : (u : List ℕ → Bool) (edit : Edit) (rows : List FileRow) → ((path : List ℕ) → names path edit ≡ true → u path ≡ false)
    → IsPermutation (seen_rows u rows) (seen_rows u (rowed edit rows))
kept_edit u (Put path paths) rows out = kept_with u path paths (out path (named path)) rows
kept_edit u (Remove path) rows out =
    subst (λ rs. IsPermutation (seen_rows u rows) rs) (sym (kept_without u path (out path (named path)) rows)) (IsPermutation-refl (seen_rows u rows))
kept_edit u (Grant user prefix) rows out = IsPermutation-refl (seen_rows u rows)
kept_edit u (Revoke user prefix) rows out = IsPermutation-refl (seen_rows u rows)
kept_edit u (Deny user prefix) rows out = IsPermutation-refl (seen_rows u rows)
kept_edit u (Undeny user prefix) rows out = IsPermutation-refl (seen_rows u rows)

kept_edits : (u : List ℕ → Bool) (edits : List Edit) (v : Content) → ((path : List ℕ) → is_touched edits path ≡ true → u path ≡ false)
    → IsPermutation (seen_rows u v.rows) (seen_rows u (edited_all edits v).rows)
kept_edits u [] v out = IsPermutation-refl (seen_rows u v.rows)
kept_edits u (edit ∷ edits) v out =
    IsPermutation-trans (seen_rows u v.rows) (seen_rows u (rowed edit v.rows)) (seen_rows u (edited_all edits (edited edit v)).rows)
    (kept_edit u edit v.rows (λ path e. out path (or_left _ _ e)))
    (kept_edits u edits (edited edit v) (λ path e. out path (or_right _ _ e)))

-- the paths of the rows that are kept are the paths that are kept
abbrev kept_paths : (List ℕ → Bool) → List RootPath → List RootPath
kept_paths u paths = filter (λ (p : RootPath). u p.path) paths

one_in : (t : RootPath → Bool) (b c : Bool) (p : RootPath) (ps qs : List RootPath) → t p ≡ b → filter t ps ≡ cond b qs []
    → filter t (cond c (p ∷ []) [] ++ ps) ≡ cond b (cond c (p ∷ []) [] ++ qs) []
one_in t true true p ps qs e rest = ap (λ b. cond b (p ∷ filter t ps) (filter t ps)) e ∙ ap (λ rs. p ∷ rs) rest
one_in t false true p ps qs e rest = ap (λ b. cond b (p ∷ filter t ps) (filter t ps)) e ∙ rest
one_in t true false p ps qs e rest = rest
one_in t false false p ps qs e rest = rest

paths_in : (u : List ℕ → Bool) (b : Bool) (path : List ℕ) (place : ℕ) (rules : List Rule) → u path ≡ b
    → kept_paths u (roots_from path place rules) ≡ cond b (roots_from path place rules) []
paths_in u true path place [] e = refl
paths_in u false path place [] e = refl
paths_in u b path place (rule ∷ rules) e =
    one_in (λ (p : RootPath). u p.path) b (begins_at root rule) (root_path path place (Some rule)) (roots_from path (place + 1) rules) (roots_from path (place + 1) rules) e
    (paths_in u b path (place + 1) rules e)

paths_kept : (u : List ℕ → Bool) (rows : List FileRow) → kept_paths u (all_roots rows) ≡ all_roots (seen_rows u rows)
paths_kept u [] = refl
paths_kept u (row ∷ rows) =
    filter-append (λ (p : RootPath). u p.path) (roots_of row) (all_roots rows)
    ∙ (λ i. paths_in u (u row.path) row.path 0 row.file.rules refl i ++ paths_kept u rows i)
    ∙ one (u row.path) (seen_rows u rows)
  where
    one : (b : Bool) (rs : List FileRow) → cond b (roots_of row) [] ++ all_roots rs ≡ all_roots (cond b (row ∷ rs) rs)
    one true rs = refl
    one false rs = refl

-- those that pass a test, in any order
filter_is : {X : Type 0} (p : X → Bool) (xs : List X) → flat_map (λ x. cond (p x) (x ∷ []) []) xs ≡ filter p xs
filter_is p [] = refl
filter_is {X} p (x ∷ xs) = ap (λ ys. cond (p x) (x ∷ []) [] ++ ys) (filter_is p xs) ∙ one (p x) (filter p xs)
  where
    one : (b : Bool) (ys : List X) → cond b (x ∷ []) [] ++ ys ≡ cond b (x ∷ ys) ys
    one true ys = refl
    one false ys = refl

pub pass_in_any_order : {X : Type 0} (p : X → Bool) (xs ys : List X) → IsPermutation xs ys → IsPermutation (filter p xs) (filter p ys)
pass_in_any_order p xs ys same =
    subst (λ zs. IsPermutation zs (filter p ys)) (filter_is p xs)
    (subst (λ zs. IsPermutation (flat_map (λ x. cond (p x) (x ∷ []) []) xs) zs) (filter_is p ys) (given_in_any_order (λ x. cond (p x) (x ∷ []) []) xs ys same))

not_twice : (b : Bool) → b ≡ not (not b)
not_twice true = refl
not_twice false = refl

not_true : (b : Bool) → b ≡ true → not b ≡ false
not_true b e = ap not e

-- the paths of the files that no edit touches, and those of the new rows that one does
pub amended_is : (edits : List Edit) (v : Content) (rows : List FileRow) (paths : List RootPath) → IsIndexOf v.rows paths → rows ≡ (edited_all edits v).rows
    → IsPermutation (all_roots rows) (kept_paths (λ path. not (is_touched edits path)) paths ++ all_roots (seen_rows (is_touched edits) rows))
amended_is edits v rows paths index e =
    let u : List ℕ → Bool = λ path. not (is_touched edits path) in
    let split : IsPermutation rows (seen_rows u rows ++ seen_rows (is_touched edits) rows)
    = IsPermutation-filter_both (λ (row : FileRow). u row.path) (λ (row : FileRow). is_touched edits row.path) (λ row. not_twice (is_touched edits row.path)) rows in
    let same_rows : IsPermutation (seen_rows u v.rows) (seen_rows u rows)
    = subst (λ rs. IsPermutation (seen_rows u v.rows) (seen_rows u rs)) (sym e) (kept_edits u edits v (λ path t. not_true (is_touched edits path) t)) in
    let same_paths : IsPermutation (all_roots (seen_rows u v.rows)) (kept_paths u paths)
    = subst (λ ps. IsPermutation ps (kept_paths u paths)) (paths_kept u v.rows) (pass_in_any_order (λ (p : RootPath). u p.path) (all_roots v.rows) paths index.all) in
    let untouched : IsPermutation (all_roots (seen_rows u rows)) (kept_paths u paths)
    = IsPermutation-trans (all_roots (seen_rows u rows)) (all_roots (seen_rows u v.rows)) (kept_paths u paths)
    (IsPermutation-sym (all_roots (seen_rows u v.rows)) (all_roots (seen_rows u rows)) (given_in_any_order roots_of (seen_rows u v.rows) (seen_rows u rows) same_rows)) same_paths in
    IsPermutation-trans (all_roots rows) (all_roots (seen_rows u rows) ++ all_roots (seen_rows (is_touched edits) rows)) (kept_paths u paths ++ all_roots (seen_rows (is_touched edits) rows))
    (subst (λ ps. IsPermutation (all_roots rows) ps) (flat_map-append roots_of (seen_rows u rows) (seen_rows (is_touched edits) rows))
    (given_in_any_order roots_of rows (seen_rows u rows ++ seen_rows (is_touched edits) rows) split))
    (IsPermutation-append_left (all_roots (seen_rows (is_touched edits) rows)) (all_roots (seen_rows u rows)) (kept_paths u paths) untouched)
