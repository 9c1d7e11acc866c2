-- Gathering the paths from the root, file by file and path by path: what was gathered, then what is left, is the whole.
use Rattle.std.proofs.Common.{◌≡◌, refl, sym, ◌∙◌, ap, ℕ, zero, suc, ◌+◌, ◌<◌, List, [], ◌∷◌, ◌++◌, length, get_or, drop, true, cond, Some, None, arith, slice_get}
use Rattle.std.proofs.lemmas.List.{drop_more, append_assoc}
use Rattle.std.specs.Option.{unwrap_or}
use Rattle.std.proofs.lemmas.Option.{none-some}
use Rattle.partial_path.specs.Rules.{Rule}
use Rattle.partial_path.specs.Starts.{begins_at}
use Rattle.version_tree.specs.Contents.{FileRow}
use Rattle.root_index.specs.Roots.{RootPath, root, root_path, roots_from, roots_of, all_roots}

pub got : {X : Type 0} (xs : List X) (i : ℕ) (d : X) → i < length xs → slice_get xs i ≡ Some (get_or xs i d)
got [] i d h = absurd (omega (arith, h))
got (x ∷ xs) zero d h = refl
got (x ∷ xs) (suc i) d h = got xs i d (omega (arith, h))

-- the paths left, the first of them apart
pub first_apart : (path : List ℕ) (place : ℕ) (rules : List Rule) (d : Rule) → place < length rules
    → roots_from path place (drop place rules)
    ≡ cond (begins_at root (get_or rules place d)) (root_path path place (Some (get_or rules place d)) ∷ []) [] ++ roots_from path (place + 1) (drop (place + 1) rules)
first_apart path place rules d h = ap (roots_from path place) (drop_more rules place d h)

-- one from the root is added
pub one_added : (path : List ℕ) (place : ℕ) (rules : List Rule) (d : Rule) (done whole : List RootPath) → place < length rules
    → begins_at root (get_or rules place d) ≡ true → done ++ roots_from path place (drop place rules) ≡ whole
    → (done ++ root_path path place (slice_get rules place) ∷ []) ++ roots_from path (place + 1) (drop (place + 1) rules) ≡ whole
one_added path place rules d done whole h from e =
    append_assoc done (root_path path place (slice_get rules place) ∷ []) (roots_from path (place + 1) (drop (place + 1) rules))
    ∙ ap (λ found. done ++ root_path path place found ∷ roots_from path (place + 1) (drop (place + 1) rules)) (got rules place d h)
    ∙ sym (ap (λ ps. done ++ ps) (first_apart path place rules d h
    ∙ ap (λ b. cond b (root_path path place (Some (get_or rules place d)) ∷ []) [] ++ roots_from path (place + 1) (drop (place + 1) rules)) from))
    ∙ e

row_apart : {X : Type 0} (xs : List X) (i : ℕ) (x : X) → slice_get xs i ≡ Some x → drop i xs ≡ x ∷ drop (i + 1) xs
row_apart [] zero x e = absurd (none-some x e)
row_apart [] (suc i) x e = absurd (none-some x e)
row_apart (y ∷ xs) zero x e = ap (λ z. z ∷ xs) (some_is y x e)
  where
    some_is : {X : Type 0} (x y : X) → Some x ≡ Some y → x ≡ y
    some_is x y e = ap (λ o. unwrap_or o x) e
row_apart (y ∷ xs) (suc i) x e = let next : suc (i + 1) ≡ suc i + 1 = omega arith in row_apart xs i x e ∙ ap (λ n. x ∷ drop n (y ∷ xs)) next

-- the paths of one row are added
pub row_added : (rows : List FileRow) (i : ℕ) (row : FileRow) (done whole : List RootPath) → slice_get rows i ≡ Some row
    → done ++ all_roots (drop i rows) ≡ whole → (done ++ roots_of row) ++ all_roots (drop (i + 1) rows) ≡ whole
row_added rows i row done whole there e =
    append_assoc done (roots_of row) (all_roots (drop (i + 1) rows)) ∙ sym (ap (λ rs. done ++ all_roots rs) (row_apart rows i row there)) ∙ e

-- there is no row past the last
pub no_row : (rows : List FileRow) (i : ℕ) → i < length rows → slice_get rows i ≡ None → ⊥
no_row [] i h e = absurd (omega (arith, h))
no_row (row ∷ rows) zero h e = absurd (none-some row (sym e))
no_row (row ∷ rows) (suc i) h e = no_row rows i (omega (arith, h)) e
