-- Going over the runs of a reference beside those paths that are kept of them.
use Rattle.std.proofs.Common.{◌≡◌, refl, sym, ◌∙◌, ap, ℕ, zero, suc, ◌+◌, ◌<◌, List, [], ◌∷◌, ◌++◌, map, length, take, drop, get_or, Bool, true, false, cond, eqb, eq-eqb, eqb-true, Option, Some, None, slice_get, inl, arith}
use Rattle.std.specs.Prelude.{filter}
use Rattle.std.specs.Option.{option_map_or}
use Rattle.std.proofs.lemmas.Bool.{false≢true, and_parts, and_from}
use Rattle.std.proofs.lemmas.List.{take_more, drop_more, map-append}
use Rattle.std.proofs.lemmas.List.Elements.{filter-append}
use Rattle.std.proofs.lemmas.Option.{none-some, same_Some}
use Rattle.graph_nodes.specs.Graph.{Graph}
use Rattle.partial_path.specs.declared.config.EdgeAt.{EdgeAt}
use Rattle.shadowing.specs.declared.paths.EdgeStep.{EdgeStep}
use Rattle.stitcher.specs.Found.{EdgePath}
use Rattle.whole_search.specs.declared.found.Hit.{Hit}
use Rattle.whole_search.specs.Answers.{path_of, step_of}
use Rattle.list_facts.specs.Members.{IsIn}
use Rattle.list_facts.proofs.Members.{IsIn-filter_from, IsIn-map_from}
use Rattle.nav_answers.specs.Kept.{run_path, run_paths, stays, end_of, ends_in, is_by, are_by, is_next}

-- a path is by the edges that it is made of, and by no others
by_its_own : (files : List Graph) (es : List EdgeAt) → are_by (path_of files es) es ≡ true
by_its_own files [] = refl
by_its_own files (e ∷ es) =
    and_from (is_by (step_of files e) e) (are_by (path_of files es) es)
    (and_from (eqb e.file e.file) (eqb e.edge e.edge) (eq-eqb e.file e.file refl) (eq-eqb e.edge e.edge refl))
    (by_its_own files es)

same_edge : (a b : EdgeAt) → a.file ≡ b.file → a.edge ≡ b.edge → a ≡ b
same_edge a b f n = λ i. record { file = f i; edge = n i }

by_no_other : (files : List Graph) (es others : List EdgeAt) → are_by (path_of files es) others ≡ true → es ≡ others
by_no_other files [] [] h = refl
by_no_other files [] (o ∷ others) h = absurd (false≢true h)
by_no_other files (e ∷ es) [] h = absurd (false≢true h)
by_no_other files (e ∷ es) (o ∷ others) h =
    let p = and_parts (is_by (step_of files e) o) (are_by (path_of files es) others) h in
    let q = and_parts (eqb e.file o.file) (eqb e.edge o.edge) p.0 in
    (λ i. same_edge e o (eqb-true e.file o.file q.0) (eqb-true e.edge o.edge q.1) i ∷ by_no_other files es others p.1 i)

get_drop : {X : Type 0} (xs : List X) (n : ℕ) → slice_get xs n ≡ slice_get (drop n xs) 0
get_drop [] zero = refl
get_drop [] (suc n) = refl
get_drop (x ∷ xs) zero = refl
get_drop (x ∷ xs) (suc n) = get_drop xs n

head_in : {X : Type 0} (xs : List X) (x : X) → slice_get xs 0 ≡ Some x → IsIn x xs
head_in [] x e = absurd (none-some x e)
head_in (y ∷ xs) x e = inl (sym (same_Some y x e))

drop_next : {X : Type 0} (xs : List X) (n : ℕ) (y : X) (ys : List X) → drop n xs ≡ y ∷ ys → drop (n + 1) xs ≡ ys
drop_next [] zero y ys e = cc
drop_next [] (suc n) y ys e = cc
drop_next (x ∷ xs) zero y ys e = cc
drop_next (x ∷ xs) (suc n) y ys e =
    let more : suc n + 1 ≡ suc (n + 1) = omega arith in ap (λ m. drop m (x ∷ xs)) more ∙ drop_next xs n y ys e

module _ (files : List Graph) (all : List (List EdgeStep)) where
  -- the path after those that were gone over is by the run's edges exactly where the run is kept
  next_kept : (kept : List (List EdgeStep)) (place : ℕ) (run : EdgePath) (rest : List EdgePath)
      → drop place kept ≡ filter (stays all) (run_paths files (run ∷ rest)) → is_next kept place run.edges ≡ stays all (run_path files run)
  next_kept kept place run rest left = by (stays all (run_path files run)) refl
    where
      by : (b : Bool) → stays all (run_path files run) ≡ b → is_next kept place run.edges ≡ stays all (run_path files run)
      by true e =
          let there : drop place kept ≡ run_path files run ∷ filter (stays all) (run_paths files rest)
          = left ∙ ap (λ b. cond b (run_path files run ∷ filter (stays all) (run_paths files rest)) (filter (stays all) (run_paths files rest))) e in
          ap (λ o. option_map_or (λ (path : List EdgeStep). are_by path run.edges) o false) (get_drop kept place ∙ ap (λ xs. slice_get xs 0) there)
          ∙ by_its_own files run.edges ∙ sym e
      by false e = elsewhere (slice_get kept place) refl
        where
          left_there : drop place kept ≡ filter (stays all) (run_paths files rest)
          left_there = left ∙ ap (λ b. cond b (run_path files run ∷ filter (stays all) (run_paths files rest)) (filter (stays all) (run_paths files rest))) e

          other : (path : List EdgeStep) → slice_get kept place ≡ Some path → (b : Bool) → are_by path run.edges ≡ b → b ≡ false
          other path there true h =
              let member = IsIn-filter_from (stays all) path (run_paths files rest) (head_in (filter (stays all) (run_paths files rest)) path (sym (ap (λ xs. slice_get xs 0) left_there) ∙ sym (get_drop kept place) ∙ there)) in
              let from = IsIn-map_from (run_path files) path rest member.0 in
              let same : from.0.edges ≡ run.edges = by_no_other files from.0.edges run.edges (ap (λ p. are_by p run.edges) from.2 ∙ h) in
              absurd (false≢true (sym e ∙ ap (λ es. stays all (path_of files es)) (sym same) ∙ ap (stays all) from.2 ∙ member.1))
          other path there false h = refl

          elsewhere : (o : Option (List EdgeStep)) → slice_get kept place ≡ o → is_next kept place run.edges ≡ stays all (run_path files run)
          elsewhere None there = ap (λ o. option_map_or (λ (path : List EdgeStep). are_by path run.edges) o false) there ∙ sym e
          elsewhere (Some path) there =
              ap (λ o. option_map_or (λ (path : List EdgeStep). are_by path run.edges) o false) there
              ∙ other path there (are_by path run.edges) refl ∙ sym e

  ends_more : (runs : List EdgePath) (i : ℕ) (d : EdgePath) → i < length runs
      → ends_in files all (take (i + 1) runs) ≡ ends_in files all (take i runs) ++ cond (stays all (run_path files (get_or runs i d))) (end_of (get_or runs i d) ∷ []) []
  ends_more runs i d h =
      ap (λ rs. map end_of (filter (λ (p : EdgePath). stays all (run_path files p)) rs)) (take_more runs i d h)
      ∙ ap (map end_of) (filter-append (λ (p : EdgePath). stays all (run_path files p)) (take i runs) (get_or runs i d ∷ []))
      ∙ map-append end_of (filter (λ (p : EdgePath). stays all (run_path files p)) (take i runs)) (cond (stays all (run_path files (get_or runs i d))) (get_or runs i d ∷ []) [])
      ∙ ap (λ xs. ends_in files all (take i runs) ++ xs) (mapped (stays all (run_path files (get_or runs i d))))
    where
      mapped : (b : Bool) → map end_of (cond b (get_or runs i d ∷ []) []) ≡ cond b (end_of (get_or runs i d) ∷ []) []
      mapped true = refl
      mapped false = refl

-- so many runs were gone over, and so many kept paths: where the kept ones end, and which kept paths are left
pub record IsUnderWay (files : List Graph) (runs : List EdgePath) (kept : List (List EdgeStep)) (i place : ℕ) (ends : List Hit) : Type 0 where
  pub so_far : ends ≡ ends_in files (run_paths files runs) (take i runs)
  pub left : drop place kept ≡ filter (stays (run_paths files runs)) (run_paths files (drop i runs))

module _ (files : List Graph) (runs : List EdgePath) (kept : List (List EdgeStep)) (i place : ℕ) (ends : List Hit) (run : EdgePath)
    (inside : i < length runs) (is : run ≡ get_or runs i run) (way : IsUnderWay files runs kept i place ends) where
  here : drop place kept ≡ filter (stays (run_paths files runs)) (run_paths files (run ∷ drop (i + 1) runs))
  here =
      way.left ∙ ap (λ rs. filter (stays (run_paths files runs)) (run_paths files rs)) (drop_more runs i run inside)
      ∙ ap (λ r. filter (stays (run_paths files runs)) (run_paths files (r ∷ drop (i + 1) runs))) (sym is)

  told : is_next kept place run.edges ≡ stays (run_paths files runs) (run_path files run)
  told = next_kept files (run_paths files runs) kept place run (drop (i + 1) runs) here

  more : (b : Bool) → stays (run_paths files runs) (run_path files run) ≡ b
      → ends_in files (run_paths files runs) (take (i + 1) runs) ≡ ends_in files (run_paths files runs) (take i runs) ++ cond b (end_of run ∷ []) []
  more b e =
      ends_more files (run_paths files runs) runs i run inside
      ∙ ap (λ r. ends_in files (run_paths files runs) (take i runs) ++ cond (stays (run_paths files runs) (run_path files r)) (end_of r ∷ []) []) (sym is)
      ∙ ap (λ t. ends_in files (run_paths files runs) (take i runs) ++ cond t (end_of run ∷ []) []) e

  -- the run is kept
  pub taken : is_next kept place run.edges ≡ true → IsUnderWay files runs kept (i + 1) (place + 1) (ends ++ end_of run ∷ [])
  taken t =
      let keeps = sym told ∙ t in
      record {
        so_far = ap (λ xs. xs ++ end_of run ∷ []) way.so_far ∙ sym (more true keeps);
        left = drop_next kept place (run_path files run) (filter (stays (run_paths files runs)) (run_paths files (drop (i + 1) runs)))
            (here ∙ ap (λ b. cond b (run_path files run ∷ filter (stays (run_paths files runs)) (run_paths files (drop (i + 1) runs))) (filter (stays (run_paths files runs)) (run_paths files (drop (i + 1) runs)))) keeps);
      }

  -- it isn't
  pub passed : is_next kept place run.edges ≡ false → IsUnderWay files runs kept (i + 1) place ends
  passed t =
      let keeps = sym told ∙ t in
      record {
        so_far = way.so_far ∙ sym (more false keeps ∙ append-none (ends_in files (run_paths files runs) (take i runs)));
        left = here ∙ ap (λ b. cond b (run_path files run ∷ filter (stays (run_paths files runs)) (run_paths files (drop (i + 1) runs))) (filter (stays (run_paths files runs)) (run_paths files (drop (i + 1) runs)))) keeps;
      }
    where
      append-none : {X : Type 0} (xs : List X) → xs ++ [] ≡ xs
      append-none [] = refl
      append-none (x ∷ xs) = ap (λ ys. x ∷ ys) (append-none xs)

-- the same by other names
pub so_told : (files : List Graph) (runs : List EdgePath) (kept : List (List EdgeStep)) (i place next : ℕ) (ends more : List Hit)
    → next ≡ place → more ≡ ends → IsUnderWay files runs kept i place ends → IsUnderWay files runs kept i next more
so_told files runs kept i place next ends more p e way = record {
  so_far = e ∙ way.so_far;
  left = ap (λ n. drop n kept) p ∙ way.left;
}
