-- Parts of a path that the code has as borrowed texts.
use Rattle.std.proofs.Common.{◌≡◌, ℕ, ◌-◌, ◌<◌, ◌≤◌, List, [], ◌∷◌, length, map, take, drop, true, false, refl, sym, slice_get, arith, drop-cons, Err, codes, eqb}
use Rattle.std.specs.Borrow.{Bor}
use Rattle.std.specs.List.{list_all, ends_with}
use Rattle.std.proofs.lemmas.List.{take-map, length-map, drop_all}
use Rattle.std.proofs.lemmas.List.Folds.{list_all-map}
use Rattle.py_subset.specs.declared.tree.Module.{Module}
use Rattle.py_graph.specs.declared.fault.TransFault.TheVariants as fault
use Rattle.py_graph.specs.Modules.{is_last, graph_of}
use Rattle.py_graph.specs.Names.{are_names, is_name, is_init, without_init}

pub are_names-some : (xs : List (Bor (List ℕ))) → (length xs ≡ 0 → ⊥) → list_all (λ p. is_name p.now) xs ≡ are_names (map (λ x. x.now) xs)
are_names-some [] ne = absurd (ne refl)
are_names-some (x ∷ xs) ne = rw (list_all-map is_name (λ (x : Bor (List ℕ)). x.now) xs) refl

pub without_init-yes : (xs : List (Bor (List ℕ))) → is_init (slice_get (map (λ x. x.now) xs) (length xs - 1)) ≡ true
    → map (λ x. x.now) (take (length xs - 1) xs) ≡ without_init (map (λ x. x.now) xs)
without_init-yes xs h = rw (length-map xs (λ (x : Bor (List ℕ)). x.now), h, take-map (λ (x : Bor (List ℕ)). x.now) (length xs - 1) xs) refl

pub is_last-no : (xs : List (Bor (List ℕ))) (i : ℕ) → i < length xs → false ≡ is_last (map (λ x. x.now) (drop i xs))
is_last-no [] i lt = absurd (omega arith)
is_last-no (x ∷ xs) i lt = rw (drop-cons (x ∷ xs) i x lt) refl

pub is_last-yes : (xs : List (Bor (List ℕ))) (i : ℕ) → length xs ≤ i → true ≡ is_last (map (λ x. x.now) (drop i xs))
is_last-yes xs i le = rw (drop_all i xs le) refl

-- a path that doesn't end with `.py`
pub no_suffix : (path : List ℕ) (whole : Module) → false ≡ ends_with eqb path (codes ".py") → graph_of path whole ≡ Err fault.BadName
no_suffix path whole e = rw (sym e) refl
