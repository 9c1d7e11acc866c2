-- What is noted of one that was joined.
use Rattle.std.proofs.Common.{◌≡◌, ℕ, ◌+◌, Bool, true, false, not, ◌&&◌, ◌||◌, List, [], ◌∷◌, ◌++◌, map, length, sym, refl, ap, ◌∙◌, filter, cond, if◌then◌else◌}
use Rattle.partial_path.specs.declared.config.Config.{Config}
use Rattle.partial_path.specs.Rules.{Rule}
use Rattle.partial_path.specs.Cutting.{path_edges}
use Rattle.stitcher.specs.declared.tally.Tally.{Tally}
use Rattle.stitcher.specs.Joins.{Asked, Joined, joined, with_path, is_none, is_at_cut, is_at_result, is_bounded, goes_on, is_bounded_complete, is_bounded_counted, is_past_bounds}
use Rattle.stitcher.specs.Opens.{those, kept_runs, joined_run, IsNoted}

one_counted : {X : Type 0} (x : X) (b : Bool) → (if b then 1 else 0) ≡ length (cond b (x ∷ []) [])
one_counted x true = refl
one_counted x false = refl

one_kept : (x : Joined) (b : Bool) → those b (joined_run x) ≡ map joined_run (cond b (x ∷ []) [])
one_kept x true = refl
one_kept x false = refl

one_open : (x : Joined) (b : Bool) → those b x ≡ cond b (x ∷ []) []
one_open x true = refl
one_open x false = refl

one_any : (b : Bool) → b ≡ (b || false)
one_any true = refl
one_any false = refl

pub some_with : (paths : List (ℕ × Rule)) (p : ℕ × Rule) → is_none (with_path paths p) ≡ false
some_with [] p = refl
some_with (x ∷ paths) p = refl

module _ (q : Asked) (paths : List (ℕ × Rule)) (p : ℕ × Rule) (at : Config) (cut complete bounded : Bool) (c : cut ≡ is_at_cut q at) (r : complete ≡ is_at_result q at) (b : bounded ≡ is_bounded q (with_path paths p)) where
  abbrev x : Joined
  x = joined (with_path paths p) at

  pub counted_is : ((cut || complete) && bounded) ≡ is_bounded_counted q x
  counted_is = λ i. (c i || r i) && b i

  pub noted : (old new : Tally) → new.counted ≡ old.counted + (if (cut || complete) && bounded then 1 else 0) → kept_runs new.complete.items ≡ kept_runs old.complete.items ++ those (complete && bounded) (path_edges (with_path paths p), at.spot) → new.limit ≡ (old.limit || ((cut || complete) && not bounded)) → IsNoted q (x ∷ []) old new
  noted old new n k l = record {
    counted = n ∙ ap (λ (t : Bool). old.counted + (if t then 1 else 0)) counted_is ∙ ap (λ (m : ℕ). old.counted + m) (one_counted x (is_bounded_counted q x));
    complete = k ∙ (λ i. kept_runs old.complete.items ++ those (r i && b i) (joined_run x)) ∙ ap (λ xs. kept_runs old.complete.items ++ xs) (one_kept x (is_bounded_complete q x));
    limit = l ∙ (λ i. old.limit || ((c i || r i) && not (b i))) ∙ ap (λ (t : Bool). old.limit || t) (one_any (is_past_bounds q x));
  }

  goes_is : (cut && bounded) ≡ goes_on q x
  goes_is = (λ i. c i && b i) ∙ ap (λ (t : Bool). t || (is_at_cut q at && is_bounded q (with_path paths p))) (sym (some_with paths p))

  pub opened_as : (old new : List Joined) → new ≡ old ++ those (cut && bounded) x → new ≡ old ++ filter (goes_on q) (x ∷ [])
  opened_as old new h = h ∙ ap (λ (t : Bool). old ++ those t x) goes_is ∙ ap (λ (xs : List Joined). old ++ xs) (one_open x (goes_on q x))
