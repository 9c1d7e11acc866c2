-- What a set is with a pair and without it, by the place that the search found.
use Rattle.std.proofs.Common.{◌≡◌, ℕ, ◌+◌, List, ◌∷◌, ◌++◌, take, drop, true, false, sym, ◌∙◌, subst, add-one}
use Rattle.std.specs.List.{insert, remove}
use Rattle.std.specs.declared.cmp.Ordering.TheVariants.{Less, Greater}
use Rattle.std.proofs.lemmas.List.{take-append-drop}
use Rattle.list_facts.specs.Places.{IsAt, IsGapFor}
use Rattle.list_facts.proofs.Each.{each}
use Rattle.list_facts.proofs.Orders.{greater_flipped}
use Rattle.list_facts.proofs.Pairs.{Pairs-insert, Pairs-remove}
use Rattle.list_facts.proofs.SetPlaces as sets
use Rattle.grants.specs.Pairs.{Pair, pair_cmp, has_pair, with_pair, without_pair, IsRising}
use Rattle.grants.specs.Places.{beside}
use Rattle.grants.proofs.Order.{pair_total, same_pair}

-- a pair and one that comes after it
abbrev Comes : Pair → Pair → Type 0
Comes p q = pair_cmp p q ≡ Less

module _ (p : Pair) (ps : List Pair) (i : ℕ) where
  -- the pair itself stands at its place
  stands : IsAt (beside p) ps i → ps ≡ take i ps ++ p ∷ drop (i + 1) ps
  stands place = subst (λ (q : Pair). ps ≡ take i ps ++ q ∷ drop (i + 1) ps) (same_pair place.item p place.tie) place.split

  pub at-has : IsAt (beside p) ps i → has_pair p ps ≡ true
  unfolding has_pair
  at-has place = sets.at-has pair_total (λ q. q) p ps i place

  pub at-with : IsAt (beside p) ps i → IsRising ps → with_pair p ps ≡ ps
  unfolding with_pair
  at-with place up = sets.at-with pair_total (λ q. q) p ps i place up p ∙ sym (stands place)

  pub at-without : IsAt (beside p) ps i → IsRising ps → without_pair p ps ≡ remove ps i
  unfolding without_pair
  at-without place up = sets.at-without pair_total (λ q. q) p ps i place up

  pub at-rises : IsAt (beside p) ps i → IsRising ps → IsRising (remove ps i)
  at-rises place up = subst (λ (k : ℕ). IsRising (take i ps ++ drop k ps)) (add-one i) (Pairs-remove Comes p (take i ps) (drop (i + 1) ps) (subst IsRising (stands place) up))

  pub gap-has : IsGapFor (beside p) ps i → has_pair p ps ≡ false
  unfolding has_pair
  gap-has gap = sets.gap-has pair_total (λ q. q) p ps i gap

  pub gap-with : IsGapFor (beside p) ps i → with_pair p ps ≡ insert ps i p
  unfolding with_pair
  gap-with gap = sets.gap-with pair_total (λ q. q) p ps i gap p

  pub gap-without : IsGapFor (beside p) ps i → without_pair p ps ≡ ps
  unfolding without_pair
  gap-without gap = sets.gap-without pair_total (λ q. q) p ps i gap

  pub gap-rises : IsGapFor (beside p) ps i → IsRising ps → IsRising (insert ps i p)
  gap-rises gap up =
      Pairs-insert Comes p (take i ps) (drop i ps) (subst IsRising (sym (take-append-drop i ps)) up) gap.before
      (each (λ q. pair_cmp q p ≡ Greater) (Comes p) (λ q e. greater_flipped pair_total q p e) (drop i ps) gap.after)
