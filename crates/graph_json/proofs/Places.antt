-- The first place that passes a test, in a list and in what it is made of.
use Rattle.std.proofs.Common.{◌≡◌, ℕ, ◌+◌, suc, List, [], ◌∷◌, length, map, Bool, Option, position, refl, sym, ap, ◌∙◌, codes, option_map}
use Rattle.std.specs.List.{position_or_len, enumerate_from}
use Rattle.std.proofs.lemmas.List.{length-map}
use Rattle.serde_json.specs.View.{view}
use Rattle.serde_json.specs.declared.value.Value.{Value}
use Rattle.graph_json.specs.Named.{is_repeat, first_repeat, names_of, name_in, has_unknown_scope, has_unknown_end, unknown_in_node, unknown_in_edge, name_fault}
use Rattle.graph_json.specs.declared.fault.GraphTextFault.TheVariants.{SameName}
use Rattle.std.specs.Option.{option_or}

module _ {X Y : Type 0} (f : X → Y) where
  place-map : (p : Y → Bool) (xs : List X) → position_or_len p (map f xs) ≡ position_or_len (λ x. p (f x)) xs
  place-map p [] = refl
  place-map p (x ∷ xs) = rw (place-map p xs) refl

  position-map : (p : Y → Bool) (xs : List X) → position p (map f xs) ≡ position (λ x. p (f x)) xs
  position-map p xs = rw (place-map p xs, length-map xs f) refl

  place-enumerate : (t : ℕ → Y → Bool) (n : ℕ) (xs : List X) → position_or_len (λ q. t q.0 q.1) (enumerate_from n (map f xs)) ≡ position_or_len (λ q. t q.0 (f q.1)) (enumerate_from n xs)
  place-enumerate t n [] = refl
  place-enumerate t n (x ∷ xs) = rw (place-enumerate t (n + 1) xs) refl

  length-enumerate : (n : ℕ) (xs : List X) → length (enumerate_from n (map f xs)) ≡ length (enumerate_from n xs)
  length-enumerate n [] = refl
  length-enumerate n (x ∷ xs) = ap suc (length-enumerate (n + 1) xs)

  position-enumerate : (t : ℕ → Y → Bool) (xs : List X) → position (λ q. t q.0 q.1) (enumerate_from 0 (map f xs)) ≡ position (λ q. t q.0 (f q.1)) (enumerate_from 0 xs)
  position-enumerate t xs = rw (place-enumerate t 0 xs, length-enumerate 0 xs) refl

module _ (names : List (Option (List ℕ))) (ns es : List Value) (are : names ≡ names_of (map view ns)) where
  abbrev repeated : Option ℕ
  repeated = position (λ p. is_repeat names p.0 (name_in (codes "name") (view p.1))) (enumerate_from 0 ns)

  repeat_place : first_repeat names ≡ repeated
  repeat_place =
      ap (λ l. position (λ p. is_repeat names p.0 p.1) (enumerate_from 0 l)) are
      ∙ position-enumerate (name_in (codes "name")) (is_repeat names) (map view ns)
      ∙ position-enumerate view (λ n d. is_repeat names n (name_in (codes "name") d)) ns

  -- the first fault of the names, by the values of the nodes and of the edges
  pub fault_is : (a b e : Option ℕ) → a ≡ repeated → b ≡ position (λ v. has_unknown_scope names (view v)) ns → e ≡ position (λ v. has_unknown_end names (view v)) es
      → option_or (option_map SameName a) (option_or (option_map unknown_in_node b) (option_map unknown_in_edge e)) ≡ name_fault names (map view ns) (map view es)
  fault_is a b e p q r =
      ap (λ o. option_or (option_map SameName o) (option_or (option_map unknown_in_node b) (option_map unknown_in_edge e))) (p ∙ sym repeat_place)
      ∙ ap (λ o. option_or (option_map SameName (first_repeat names)) (option_or (option_map unknown_in_node o) (option_map unknown_in_edge e))) (q ∙ sym (position-map view (has_unknown_scope names) ns))
      ∙ ap (λ o. option_or (option_map SameName (first_repeat names)) (option_or (option_map unknown_in_node (position (has_unknown_scope names) (map view ns))) (option_map unknown_in_edge o))) (r ∙ sym (position-map view (has_unknown_end names) es))
