-- A loop over values that are read one by one: so far each was read, and then either all are or one isn't.
use Rattle.std.proofs.Common.{◌≡◌, ℕ, ◌+◌, ◌<◌, ◌≤◌, suc, List, [], ◌∷◌, ◌++◌, length, get_or, map, take, drop, Option, Some, None, position, is_none, Ok, Err, option_map, refl, sym, ap, ◌∙◌, arith, length-append, drop-cons, slice_get}
use Rattle.std.proofs.lemmas.List.{take_more, map-append, length-map, take_all, take-append-drop, length-take}
use Rattle.std.proofs.lemmas.Option.{slice_get-map, slice_get_read, get_or_from_slice_get}
use Rattle.std.proofs.lemmas.Bool.Decides.{nat_tests}
use Rattle.std.specs.List.{position_or_len, filter_map}
use Rattle.serde_json.specs.Data.{Data}
use Rattle.serde_json.specs.View.{view}
use Rattle.serde_json.specs.declared.value.Value.{Value}
use Rattle.graph_json.specs.declared.fault.GraphTextFault.{GraphTextFault}
use Rattle.graph_json.specs.Collect.{collected}

module _ {A : Type 0} where
  past-somes : (ys : List A) (os : List (Option A)) → position_or_len is_none (map Some ys ++ os) ≡ length ys + position_or_len is_none os
  past-somes [] os = omega arith
  past-somes (y ∷ ys) os = omega (arith, past-somes ys os)

  values-somes : (ys : List A) → filter_map (λ o. o) (map Some ys) ≡ ys
  values-somes [] = refl
  values-somes (y ∷ ys) = ap (λ l. y ∷ l) (values-somes ys)

  all_somes : (ys : List A) → position_or_len is_none (map Some ys) ≡ length ys
  all_somes [] = refl
  all_somes (y ∷ ys) = omega (arith, all_somes ys)

  no_position : (os : List (Option A)) → length os ≤ position_or_len is_none os → position is_none os ≡ None
  no_position os h = grind (arith, nat_tests)

  at_position : (os : List (Option A)) (n : ℕ) → position_or_len is_none os ≡ n → n < length os → position is_none os ≡ Some n
  at_position os n e h = grind (arith, nat_tests)

  module _ (fault : ℕ → GraphTextFault) where
    pub collected-somes : (ys : List A) → collected fault (map Some ys) ≡ Ok ys
    unfolding collected
    collected-somes ys =
        let none = no_position (map Some ys) (omega (arith, all_somes ys, length-map ys Some)) in
        rw (none, values-somes) refl

    pub collected-none : (ys : List A) (os : List (Option A)) → collected fault (map Some ys ++ None ∷ os) ≡ Err (fault (length ys))
    unfolding collected
    collected-none ys os =
        let here = at_position (map Some ys ++ None ∷ os) (length ys) (omega (arith, past-somes ys (None ∷ os)))
        (omega (arith, length-append (map Some ys) (None ∷ os), length-map ys Some)) in
        rw here refl

  module _ (fault : ℕ → GraphTextFault) (f : Data → Option A) (vs : List Value) where
    abbrev all : List (Option A)
    all = map f (map view vs)

    length-all : length all ≡ length vs
    length-all = length-map (map view vs) f ∙ length-map vs view

    at_item : (n : ℕ) (v : Value) → n < length vs → v ≡ get_or vs n v → slice_get all n ≡ Some (f (view v))
    at_item n v h e =
        slice_get-map f (map view vs) n ∙ ap (option_map f) (slice_get-map view vs n ∙ ap (option_map view) (slice_get_read vs (length vs) n v refl h e))

    -- one more was read
    pub one_more : (n : ℕ) (v : Value) (y : A) (ys zs : List A) → n < length vs → v ≡ get_or vs n v → take n all ≡ map Some ys → Some y ≡ f (view v) → zs ≡ ys ++ y ∷ [] → take (n + 1) all ≡ map Some zs
    one_more n v y ys zs h e so_far read more =
        let here : slice_get all n ≡ Some (Some y) = at_item n v h e ∙ ap (λ (o : Option A). Some o) (sym read) in
        let at : get_or all n None ≡ Some y = get_or_from_slice_get all n (Some y) None here in
        let within : n < length all = omega (arith, length-all) in
        take_more all n None within ∙ rw (so_far, at, more, map-append) refl

    -- all were read
    pub all_read : (n : ℕ) (ys : List A) → length vs ≤ n → take n all ≡ map Some ys → collected fault all ≡ Ok ys
    all_read n ys h so_far =
        let whole : all ≡ map Some ys = sym (take_all n all (omega (arith, length-all))) ∙ so_far in
        ap (collected fault) whole ∙ collected-somes fault ys

    -- this one isn't of the right form
    pub first_bad : (n : ℕ) (v : Value) (ys : List A) → n < length vs → v ≡ get_or vs n v → take n all ≡ map Some ys → None ≡ f (view v) → collected fault all ≡ Err (fault n)
    first_bad n v ys h e so_far read =
        let here : slice_get all n ≡ Some None = at_item n v h e ∙ ap (λ (o : Option A). Some o) (sym read) in
        let at : get_or all n None ≡ None = get_or_from_slice_get all n None None here in
        let within : n < length all = omega (arith, length-all) in
        let count : length ys ≡ n = omega (arith, ap length so_far, length-map ys Some, length-take n all) in
        let split : all ≡ map Some ys ++ None ∷ drop (suc n) all =
        sym (take-append-drop n all) ∙ ap (λ l. l ++ drop n all) so_far ∙ ap (λ l. map Some ys ++ l) (drop-cons all n None within ∙ ap (λ o. o ∷ drop (suc n) all) at) in
        ap (collected fault) split ∙ collected-none fault ys (drop (suc n) all) ∙ ap (λ k. Err (fault k)) count
