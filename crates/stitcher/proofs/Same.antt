-- Lists with the same members.
use Rattle.std.proofs.Common.{◌≡◌, suc, ◌≤◌, Bool, true, false, List, [], ◌∷◌, length, sym, refl, ◌∙◌, subst, arith, filter, ◌⊎◌, inl, inr}
use Rattle.std.specs.List.{list_any}
use Rattle.std.proofs.lemmas.Bool.{cases_Bool, false_from_ne_true}
use Rattle.partial_path.specs.Runs.{IsApart}
use Rattle.list_facts.specs.Members.{IsIn}
use Rattle.list_facts.proofs.Members.{IsIn-filter, IsIn-filter_from, passing_member, list_any-from_member}
use Rattle.list_facts.proofs.Apart.{absent, all_differ}
use Rattle.list_facts.proofs.Sums.{length-apart_le}

-- what stands in the one stands in the other
pub record AreSame {X : Type 0} (xs ys : List X) : Type 0 where
  pub there : (x : X) → IsIn x xs → IsIn x ys
  pub back : (x : X) → IsIn x ys → IsIn x xs

pub same_itself : {X : Type 0} (xs : List X) → AreSame xs xs
same_itself xs = record { there = λ x h. h; back = λ x h. h }

pub same_after : {X : Type 0} (xs ys zs : List X) → AreSame xs ys → AreSame ys zs → AreSame xs zs
same_after xs ys zs a b = record { there = λ x h. b.there x (a.there x h); back = λ x h. a.back x (b.back x h) }

pub length-same : {X : Type 0} (xs ys : List X) → IsApart xs → IsApart ys → AreSame xs ys → length xs ≡ length ys
length-same xs ys a b s =
    let one : length xs ≤ length ys = length-apart_le xs ys a s.there in
    let two : length ys ≤ length xs = length-apart_le ys xs b s.back in
    omega arith

-- of elements that differ at most one is y, and the others stand in zs
record AreOthers {X : Type 0} (zs xs : List X) : Type 0 where
  others : List X
  apart : IsApart others
  there : (x : X) → IsIn x others → IsIn x zs
  from : (x : X) → IsIn x others → IsIn x xs
  many : length xs ≤ suc (length others)

other_one : {X : Type 0} (x y : X) (zs xs : List X) → IsApart (x ∷ xs) → x ≡ y → (z : X) → IsIn z xs → (z ≡ y) ⊎ IsIn z zs → IsIn z zs
other_one x y zs xs h e z g (inl f) = absurd (absent x xs h.0 (subst (λ w. IsIn w xs) (f ∙ sym e) g))
other_one x y zs xs h e z g (inr k) = k

with_other : {X : Type 0} (x y : X) (zs xs : List X) → IsApart (x ∷ xs) → ((z : X) → IsIn z xs → (z ≡ y) ⊎ IsIn z zs) → AreOthers zs xs → (x ≡ y) ⊎ IsIn x zs → AreOthers zs (x ∷ xs)
with_other x y zs xs h each r (inl e) = record {
  others = xs;
  apart = h.1;
  there = λ z g. other_one x y zs xs h e z g (each z g);
  from = λ z g. inr g;
  many = omega arith;
}
with_other {X} x y zs xs h each r (inr k) = record {
  others = x ∷ r.others;
  apart = (all_differ x r.others (λ g. absent x xs h.0 (r.from x g)), r.apart);
  there = λ z g. at z g;
  from = λ z g. of z g;
  many = (let m : length xs ≤ suc (length r.others) = r.many in omega arith);
}
  where
    at : (z : X) → (z ≡ x) ⊎ IsIn z r.others → IsIn z zs
    at z (inl e) = subst (λ w. IsIn w zs) (sym e) k
    at z (inr g) = r.there z g

    of : (z : X) → (z ≡ x) ⊎ IsIn z r.others → (z ≡ x) ⊎ IsIn z xs
    of z (inl e) = inl e
    of z (inr g) = inr (r.from z g)

without_one : {X : Type 0} (y : X) (zs xs : List X) → IsApart xs → ((z : X) → IsIn z xs → (z ≡ y) ⊎ IsIn z zs) → AreOthers zs xs
without_one y zs [] h each = record { others = []; apart = tt; there = λ x g. absurd g; from = λ x g. g; many = omega arith }
without_one y zs (x ∷ xs) h each =
    with_other x y zs xs h (λ z g. each z (inr g)) (without_one y zs xs h.1 (λ z g. each z (inr g))) (each x (inl refl))

put_in : {X : Type 0} (y z : X) (ys : List X) → IsIn y ys → (z ≡ y) ⊎ IsIn z ys → IsIn z ys
put_in y z ys h (inl e) = subst (λ w. IsIn w ys) (sym e) h
put_in y z ys h (inr g) = g

-- a list that has as many different elements as it is long has no two that are equal
pub apart_of_many : {X : Type 0} (xs ys : List X) → IsApart xs → ((x : X) → IsIn x xs → IsIn x ys) → length ys ≤ length xs → IsApart ys
apart_of_many xs [] h each le = tt
apart_of_many {X} xs (y ∷ ys) h each le =
    let r = without_one y ys xs h each in
    let many : length xs ≤ suc (length r.others) = r.many in (
      all_differ y ys
          (λ g. let fits : length xs ≤ length ys = length-apart_le xs ys h (λ x k. put_in y x ys g (each x k)) in omega arith),
      apart_of_many r.others ys r.apart r.there (omega arith),
    )

-- what passes a test in lists with the same members
pub same_filter : {X : Type 0} (p : X → Bool) (xs ys : List X) → AreSame xs ys → AreSame (filter p xs) (filter p ys)
same_filter p xs ys s = record {
  there = λ x h. let k = IsIn-filter_from p x xs h in IsIn-filter p x ys (s.there x k.0) k.1;
  back = λ x h. let k = IsIn-filter_from p x ys h in IsIn-filter p x xs (s.back x k.0) k.1;
}

any_there : {X : Type 0} (p : X → Bool) (xs ys : List X) → ((x : X) → IsIn x xs → IsIn x ys) → list_any p xs ≡ true → list_any p ys ≡ true
any_there p xs ys s t = let m = passing_member p xs t in list_any-from_member p m.0 ys (s m.0 m.1) m.2

pub same_any : {X : Type 0} (p : X → Bool) (xs ys : List X) → AreSame xs ys → list_any p xs ≡ list_any p ys
same_any p xs ys s = by (cases_Bool (list_any p ys))
  where
    by : (list_any p ys ≡ true) ⊎ (list_any p ys ≡ false) → list_any p xs ≡ list_any p ys
    by (inl t) = any_there p ys xs s.back t ∙ sym t
    by (inr f) = false_from_ne_true (list_any p xs) (λ t. no (sym f ∙ any_there p xs ys s.there t)) ∙ sym f
      where
        no : false ≡ true → ⊥
        no e = cc
