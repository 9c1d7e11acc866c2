-- The first place that passes a test, as a list grows; and an index of names, as one more name is looked at.
use Rattle.std.proofs.Common.{◌≡◌, ℕ, ◌+◌, ◌<◌, ◌≤◌, List, [], ◌∷◌, ◌++◌, length, get_or, map, take, cond, Bool, true, false, Option, Some, None, position, codes, is_some, nat_lt, nat_eq, refl, sym, ap, ◌∙◌, arith, length-append, true≢false}
use Rattle.std.specs.List.{position_or_len}
use Rattle.std.specs.Option.{option_or, option_copied}
use Rattle.std.specs.Str.{bytes_eq}
use Rattle.std.specs.Borrow.{Bor}
use Rattle.std.specs.HashMap as hash
use Rattle.std.proofs.lemmas.List.{take_more, map-append, length-map, length-take-le}
use Rattle.std.proofs.lemmas.List.Folds.{position_or_len_push}
use Rattle.std.proofs.lemmas.List.Sums.{prefix_len-le-length}
use Rattle.std.proofs.lemmas.Bool.Decides.{nat_tests}
use Rattle.std.proofs.lemmas.Slice.Eq.{bytes_eq-Decides}
use Rattle.std.proofs.lemmas.Map.Text.{hash_map_updates_str}
use Rattle.indexmap.specs.IndexMap.{IndexMap, get_by}
use Rattle.serde_json.specs.View.{view}
use Rattle.serde_json.specs.declared.value.Value.{Value}
use Rattle.json_values.specs.Numbers.{only_if}
use Rattle.graph_json.specs.Named.{is_called, first_called, names_of, name_in}
use Rattle.graph_json.specs.Numbering.{IsNumbering}

module _ {X : Type 0} (p : X → Bool) where
  place_in : (n m : ℕ) → n ≤ m → (b : Bool) → cond (nat_lt (cond (nat_eq n m) (m + cond b 0 1) n) (m + 1)) (Some (cond (nat_eq n m) (m + cond b 0 1) n)) None ≡ option_or (cond (nat_lt n m) (Some n) None) (only_if b m)
  place_in n m h true = grind (arith, nat_tests)
  place_in n m h false = grind (arith, nat_tests)

  -- one more element
  pub position-push : (xs : List X) (y : X) → position p (xs ++ y ∷ []) ≡ option_or (position p xs) (only_if (p y) (length xs))
  position-push xs y =
      let len : length (xs ++ y ∷ []) ≡ length xs + 1 = omega (arith, length-append xs (y ∷ [])) in
      rw (position_or_len_push p xs y, len) (place_in (position_or_len p xs) (length xs) (prefix_len-le-length _ xs) (p y))

keeps : (o : Option ℕ) → o ≡ option_or o None
keeps None = refl
keeps (Some x) = refl

pub names_of-more : (vs : List Value) (i : ℕ) (v : Value) → i < length vs → v ≡ get_or vs i v → names_of (map view (take (i + 1) vs)) ≡ names_of (map view (take i vs)) ++ name_in (codes "name") (view v) ∷ []
names_of-more vs i v h e =
    ap (λ l. names_of (map view l)) (take_more vs i v h ∙ ap (λ w. take i vs ++ w ∷ []) (sym e)) ∙ ap names_of (map-append view (take i vs) (v ∷ [])) ∙ map-append _ (map view (take i vs)) (view v ∷ [])

pub length-names_of : (vs : List Value) (i : ℕ) → i ≤ length vs → length (names_of (map view (take i vs))) ≡ i
length-names_of vs i h = length-map (map view (take i vs)) _ ∙ length-map (take i vs) view ∙ length-take-le i vs h

module _ {S : Type 0} (names : List (Option (List ℕ))) (own : List ℕ) (m n : IndexMap (Bor (List ℕ)) ℕ S) where
  -- the name is that of an earlier node
  pub Numbering-again : IsNumbering names m → (r : Option (Bor ℕ)) → option_copied r ≡ get_by (λ k. bytes_eq own k.now) m → is_some r ≡ true → IsNumbering (names ++ Some own ∷ []) m
  Numbering-again numbering None read some q = absurd (true≢false (sym some))
  Numbering-again numbering (Some i) read some q = numbering q ∙ by (bytes_eq q own) refl ∙ sym (position-push (is_called q) names (Some own))
    where
      by : (b : Bool) → bytes_eq q own ≡ b → first_called names q ≡ option_or (first_called names q) (only_if (bytes_eq q own) (length names))
      by false e = rw e (keeps (first_called names q))
      by true e = let same : q ≡ own = (bytes_eq-Decides q own).0 e in
          let here : first_called names q ≡ Some i.now = ap (first_called names) same ∙ sym (numbering own) ∙ sym read in rw here refl

  -- the name is new
  pub Numbering-new : IsNumbering names m → (r : Option (Bor ℕ)) → option_copied r ≡ get_by (λ k. bytes_eq own k.now) m → is_some r ≡ false → hash.UpdatesBy (λ x y. bytes_eq x.now y.now) (λ k. bytes_eq own k.now) m n (Some (length names))
      → IsNumbering (names ++ Some own ∷ []) n
  Numbering-new numbering (Some i) read none updates q = absurd (true≢false none)
  Numbering-new numbering None read none updates q = hash_map_updates_str own m n (Some (length names)) updates q ∙ by (bytes_eq own q) refl ∙ sym (position-push (is_called q) names (Some own))
    where
      by : (b : Bool) → bytes_eq own q ≡ b → cond (bytes_eq own q) (Some (length names)) (get_by (λ k. bytes_eq q k.now) m) ≡ option_or (first_called names q) (only_if (bytes_eq q own) (length names))
      by true e = let same : own ≡ q = (bytes_eq-Decides own q).0 e in
          let gone : first_called names q ≡ None = ap (first_called names) (sym same) ∙ sym (numbering own) ∙ sym read in
          let back : bytes_eq q own ≡ true = (bytes_eq-Decides q own).1 (sym same) in rw (e, gone, back) refl
      by false e = let differs : bytes_eq q own ≡ false = other (bytes_eq q own) refl in rw (e, differs) (numbering q ∙ keeps (first_called names q))
        where
          other : (b : Bool) → bytes_eq q own ≡ b → bytes_eq q own ≡ false
          other true g = absurd (true≢false (sym ((bytes_eq-Decides own q).1 (sym ((bytes_eq-Decides q own).0 g))) ∙ e))
          other false g = g
