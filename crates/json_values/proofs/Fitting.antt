-- Which values of the grammar have only numbers in range, and that their tokens tell it.
use Rattle.std.proofs.Common.{◌≡◌, ℕ, zero, suc, List, [], ◌∷◌, length, Bool, true, false, ◌&&◌, Option, Some, None, option_map, option_and_then, refl, sym, ap, ◌∙◌, subst}
use Rattle.std.specs.Prelude.{⊤, is_some}
use Rattle.std.specs.List.{list_all}
use Rattle.json.specs.Token.{Token}
use Rattle.json.specs.Json as json
use Rattle.json.specs.Json.{Json, Parse, parse_map, after_end_array, read_key, items_step, members_step, items, members, value_with, value}
use Rattle.json.proofs.Grammar.{closed_array, read_key_is}
use Rattle.serde_json.specs.Data.{number, array, object, Members, no_members, item, put}
use Rattle.serde_json.specs.Read.{number_of, of_json, of_items, of_members}
use Rattle.json_values.specs.Checks.{token_fits}

abbrev mutual
  pub fits : Json → Bool
  fits json.null = true
  fits (json.boolean b) = true
  fits (json.number s) = is_some (number_of s)
  fits (json.string s) = true
  fits (json.array js) = items_fit js
  fits (json.object ms) = members_fit ms

  pub items_fit : json.Items → Bool
  items_fit json.no_items = true
  items_fit (json.item j js) = fits j && items_fit js

  pub members_fit : json.Members → Bool
  members_fit json.no_members = true
  members_fit (json.member k j ms) = fits j && members_fit ms

-- ---- such a value has data

some_map : {A B : Type 0} (f : A → B) (o : Option A) → is_some (option_map f o) ≡ is_some o
some_map f None = refl
some_map f (Some a) = refl

some_both : {A B : Type 0} (f : A → Option B) (b : Bool) → ((a : A) → is_some (f a) ≡ b) → (o : Option A) → is_some (option_and_then f o) ≡ (is_some o && b)
some_both f b h None = refl
some_both f b h (Some a) = h a

mutual
  pub is_some-of_json : (j : Json) → is_some (of_json j) ≡ fits j
  is_some-of_json json.null = refl
  is_some-of_json (json.boolean b) = refl
  is_some-of_json (json.number s) = some_map number (number_of s)
  is_some-of_json (json.string s) = refl
  is_some-of_json (json.array js) = some_map array (of_items js) ∙ is_some-of_items js
  is_some-of_json (json.object ms) = some_map object (of_members ms no_members) ∙ is_some-of_members ms no_members

  is_some-of_items : (js : json.Items) → is_some (of_items js) ≡ items_fit js
  is_some-of_items json.no_items = refl
  is_some-of_items (json.item j js) =
      some_both (λ d. option_map (item d) (of_items js)) (items_fit js) (λ d. some_map (item d) (of_items js) ∙ is_some-of_items js) (of_json j) ∙ ap (λ b. b && items_fit js) (is_some-of_json j)

  is_some-of_members : (ms : json.Members) (found : Members) → is_some (of_members ms found) ≡ members_fit ms
  is_some-of_members json.no_members found = refl
  is_some-of_members (json.member k j ms) found =
      some_both (λ d. of_members ms (put k d found)) (members_fit ms) (λ d. is_some-of_members ms (put k d found)) (of_json j) ∙ ap (λ b. b && members_fit ms) (is_some-of_json j)

-- ---- its tokens tell it

abbrev pub all_fit : List Token → Bool
all_fit ts = list_all token_fits ts

-- the tokens fit where what was read does, and the rest
abbrev pub Agrees : {A : Type 0} → (A → Bool) → Bool → Option (A × List Token) → Type 0
Agrees f b None = ⊤
Agrees f b (Some p) = b ≡ (f p.0 && all_fit p.1)

regroup : (a b c : Bool) → (a && (b && c)) ≡ ((a && b) && c)
regroup true b c = refl
regroup false b c = refl

mapped : {A B : Type 0} (f : A → Bool) (g : B → Bool) (h : A → B) → ((a : A) → f a ≡ g (h a)) → (b : Bool) (o : Option (A × List Token)) → Agrees f b o → Agrees g b (parse_map h o)
mapped f g h is b None x = tt
mapped f g h is b (Some p) x = x ∙ ap (λ c. c && all_fit p.1) (is p.0)

then_more : {B : Type 0} (g : B → Bool) (h : Json → B → B) → ((j : Json) (c : B) → g (h j c) ≡ (fits j && g c)) → (b : Bool) (j : Json) (rest : Bool) → b ≡ (fits j && rest)
    → (o : Option (B × List Token)) → Agrees g rest o → Agrees g b (parse_map (h j) o)
then_more g h is b j rest x None y = tt
then_more g h is b j rest x (Some p) y = x ∙ ap (λ c. fits j && c) y ∙ regroup (fits j) (g p.0) (all_fit p.1) ∙ ap (λ c. c && all_fit p.1) (sym (is j p.0))

and_more : {B : Type 0} (g : B → Bool) (h : Json → B → B) → ((j : Json) (c : B) → g (h j c) ≡ (fits j && g c)) → (more : Parse B) → ((ts : List Token) → Agrees g (all_fit ts) (more ts))
    → (b : Bool) (o : Option (Json × List Token)) → Agrees fits b o → Agrees g b (option_and_then (λ q. parse_map (h q.0) (more q.1)) o)
and_more g h is more again b None x = tt
and_more g h is more again b (Some q) x = then_more g h is b q.0 (all_fit q.1) x (more q.1) (again q.1)

module _ (p : Parse Json) (within : (ts : List Token) → Agrees fits (all_fit ts) (p ts)) where
  item_turn : (more : Parse json.Items) → ((ts : List Token) → Agrees items_fit (all_fit ts) (more ts)) → (ts : List Token) (o : Option (List Token)) → after_end_array ts ≡ o
      → Agrees items_fit (all_fit ts) (items_step p more ts o)
  item_turn more again ts (Some r) e = ap all_fit (closed_array ts r e)
  item_turn more again ts None e = and_more items_fit json.item (λ j c. refl) more again (all_fit ts) (p ts) (within ts)

  Agrees-items : (n : ℕ) (ts : List Token) → Agrees items_fit (all_fit ts) (items p n ts)
  unfolding items
  Agrees-items zero ts = tt
  Agrees-items (suc n) ts = item_turn (items p n) (Agrees-items n) ts (after_end_array ts) refl

  member_turn : (more : Parse json.Members) → ((ts : List Token) → Agrees members_fit (all_fit ts) (more ts)) → (ts : List Token) (o : Option (Option (List ℕ) × List Token)) → read_key ts ≡ o
      → Agrees members_fit (all_fit ts) (option_and_then (λ q. members_step p more q.0 q.1) o)
  member_turn more again ts None e = tt
  member_turn more again ts (Some (None, s)) e = ap all_fit (read_key_is ts None s e)
  member_turn more again ts (Some (Some k, s)) e =
      and_more members_fit (json.member k) (λ j c. refl) more again (all_fit ts) (p s) (subst (λ b. Agrees fits b (p s)) (sym (ap all_fit (read_key_is ts (Some k) s e))) (within s))

  Agrees-members : (n : ℕ) (ts : List Token) → Agrees members_fit (all_fit ts) (members p n ts)
  unfolding members
  Agrees-members zero ts = tt
  Agrees-members (suc n) ts = member_turn (members p n) (Agrees-members n) ts (read_key ts) refl

one_level : (a : Parse json.Items) (o : Parse json.Members) → ((ts : List Token) → Agrees items_fit (all_fit ts) (a ts)) → ((ts : List Token) → Agrees members_fit (all_fit ts) (o ts))
    → (ts : List Token) → Agrees fits (all_fit ts) (value_with a o ts)
one_level a o p q [] = tt
one_level a o p q (Token.begin_object ∷ ts) = mapped members_fit fits json.object (λ ms. refl) (all_fit ts) (o ts) (q ts)
one_level a o p q (Token.end_object ∷ ts) = tt
one_level a o p q (Token.begin_array ∷ ts) = mapped items_fit fits json.array (λ js. refl) (all_fit ts) (a ts) (p ts)
one_level a o p q (Token.end_array ∷ ts) = tt
one_level a o p q (Token.key s ∷ ts) = tt
one_level a o p q (Token.string s ∷ ts) = refl
one_level a o p q (Token.number s ∷ ts) = refl
one_level a o p q (Token.boolean b ∷ ts) = refl
one_level a o p q (Token.null ∷ ts) = refl
one_level a o p q (Token.bad ∷ ts) = tt

pub Agrees-value : (d : ℕ) (ts : List Token) → Agrees fits (all_fit ts) (value d ts)
unfolding value
Agrees-value zero = one_level (λ ts. None) (λ ts. None) (λ ts. tt) (λ ts. tt)
Agrees-value (suc d) =
    one_level (λ ts. items (value d) (length ts) ts) (λ ts. members (value d) (length ts) ts) (λ ts. Agrees-items (value d) (Agrees-value d) (length ts) ts)
    (λ ts. Agrees-members (value d) (Agrees-value d) (length ts) ts)
