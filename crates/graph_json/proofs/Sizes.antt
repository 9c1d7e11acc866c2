-- An array in a text has no more items than the text has bytes.
use Rattle.std.proofs.Common.{◌≡◌, ℕ, zero, suc, ◌^◌, ◌<◌, ◌≤◌, max, List, [], ◌∷◌, length, Option, Some, None, option_map, option_and_then, Ordering, Less, Equal, Greater, refl, ap, subst, arith, Bool, true, false}
use Rattle.std.specs.Prelude.{⊤, IfSome}
use Rattle.std.specs.Ordering.{nat_cmp, match_ordering}
use Rattle.std.specs.Cmp.Lexicographic.{slice_cmp}
use Rattle.json.specs.Token.{Token}
use Rattle.json.specs.Lex as lexer
use Rattle.json.specs.Lex.{Mode, Class, Lexeme, Place, lex_byte, lex, class, tokens, punctuate, place_token, if_allowed, begins_colon}
use Rattle.json.specs.Json as json
use Rattle.json.specs.Json.{Parse, parse_map, after_end_array, read_key, items_step, members_step, value_with, value, if_last}
use Rattle.serde_json.specs.Data.{Data, null, boolean, number, string, array, object, Items, no_items, item, Members, no_members, member, put}
use Rattle.serde_json.specs.Events.{items_len}
use Rattle.serde_json.specs.Find.{get, get_member, as_array}
use Rattle.json_values.specs.Lists.{data_list, list_of}
use Rattle.graph_json.specs.Pieces.{list_in, HasShortLists}
use Rattle.serde_json.specs.Read.{number_of, of_json, of_items, of_members, max_depth, read}

-- ---- no more tokens than bytes, and one

lex_byte-length : (m : Mode) (c : Class) (x : ℕ) (xs : List ℕ) (k : Mode → List Lexeme) (n : ℕ) → ((next : Mode) → length (k next) ≤ n) → length (lex_byte m c x xs k) ≤ suc n
lex_byte-length lexer.between lexer.quote x xs k n h = omega (arith, h lexer.in_string)
lex_byte-length lexer.between lexer.backslash x xs k n h = omega (arith, h lexer.in_word)
lex_byte-length lexer.between lexer.operator x xs k n h = omega (arith, h lexer.between)
lex_byte-length lexer.between lexer.space x xs k n h = omega (arith, h lexer.between)
lex_byte-length lexer.between lexer.other x xs k n h = omega (arith, h lexer.in_word)
lex_byte-length lexer.in_word lexer.quote x xs k n h = omega (arith, h lexer.in_word)
lex_byte-length lexer.in_word lexer.backslash x xs k n h = omega (arith, h lexer.in_word)
lex_byte-length lexer.in_word lexer.operator x xs k n h = omega (arith, h lexer.between)
lex_byte-length lexer.in_word lexer.space x xs k n h = omega (arith, h lexer.between)
lex_byte-length lexer.in_word lexer.other x xs k n h = omega (arith, h lexer.in_word)
lex_byte-length lexer.in_string lexer.quote x xs k n h = omega (arith, h lexer.between)
lex_byte-length lexer.in_string lexer.backslash x xs k n h = omega (arith, h lexer.in_escape)
lex_byte-length lexer.in_string lexer.operator x xs k n h = omega (arith, h lexer.in_string)
lex_byte-length lexer.in_string lexer.space x xs k n h = omega (arith, h lexer.in_string)
lex_byte-length lexer.in_string lexer.other x xs k n h = omega (arith, h lexer.in_string)
lex_byte-length lexer.in_escape c x xs k n h = omega (arith, h lexer.in_string)

lex-length : (m : Mode) (xs : List ℕ) → length (lex m xs) ≤ length xs
unfolding lex
lex-length m [] = omega arith
lex-length m (x ∷ xs) = lex_byte-length m (class x) x xs (λ next. lex next xs) (length xs) (λ next. lex-length next xs)

if_allowed-length : (b : Bool) (t : Token) (k : Place → List Token) (next : Place) (n : ℕ) → length (k next) ≤ n → length (if_allowed b t k next) ≤ suc n
if_allowed-length true t k next n h = omega arith
if_allowed-length false t k next n h = omega arith

place_token-length : (p : Place) (t : Token) (b : Bool) (k : Place → List Token) (n : ℕ) → ((next : Place) → length (k next) ≤ n) → length (place_token p t b k) ≤ suc n
place_token-length p Token.begin_object b k n h = if_allowed-length _ Token.begin_object k lexer.fresh n (h lexer.fresh)
place_token-length p Token.end_object b k n h = if_allowed-length _ Token.end_object k lexer.after_value n (h lexer.after_value)
place_token-length p Token.begin_array b k n h = if_allowed-length _ Token.begin_array k lexer.fresh n (h lexer.fresh)
place_token-length p Token.end_array b k n h = if_allowed-length _ Token.end_array k lexer.after_value n (h lexer.after_value)
place_token-length p (Token.key s) b k n h = omega arith
place_token-length p (Token.string s) true k n h = if_allowed-length _ (Token.key s) k lexer.after_key n (h lexer.after_key)
place_token-length p (Token.string s) false k n h = if_allowed-length _ (Token.string s) k lexer.after_value n (h lexer.after_value)
place_token-length p (Token.number s) b k n h = if_allowed-length _ (Token.number s) k lexer.after_value n (h lexer.after_value)
place_token-length p (Token.boolean v) b k n h = if_allowed-length _ (Token.boolean v) k lexer.after_value n (h lexer.after_value)
place_token-length p Token.null b k n h = if_allowed-length _ Token.null k lexer.after_value n (h lexer.after_value)
place_token-length p Token.bad b k n h = omega arith

punctuate-length : (p : Place) (ls : List Lexeme) → length (punctuate p ls) ≤ suc (length ls)
unfolding punctuate
punctuate-length lexer.fresh [] = omega arith
punctuate-length lexer.after_value [] = omega arith
punctuate-length lexer.after_comma [] = omega arith
punctuate-length lexer.after_key [] = omega arith
punctuate-length lexer.fresh (lexer.token t ∷ ls) = place_token-length lexer.fresh t (begins_colon ls) (λ next. punctuate next ls) (suc (length ls)) (λ next. punctuate-length next ls)
punctuate-length lexer.after_value (lexer.token t ∷ ls) = place_token-length lexer.after_value t (begins_colon ls) (λ next. punctuate next ls) (suc (length ls)) (λ next. punctuate-length next ls)
punctuate-length lexer.after_comma (lexer.token t ∷ ls) = place_token-length lexer.after_comma t (begins_colon ls) (λ next. punctuate next ls) (suc (length ls)) (λ next. punctuate-length next ls)
punctuate-length lexer.after_key (lexer.token t ∷ ls) = place_token-length lexer.after_key t (begins_colon ls) (λ next. punctuate next ls) (suc (length ls)) (λ next. punctuate-length next ls)
punctuate-length lexer.fresh (lexer.comma ∷ ls) = omega arith
punctuate-length lexer.after_value (lexer.comma ∷ ls) = omega (arith, punctuate-length lexer.after_comma ls)
punctuate-length lexer.after_comma (lexer.comma ∷ ls) = omega arith
punctuate-length lexer.after_key (lexer.comma ∷ ls) = omega arith
punctuate-length lexer.fresh (lexer.colon ∷ ls) = omega arith
punctuate-length lexer.after_value (lexer.colon ∷ ls) = omega arith
punctuate-length lexer.after_comma (lexer.colon ∷ ls) = omega arith
punctuate-length lexer.after_key (lexer.colon ∷ ls) = omega (arith, punctuate-length lexer.fresh ls)

tokens-length : (text : List ℕ) → length (tokens text) ≤ suc (length text)
tokens-length text = omega (arith, punctuate-length lexer.fresh (lex lexer.between text), lex-length lexer.between text)

-- ---- what is parsed has no array longer than the tokens

abbrev count : json.Items → ℕ
count json.no_items = 0
count (json.item j js) = suc (count js)

-- how long the longest array inside is
abbrev mutual
  width : json.Json → ℕ
  width json.null = 0
  width (json.boolean b) = 0
  width (json.number s) = 0
  width (json.string s) = 0
  width (json.array js) = max (count js) (items_width js)
  width (json.object ms) = members_width ms

  items_width : json.Items → ℕ
  items_width json.no_items = 0
  items_width (json.item j js) = max (width j) (items_width js)

  members_width : json.Members → ℕ
  members_width json.no_members = 0
  members_width (json.member k j ms) = max (width j) (members_width ms)

-- what was read is at most that wide, and at most so many tokens are left
abbrev Reads : {A : Type 0} → (A → ℕ) → ℕ → ℕ → Option (A × List Token) → Type 0
Reads f n m None = ⊤
Reads f n m (Some p) = (f p.0 ≤ n) × (length p.1 ≤ m)

-- and the items are at most so many
abbrev ReadsItems : ℕ → ℕ → ℕ → Option (json.Items × List Token) → Type 0
ReadsItems t n m None = ⊤
ReadsItems t n m (Some p) = (count p.0 ≤ t) × (items_width p.0 ≤ n) × (length p.1 ≤ m)

abbrev Leaves : ℕ → Option (List Token) → Type 0
Leaves m None = ⊤
Leaves m (Some r) = length r ≤ m

after_end_array-leaves : (ts : List Token) → Leaves (length ts) (after_end_array ts)
after_end_array-leaves [] = tt
after_end_array-leaves (Token.begin_object ∷ ts) = tt
after_end_array-leaves (Token.end_object ∷ ts) = tt
after_end_array-leaves (Token.begin_array ∷ ts) = tt
after_end_array-leaves (Token.end_array ∷ ts) = omega arith
after_end_array-leaves (Token.key s ∷ ts) = tt
after_end_array-leaves (Token.string s ∷ ts) = tt
after_end_array-leaves (Token.number s ∷ ts) = tt
after_end_array-leaves (Token.boolean b ∷ ts) = tt
after_end_array-leaves (Token.null ∷ ts) = tt
after_end_array-leaves (Token.bad ∷ ts) = tt

abbrev zeros : {A : Type 0} → A → ℕ
zeros a = 0

read_key-reads : (n : ℕ) (ts : List Token) → Reads zeros n (length ts) (read_key ts)
read_key-reads n [] = tt
read_key-reads n (Token.begin_object ∷ ts) = tt
read_key-reads n (Token.end_object ∷ ts) = (omega arith, omega arith)
read_key-reads n (Token.begin_array ∷ ts) = tt
read_key-reads n (Token.end_array ∷ ts) = tt
read_key-reads n (Token.key s ∷ ts) = (omega arith, omega arith)
read_key-reads n (Token.string s ∷ ts) = tt
read_key-reads n (Token.number s ∷ ts) = tt
read_key-reads n (Token.boolean b ∷ ts) = tt
read_key-reads n (Token.null ∷ ts) = tt
read_key-reads n (Token.bad ∷ ts) = tt

module _ (n : ℕ) where
  abbrev Within : {A : Type 0} → (A → ℕ) → Parse A → Type 0
  Within f p = (ts : List Token) → length ts ≤ suc n → Reads f n (length ts) (p ts)

  abbrev WithinItems : ℕ → Parse json.Items → Type 0
  WithinItems t p = (ts : List Token) → length ts ≤ suc n → ReadsItems t n (length ts) (p ts)

  one_item : (t m k : ℕ) (j : json.Json) → width j ≤ n → k ≤ m → (o : Option (json.Items × List Token)) → ReadsItems t n k o → ReadsItems (suc t) n m (parse_map (json.item j) o)
  one_item t m k j w h None x = tt
  one_item t m k j w h (Some p) x = (omega (arith, x.0), omega (arith, x.1, w), omega (arith, x.2))

  then_items : (t m : ℕ) (more : Parse json.Items) → WithinItems t more → m ≤ suc n → (o : Option (json.Json × List Token)) → Reads width n m o
      → ReadsItems (suc t) n m (option_and_then (λ q. parse_map (json.item q.0) (more q.1)) o)
  then_items t m more again h None x = tt
  then_items t m more again h (Some q) x = one_item t m (length q.1) q.0 x.0 x.1 (more q.1) (again q.1 (omega (arith, x.1)))

  one_member : (m k : ℕ) (name : List ℕ) (j : json.Json) → width j ≤ n → k ≤ m → (o : Option (json.Members × List Token)) → Reads members_width n k o → Reads members_width n m (parse_map (json.member name j) o)
  one_member m k name j w h None x = tt
  one_member m k name j w h (Some p) x = (omega (arith, x.0, w), omega (arith, x.1))

  then_members : (m l : ℕ) (name : List ℕ) (more : Parse json.Members) → Within members_width more → m ≤ suc n → l ≤ m → (o : Option (json.Json × List Token)) → Reads width n l o
      → Reads members_width n m (option_and_then (λ q. parse_map (json.member name q.0) (more q.1)) o)
  then_members m l name more again h g None x = tt
  then_members m l name more again h g (Some q) x = one_member m (length q.1) name q.0 x.0 (omega (arith, x.1)) (more q.1) (again q.1 (omega (arith, x.1)))

  module _ (p : Parse json.Json) (within : Within width p) where
    item_turn : (t : ℕ) (more : Parse json.Items) → WithinItems t more → (ts : List Token) → length ts ≤ suc n → (o : Option (List Token)) → Leaves (length ts) o → ReadsItems (suc t) n (length ts) (items_step p more ts o)
    item_turn t more again ts h (Some r) x = (omega arith, omega arith, x)
    item_turn t more again ts h None x = then_items t (length ts) more again h (p ts) (within ts h)

    within_items : (t : ℕ) → WithinItems t (json.items p t)
    unfolding json.items
    within_items zero ts h = tt
    within_items (suc t) ts h = item_turn t (json.items p t) (within_items t) ts h (after_end_array ts) (after_end_array-leaves ts)

    member_turn : (m : ℕ) (more : Parse json.Members) → Within members_width more → m ≤ suc n → (o : Option (Option (List ℕ) × List Token)) → Reads zeros n m o
        → Reads members_width n m (option_and_then (λ q. members_step p more q.0 q.1) o)
    member_turn m more again h None x = tt
    member_turn m more again h (Some (None, s)) x = (omega arith, x.1)
    member_turn m more again h (Some (Some k, s)) x = then_members m (length s) k more again h x.1 (p s) (within s (omega (arith, x.1)))

    within_members : (t : ℕ) → Within members_width (json.members p t)
    unfolding json.members
    within_members zero ts h = tt
    within_members (suc t) ts h = member_turn (length ts) (json.members p t) (within_members t) h (read_key ts) (read_key-reads n ts)

  as_array_read : (m k : ℕ) → k ≤ n → k ≤ m → (o : Option (json.Items × List Token)) → ReadsItems k n k o → Reads width n m (parse_map json.array o)
  as_array_read m k g h None x = tt
  as_array_read m k g h (Some p) x = (omega (arith, x.0, x.1), omega (arith, x.2))

  as_object_read : (m k : ℕ) → k ≤ m → (o : Option (json.Members × List Token)) → Reads members_width n k o → Reads width n m (parse_map json.object o)
  as_object_read m k h None x = tt
  as_object_read m k h (Some p) x = (x.0, omega (arith, x.1))

  one_level : (a : Parse json.Items) (o : Parse json.Members) → ((ts : List Token) → suc (length ts) ≤ suc n → Reads width n (suc (length ts)) (parse_map json.array (a ts)))
      → ((ts : List Token) → suc (length ts) ≤ suc n → Reads width n (suc (length ts)) (parse_map json.object (o ts))) → Within width (value_with a o)
  one_level a o p q [] h = tt
  one_level a o p q (Token.begin_object ∷ ts) h = q ts h
  one_level a o p q (Token.end_object ∷ ts) h = tt
  one_level a o p q (Token.begin_array ∷ ts) h = p ts h
  one_level a o p q (Token.end_array ∷ ts) h = tt
  one_level a o p q (Token.key s ∷ ts) h = tt
  one_level a o p q (Token.string s ∷ ts) h = (omega arith, omega arith)
  one_level a o p q (Token.number s ∷ ts) h = (omega arith, omega arith)
  one_level a o p q (Token.boolean b ∷ ts) h = (omega arith, omega arith)
  one_level a o p q (Token.null ∷ ts) h = (omega arith, omega arith)
  one_level a o p q (Token.bad ∷ ts) h = tt

  within_value : (d : ℕ) → Within width (value d)
  unfolding value
  within_value zero = one_level (λ ts. None) (λ ts. None) (λ ts h. tt) (λ ts h. tt)
  within_value (suc d) =
      one_level (λ ts. json.items (value d) (length ts) ts) (λ ts. json.members (value d) (length ts) ts)
      (λ ts h. as_array_read (suc (length ts)) (length ts) (omega (arith, h)) (omega arith) _ (within_items (value d) (within_value d) (length ts) ts (omega (arith, h))))
      (λ ts h. as_object_read (suc (length ts)) (length ts) (omega arith) _ (within_members (value d) (within_value d) (length ts) ts (omega (arith, h))))

-- ---- what it stands for has none either

abbrev mutual
  longest : Data → ℕ
  longest null = 0
  longest (boolean b) = 0
  longest (number m) = 0
  longest (string s) = 0
  longest (array ds) = max (items_len ds) (longest_in_items ds)
  longest (object ms) = longest_in ms

  longest_in_items : Items → ℕ
  longest_in_items no_items = 0
  longest_in_items (item d ds) = max (longest d) (longest_in_items ds)

  longest_in : Members → ℕ
  longest_in no_members = 0
  longest_in (member k d ms) = max (longest d) (longest_in ms)

abbrev AtMost : {A : Type 0} → (A → ℕ) → ℕ → Option A → Type 0
AtMost f n None = ⊤
AtMost f n (Some a) = f a ≤ n

AtMost-map : {A B : Type 0} (f : A → ℕ) (g : B → ℕ) (m n : ℕ) (h : A → B) → ((a : A) → f a ≤ m → g (h a) ≤ n) → (o : Option A) → AtMost f m o → AtMost g n (option_map h o)
AtMost-map f g m n h k None x = tt
AtMost-map f g m n h k (Some a) x = k a x

AtMost-and_then : {A B : Type 0} (f : A → ℕ) (g : B → ℕ) (m n : ℕ) (h : A → Option B) → ((a : A) → f a ≤ m → AtMost g n (h a)) → (o : Option A) → AtMost f m o → AtMost g n (option_and_then h o)
AtMost-and_then f g m n h k None x = tt
AtMost-and_then f g m n h k (Some a) x = k a x

flat : {A : Type 0} (o : Option A) → AtMost zeros 0 o
flat None = tt
flat (Some a) = omega arith

both : (n : ℕ) (o : Option Items) → AtMost items_len n o → AtMost longest_in_items n o → AtMost longest n (option_map array o)
both n None x y = tt
both n (Some ds) x y = omega (arith, x, y)

longest_in-match_ordering : (o : Ordering) (a b c : Members) (n : ℕ) → longest_in a ≤ n → longest_in b ≤ n → longest_in c ≤ n → longest_in (match_ordering o a b c) ≤ n
longest_in-match_ordering Less a b c n p q r = p
longest_in-match_ordering Equal a b c n p q r = q
longest_in-match_ordering Greater a b c n p q r = r

longest_in-put : (k : List ℕ) (d : Data) (ms : Members) (n : ℕ) → longest d ≤ n → longest_in ms ≤ n → longest_in (put k d ms) ≤ n
longest_in-put k d no_members n p q = omega arith
longest_in-put k d (member l e ms) n p q =
    longest_in-match_ordering _ (member k d (member l e ms)) (member l d ms) (member l e (put k d ms)) n (omega arith) (omega arith) (omega (arith, longest_in-put k d ms n p (omega arith)))

count-of_items : (js : json.Items) (n : ℕ) → count js ≤ n → AtMost items_len n (of_items js)
count-of_items json.no_items n h = omega arith
count-of_items (json.item j js) n h =
    AtMost-and_then zeros items_len 0 n _ (λ d x. AtMost-map items_len items_len (count js) n (item d) (λ ds y. omega (arith, h)) _ (count-of_items js (count js) (omega arith))) _ (flat (of_json j))

mutual
  longest-of_json : (j : json.Json) (n : ℕ) → width j ≤ n → AtMost longest n (of_json j)
  longest-of_json json.null n h = omega arith
  longest-of_json (json.boolean b) n h = omega arith
  longest-of_json (json.number s) n h = AtMost-map zeros longest 0 n number (λ a x. omega arith) (number_of s) (flat _)
  longest-of_json (json.string s) n h = omega arith
  longest-of_json (json.array js) n h = both n (of_items js) (count-of_items js n (omega (arith, h))) (longest-of_items js n (omega (arith, h)))
  longest-of_json (json.object ms) n h = AtMost-map longest_in longest n n object (λ a x. x) _ (longest-of_members ms no_members n h (omega arith))

  longest-of_items : (js : json.Items) (n : ℕ) → items_width js ≤ n → AtMost longest_in_items n (of_items js)
  longest-of_items json.no_items n h = omega arith
  longest-of_items (json.item j js) n h =
      AtMost-and_then longest longest_in_items n n _ (λ d x. AtMost-map longest_in_items longest_in_items n n (item d) (λ ds y. omega arith) _ (longest-of_items js n (omega arith))) _ (longest-of_json j n (omega arith))

  longest-of_members : (ms : json.Members) (found : Members) (n : ℕ) → members_width ms ≤ n → longest_in found ≤ n → AtMost longest_in n (of_members ms found)
  longest-of_members json.no_members found n h k = k
  longest-of_members (json.member name j ms) found n h k =
      AtMost-and_then longest longest_in n n _ (λ d x. longest-of_members ms (put name d found) n (omega arith) (longest_in-put name d found n x k)) _ (longest-of_json j n (omega arith))

last_width : (o : Option (json.Json × List Token)) (n m : ℕ) → Reads width n m o → AtMost width n (option_and_then (λ p. if_last p.0 p.1) o)
last_width None n m h = tt
last_width (Some (j, [])) n m h = h.0
last_width (Some (j, t ∷ r)) n m h = tt

longest-read : (text : List ℕ) (n : ℕ) → length (tokens text) ≤ suc n → AtMost longest n (read text)
longest-read text n h = AtMost-and_then width longest n n of_json (λ j x. longest-of_json j n x) _ (last_width _ n (length (tokens text)) (within_value n max_depth (tokens text) h))

one_of : (o : Ordering) (n : ℕ) (e : Data) (rest : Option Data) → longest e ≤ n → AtMost longest n rest → AtMost longest n (match_ordering o rest (Some e) rest)
one_of Less n e rest h k = k
one_of Equal n e rest h k = h
one_of Greater n e rest h k = k

longest-get_member : (k : List ℕ) (ms : Members) (n : ℕ) → longest_in ms ≤ n → AtMost longest n (get_member k ms)
longest-get_member k no_members n h = tt
longest-get_member k (member l e ms) n h = one_of (slice_cmp nat_cmp k l) n e (get_member k ms) (omega arith) (longest-get_member k ms n (omega arith))

longest-get : (k : List ℕ) (d : Data) (n : ℕ) → longest d ≤ n → AtMost longest n (get k d)
longest-get k null n h = tt
longest-get k (boolean b) n h = tt
longest-get k (number m) n h = tt
longest-get k (string s) n h = tt
longest-get k (array ds) n h = tt
longest-get k (object ms) n h = longest-get_member k ms n h

array_len : (d : Data) (n : ℕ) → longest d ≤ n → AtMost items_len n (as_array d)
array_len null n h = tt
array_len (boolean b) n h = tt
array_len (number m) n h = tt
array_len (string s) n h = tt
array_len (array ds) n h = omega (arith, h)
array_len (object ms) n h = tt

length-data_list : (ds : Items) → length (data_list ds) ≡ items_len ds
length-data_list no_items = refl
length-data_list (item d ds) = ap suc (length-data_list ds)

list_len : (name : List ℕ) (d : Data) (n : ℕ) → longest d ≤ n → AtMost length n (list_in name d)
list_len name d n h =
    AtMost-and_then longest length n n list_of (λ e x. AtMost-map items_len length n n data_list (λ ds y. omega (arith, length-data_list ds, y)) _ (array_len e n x)) _ (longest-get name d n h)

short : (m : ℕ) (o : Option (List Data)) → m < 2 ^ 32 → AtMost length m o → IfSome o (λ xs. length xs < 2 ^ 32)
short m None h x = tt
short m (Some xs) h x = omega (arith, x)

pub short_lists : (text : List ℕ) (d : Data) → length text < 2 ^ 32 → read text ≡ Some d → HasShortLists d
short_lists text d h e name =
    short (length text) (list_in name d) h (list_len name d (length text) (subst (AtMost longest (length text)) e (longest-read text (length text) (tokens-length text))))
