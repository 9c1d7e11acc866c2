-- The paths that a look-up in an index passes over: the path at which it stands tells that none of them is offered.
use Rattle.std.proofs.Common.{◌≡◌, refl, sym, ◌∙◌, ap, subst, ℕ, zero, suc, ◌+◌, ◌-◌, ◌<◌, ◌≤◌, List, [], ◌∷◌, length, take, drop, get_or, Bool, true, false, cond, Option, None, Some, arith, min, slice_get, inl, inr}
use Rattle.std.specs.Prelude.{filter, ◌&&◌, nat_eq}
use Rattle.std.specs.List.{prefix_len}
use Rattle.std.specs.List.Sorted.{IsPartitionedBy}
use Rattle.std.specs.Option.{option_map_or}
use Rattle.std.specs.Ordering.{nat_cmp, is_lt, is_eq, ordering_index, ordering_then}
use Rattle.std.specs.Cmp.Lexicographic.{slice_cmp, texts_ties}
use Rattle.std.specs.Cmp.{tied_then}
use Rattle.std.specs.declared.cmp.Ordering.{Ordering}
use Rattle.std.specs.declared.cmp.Ordering.TheVariants.{Less, Equal, Greater}
use Rattle.std.proofs.lemmas.Bool.{cases_Bool, cases_lt, false≢true}
use Rattle.std.proofs.lemmas.Bool.Decides.{nat_tests}
use Rattle.std.proofs.lemmas.List.{drop_more, length-drop, get_or-drop}
use Rattle.std.proofs.lemmas.List.Sums.{prefix_len-le-length, prefix_len_passes, prefix_len_stops}
use Rattle.std.proofs.lemmas.Option.{none-some, slice_get_within, get_or_from_slice_get}
use Rattle.std.proofs.lemmas.Slice.Eq.{bytes_eq-Decides}
use Rattle.std.proofs.Math.ListN.{drop_of_length-le}
use Rattle.stacks_vars.specs.declared.items.SymbolItem.{SymbolItem}
use Rattle.partial_path.specs.Keys.{key_cmp, texts}
use Rattle.partial_path.proofs.Halved.{filter_none}
use Rattle.partial_path.proofs.Standing.{first_of, second_of, stands_is, stands_short}
use Rattle.root_index.specs.Roots.{RootPath, root_key, AreByRank}
use Rattle.root_index.specs.Inside.{IsOtherwise, key_order, is_before_key}
use Rattle.root_index.specs.Offers.{asks}
use Rattle.root_index.proofs.KeyOrders.{keys_rise, root_key_short}
use Rattle.root_index.proofs.Meeting.{less_longer, greater_shorter}

-- those before a key stand first
before_lower : (a b : Ordering) → ordering_index a ≤ ordering_index b → is_lt b ≡ true → is_lt a ≡ true
before_lower Less b h e = refl
before_lower Equal Less h e = absurd (omega (arith, h))
before_lower Equal Equal h e = e
before_lower Equal Greater h e = e
before_lower Greater Less h e = absurd (omega (arith, h))
before_lower Greater Equal h e = e
before_lower Greater Greater h e = e

pub parted_before : (paths : List RootPath) (asked : List (List ℕ)) → AreByRank paths → IsPartitionedBy (is_before_key asked) paths
parted_before paths asked sorted i j d le h e =
    before_lower (key_order asked (get_or paths i d)) (key_order asked (get_or paths j d)) (keys_rise paths asked sorted i j d le h) e

-- a path before a key is one of the first ones, which are before it
pub before_first : (paths : List RootPath) (asked : List (List ℕ)) (place : ℕ) → AreByRank paths → option_map_or (is_before_key asked) (slice_get paths place) false ≡ true
    → place < prefix_len (is_before_key asked) paths
before_first paths asked place sorted e = found (slice_get paths place) refl e
  where
    found : (o : Option RootPath) → slice_get paths place ≡ o → option_map_or (is_before_key asked) o false ≡ true → place < prefix_len (is_before_key asked) paths
    found None is f = absurd (false≢true f)
    found (Some p) is f = elim (cases_lt place (prefix_len (is_before_key asked) paths)) [
      | inl less ↦ less
      | inr not_less ↦
          let inside : place < length paths = slice_get_within paths place p is in
          let there : is_before_key asked (get_or paths place p) ≡ true = ap (is_before_key asked) (get_or_from_slice_get paths place p p is) ∙ f in
          let first : is_before_key asked (get_or paths (prefix_len (is_before_key asked) paths) p) ≡ true
          = parted_before paths asked sorted (prefix_len (is_before_key asked) paths) place p (omega (arith, not_less)) inside there in
          absurd (false≢true (sym (prefix_len_stops (is_before_key asked) paths p (omega (arith, not_less, inside))) ∙ first))
    ]

-- paths that fail a test are passed over
failing : (q : RootPath → Bool) (paths : List RootPath) (d : RootPath) (place n : ℕ) → place + n ≤ length paths
    → ((k : ℕ) → place ≤ k → k < place + n → q (get_or paths k d) ≡ false) → filter q (drop place paths) ≡ filter q (drop (place + n) paths)
failing q paths d place zero h fails = let same : place ≡ place + 0 = omega arith in ap (λ k. filter q (drop k paths)) same
failing q paths d place (suc n) h fails =
    let next : place + 1 + n ≡ place + suc n = omega arith in
    ap (filter q) (drop_more paths place d (omega (arith, h)))
    ∙ ap (λ b. cond b (get_or paths place d ∷ filter q (drop (place + 1) paths)) (filter q (drop (place + 1) paths))) (fails place (omega arith) (omega arith))
    ∙ failing q paths d (place + 1) n (omega (arith, h)) (λ k low high. fails k (omega (arith, low)) (omega (arith, high)))
    ∙ ap (λ k. filter q (drop k paths)) next

-- a path of which no key of the stack's first symbols is the key isn't offered
not_asked : (symbols : List SymbolItem) (p : RootPath)
    → ((c : ℕ) → c ≤ length symbols → c ≤ 6 → is_eq (key_order (take c (texts symbols)) p) ≡ false) → asks symbols p ≡ false
not_asked symbols p none = elim (cases_Bool (asks symbols p)) [
  | inl told ↦
      let few : length (root_key p) ≤ length symbols = stands_short (root_key p) symbols told in
      let self : nat_eq (length (root_key p)) (length (root_key p)) ≡ true = same_length (length (root_key p)) in
      absurd (false≢true
      (sym (none (length (root_key p)) few (root_key_short p))
      ∙ stands_is (root_key p) symbols (length (root_key p)) few
      ∙ (λ i. told i && self i)))
  | inr other ↦ other
]
  where
    same_length : (m : ℕ) → nat_eq m m ≡ true
    same_length m = grind (arith, nat_tests)

greater_is_not : (r : Ordering) → r ≡ Greater → is_eq r ≡ false
greater_is_not r e = ap is_eq e

less_is_not : (r : Ordering) → r ≡ Less → is_eq r ≡ false
less_is_not r e = ap is_eq e

-- those behind a path that is behind a key are behind it too
top : (a b : Ordering) → ordering_index a ≤ ordering_index b → a ≡ Greater → b ≡ Greater
top a Less h e = absurd (let high : ordering_index a ≡ 2 = ap ordering_index e in omega (arith, h, high))
top a Equal h e = absurd (let high : ordering_index a ≡ 2 = ap ordering_index e in omega (arith, h, high))
top a Greater h e = refl

still_behind : (paths : List RootPath) (asked : List (List ℕ)) (place k : ℕ) (p d : RootPath) → AreByRank paths → slice_get paths place ≡ Some p → key_order asked p ≡ Greater
    → place ≤ k → k < length paths → key_order asked (get_or paths k d) ≡ Greater
still_behind paths asked place k p d sorted here e low inside =
    top (key_order asked (get_or paths place d)) (key_order asked (get_or paths k d)) (keys_rise paths asked sorted place k d low inside)
    (ap (key_order asked) (get_or_from_slice_get paths place p d here) ∙ e)

is_less : (r : Ordering) → is_lt r ≡ true → r ≡ Less
is_less Less e = refl
is_less Equal e = absurd (false≢true e)
is_less Greater e = absurd (false≢true e)

-- from a path between the key of n symbols and those of more on, up to where these begin, none is offered
pub passed_over : (paths : List RootPath) (symbols : List SymbolItem) (n place later : ℕ) (p : RootPath) → AreByRank paths → slice_get paths place ≡ Some p
    → key_order (take n (texts symbols)) p ≡ Greater → place < later → later ≤ prefix_len (is_before_key (take (n + 1) (texts symbols))) paths
    → filter (asks symbols) (drop place paths) ≡ filter (asks symbols) (drop later paths)
passed_over paths symbols n place later p sorted here behind less first =
    failing (asks symbols) paths p place (later - place) (omega (arith, less, first, inside)) (λ k low high. not_asked symbols (get_or paths k p) (λ c few most. none k low (omega (arith, high, less)) c))
    ∙ ap (λ k. filter (asks symbols) (drop k paths)) (omega (arith, less))
  where
    inside : prefix_len (is_before_key (take (n + 1) (texts symbols))) paths ≤ length paths
    inside = prefix_len-le-length (is_before_key (take (n + 1) (texts symbols))) paths

    none : (k : ℕ) → place ≤ k → k < later → (c : ℕ) → is_eq (key_order (take c (texts symbols)) (get_or paths k p)) ≡ false
    none k low high c = elim (cases_lt n c) [
      | inl more ↦
          less_is_not _
          (less_longer (root_key (get_or paths k p)) (texts symbols) (n + 1) c
          (is_less _ (prefix_len_passes (is_before_key (take (n + 1) (texts symbols))) paths k p (omega (arith, high, first)))) (omega (arith, more)))
      | inr no_more ↦
          greater_is_not _
          (greater_shorter (root_key (get_or paths k p)) (texts symbols) c n
          (still_behind paths (take n (texts symbols)) place k p p sorted here behind low (omega (arith, high, first, inside))) (omega (arith, no_more)))
    ]

-- from a path behind all keys on none is offered
pub none_behind : (paths : List RootPath) (symbols : List SymbolItem) (place most : ℕ) (p : RootPath) → AreByRank paths → slice_get paths place ≡ Some p
    → key_order (take most (texts symbols)) p ≡ Greater → most ≡ min 6 (length symbols) → filter (asks symbols) (drop place paths) ≡ []
none_behind paths symbols place most p sorted here behind is =
    filter_none (asks symbols) (drop place paths) none
  where
    none : (k : ℕ) (d : RootPath) → k < length (drop place paths) → asks symbols (get_or (drop place paths) k d) ≡ false
    none k d h =
        let inside : place + k < length paths = (let left = length-drop place paths in omega (arith, left, h)) in
        ap (asks symbols) (get_or-drop place paths k d)
        ∙ not_asked symbols (get_or paths (place + k) d)
        (λ c few short. greater_is_not _
        (greater_shorter (root_key (get_or paths (place + k) d)) (texts symbols) c most
        (still_behind paths (take most (texts symbols)) place (place + k) p d sorted here behind (omega arith) inside) (omega (arith, few, short, is))))

-- an offered one comes next
pub comes_next : (paths : List RootPath) (symbols : List SymbolItem) (place : ℕ) (p : RootPath) → slice_get paths place ≡ Some p → asks symbols p ≡ true
    → filter (asks symbols) (drop place paths) ≡ p ∷ filter (asks symbols) (drop (place + 1) paths)
comes_next paths symbols place p here told =
    ap (filter (asks symbols)) (drop_more paths place p (slice_get_within paths place p here))
    ∙ ap (λ q. filter (asks symbols) (q ∷ drop (place + 1) paths)) (get_or_from_slice_get paths place p p here)
    ∙ ap (λ b. cond b (p ∷ filter (asks symbols) (drop (place + 1) paths)) (filter (asks symbols) (drop (place + 1) paths))) told

-- where there is no path none is left
pub none_left : (paths : List RootPath) (symbols : List SymbolItem) (place : ℕ) → length paths ≤ place → filter (asks symbols) (drop place paths) ≡ []
none_left paths symbols place past = ap (filter (asks symbols)) (drop_of_length-le paths past)

-- keys that tie are one
key_tied : (a b : List (List ℕ)) → is_eq (key_cmp a b) ≡ true → a ≡ b
key_tied [] [] e = refl
key_tied [] (y ∷ b) e = absurd (false≢true e)
key_tied (x ∷ a) [] e = absurd (false≢true e)
key_tied (x ∷ a) (y ∷ b) e =
    let both : is_eq (slice_cmp nat_cmp x y) && is_eq (key_cmp a b) ≡ true = tied_then (slice_cmp nat_cmp x y) (key_cmp a b) ∙ e in
    let same : x ≡ y = (bytes_eq-Decides x y).0 (texts_ties x y ∙ first_of (is_eq (slice_cmp nat_cmp x y)) (is_eq (key_cmp a b)) both) in
    let rest : a ≡ b = key_tied a b (second_of (is_eq (slice_cmp nat_cmp x y)) (is_eq (key_cmp a b)) both) in
    λ i. same i ∷ rest i

eq_one : (r : Ordering) → is_eq r ≡ true → ordering_index r ≡ 1
eq_one Less f = absurd (false≢true f)
eq_one Equal f = refl
eq_one Greater f = absurd (false≢true f)

-- a path in order behind an offered one that doesn't begin with its key is behind all keys of the stack's first symbols
later_by : (x y : List ℕ) (k t : List (List ℕ)) (rest : Ordering) (o : IsOtherwise (y ∷ t) (x ∷ k)) (r : Ordering) → slice_cmp nat_cmp x y ≡ r → ordering_then r rest ≡ Greater
    → (later : Ordering) → (rest ≡ Greater → IsOtherwise t k → later ≡ Greater) → ordering_then (slice_cmp nat_cmp x y) later ≡ Greater
later_by x y k t rest o Less is e later on = absurd (false≢true (sym (ap is_lt e)))
later_by x y k t rest o Greater is e later on = ap (λ r. ordering_then r later) is
later_by x y k t rest o Equal is e later on = ap (λ r. ordering_then r later) is ∙ on e (deeper o.place o.there o.other_there)
  where
    same : x ≡ y
    same = (bytes_eq-Decides x y).0 (texts_ties x y ∙ ap is_eq is)

    deeper : (i : ℕ) → slice_get (y ∷ t) i ≡ Some o.text → (slice_get (x ∷ k) i ≡ Some o.text → ⊥) → IsOtherwise t k
    deeper zero there other = absurd (other (ap Some same ∙ there))
    deeper (suc i) there other = record { place = i; text = o.text; there = there; other_there = other }

later_behind : (k t : List (List ℕ)) (n m : ℕ) → key_cmp k (take n t) ≡ Greater → IsOtherwise (take n t) k → n ≤ m → key_cmp k (take m t) ≡ Greater
later_behind k t zero m e o le = absurd (none-some o.text o.there)
later_behind k [] (suc n) m e o le = absurd (none-some o.text o.there)
later_behind [] (y ∷ t) (suc n) m e o le = absurd (false≢true (sym (ap is_lt e)))
later_behind (x ∷ k) (y ∷ t) (suc n) zero e o le = absurd (omega (arith, le))
later_behind (x ∷ k) (y ∷ t) (suc n) (suc m) e o le =
    later_by x y k (take n t) (key_cmp k (take n t)) o (slice_cmp nat_cmp x y) refl e (key_cmp k (take m t)) (λ f p. later_behind k t n m f p (omega (arith, le)))

-- behind an offered path none is offered where the next one doesn't begin with its key
pub none_after : (paths : List RootPath) (symbols : List SymbolItem) (place : ℕ) (p q : RootPath) → AreByRank paths → slice_get paths place ≡ Some p → slice_get paths (place + 1) ≡ Some q
    → IsOtherwise (root_key p) (root_key q) → asks symbols p ≡ true → filter (asks symbols) (drop (place + 1) paths) ≡ []
none_after paths symbols place p q sorted here next other told =
    none_behind paths symbols (place + 1) (min 6 (length symbols)) q sorted next behind refl
  where
    size : ℕ
    size = length (root_key p)

    few : size ≤ length symbols
    few = stands_short (root_key p) symbols told

    tie : is_eq (key_order (take size (texts symbols)) p) ≡ true
    tie = stands_is (root_key p) symbols size few ∙ (λ i. told i && (nat_self size) i)
      where
        nat_self : (m : ℕ) → nat_eq m m ≡ true
        nat_self m = grind (arith, nat_tests)

    is_key : root_key p ≡ take size (texts symbols)
    is_key = key_tied (root_key p) (take size (texts symbols)) tie

    otherwise : IsOtherwise (take size (texts symbols)) (root_key q)
    otherwise = subst (λ (k : List (List ℕ)). IsOtherwise k (root_key q)) is_key other

    rises : ordering_index (key_order (take size (texts symbols)) p) ≤ ordering_index (key_order (take size (texts symbols)) q)
    rises =
        let inside = slice_get_within paths (place + 1) q next in
        let up = keys_rise paths (take size (texts symbols)) sorted place (place + 1) p (omega arith) inside in
        let first = ap (λ (x : RootPath). ordering_index (key_order (take size (texts symbols)) x)) (get_or_from_slice_get paths place p p here) in
        let second = ap (λ (x : RootPath). ordering_index (key_order (take size (texts symbols)) x)) (get_or_from_slice_get paths (place + 1) q p next) in
        omega (arith, up, first, second)

    behind : key_order (take (min 6 (length symbols)) (texts symbols)) q ≡ Greater
    behind = later_behind (root_key q) (texts symbols) size (min 6 (length symbols)) (above (key_order (take size (texts symbols)) q) refl) otherwise (let short = root_key_short p in omega (arith, few, short))
      where
        above : (r : Ordering) → key_order (take size (texts symbols)) q ≡ r → key_order (take size (texts symbols)) q ≡ Greater
        above Less is = absurd (let up = rises in let low : ordering_index (key_order (take size (texts symbols)) q) ≡ 0 = ap ordering_index is in let tied = eq_one (key_order (take size (texts symbols)) p) tie in omega (arith, up, low, tied))
        above Equal is = absurd (other.other_there (sym (ap (λ (k : List (List ℕ)). slice_get k other.place) (is_key ∙ sym (key_tied (root_key q) (take size (texts symbols)) (ap is_eq is)))) ∙ other.there))
        above Greater is = is
