-- The rules that a look-up in one file offers: those that ask for nothing, and then those whose first symbol has the
-- head of the stack's first one.
use Rattle.std.proofs.Common.{◌≡◌, refl, sym, ◌∙◌, ap, ℕ, zero, suc, ◌+◌, ◌-◌, ◌<◌, ◌≤◌, List, [], ◌∷◌, length, take, drop, get_or, true, false, Option, Some, None, arith, min, slice_get, inl, inr}
use Rattle.std.specs.Prelude.{filter, ◌&&◌, nat_eq, slice_index, MatchOption, All}
use Rattle.std.specs.List.{AllWithin, HoldsAt, prefix_len}
use Rattle.std.specs.Ordering.{is_lt, is_eq, ordering_index}
use Rattle.std.specs.declared.cmp.Ordering.{Ordering}
use Rattle.std.specs.declared.cmp.Ordering.TheVariants.{Less, Equal, Greater}
use Rattle.std.specs.Cmp.{tied_then}
use Rattle.std.proofs.lemmas.Bool.{false≢true, cases_lt, and_from, and_left, and_right, false_from_ne_true}
use Rattle.std.proofs.lemmas.Bool.Decides.{nat_tests}
use Rattle.std.proofs.lemmas.List.{get_or_read, drop_all}
use Rattle.std.proofs.lemmas.List.Sums.{prefix_len_passes, prefix_len_stops}
use Rattle.stacks_vars.specs.declared.items.SymbolItem.{SymbolItem}
use Rattle.partial_path.specs.declared.rule.Start.{Start}
use Rattle.partial_path.specs.Rules.{Rule}
use Rattle.partial_path.specs.Starts.{start_cmp, begins_at, rules_at}
use Rattle.partial_path.specs.Keys.{key, key_cmp, texts, IsByKey}
use Rattle.partial_path.specs.Heads.{IsHeadAt, AreHeadsBelow, Rise, AreLess, AreNoLess}
use Rattle.partial_path.specs.Inside.{slot_side, is_at_slot, is_before_slot, meets_text, NoneOffered, IsFirstOffered, IsNextOffer, IsAfter, IsFirstAtSlot}
use Rattle.partial_path.specs.Sources.{stand_first, is_offered}
use Rattle.partial_path.proofs.Orders.{start_eq_is}
use Rattle.partial_path.proofs.Halved.{side, before_not_at}
use Rattle.partial_path.proofs.KeyOrders.{drop_none, key_short, key_over, slots_rise}
use Rattle.partial_path.proofs.Standing.{first_of, second_of, equal_then, stands_is, stands_behind, stands_short}
use Rattle.partial_path.proofs.Kept.{skip_none, rest_none, next_kept, in_piece, run_inside, run_before, run_behind}
use Rattle.partial_path.proofs.HeadOrders.{head_tells, none_asked}

-- one symbol after the other
pub stands_step : (asked : List (List ℕ)) (symbols : List SymbolItem) (i : ℕ)
    → stand_first (drop i asked) (drop i symbols) ≡ meets_text (slice_get asked i) (slice_get (texts symbols) i) && stand_first (drop (suc i) asked) (drop (suc i) symbols)
stands_step [] symbols zero = refl
stands_step [] symbols (suc i) = refl
stands_step (t ∷ asked) [] zero = refl
stands_step (t ∷ asked) [] (suc i) = sym (ap (stand_first (drop i asked)) (drop_none i)) ∙ stands_step asked [] i
stands_step (t ∷ asked) (s ∷ symbols) zero = refl
stands_step (t ∷ asked) (s ∷ symbols) (suc i) = stands_step asked symbols i

pub stands_not : (asked : List (List ℕ)) (symbols : List SymbolItem) (i : ℕ) → stand_first asked symbols ≡ stand_first (drop i asked) (drop i symbols)
    → meets_text (slice_get asked i) (slice_get (texts symbols) i) ≡ false → stand_first asked symbols ≡ false
stands_not asked symbols i so_far fails = so_far ∙ stands_step asked symbols i ∙ ap (λ b. b && stand_first (drop (suc i) asked) (drop (suc i) symbols)) fails

pub stands_on : (asked : List (List ℕ)) (symbols : List SymbolItem) (i : ℕ) → stand_first asked symbols ≡ stand_first (drop i asked) (drop i symbols)
    → meets_text (slice_get asked i) (slice_get (texts symbols) i) ≡ true → stand_first asked symbols ≡ stand_first (drop (i + 1) asked) (drop (i + 1) symbols)
stands_on asked symbols i so_far met =
    let next : suc i ≡ i + 1 = omega arith in
    so_far ∙ stands_step asked symbols i ∙ ap (λ b. b && stand_first (drop (suc i) asked) (drop (suc i) symbols)) met
    ∙ ap (λ n. stand_first (drop n asked) (drop n symbols)) next

pub stands_all : (rule : Rule) (symbols : List SymbolItem) (i : ℕ) → min 6 (length rule.pre.symbols) ≤ i
    → stand_first (key rule) symbols ≡ stand_first (drop i (key rule)) (drop i symbols) → stand_first (key rule) symbols ≡ true
stands_all rule symbols i over so_far = so_far ∙ ap (λ xs. stand_first xs (drop i symbols)) (drop_all i (key rule) (key_over rule i over))

at_slot_is : (start : Start) (symbols : List SymbolItem) (n : ℕ) → n ≤ length symbols → (rule : Rule)
    → is_at_slot start (take n (texts symbols)) rule ≡ begins_at start rule && (stand_first (key rule) symbols && nat_eq (length (key rule)) n)
at_slot_is start symbols n h rule =
    sym (tied_then (start_cmp rule.start start) (key_cmp (key rule) (take n (texts symbols))))
    ∙ (λ i. sym (start_eq_is rule.start start) i && stands_is (key rule) symbols n h i)

-- a rule that is offered and asks for n symbols stands at the slot of these, one that asks for more behind it
offered_there : (start : Start) (symbols : List SymbolItem) (n : ℕ) (rule : Rule) → n ≤ length symbols → is_offered start symbols rule ≡ true → length (key rule) ≡ n
    → is_at_slot start (take n (texts symbols)) rule ≡ true
offered_there start symbols n rule h offered size =
    at_slot_is start symbols n h rule
    ∙ and_from (begins_at start rule) (stand_first (key rule) symbols && nat_eq (length (key rule)) n) (first_of (begins_at start rule) _ offered)
    (and_from (stand_first (key rule) symbols) (nat_eq (length (key rule)) n) (second_of (begins_at start rule) _ offered) (same_size (length (key rule)) n size))
  where
    same_size : (a b : ℕ) → a ≡ b → nat_eq a b ≡ true
    same_size a b e = grind (arith, nat_tests, e)

offered_behind : (start : Start) (symbols : List SymbolItem) (n : ℕ) (rule : Rule) → is_offered start symbols rule ≡ true → n < length (key rule)
    → is_before_slot start (take n (texts symbols)) rule ≡ false
offered_behind start symbols n rule offered more =
    ap is_lt (equal_then (start_cmp rule.start start) (key_cmp (key rule) (take n (texts symbols))) (sym (start_eq_is rule.start start) ∙ first_of (begins_at start rule) _ offered)
    ∙ stands_behind (key rule) symbols n (second_of (begins_at start rule) _ offered) more)

-- one at the slot is offered
there_offered : (start : Start) (symbols : List SymbolItem) (n : ℕ) (rule : Rule) → n ≤ length symbols → is_at_slot start (take n (texts symbols)) rule ≡ true
    → is_offered start symbols rule ≡ true
there_offered start symbols n rule h there =
    let both : begins_at start rule && (stand_first (key rule) symbols && nat_eq (length (key rule)) n) ≡ true = sym (at_slot_is start symbols n h rule) ∙ there in
    and_from (begins_at start rule) (stand_first (key rule) symbols) (first_of (begins_at start rule) _ both)
    (first_of (stand_first (key rule) symbols) _ (second_of (begins_at start rule) _ both))

-- all rules that are offered ask for at least so many symbols
abbrev pub AskFor : Start → List SymbolItem → List Rule → ℕ → Type 0
AskFor start symbols rules n = (k : ℕ) (d : Rule) → k < length rules → is_offered start symbols (get_or rules k d) ≡ true → n ≤ length (key (get_or rules k d))

pub ask_more : (start : Start) (symbols : List SymbolItem) (rules : List Rule) (n : ℕ) → n ≤ length symbols → All (λ rule. is_at_slot start (take n (texts symbols)) rule ≡ false) rules
    → AskFor start symbols rules n → AskFor start symbols rules (n + 1)
ask_more start symbols rules n h none so_far k d within offered =
    let least : n ≤ length (key (get_or rules k d)) = so_far k d within offered in
    elim (cases_lt n (length (key (get_or rules k d)))) [
      | inl more ↦ omega (arith, more)
      | inr no_more ↦ absurd (false≢true (sym (none k d within) ∙ offered_there start symbols n (get_or rules k d) h offered (omega (arith, least, no_more))))
    ]

pub first_asks : (start : Start) (symbols : List SymbolItem) (rules : List Rule) (n place : ℕ) → n ≤ length symbols → IsFirstAtSlot start (take n (texts symbols)) rules place
    → AskFor start symbols rules n → IsFirstOffered start symbols rules 0 (length rules) place
first_asks start symbols rules n place h first so_far = record {
  from = omega arith;
  within = first.within;
  none = λ k d low below. false_from_ne_true (is_offered start symbols (get_or rules k d)) (λ offered.
      let least : n ≤ length (key (get_or rules k d)) = so_far k d (omega (arith, below, first.within)) offered in
      let before : is_before_slot start (take n (texts symbols)) (get_or rules k d) ≡ true = first.before k d low below in
      elim (cases_lt n (length (key (get_or rules k d)))) [
        | inl more ↦ false≢true (sym (offered_behind start symbols n (get_or rules k d) offered more) ∙ before)
        | inr no_more ↦ false≢true (sym (before_not_at (slot_side start (take n (texts symbols)) (get_or rules k d)) before)
            ∙ offered_there start symbols n (get_or rules k d) h offered (omega (arith, least, no_more)))
      ]);
  is = λ d. there_offered start symbols n (get_or rules place d) h (first.is d);
}

-- none asks for more symbols than a key has texts, or the stack symbols
pub none_asks : (start : Start) (symbols : List SymbolItem) (rules : List Rule) (n : ℕ) → min 6 (length symbols) < n → AskFor start symbols rules n
    → NoneOffered start symbols rules 0 (length rules)
none_asks start symbols rules n past so_far k d low within = false_from_ne_true (is_offered start symbols (get_or rules k d)) (λ offered.
    let least : n ≤ length (key (get_or rules k d)) = so_far k d within offered in
    let short : length (key (get_or rules k d)) ≤ length symbols = stands_short (key (get_or rules k d)) symbols (second_of (begins_at start (get_or rules k d)) _ offered) in
    absurd (omega (arith, past, least, short, key_short (get_or rules k d))))

-- the first in a slot
pub none_there : (start : Start) (asked : List (List ℕ)) (rules : List Rule) (n : ℕ) → n ≡ prefix_len (is_before_slot start asked) rules → n ≡ length rules
    → All (λ rule. is_at_slot start asked rule ≡ false) rules
none_there start asked rules n is all k d within =
    before_not_at (slot_side start asked (get_or rules k d)) (prefix_len_passes (is_before_slot start asked) rules k d (omega (arith, within, is, all)))

-- one behind all before the slot that isn't there is behind it
index_behind : (o : Ordering) → is_lt o ≡ false → is_eq o ≡ false → ordering_index o ≡ 2
index_behind Less p q = absurd (false≢true (sym p))
index_behind Equal p q = absurd (false≢true (sym q))
index_behind Greater p q = refl

not_there : (o : Ordering) → 2 ≤ ordering_index o → is_eq o ≡ false
not_there Less h = refl
not_there Equal h = absurd (omega (arith, h))
not_there Greater h = refl

pub none_behind_there : (start : Start) (asked : List (List ℕ)) (rules : List Rule) (n : ℕ) (x : Rule) → IsByKey rules → n ≡ prefix_len (is_before_slot start asked) rules
    → n < length rules → x ≡ get_or rules n x → is_at_slot start asked x ≡ false → All (λ rule. is_at_slot start asked rule ≡ false) rules
none_behind_there start asked rules n x sorted is within here other k d below = elim (cases_lt k n) [
  | inl early ↦ before_not_at (slot_side start asked (get_or rules k d)) (prefix_len_passes (is_before_slot start asked) rules k d (omega (arith, early, is)))
  | inr late ↦
      let at : x ≡ get_or rules n d = get_or_read rules n x within here d in
      let stop : is_before_slot start asked x ≡ false = ap (is_before_slot start asked) (at ∙ ap (λ m. get_or rules m d) is) ∙ prefix_len_stops (is_before_slot start asked) rules d (omega (arith, within, is)) in
      let two : side (slot_side start asked) (get_or rules n d) ≡ 2 = ap (side (slot_side start asked)) (sym at) ∙ index_behind (slot_side start asked x) stop other in
      let rise : side (slot_side start asked) (get_or rules n d) ≤ side (slot_side start asked) (get_or rules k d) = slots_rise rules start asked sorted n k d late below in
      not_there (slot_side start asked (get_or rules k d)) (omega (arith, two, rise))
]

pub first_there : (start : Start) (asked : List (List ℕ)) (rules : List Rule) (n : ℕ) (x : Rule) → n ≡ prefix_len (is_before_slot start asked) rules → n < length rules
    → x ≡ get_or rules n x → is_at_slot start asked x ≡ true → IsFirstAtSlot start asked rules n
first_there start asked rules n x is within here there = record {
  within = within;
  before = λ k d low below. prefix_len_passes (is_before_slot start asked) rules k d (omega (arith, below, is));
  is = λ d. sym (ap (is_at_slot start asked) (get_or_read rules n x within here d)) ∙ there;
}

-- what is found in a piece
pub next_in_piece : (start : Start) (symbols : List SymbolItem) (rules piece : List Rule) (low high : ℕ) (next : Option ℕ) → low ≤ high → piece ≡ take (high - low) (drop low rules)
    → length piece ≡ high - low → IsNextOffer start symbols piece 0 (length piece) next
    → MatchOption next (NoneOffered start symbols rules low high) (λ place. IsFirstOffered start symbols rules low high (low + place))
next_in_piece start symbols rules piece low high None le is size none = λ k d from below.
    sym (ap (is_offered start symbols) (ap (λ rs. get_or rs (k - low) d) is ∙ in_piece rules low high k d from below)) ∙ none (k - low) d (omega arith) (omega (arith, size, from, below))
next_in_piece start symbols rules piece low high (Some place) le is size first = record {
  from = omega arith;
  within = omega (arith, size, first.within);
  none = λ k d from below.
      sym (ap (is_offered start symbols) (ap (λ rs. get_or rs (k - low) d) is ∙ in_piece rules low high k d from (omega (arith, below, size, first.within))))
      ∙ first.none (k - low) d (omega arith) (omega (arith, from, below));
  is = λ d.
      let there : (low + place) - low ≡ place = omega arith in
      sym (ap (is_offered start symbols) (ap (λ n. get_or piece n d) (sym there) ∙ ap (λ rs. get_or rs ((low + place) - low) d) is
      ∙ in_piece rules low high (low + place) d (omega arith) (omega (arith, size, first.within)))) ∙ first.is d;
}

-- none is offered before
pub next_behind : (start : Start) (symbols : List SymbolItem) (rules : List Rule) (low from high : ℕ) (next : Option ℕ) → low ≤ from → NoneOffered start symbols rules low from
    → IsNextOffer start symbols rules from high next → IsNextOffer start symbols rules low high next
next_behind start symbols rules low from high None le before none = λ k d low_k below. elim (cases_lt k from) [
  | inl early ↦ before k d low_k early
  | inr late ↦ none k d late below
]
next_behind start symbols rules low from high (Some place) le before first = record {
  from = omega (arith, le, first.from);
  within = first.within;
  none = λ k d low_k below. elim (cases_lt k from) [
    | inl early ↦ before k d low_k early
    | inr late ↦ first.none k d late below
  ];
  is = first.is;
}

-- rules with other heads aren't offered
pub none_less : (start : Start) (symbols : List SymbolItem) (rules : List Rule) (heads : List ℕ) (low high wanted : ℕ) → high ≤ length rules → AreHeadsBelow (length rules) heads rules
    → IsHeadAt wanted (slice_get (texts symbols) 0) → AreNoLess heads low high 1 → AreLess heads low high wanted → NoneOffered start symbols rules low high
none_less start symbols rules heads low high wanted within are want some less k d from below =
    let one : 1 ≤ slice_index heads k = some k from below in
    let few : slice_index heads k < wanted = less k from below in
    head_tells (slice_index heads k) wanted (get_or rules k d) start symbols (are k d (omega (arith, below, within))) want (λ e. omega (arith, e, few)) one

pub none_more : (start : Start) (symbols : List SymbolItem) (rules : List Rule) (heads : List ℕ) (low high wanted : ℕ) → high ≤ length rules → AreHeadsBelow (length rules) heads rules
    → IsHeadAt wanted (slice_get (texts symbols) 0) → Rise heads low high → 1 ≤ slice_index heads low → wanted < slice_index heads low → NoneOffered start symbols rules low high
none_more start symbols rules heads low high wanted within are want rise some more k d from below =
    let up : slice_index heads low ≤ slice_index heads k = rise low k (omega arith) from below in
    head_tells (slice_index heads k) wanted (get_or rules k d) start symbols (are k d (omega (arith, below, within))) want (λ e. omega (arith, e, up, more)) (omega (arith, some, up))

-- the first path of a run asks for nothing
pub first_is_offered : (start : Start) (symbols : List SymbolItem) (rules : List Rule) (heads : List ℕ) (low high : ℕ) → low < high → high ≤ length rules
    → AreHeadsBelow (length rules) heads rules → AllWithin (λ rule. begins_at start rule ≡ true) rules low high → slice_index heads low ≡ 0
    → IsFirstOffered start symbols rules low high low
first_is_offered start symbols rules heads low high some within are begin zero_head = record {
  from = omega arith;
  within = some;
  none = λ k d from below. absurd (omega (arith, from, below));
  is = λ d. none_asked (slice_index heads low) (get_or rules low d) start symbols (are low d (omega (arith, some, within))) zero_head (begin low d (omega arith) some);
}

-- one of a zone whose first symbols stand on the stack
pub this_is_offered : (start : Start) (symbols : List SymbolItem) (rules : List Rule) (low high place : ℕ) (x : Rule) → low ≤ place → place < high → high ≤ length rules
    → AllWithin (λ rule. begins_at start rule ≡ true) rules low high → NoneOffered start symbols rules low place → x ≡ get_or rules place x → stand_first (key x) symbols ≡ true
    → IsFirstOffered start symbols rules low high place
this_is_offered start symbols rules low high place x from within fit begin none is stands = record {
  from = from;
  within = within;
  none = none;
  is = λ d.
      and_from (begins_at start (get_or rules place d)) (stand_first (key (get_or rules place d)) symbols) (begin place d from within)
      (sym (ap (λ (r : Rule). stand_first (key r) symbols) (get_or_read rules place x (omega (arith, within, fit)) is d)) ∙ stands);
}

pub this_is_not : (start : Start) (symbols : List SymbolItem) (rules : List Rule) (low place : ℕ) (x : Rule) → place < length rules
    → NoneOffered start symbols rules low place → x ≡ get_or rules place x → stand_first (key x) symbols ≡ false → NoneOffered start symbols rules low (place + 1)
this_is_not start symbols rules low place x fit none is fails k d from below = elim (cases_lt k place) [
  | inl early ↦ none k d from early
  | inr late ↦
      let same : k ≡ place = omega (arith, late, below) in
      and_right (begins_at start (get_or rules k d)) (stand_first (key (get_or rules k d)) symbols)
      (sym (ap (λ (r : Rule). stand_first (key r) symbols) (get_or_read rules place x fit is d ∙ ap (λ n. get_or rules n d) (sym same))) ∙ fails)
]

-- what is offered in the run of the start is what is offered
none_begins : (start : Start) (symbols : List SymbolItem) (rule : Rule) → begins_at start rule ≡ false → is_offered start symbols rule ≡ false
none_begins start symbols rule e = and_left (begins_at start rule) (stand_first (key rule) symbols) e

pub begin_in_run : (start : Start) (rules : List Rule) (low high from : ℕ) → low ≤ high → high ≤ length rules → take (high - low) (drop low rules) ≡ rules_at start rules → low ≤ from
    → AllWithin (λ rule. begins_at start rule ≡ true) rules from high
begin_in_run start rules low high from le within run least k d far below = run_inside (begins_at start) rules low high le within run k d (omega (arith, least, far)) below

none_early : (start : Start) (symbols : List SymbolItem) (rules : List Rule) (low high place from upto : ℕ) → low ≤ high → high ≤ length rules
    → take (high - low) (drop low rules) ≡ rules_at start rules → (low ≤ place → from ≤ place) → (place < low → from ≤ low) → NoneOffered start symbols rules from upto
    → NoneOffered start symbols rules place upto
none_early start symbols rules low high place from upto le within run one two none k d far below = elim (cases_lt k low) [
  | inl early ↦ none_begins start symbols (get_or rules k d) (run_before (begins_at start) rules low high le within run k d (omega arith) early)
  | inr late ↦ none k d (elim (cases_lt place low) [ inl p ↦ (let f : from ≤ low = two p in omega (arith, f, late)) | inr p ↦ (let f : from ≤ place = one p in omega (arith, f, far)) ]) below
]

pub none_left : (start : Start) (symbols : List SymbolItem) (rules : List Rule) (low high place from : ℕ) → low ≤ high → high ≤ length rules
    → take (high - low) (drop low rules) ≡ rules_at start rules → (low ≤ place → from ≤ place) → (place < low → from ≤ low) → NoneOffered start symbols rules from high
    → filter (is_offered start symbols) (drop place rules) ≡ []
none_left start symbols rules low high place from le within run one two none =
    rest_none (is_offered start symbols) rules place (λ k d far below. elim (cases_lt k high) [
      | inl early ↦ none_early start symbols rules low high place from high le within run one two none k d far early
      | inr late ↦ none_begins start symbols (get_or rules k d) (run_behind (begins_at start) rules low high le within run k d late below)
    ])

-- behind a rule that is offered
left_after : (start : Start) (symbols : List SymbolItem) (rules : List Rule) (low high place next : ℕ) → low ≤ high → high ≤ length rules
    → take (high - low) (drop low rules) ≡ rules_at start rules → HoldsAt (λ rule. is_offered start symbols rule ≡ true) rules place → IsAfter start rules place high next
    → filter (is_offered start symbols) (drop (place + 1) rules) ≡ filter (is_offered start symbols) (drop next rules)
left_after start symbols rules low high place next le within run is after =
    skip_none (is_offered start symbols) rules (place + 1) next after.least after.most (λ k d far below. elim (cases_lt k high) [
      | inl early ↦ after.none symbols is k d (omega (arith, far)) below early
      | inr late ↦ none_begins start symbols (get_or rules k d) (run_behind (begins_at start) rules low high le within run k d late (omega (arith, below, after.most)))
    ])

pub first_left : (start : Start) (symbols : List SymbolItem) (rules : List Rule) (low high place from first next : ℕ) (x : Rule) → low ≤ high → high ≤ length rules
    → take (high - low) (drop low rules) ≡ rules_at start rules → (low ≤ place → from ≤ place) → (place < low → from ≤ low) → place ≤ from
    → IsFirstOffered start symbols rules from high first → IsAfter start rules first high next → x ≡ get_or rules first x
    → filter (is_offered start symbols) (drop place rules) ≡ x ∷ filter (is_offered start symbols) (drop next rules)
first_left start symbols rules low high place from first next x le within run one two least here after is =
    next_kept (is_offered start symbols) rules place first x (omega (arith, least, here.from)) (omega (arith, here.within, within))
    (none_early start symbols rules low high place from first le within run one two here.none) (here.is x)
    ∙ ap (λ r. r ∷ filter (is_offered start symbols) (drop (first + 1) rules)) (sym is)
    ∙ ap (λ rs. x ∷ rs) (left_after start symbols rules low high first next le within run here.is after)
