-- Which paths stand in the runs of texts.
use Rattle.std.proofs.Common.{◌≡◌, refl, sym, ◌∙◌, ap, ℕ, zero, suc, ◌+◌, ◌*◌, ◌/◌, ◌%◌, ◌^◌, ◌<◌, List, [], ◌∷◌, ◌++◌, length, take, true, arith, ◌⊎◌, inl, inr}
use Rattle.std.specs.List.{flat_map}
use Rattle.std.specs.Ordering.{nat_cmp, is_eq}
use Rattle.std.specs.Str.{bytes_eq}
use Rattle.std.proofs.lemmas.Bool.{false≢true, and_parts, and_from}
use Rattle.std.proofs.lemmas.Bool.Decides.{nat_tests}
use Rattle.std.proofs.lemmas.Slice.Eq.{bytes_eq-Decides}
use Rattle.list_facts.specs.Members.{IsIn}
use Rattle.list_facts.specs.Apart.{IsApart}
use Rattle.list_facts.proofs.Members.{IsIn-append_left, IsIn-append_right, IsIn-append_cases, IsIn-filter, IsIn-filter_from}
use Rattle.list_facts.proofs.Apart.{Differ, IsApart-append, IsApart-append_left, IsApart-swap, IsApart-filter}
use Rattle.list_facts.proofs.Pairs.{Pairs-across}
use Rattle.stacks_vars.specs.declared.patterns.SymOut.{SymOut}
use Rattle.stacks_vars.specs.declared.patterns.SymPat.{SymPat}
use Rattle.partial_path.specs.Keys.{asked_texts, key_size}
use Rattle.partial_path.specs.Marks.{with_text, with_texts, made_texts, end_key, made_key}
use Rattle.back_stitch.specs.Sources.{agrees}
use Rattle.end_index.specs.declared.place.EndPlace.{EndPlace}
use Rattle.end_index.specs.Ends.{all_of}
use Rattle.end_index.specs.Runs.{is_in_run, run, runs_behind, runs}

-- a key tells how many symbols the paths of its run make, as far as it tells them
abbrev pub count_of : ℕ → ℕ
count_of key = key % 8

key_counts : (mark count : ℕ) → count < 8 → count_of (end_key mark count) ≡ count
key_counts mark count few = by (mark * 11400714819323198485 % 2 ^ 64 / 2 ^ 35)
  where
    by : (upper : ℕ) → (upper * 8 + count) % 8 ≡ count
    by upper = omega (arith, few)

equal : (x a : ℕ) → x ≡ a → is_eq (nat_cmp x a) ≡ true
equal x a e = grind (arith, nat_tests, e)

equal_is : (x a : ℕ) → is_eq (nat_cmp x a) ≡ true → x ≡ a
equal_is x a e = grind (arith, nat_tests, e)

into_run : (key : ℕ) (p : EndPlace) (places : List EndPlace) → IsIn p places → p.key ≡ key → IsIn p (run key places)
into_run key p places h is = IsIn-filter (is_in_run key) p places h (equal p.key key is)

run_counts : (mark count : ℕ) (p : EndPlace) (places : List EndPlace) → count < 8 → IsIn p (run (end_key mark count) places) → count_of p.key ≡ count
run_counts mark count p places few h =
    ap count_of (equal_is p.key (end_key mark count) (IsIn-filter_from (is_in_run (end_key mark count)) p places h).1) ∙ key_counts mark count few

-- those of the runs behind make more
behind_counts : (mark count : ℕ) (asked : List (List ℕ)) (p : EndPlace) (places : List EndPlace) → count + length asked < 8 → IsIn p (runs_behind mark count asked places)
    → count < count_of p.key
behind_counts mark count [] p places few h = absurd h
behind_counts mark count (text ∷ asked) p places few h =
    by (IsIn-append_cases p (run (end_key (with_text mark text) (count + 1)) places) (runs_behind (with_text mark text) (count + 1) asked places) h)
    (λ g. behind_counts (with_text mark text) (count + 1) asked p places (omega (arith, few)) g)
  where
    by : IsIn p (run (end_key (with_text mark text) (count + 1)) places) ⊎ IsIn p (runs_behind (with_text mark text) (count + 1) asked places)
        → (IsIn p (runs_behind (with_text mark text) (count + 1) asked places) → count + 1 < count_of p.key) → count < count_of p.key
    by (inl g) on = let is = run_counts (with_text mark text) (count + 1) p places (omega (arith, few)) g in omega (arith, is)
    by (inr g) on = let more = on g in omega (arith, more)

-- runs hold paths of the list alone, and each once

pub behind_among : (mark count : ℕ) (asked : List (List ℕ)) (p : EndPlace) (places : List EndPlace) → IsIn p (runs_behind mark count asked places) → IsIn p places
behind_among mark count [] p places h = absurd h
behind_among mark count (text ∷ asked) p places h =
    by (IsIn-append_cases p (run (end_key (with_text mark text) (count + 1)) places) (runs_behind (with_text mark text) (count + 1) asked places) h)
    (λ g. behind_among (with_text mark text) (count + 1) asked p places g)
  where
    by : IsIn p (run (end_key (with_text mark text) (count + 1)) places) ⊎ IsIn p (runs_behind (with_text mark text) (count + 1) asked places)
        → (IsIn p (runs_behind (with_text mark text) (count + 1) asked places) → IsIn p places) → IsIn p places
    by (inl g) on = (IsIn-filter_from (is_in_run (end_key (with_text mark text) (count + 1))) p places g).0
    by (inr g) on = on g

runs_among : (asked : List (List ℕ)) (p : EndPlace) (places : List EndPlace) → IsIn p (runs asked places) → IsIn p places
runs_among asked p places h = by (IsIn-append_cases p (run (end_key 0 0) places) (runs_behind 0 0 asked places) h)
  where
    by : IsIn p (run (end_key 0 0) places) ⊎ IsIn p (runs_behind 0 0 asked places) → IsIn p places
    by (inl g) = (IsIn-filter_from (is_in_run (end_key 0 0)) p places g).0
    by (inr g) = behind_among 0 0 asked p places g

run_and_behind : (mark count : ℕ) (asked : List (List ℕ)) (places : List EndPlace) → count + length asked < 8 → IsApart places → IsApart (runs_behind mark count asked places)
    → IsApart (run (end_key mark count) places ++ runs_behind mark count asked places)
run_and_behind mark count asked places few apart behind =
    IsApart-append (run (end_key mark count) places) (runs_behind mark count asked places) (IsApart-filter (is_in_run (end_key mark count)) places apart) behind
    (λ p first later.
    let is = run_counts mark count p places (omega (arith, few)) first in
    let more = behind_counts mark count asked p places few later in
    omega (arith, is, more))

behind_apart : (mark count : ℕ) (asked : List (List ℕ)) (places : List EndPlace) → count + length asked < 8 → IsApart places → IsApart (runs_behind mark count asked places)
behind_apart mark count [] places few apart = tt
behind_apart mark count (text ∷ asked) places few apart =
    run_and_behind (with_text mark text) (count + 1) asked places (omega (arith, few)) apart
    (behind_apart (with_text mark text) (count + 1) asked places (omega (arith, few)) apart)

runs_apart : (asked : List (List ℕ)) (places : List EndPlace) → length asked < 8 → IsApart places → IsApart (runs asked places)
runs_apart asked places few apart = run_and_behind 0 0 asked places (omega (arith, few)) apart (behind_apart 0 0 asked places (omega (arith, few)) apart)

-- a path that makes just the first of what is asked for stands in one of the runs
agree : (mark count : ℕ) (asked : List SymPat) (made : List SymOut) (p : EndPlace) (places : List EndPlace) → agrees asked made ≡ true → IsIn p places
    → p.key ≡ end_key (with_texts mark (made_texts made)) (count + length (made_texts made))
    → IsIn p (run (end_key mark count) places ++ runs_behind mark count (asked_texts asked) places)
agree mark count asked [] p places e h is =
    let none : count + zero ≡ count = omega arith in
    IsIn-append_left p (run (end_key mark count) places) (runs_behind mark count (asked_texts asked) places) (into_run (end_key mark count) p places h (is ∙ ap (end_key mark) none))
agree mark count [] (out ∷ made) p places e h is = absurd (false≢true e)
agree mark count (pat ∷ asked) (out ∷ made) p places e h is =
    let parts = and_parts (bytes_eq pat.symbol out.symbol) (agrees asked made) e in
    let same = (bytes_eq-Decides pat.symbol out.symbol).0 parts.0 in
    let more : count + suc (length (made_texts made)) ≡ (count + 1) + length (made_texts made) = omega arith in
    IsIn-append_right p (run (end_key mark count) places) (runs_behind mark count (asked_texts (pat ∷ asked)) places)
    (agree (with_text mark pat.symbol) (count + 1) asked made p places parts.1 h
    (is ∙ (λ i. end_key (with_texts (with_text mark (sym same i)) (made_texts made)) (more i))))

-- as far as some first ones go, what agrees does
first_agree : (n : ℕ) (asked : List SymPat) (made : List SymOut) → agrees asked made ≡ true → agrees (take n asked) (take n made) ≡ true
first_agree zero asked made e = refl
first_agree (suc n) [] [] e = refl
first_agree (suc n) [] (out ∷ made) e = absurd (false≢true e)
first_agree (suc n) (pat ∷ asked) [] e = refl
first_agree (suc n) (pat ∷ asked) (out ∷ made) e =
    let parts = and_parts (bytes_eq pat.symbol out.symbol) (agrees asked made) e in
    and_from (bytes_eq pat.symbol out.symbol) (agrees (take n asked) (take n made)) parts.0 (first_agree n asked made parts.1)

runs_hold : (asked : List SymPat) (made : List SymOut) (p : EndPlace) (places : List EndPlace) → agrees asked made ≡ true → IsIn p places → p.key ≡ made_key made
    → IsIn p (runs (asked_texts (take key_size asked)) places)
runs_hold asked made p places e h is =
    let whole : 0 + length (made_texts (take key_size made)) ≡ length (made_texts (take key_size made)) = omega arith in
    agree 0 0 (take key_size asked) (take key_size made) p places (first_agree key_size asked made e) h
    (is ∙ ap (end_key (with_texts 0 (made_texts (take key_size made)))) (sym whole))

-- the same of the runs of all shares
module _ (asked : List (List ℕ)) where
  pub all_among : (p : EndPlace) (shares : List (List EndPlace)) → IsIn p (flat_map (runs asked) shares) → IsIn p (all_of shares)
  all_among p [] h = absurd h
  all_among p (places ∷ shares) h = by (IsIn-append_cases p (runs asked places) (flat_map (runs asked) shares) h) (λ g. all_among p shares g)
    where
      by : IsIn p (runs asked places) ⊎ IsIn p (flat_map (runs asked) shares) → (IsIn p (flat_map (runs asked) shares) → IsIn p (all_of shares)) → IsIn p (places ++ all_of shares)
      by (inl g) on = IsIn-append_left p places (all_of shares) (runs_among asked p places g)
      by (inr g) on = IsIn-append_right p places (all_of shares) (on g)

  pub all_apart : (shares : List (List EndPlace)) → length asked < 8 → IsApart (all_of shares) → IsApart (flat_map (runs asked) shares)
  all_apart [] few apart = tt
  all_apart (places ∷ shares) few apart =
      let rest = IsApart-append_left (all_of shares) places (IsApart-swap places (all_of shares) apart) in
      IsApart-append (runs asked places) (flat_map (runs asked) shares) (runs_apart asked places few (IsApart-append_left places (all_of shares) apart)) (all_apart shares few rest)
      (λ p here there. Pairs-across Differ places (all_of shares) apart p p (runs_among asked p places here) (all_among p shares there) refl)

pub all_hold : (asked : List SymPat) (made : List SymOut) (p : EndPlace) (shares : List (List EndPlace)) → agrees asked made ≡ true → IsIn p (all_of shares) → p.key ≡ made_key made
    → IsIn p (flat_map (runs (asked_texts (take key_size asked))) shares)
all_hold asked made p [] e h is = absurd h
all_hold asked made p (places ∷ shares) e h is =
    by (IsIn-append_cases p places (all_of shares) h) (λ g. all_hold asked made p shares e g is)
  where
    by : IsIn p places ⊎ IsIn p (all_of shares) → (IsIn p (all_of shares) → IsIn p (flat_map (runs (asked_texts (take key_size asked))) shares))
        → IsIn p (runs (asked_texts (take key_size asked)) places ++ flat_map (runs (asked_texts (take key_size asked))) shares)
    by (inl g) on = IsIn-append_left p (runs (asked_texts (take key_size asked)) places) (flat_map (runs (asked_texts (take key_size asked))) shares) (runs_hold asked made p places e g is)
    by (inr g) on = IsIn-append_right p (runs (asked_texts (take key_size asked)) places) (flat_map (runs (asked_texts (take key_size asked))) shares) (on g)
