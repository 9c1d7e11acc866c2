-- Rules that are asked for, taken one after the other.
use Rattle.std.proofs.Common.{◌≡◌, refl, sym, ◌∙◌, ap, ℕ, ◌+◌, ◌-◌, zero, suc, ◌<◌, ◌≤◌, List, [], ◌∷◌, ◌++◌, length, get_or, drop, map, Bool, true, false, cond, Option, Some, None, arith}
use Rattle.std.specs.Prelude.{filter, slice_get}
use Rattle.std.proofs.lemmas.List.{drop_more}
use Rattle.std.proofs.lemmas.Option.{none-some}
use Rattle.std.proofs.Math.ListN.{drop_of_length-le}
use Rattle.std.specs.Option.{option_map}
use Rattle.std.specs.Prelude.{◌&&◌}
use Rattle.partial_path.specs.declared.rule.Start.{Start}
use Rattle.partial_path.specs.Rules.{Rule}
use Rattle.partial_path.specs.PathSets.{FileRules}
use Rattle.partial_path.specs.Sources.{asks_rule, begins_in, numbered, rules_in, rules_after}

pub none_kept : {X : Type 0} (p : X → Bool) → ((x : X) → p x ≡ false) → (xs : List X) → filter p xs ≡ []
none_kept p none [] = refl
none_kept p none (x ∷ xs) = ap (λ b. cond b (x ∷ filter p xs) (filter p xs)) (none x) ∙ none_kept p none xs

-- what is at k of those of xs that pass is at n of those of ys, and so many were passed over
pub record IsLeft {X : Type 0} (p : X → Bool) (xs ys : List X) (k n : ℕ) : Type 0 where
  pub same : slice_get (filter p xs) k ≡ slice_get (filter p ys) n
  pub passed : n + length (filter p xs) ≡ k + length (filter p ys)

-- one that doesn't pass is passed over
pub left_skipped : {X : Type 0} (p : X → Bool) (xs zs : List X) (i k n : ℕ) (d : X) → i < length zs → p (get_or zs i d) ≡ false
    → IsLeft p xs (drop i zs) k n → IsLeft p xs (drop (i + 1) zs) k n
left_skipped p xs zs i k n d h fails left =
    let e : filter p (drop i zs) ≡ filter p (drop (i + 1) zs)
    = ap (filter p) (drop_more zs i d h) ∙ ap (λ b. cond b (get_or zs i d ∷ filter p (drop (i + 1) zs)) (filter p (drop (i + 1) zs))) fails in
    record { same = left.same ∙ ap (λ ys. slice_get ys n) e; passed = left.passed ∙ ap (λ ys. k + length ys) e }

pub kept_here : {X : Type 0} (p : X → Bool) (zs : List X) (i : ℕ) (d : X) → i < length zs → p (get_or zs i d) ≡ true
    → filter p (drop i zs) ≡ get_or zs i d ∷ filter p (drop (i + 1) zs)
kept_here p zs i d h passes =
    ap (filter p) (drop_more zs i d h) ∙ ap (λ b. cond b (get_or zs i d ∷ filter p (drop (i + 1) zs)) (filter p (drop (i + 1) zs))) passes

get_later : {X : Type 0} (y : X) (ys : List X) (n : ℕ) → 0 < n → slice_get (y ∷ ys) n ≡ slice_get ys (n - 1)
get_later y ys zero h = absurd (omega (arith, h))
get_later y ys (suc n) h = ap (slice_get ys) (omega arith)

-- one that passes counts, where more are to be passed over
pub left_counted : {X : Type 0} (p : X → Bool) (xs zs : List X) (i k n : ℕ) (d : X) → i < length zs → p (get_or zs i d) ≡ true → 0 < n
    → IsLeft p xs (drop i zs) k n → IsLeft p xs (drop (i + 1) zs) k (n - 1)
left_counted p xs zs i k n d h passes more left =
    let e : filter p (drop i zs) ≡ get_or zs i d ∷ filter p (drop (i + 1) zs) = kept_here p zs i d h passes in
    let was : n + length (filter p xs) ≡ k + suc (length (filter p (drop (i + 1) zs))) = left.passed ∙ ap (λ ys. k + length ys) e in
    record {
      same = left.same ∙ ap (λ ys. slice_get ys n) e ∙ get_later (get_or zs i d) (filter p (drop (i + 1) zs)) n more;
      passed = omega (arith, was, more);
    }

-- one that passes is the one asked for, where none is to be passed over
pub left_found : {X : Type 0} (p : X → Bool) (xs zs : List X) (i k n : ℕ) (d : X) → i < length zs → p (get_or zs i d) ≡ true → n ≡ 0
    → IsLeft p xs (drop i zs) k n → Some (get_or zs i d) ≡ slice_get (filter p xs) k
left_found p xs zs i k n d h passes none left =
    sym (left.same ∙ ap (slice_get (filter p (drop i zs))) none ∙ ap (λ ys. slice_get ys 0) (kept_here p zs i d h passes))

-- at the end all were passed over
pub left_none : {X : Type 0} (p : X → Bool) (xs zs : List X) (i k n : ℕ) → length zs ≤ i → IsLeft p xs (drop i zs) k n
    → (None ≡ slice_get (filter p xs) k) × (n + length (filter p xs) ≡ k)
left_none p xs zs i k n h left =
    let e : drop i zs ≡ [] = drop_of_length-le zs h in
    let was : n + length (filter p xs) ≡ k + 0 = left.passed ∙ ap (λ ys. k + length (filter p ys)) e in
    (sym (left.same ∙ ap (λ ys. slice_get (filter p ys) n) e), omega (arith, was))

-- a test and another after it
pub filter_twice : {X : Type 0} (p q : X → Bool) (xs : List X) → filter (λ x. p x && q x) xs ≡ filter q (filter p xs)
filter_twice p q [] = refl
filter_twice p q (x ∷ xs) = twice_case p q x xs (p x) refl (filter_twice p q xs)
  where
    twice_case : {X : Type 0} (p q : X → Bool) (x : X) (xs : List X) (b : Bool) → p x ≡ b → filter (λ x. p x && q x) xs ≡ filter q (filter p xs)
        → filter (λ x. p x && q x) (x ∷ xs) ≡ filter q (filter p (x ∷ xs))
    twice_case p q x xs true e rest =
        ap (λ b. cond (b && q x) (x ∷ filter (λ x. p x && q x) xs) (filter (λ x. p x && q x) xs)) e ∙ ap (λ r. cond (q x) (x ∷ r) r) rest
        ∙ sym (ap (λ b. filter q (cond b (x ∷ filter p xs) (filter p xs))) e)
    twice_case p q x xs false e rest =
        ap (λ b. cond (b && q x) (x ∷ filter (λ x. p x && q x) xs) (filter (λ x. p x && q x) xs)) e ∙ rest
        ∙ sym (ap (λ b. filter q (cond b (x ∷ filter p xs) (filter p xs))) e)

-- the one asked for is among these
pub get_here : {X Y : Type 0} (g : X → Y) (xs : List X) (ys : List Y) (n : ℕ) (x : X) → Some x ≡ slice_get xs n → slice_get (map g xs ++ ys) n ≡ Some (g x)
get_here g [] ys n x e = absurd (none-some x (sym e))
get_here g (z ∷ xs) ys zero x e = sym (ap (option_map g) e)
get_here g (z ∷ xs) ys (suc n) x e = get_here g xs ys n x e

-- it is behind these
pub get_behind : {X Y : Type 0} (g : X → Y) (xs : List X) (ys : List Y) (n m : ℕ) → m + length xs ≡ n → slice_get (map g xs ++ ys) n ≡ slice_get ys m
get_behind g [] ys n m e = ap (slice_get ys) (omega (arith, e))
get_behind g (x ∷ xs) ys zero m e = absurd (omega (arith, e))
get_behind g (x ∷ xs) ys (suc n) m e = get_behind g xs ys n m (omega (arith, e))

-- the rules asked for in a file are those, of the ones that begin there, that can be met with the symbol
rules_in_is : (file : ℕ) (f : FileRules) (start : Start) (first : Option (List ℕ)) (run : List Rule) → run ≡ filter (begins_in file start) f.rules
    → rules_in file f start first ≡ map (numbered file) (filter (asks_rule first) run)
rules_in_is file f start first run e =
    ap (map (numbered file)) (filter_twice (begins_in file start) (asks_rule first) f.rules ∙ ap (filter (asks_rule first)) (sym e))

rules_split : (files : List FileRules) (n : ℕ) (d : FileRules) (start : Start) (first : Option (List ℕ)) → n < length files
    → rules_after n (drop n files) start first ≡ rules_in n (get_or files n d) start first ++ rules_after (n + 1) (drop (n + 1) files) start first
rules_split files n d start first h = ap (λ fs. rules_after n fs start first) (drop_more files n d h)

-- the path asked for is one of the file's
pub file_found : (files : List FileRules) (n : ℕ) (d : FileRules) (start : Start) (first : Option (List ℕ)) (run : List Rule) (left : ℕ) (rule : Rule)
    → n < length files → run ≡ filter (begins_in n start) (get_or files n d).rules → Some rule ≡ slice_get (filter (asks_rule first) run) left
    → slice_get (rules_after n (drop n files) start first) left ≡ Some (n, rule)
file_found files n d start first run left rule h e found =
    ap (λ rs. slice_get rs left) (rules_split files n d start first h ∙ ap (λ rs. rs ++ rules_after (n + 1) (drop (n + 1) files) start first) (rules_in_is n (get_or files n d) start first run e))
    ∙ get_here (numbered n) (filter (asks_rule first) run) (rules_after (n + 1) (drop (n + 1) files) start first) left rule found

-- it is in a later file
pub file_passed : (files : List FileRules) (n : ℕ) (d : FileRules) (start : Start) (first : Option (List ℕ)) (run : List Rule) (left less : ℕ)
    → n < length files → run ≡ filter (begins_in n start) (get_or files n d).rules → less + length (filter (asks_rule first) run) ≡ left
    → slice_get (rules_after n (drop n files) start first) left ≡ slice_get (rules_after (n + 1) (drop (n + 1) files) start first) less
file_passed files n d start first run left less h e passed =
    ap (λ rs. slice_get rs left) (rules_split files n d start first h ∙ ap (λ rs. rs ++ rules_after (n + 1) (drop (n + 1) files) start first) (rules_in_is n (get_or files n d) start first run e))
    ∙ get_behind (numbered n) (filter (asks_rule first) run) (rules_after (n + 1) (drop (n + 1) files) start first) left less passed

-- there is none
pub files_over : (files : List FileRules) (n : ℕ) (start : Start) (first : Option (List ℕ)) (left : ℕ) → length files ≤ n
    → slice_get (rules_after n (drop n files) start first) left ≡ None
files_over files n start first left h = ap (λ fs. slice_get (rules_after n fs start first) left) (drop_of_length-le files h)
