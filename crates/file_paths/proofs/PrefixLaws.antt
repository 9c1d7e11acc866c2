-- What begins a walk is one, as far as it has edges; what goes on from a walk, and by one edge.
use Rattle.std.proofs.Common.{◌≡◌, ◌≢◌, ℕ, ◌+◌, true, false, List, [], ◌∷◌, ◌++◌, length, Option, Some, None, IsSome, ◌⊎◌, inl, inr, sym, refl, ap, ◌∙◌, subst, arith, append_assoc, append-nil, length-append}
use Rattle.std.specs.Option.{option_and_then}
use Rattle.std.proofs.lemmas.Bool.{false≢true}
use Rattle.std.proofs.lemmas.List.{same_from_push}
use Rattle.graph_nodes.specs.Graph.{Graph}
use Rattle.partial_path.specs.declared.config.Config.{Config}
use Rattle.partial_path.specs.declared.config.EdgeAt.{EdgeAt}
use Rattle.partial_path.specs.declared.rule.Start.{Start}
use Rattle.partial_path.specs.Runs.{run}
use Rattle.partial_path.specs.Walks.{alone, begin, run_from, IsUncut, IsWalk, Walk}
use Rattle.partial_path.proofs.Prefixes.{run-prefix}
use Rattle.file_paths.specs.Walking.{ends_cut, one_more, GoesOn}

pub IsUncut-prefix : (files : List Graph) (xs ys : List EdgeAt) → IsUncut files (xs ++ ys) → IsUncut files xs
IsUncut-prefix files [] ys h = tt
IsUncut-prefix files (x ∷ []) ys h = tt
IsUncut-prefix files (x ∷ y ∷ xs) ys h = (h.0, IsUncut-prefix files (y ∷ xs) ys h.1)

-- behind an edge that isn't a cut edge there may be one more
pub IsUncut_push : (files : List Graph) (xs : List EdgeAt) (e : EdgeAt) → IsUncut files xs → ends_cut files xs ≡ false → IsUncut files (xs ++ e ∷ [])
IsUncut_push files [] e h f = tt
IsUncut_push files (x ∷ []) e h f = (f, tt)
IsUncut_push files (x ∷ y ∷ xs) e h f = (h.0, IsUncut_push files (y ∷ xs) e h.1 f)

-- behind a cut edge there is none
pub ends_cut-no_more : (files : List Graph) (xs : List EdgeAt) (e : EdgeAt) → IsUncut files (xs ++ e ∷ []) → ends_cut files xs ≡ true → ⊥
ends_cut-no_more files [] e h t = false≢true t
ends_cut-no_more files (x ∷ []) e h t = false≢true (sym h.0 ∙ t)
ends_cut-no_more files (x ∷ y ∷ xs) e h t = ends_cut-no_more files (y ∷ xs) e h.1 t

prefix-begun : (files : List Graph) (xs ys : List EdgeAt) (o : Option Config)
    → IsSome (option_and_then (λ (first : Config). run files first (xs ++ ys)) o)
    → IsSome (option_and_then (λ (first : Config). run files first xs) o)
prefix-begun files xs ys None h = h
prefix-begun files xs ys (Some first) h = run-prefix files first xs ys h

pub run_from-prefix : (files : List Graph) (start : Start) (xs ys : List EdgeAt) (c : Config)
    → IsSome (run_from files start (xs ++ ys) c) → IsSome (run_from files start xs c)
run_from-prefix files start xs ys c h = prefix-begun files xs ys (begin files start c) h

pub IsWalk-prefix : (g : Graph) (start : Start) (xs ys : List EdgeAt) → xs ≢ [] → IsWalk g start (xs ++ ys) → IsWalk g start xs
IsWalk-prefix g start xs ys some h = record {
  begins = h.begins;
  nonempty = some;
  uncut = IsUncut-prefix (alone g) xs ys h.uncut;
  runs = (h.runs.0, run_from-prefix (alone g) start xs ys h.runs.0 h.runs.1);
}

-- a list with an element isn't empty
pub cons≢nil : {X : Type 0} (x : X) (xs : List X) → (x ∷ xs) ≢ []
cons≢nil x xs e = cc

pub push≢nil : {X : Type 0} (xs : List X) (x : X) → (xs ++ x ∷ []) ≢ []
push≢nil [] x e = cons≢nil x [] e
push≢nil (y ∷ xs) x e = cons≢nil y (xs ++ x ∷ []) e

-- the first edges of a walk, one more than these
pub IsWalk-one_more : (g : Graph) (start : Start) (xs ys : List EdgeAt) (e : EdgeAt) → IsWalk g start (xs ++ e ∷ ys) → IsWalk g start (xs ++ e ∷ [])
IsWalk-one_more g start xs ys e h =
    IsWalk-prefix g start (xs ++ e ∷ []) ys (push≢nil xs e)
    (subst (IsWalk g start) (sym (append_assoc xs (e ∷ []) ys)) h)

pub walk_same : (a b : Walk) → a.start ≡ b.start → a.edges ≡ b.edges → a ≡ b
walk_same a b h k = λ i. record { start = h i; edges = k i }

pub goes_on_itself : (w : Walk) → GoesOn w w
goes_on_itself w = (refl, ([], sym (append-nil w.edges)))

pub goes_on_on : (a b c : Walk) → GoesOn a b → GoesOn b c → GoesOn a c
goes_on_on a b c h k = (
  h.0 ∙ k.0,
  (k.1.0 ++ h.1.0, h.1.1 ∙ (ap (λ (es : List EdgeAt). es ++ h.1.0) k.1.1 ∙ append_assoc c.edges k.1.0 h.1.0)),
)

pub one_more-goes_on : (w : Walk) (e : EdgeAt) → GoesOn (one_more w e) w
one_more-goes_on w e = (refl, (e ∷ [], refl))

-- a list is empty or has a last element
abbrev pub IsEnded : {X : Type 0} → List X → Type 0
IsEnded {X} xs = (xs ≡ []) ⊎ ((front : List X) × (last : X) × (xs ≡ front ++ last ∷ []))

ended-later : {X : Type 0} (x : X) (xs : List X) → IsEnded xs → IsEnded (x ∷ xs)
ended-later {X} x xs (inl e) = inr ([], x, ap (λ (ys : List X). x ∷ ys) e)
ended-later {X} x xs (inr h) = inr (x ∷ h.0, h.1, ap (λ (ys : List X). x ∷ ys) h.2)

pub ended : {X : Type 0} (xs : List X) → IsEnded xs
ended [] = inl refl
ended (x ∷ xs) = ended-later x xs (ended xs)

more_cases : (w o : Walk) (e : EdgeAt) (more : List EdgeAt) → w.start ≡ o.start → w.edges ++ e ∷ [] ≡ o.edges ++ more → IsEnded more
    → GoesOn w o ⊎ (one_more w e ≡ o)
more_cases w o e more same is (inl none) =
    inr (walk_same (one_more w e) o same (is ∙ (ap (λ (es : List EdgeAt). o.edges ++ es) none ∙ append-nil o.edges)))
more_cases w o e more same is (inr h) =
    let on : w.edges ++ e ∷ [] ≡ (o.edges ++ h.0) ++ h.1 ∷ [] =
    is ∙ (ap (λ (es : List EdgeAt). o.edges ++ es) h.2 ∙ sym (append_assoc o.edges h.0 (h.1 ∷ []))) in
    inl (same, (h.0, (same_from_push w.edges (o.edges ++ h.0) e h.1 on).0))

-- what a walk with one edge more goes on from is that or what the walk itself goes on from
pub one_more-from : (w o : Walk) (e : EdgeAt) → GoesOn (one_more w e) o → GoesOn w o ⊎ (one_more w e ≡ o)
one_more-from w o e h = more_cases w o e h.1.0 h.0 h.1.1 (ended h.1.0)

longer_length : (a b c n : ℕ) → n ≡ a + 1 → a ≡ n + b → ⊥
longer_length a b c n h k = omega arith

-- a walk doesn't go on from one that is longer
pub no_way_back : (w : Walk) (e : EdgeAt) → ¬ GoesOn w (one_more w e)
no_way_back w e h =
    longer_length (length w.edges) (length h.1.0) 0 (length (w.edges ++ e ∷ []))
    (length-append w.edges (e ∷ [])) (ap length h.1.1 ∙ length-append (w.edges ++ e ∷ []) h.1.0)
