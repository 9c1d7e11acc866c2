-- A run that goes on: where it stands, and how high it is.
use Rattle.std.proofs.Common.{◌≡◌, ℕ, max, List, [], ◌∷◌, ◌++◌, length, Option, Some, None, refl, ap, ◌∙◌, arith}
use Rattle.std.specs.Option.{option_and_then, option_map_or}
use Rattle.std.proofs.lemmas.Option.{none-some, same_Some}
use Rattle.graph_nodes.specs.Graph.{Graph}
use Rattle.partial_path.specs.declared.config.Config.{Config}
use Rattle.partial_path.specs.declared.config.EdgeAt.{EdgeAt}
use Rattle.partial_path.specs.declared.rule.Start.{Start}
use Rattle.partial_path.specs.Step.{step}
use Rattle.partial_path.specs.Runs.{run}
use Rattle.partial_path.specs.Walks.{begin, run_from, highest, highest_from}

-- a run of edges and then of more is the one run and then the other
pub run-append : (files : List Graph) (es more : List EdgeAt) (c : Config)
    → run files c (es ++ more) ≡ option_and_then (λ (d : Config). run files d more) (run files c es)
run-append files [] more c = refl
run-append files (e ∷ es) more c =
    split_then (λ (next : Config). run files next (es ++ more)) (λ (next : Config). run files next es) (λ (d : Config). run files d more)
    (λ next. run-append files es more next) (step files c e)
  where
    split_then : (h k j : Config → Option Config) → ((x : Config) → h x ≡ option_and_then j (k x))
        → (o : Option Config) → option_and_then h o ≡ option_and_then j (option_and_then k o)
    split_then h k j same None = refl
    split_then h k j same (Some x) = same x

begun-append : (files : List Graph) (es more : List EdgeAt) (o : Option Config)
    → option_and_then (λ (first : Config). run files first (es ++ more)) o
    ≡ option_and_then (λ (d : Config). run files d more) (option_and_then (λ (first : Config). run files first es) o)
begun-append files es more None = refl
begun-append files es more (Some first) = run-append files es more first

pub run_from-append : (files : List Graph) (start : Start) (es more : List EdgeAt) (c : Config)
    → run_from files start (es ++ more) c ≡ option_and_then (λ (d : Config). run files d more) (run_from files start es c)
run_from-append files start es more c = begun-append files es more (begin files start c)

-- the run of one edge is the step
pub run_one : (files : List Graph) (c : Config) (e : EdgeAt) → run files c (e ∷ []) ≡ step files c e
run_one files c e = itself (step files c e)
  where
    itself : (o : Option Config) → option_and_then (λ (next : Config). run files next []) o ≡ o
    itself None = refl
    itself (Some next) = refl

-- a run is as high as its first configuration
pub highest-begins : (files : List Graph) (c : Config) (es : List EdgeAt) → highest files c es ≡ max (length c.stacks.symbols) (highest files c es)
highest-begins files c [] = once (length c.stacks.symbols)
  where
    once : (n : ℕ) → n ≡ max n n
    once n = omega arith
highest-begins files c (e ∷ es) = twice (length c.stacks.symbols) (option_map_or (λ (next : Config). highest files next es) (step files c e) 0)
  where
    twice : (n m : ℕ) → max n m ≡ max n (max n m)
    twice n m = omega arith

regroup : (a b c d : ℕ) → d ≡ max b c → max a d ≡ max (max a b) c
regroup a b c d h = omega arith

highest-stepped : (files : List Graph) (n : ℕ) (es more : List EdgeAt) (d : Config)
    → ((next : Config) → run files next es ≡ Some d → highest files next (es ++ more) ≡ max (highest files next es) (highest files d more))
    → (o : Option Config) → option_and_then (λ (next : Config). run files next es) o ≡ Some d
    → max n (option_map_or (λ (next : Config). highest files next (es ++ more)) o 0)
    ≡ max (max n (option_map_or (λ (next : Config). highest files next es) o 0)) (highest files d more)
highest-stepped files n es more d each None h = absurd (none-some d h)
highest-stepped files n es more d each (Some next) h =
    regroup n (highest files next es) (highest files d more) (highest files next (es ++ more)) (each next h)

-- and as high as the higher of its parts
pub highest-append : (files : List Graph) (es more : List EdgeAt) (c d : Config) → run files c es ≡ Some d
    → highest files c (es ++ more) ≡ max (highest files c es) (highest files d more)
highest-append files [] more c d h =
    highest-begins files c more
    ∙ ap (λ (x : Config). max (length c.stacks.symbols) (highest files x more)) (same_Some c d h)
highest-append files (e ∷ es) more c d h =
    highest-stepped files (length c.stacks.symbols) es more d (λ next k. highest-append files es more next d k) (step files c e) h

pub highest_from-append : (files : List Graph) (start : Start) (es more : List EdgeAt) (c d : Config) → run_from files start es c ≡ Some d
    → highest_from files start (es ++ more) c ≡ max (highest_from files start es c) (highest files d more)
highest_from-append files start es more c d h =
    highest-stepped files (length c.stacks.symbols) es more d (λ first k. highest-append files es more first d k) (begin files start c) h
