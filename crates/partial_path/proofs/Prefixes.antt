-- A prefix of a counted run that ends with a cut edge is a closed and straight run.
use Rattle.std.proofs.Common.{◌≡◌, List, [], ◌∷◌, ◌++◌, Option, Some, None, refl, ap, sym, ◌∙◌, IsSome, append_assoc}
use Rattle.std.specs.Option.{option_map_or, option_and_then}
use Rattle.graph_nodes.specs.Graph.{Graph}
use Rattle.partial_path.specs.declared.config.Config.{Config}
use Rattle.partial_path.specs.declared.config.EdgeAt.{EdgeAt}
use Rattle.partial_path.specs.Step.{step}
use Rattle.partial_path.specs.Runs.{run, after_cuts, where_cut, IsStraight}
use Rattle.partial_path.specs.Laws.{CutPrefixesAreClosed}
use Rattle.list_facts.proofs.Apart.{IsApart-append_left}

-- where a run goes on from a step, a prefix of it does
run-prefix-at : (files : List Graph) (xs ys : List EdgeAt)
    → ((next : Config) → IsSome (run files next (xs ++ ys)) → IsSome (run files next xs))
    → (o : Option Config) → IsSome (option_and_then (λ (next : Config). run files next (xs ++ ys)) o)
    → IsSome (option_and_then (λ (next : Config). run files next xs) o)
run-prefix-at files xs ys rest None h = h
run-prefix-at files xs ys rest (Some next) h = rest next h

-- a prefix of a run is a run
pub run-prefix : (files : List Graph) (c : Config) (xs ys : List EdgeAt) → IsSome (run files c (xs ++ ys)) → IsSome (run files c xs)
run-prefix files c [] ys h = refl
run-prefix files c (x ∷ xs) ys h =
    run-prefix-at files xs ys (λ next k. run-prefix files next xs ys k) (step files c x) h

-- the configurations after the cut edges of a run from a step, with others behind
after_cuts-at : (files : List Graph) (x : EdgeAt) (xs ys : List EdgeAt)
    → ((next : Config) → (more : List Config) × (after_cuts files next (xs ++ ys) ≡ after_cuts files next xs ++ more))
    → (o : Option Config) → (more : List Config)
    × (option_map_or (λ (next : Config). where_cut files x next ++ after_cuts files next (xs ++ ys)) o []
    ≡ option_map_or (λ (next : Config). where_cut files x next ++ after_cuts files next xs) o [] ++ more)
after_cuts-at files x xs ys rest None = ([], refl)
after_cuts-at files x xs ys rest (Some next) =
    let more = rest next in
    (more.0, ap (λ (zs : List Config). where_cut files x next ++ zs) more.1 ∙ sym (append_assoc (where_cut files x next) (after_cuts files next xs) more.0))

-- the configurations after the cut edges of a prefix come first
pub after_cuts-prefix : (files : List Graph) (c : Config) (xs ys : List EdgeAt)
    → (more : List Config) × (after_cuts files c (xs ++ ys) ≡ after_cuts files c xs ++ more)
after_cuts-prefix files c [] ys = (after_cuts files c ys, refl)
after_cuts-prefix files c (x ∷ xs) ys =
    after_cuts-at files x xs ys (λ next. after_cuts-prefix files next xs ys) (step files c x)

-- a prefix of a straight run is straight
pub IsStraight-prefix : (files : List Graph) (c : Config) (xs ys : List EdgeAt) → IsStraight files c (xs ++ ys) → IsStraight files c xs
IsStraight-prefix files c xs ys h =
    let more = after_cuts-prefix files c xs ys in
    IsApart-append_left (c ∷ after_cuts files c xs) more.0 (rw more.1 at h)

pub cut_prefixes : CutPrefixesAreClosed
cut_prefixes files c before last after counted is_cut = record {
  runs = run-prefix files c (before ++ last ∷ []) after counted.runs;
  closed = (before, last, refl, is_cut);
  straight = IsStraight-prefix files c (before ++ last ∷ []) after counted.straight;
}
