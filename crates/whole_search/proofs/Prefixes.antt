-- A run's front is a run, as straight and as bounded as the whole; and a run with one more edge.
use Rattle.std.proofs.Common.{◌≡◌, ℕ, ◌+◌, ◌≤◌, Bool, true, false, not, ◌&&◌, List, [], ◌∷◌, ◌++◌, length, Option, Some, None, IsSome, ◌⊎◌, inl, inr, sym, refl, ap, ◌∙◌, subst, leb, leb-true, le-leb, arith, append_assoc, append-nil, length-append, option_and_then, if◌then◌else◌}
use Rattle.std.specs.Option.{option_map_or}
use Rattle.std.specs.List.{list_any}
use Rattle.std.proofs.lemmas.Bool.{false≢true, and_parts, and_from, or_cases, or_left, or_right, false_from_ne_true, both_ways, not-true, not_from_false}
use Rattle.std.proofs.lemmas.Option.{none-some, same_Some}
use Rattle.graph_nodes.specs.Graph.{Graph}
use Rattle.partial_path.specs.declared.config.Config.{Config}
use Rattle.partial_path.specs.declared.config.EdgeAt.{EdgeAt}
use Rattle.partial_path.specs.declared.bounds.Bounds.{Bounds}
use Rattle.partial_path.specs.Step.{step, is_cut_edge}
use Rattle.partial_path.specs.Same.{config_eq}
use Rattle.partial_path.specs.Runs.{run, where_cut, after_cuts, IsStraight, IsApart}
use Rattle.whole_search.specs.Walk.{ends_cut, is_shallow, is_bounded, is_empty, is_at_definition, completes, lands, keeps_straight, with_edge}
use Rattle.partial_path.proofs.Equals.{config_eq-Decides}
use Rattle.list_facts.proofs.Apart.{IsApart-append_left, IsApart-last, IsApart_push}
use Rattle.list_facts.specs.Members.{IsIn}
use Rattle.whole_search.proofs.Reflect.{ends_cut-append}

run_on : (files : List Graph) (p r : List EdgeAt) (at : Config) (o : Option Config) → ((next : Config) → run files next p ≡ Some at → run files next (p ++ r) ≡ run files at r) → option_and_then (λ (next : Config). run files next p) o ≡ Some at → option_and_then (λ (next : Config). run files next (p ++ r)) o ≡ run files at r
run_on files p r at None each h = absurd (none-some at h)
run_on files p r at (Some next) each h = each next h

pub run-append : (files : List Graph) (c : Config) (p r : List EdgeAt) (at : Config) → run files c p ≡ Some at → run files c (p ++ r) ≡ run files at r
run-append files c [] r at h = ap (λ (x : Config). run files x r) (same_Some c at h)
run-append files c (e ∷ p) r at h = run_on files p r at (step files c e) (λ next g. run-append files next p r at g) h

-- where a run stands after its front, and that it goes on from there
abbrev pub Parts : List Graph → Config → List EdgeAt → List EdgeAt → Type 0
Parts files c p r = (at : Config) × (run files c p ≡ Some at) × IsSome (run files at r)

parts_on : (files : List Graph) (p r : List EdgeAt) (o : Option Config) → ((next : Config) → IsSome (run files next (p ++ r)) → Parts files next p r) → IsSome (option_and_then (λ (next : Config). run files next (p ++ r)) o) → (at : Config) × (option_and_then (λ (next : Config). run files next p) o ≡ Some at) × IsSome (run files at r)
parts_on files p r None each h = absurd (false≢true h)
parts_on files p r (Some next) each h = each next h

pub parts_of : (files : List Graph) (c : Config) (p r : List EdgeAt) → IsSome (run files c (p ++ r)) → Parts files c p r
parts_of files c [] r h = (c, refl, h)
parts_of files c (e ∷ p) r h = parts_on files p r (step files c e) (λ next g. parts_of files next p r g) h

first_on : (files : List Graph) (r : List EdgeAt) (o : Option Config) → IsSome (option_and_then (λ (next : Config). run files next r) o) → (next : Config) × (o ≡ Some next) × IsSome (run files next r)
first_on files r None h = absurd (false≢true h)
first_on files r (Some next) h = (next, refl, h)

-- the first step of a run
pub first_step : (files : List Graph) (at : Config) (e : EdgeAt) (r : List EdgeAt) → IsSome (run files at (e ∷ r)) → (next : Config) × (step files at e ≡ Some next) × IsSome (run files next r)
first_step files at e r h = first_on files r (step files at e) h

pub run_one : (files : List Graph) (at next : Config) (e : EdgeAt) → step files at e ≡ Some next → run files at (e ∷ []) ≡ Some next
run_one files at next e h = ap (λ (o : Option Config). option_and_then (λ (x : Config). run files x []) o) h

pub run-with_edge : (files : List Graph) (c at next : Config) (es : List EdgeAt) (e : EdgeAt) → run files c es ≡ Some at → step files at e ≡ Some next → run files c (with_edge es e) ≡ Some next
run-with_edge files c at next es e h g = run-append files c es (e ∷ []) at h ∙ run_one files at next e g

cuts_on : (files : List Graph) (e : EdgeAt) (p r : List EdgeAt) (at : Config) (o : Option Config) → ((next : Config) → run files next p ≡ Some at → after_cuts files next (p ++ r) ≡ after_cuts files next p ++ after_cuts files at r) → option_and_then (λ (next : Config). run files next p) o ≡ Some at → option_map_or (λ (next : Config). where_cut files e next ++ after_cuts files next (p ++ r)) o [] ≡ option_map_or (λ (next : Config). where_cut files e next ++ after_cuts files next p) o [] ++ after_cuts files at r
cuts_on files e p r at None each h = absurd (none-some at h)
cuts_on files e p r at (Some next) each h =
    ap (λ (xs : List Config). where_cut files e next ++ xs) (each next h)
    ∙ sym (append_assoc (where_cut files e next) (after_cuts files next p) (after_cuts files at r))

pub after_cuts-append : (files : List Graph) (c : Config) (p r : List EdgeAt) (at : Config) → run files c p ≡ Some at → after_cuts files c (p ++ r) ≡ after_cuts files c p ++ after_cuts files at r
after_cuts-append files c [] r at h = ap (λ (x : Config). after_cuts files x r) (same_Some c at h)
after_cuts-append files c (e ∷ p) r at h =
    cuts_on files e p r at (step files c e) (λ next g. after_cuts-append files next p r at g) h

after_one : (files : List Graph) (at next : Config) (e : EdgeAt) → step files at e ≡ Some next → after_cuts files at (e ∷ []) ≡ where_cut files e next
after_one files at next e h =
    ap (λ (o : Option Config). option_map_or (λ (x : Config). where_cut files e x ++ after_cuts files x []) o []) h
    ∙ append-nil (where_cut files e next)

-- the configurations that a run with one more edge has met at its cuts
pub met-with_edge : (files : List Graph) (c at next : Config) (es : List EdgeAt) (e : EdgeAt) → run files c es ≡ Some at → step files at e ≡ Some next → (c ∷ after_cuts files c (with_edge es e)) ≡ (c ∷ after_cuts files c es) ++ where_cut files e next
met-with_edge files c at next es e h g =
    ap (λ (xs : List Config). c ∷ xs)
    (after_cuts-append files c es (e ∷ []) at h ∙ ap (λ (xs : List Config). after_cuts files c es ++ xs) (after_one files at next e g))

pub straight_front : (files : List Graph) (c : Config) (p r : List EdgeAt) (at : Config) → run files c p ≡ Some at → IsStraight files c (p ++ r) → IsStraight files c p
straight_front files c p r at h g =
    IsApart-append_left (c ∷ after_cuts files c p) (after_cuts files at r)
    (subst (λ (xs : List Config). IsApart (c ∷ xs)) (after_cuts-append files c p r at h) g)

any_cases : (x y : Config) (ys : List Config) → (list_any (config_eq x) ys ≡ true → IsIn x ys) → (config_eq x y ≡ true) ⊎ (list_any (config_eq x) ys ≡ true) → IsIn x (y ∷ ys)
any_cases x y ys rest (inl h) = inl ((config_eq-Decides x y).0 h)
any_cases x y ys rest (inr h) = inr (rest h)

in_from_any : (x : Config) (met : List Config) → list_any (config_eq x) met ≡ true → IsIn x met
in_from_any x [] t = absurd (false≢true t)
in_from_any x (y ∷ ys) t = any_cases x y ys (λ h. in_from_any x ys h) (or_cases (config_eq x y) (list_any (config_eq x) ys) t)

any_from_in : (x : Config) (met : List Config) → IsIn x met → list_any (config_eq x) met ≡ true
any_from_in x [] h = absurd h
any_from_in x (y ∷ ys) (inl e) = or_left (config_eq x y) (list_any (config_eq x) ys) ((config_eq-Decides x y).1 e)
any_from_in x (y ∷ ys) (inr h) = or_right (config_eq x y) (list_any (config_eq x) ys) (any_from_in x ys h)

apart_where : (met : List Config) (next : Config) (cut : Bool) → IsApart met → not (cut && list_any (config_eq next) met) ≡ true → IsApart (met ++ (if cut then next ∷ [] else []))
apart_where met next true h t =
    IsApart_push met next h (λ g. both_ways (list_any (config_eq next) met) (not-true _ t) (any_from_in next met g))
apart_where met next false h t = subst (λ (xs : List Config). IsApart xs) (sym (append-nil met)) h

new_where : (met : List Config) (next : Config) (cut : Bool) → IsApart (met ++ (if cut then next ∷ [] else [])) → not (cut && list_any (config_eq next) met) ≡ true
new_where met next true h =
    not_from_false (list_any (config_eq next) met)
    (false_from_ne_true (list_any (config_eq next) met) (λ t. IsApart-last met next h (in_from_any next met t)))
new_where met next false h = refl

-- a straight run with one more edge is straight where the edge keeps it so, and only there
pub straight_longer : (files : List Graph) (c at next : Config) (es : List EdgeAt) (e : EdgeAt) → run files c es ≡ Some at → step files at e ≡ Some next → IsStraight files c es → keeps_straight files (c ∷ after_cuts files c es) e next ≡ true → IsStraight files c (with_edge es e)
straight_longer files c at next es e h g straight keeps =
    subst (λ (xs : List Config). IsApart xs) (sym (met-with_edge files c at next es e h g))
    (apart_where (c ∷ after_cuts files c es) next (is_cut_edge files e) straight keeps)

pub keeps_from : (files : List Graph) (c at next : Config) (es : List EdgeAt) (e : EdgeAt) → run files c es ≡ Some at → step files at e ≡ Some next → IsStraight files c (with_edge es e) → keeps_straight files (c ∷ after_cuts files c es) e next ≡ true
keeps_from files c at next es e h g straight =
    new_where (c ∷ after_cuts files c es) next (is_cut_edge files e)
    (subst (λ (xs : List Config). IsApart xs) (met-with_edge files c at next es e h g) straight)

shallow_start : (depth : ℕ) (files : List Graph) (c : Config) (es : List EdgeAt) → is_shallow depth files c es ≡ true → leb (length c.stacks.symbols) depth ≡ true
shallow_start depth files c [] t = t
shallow_start depth files c (e ∷ es) t = (and_parts _ _ t).0

shallow_on : (depth : ℕ) (files : List Graph) (p r : List EdgeAt) (o : Option Config) → ((next : Config) → is_shallow depth files next (p ++ r) ≡ true → is_shallow depth files next p ≡ true) → option_map_or (λ (next : Config). is_shallow depth files next (p ++ r)) o true ≡ true → option_map_or (λ (next : Config). is_shallow depth files next p) o true ≡ true
shallow_on depth files p r None each t = refl
shallow_on depth files p r (Some next) each t = each next t

shallow_front : (depth : ℕ) (files : List Graph) (c : Config) (p r : List EdgeAt) → is_shallow depth files c (p ++ r) ≡ true → is_shallow depth files c p ≡ true
shallow_front depth files c [] r t = shallow_start depth files c r t
shallow_front depth files c (e ∷ p) r t =
    let parts = and_parts _ _ t in
    and_from _ _ parts.0 (shallow_on depth files p r (step files c e) (λ next h. shallow_front depth files next p r h) parts.1)

short_front : (p r : List EdgeAt) (most : ℕ) → leb (length (p ++ r)) most ≡ true → leb (length p) most ≡ true
short_front p r most t =
    let le : length (p ++ r) ≤ most = leb-true _ _ t in
    let sum : length (p ++ r) ≡ length p + length r = length-append p r in
    le-leb (length p) most (omega arith)

pub bounded_front : (bounds : Bounds) (files : List Graph) (c : Config) (p r : List EdgeAt) → is_bounded bounds files c (p ++ r) ≡ true → is_bounded bounds files c p ≡ true
bounded_front bounds files c p r t =
    let parts = and_parts _ _ t in
    and_from _ _ (short_front p r bounds.edges parts.0) (shallow_front bounds.depth files c p r parts.1)

pub unbounded_longer : (bounds : Bounds) (files : List Graph) (c : Config) (p r : List EdgeAt) → is_bounded bounds files c p ≡ false → is_bounded bounds files c (p ++ r) ≡ false
unbounded_longer bounds files c p r f =
    false_from_ne_true (is_bounded bounds files c (p ++ r)) (λ t. both_ways _ f (bounded_front bounds files c p r t))

-- what is left of a run that lands, from where its front stands, is a run that lands
pub lands_rest : (files : List Graph) (c at : Config) (p : List EdgeAt) (e : EdgeAt) (r : List EdgeAt) → run files c p ≡ Some at → lands files c (p ++ e ∷ r) ≡ true → lands files at (e ∷ r) ≡ true
lands_rest files c at p e r h t = by (or_cases (ends_cut files (p ++ e ∷ r)) (completes files c (p ++ e ∷ r)) t)
  where
    by : (ends_cut files (p ++ e ∷ r) ≡ true) ⊎ (completes files c (p ++ e ∷ r) ≡ true) → lands files at (e ∷ r) ≡ true
    by (inl g) = or_left (ends_cut files (e ∷ r)) (completes files at (e ∷ r)) (sym (ends_cut-append files p e r) ∙ g)
    by (inr g) =
        or_right (ends_cut files (e ∷ r)) (completes files at (e ∷ r))
        (ap (λ (o : Option Config). option_map_or (is_at_definition files) o false) (sym (run-append files c p (e ∷ r) at h))
        ∙ (and_parts (not (is_empty (p ++ e ∷ r))) (option_map_or (is_at_definition files) (run files c (p ++ e ∷ r)) false) g).1)
