-- One step of the table of known scopes.
use Rattle.std.proofs.Common.{◌≡◌, ap, ◌∙◌, sym, ℕ, ◌<◌, ◌≤◌, List, [], ◌++◌, length, set, get_or, Option, Some, None}
use Rattle.std.specs.Option.{option_and_then, option_map_or}
use Rattle.std.proofs.lemmas.List.{set_past}
use Rattle.std.proofs.lemmas.Option.{slice_get-get_or}
use Rattle.stacks_vars.specs.declared.scopes.NodeAt.{NodeAt}
use Rattle.stacks_vars.specs.declared.patterns.ScopeOut.{ScopeOut}
use Rattle.stacks_vars.specs.declared.patterns.Tail.TheVariants.{Item}
use Rattle.partial_path.specs.Apply.{Rests, rests_of, tail_scopes}
use Rattle.path_join.specs.Joining.{past, grow, meet_scopes}
use Rattle.path_join.proofs.CodePast.{past-append}

-- a variable of the table grows, one that isn't there doesn't
pub grow-item : (known : Rests) (place : ℕ) (more d : List NodeAt) → place < length known.items
    → grow (Item place) more known ≡ Some (rests_of known.front (set known.items place (get_or known.items place d ++ more)))
grow-item known place more d below =
    ap (λ (o : Option (List NodeAt)). Some (rests_of known.front (set known.items place (option_map_or (λ (scopes : List NodeAt). scopes) o [] ++ more))))
    (slice_get-get_or known.items place d below)

pub grow-past : (known : Rests) (place : ℕ) (more : List NodeAt) → length known.items ≤ place → grow (Item place) more known ≡ Some known
grow-past known place more past =
    ap (λ items. Some (rests_of known.front items)) (set_past known.items place (tail_scopes known (Item place) ++ more) past)

pub ruleset grown_items = (grow-item, grow-past)

-- the scopes asked for are met first by the fixed ones of the output and then by those known of its variable
meet_scopes-parts : (known : Rests) (fixed : List NodeAt) (out : ScopeOut)
    → meet_scopes known fixed out
    ≡ option_and_then (λ more. grow out.tail more known) (option_and_then (λ beyond. past beyond (tail_scopes known out.tail)) (past fixed out.scopes))
meet_scopes-parts known fixed out =
    ap (option_and_then (λ more. grow out.tail more known)) (past-append fixed out.scopes (tail_scopes known out.tail))

pub met-none : (known : Rests) (fixed : List NodeAt) (out : ScopeOut) → past fixed out.scopes ≡ None → meet_scopes known fixed out ≡ None
met-none known fixed out e =
    meet_scopes-parts known fixed out
    ∙ ap (λ o. option_and_then (λ more. grow out.tail more known) (option_and_then (λ beyond. past beyond (tail_scopes known out.tail)) o)) e

met-beyond : (known : Rests) (fixed beyond : List NodeAt) (out : ScopeOut) → past fixed out.scopes ≡ Some beyond
    → meet_scopes known fixed out ≡ option_and_then (λ more. grow out.tail more known) (past beyond (tail_scopes known out.tail))
met-beyond known fixed beyond out e =
    meet_scopes-parts known fixed out
    ∙ ap (λ o. option_and_then (λ more. grow out.tail more known) (option_and_then (λ beyond. past beyond (tail_scopes known out.tail)) o)) e

pub met-none_beyond : (known : Rests) (fixed beyond there : List NodeAt) (out : ScopeOut) → past fixed out.scopes ≡ Some beyond
    → there ≡ tail_scopes known out.tail → past beyond there ≡ None → meet_scopes known fixed out ≡ None
met-none_beyond known fixed beyond there out e t n =
    met-beyond known fixed beyond out e
    ∙ ap (option_and_then (λ more. grow out.tail more known)) (ap (past beyond) (sym t) ∙ n)

pub met-some : (known : Rests) (fixed beyond there more : List NodeAt) (out : ScopeOut) → past fixed out.scopes ≡ Some beyond
    → there ≡ tail_scopes known out.tail → past beyond there ≡ Some more → meet_scopes known fixed out ≡ grow out.tail more known
met-some known fixed beyond there more out e t n =
    met-beyond known fixed beyond out e
    ∙ ap (option_and_then (λ more. grow out.tail more known)) (ap (past beyond) (sym t) ∙ n)

pub ruleset met_scopes = (met-none, met-none_beyond, met-some)
