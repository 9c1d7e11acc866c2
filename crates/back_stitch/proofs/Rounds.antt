-- A run that comes back to where it was does without the edges in between.
use Rattle.std.proofs.Common.{◌≡◌, ◌≤◌, refl, sym, ap, ◌∙◌, subst, ℕ, max, List, [], ◌∷◌, ◌++◌, length, Bool, true, false, Option, Some, None, if◌then◌else◌, arith, inl, inr}
use Rattle.std.specs.Option.{option_and_then, option_map_or}
use Rattle.std.specs.List.{list_any}
use Rattle.std.proofs.lemmas.Bool.{both_ways}
use Rattle.std.proofs.lemmas.Option.{none-some}
use Rattle.graph_nodes.specs.Graph.{Graph}
use Rattle.partial_path.specs.declared.config.Config.{Config}
use Rattle.partial_path.specs.declared.config.EdgeAt.{EdgeAt}
use Rattle.partial_path.specs.Step.{step, is_cut_edge}
use Rattle.partial_path.specs.Same.{config_eq}
use Rattle.partial_path.specs.Runs.{run, where_cut, after_cuts, IsApart, IsStraight}
use Rattle.partial_path.specs.Walks.{highest}
use Rattle.partial_path.proofs.Equals.{config_eq-Decides}
use Rattle.list_facts.specs.Members.{IsIn}
use Rattle.list_facts.proofs.Members.{passing_member, list_any-from_member}
use Rattle.list_facts.proofs.Apart.{all_differ}

-- the first step of a run, and what stands behind it
abbrev pub IsStepped : List Graph → List EdgeAt → Option Config → Config → Type 0
IsStepped files es o end = (next : Config) × (o ≡ Some next) × (run files next es ≡ Some end)

pub stepped : (files : List Graph) (es : List EdgeAt) (o : Option Config) (end : Config) → option_and_then (λ (next : Config). run files next es) o ≡ Some end → IsStepped files es o end
stepped files es None end h = absurd (none-some end h)
stepped files es (Some next) end h = (next, refl, h)

cuts_from : (files : List Graph) (c next : Config) (e : EdgeAt) (es : List EdgeAt) → step files c e ≡ Some next
    → after_cuts files c (e ∷ es) ≡ where_cut files e next ++ after_cuts files next es
cuts_from files c next e es h = ap (λ (o : Option Config). option_map_or (λ (x : Config). where_cut files e x ++ after_cuts files x es) o []) h

highest_on : (files : List Graph) (c next : Config) (e : EdgeAt) (es : List EdgeAt) → step files c e ≡ Some next
    → highest files c (e ∷ es) ≡ max (length c.stacks.symbols) (highest files next es)
highest_on files c next e es h = ap (λ (o : Option Config). max (length c.stacks.symbols) (option_map_or (λ (x : Config). highest files x es) o 0)) h

-- a straight run to there that has at most so many edges, and nowhere more than so many symbols
pub record IsShortened (files : List Graph) (c end : Config) (edges high : ℕ) : Type 0 where
  pub list : List EdgeAt
  pub runs : run files c list ≡ Some end
  pub straight : IsStraight files c list
  pub short : length list ≤ edges
  pub low : highest files c list ≤ high

-- where the bounds are no lower
wider : (files : List Graph) (c end : Config) (n m k l : ℕ) → n ≤ k → m ≤ l → IsShortened files c end n m → IsShortened files c end k l
wider files c end n m k l h g s = record {
  list = s.list;
  runs = s.runs;
  straight = s.straight;
  short = (let a : length s.list ≤ n = s.short in omega (arith, a, h));
  low = (let a : highest files c s.list ≤ m = s.low in omega (arith, a, g));
}

-- from one of the places where a run is cut it goes on straight, where no two of these are equal
from_cut : (files : List Graph) (c d end : Config) (es : List EdgeAt) → run files c es ≡ Some end → IsApart (after_cuts files c es) → IsIn d (after_cuts files c es)
    → IsShortened files d end (length es) (highest files c es)
from_cut files c d end [] ran apart here = absurd here
from_cut files c d end (e ∷ es) ran apart here =
    let (next, is, rest) = stepped files es (step files c e) end ran in
    let cuts = cuts_from files c next e es is in
    by next is rest (λ apart here. from_cut files next d end es rest apart here) (is_cut_edge files e) (subst IsApart cuts apart) (subst (λ (cs : List Config). IsIn d cs) cuts here)
  where
    on : (next : Config) → step files c e ≡ Some next → IsShortened files d end (length es) (highest files next es) → IsShortened files d end (length (e ∷ es)) (highest files c (e ∷ es))
    on next is s =
        let high : highest files c (e ∷ es) ≡ max (length c.stacks.symbols) (highest files next es) = highest_on files c next e es is in
        wider files d end (length es) (highest files next es) (length (e ∷ es)) (highest files c (e ∷ es)) (omega arith) (omega (arith, high)) s

    there : (next : Config) → run files next es ≡ Some end → IsApart (next ∷ after_cuts files next es) → next ≡ d → IsShortened files d end (length es) (highest files next es)
    there next rest apart same =
        subst (λ (x : Config). IsShortened files x end (length es) (highest files next es)) same
        record { list = es; runs = rest; straight = apart; short = omega arith; low = omega arith }

    by : (next : Config) → step files c e ≡ Some next → run files next es ≡ Some end
        → (IsApart (after_cuts files next es) → IsIn d (after_cuts files next es) → IsShortened files d end (length es) (highest files next es)) → (b : Bool)
        → IsApart ((if b then next ∷ [] else []) ++ after_cuts files next es) → IsIn d ((if b then next ∷ [] else []) ++ after_cuts files next es)
        → IsShortened files d end (length (e ∷ es)) (highest files c (e ∷ es))
    by next is rest later true apart (inl same) = on next is (there next rest apart (sym same))
    by next is rest later true apart (inr here) = on next is (later apart.1 here)
    by next is rest later false apart here = on next is (later apart here)

-- a run is as good as a straight one
pub straightened : (files : List Graph) (c end : Config) (es : List EdgeAt) → run files c es ≡ Some end → IsShortened files c end (length es) (highest files c es)
straightened files c end [] ran = record { list = []; runs = ran; straight = (tt, tt); short = omega arith; low = omega arith }
straightened files c end (e ∷ es) ran =
    let (next, is, rest) = stepped files es (step files c e) end ran in
    let s = straightened files next end es rest in
    let ran_on : run files c (e ∷ s.list) ≡ Some end = ap (option_and_then (λ (x : Config). run files x s.list)) is ∙ s.runs in
    let high : highest files c (e ∷ es) ≡ max (length c.stacks.symbols) (highest files next es) = highest_on files c next e es is in
    let high_on : highest files c (e ∷ s.list) ≡ max (length c.stacks.symbols) (highest files next s.list) = highest_on files c next e s.list is in
    let short : length s.list ≤ length es = s.short in
    let low : highest files next s.list ≤ highest files next es = s.low in
    let all_short : length (e ∷ s.list) ≤ length (e ∷ es) = omega (arith, short) in
    let all_low : highest files c (e ∷ s.list) ≤ highest files c (e ∷ es) = omega (arith, high, high_on, low) in
    wider files c end (length (e ∷ s.list)) (highest files c (e ∷ s.list)) (length (e ∷ es)) (highest files c (e ∷ es)) all_short all_low
    (by s.list ran_on
    (subst IsApart (sym (cuts_from files c next e s.list is)) (apart (is_cut_edge files e) next s.list s.straight))
    (list_any (config_eq c) (after_cuts files c (e ∷ s.list))) refl)
  where
    apart : (b : Bool) (next : Config) (list : List EdgeAt) → IsStraight files next list → IsApart ((if b then next ∷ [] else []) ++ after_cuts files next list)
    apart true next list straight = straight
    apart false next list straight = straight.1

    by : (list : List EdgeAt) → run files c (e ∷ list) ≡ Some end → IsApart (after_cuts files c (e ∷ list)) → (b : Bool) → list_any (config_eq c) (after_cuts files c (e ∷ list)) ≡ b
        → IsShortened files c end (length (e ∷ list)) (highest files c (e ∷ list))
    by list ran apart true back =
        let (d, here, same) = passing_member (config_eq c) (after_cuts files c (e ∷ list)) back in
        let is : c ≡ d = (config_eq-Decides c d).0 same in
        from_cut files c c end (e ∷ list) ran apart (subst (λ (x : Config). IsIn x (after_cuts files c (e ∷ list))) (sym is) here)
    by list ran apart false none = record {
      list = e ∷ list;
      runs = ran;
      straight = (
        all_differ c (after_cuts files c (e ∷ list))
            (λ here. both_ways (list_any (config_eq c) (after_cuts files c (e ∷ list))) none
            (list_any-from_member (config_eq c) c (after_cuts files c (e ∷ list)) here ((config_eq-Decides c c).1 refl))),
        apart,
      );
      short = omega arith;
      low = omega arith;
    }
