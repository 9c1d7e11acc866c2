-- What a partial path is: a rule that rewrites stacks, with its ends, its edges and its peak.
use Rattle.std.specs.Prelude.{◌≡◌, ◌≤◌, ℕ, List, [], ◌∷◌, ◌++◌, length, max, Bool, false, if◌then◌else◌, slice_get, Option, Some, None, nat_lt}
use Rattle.std.specs.Option.{option_map_or, is_some}
use Rattle.std.specs.List.{flat_map}
use Rattle.stacks_vars.specs.declared.patterns.SymPat.{SymPat}
use Rattle.stacks_vars.specs.declared.patterns.Pre.{Pre}
use Rattle.stacks_vars.specs.declared.patterns.Tail.{Tail}
use Rattle.stacks_vars.specs.declared.patterns.Tail.TheVariants.{Nil, Front, Item}
use Rattle.stacks_vars.specs.declared.patterns.ScopeOut.{ScopeOut}
use Rattle.stacks_vars.specs.declared.patterns.SymOut.{SymOut}
use Rattle.stacks_vars.specs.declared.patterns.Post.{Post}
use Rattle.partial_path.specs.declared.config.Spot.{Spot}
use Rattle.partial_path.specs.declared.config.Spot.TheVariants as spot
use Rattle.partial_path.specs.declared.config.EdgeAt.{EdgeAt}
use Rattle.partial_path.specs.declared.rule.Start.{Start}
use Rattle.partial_path.specs.declared.rule.Start.TheVariants.{Before, After}
use Rattle.partial_path.specs.declared.rule.End.{End}
use Rattle.partial_path.specs.declared.fault.PathFault.{PathFault}
use Rattle.partial_path.specs.declared.fault.PathFault.TheVariants.{BadTail, PeakLow}

-- a partial path: what it asks of a configuration, what it makes of it, the edges that it stands for, and
-- the greatest number of symbols on the way, less those that it leaves as they are
pub record Rule : Type 0 where
  pub start : Start
  pub end : End
  pub pre : Pre
  pub post : Post
  pub peak : ℕ
  pub edges : List EdgeAt

-- the rule of these parts
abbrev pub rule_of : Start → End → Pre → Post → ℕ → List EdgeAt → Rule
rule_of start end pre post peak edges =
    record { start = start; end = end; pre = pre; post = post; peak = peak; edges = edges }

-- the spot at which the path begins
abbrev pub start_spot : Start → Spot
start_spot (Before node) = spot.At node
start_spot (After spot) = spot

-- whether the precondition's symbol at that place has attached scopes
abbrev pub has_scopes : List SymPat → ℕ → Bool
has_scopes symbols i = option_map_or (λ (s : SymPat). is_some s.scopes) (slice_get symbols i) false

-- the variables that a postcondition names, in its order: the symbols from the front on, then the scope stack
abbrev pub tail_of : SymOut → List Tail
tail_of out = option_map_or (λ (scopes : ScopeOut). scopes.tail ∷ []) out.scopes []

-- all of them: those of the symbols, and then that of the scope stack
abbrev pub tails : Post → List Tail
tails post = flat_map tail_of post.symbols ++ post.scopes.tail ∷ []

-- the place that the variable names, where the precondition has no attached scopes there
abbrev pub bad_place : List SymPat → Tail → List ℕ
bad_place symbols Nil = []
bad_place symbols Front = []
bad_place symbols (Item i) = if has_scopes symbols i then [] else i ∷ []

-- the places that the postcondition names and where there are no attached scopes
abbrev pub bad_places : Pre → Post → List ℕ
bad_places pre post = flat_map (bad_place pre.symbols) (tails post)

-- the least peak: as many symbols as the rule asks for, and as many as it makes
abbrev pub peak_reaches : Pre → Post → ℕ
peak_reaches pre post = max (length pre.symbols) (length post.symbols)

-- the rule names no variable that isn't there, and its peak is high enough
pub record IsRule (rule : Rule) : Type 0 where
  pub tails : bad_places rule.pre rule.post ≡ []
  pub peak : peak_reaches rule.pre rule.post ≤ rule.peak

-- the fault of a rule of these parts whose bad places are these: the first bad place, else a peak that is too low
abbrev pub fault_of : List ℕ → Pre → Post → ℕ → Option PathFault
fault_of (i ∷ places) pre post peak = Some (BadTail i)
fault_of [] pre post peak = if nat_lt peak (peak_reaches pre post) then Some PeakLow else None

-- the first fault of a rule of these parts
abbrev pub path_fault : Pre → Post → ℕ → Option PathFault
path_fault pre post peak = fault_of (bad_places pre post) pre post peak
