-- What the code keeps while it joins two paths. No public clause cites this.
use Rattle.std.specs.Prelude.{ℕ, ◌+◌, ◌-◌, length, List, [], ◌∷◌, Bool, Option, Some, None, if◌then◌else◌}
use Rattle.std.specs.Option.{option_and_then}
use Rattle.stacks_vars.specs.declared.scopes.NodeAt.{NodeAt}
use Rattle.stacks_vars.specs.declared.patterns.SymPat.{SymPat}
use Rattle.stacks_vars.specs.declared.patterns.SymOut.{SymOut}
use Rattle.stacks_vars.specs.declared.patterns.ScopeOut.{ScopeOut}
use Rattle.stacks_vars.specs.declared.patterns.Tail.TheVariants.{Item}
use Rattle.stacks_vars.specs.Same.{node_eq}
use Rattle.partial_path.specs.Rules.{Rule}
use Rattle.partial_path.specs.Apply.{Rests, tail_scopes}
use Rattle.path_join.specs.Joining.{meet_symbol, Bound, bound_by, joined_by, joined_post, if_ends}

-- the table, where the step succeeded
abbrev pub kept_if : Bool → Rests → Option Rests
kept_if met known = if met then Some known else None

-- whether the two scopes of a pair are the same
abbrev pub agrees : NodeAt × NodeAt → Bool
agrees pair = node_eq pair.0 pair.1

-- the symbols asked for are met by those that are made, as far as both go
abbrev pub meet_made : Rests → List SymPat → List SymOut → Option Rests
meet_made known [] outs = Some known
meet_made known (pat ∷ pats) [] = Some known
meet_made known (pat ∷ pats) (out ∷ outs) =
    option_and_then (λ (grown : Rests). meet_made grown pats outs) (meet_symbol known pat out)

-- two paths that meet: the scopes asked for where the first ends, and what is known
pub record Meeting : Type 0 where
  pub first : Rule
  pub second : Rule
  pub asked : List NodeAt
  pub known : Rests

-- the meeting of these two paths, with what is asked for and known
abbrev pub meeting_of : Rule → Rule → List NodeAt → Rests → Meeting
meeting_of p q asked known = record { first = p; second = q; asked = asked; known = known }

-- what the second path's variables stand for
abbrev pub bound_of : Meeting → Bound
bound_of m = bound_by m.first m.second m.asked m.known

-- the symbols that the joined path makes
abbrev pub joined_symbols : Meeting → List SymOut
joined_symbols m = (joined_post m.first m.second m.known (bound_of m)).symbols

-- the joined path, where it can end
abbrev pub joined_of : Meeting → Option Rule
joined_of m = if_ends (joined_by m.first m.second m.known (bound_of m))

-- the place among the symbols that the joined path asks for of one that the first path hands on
abbrev pub handed_place : Meeting → ℕ → ℕ
handed_place m place = length m.first.pre.symbols + (place - length m.first.post.symbols)

-- what the variable at a place stands for, in itself
abbrev pub handed_rest : Meeting → ℕ → ScopeOut
handed_rest m place = record { scopes = tail_scopes m.known (Item place); tail = Item place }
