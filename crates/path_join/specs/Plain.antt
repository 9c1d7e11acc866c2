-- Paths that ask for no scopes and attach none, and what two of them are as one. No public clause cites this.
use Rattle.std.specs.Prelude.{◌≡◌, [], List, ◌∷◌, ◌++◌, Bool, true, false, ◌&&◌, is_none}
use Rattle.std.specs.List.{list_all}
use Rattle.std.specs.Str.{bytes_eq}
use Rattle.stacks_vars.specs.declared.patterns.SymPat.{SymPat}
use Rattle.stacks_vars.specs.declared.patterns.SymOut.{SymOut}
use Rattle.stacks_vars.specs.declared.patterns.Tail.TheVariants.{Front}
use Rattle.partial_path.specs.declared.config.Spot.{Spot}
use Rattle.partial_path.specs.declared.rule.End.{End}
use Rattle.partial_path.specs.declared.rule.End.TheVariants.{At, ByStack}
use Rattle.partial_path.specs.Same.{spot_eq}
use Rattle.partial_path.specs.Rules.{Rule, rule_of}
use Rattle.path_join.specs.Joins.{joined_peak}
use Rattle.path_join.specs.Joining.{wide_pre}
use Rattle.path_join.specs.Units.{asks, makes}

-- a symbol that is asked for, or made, with no scopes attached
abbrev pub is_plain_pat : SymPat → Bool
is_plain_pat pat = is_none pat.scopes

abbrev pub is_plain_out : SymOut → Bool
is_plain_out out = is_none out.scopes

-- whether a path with this end ends at a spot
abbrev pub is_spot : End → Bool
is_spot (At spot) = true
is_spot ByStack = false

-- the first path of two ends at a spot, asks for no scopes and attaches none, and leaves the scope stack as it is
pub record IsPlainFront (p : Rule) : Type 0 where
  pub end : is_spot p.end ≡ true
  pub asked : list_all is_plain_pat p.pre.symbols ≡ true
  pub fixed : p.pre.scopes.fixed ≡ []
  pub made : list_all is_plain_out p.post.symbols ≡ true
  pub scopes : p.post.scopes.scopes ≡ []
  pub tail : p.post.scopes.tail ≡ Front

-- the second asks for no scopes, makes no symbols, and leaves the scope stack as it is
pub record IsPlainBack (q : Rule) : Type 0 where
  pub asked : list_all is_plain_pat q.pre.symbols ≡ true
  pub fixed : q.pre.scopes.fixed ≡ []
  pub made : q.post.symbols ≡ []
  pub scopes : q.post.scopes.scopes ≡ []
  pub tail : q.post.scopes.tail ≡ Front

-- whether a path with this end ends there
abbrev pub ends_there : End → Spot → Bool
ends_there (At spot) there = spot_eq spot there
ends_there ByStack there = false

-- whether what is asked for and what is made have the same texts, as far as both go
abbrev pub meets : List SymPat → List SymOut → Bool
meets [] outs = true
meets (pat ∷ pats) [] = true
meets (pat ∷ pats) (out ∷ outs) = bytes_eq pat.symbol out.symbol && meets pats outs

-- the two as one
abbrev pub plain_join : Rule → Rule → Rule
plain_join p q = rule_of p.start q.end (asks (wide_pre p q)) (makes [] Front) (joined_peak p q) (p.edges ++ q.edges)
