-- Stored paths that apply one after the other, as one rule that does what they do; and which such rules stand for back
-- lists. No public clause cites this.
use Rattle.std.specs.Prelude.{◌≡◌, ℕ, List, [], ◌∷◌, length, Bool, true, false, not, ◌&&◌, nat_le, Option, Some, IsSome, ⊤}
use Rattle.std.specs.Option.{option_map_or, option_and_then}
use Rattle.std.specs.List.{AllByRecursion, list_all}
use Rattle.graph_nodes.specs.Graph.{Graph}
use Rattle.stacks_vars.specs.declared.scopes.NodeAt.{NodeAt}
use Rattle.stacks_vars.specs.declared.patterns.ScopePat.{ScopePat}
use Rattle.stacks_vars.specs.declared.patterns.SymPat.{SymPat}
use Rattle.stacks_vars.specs.declared.patterns.Pre.{Pre}
use Rattle.partial_path.specs.declared.config.Config.{Config}
use Rattle.partial_path.specs.declared.rule.Start.{Start}
use Rattle.partial_path.specs.declared.rule.Start.TheVariants.{Before, After}
use Rattle.partial_path.specs.declared.rule.End.{End}
use Rattle.partial_path.specs.declared.rule.End.TheVariants as end
use Rattle.partial_path.specs.Rules.{Rule, IsRule}
use Rattle.partial_path.specs.Apply.{apply, height}
use Rattle.partial_path.specs.Moved.{moved, moved_start}
use Rattle.partial_path.specs.PathSets.{FileRules}
use Rattle.partial_path.specs.Cutting.{IsStoredIn, path_edges, heights}
use Rattle.back_stitch.specs.Cuts.{is_exported_of}
use Rattle.back_stitch.specs.Lists.{most_edges, most_depth}

-- the stored paths applied one after the other
abbrev pub follow_all : List (ℕ × Rule) → Config → Option Config
follow_all [] c = Some c
follow_all (p ∷ paths) c = option_and_then (follow_all paths) (apply (moved p.0 p.1) c)

-- the start is behind a spot, and not before a reference
abbrev pub is_after : Start → Bool
is_after (Before node) = false
is_after (After spot) = true

-- each path but the first begins behind a spot
abbrev pub AreJoints : List (ℕ × Rule) → Type 0
AreJoints [] = ⊤
AreJoints (p ∷ []) = ⊤
AreJoints (p ∷ q ∷ paths) = (is_after q.1.start ≡ true) × AreJoints (q ∷ paths)

-- the first of them begins there
abbrev pub BeginAt : Start → List (ℕ × Rule) → Type 0
BeginAt start [] = ⊥
BeginAt start (p ∷ paths) = start ≡ moved_start p.0 p.1.start

-- the rule does what the stored paths do, one after the other, and is as high where it applies
pub record IsJoined (files : List FileRules) (paths : List (ℕ × Rule)) (j : Rule) : Type 0 where
  pub stored : AllByRecursion (IsStoredIn files) paths
  pub begins : BeginAt j.start paths
  pub joints : AreJoints paths
  pub edges : j.edges ≡ path_edges paths
  pub applies : (c : Config) → apply j c ≡ follow_all paths c
  pub high : (c : Config) → IsSome (apply j c) → height j c ≡ heights c paths
  pub rule : IsRule j

-- whether the node is an exported scope; whether all scopes are that a symbol is asked for with, and a stack
abbrev pub is_exported_node : List Graph → NodeAt → Bool
is_exported_node files node = is_exported_of files node.file node.node

abbrev pub asks_exported : List Graph → SymPat → Bool
asks_exported files pat = option_map_or (λ (s : ScopePat). list_all (is_exported_node files) s.fixed) pat.scopes true

abbrev pub all_exported : List Graph → Pre → Bool
all_exported files pre = list_all (asks_exported files) pre.symbols && list_all (is_exported_node files) pre.scopes.fixed

-- whether there are none
abbrev pub is_none : {X : Type 0} → List X → Bool
is_none [] = true
is_none (x ∷ xs) = false

-- whether the path ends at one spot wherever it applies: it doesn't end by the stack, or makes a scope in front
abbrev pub is_certain : End → List NodeAt → Bool
is_certain (end.At at) made = true
is_certain end.ByStack made = not (is_none made)

-- whether the rule, which leads to a definition, stands for a back list: it leaves no symbols, is short and low enough,
-- and asks for no scopes but exported ones
abbrev pub is_kept : List Graph → Rule → Bool
is_kept files j =
    is_none j.post.symbols && (nat_le (length j.edges) most_edges && (nat_le j.peak most_depth && (all_exported files j.pre && is_certain j.end j.post.scopes.scopes)))
