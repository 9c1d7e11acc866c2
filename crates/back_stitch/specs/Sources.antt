-- What a source for joining backward holds: the path sets of a list of files, from which rules are asked for by where
-- they may end.
use Rattle.std.specs.Prelude.{ℕ, ◌+◌, List, [], ◌∷◌, ◌++◌, map, filter, Bool, true, false, ◌&&◌, IsTrue}
use Rattle.std.specs.Str.{bytes_eq}
use Rattle.list_facts.specs.Members.{IsIn}
use Rattle.list_facts.specs.Apart.{IsApart}
use Rattle.graph_nodes.specs.Graph.{Graph}
use Rattle.stacks_vars.specs.declared.scopes.NodeAt.{NodeAt}
use Rattle.stacks_vars.specs.declared.patterns.SymOut.{SymOut}
use Rattle.stacks_vars.specs.declared.patterns.SymPat.{SymPat}
use Rattle.partial_path.specs.declared.config.Spot.{Spot}
use Rattle.partial_path.specs.declared.config.Spot.TheVariants as spot
use Rattle.partial_path.specs.declared.rule.End.{End}
use Rattle.partial_path.specs.declared.rule.End.TheVariants as end
use Rattle.partial_path.specs.Same.{spot_eq}
use Rattle.partial_path.specs.Rules.{Rule}
use Rattle.partial_path.specs.Moved.{moved}
use Rattle.partial_path.specs.PathSets.{FileRules}
use Rattle.partial_path.specs.Sources.{graphs_of, numbered}
use Rattle.back_stitch.specs.Cuts.{is_exported_of}

-- whether the spot is an exported scope of the files
abbrev pub is_exported_spot : List Graph → Spot → Bool
is_exported_spot files spot.Root = false
is_exported_spot files (spot.At node) = is_exported_of files node.file node.node

-- whether a path with this end that makes these scopes may end at the spot: at the spot that its end names; by the
-- stack at the first scope that it makes, and where it makes none at any exported scope
abbrev pub may_end : List Graph → Spot → End → List NodeAt → Bool
may_end files at (end.At there) made = spot_eq there at
may_end files at end.ByStack (scope ∷ made) = spot_eq (spot.At scope) at
may_end files at end.ByStack [] = is_exported_spot files at

-- whether the rule, which was moved to its file, may end there
abbrev pub may_end_at : List Graph → Spot → Rule → Bool
may_end_at files at rule = may_end files at rule.end rule.post.scopes.scopes

-- the rules of the file with that number which may end there, in their order
abbrev pub rules_to_in : List Graph → ℕ → FileRules → Spot → List (ℕ × Rule)
rules_to_in graphs file f at = map (numbered file) (filter (λ (rule : Rule). may_end_at graphs at (moved file rule)) f.rules)

-- the same of files of which the first has that number
abbrev pub rules_to_after : List Graph → ℕ → List FileRules → Spot → List (ℕ × Rule)
rules_to_after graphs file [] at = []
rules_to_after graphs file (f ∷ files) at = rules_to_in graphs file f at ++ rules_to_after graphs (file + 1) files at

-- the rules that may end there, by file and then by place
abbrev pub rules_to : List FileRules → Spot → List (ℕ × Rule)
rules_to files at = rules_to_after (graphs_of files) 0 files at

-- whether the symbols that a path makes have the texts of the first of those that the next one asks for, one by one: where
-- it makes more, the next one leaves some
abbrev pub agrees : List SymPat → List SymOut → Bool
agrees [] [] = true
agrees [] (out ∷ made) = false
agrees (pat ∷ pats) [] = true
agrees (pat ∷ pats) (out ∷ made) = bytes_eq pat.symbol out.symbol && agrees pats made

-- rules that may end there, of those whose symbols agree with the ones asked for none left out, and none twice
pub record AreEnds (files : List FileRules) (at : Spot) (symbols : List SymPat) (given : List (ℕ × Rule)) : Type 0 where
  pub sound : (p : ℕ × Rule) → IsIn p given → IsIn p (rules_to files at)
  pub complete : (p : ℕ × Rule) → IsIn p (rules_to files at) → IsTrue (agrees symbols p.1.post.symbols) → IsIn p given
  pub apart : IsApart (rules_to files at) → IsApart given
