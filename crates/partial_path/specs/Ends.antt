-- Which paths of a file end outside it, and how a table of the file tells them.
use Rattle.std.specs.Prelude.{◌≡◌, ℕ, ◌+◌, List, [], ◌∷◌, ◌++◌, Bool, true, false, if◌then◌else◌}
use Rattle.stacks_vars.specs.declared.scopes.NodeAt.{NodeAt}
use Rattle.partial_path.specs.declared.config.Spot.TheVariants as spot
use Rattle.partial_path.specs.declared.rule.End.{End}
use Rattle.partial_path.specs.declared.rule.End.TheVariants as end
use Rattle.partial_path.specs.declared.end_table.EndMark.{EndMark}
use Rattle.partial_path.specs.Rules.{Rule}
use Rattle.partial_path.specs.Marks.{made_key}

-- whether a path with this end ends at the root, and whether one that makes these scopes ends by the stack and makes none
abbrev pub is_root_end : End → Bool
is_root_end (end.At spot.Root) = true
is_root_end (end.At (spot.At node)) = false
is_root_end end.ByStack = false

abbrev pub is_stack_end : End → List NodeAt → Bool
is_stack_end (end.At there) made = false
is_stack_end end.ByStack (scope ∷ made) = false
is_stack_end end.ByStack [] = true

-- the same of a path
abbrev pub ends_at_root : Rule → Bool
ends_at_root rule = is_root_end rule.end

abbrev pub ends_by_stack : Rule → Bool
ends_by_stack rule = is_stack_end rule.end rule.post.scopes.scopes

-- the path at that place of its file, by the key of what it makes
abbrev pub end_mark : ℕ → Rule → EndMark
end_mark place rule = record { key = made_key rule.post.symbols; place = place }

-- those among the rules that pass, of which the first has that place
abbrev pub end_marks : (Rule → Bool) → ℕ → List Rule → List EndMark
end_marks passes place [] = []
end_marks passes place (rule ∷ rules) =
    (if passes rule then end_mark place rule ∷ [] else []) ++ end_marks passes (place + 1) rules

-- the marks tell of all rules those that end at the root, and the others those that end by the stack and make no scope
pub record AreEndMarks (rules : List Rule) (marks others : List EndMark) : Type 0 where
  pub root : marks ≡ end_marks ends_at_root 0 rules
  pub stack : others ≡ end_marks ends_by_stack 0 rules
