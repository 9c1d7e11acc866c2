-- Going over all paths for those that may end at a spot, file by file.
use Rattle.std.proofs.Common.{◌≡◌, ◌≤◌, sym, ap, ◌∙◌, ℕ, ◌+◌, List, ◌++◌, map, filter, drop, length, Bool, Some, None, slice_get, drop_of_length-le}
use Rattle.graph_nodes.specs.Graph.{Graph}
use Rattle.partial_path.specs.declared.config.Spot.{Spot}
use Rattle.partial_path.specs.Rules.{Rule}
use Rattle.partial_path.specs.Moved.{moved}
use Rattle.partial_path.specs.PathSets.{FileRules}
use Rattle.partial_path.specs.Sources.{numbered}
use Rattle.partial_path.proofs.Asking.{get_here, get_behind}
use Rattle.back_stitch.specs.Sources.{may_end_at, rules_to_after}
use Rattle.end_index.proofs.Places.{file_first}

module _ (graphs : List Graph) (at : Spot) where
  -- whether a path of the file with that number may end there
  abbrev pub may_in : ℕ → Rule → Bool
  may_in n rule = may_end_at graphs at (moved n rule)

  split : (files : List FileRules) (n : ℕ) (f : FileRules) (run : List Rule) → slice_get files n ≡ Some f → run ≡ f.rules
      → rules_to_after graphs n (drop n files) at ≡ map (numbered n) (filter (may_in n) run) ++ rules_to_after graphs (n + 1) (drop (n + 1) files) at
  split files n f run found same =
      ap (λ (fs : List FileRules). rules_to_after graphs n fs at) (file_first files n f found)
      ∙ ap (λ (rs : List Rule). map (numbered n) (filter (may_in n) rs) ++ rules_to_after graphs (n + 1) (drop (n + 1) files) at) (sym same)

  pub to_found : (files : List FileRules) (n : ℕ) (f : FileRules) (run : List Rule) (left : ℕ) (rule : Rule) → slice_get files n ≡ Some f → run ≡ f.rules
      → Some rule ≡ slice_get (filter (may_in n) run) left → slice_get (rules_to_after graphs n (drop n files) at) left ≡ Some (n, rule)
  to_found files n f run left rule found same is =
      ap (λ (rs : List (ℕ × Rule)). slice_get rs left) (split files n f run found same)
      ∙ get_here (numbered n) (filter (may_in n) run) (rules_to_after graphs (n + 1) (drop (n + 1) files) at) left rule is

  pub to_passed : (files : List FileRules) (n : ℕ) (f : FileRules) (run : List Rule) (left less : ℕ) → slice_get files n ≡ Some f → run ≡ f.rules
      → less + length (filter (may_in n) run) ≡ left
      → slice_get (rules_to_after graphs n (drop n files) at) left ≡ slice_get (rules_to_after graphs (n + 1) (drop (n + 1) files) at) less
  to_passed files n f run left less found same passed =
      ap (λ (rs : List (ℕ × Rule)). slice_get rs left) (split files n f run found same)
      ∙ get_behind (numbered n) (filter (may_in n) run) (rules_to_after graphs (n + 1) (drop (n + 1) files) at) left less passed

  pub to_none : (files : List FileRules) (n left : ℕ) → length files ≤ n → slice_get (rules_to_after graphs n (drop n files) at) left ≡ None
  to_none files n left h = ap (λ (fs : List FileRules). slice_get (rules_to_after graphs n fs at) left) (drop_of_length-le files h)
