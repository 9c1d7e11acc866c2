-- What a file's weight tells: whether the file is heavier than a limit. It has one weight.
use Rattle.std.proofs.Common.{◌≡◌, ◌≤◌, ℕ}
use Rattle.graph_nodes.specs.Graph.{Graph}
use Rattle.partial_path.specs.Walks.{IsWeight, IsHeavier}
use Rattle.file_paths.proofs.SumsLaws.{not_heavier, weight_once}

-- a file whose weight is within the limit isn't heavier
pub within_limit : (g : Graph) (weight limit : ℕ) → IsWeight g weight → weight ≤ limit → ¬ IsHeavier limit g
within_limit g weight limit is low = not_heavier g weight limit is low

pub one_weight : (g : Graph) (a b : ℕ) → IsWeight g a → IsWeight g b → a ≡ b
one_weight g a b h k = weight_once g a b h k
