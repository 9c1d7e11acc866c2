-- The counter rises by the number of walks that was noted.
use Rattle.std.proofs.Common.{◌≡◌, ◌+◌, ℕ, arith, Result, Ok, Err, OnOk}
use Rattle.graph_nodes.specs.Graph.{Graph}
use Rattle.file_paths.specs.Finds.{AddsWalks}
use Rattle.file_paths.proofs.enumerating.enumerate.Goals as goal

risen : {A B : Type 0} (r : Result A B) (g : Graph) (walks old new : ℕ) → OnOk r (AddsWalks g 0 walks) → new ≡ old + walks → OnOk r (AddsWalks g old new)
risen (Ok file) g walks old new adds e = let count = adds.2 in (adds.0, adds.1, omega (arith, count, e))
risen (Err fault) g walks old new adds e = tt

pub returns-clause-steps : goal.returns-clause-steps
returns-clause-steps g c = risen c.find_paths-found.result c.args.graph c.find_paths-found.new.walks c.args.steps.now c.add.new.self c.find_paths-found.ensures.walks c.add.ensures

pub returns-clause-fewer : goal.returns-clause-fewer
returns-clause-fewer g c = λ weight is. let few = c.find_paths-found.ensures.fewer weight is in omega (arith, few, c.add.ensures)
