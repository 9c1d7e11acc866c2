-- From which configurations nothing is reached. No public clause cites this.
use Rattle.std.specs.Prelude.{◌≡◌, ◌≢◌, false, List, [], Some, IsSome, IsTrue}
use Rattle.graph_nodes.specs.Graph.{Graph}
use Rattle.partial_path.specs.declared.config.Config.{Config}
use Rattle.partial_path.specs.declared.config.EdgeAt.{EdgeAt}
use Rattle.partial_path.specs.Step.{step, is_cut_edge}
use Rattle.partial_path.specs.Runs.{run}
use Rattle.whole_search.specs.Walk.{lands, is_at_definition}

-- a dead end: no run from here lands, however the configuration was reached
pub record IsDeadEnd (files : List Graph) (at : Config) : Type 0 where
  pub lands_nowhere : (es : List EdgeAt) → es ≢ [] → IsSome (run files at es)
      → IsTrue (lands files at es) → ⊥

-- the edge that led here isn't cut, and here is neither a result nor a way to anything that lands
pub record IsRefusedAt (files : List Graph) (e : EdgeAt) (next : Config) : Type 0 where
  pub uncut : is_cut_edge files e ≡ false
  pub no_result : is_at_definition files next ≡ false
  pub dead_end : IsDeadEnd files next

-- where the edge can be followed from here, it leads to nothing
pub record LeadsNowhere (files : List Graph) (at : Config) (e : EdgeAt) : Type 0 where
  pub refused : (next : Config) → step files at e ≡ Some next → IsRefusedAt files e next
