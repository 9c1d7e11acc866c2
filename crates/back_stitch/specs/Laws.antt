-- Laws of back lists.
use Rattle.std.specs.Prelude.{◌↔◌, List, IsTrue}
use Rattle.graph_nodes.specs.Graph.{Graph}
use Rattle.graph_nodes.specs.Whole.{is_definition_of}
use Rattle.stacks_vars.specs.declared.scopes.NodeAt.{NodeAt}
use Rattle.back_stitch.specs.Lists.{BeginsList, Reaches}

-- a reference begins a back list of a definition, on empty stacks, exactly where a bounded complete run leads from it to
-- the definition: a round between equal configurations can be cut out
abbrev pub RoundsCanBeCut : Type 0
RoundsCanBeCut = (files : List Graph) (d r : NodeAt) → IsTrue (is_definition_of files d.file d.node) → BeginsList files d r ↔ Reaches files d r
