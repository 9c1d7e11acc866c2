use Rattle.std.proofs.Common.{map, take}
use Rattle.serde_json.specs.View.{view}
use Rattle.graph_json.specs.Named.{names_of}
use Rattle.graph_json.specs.Numbering.{IsNumbering}
use Rattle.graph_json.proofs.names.number_all.Given as goal

abbrev pub invariant-loop-i : goal.invariant-loop-i
invariant-loop-i l = IsNumbering (names_of (map view (take l.i l.nodes))) l.firsts
