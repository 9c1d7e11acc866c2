-- Which node the line of `once` asks for, or the line's fault.
use Rattle.std.specs.Prelude.{ℕ, List, [], ◌∷◌, Option, option_and_then, Result, ok_or, codes}
use Rattle.serde_json.specs.Data.{Data}
use Rattle.serde_json.specs.Find.{get}
use Rattle.json_values.specs.Text.{json_of}
use Rattle.json_values.specs.Numbers.{only_if, u32_of}
use Rattle.json_values.specs.Members.{is_among, has_only}
use Rattle.nav_proto.specs.declared.proto_fault.ProtoFault.{ProtoFault}
use Rattle.nav_proto.specs.declared.proto_fault.ProtoFault.TheVariants.{BadJson, BadRequest}
use Rattle.nav_proto.specs.Members.{◌>>=◌}

-- the node that a value asks for: an object whose one member `node` is a number of 32 bits
unfoldable pub node_of : Data → Option ℕ
node_of d =
    option_and_then (λ node. only_if (has_only (is_among (codes "node" ∷ [])) d) node)
    (option_and_then u32_of (get (codes "node") d))

-- the node that a line asks for, or its fault
unfoldable pub node_from : List ℕ → Result ℕ ProtoFault
node_from line = do
  value ← ok_or (json_of line) BadJson
  ok_or (node_of value) (BadRequest (codes "node"))
