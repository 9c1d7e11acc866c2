-- Which request a line is, or its first fault: a function of the line's JSON value.
use Rattle.std.specs.Prelude.{ℕ, List, [], ◌∷◌, is_some, if◌then◌else◌, Some, None, option_map, Result, Ok, Err, ok_or, codes}
use Rattle.std.specs.Str.{bytes_eq}
use Rattle.serde_json.specs.Data.{Data}
use Rattle.serde_json.specs.Find.{get, as_str}
use Rattle.json_values.specs.Text.{json_of}
use Rattle.json_values.specs.Numbers.{number_between, u32_of}
use Rattle.partial_path.specs.declared.bounds.Bounds.{Bounds}
use Rattle.partial_path.specs.Limits.{max_edges, max_depth}
use Rattle.nav_proto.specs.declared.request.Request.{Request}
use Rattle.nav_proto.specs.declared.request.Request.TheVariants.{Hello, Pin, Commit, Grant, Revoke, Deny, Undeny, Define, References, Callers, Quit}
use Rattle.nav_proto.specs.declared.request.Point.{Point}
use Rattle.nav_proto.specs.declared.request.Point.TheVariants.{Node, LineColumn}
use Rattle.nav_proto.specs.declared.proto_fault.ProtoFault.{ProtoFault}
use Rattle.nav_proto.specs.declared.proto_fault.ProtoFault.TheVariants.{BadJson, BadRequest}
use Rattle.nav_proto.specs.Texts.{is_path, is_prefix, is_user, text_of}
use Rattle.nav_proto.specs.Members.{◌>>=◌, field, optional_field, with_only}
use Rattle.nav_proto.specs.Edits.{edits_of}

-- `hello`
unfoldable pub hello_of : Data → Result Request ProtoFault
hello_of d = do
  user ← field (codes "user") (text_of is_user) d
  with_only (codes "do" ∷ codes "user" ∷ []) d (Hello user)

-- a request with no further members: `pin`, `quit`
abbrev pub bare_of : Request → Data → Result Request ProtoFault
bare_of request d = with_only (codes "do" ∷ []) d request

-- `commit`
unfoldable pub commit_of : Data → Result Request ProtoFault
commit_of d = do
  base ← optional_field (codes "base") (λ v. option_map Some (u32_of v)) None d
  edits ← field (codes "edits") edits_of d
  with_only (codes "do" ∷ codes "base" ∷ codes "edits" ∷ []) d (Commit base edits)

-- `grant`, `revoke`, `deny`, `undeny`: a user and a prefix
unfoldable pub rule_in : Data → Result (List ℕ × List ℕ) ProtoFault
rule_in d = do
  user ← field (codes "user") (text_of is_user) d
  prefix ← field (codes "prefix") (text_of is_prefix) d
  with_only (codes "do" ∷ codes "user" ∷ codes "prefix" ∷ []) d (user, prefix)

-- the request that is made of such a user and prefix
abbrev pub rule_of : (List ℕ → List ℕ → Request) → Data → Result Request ProtoFault
rule_of make d = rule_in d >>= (λ r. Ok (make r.0 r.1))

-- where a query stands: a node, where that member is present, else a line and a column
unfoldable pub node_point : Data → Result Point ProtoFault
node_point d = do
  node ← field (codes "node") u32_of d
  Ok (Node node)

-- a line and a column
unfoldable pub place_point : Data → Result Point ProtoFault
place_point d = do
  line ← field (codes "line") u32_of d
  column ← field (codes "column") u32_of d
  Ok (LineColumn line column)

-- the node, where the object has that member, else the line and column
abbrev pub point_of : Data → Result Point ProtoFault
point_of d = if is_some (get (codes "node") d) then node_point d else place_point d

-- the members that a query may have
abbrev pub query_names : Data → List (List ℕ)
query_names d =
    if is_some (get (codes "node") d)
    then codes "do" ∷ codes "path" ∷ codes "node" ∷ codes "edges" ∷ codes "depth" ∷ []
    else codes "do" ∷ codes "path" ∷ codes "line" ∷ codes "column"
    ∷ codes "edges" ∷ codes "depth" ∷ []

-- the bounds of a query: 1 to 512 edges and 1 to 96 symbols, where absent 128 and 48
unfoldable pub bounds_of : Data → Result Bounds ProtoFault
bounds_of d = do
  edges ← optional_field (codes "edges") (number_between 1 max_edges) 128 d
  depth ← optional_field (codes "depth") (number_between 1 max_depth) 48 d
  Ok (record { edges = edges; depth = depth })

-- `define`, `references`: a path, where in it, and the bounds
unfoldable pub query_in : Data → Result (List ℕ × (Point × Bounds)) ProtoFault
query_in d = do
  path ← field (codes "path") (text_of is_path) d
  point ← point_of d
  bounds ← bounds_of d
  with_only (query_names d) d (path, (point, bounds))

-- the members that `callers` may have: those of a query but the bounds
abbrev pub callers_names : Data → List (List ℕ)
callers_names d =
    if is_some (get (codes "node") d)
    then codes "do" ∷ codes "path" ∷ codes "node" ∷ []
    else codes "do" ∷ codes "path" ∷ codes "line" ∷ codes "column" ∷ []

-- `callers`: a path and where in it
unfoldable pub callers_of : Data → Result Request ProtoFault
callers_of d = do
  path ← field (codes "path") (text_of is_path) d
  point ← point_of d
  with_only (callers_names d) d (Callers path point)

-- the request that is made of such a path, place and bounds
abbrev pub query_of : (List ℕ → Point → Bounds → Request) → Data → Result Request ProtoFault
query_of make d = query_in d >>= (λ q. Ok (make q.0 q.1.0 q.1.1))

-- the form for that word in the member `do`
unfoldable pub form_of : List ℕ → Data → Result Request ProtoFault
form_of word d =
    if bytes_eq word (codes "hello") then hello_of d else
    (if bytes_eq word (codes "pin") then bare_of Pin d else
    (if bytes_eq word (codes "commit") then commit_of d else
    (if bytes_eq word (codes "grant") then rule_of Grant d else
    (if bytes_eq word (codes "revoke") then rule_of Revoke d else
    (if bytes_eq word (codes "deny") then rule_of Deny d else
    (if bytes_eq word (codes "undeny") then rule_of Undeny d else
    (if bytes_eq word (codes "define") then query_of Define d else
    (if bytes_eq word (codes "references") then query_of References d else
    (if bytes_eq word (codes "callers") then callers_of d else
    (if bytes_eq word (codes "quit") then bare_of Quit d else
    Err (BadRequest (codes "do"))))))))))))

-- the request of a value
unfoldable pub request_of : Data → Result Request ProtoFault
request_of d = do
  word ← field (codes "do") as_str d
  form_of word d

-- the request of a line
unfoldable pub request_from : List ℕ → Result Request ProtoFault
request_from line = do
  value ← ok_or (json_of line) BadJson
  request_of value
