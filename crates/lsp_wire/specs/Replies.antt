-- Which text a reply has: compact JSON, the members in the order of their names' bytes.
use Rattle.std.specs.Prelude.{ℕ, ℤ, List, [], ◌∷◌, ◌++◌, flat_map, Option, None, Some, codes, decimal}
use Rattle.std.specs.Fmt.{signed_decimal}
use Rattle.std.specs.List.{concat}
use Rattle.json.specs.Print.{quoted}
use Rattle.lsp_wire.specs.declared.message.Id.{Id}
use Rattle.lsp_wire.specs.declared.message.Id.TheVariants.{Text, Number}
use Rattle.lsp_wire.specs.declared.message.Position.{Position}
use Rattle.lsp_wire.specs.declared.reply.Location.{Location}
use Rattle.lsp_wire.specs.declared.reply.Refusal.{Refusal}
use Rattle.lsp_wire.specs.declared.reply.Refusal.TheVariants.{ParseError, InvalidRequest, NotInitialized, MethodNotFound, InvalidParams, Crowded}
use Rattle.lsp_wire.specs.declared.reply.Outcome.{Outcome}
use Rattle.lsp_wire.specs.declared.reply.Outcome.TheVariants.{Capabilities, Null, Locations, Refused}
use Rattle.lsp_wire.specs.declared.reply.Reply.{Reply}

-- an id, `null` where there is none
abbrev pub id_text : Option Id → List ℕ
id_text None = codes "null"
id_text (Some (Text name)) = quoted name
id_text (Some (Number n)) = signed_decimal n

-- the code and the message of a refusal
abbrev pub refusal_text : Refusal → List ℕ
refusal_text ParseError = codes "{\"code\":-32700,\"message\":\"parse error\"}"
refusal_text InvalidRequest = codes "{\"code\":-32600,\"message\":\"invalid request\"}"
refusal_text NotInitialized = codes "{\"code\":-32002,\"message\":\"not initialized\"}"
refusal_text MethodNotFound = codes "{\"code\":-32601,\"message\":\"method not found\"}"
refusal_text InvalidParams = codes "{\"code\":-32602,\"message\":\"invalid params\"}"
refusal_text Crowded = codes "{\"code\":1,\"message\":\"crowded\"}"

-- a place in a text
abbrev pub position_text : Position → List ℕ
position_text p =
    concat (codes "{\"character\":" ∷ decimal p.character ∷ codes ",\"line\":" ∷ decimal p.line
    ∷ codes "}" ∷ [])

-- a part of a document
abbrev pub location_text : Location → List ℕ
location_text l =
    concat (codes "{\"range\":{\"end\":" ∷ position_text l.end ∷ codes ",\"start\":"
    ∷ position_text l.start ∷ codes "},\"uri\":" ∷ quoted l.uri ∷ codes "}" ∷ [])

-- a location after another one
abbrev pub next_text : Location → List ℕ
next_text l = codes "," ++ location_text l

-- locations with a comma between each and the next
abbrev pub locations_text : List Location → List ℕ
locations_text [] = []
locations_text (l ∷ ls) = location_text l ++ flat_map next_text ls

-- a result
abbrev pub result_text : List ℕ → List ℕ → List ℕ
result_text id result =
    concat (codes "{\"id\":" ∷ id ∷ codes ",\"jsonrpc\":\"2.0\",\"result\":" ∷ result
    ∷ codes "}" ∷ [])

-- a result that is a list
abbrev pub list_text : List ℕ → List ℕ → List ℕ
list_text id list =
    concat (codes "{\"id\":" ∷ id ∷ codes ",\"jsonrpc\":\"2.0\",\"result\":[" ∷ list
    ∷ codes "]}" ∷ [])

-- an error
abbrev pub error_text : List ℕ → List ℕ → List ℕ
error_text id refusal =
    concat (codes "{\"error\":" ∷ refusal ∷ codes ",\"id\":" ∷ id
    ∷ codes ",\"jsonrpc\":\"2.0\"}" ∷ [])

-- what a server can do: definitions, references, and documents sent whole with each change
abbrev pub capabilities_text : List ℕ
capabilities_text =
    codes "{\"capabilities\":{\"definitionProvider\":true,\"referencesProvider\":true,\"textDocumentSync\":1}}"

-- the text of an outcome of a message with this id
abbrev pub outcome_text : List ℕ → Outcome → List ℕ
outcome_text id Capabilities = result_text id capabilities_text
outcome_text id Null = result_text id (codes "null")
outcome_text id (Locations ls) = list_text id (locations_text ls)
outcome_text id (Refused refusal) = error_text id (refusal_text refusal)

-- the text of a reply
abbrev pub reply_text : Reply → List ℕ
reply_text r = outcome_text (id_text r.id) r.outcome
