-- What the body of a frame is: no message, or what a client asks for.
use Rattle.std.specs.Prelude.{ℕ, Bool, List, [], ◌∷◌, is_some, if◌then◌else◌, unwrap_or, Option, None, Some, option_and_then, option_map, codes}
use Rattle.std.specs.Str.{bytes_eq}
use Rattle.serde_json.specs.Data.{Data, null}
use Rattle.serde_json.specs.Find.{get, as_bool, as_object, as_str}
use Rattle.json_values.specs.Text.{json_of}
use Rattle.json_values.specs.Lists.{list_of}
use Rattle.lsp_wire.specs.declared.message.Id.{Id}
use Rattle.lsp_wire.specs.declared.message.Method.{Method}
use Rattle.lsp_wire.specs.declared.message.Method.TheVariants as method
use Rattle.lsp_wire.specs.declared.message.Asks.{Asks}
use Rattle.lsp_wire.specs.declared.message.Asks.TheVariants.{Initialize, Initialized, Shutdown, Exit, DidOpen, DidChange, DidClose, Definition, References, Unknown, WrongParams}
use Rattle.lsp_wire.specs.declared.message.Message.{Message}
use Rattle.lsp_wire.specs.declared.message.Body.{Body}
use Rattle.lsp_wire.specs.declared.message.Body.TheVariants as body
use Rattle.lsp_wire.specs.Members.{◌>>=◌, member, id_of, position_of, uri_in}

-- the method of a name
unfoldable pub method_of : List ℕ → Option Method
method_of name =
    if bytes_eq name (codes "initialize") then Some method.Initialize else
    (if bytes_eq name (codes "initialized") then Some method.Initialized else
    (if bytes_eq name (codes "shutdown") then Some method.Shutdown else
    (if bytes_eq name (codes "exit") then Some method.Exit else
    (if bytes_eq name (codes "textDocument/didOpen") then Some method.DidOpen else
    (if bytes_eq name (codes "textDocument/didChange") then Some method.DidChange else
    (if bytes_eq name (codes "textDocument/didClose") then Some method.DidClose else
    (if bytes_eq name (codes "textDocument/definition") then Some method.Definition else
    (if bytes_eq name (codes "textDocument/references") then Some method.References
    else None))))))))

-- a document is opened: its URI and its text
unfoldable pub opened : Data → Option Asks
opened params = do
  uri ← uri_in params
  text ← member (codes "textDocument") (member (codes "text") as_str) params
  Some (DidOpen uri text)

-- a change of a document: all its text anew, with no range
abbrev pub change_of : Data → Option (List ℕ)
change_of d = if is_some (get (codes "range") d) then None else member (codes "text") as_str d

-- the text after changes, where `last` is the one before them that counts: that of the last, where each is a change
abbrev pub text_after : Option (List ℕ) → List Data → Option (Option (List ℕ))
text_after last [] = Some last
text_after last (d ∷ ds) = option_and_then (λ text. text_after (Some text) ds) (change_of d)

-- a document is changed: its URI and the text that the last change leaves, if there is a change
unfoldable pub changed : Data → Option Asks
changed params = do
  uri ← uri_in params
  changes ← member (codes "contentChanges") list_of params
  text ← text_after None changes
  Some (DidChange uri text)

-- a document is closed
abbrev pub closed : Data → Option Asks
closed params = option_map DidClose (uri_in params)

-- the definitions of what stands there are asked for
unfoldable pub definition : Data → Option Asks
definition params = do
  uri ← uri_in params
  position ← member (codes "position") position_of params
  Some (Definition uri position)

-- the references, with or without the declaration
unfoldable pub references : Data → Option Asks
references params = do
  uri ← uri_in params
  position ← member (codes "position") position_of params
  declaration ← member (codes "context") (member (codes "includeDeclaration") as_bool) params
  Some (References uri position declaration)

-- what a method asks for with these parameters
abbrev pub asks_by : Method → Data → Asks
asks_by method.Initialize params = Initialize (member (codes "rootUri") as_str params)
asks_by method.Initialized params = Initialized
asks_by method.Shutdown params = Shutdown
asks_by method.Exit params = Exit
asks_by method.DidOpen params = unwrap_or (opened params) (WrongParams method.DidOpen)
asks_by method.DidChange params = unwrap_or (changed params) (WrongParams method.DidChange)
asks_by method.DidClose params = unwrap_or (closed params) (WrongParams method.DidClose)
asks_by method.Definition params = unwrap_or (definition params) (WrongParams method.Definition)
asks_by method.References params = unwrap_or (references params) (WrongParams method.References)

-- the same where the method may be another one
abbrev pub asks_of : Option Method → Data → Asks
asks_of None params = Unknown
asks_of (Some known) params = asks_by known params

-- the parameters of a message: where it has none they are `null`, which has no members
abbrev pub params_of : Data → Data
params_of d = unwrap_or (get (codes "params") d) null

-- the id of a message, which may have none
abbrev pub id_from : Option Data → Option (Option Id)
id_from None = Some None
id_from (Some d) = option_map Some (id_of d)

-- a message with this method, which may be an unknown one, if its name is a text
unfoldable pub message_with : Option (Option Method) → Data → Option Message
message_with named d = do
  method ← named
  id ← id_from (get (codes "id") d)
  Some (record { id = id; asks = asks_of method (params_of d) })

-- an object with this method, or none
abbrev pub body_with : Option Data → Data → Body
body_with None d = body.Passed
body_with (Some name) d =
    unwrap_or (option_map body.Message (message_with (option_map method_of (as_str name)) d))
    body.Invalid

-- what a value is
abbrev pub body_of : Data → Body
body_of d = if is_some (as_object d) then body_with (get (codes "method") d) d else body.Invalid

-- what the bytes of a body are
abbrev pub body_from : List ℕ → Body
body_from bytes = unwrap_or (option_map body_of (json_of bytes)) body.NotJson
