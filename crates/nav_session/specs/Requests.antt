-- What a request brings with it: documents, edits of a version, and the end of a session.
use Rattle.std.specs.Prelude.{ℕ, List, [], ◌∷◌, Bool, true, false, Result, Ok, Err, codes}
use Rattle.std.specs.Str.{bytes_eq}
use Rattle.partial_path.specs.PathSets.{FileRules}
use Rattle.path_store.specs.Documents.{Doc, doc_of}
use Rattle.version_tree.specs.declared.edit.Edit.{Edit}
use Rattle.version_tree.specs.declared.edit.Edit.TheVariants as edit
use Rattle.nav_answers.specs.declared.found.At.{At}
use Rattle.nav_answers.specs.declared.found.At.TheVariants as at
use Rattle.nav_proto.specs.declared.proto_fault.ProtoFault.{ProtoFault}
use Rattle.nav_proto.specs.declared.request.FileEdit.{FileEdit}
use Rattle.nav_proto.specs.declared.request.FileEdit.TheVariants.{Put, Remove}
use Rattle.nav_proto.specs.declared.request.Point.{Point}
use Rattle.nav_proto.specs.declared.request.Point.TheVariants.{Node, LineColumn}
use Rattle.nav_proto.specs.declared.request.Request.{Request}
use Rattle.nav_proto.specs.declared.request.Request.TheVariants as request
use Rattle.nav_proto.specs.Requests.{request_from}

-- the user that may change a version
abbrev pub is_operator : List ℕ → Bool
is_operator user = bytes_eq user (codes "operator")

-- the documents that a commit puts, in their order
abbrev pub docs_in : List FileEdit → List Doc
docs_in [] = []
docs_in (Put path text ∷ edits) = doc_of path text ∷ docs_in edits
docs_in (Remove path ∷ edits) = docs_in edits

-- the edits of a version that a commit asks for, where these are the files of its documents, in their order
abbrev pub edits_with : List FileEdit → List FileRules → List Edit
edits_with [] files = []
edits_with (Put path text ∷ edits) [] = []
edits_with (Put path text ∷ edits) (file ∷ files) = edit.Put path file ∷ edits_with edits files
edits_with (Remove path ∷ edits) files = edit.Remove path ∷ edits_with edits files

-- the documents that the request puts
abbrev pub docs_of_request : Request → List Doc
docs_of_request (request.Commit base edits) = docs_in edits
docs_of_request _ = []

-- those that a line puts, which are none where it is no commit
abbrev pub docs_of_read : Result Request ProtoFault → List Doc
docs_of_read (Ok request) = docs_of_request request
docs_of_read (Err fault) = []

-- the documents that the text of a line puts
abbrev pub docs_of_line : List ℕ → List Doc
docs_of_line line = docs_of_read (request_from line)

-- whether the request ends the session
abbrev pub quits : Request → Bool
quits request.Quit = true
quits _ = false

-- whether the line is an accepted `quit`
abbrev pub is_quit_read : Result Request ProtoFault → Bool
is_quit_read (Ok request) = quits request
is_quit_read (Err fault) = false

-- the same of the text of a line
abbrev pub is_quit : List ℕ → Bool
is_quit line = is_quit_read (request_from line)

-- where a query stands in its file
abbrev pub at_of : Point → At
at_of (Node n) = at.Node n
at_of (LineColumn line column) = at.Point line column
