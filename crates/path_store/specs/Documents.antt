-- What a document is, and which digest it has.
use Rattle.std.specs.Prelude.{ℕ, Bool, List, ◌∷◌, ◌++◌, ◌&&◌}
use Rattle.std.specs.Str.{bytes_eq}
use Rattle.sha2.specs.Sha256.{sha256}

-- a document: the bytes of its path, and its own
pub record Doc : Type 0 where
  pub path : List ℕ
  pub bytes : List ℕ

-- the document at that path with those bytes
abbrev pub doc_of : List ℕ → List ℕ → Doc
doc_of path bytes = record { path = path; bytes = bytes }

-- what is digested of a document: the bytes of its path, a zero byte and its own bytes
abbrev pub message_of : Doc → List ℕ
message_of doc = doc.path ++ 0 ∷ doc.bytes

-- the digest of a document
unfoldable pub digest_of : Doc → List ℕ
digest_of doc = sha256 (message_of doc)

-- whether two documents have one path and the same bytes
abbrev pub same_doc : Doc → Doc → Bool
same_doc a b = bytes_eq a.path b.path && bytes_eq a.bytes b.bytes
