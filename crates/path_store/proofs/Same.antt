-- When two documents are one.
use Rattle.std.specs.Prelude.{true}
use Rattle.std.specs.Str.{bytes_eq}
use Rattle.std.proofs.Common.{◌≡◌}
use Rattle.std.proofs.lemmas.Bool.{and_parts}
use Rattle.std.proofs.lemmas.Slice.Eq.{bytes_eq-Decides}
use Rattle.path_store.specs.Documents.{Doc, same_doc}
use Rattle.path_store.proofs.Filed.{doc_path}

pub same_is : (a b : Doc) → same_doc a b ≡ true → a ≡ b
same_is a b h =
    let parts = and_parts (bytes_eq a.path b.path) (bytes_eq a.bytes b.bytes) h in
    doc_path a b ((bytes_eq-Decides a.path b.path).0 parts.0) ((bytes_eq-Decides a.bytes b.bytes).0 parts.1)
