-- Laws of the replies.
use Rattle.std.specs.Prelude.{◌≡◌, ℕ, List, Result}
use Rattle.partial_path.specs.declared.bounds.Bounds.{Bounds}
use Rattle.version_tree.specs.declared.row.Answer.{Answer}
use Rattle.version_tree.specs.declared.row.Row.{Row}
use Rattle.version_tree.specs.Graphs.{GraphRow}
use Rattle.nav_answers.specs.declared.found.At.{At}
use Rattle.nav_answers.specs.declared.found.AskFault.{AskFault}
use Rattle.nav_answers.specs.Replies.{IsDefineReply, IsReferencesReply}
use Rattle.nav_answers.specs.Callers.{IsCallersReply}

-- two replies to one query over equal lists of files are equal
abbrev pub OneReply : (Bounds → List GraphRow → List ℕ → At → Result Answer AskFault → Type 0) → Type 0
OneReply IsReply =
    (bounds : Bounds) (rows others : List GraphRow) (path : List ℕ) (at : At) (a b : Result Answer AskFault)
    → rows ≡ others → IsReply bounds rows path at a → IsReply bounds others path at b → a ≡ b

-- so it is of both queries
pub record QueriesHaveOneReply : Type 0 where
  pub define : OneReply IsDefineReply
  pub references : OneReply IsReferencesReply

-- and of the question who calls
abbrev pub CallersHaveOneReply : Type 0
CallersHaveOneReply =
    (rows others : List GraphRow) (path : List ℕ) (at : At) (a b : Result (List Row) AskFault)
    → rows ≡ others → IsCallersReply rows path at a → IsCallersReply others path at b → a ≡ b
