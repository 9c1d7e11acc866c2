-- Which text a reply has: compact JSON, the members in the order of their names' bytes.
use Rattle.std.specs.Prelude.{◌≡◌, ℕ, List, [], ◌∷◌, length, codes, decimal}
use Rattle.std.specs.Char.{is_newline}
use Rattle.std.specs.List.{concat, position_or_len}
use Rattle.json.specs.Print.{quoted}
use Rattle.nav_proto.specs.Faults.{bad_file_text}
use Rattle.nav_proto.specs.Rows.{answer_text, callers_text}
use Rattle.nav_proto.specs.declared.reply.PlainError.{PlainError}
use Rattle.nav_proto.specs.declared.reply.PlainError.TheVariants.{BadJson, NoUser, Forbidden, Spent, NoFile, NoReference, NoDefinition, Crowded}
use Rattle.nav_proto.specs.declared.reply.Reply.{Reply}
use Rattle.nav_proto.specs.declared.reply.Reply.TheVariants.{Version, Done, Rows, Callers, Plain, BadRequest, Stale, Twice, AbsentFile, AbsentGrant, TooManyFiles, TooHeavy, BadFile}

-- the word of an error that carries nothing
abbrev pub plain_word : PlainError → List ℕ
plain_word BadJson = codes "bad_json"
plain_word NoUser = codes "no_user"
plain_word Forbidden = codes "forbidden"
plain_word Spent = codes "spent"
plain_word NoFile = codes "no_file"
plain_word NoReference = codes "no_reference"
plain_word NoDefinition = codes "no_definition"
plain_word Crowded = codes "crowded"

-- the text of a reply, without a newline
abbrev pub reply_text : Reply → List ℕ
reply_text (Version n) = concat (codes "{\"version\":" ∷ decimal n ∷ codes "}" ∷ [])
reply_text Done = codes "{\"ok\":true}"
reply_text (Rows a) = answer_text a
reply_text (Callers rows) = callers_text rows
reply_text (Plain e) = concat (codes "{\"error\":\"" ∷ plain_word e ∷ codes "\"}" ∷ [])
reply_text (BadRequest f) =
    concat (codes "{\"error\":\"bad_request\",\"field\":" ∷ quoted f ∷ codes "}" ∷ [])
reply_text (Stale n) = concat (codes "{\"error\":\"stale\",\"head\":" ∷ decimal n ∷ codes "}" ∷ [])
reply_text (Twice p) = concat (codes "{\"error\":\"twice\",\"path\":" ∷ quoted p ∷ codes "}" ∷ [])
reply_text (AbsentFile p) =
    concat (codes "{\"error\":\"absent\",\"path\":" ∷ quoted p ∷ codes "}" ∷ [])
reply_text (AbsentGrant u p) =
    concat (codes "{\"error\":\"absent\",\"prefix\":" ∷ quoted p ∷ codes ",\"user\":" ∷ quoted u
    ∷ codes "}" ∷ [])
reply_text (TooManyFiles n) =
    concat (codes "{\"error\":\"too_many_files\",\"files\":" ∷ decimal n ∷ codes "}" ∷ [])
reply_text (TooHeavy n) =
    concat (codes "{\"error\":\"too_heavy\",\"weight\":" ∷ decimal n ∷ codes "}" ∷ [])
reply_text (BadFile path fault) = bad_file_text path fault

-- no byte is a newline: the place of the first one would be the end
abbrev pub IsOneLine : List ℕ → Type 0
IsOneLine text = position_or_len is_newline text ≡ length text
