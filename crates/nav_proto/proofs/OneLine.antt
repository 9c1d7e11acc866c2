-- The text of a reply has no newline.
use Rattle.std.proofs.Common.{ℕ, List, [], ◌∷◌, ◌++◌, Bool, true, false, Option, None, Some, codes, decimal, refl, flat_map}
use Rattle.json.specs.Print.{quoted}
use Rattle.graph_nodes.specs.declared.node.Span.{Span}
use Rattle.version_tree.specs.declared.row.Row.{Row}
use Rattle.version_tree.specs.declared.row.Answer.{Answer}
use Rattle.nav_proto.specs.declared.reply.FileError.{FileError}
use Rattle.nav_proto.specs.declared.reply.FileError.TheVariants.{Kind, Large, Json, Shape, TooManyNodes, TooManyEdges, BadEnd, JumpSource, BadScope, NotAscii, BadIndent, BadToken, Unsupported, Expected, TooDeep, BadName, Heavy, SameName, UnknownName}
use Rattle.nav_proto.specs.declared.reply.ShapePart.{ShapePart}
use Rattle.nav_proto.specs.declared.reply.ShapePart.TheVariants.{Top, Node, Edge}
use Rattle.nav_proto.specs.declared.reply.PlainError.{PlainError}
use Rattle.nav_proto.specs.declared.reply.PlainError.TheVariants.{BadJson, NoUser, Forbidden, Spent, NoFile, NoReference, NoDefinition, Crowded}
use Rattle.nav_proto.specs.declared.reply.Reply.{Reply}
use Rattle.nav_proto.specs.declared.reply.Reply.TheVariants.{Version, Done, Rows, Callers, Plain, BadRequest, Stale, Twice, AbsentFile, AbsentGrant, TooManyFiles, TooHeavy, BadFile}
use Rattle.nav_proto.specs.Faults.{fault_alone, number_first, number_inside, number_last, part_text, bad_file_text}
use Rattle.nav_proto.specs.Rows.{span_text, row_text, next_text, rows_text, flag_text, answer_text, callers_text}
use Rattle.nav_proto.specs.Replies.{plain_word, reply_text, IsOneLine}
use Rattle.nav_proto.proofs.Clean.{Clean, clean-append, clean-flat_map, clean-decimal, clean-quoted, position-clean}

-- a number or a quoted text, and then what is clean
number : (n : ℕ) (ys : List ℕ) → Clean ys → Clean (decimal n ++ ys)
number n ys = clean-append (decimal n) ys (clean-decimal n)

text : (xs ys : List ℕ) → Clean ys → Clean (quoted xs ++ ys)
text xs ys = clean-append (quoted xs) ys (clean-quoted xs)

alone : (fault path : List ℕ) → Clean fault → Clean (fault_alone fault path)
alone fault path f = clean-append fault _ f (text path _ refl)

first : (name : List ℕ) (n : ℕ) (fault path : List ℕ) → Clean name → Clean fault → Clean (number_first name n fault path)
first name n fault path m f = clean-append name _ m (number n _ (clean-append fault _ f (text path _ refl)))

inside : (name : List ℕ) (n : ℕ) (fault path : List ℕ) → Clean name → Clean fault → Clean (number_inside name n fault path)
inside name n fault path m f = clean-append fault _ f (clean-append name _ m (number n _ (text path _ refl)))

last : (name : List ℕ) (n : ℕ) (fault path : List ℕ) → Clean name → Clean fault → Clean (number_last name n fault path)
last name n fault path m f = clean-append fault _ f (text path _ (clean-append name _ m (number n _ refl)))

part : (fault path : List ℕ) (p : ShapePart) → Clean fault → Clean (part_text fault path p)
part fault path Top f = alone fault path f
part fault path (Node n) f = inside (codes "node") n fault path refl f
part fault path (Edge n) f = first (codes "edge") n fault path refl f

bad_file : (path : List ℕ) (fault : FileError) → Clean (bad_file_text path fault)
bad_file path Kind = alone (codes "kind") path refl
bad_file path (Large n) = first (codes "bytes") n (codes "large") path refl refl
bad_file path Json = alone (codes "json") path refl
bad_file path (Shape p) = part (codes "shape") path p refl
bad_file path (TooManyNodes n) = inside (codes "nodes") n (codes "too_many_nodes") path refl refl
bad_file path (TooManyEdges n) = first (codes "edges") n (codes "too_many_edges") path refl refl
bad_file path (BadEnd n) = first (codes "edge") n (codes "bad_end") path refl refl
bad_file path (JumpSource n) = first (codes "edge") n (codes "jump_source") path refl refl
bad_file path (BadScope n) = inside (codes "node") n (codes "bad_scope") path refl refl
bad_file path (NotAscii n) = inside (codes "line") n (codes "not_ascii") path refl refl
bad_file path (BadIndent n) = inside (codes "line") n (codes "bad_indent") path refl refl
bad_file path (BadToken n) = inside (codes "line") n (codes "bad_token") path refl refl
bad_file path (Unsupported n) = inside (codes "line") n (codes "unsupported") path refl refl
bad_file path (Expected n) = inside (codes "line") n (codes "expected") path refl refl
bad_file path (TooDeep n) = inside (codes "line") n (codes "too_deep") path refl refl
bad_file path BadName = alone (codes "bad_name") path refl
bad_file path (Heavy n) = last (codes "weight") n (codes "heavy") path refl refl
bad_file path (SameName n) = inside (codes "node") n (codes "same_name") path refl refl
bad_file path (UnknownName p) = part (codes "unknown_name") path p refl

span : (s : Option Span) → Clean (span_text s)
span None = refl
span (Some s) = number s.from_line _ (number s.from_column _ (number s.to_line _ (number s.to_column _ refl)))

row : (r : Row) → Clean (row_text r)
row r = number r.node _ (text r.path _ (clean-append (span_text r.span) _ (span r.span) refl))

rows : (rs : List Row) → Clean (rows_text rs)
rows [] = refl
rows (r ∷ rs) = clean-append (row_text r) (flat_map next_text rs) (row r) (clean-flat_map next_text row rs)

flag : (b : Bool) → Clean (flag_text b)
flag true = refl
flag false = refl

answer : (a : Answer) → Clean (answer_text a)
answer a = clean-append (flag_text a.limit) _ (flag a.limit) (clean-append (rows_text a.rows) _ (rows a.rows) refl)

callers : (rs : List Row) → Clean (callers_text rs)
callers rs = clean-append (rows_text rs) _ (rows rs) refl

word : (e : PlainError) → Clean (plain_word e)
word BadJson = refl
word NoUser = refl
word Forbidden = refl
word Spent = refl
word NoFile = refl
word NoReference = refl
word NoDefinition = refl
word Crowded = refl

reply : (r : Reply) → Clean (reply_text r)
reply (Version n) = number n _ refl
reply Done = refl
reply (Rows a) = answer a
reply (Callers rs) = callers rs
reply (Plain e) = clean-append (plain_word e) _ (word e) refl
reply (BadRequest f) = text f _ refl
reply (Stale n) = number n _ refl
reply (Twice p) = text p _ refl
reply (AbsentFile p) = text p _ refl
reply (AbsentGrant u p) = text p _ (text u _ refl)
reply (TooManyFiles n) = number n _ refl
reply (TooHeavy n) = number n _ refl
reply (BadFile path fault) = bad_file path fault

-- the text of each reply is one line
pub reply-one_line : (r : Reply) → IsOneLine (reply_text r)
reply-one_line r = position-clean (reply_text r) (reply r)
