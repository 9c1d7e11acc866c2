-- What a version holds, and what edits make of it: files at paths, and who may see which.
use Rattle.std.specs.Prelude.{◌≡◌, List, [], ◌∷◌, ◌++◌, ℕ, Bool, not}
use Rattle.std.specs.Cmp.Lexicographic.{slice_cmp}
use Rattle.std.specs.List.{AllByRecursion, filter, list_any, flat_map}
use Rattle.std.specs.Ordering.{nat_cmp, is_lt, is_eq, is_gt}
use Rattle.std.specs.declared.cmp.Ordering.{Ordering}
use Rattle.std.specs.declared.cmp.Ordering.TheVariants.{Less}
use Rattle.grants.specs.Pairs.{pair}
use Rattle.grants.specs.Covers.{Rules, with_grant, without_grant, with_deny, without_deny, covers}
use Rattle.partial_path.specs.PathSets.{FileRules}
use Rattle.partial_path.specs.Sources.{IsSourceFile}
use Rattle.version_tree.specs.declared.edit.Edit.{Edit}
use Rattle.version_tree.specs.declared.entry.Entry.{Entry}
use Rattle.version_tree.specs.declared.edit.Edit.TheVariants.{Put, Remove, Grant, Revoke, Deny, Undeny}

-- a file at its path
pub record FileRow : Type 0 where
  pub path : List ℕ
  pub file : FileRules

-- the row of that path and file
abbrev pub file_row : List ℕ → FileRules → FileRow
file_row path file = record { path = path; file = file }

-- which of two paths comes first, by bytes
abbrev pub path_cmp : List ℕ → List ℕ → Ordering
path_cmp = slice_cmp nat_cmp

-- the rows stand in the order of their paths, no path twice
abbrev pub IsInOrder : List FileRow → Type 0
IsInOrder [] = Unit {0}
IsInOrder (row ∷ rows) = AllByRecursion (λ (later : FileRow). path_cmp row.path later.path ≡ Less) rows × IsInOrder rows

-- each row's file is a checked graph with its path set and its weight
abbrev pub HaveSets : List FileRow → Type 0
HaveSets rows = AllByRecursion (λ (row : FileRow). IsSourceFile row.file) rows

-- rows as they are kept: in the order of their paths, each with the path set of its graph
pub record AreRows (rows : List FileRow) : Type 0 where
  pub order : IsInOrder rows
  pub sets : HaveSets rows

-- whether a row has the path
abbrev pub has_path : List ℕ → List FileRow → Bool
has_path path rows = list_any (λ (row : FileRow). is_eq (path_cmp row.path path)) rows

-- the rows with this file at the path: those before it, this one, and those after it
abbrev pub with_row : List ℕ → FileRules → List FileRow → List FileRow
with_row path file rows =
    filter (λ (row : FileRow). is_lt (path_cmp row.path path)) rows
    ++ file_row path file ∷ filter (λ (row : FileRow). is_gt (path_cmp row.path path)) rows

-- the rows without the path
abbrev pub without_row : List ℕ → List FileRow → List FileRow
without_row path rows = filter (λ (row : FileRow). not (is_eq (path_cmp row.path path))) rows

-- what a version holds: its files in the order of their paths, its grants and its denies
pub record Content : Type 0 where
  pub rows : List FileRow
  pub rules : Rules

-- what a version of these rows and rules holds
abbrev pub content : List FileRow → Rules → Content
content rows rules = record { rows = rows; rules = rules }

-- nothing
abbrev pub no_content : Content
no_content = content [] (record { granted = []; denied = [] })

-- what one edit makes of the rules, and of a version
abbrev pub ruled : Edit → Rules → Rules
ruled (Put path paths) rules = rules
ruled (Remove path) rules = rules
ruled (Grant user prefix) rules = with_grant (pair user prefix) rules
ruled (Revoke user prefix) rules = without_grant (pair user prefix) rules
ruled (Deny user prefix) rules = with_deny (pair user prefix) rules
ruled (Undeny user prefix) rules = without_deny (pair user prefix) rules

-- what one edit makes of the rows
abbrev pub rowed : Edit → List FileRow → List FileRow
rowed (Put path paths) rows = with_row path paths rows
rowed (Remove path) rows = without_row path rows
rowed (Grant user prefix) rows = rows
rowed (Revoke user prefix) rows = rows
rowed (Deny user prefix) rows = rows
rowed (Undeny user prefix) rows = rows

-- what one edit makes of a version: of its rows, and of its rules
abbrev pub edited : Edit → Content → Content
edited edit v = content (rowed edit v.rows) (ruled edit v.rules)

-- what edits make of a version, one after the other
abbrev pub edited_all : List Edit → Content → Content
edited_all [] v = v
edited_all (edit ∷ edits) v = edited_all edits (edited edit v)

-- what a log makes, from nothing: the edits of its entries in order
abbrev pub replay : List Entry → Content
replay log = edited_all (flat_map (λ (entry : Entry). entry.edits) log) no_content

-- the rows that a user may see under these rules
abbrev pub covered : Rules → List ℕ → List FileRow → List FileRow
covered rules user rows = filter (λ (row : FileRow). covers rules user row.path) rows

-- the files that a user may see, in the order of their paths; they are numbered by this list alone
abbrev pub granted_rows : List ℕ → Content → List FileRow
granted_rows user v = covered v.rules user v.rows

-- a version: its number, and what it holds
pub record Numbered : Type 0 where
  pub number : ℕ
  pub content : Content
