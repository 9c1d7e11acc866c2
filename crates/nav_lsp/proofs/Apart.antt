-- No two files that a user sees of a version have the same path.
use Rattle.std.proofs.Common.{◌≡◌, ◌≢◌, ℕ, List, [], ◌∷◌, sym, subst, take}
use Rattle.std.specs.List.{AllByRecursion, flat_map}
use Rattle.std.specs.declared.cmp.Ordering.TheVariants.{Less}
use Rattle.version_tree.specs.declared.edit.Edit.{Edit}
use Rattle.version_tree.specs.declared.edit.Edit.TheVariants.{Put, Remove, Grant, Revoke, Deny, Undeny}
use Rattle.version_tree.specs.declared.entry.Entry.{Entry}
use Rattle.version_tree.specs.Contents.{Content, FileRow, IsInOrder, edited, edited_all, granted_rows, no_content, path_cmp, replay, rowed}
use Rattle.version_tree.specs.Graphs.{GraphRow, graph_rows}
use Rattle.version_tree.proofs.Order.{tied}
use Rattle.version_tree.proofs.Parts.{filter-in-order, with-in-order}
use Rattle.lsp_answers.specs.Laws.{HavePathsApart}
use Rattle.grants.specs.Covers.{covers}
use Rattle.std.specs.Prelude.{not}
use Rattle.std.specs.Ordering.{is_eq}
use Rattle.nav_lsp.specs.Editing.{files_of, operator}

rowed_in_order : (edit : Edit) (rows : List FileRow) → IsInOrder rows → IsInOrder (rowed edit rows)
rowed_in_order (Put path paths) rows up = with-in-order path paths rows up
rowed_in_order (Remove path) rows up = filter-in-order (λ (row : FileRow). not (is_eq (path_cmp row.path path))) rows up
rowed_in_order (Grant user prefix) rows up = up
rowed_in_order (Revoke user prefix) rows up = up
rowed_in_order (Deny user prefix) rows up = up
rowed_in_order (Undeny user prefix) rows up = up

edited_in_order : (edits : List Edit) (v : Content) → IsInOrder v.rows → IsInOrder (edited_all edits v).rows
edited_in_order [] v up = up
edited_in_order (edit ∷ edits) v up = edited_in_order edits (edited edit v) (rowed_in_order edit v.rows up)

differ : (p q : List ℕ) → path_cmp p q ≡ Less → p ≢ q
differ p q less same = let itself : path_cmp p p ≡ Less = subst (λ (r : List ℕ). path_cmp p r ≡ Less) (sym same) less in let equal = tied p in cc

all_differ : (row : FileRow) (rows : List FileRow) → AllByRecursion (λ (later : FileRow). path_cmp row.path later.path ≡ Less) rows
    → AllByRecursion (λ (later : GraphRow). row.path ≢ later.path) (graph_rows rows)
all_differ row [] all = tt
all_differ row (later ∷ rows) all = (differ row.path later.path all.0, all_differ row rows all.1)

apart : (rows : List FileRow) → IsInOrder rows → HavePathsApart (graph_rows rows)
apart [] up = tt
apart (row ∷ rows) up = (all_differ row rows up.0, apart rows up.1)

pub files_apart : (log : List Entry) (pin : ℕ) → HavePathsApart (files_of log pin)
files_apart log pin =
    let v = replay (take pin log) in
    apart (granted_rows operator v)
    (filter-in-order (λ (row : FileRow). covers v.rules operator row.path) v.rows
    (edited_in_order (flat_map (λ (entry : Entry). entry.edits) (take pin log)) no_content tt))
