-- Rows as graphs: what edits and grants make of rows, they make of their graphs.
use Rattle.std.proofs.Common.{◌≡◌, ℕ, List, [], ◌∷◌, ◌++◌, Bool, true, false, cond, not, refl, ap, ◌∙◌, map}
use Rattle.std.proofs.lemmas.List.{map-append}
use Rattle.std.specs.List.{filter, flat_map}
use Rattle.std.specs.Ordering.{is_lt, is_eq, is_gt}
use Rattle.grants.specs.Covers.{covers}
use Rattle.partial_path.specs.PathSets.{FileRules}
use Rattle.version_tree.specs.declared.edit.Edit.{Edit}
use Rattle.version_tree.specs.declared.edit.Edit.TheVariants.{Put, Remove, Grant, Revoke, Deny, Undeny}
use Rattle.version_tree.specs.declared.entry.Entry.{Entry}
use Rattle.version_tree.specs.Contents.{FileRow, file_row, Content, path_cmp, with_row, without_row, edited, edited_all, no_content}
use Rattle.version_tree.specs.Graphs.{GraphRow, row_graph, graph_rows, graphs, content_graphs, graph_edit, with_graph, without_graph, graph_edited, graph_edited_all, LogsMakeGraphs, UsersSeeGraphs}

one : (row : FileRow) (rows : List FileRow) (rest : List GraphRow) (v : Bool) → graph_rows rows ≡ rest → graph_rows (cond v (row ∷ rows) rows) ≡ cond v (row_graph row ∷ rest) rest
one row rows rest true e = ap (λ r. row_graph row ∷ r) e
one row rows rest false e = e

-- a test of paths keeps the same rows and graphs
tested : (t : List ℕ → Bool) (rows : List FileRow) → graph_rows (filter (λ (row : FileRow). t row.path) rows) ≡ filter (λ (row : GraphRow). t row.path) (graph_rows rows)
tested t [] = refl
tested t (row ∷ rows) = one row (filter (λ (r : FileRow). t r.path) rows) _ (t row.path) (tested t rows)

with-graphs : (path : List ℕ) (file : FileRules) (rows : List FileRow) → graph_rows (with_row path file rows) ≡ with_graph path file.graph (graph_rows rows)
with-graphs path file rows =
    map-append row_graph (filter (λ (row : FileRow). is_lt (path_cmp row.path path)) rows) (file_row path file ∷ filter (λ (row : FileRow). is_gt (path_cmp row.path path)) rows)
    ∙ (λ i. tested (λ p. is_lt (path_cmp p path)) rows i ++ row_graph (file_row path file) ∷ tested (λ p. is_gt (path_cmp p path)) rows i)

without-graphs : (path : List ℕ) (rows : List FileRow) → graph_rows (without_row path rows) ≡ without_graph path (graph_rows rows)
without-graphs path rows = tested (λ p. not (is_eq (path_cmp p path))) rows

edit-graphs : (edit : Edit) (v : Content) → content_graphs (edited edit v) ≡ graph_edited (graph_edit edit) (content_graphs v)
edit-graphs (Put path paths) v = ap (λ rows. graphs rows v.rules) (with-graphs path paths v.rows)
edit-graphs (Remove path) v = ap (λ rows. graphs rows v.rules) (without-graphs path v.rows)
edit-graphs (Grant user prefix) v = refl
edit-graphs (Revoke user prefix) v = refl
edit-graphs (Deny user prefix) v = refl
edit-graphs (Undeny user prefix) v = refl

edits-graphs : (edits : List Edit) (v : Content) → content_graphs (edited_all edits v) ≡ graph_edited_all (map graph_edit edits) (content_graphs v)
edits-graphs [] v = refl
edits-graphs (edit ∷ edits) v = edits-graphs edits (edited edit v) ∙ ap (graph_edited_all (map graph_edit edits)) (edit-graphs edit v)

pub logs : LogsMakeGraphs
logs log = edits-graphs (flat_map (λ (entry : Entry). entry.edits) log) no_content

pub users : UsersSeeGraphs
users user v = tested (covers v.rules user) v.rows
