-- Versions, views and logs as they are said of graphs alone, without the paths that are kept of them.
use Rattle.std.specs.Prelude.{◌≡◌, List, [], ◌∷◌, ◌++◌, ℕ, map, not}
use Rattle.std.specs.List.{filter, flat_map}
use Rattle.std.specs.Ordering.{is_lt, is_eq, is_gt}
use Rattle.grants.specs.Pairs.{pair}
use Rattle.grants.specs.Covers.{Rules, covers, with_grant, without_grant, with_deny, without_deny}
use Rattle.graph_nodes.specs.Graph.{Graph}
use Rattle.version_tree.specs.declared.edit.Edit.{Edit}
use Rattle.version_tree.specs.declared.edit.Edit.TheVariants.{Put, Remove, Grant, Revoke, Deny, Undeny}
use Rattle.version_tree.specs.declared.entry.Entry.{Entry}
use Rattle.version_tree.specs.Contents.{FileRow, Content, path_cmp, replay, granted_rows}

-- a graph at its path
pub record GraphRow : Type 0 where
  pub path : List ℕ
  pub graph : Graph

-- the row of that path and graph
abbrev pub graph_row : List ℕ → Graph → GraphRow
graph_row path graph = record { path = path; graph = graph }

-- the graphs of rows, each at its path
abbrev pub row_graph : FileRow → GraphRow
row_graph row = graph_row row.path row.file.graph

-- the graphs of all rows, in their order
abbrev pub graph_rows : List FileRow → List GraphRow
graph_rows rows = map row_graph rows

-- the graphs of rows, by number
abbrev pub graphs_of : List FileRow → List Graph
graphs_of rows = map (λ (row : FileRow). row.file.graph) rows

-- what a version holds: graphs in the order of their paths, grants and denies
pub record Graphs : Type 0 where
  pub rows : List GraphRow
  pub rules : Rules

-- graphs in these rows, with these rules
abbrev pub graphs : List GraphRow → Rules → Graphs
graphs rows rules = record { rows = rows; rules = rules }

-- what a version holds, by its graphs alone
abbrev pub content_graphs : Content → Graphs
content_graphs v = graphs (graph_rows v.rows) v.rules

-- the graphs that a user may see, in the order of their paths
abbrev pub granted_graphs : List ℕ → Graphs → List GraphRow
granted_graphs user v = filter (λ (row : GraphRow). covers v.rules user row.path) v.rows

-- an edit of graphs: a graph is put at a path, or a path, a grant or a deny comes or goes
pub data GraphEdit : Type 0 where
  put_graph : List ℕ → Graph → GraphEdit
  remove_path : List ℕ → GraphEdit
  grant_prefix : List ℕ → List ℕ → GraphEdit
  revoke_prefix : List ℕ → List ℕ → GraphEdit
  deny_prefix : List ℕ → List ℕ → GraphEdit
  undeny_prefix : List ℕ → List ℕ → GraphEdit

-- an edit of a version, as one of graphs: a put file is its graph alone
abbrev pub graph_edit : Edit → GraphEdit
graph_edit (Put path paths) = put_graph path paths.graph
graph_edit (Remove path) = remove_path path
graph_edit (Grant user prefix) = grant_prefix user prefix
graph_edit (Revoke user prefix) = revoke_prefix user prefix
graph_edit (Deny user prefix) = deny_prefix user prefix
graph_edit (Undeny user prefix) = undeny_prefix user prefix

-- the rows with this graph at the path, and without the path
abbrev pub with_graph : List ℕ → Graph → List GraphRow → List GraphRow
with_graph path graph rows =
    filter (λ (row : GraphRow). is_lt (path_cmp row.path path)) rows
    ++ graph_row path graph ∷ filter (λ (row : GraphRow). is_gt (path_cmp row.path path)) rows

abbrev pub without_graph : List ℕ → List GraphRow → List GraphRow
without_graph path rows = filter (λ (row : GraphRow). not (is_eq (path_cmp row.path path))) rows

-- what one edit makes of graphs
abbrev pub graph_edited : GraphEdit → Graphs → Graphs
graph_edited (put_graph path graph) v = graphs (with_graph path graph v.rows) v.rules
graph_edited (remove_path path) v = graphs (without_graph path v.rows) v.rules
graph_edited (grant_prefix user prefix) v = graphs v.rows (with_grant (pair user prefix) v.rules)
graph_edited (revoke_prefix user prefix) v = graphs v.rows (without_grant (pair user prefix) v.rules)
graph_edited (deny_prefix user prefix) v = graphs v.rows (with_deny (pair user prefix) v.rules)
graph_edited (undeny_prefix user prefix) v = graphs v.rows (without_deny (pair user prefix) v.rules)

-- what edits make of graphs, one after the other
abbrev pub graph_edited_all : List GraphEdit → Graphs → Graphs
graph_edited_all [] v = v
graph_edited_all (edit ∷ edits) v = graph_edited_all edits (graph_edited edit v)

-- the edits of a log's entries, as edits of graphs
abbrev pub graph_edits : List Entry → List GraphEdit
graph_edits log = map graph_edit (flat_map (λ (entry : Entry). entry.edits) log)

-- what a log of graphs makes, from nothing
abbrev pub graph_replay : List GraphEdit → Graphs
graph_replay edits = graph_edited_all edits (graphs [] (record { granted = []; denied = [] }))

-- the graphs that a log makes are those that its edits of graphs make
abbrev pub LogsMakeGraphs : Type 0
LogsMakeGraphs = (log : List Entry) → content_graphs (replay log) ≡ graph_replay (graph_edits log)

-- the graphs that a user may see are those of the granted files
abbrev pub UsersSeeGraphs : Type 0
UsersSeeGraphs = (user : List ℕ) (v : Content) → graph_rows (granted_rows user v) ≡ granted_graphs user (content_graphs v)
