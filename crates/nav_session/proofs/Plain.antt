-- A version as verdicts and queries look at it: of each file its path, its graph and its weight, and not which order its
-- paths have. What edits make of it, and why they are refused, depends on these alone.
use Rattle.std.proofs.Common.{◌≡◌, ℕ, Bool, true, false, not, List, [], ◌∷◌, ◌++◌, length, map, Option, None, Some, ◌+◌, ◌||◌, cond, refl, sym, ap, ◌∙◌, if◌then◌else◌, flat_map}
use Rattle.std.proofs.lemmas.List.{length-map, map-append}
use Rattle.std.specs.List.{filter, fold, list_any, sum_by}
use Rattle.std.specs.Option.{option_map}
use Rattle.std.specs.Ordering.{is_lt, is_eq, is_gt}
use Rattle.grants.specs.Pairs.{Pair, pair, has_pair}
use Rattle.grants.specs.Covers.{Rules, with_grant, without_grant, with_deny, without_deny, covers}
use Rattle.graph_nodes.specs.Graph.{Graph}
use Rattle.partial_path.specs.PathSets.{FileRules}
use Rattle.version_tree.specs.declared.edit.Edit.{Edit}
use Rattle.version_tree.specs.declared.edit.Edit.TheVariants.{Put, Remove}
use Rattle.version_tree.specs.declared.edit.EditFault.{EditFault}
use Rattle.version_tree.specs.declared.edit.EditFault.TheVariants.{Twice, Absent, TooManyFiles, TooHeavy}
use Rattle.version_tree.specs.declared.entry.Entry.{Entry}
use Rattle.version_tree.specs.Contents.{FileRow, Content, content, no_content, path_cmp, has_path, rowed, ruled, edited, edited_all, replay, granted_rows}
use Rattle.version_tree.specs.Graphs.{GraphEdit, GraphRow, graph_edit, graph_row, graph_rows, put_graph, remove_path, grant_prefix, revoke_prefix, deny_prefix, undeny_prefix}
use Rattle.version_tree.specs.Limits.{max_files, max_weight}
use Rattle.version_tree.specs.Verdict.{touched, all_touched, stands_twice, least, twice, removed, first_absent, absent, misses_grant, misses_deny, first_of, grant_absent, deny_absent, above, weight_of, spent, no_grant, no_deny, edit_fault}

-- a file, and an edit
pub record Plain : Type 0 where
  pub path : List ℕ
  pub graph : Graph
  pub weight : ℕ

abbrev plain : FileRow → Plain
plain row = record { path = row.path; graph = row.file.graph; weight = row.file.weight }

abbrev weight_in : Edit → ℕ
weight_in (Put path file) = file.weight
weight_in _ = 0

abbrev pub plain_edit : Edit → GraphEdit × ℕ
plain_edit e = (graph_edit e, weight_in e)

-- what a version holds
pub record Held : Type 0 where
  pub rows : List Plain
  pub rules : Rules

abbrev pub held : Content → Held
held v = record { rows = map plain v.rows; rules = v.rules }

-- what an edit makes of it
abbrev put_plain : List ℕ → Graph → ℕ → List Plain → List Plain
put_plain path g w rows =
    filter (λ (row : Plain). is_lt (path_cmp row.path path)) rows
    ++ record { path = path; graph = g; weight = w } ∷ filter (λ (row : Plain). is_gt (path_cmp row.path path)) rows

abbrev changed : GraphEdit × ℕ → Held → Held
changed (put_graph path g, w) v = record { rows = put_plain path g w v.rows; rules = v.rules }
changed (remove_path path, w) v = record { rows = filter (λ (row : Plain). not (is_eq (path_cmp row.path path))) v.rows; rules = v.rules }
changed (grant_prefix user prefix, w) v = record { rows = v.rows; rules = with_grant (pair user prefix) v.rules }
changed (revoke_prefix user prefix, w) v = record { rows = v.rows; rules = without_grant (pair user prefix) v.rules }
changed (deny_prefix user prefix, w) v = record { rows = v.rows; rules = with_deny (pair user prefix) v.rules }
changed (undeny_prefix user prefix, w) v = record { rows = v.rows; rules = without_deny (pair user prefix) v.rules }

abbrev changed_all : List (GraphEdit × ℕ) → Held → Held
changed_all [] v = v
changed_all (e ∷ es) v = changed_all es (changed e v)

abbrev held_of : List Plain → Rules → Held
held_of rows rules = record { rows = rows; rules = rules }

-- filters by what is plain
map_cond : (b : Bool) (row : FileRow) (rest : List FileRow) (others : List Plain) → map plain rest ≡ others
    → map plain (cond b (row ∷ rest) rest) ≡ cond b (plain row ∷ others) others
map_cond true row rest others e = ap (λ (ps : List Plain). plain row ∷ ps) e
map_cond false row rest others e = e

filter_plain : (p : Plain → Bool) (rows : List FileRow) → map plain (filter (λ (row : FileRow). p (plain row)) rows) ≡ filter p (map plain rows)
filter_plain p [] = refl
filter_plain p (row ∷ rows) =
    map_cond (p (plain row)) row (filter (λ (row : FileRow). p (plain row)) rows) (filter p (map plain rows)) (filter_plain p rows)

-- an edit changes what is plain as it changes all
pub plain_edited : (e : Edit) (v : Content) → held (edited e v) ≡ changed (plain_edit e) (held v)
plain_edited (Put path file) v =
    let low = filter_plain (λ (row : Plain). is_lt (path_cmp row.path path)) v.rows in
    let high = filter_plain (λ (row : Plain). is_gt (path_cmp row.path path)) v.rows in
    let both = map-append plain (filter (λ (row : FileRow). is_lt (path_cmp row.path path)) v.rows)
    (record { path = path; file = file } ∷ filter (λ (row : FileRow). is_gt (path_cmp row.path path)) v.rows) in
    ap (λ (rows : List Plain). held_of rows v.rules)
    (both ∙ ap (λ (rows : List Plain). rows ++ record { path = path; graph = file.graph; weight = file.weight } ∷ map plain (filter (λ (row : FileRow). is_gt (path_cmp row.path path)) v.rows)) low
    ∙ ap (λ (rows : List Plain). filter (λ (row : Plain). is_lt (path_cmp row.path path)) (map plain v.rows) ++ record { path = path; graph = file.graph; weight = file.weight } ∷ rows) high)
plain_edited (Remove path) v = ap (λ (rows : List Plain). held_of rows v.rules) (filter_plain (λ (row : Plain). not (is_eq (path_cmp row.path path))) v.rows)
plain_edited _ v = refl

pub plain_edited_all : (es : List Edit) (v : Content) → held (edited_all es v) ≡ changed_all (map plain_edit es) (held v)
plain_edited_all [] v = refl
plain_edited_all (e ∷ es) v = plain_edited_all es (edited e v) ∙ ap (changed_all (map plain_edit es)) (plain_edited e v)

-- what is plain of a log, and what it makes
abbrev pub plain_log : List Entry → List (GraphEdit × ℕ)
plain_log log = map plain_edit (flat_map (λ (entry : Entry). entry.edits) log)

abbrev pub held_log : List Entry → Held
held_log log = changed_all (plain_log log) (held no_content)

pub plain_replay : (log : List Entry) → held (replay log) ≡ held_log log
plain_replay log = plain_edited_all (flat_map (λ (entry : Entry). entry.edits) log) no_content

-- what a user sees of it
abbrev seen_plain : List ℕ → Held → List GraphRow
seen_plain user v = map (λ (row : Plain). graph_row row.path row.graph) (filter (λ (row : Plain). covers v.rules user row.path) v.rows)

rows_plain : (rows : List FileRow) → graph_rows rows ≡ map (λ (row : Plain). graph_row row.path row.graph) (map plain rows)
rows_plain [] = refl
rows_plain (row ∷ rows) = ap (λ (rs : List GraphRow). graph_row row.path row.file.graph ∷ rs) (rows_plain rows)

sees_plain : (user : List ℕ) (v : Content) → graph_rows (granted_rows user v) ≡ seen_plain user (held v)
sees_plain user v =
    rows_plain (granted_rows user v)
    ∙ ap (map (λ (row : Plain). graph_row row.path row.graph)) (filter_plain (λ (row : Plain). covers v.rules user row.path) v.rows)

-- two logs that are alike show a user the same
pub alike_views : (a b : List Entry) (user : List ℕ) → plain_log a ≡ plain_log b
    → graph_rows (granted_rows user (replay a)) ≡ graph_rows (granted_rows user (replay b))
alike_views a b user e =
    sees_plain user (replay a) ∙ ap (seen_plain user) (plain_replay a ∙ ap (λ (es : List (GraphEdit × ℕ)). changed_all es (held no_content)) e ∙ sym (plain_replay b))
    ∙ sym (sees_plain user (replay b))

-- the refusal of edits, as it looks at what is plain
abbrev touched_by : GraphEdit → List (List ℕ)
touched_by (put_graph path g) = path ∷ []
touched_by (remove_path path) = path ∷ []
touched_by _ = []

abbrev touched_all : List (GraphEdit × ℕ) → List (List ℕ)
touched_all es = flat_map (λ (e : GraphEdit × ℕ). touched_by e.0) es

abbrev removed_by : GraphEdit → List (List ℕ)
removed_by (remove_path path) = path ∷ []
removed_by _ = []

abbrev removed_all : List (GraphEdit × ℕ) → List (List ℕ)
removed_all es = flat_map (λ (e : GraphEdit × ℕ). removed_by e.0) es

abbrev has_plain : List ℕ → List Plain → Bool
has_plain path rows = list_any (λ (row : Plain). is_eq (path_cmp row.path path)) rows

abbrev first_missing : List Plain → List (List ℕ) → Option (List ℕ)
first_missing rows [] = None
first_missing rows (path ∷ paths) = if has_plain path rows then first_missing rows paths else Some path

abbrev ruled_by : GraphEdit → Rules → Rules
ruled_by (put_graph path g) rules = rules
ruled_by (remove_path path) rules = rules
ruled_by (grant_prefix user prefix) rules = with_grant (pair user prefix) rules
ruled_by (revoke_prefix user prefix) rules = without_grant (pair user prefix) rules
ruled_by (deny_prefix user prefix) rules = with_deny (pair user prefix) rules
ruled_by (undeny_prefix user prefix) rules = without_deny (pair user prefix) rules

abbrev lacks_grant : Rules → GraphEdit → Option Pair
lacks_grant rules (revoke_prefix user prefix) = if has_pair (pair user prefix) rules.granted then None else Some (pair user prefix)
lacks_grant rules _ = None

abbrev lacks_deny : Rules → GraphEdit → Option Pair
lacks_deny rules (undeny_prefix user prefix) = if has_pair (pair user prefix) rules.denied then None else Some (pair user prefix)
lacks_deny rules _ = None

abbrev grant_lacked : Rules → List (GraphEdit × ℕ) → Option Pair
grant_lacked rules [] = None
grant_lacked rules (e ∷ es) = first_of (lacks_grant rules e.0) (grant_lacked (ruled_by e.0 rules) es)

abbrev deny_lacked : Rules → List (GraphEdit × ℕ) → Option Pair
deny_lacked rules [] = None
deny_lacked rules (e ∷ es) = first_of (lacks_deny rules e.0) (deny_lacked (ruled_by e.0 rules) es)

abbrev plain_fault : ℕ → Held → List (GraphEdit × ℕ) → Option EditFault
plain_fault number v es =
    first_of (option_map Twice (least (filter (stands_twice (touched_all es)) (touched_all es))))
    (first_of (option_map Absent (first_missing v.rows (removed_all es)))
    (first_of (option_map no_grant (grant_lacked v.rules es))
    (first_of (option_map no_deny (deny_lacked v.rules es))
    (first_of (option_map TooManyFiles (above max_files (length (changed_all es v).rows)))
    (first_of (option_map TooHeavy (above max_weight (sum_by (λ (row : Plain). row.weight) (changed_all es v).rows)))
    (spent number))))))

touched_one : (e : Edit) → touched e ≡ touched_by (graph_edit e)
touched_one (Put path file) = refl
touched_one _ = refl

touched_plain : (es : List Edit) → all_touched es ≡ touched_all (map plain_edit es)
touched_plain [] = refl
touched_plain (e ∷ es) = ap (λ (ps : List (List ℕ)). ps ++ all_touched es) (touched_one e) ∙ ap (λ (ps : List (List ℕ)). touched_by (graph_edit e) ++ ps) (touched_plain es)

removed_one : (e : Edit) → removed e ≡ removed_by (graph_edit e)
removed_one (Put path file) = refl
removed_one _ = refl

removed_plain : (es : List Edit) → flat_map removed es ≡ removed_all (map plain_edit es)
removed_plain [] = refl
removed_plain (e ∷ es) = ap (λ (ps : List (List ℕ)). ps ++ flat_map removed es) (removed_one e) ∙ ap (λ (ps : List (List ℕ)). removed_by (graph_edit e) ++ ps) (removed_plain es)

has_path_plain : (path : List ℕ) (rows : List FileRow) → has_path path rows ≡ has_plain path (map plain rows)
has_path_plain path [] = refl
has_path_plain path (row ∷ rows) = ap (λ (b : Bool). is_eq (path_cmp row.path path) || b) (has_path_plain path rows)

absent_plain : (rows : List FileRow) (paths : List (List ℕ)) → first_absent rows paths ≡ first_missing (map plain rows) paths
absent_plain rows [] = refl
absent_plain rows (path ∷ paths) =
    ap (λ (b : Bool). if b then first_absent rows paths else Some path) (has_path_plain path rows)
    ∙ ap (λ (o : Option (List ℕ)). if has_plain path (map plain rows) then o else Some path) (absent_plain rows paths)

ruled_one : (e : Edit) (rules : Rules) → ruled e rules ≡ ruled_by (graph_edit e) rules
ruled_one (Put path file) rules = refl
ruled_one _ rules = refl

grant_one : (rules : Rules) (e : Edit) → misses_grant rules e ≡ lacks_grant rules (graph_edit e)
grant_one rules (Put path file) = refl
grant_one rules _ = refl

deny_one : (rules : Rules) (e : Edit) → misses_deny rules e ≡ lacks_deny rules (graph_edit e)
deny_one rules (Put path file) = refl
deny_one rules _ = refl

grant_plain : (rules : Rules) (es : List Edit) → grant_absent rules es ≡ grant_lacked rules (map plain_edit es)
grant_plain rules [] = refl
grant_plain rules (e ∷ es) =
    ap (λ (o : Option Pair). first_of o (grant_absent (ruled e rules) es)) (grant_one rules e)
    ∙ ap (λ (o : Option Pair). first_of (lacks_grant rules (graph_edit e)) o)
    (grant_plain (ruled e rules) es ∙ ap (λ (rs : Rules). grant_lacked rs (map plain_edit es)) (ruled_one e rules))

deny_plain : (rules : Rules) (es : List Edit) → deny_absent rules es ≡ deny_lacked rules (map plain_edit es)
deny_plain rules [] = refl
deny_plain rules (e ∷ es) =
    ap (λ (o : Option Pair). first_of o (deny_absent (ruled e rules) es)) (deny_one rules e)
    ∙ ap (λ (o : Option Pair). first_of (lacks_deny rules (graph_edit e)) o)
    (deny_plain (ruled e rules) es ∙ ap (λ (rs : Rules). deny_lacked rs (map plain_edit es)) (ruled_one e rules))

sum_plain : (n : ℕ) (rows : List FileRow) → fold (λ a (row : FileRow). a + row.file.weight) n rows ≡ fold (λ a (row : Plain). a + row.weight) n (map plain rows)
sum_plain n [] = refl
sum_plain n (row ∷ rows) = sum_plain (n + row.file.weight) rows

weight_plain : (rows : List FileRow) → weight_of rows ≡ sum_by (λ (row : Plain). row.weight) (map plain rows)
weight_plain rows = sum_plain 0 rows

pub fault_plain : (number : ℕ) (v : Content) (es : List Edit) → edit_fault number v es ≡ plain_fault number (held v) (map plain_edit es)
fault_plain number v es =
    let ps = map plain_edit es in
    let t = touched_plain es in
    let many : length (edited_all es v).rows ≡ length (changed_all ps (held v)).rows =
    sym (length-map (edited_all es v).rows plain) ∙ ap (λ (h : Held). length h.rows) (plain_edited_all es v) in
    let heavy : weight_of (edited_all es v).rows ≡ sum_by (λ (row : Plain). row.weight) (changed_all ps (held v)).rows =
    weight_plain (edited_all es v).rows ∙ ap (λ (h : Held). sum_by (λ (row : Plain). row.weight) h.rows) (plain_edited_all es v) in
    rw (t, removed_plain es, absent_plain v.rows (removed_all ps), grant_plain v.rules es, deny_plain v.rules es, many, heavy) refl

-- two logs that are alike refuse alike edits for the same reason
pub alike_faults : (a b : List Entry) (number : ℕ) (es fs : List Edit) → plain_log a ≡ plain_log b → map plain_edit es ≡ map plain_edit fs
    → edit_fault number (replay a) es ≡ edit_fault number (replay b) fs
alike_faults a b number es fs e f =
    fault_plain number (replay a) es
    ∙ ap (λ (h : Held). plain_fault number h (map plain_edit es)) (plain_replay a ∙ ap (λ (es : List (GraphEdit × ℕ)). changed_all es (held no_content)) e ∙ sym (plain_replay b))
    ∙ ap (plain_fault number (held (replay b))) f
    ∙ sym (fault_plain number (replay b) fs)
