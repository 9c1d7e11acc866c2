-- Of a place an editor is told one outcome.
use Rattle.std.proofs.Common.{◌≡◌, ◌∙◌, ℕ, ◌⊎◌, inl, inr, Bool, true, false, if◌then◌else◌, List, [], ◌∷◌, ◌++◌, map, Option, Some, None, option_map, ok_or, slice_get, Result, Ok, Err, Contains, refl, sym, ap, subst}
use Rattle.std.specs.Prelude.{IsSomeAnd, IsTrue, MatchOption, MatchResult, nat_eq}
use Rattle.std.specs.Option.{option_and_then, option_map_or}
use Rattle.std.proofs.lemmas.Bool.{and_parts, eqb-true}
use Rattle.std.proofs.lemmas.Option.{none-some, same_Some}
use Rattle.list_facts.specs.Members.{IsIn}
use Rattle.list_facts.proofs.Members.{IsIn-append_cases, IsIn-from_Contains, Contains-from_IsIn, IsIn-map_from}
use Rattle.graph_nodes.specs.Graph.{Graph, is_definition, is_definition_kind, is_reference_kind}
use Rattle.graph_nodes.specs.Whole.{is_definition_of}
use Rattle.stacks_vars.specs.declared.scopes.NodeAt.{NodeAt}
use Rattle.partial_path.specs.declared.config.Config.{Config}
use Rattle.partial_path.specs.declared.config.Spot.{Spot}
use Rattle.partial_path.specs.declared.config.Spot.TheVariants as spot
use Rattle.partial_path.specs.Counted.{HasLimit, IsCrowded}
use Rattle.partial_path.specs.Runs.{run, IsAtDefinition}
use Rattle.partial_path.specs.Spots.{is_definition_spot, is_node, node_at}
use Rattle.partial_path.specs.Step.{start, start_at}
use Rattle.version_tree.specs.declared.row.Answer.{Answer}
use Rattle.version_tree.specs.declared.row.Row.{Row}
use Rattle.version_tree.specs.Graphs.{GraphRow}
use Rattle.whole_search.specs.declared.found.Hit.{Hit}
use Rattle.whole_search.specs.Answers.{IsDefinitionFrom, IsReferenceOf}
use Rattle.nav_answers.specs.declared.found.At.{At}
use Rattle.nav_answers.specs.declared.found.At.TheVariants as at
use Rattle.nav_answers.specs.declared.found.AskFault.{AskFault}
use Rattle.nav_answers.specs.declared.found.AskFault.TheVariants as ask
use Rattle.nav_answers.specs.Replies.{IsDefineReply, IsDefinitionReply, IsReferenceReply, IsReferencesReply, IsReplyAbout, ReferTo, ReferToEach, graphs_in, hit_of, meant, meant_in, number_of, row_of, rows_found}
use Rattle.nav_answers.specs.Points.{node_meant}
use Rattle.nav_answers.proofs.OneReply.{one_reply}
use Rattle.row_sets.specs.Rows.{AreInOrder}
use Rattle.lsp_wire.specs.declared.message.Position.{Position}
use Rattle.lsp_wire.specs.declared.reply.Outcome.{Outcome}
use Rattle.lsp_wire.specs.declared.reply.Outcome.TheVariants.{Null}
use Rattle.lsp_texts.specs.Texts.{Texts}
use Rattle.text_units.specs.Lines.{line_at}
use Rattle.text_units.specs.Units.{IsBytesAt}
use Rattle.lsp_answers.specs.Documents.{path_under}
use Rattle.lsp_answers.specs.Queries.{AreDefinitions, AreTargets, IsPlaced, IsUnion, TellsDefinitions, TellsReferences, TellsTargets, located, outcome_of_fault, usual}
use Rattle.lsp_answers.specs.Laws.{HavePathsApart, PlacesHaveOneOutcome}
use Rattle.lsp_answers.proofs.OneColumn.{one_bytes}
use Rattle.lsp_answers.proofs.OneRow.{IsOfFile, file_there, node_there, one_order}

-- ---- a place

abbrev Told : Type 1
Told = List ℕ → At → Outcome → Type 0

by_column : (P : Told) (path : List ℕ) (line : ℕ) (c d : Option ℕ) (a b : Outcome) → ((path : List ℕ) (place : At) → P path place a → P path place b → a ≡ b)
    → c ≡ d → MatchOption c (a ≡ Null) (λ n. P path (at.Point line n) a) → MatchOption d (b ≡ Null) (λ n. P path (at.Point line n) b) → a ≡ b
by_column P path line None None a b one same h k = h ∙ sym k
by_column P path line None (Some n) a b one same h k = absurd (none-some n same)
by_column P path line (Some n) None a b one same h k = absurd (none-some n (sym same))
by_column P path line (Some m) (Some n) a b one same h k =
    one path (at.Point line n) (subst (λ (c : ℕ). P path (at.Point line c) a) (same_Some m n same) h) k

abbrev InText : Told → List ℕ → Position → List ℕ → Outcome → Type 0
InText P path place text outcome =
    (column : Option ℕ) × IsBytesAt (line_at text place.line) place.character column
    × MatchOption column (outcome ≡ Null) (λ c. P path (at.Point place.line c) outcome)

in_text : (P : Told) (path : List ℕ) (place : Position) (text : List ℕ) (a b : Outcome) → ((path : List ℕ) (place : At) → P path place a → P path place b → a ≡ b)
    → InText P path place text a → InText P path place text b → a ≡ b
in_text P path place text a b one h k =
    by_column P path place.line h.0 k.0 a b one (one_bytes (line_at text place.line) place.character h.0 k.0 h.1 k.1) h.2 k.2

in_texts : (P : Told) (path : List ℕ) (place : Position) (o : Option (List ℕ)) (a b : Outcome) → ((path : List ℕ) (place : At) → P path place a → P path place b → a ≡ b)
    → MatchOption o (a ≡ Null) (λ text. InText P path place text a) → MatchOption o (b ≡ Null) (λ text. InText P path place text b) → a ≡ b
in_texts P path place None a b one h k = h ∙ sym k
in_texts P path place (Some text) a b one h k = in_text P path place text a b one h k

at_path : (P : Told) (texts : Texts) (place : Position) (o : Option (List ℕ)) (a b : Outcome) → ((path : List ℕ) (place : At) → P path place a → P path place b → a ≡ b)
    → MatchOption o (a ≡ Null) (λ path. MatchOption (texts path) (a ≡ Null) (λ text. InText P path place text a))
    → MatchOption o (b ≡ Null) (λ path. MatchOption (texts path) (b ≡ Null) (λ text. InText P path place text b)) → a ≡ b
at_path P texts place None a b one h k = h ∙ sym k
at_path P texts place (Some path) a b one h k = in_texts P path place (texts path) a b one h k

placed_same : (P : Told) (root : List ℕ) (texts : Texts) (uri : List ℕ) (place : Position) (a b : Outcome)
    → ((path : List ℕ) (place : At) → P path place a → P path place b → a ≡ b)
    → IsPlaced root texts uri place P a → IsPlaced root texts uri place P b → a ≡ b
placed_same P root texts uri place a b one h k = at_path P texts place (path_under root uri) a b one h k

-- ---- definitions

same_rows : (r s : Result Answer AskFault) (a b : Answer) → r ≡ s → r ≡ Ok a → s ≡ Ok b → a ≡ b
same_rows r s a b e h k = cc

same_fault : (a b : AskFault) → ◌≡◌ {A = Result Answer AskFault} (Err a) (Err b) → a ≡ b
same_fault a b e = cc

not_fault : (a : Answer) (f : AskFault) → ◌≡◌ {A = Result Answer AskFault} (Ok a) (Err f) → ⊥
not_fault a f e = cc

define_same : (files : List GraphRow) (path : List ℕ) (place : At) (a b : Result Answer AskFault)
    → IsDefineReply usual files path place a → IsDefineReply usual files path place b → a ≡ b
define_same files path place a b h k = one_reply.define usual files files path place a b refl h k

one_definitions : (files : List GraphRow) (path : List ℕ) (place : At) (r s : Result (List Row) AskFault)
    → AreDefinitions files path place r → AreDefinitions files path place s → r ≡ s
one_definitions files path place (Ok xs) (Ok ys) h k =
    let answers : h.0 ≡ k.0 = same_rows (Ok h.0) (Ok k.0) h.0 k.0 (define_same files path place (Ok h.0) (Ok k.0) h.2 k.2) refl refl in
    ap (λ (rows : List Row). Ok rows) (h.1 ∙ ap (λ (answer : Answer). answer.rows) answers ∙ sym k.1)
one_definitions files path place (Ok xs) (Err f) h k = absurd (not_fault h.0 f (define_same files path place (Ok h.0) (Err f) h.2 k))
one_definitions files path place (Err e) (Ok ys) h k = absurd (not_fault k.0 e (define_same files path place (Ok k.0) (Err e) k.2 h))
one_definitions files path place (Err e) (Err f) h k = ap (λ (x : AskFault). Err x) (same_fault e f (define_same files path place (Err e) (Err f) h k))

told_rows : (root : List ℕ) (texts : Texts) (r : Result (List Row) AskFault) (a b : Outcome)
    → MatchResult r (λ rows. a ≡ located root texts rows) (λ fault. a ≡ outcome_of_fault fault)
    → MatchResult r (λ rows. b ≡ located root texts rows) (λ fault. b ≡ outcome_of_fault fault) → a ≡ b
told_rows root texts (Ok rows) a b h k = h ∙ sym k
told_rows root texts (Err fault) a b h k = h ∙ sym k

definitions_same : (files : List GraphRow) (root : List ℕ) (texts : Texts) (path : List ℕ) (place : At) (a b : Outcome)
    → TellsDefinitions files root texts path place a → TellsDefinitions files root texts path place b → a ≡ b
definitions_same files root texts path place a b h k =
    let found : k.found ≡ h.found = one_definitions files path place k.found h.found k.exact h.exact in
    told_rows root texts h.found a b h.told
    (subst (λ (r : Result (List Row) AskFault). MatchResult r (λ rows. b ≡ located root texts rows) (λ fault. b ≡ outcome_of_fault fault)) found k.told)

-- ---- the targets of references

targets_by : (files : List GraphRow) (path : List ℕ) (place : At) (m : Result NodeAt AskFault) (r s : Result (List Row) AskFault)
    → MatchResult m (λ node. r ≡ Ok (row_of files (hit_of node) ∷ [])) (λ fault. AreDefinitions files path place r)
    → MatchResult m (λ node. s ≡ Ok (row_of files (hit_of node) ∷ [])) (λ fault. AreDefinitions files path place s) → r ≡ s
targets_by files path place (Ok node) r s h k = h ∙ sym k
targets_by files path place (Err fault) r s h k = one_definitions files path place r s h k

one_targets : (files : List GraphRow) (path : List ℕ) (place : At) (r s : Result (List Row) AskFault)
    → AreTargets files path place r → AreTargets files path place s → r ≡ s
one_targets files path place r s h k = targets_by files path place (meant is_definition_kind ask.NoDefinition files path place) r s h k

-- ---- the references of each

references_same : (files : List GraphRow) (path : List ℕ) (place : At) (a b : Result Answer AskFault)
    → IsReferencesReply usual files path place a → IsReferencesReply usual files path place b → a ≡ b
references_same files path place a b h k = one_reply.references usual files files path place a b refl h k

one_refer : (files : List GraphRow) (target : Row) (xs ys : List Row) → ReferTo usual files target xs → ReferTo usual files target ys → xs ≡ ys
one_refer files target xs ys h k =
    let found : h.0 ≡ k.0 = references_same files target.path (at.Node target.node) h.0 k.0 h.1 k.1 in
    same_Some xs ys (sym h.2 ∙ ap rows_found found ∙ k.2)

one_each : (files : List GraphRow) (targets xs ys : List Row) → ReferToEach usual files targets xs → ReferToEach usual files targets ys → xs ≡ ys
one_each files [] xs ys h k = h ∙ sym k
one_each files (target ∷ targets) xs ys (rows, more, refer, each, is) (rows', more', refer', each', is') =
    is ∙ ap (λ (rs : List Row). rs ++ more) (one_refer files target rows rows' refer refer')
    ∙ ap (λ (rs : List Row). rows' ++ rs) (one_each files targets more more' each each') ∙ sym is'

-- a target with crowded references is none of those that have rows
not_crowded : (files : List GraphRow) (targets xs : List Row) (target : Row) → ReferToEach usual files targets xs → IsIn target targets
    → IsReferencesReply usual files target.path (at.Node target.node) (Err ask.Crowded) → ⊥
not_crowded files [] xs target each m crowded = m
not_crowded files (first ∷ targets) xs target (rows, more, refer, each, is) (inl e) crowded =
    let here : IsReferencesReply usual files first.path (at.Node first.node) (Err ask.Crowded) =
    subst (λ (r : Row). IsReferencesReply usual files r.path (at.Node r.node) (Err ask.Crowded)) e crowded in
    let found : refer.0 ≡ Err ask.Crowded = references_same files first.path (at.Node first.node) refer.0 (Err ask.Crowded) refer.1 here in
    none-some rows (sym (ap rows_found found) ∙ refer.2)
not_crowded files (first ∷ targets) xs target (rows, more, refer, each, is) (inr m) crowded = not_crowded files targets more target each m crowded

-- ---- each row is of a file that is there

of_hits : (files : List GraphRow) (hits : List Hit) (row : Row) → ((hit : Hit) → Contains hits hit → (f : GraphRow) × (slice_get files hit.file ≡ Some f))
    → IsIn row (map (row_of files) hits) → IsOfFile files row
of_hits files hits row there m =
    let from = IsIn-map_from (row_of files) row hits m in
    let file = there from.0 (Contains-from_IsIn hits from.0 from.1) in
    record { hit = from.0; file = file.0; there = file.1; is = sym from.2 }

reference_there : (files : List GraphRow) (definition hit : Hit) → IsReferenceOf usual (graphs_in files) definition hit → (f : GraphRow) × (slice_get files hit.file ≡ Some f)
reference_there files definition hit h =
    node_there files hit.file hit.node (start_at (node_at hit.file hit.node)) (λ c. IsDefinitionFrom usual (graphs_in files) c definition) h

of_reference : (files : List GraphRow) (node : NodeAt) (answer : Answer) (row : Row) → IsReferenceReply usual files node (Ok answer) → IsIn row answer.rows → IsOfFile files row
of_reference files node answer row h m =
    of_hits files h.1.hits row (λ hit inside. reference_there files (hit_of node) hit ((h.1.exact.exact hit).0 inside))
    (subst (λ (rows : List Row). IsIn row rows) h.1.told m)

of_meant : (files : List GraphRow) (r : Result NodeAt AskFault) (answer : Answer) (row : Row)
    → MatchResult r (λ node. IsReferenceReply usual files node (Ok answer)) (λ fault. ◌≡◌ {A = Result Answer AskFault} (Ok answer) (Err fault))
    → IsIn row answer.rows → IsOfFile files row
of_meant files (Ok node) answer row h m = of_reference files node answer row h m
of_meant files (Err fault) answer row h m = absurd (not_fault answer fault h)

of_found : (files : List GraphRow) (target : Row) (found : Result Answer AskFault) (rows : List Row) (row : Row)
    → IsReferencesReply usual files target.path (at.Node target.node) found → rows_found found ≡ Some rows → IsIn row rows → IsOfFile files row
of_found files target (Ok answer) rows row reply told m =
    of_meant files (meant is_definition_kind ask.NoDefinition files target.path (at.Node target.node)) answer row reply
    (subst (λ (rs : List Row). IsIn row rs) (sym (same_Some answer.rows rows told)) m)
of_found files target (Err ask.NoFile) rows row reply told m = absurd (subst (λ (rs : List Row). IsIn row rs) (sym (same_Some [] rows told)) m)
of_found files target (Err ask.NoReference) rows row reply told m = absurd (subst (λ (rs : List Row). IsIn row rs) (sym (same_Some [] rows told)) m)
of_found files target (Err ask.NoDefinition) rows row reply told m = absurd (subst (λ (rs : List Row). IsIn row rs) (sym (same_Some [] rows told)) m)
of_found files target (Err ask.Crowded) rows row reply told m = absurd (none-some rows told)
of_found files target (Err ask.NoMemory) rows row reply told m = absurd (none-some rows told)

either : {A B P : Type 0} → (A → P) → (B → P) → A ⊎ B → P
either f g (inl a) = f a
either f g (inr b) = g b

of_each : (files : List GraphRow) (targets all : List Row) (row : Row) → ReferToEach usual files targets all → IsIn row all → IsOfFile files row
of_each files [] all row each m = absurd (subst (λ (rs : List Row). IsIn row rs) each m)
of_each files (target ∷ targets) all row (rows, more, refer, each, is) m =
    either (λ h. of_found files target refer.0 rows row refer.1 refer.2 h) (λ h. of_each files targets more row each h)
    (IsIn-append_cases row rows more (subst (λ (rs : List Row). IsIn row rs) is m))

-- a definition is a node of a file
definition_of_there : (files : List GraphRow) (n node : ℕ) → IsTrue (is_definition_of (graphs_in files) n node) → (f : GraphRow) × (slice_get files n ≡ Some f)
definition_of_there files n node h = by (slice_get (graphs_in files) n) refl h
  where
    by : (o : Option Graph) → slice_get (graphs_in files) n ≡ o → IsTrue (option_map_or (λ (g : Graph). is_definition g.nodes node) o false) → (f : GraphRow) × (slice_get files n ≡ Some f)
    by None is k = absurd (cc k)
    by (Some g) is k = file_there files n g is

spot_there : (files : List GraphRow) (s : Spot) (hit : Hit) → IsTrue (is_definition_spot (graphs_in files) s) → IsTrue (is_node hit.file hit.node s) → (f : GraphRow) × (slice_get files hit.file ≡ Some f)
spot_there files spot.Root hit h k = absurd (cc k)
spot_there files (spot.At node) hit h k =
    let file : node.file ≡ hit.file = eqb-true node.file hit.file (and_parts (nat_eq node.file hit.file) (nat_eq node.node hit.node) k).0 in
    let there = definition_of_there files node.file node.node h in
    (there.0, ap (slice_get files) (sym file) ∙ there.1)

end_there : (files : List GraphRow) (o : Option Config) (hit : Hit) → IsSomeAnd o (IsAtDefinition (graphs_in files)) → IsSomeAnd o (λ (end : Config). IsTrue (is_node hit.file hit.node end.spot))
    → (f : GraphRow) × (slice_get files hit.file ≡ Some f)
end_there files None hit h k = absurd h
end_there files (Some c) hit h k = spot_there files c.spot hit h.definition k

definition_there : (files : List GraphRow) (c : Config) (hit : Hit) → IsDefinitionFrom usual (graphs_in files) c hit → (f : GraphRow) × (slice_get files hit.file ≡ Some f)
definition_there files c hit (es, unshadowed, ends) = end_there files (run (graphs_in files) c es) hit unshadowed.bounded_complete.complete.ends ends

of_definitions : (files : List GraphRow) (o : Option Config) (answer : Answer) (row : Row)
    → IsSomeAnd o (λ c. IsReplyAbout (IsDefinitionFrom usual (graphs_in files) c) (HasLimit usual (graphs_in files) c) (IsCrowded usual (graphs_in files) c) files (Ok answer))
    → IsIn row answer.rows → IsOfFile files row
of_definitions files None answer row h m = absurd h
of_definitions files (Some c) answer row h m =
    of_hits files h.1.hits row (λ hit inside. definition_there files c hit ((h.1.exact.exact hit).0 inside)) (subst (λ (rows : List Row). IsIn row rows) h.1.told m)

of_define : (files : List GraphRow) (r : Result NodeAt AskFault) (answer : Answer) (row : Row)
    → MatchResult r (λ node. IsDefinitionReply usual files node (Ok answer)) (λ fault. ◌≡◌ {A = Result Answer AskFault} (Ok answer) (Err fault))
    → IsIn row answer.rows → IsOfFile files row
of_define files (Ok node) answer row h m = of_definitions files (start (graphs_in files) node) answer row h m
of_define files (Err fault) answer row h m = absurd (not_fault answer fault h)

-- the node that is meant is one of a file
meant_there : (files : List GraphRow) (path : List ℕ) (place : At) (node : NodeAt) → meant is_definition_kind ask.NoDefinition files path place ≡ Ok node
    → (f : GraphRow) × (slice_get files node.file ≡ Some f)
meant_there files path place node e = by (number_of path files) e
  where
    in_file : (file : ℕ) (m : Option ℕ) → ok_or (option_map (node_at file) m) ask.NoDefinition ≡ Ok node → node.file ≡ file
    in_file file None e = absurd (cc e)
    in_file file (Some n) e = let is : node_at file n ≡ node = cc in sym (ap (λ (x : NodeAt). x.file) is)

    by_file : (file : ℕ) (o : Option GraphRow) → slice_get files file ≡ o
        → ok_or (option_map (node_at file) (option_and_then (λ (row : GraphRow). node_meant is_definition_kind row.graph.nodes place) o)) ask.NoDefinition ≡ Ok node
        → (f : GraphRow) × (slice_get files node.file ≡ Some f)
    by_file file None is e = absurd (cc e)
    by_file file (Some f) is e = (f, ap (slice_get files) (in_file file (node_meant is_definition_kind f.graph.nodes place) e) ∙ is)

    by : (o : Option ℕ) → option_map_or (λ (file : ℕ). ok_or (option_map (node_at file) (meant_in is_definition_kind place files file)) ask.NoDefinition) o (Err ask.NoFile) ≡ Ok node
        → (f : GraphRow) × (slice_get files node.file ≡ Some f)
    by None e = absurd (cc e)
    by (Some file) e = by_file file (slice_get files file) refl e

same_ok : (xs ys : List Row) → ◌≡◌ {A = Result (List Row) AskFault} (Ok xs) (Ok ys) → xs ≡ ys
same_ok xs ys e = cc

of_targets : (files : List GraphRow) (path : List ℕ) (place : At) (targets : List Row) (row : Row) → AreTargets files path place (Ok targets) → IsIn row targets → IsOfFile files row
of_targets files path place targets row h m = by (meant is_definition_kind ask.NoDefinition files path place) refl h
  where
    one_of : (node : NodeAt) → meant is_definition_kind ask.NoDefinition files path place ≡ Ok node → IsIn row (row_of files (hit_of node) ∷ []) → IsOfFile files row
    one_of node is (inl e) = let there = meant_there files path place node is in record { hit = hit_of node; file = there.0; there = there.1; is = e }
    one_of node is (inr k) = absurd k

    by : (r : Result NodeAt AskFault) → meant is_definition_kind ask.NoDefinition files path place ≡ r
        → MatchResult r (λ node. ◌≡◌ {A = Result (List Row) AskFault} (Ok targets) (Ok (row_of files (hit_of node) ∷ []))) (λ fault. AreDefinitions files path place (Ok targets))
        → IsOfFile files row
    by (Ok node) is k = one_of node is (subst (λ (rs : List Row). IsIn row rs) (same_ok targets (row_of files (hit_of node) ∷ []) k) m)
    by (Err fault) is k =
        of_define files (meant is_reference_kind ask.NoReference files path place) k.0 row k.2 (subst (λ (rs : List Row). IsIn row rs) k.1 m)

of_all : (files : List GraphRow) (path : List ℕ) (place : At) (targets all : List Row) (declaration : Bool) (row : Row) → AreTargets files path place (Ok targets)
    → ReferToEach usual files targets all → IsIn row (if declaration then all ++ targets else all) → IsOfFile files row
of_all files path place targets all false row are each m = of_each files targets all row each m
of_all files path place targets all true row are each m = by (IsIn-append_cases row all targets m)
  where
    by : IsIn row all ⊎ IsIn row targets → IsOfFile files row
    by (inl h) = of_each files targets all row each h
    by (inr h) = of_targets files path place targets row are h

-- ---- references

union_same : (files : List GraphRow) (root : List ℕ) (texts : Texts) (path : List ℕ) (place : At) (targets : List Row) (declaration : Bool) (a b : Outcome) → HavePathsApart files
    → AreTargets files path place (Ok targets) → IsUnion files root texts targets declaration a → IsUnion files root texts targets declaration b → a ≡ b
union_same files root texts path place targets declaration a b apart are h k =
    let all : k.all ≡ h.all = one_each files targets k.all h.all k.referred h.referred in
    let order = subst (λ (rs : List Row). AreInOrder (if declaration then rs ++ targets else rs) k.rows) all k.in_order in
    let rows : h.rows ≡ k.rows = one_order files (if declaration then h.all ++ targets else h.all) h.rows k.rows apart
    (λ row m. of_all files path place targets h.all declaration row are h.referred m) h.in_order order in
    h.told ∙ ap (located root texts) rows ∙ sym k.told

tells_same : (files : List GraphRow) (root : List ℕ) (texts : Texts) (path : List ℕ) (place : At) (targets : List Row) (declaration : Bool) (a b : Outcome) → HavePathsApart files
    → AreTargets files path place (Ok targets) → TellsTargets files root texts targets declaration a → TellsTargets files root texts targets declaration b → a ≡ b
tells_same files root texts path place targets declaration a b apart are (inl h) (inl k) = union_same files root texts path place targets declaration a b apart are h k
tells_same files root texts path place targets declaration a b apart are (inl h) (inr (crowded, told)) =
    absurd (not_crowded files targets h.all crowded.0 h.referred (IsIn-from_Contains targets crowded.0 crowded.1) crowded.2)
tells_same files root texts path place targets declaration a b apart are (inr (crowded, told)) (inl k) =
    absurd (not_crowded files targets k.all crowded.0 k.referred (IsIn-from_Contains targets crowded.0 crowded.1) crowded.2)
tells_same files root texts path place targets declaration a b apart are (inr (crowded, told)) (inr (crowded', told')) = told ∙ sym told'

told_targets : (files : List GraphRow) (root : List ℕ) (texts : Texts) (path : List ℕ) (place : At) (declaration : Bool) (r : Result (List Row) AskFault) (a b : Outcome) → HavePathsApart files
    → AreTargets files path place r
    → MatchResult r (λ rows. TellsTargets files root texts rows declaration a) (λ fault. a ≡ outcome_of_fault fault)
    → MatchResult r (λ rows. TellsTargets files root texts rows declaration b) (λ fault. b ≡ outcome_of_fault fault) → a ≡ b
told_targets files root texts path place declaration (Ok rows) a b apart are h k = tells_same files root texts path place rows declaration a b apart are h k
told_targets files root texts path place declaration (Err fault) a b apart are h k = h ∙ sym k

references_told : (files : List GraphRow) (root : List ℕ) (texts : Texts) (declaration : Bool) (path : List ℕ) (place : At) (a b : Outcome) → HavePathsApart files
    → TellsReferences files root texts declaration path place a → TellsReferences files root texts declaration path place b → a ≡ b
references_told files root texts declaration path place a b apart h k =
    let targets : k.targets ≡ h.targets = one_targets files path place k.targets h.targets k.exact h.exact in
    told_targets files root texts path place declaration h.targets a b apart h.exact h.told
    (subst (λ (r : Result (List Row) AskFault). MatchResult r (λ rows. TellsTargets files root texts rows declaration b) (λ fault. b ≡ outcome_of_fault fault)) targets k.told)

pub one_outcome : PlacesHaveOneOutcome
one_outcome = record {
  definitions = λ files root texts uri place a b h k.
      placed_same (TellsDefinitions files root texts) root texts uri place a b
      (λ path spot x y. definitions_same files root texts path spot a b x y) h k;
  references = λ files root texts declaration uri place a b apart h k.
      placed_same (TellsReferences files root texts declaration) root texts uri place a b
      (λ path spot x y. references_told files root texts declaration path spot a b apart x y) h k;
}
