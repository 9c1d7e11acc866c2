-- The references of any of several definitions are those of each of them, put together.
use Rattle.std.proofs.Common.{Contains, ◌≡◌, refl, sym, ◌∙◌, ap, subst, ℕ, List, [], ◌∷◌, ◌++◌, length, map, Option, Some, None, Result, Ok, Err, ◌⊎◌, inl, inr}
use Rattle.std.specs.Prelude.{MatchResult, ok_or}
use Rattle.std.specs.List.{cons_option}
use Rattle.std.specs.Option.{option_map, option_map_or}
use Rattle.std.proofs.lemmas.List.{nil_from_length}
use Rattle.graph_nodes.specs.Graph.{is_definition_kind}
use Rattle.stacks_vars.specs.declared.scopes.NodeAt.{NodeAt}
use Rattle.partial_path.specs.declared.bounds.Bounds.{Bounds}
use Rattle.partial_path.specs.Spots.{node_at}
use Rattle.partial_path.specs.Step.{start}
use Rattle.version_tree.specs.declared.row.Answer.{Answer}
use Rattle.version_tree.specs.declared.row.Row.{Row}
use Rattle.version_tree.specs.Graphs.{GraphRow}
use Rattle.whole_search.specs.declared.found.Hit.{Hit}
use Rattle.whole_search.specs.Answers.{IsDefinitionFrom, IsReferenceOf, IsAnyCrowded, HasAnyLimit}
use Rattle.list_facts.specs.Members.{IsIn}
use Rattle.list_facts.proofs.Members.{IsIn-append_left, IsIn-append_right, IsIn-append_cases, IsIn-map, IsIn-map_from, IsIn-from_Contains, Contains-from_IsIn}
use Rattle.nav_answers.specs.declared.found.At.{At}
use Rattle.nav_answers.specs.declared.found.At.TheVariants as at
use Rattle.nav_answers.specs.declared.found.AskFault.{AskFault}
use Rattle.nav_answers.specs.declared.found.AskFault.TheVariants.{NoFile, NoDefinition, Crowded, NoMemory}
use Rattle.nav_answers.specs.Replies.{graphs_in, number_of, meant_in, meant, hit_of, row_of, rows_found, IsAnswer, IsReferenceReply, IsReferencesReply, ReferToEach, ReferToAny, IsReferencesOfAnyReply}
use Rattle.nav_answers.specs.Asking.{IsOneFrom, IsReferenceOfAny, IsReplyToAny, HasReferences, hit_at, definitions_named}
use Rattle.nav_answers.proofs.Referred.{some_so, one_meant}

-- where no definition is meant, there are no rows
abbrev refusal : Result NodeAt AskFault → Result Answer AskFault
refusal (Ok node) = Err NoFile
refusal (Err fault) = Err fault

no_node : (file : ℕ) (o : Option ℕ) → rows_found (refusal (ok_or (option_map (node_at file) o) NoDefinition)) ≡ Some []
no_node file None = refl
no_node file (Some n) = refl

no_file : (files : List GraphRow) (where_ : At) (o : Option ℕ)
    → rows_found (refusal (option_map_or (λ (file : ℕ). ok_or (option_map (node_at file) (meant_in is_definition_kind where_ files file)) NoDefinition) o (Err NoFile))) ≡ Some []
no_file files where_ None = refl
no_file files where_ (Some file) = no_node file (meant_in is_definition_kind where_ files file)

-- the definition at the node that the row names, or why there is none
abbrev pub meant_by : List GraphRow → Row → Result NodeAt AskFault
meant_by files row = meant is_definition_kind NoDefinition files row.path (at.Node row.node)

no_rows : (files : List GraphRow) (row : Row) (fault : AskFault) → meant_by files row ≡ Err fault → rows_found (Err fault) ≡ Some []
no_rows files row fault e = subst (λ (r : Result NodeAt AskFault). rows_found (refusal r) ≡ Some []) e (no_file files (at.Node row.node) (number_of row.path files))

replies_met : (bounds : Bounds) (files : List GraphRow) (row : Row) (node : NodeAt) (reply : Result Answer AskFault) → meant_by files row ≡ Ok node
    → IsReferenceReply bounds files node reply → IsReferencesReply bounds files row.path (at.Node row.node) reply
replies_met bounds files row node reply e h =
    subst (λ (r : Result NodeAt AskFault). MatchResult r (λ at_. IsReferenceReply bounds files at_ reply) (λ fault. reply ≡ Err fault)) (sym e) h

refused_there : (bounds : Bounds) (files : List GraphRow) (row : Row) (fault : AskFault) → meant_by files row ≡ Err fault
    → IsReferencesReply bounds files row.path (at.Node row.node) (Err fault)
refused_there bounds files row fault e =
    subst (λ (r : Result NodeAt AskFault). MatchResult r (λ at_. IsReferenceReply bounds files at_ (Err fault)) (λ other. ◌≡◌ {A = Result Answer AskFault} (Err fault) (Err other))) (sym e) refl

-- the row tells of a reference of one of the definitions
abbrev IsRowOf : Bounds → List GraphRow → List Hit → Row → Type 0
IsRowOf bounds files definitions row =
    (hit definition : Hit) × IsIn definition definitions × IsReferenceOf bounds (graphs_in files) definition hit × (row_of files hit ≡ row)

-- the references of the nodes that rows name, of which those are the definitions
record AreOfEach (bounds : Bounds) (files : List GraphRow) (rows : List Row) (definitions : List Hit) : Type 0 where
  pub all : List Row
  pub each : ReferToEach bounds files rows all
  pub among : (row : Row) → IsIn row all → IsRowOf bounds files definitions row
  pub whole : (row : Row) → IsRowOf bounds files definitions row → IsIn row all

-- a definition has such an answer
abbrev HasAnswer : Bounds → List GraphRow → Hit → Type 0
HasAnswer bounds files definition =
    (answer : Answer) × (IsAnyCrowded bounds (graphs_in files) → ⊥)
    × IsAnswer (IsReferenceOf bounds (graphs_in files) definition) (HasAnyLimit bounds (graphs_in files)) files answer

-- one more node that a row names
one_passed : (bounds : Bounds) (files : List GraphRow) (row : Row) (rows : List Row) (definitions : List Hit) (fault : AskFault) → meant_by files row ≡ Err fault
    → AreOfEach bounds files rows definitions → AreOfEach bounds files (row ∷ rows) definitions
one_passed bounds files row rows definitions fault e rest = record {
  all = rest.all;
  each = ([], rest.all, (Err fault, refused_there bounds files row fault e, no_rows files row fault e), rest.each, refl);
  among = rest.among;
  whole = rest.whole;
}

one_met : (bounds : Bounds) (files : List GraphRow) (row : Row) (rows : List Row) (definitions : List Hit) (node : NodeAt) → meant_by files row ≡ Ok node
    → HasAnswer bounds files (hit_of node) → AreOfEach bounds files rows definitions → AreOfEach bounds files (row ∷ rows) (hit_of node ∷ definitions)
one_met bounds files row rows definitions node e has rest = record {
  all = has.0.rows ++ rest.all;
  each = (has.0.rows, rest.all, (Ok has.0, replies_met bounds files row node (Ok has.0) e (has.1, has.2), refl), rest.each, refl);
  among = λ other m. by_place other (IsIn-append_cases other has.0.rows rest.all m);
  whole = λ other h. by_definition other h.0 h.1 h.2 h.3 h.4;
}
  where
    by_place : (other : Row) → IsIn other has.0.rows ⊎ IsIn other rest.all → IsRowOf bounds files (hit_of node ∷ definitions) other
    by_place other (inl m) =
        let k = IsIn-map_from (row_of files) other has.2.hits (subst (λ (xs : List Row). IsIn other xs) has.2.told m) in
        (k.0, hit_of node, inl refl, (has.2.exact.exact k.0).0 (Contains-from_IsIn has.2.hits k.0 k.1), k.2)
    by_place other (inr m) = let k = rest.among other m in (k.0, k.1, inr k.2, k.3, k.4)

    by_definition : (other : Row) (hit definition : Hit) → (definition ≡ hit_of node) ⊎ IsIn definition definitions → IsReferenceOf bounds (graphs_in files) definition hit
        → row_of files hit ≡ other → IsIn other (has.0.rows ++ rest.all)
    by_definition other hit definition (inl same) refers is =
        let there = (has.2.exact.exact hit).1 (subst (λ (d : Hit). IsReferenceOf bounds (graphs_in files) d hit) same refers) in
        IsIn-append_left other has.0.rows rest.all
        (subst (λ (xs : List Row). IsIn other xs) (sym has.2.told)
        (subst (λ (r : Row). IsIn r (map (row_of files) has.2.hits)) is (IsIn-map (row_of files) hit has.2.hits (IsIn-from_Contains has.2.hits hit there))))
    by_definition other hit definition (inr m) refers is = IsIn-append_right other has.0.rows rest.all (rest.whole other (hit, definition, m, refers, is))

of_each : (bounds : Bounds) (files : List GraphRow) (rows : List Row) → ((definition : Hit) → IsIn definition (definitions_named files rows) → HasAnswer bounds files definition)
    → AreOfEach bounds files rows (definitions_named files rows)
of_each bounds files [] has = record { all = []; each = refl; among = λ row m. absurd m; whole = λ row h. absurd h.2 }
of_each bounds files (row ∷ rows) has = by (meant_by files row) refl has (of_each bounds files rows)
  where
    by : (r : Result NodeAt AskFault) → meant_by files row ≡ r
        → ((definition : Hit) → IsIn definition (cons_option (hit_at r) (definitions_named files rows)) → HasAnswer bounds files definition)
        → (((definition : Hit) → IsIn definition (definitions_named files rows) → HasAnswer bounds files definition) → AreOfEach bounds files rows (definitions_named files rows))
        → AreOfEach bounds files (row ∷ rows) (cons_option (hit_at r) (definitions_named files rows))
    by (Ok node) e has more = one_met bounds files row rows (definitions_named files rows) node e (has (hit_of node) (inl refl)) (more (λ d m. has d (inr m)))
    by (Err fault) e has more = one_passed bounds files row rows (definitions_named files rows) fault e (more has)

-- the rows of the answer are the references of all
pub united : (bounds : Bounds) (files : List GraphRow) (rows : List Row) (definitions : List Hit) (answer : Answer) → definitions ≡ definitions_named files rows
    → IsReplyToAny bounds files definitions (Ok answer) → ((definition : Hit) → Contains definitions definition → HasReferences bounds (graphs_in files) definition)
    → ReferToAny bounds files rows answer.rows
united bounds files rows definitions answer is reply alone =
    let parts = subst (AreOfEach bounds files rows) (sym is) (of_each bounds files rows (λ d m. has d (subst (λ (ds : List Hit). IsIn d ds) (sym is) m))) in
    record {
      all = parts.all;
      each = parts.each;
      same = λ row. (
        λ h. Contains-from_IsIn parts.all row (parts.whole row (refers row (IsIn-from_Contains answer.rows row h))),
        λ h. Contains-from_IsIn answer.rows row (referred row (parts.among row (IsIn-from_Contains parts.all row h))),
      );
      hits = reply.1.hits;
      rising = reply.1.exact.rising;
      told = reply.1.told;
    }
  where
    has : (definition : Hit) → IsIn definition definitions → HasAnswer bounds files definition
    has definition m =
        let refs = alone definition (Contains-from_IsIn definitions definition m) in
        (record { limit = answer.limit; rows = map (row_of files) refs.0 }, reply.0, record { hits = refs.0; exact = refs.1; told = refl; limit = reply.1.limit })

    refers : (row : Row) → IsIn row answer.rows → IsRowOf bounds files definitions row
    refers row m =
        let k = IsIn-map_from (row_of files) row reply.1.hits (subst (λ (xs : List Row). IsIn row xs) reply.1.told m) in
        let p = one_meant bounds (graphs_in files) definitions (start (graphs_in files) (node_at k.0.file k.0.node)) ((reply.1.exact.exact k.0).0 (Contains-from_IsIn reply.1.hits k.0 k.1)) in
        (k.0, p.0, p.1, p.2, k.2)

    referred : (row : Row) → IsRowOf bounds files definitions row → IsIn row answer.rows
    referred row h =
        let any : IsReferenceOfAny bounds (graphs_in files) definitions h.0
        = some_so (start (graphs_in files) (node_at h.0.file h.0.node)) (λ c. IsDefinitionFrom bounds (graphs_in files) c h.1) (IsOneFrom bounds (graphs_in files) definitions)
        (λ c k. (h.1, Contains-from_IsIn definitions h.1 h.2, k)) h.3 in
        subst (λ (xs : List Row). IsIn row xs) (sym reply.1.told)
        (subst (λ (r : Row). IsIn r (map (row_of files) reply.1.hits)) h.4
        (IsIn-map (row_of files) h.0 reply.1.hits (IsIn-from_Contains reply.1.hits h.0 ((reply.1.exact.exact h.0).1 any))))

-- without a definition there are no rows
nothing_named : (bounds : Bounds) (files : List GraphRow) (rows : List Row) → definitions_named files rows ≡ [] → ReferToAny bounds files rows []
nothing_named bounds files rows is =
    let parts = subst (AreOfEach bounds files rows) is (of_each bounds files rows (λ d m. absurd (subst (λ (ds : List Hit). IsIn d ds) is m))) in
    record {
      all = parts.all;
      each = parts.each;
      same = λ row. (
        λ h. absurd (IsIn-from_Contains [] row h),
        λ h. absurd (parts.among row (IsIn-from_Contains parts.all row h)).2,
      );
      hits = [];
      rising = tt;
      told = refl;
    }

pub none_named : (bounds : Bounds) (files : List GraphRow) (rows told : List Row) (definitions : List Hit) → definitions ≡ definitions_named files rows → length definitions ≡ 0
    → told ≡ [] → ReferToAny bounds files rows told
none_named bounds files rows told definitions named none nothing =
    subst (ReferToAny bounds files rows) (sym nothing) (nothing_named bounds files rows (sym named ∙ nil_from_length definitions none))

-- and with one the reply is crowded where a reference is
named_by : (files : List GraphRow) (rows : List Row) (definition : Hit) → IsIn definition (definitions_named files rows)
    → (row : Row) × IsIn row rows × (node : NodeAt) × (meant_by files row ≡ Ok node)
named_by files [] definition m = absurd m
named_by files (row ∷ rows) definition m = by (meant_by files row) refl m (named_by files rows definition)
  where
    by : (r : Result NodeAt AskFault) → meant_by files row ≡ r → IsIn definition (cons_option (hit_at r) (definitions_named files rows))
        → (IsIn definition (definitions_named files rows) → (other : Row) × IsIn other rows × (node : NodeAt) × (meant_by files other ≡ Ok node))
        → (other : Row) × IsIn other (row ∷ rows) × (node : NodeAt) × (meant_by files other ≡ Ok node)
    by (Ok node) e m more = (row, inl refl, node, e)
    by (Err fault) e m more = let k = more m in (k.0, inr k.1, k.2, k.3)

first_of : {X : Type 0} (xs : List X) → (length xs ≡ 0 → ⊥) → (x : X) × IsIn x xs
first_of [] h = absurd (h refl)
first_of (x ∷ xs) h = (x, inl refl)

one_crowded : (bounds : Bounds) (files : List GraphRow) (rows : List Row) (definitions : List Hit) → definitions ≡ definitions_named files rows → (length definitions ≡ 0 → ⊥)
    → IsAnyCrowded bounds (graphs_in files) → IsReferencesOfAnyReply bounds files rows (Err Crowded)
one_crowded bounds files rows definitions is some crowded =
    let d = first_of definitions some in
    let k = named_by files rows d.0 (subst (λ (ds : List Hit). IsIn d.0 ds) is d.1) in
    ((k.0, Contains-from_IsIn rows k.0 k.1, replies_met bounds files k.0 k.2 (Err Crowded) k.3 (crowded, refl)), refl)

-- a fault in place of the answer
pub refused : (bounds : Bounds) (files : List GraphRow) (rows : List Row) (definitions : List Hit) (fault : AskFault) → definitions ≡ definitions_named files rows
    → (length definitions ≡ 0 → ⊥) → IsReplyToAny bounds files definitions (Err fault) → IsReferencesOfAnyReply bounds files rows (Err fault)
refused bounds files rows definitions fault is some h =
    subst (λ (f : AskFault). IsReferencesOfAnyReply bounds files rows (Err f)) (sym h.1) (one_crowded bounds files rows definitions is some h.0)

pub no_other : (fault : AskFault) → ((◌≡◌ {A = Result (List Row) AskFault} (Err fault) (Err NoMemory)) → ⊥) → (◌≡◌ {A = Result Answer AskFault} (Err fault) (Err NoMemory)) → ⊥
no_other fault h e = let same : fault ≡ NoMemory = cc in h (ap (λ (f : AskFault). Err f) same)
