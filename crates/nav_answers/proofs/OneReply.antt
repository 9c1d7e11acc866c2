-- Two replies to one query are equal.
use Rattle.std.proofs.Common.{◌≡◌, refl, sym, ◌∙◌, ap, subst, List, [], ◌∷◌, map, Bool, true, false, Option, Some, None, IsSomeAnd, Result, Ok, Err, MatchResult, IsTrue, ◌↔◌, ◌⊎◌, inl, inr, arith}
use Rattle.graph_nodes.specs.Graph.{is_reference_kind, is_definition_kind}
use Rattle.stacks_vars.specs.declared.scopes.NodeAt.{NodeAt}
use Rattle.partial_path.specs.declared.config.Config.{Config}
use Rattle.partial_path.specs.Step.{start}
use Rattle.partial_path.specs.Counted.{IsCrowded, HasLimit}
use Rattle.version_tree.specs.declared.row.Answer.{Answer}
use Rattle.version_tree.specs.declared.row.Row.{Row}
use Rattle.version_tree.specs.Graphs.{GraphRow}
use Rattle.whole_search.specs.declared.found.Hit.{Hit}
use Rattle.whole_search.specs.Answers.{ComesBefore, IsRising, AreRows, IsDefinitionFrom, IsReferenceOf, IsAnyCrowded, HasAnyLimit}
use Rattle.back_stitch.specs.Lists.{usual}
use Rattle.row_sets.proofs.Rising.{Rises, same_rising}
use Rattle.list_facts.proofs.Members.{IsIn-from_Contains, Contains-from_IsIn}
use Rattle.nav_answers.specs.declared.found.AskFault.{AskFault}
use Rattle.nav_answers.specs.declared.found.AskFault.TheVariants.{NoReference, NoDefinition}
use Rattle.nav_answers.specs.Replies.{graphs_in, meant, row_of, hit_of, IsAnswer, IsReplyAbout, IsDefinitionReply, IsReferenceReply, IsDefineReply, IsReferencesReply}
use Rattle.nav_answers.specs.Callers.{IsCallerReply, IsCallersReply, IsOverrun, TellsUnless}
use Rattle.nav_answers.specs.Laws.{CallersHaveOneReply, OneReply, QueriesHaveOneReply}

not_both : (a b : Hit) → ComesBefore a b → ComesBefore b a → ⊥
not_both a b (inl x) (inl y) = omega arith
not_both a b (inl x) (inr y) = let e = y.0 in omega arith
not_both a b (inr x) (inl y) = let e = x.0 in omega arith
not_both a b (inr x) (inr y) = let e = x.1 in let f = y.1 in omega arith

rises : (hits : List Hit) → IsRising hits → Rises ComesBefore hits
rises [] up = tt
rises (hit ∷ hits) up = (up.0, rises hits up.1)

-- rows that rise and have the same members are the same
same_rows : (P : Hit → Type 0) (xs ys : List Hit) → AreRows P xs → AreRows P ys → xs ≡ ys
same_rows P xs ys a b =
    same_rising ComesBefore not_both xs ys (rises xs a.rising) (rises ys b.rising)
    (λ p m. IsIn-from_Contains ys p ((b.exact p).1 ((a.exact p).0 (Contains-from_IsIn xs p m))))
    (λ p m. IsIn-from_Contains xs p ((a.exact p).1 ((b.exact p).0 (Contains-from_IsIn ys p m))))

same_flag : (P : Type 0) (a b : Bool) → IsTrue a ↔ P → IsTrue b ↔ P → a ≡ b
same_flag P true true h k = refl
same_flag P true false h k = sym (k.1 (h.0 refl))
same_flag P false true h k = h.1 (k.0 refl)
same_flag P false false h k = refl

same_answer : (is_row : Hit → Type 0) (has_limit : Type 0) (rows : List GraphRow) (a b : Answer)
    → IsAnswer is_row has_limit rows a → IsAnswer is_row has_limit rows b → a ≡ b
same_answer is_row has_limit rows a b h k =
    let flag : a.limit ≡ b.limit = same_flag has_limit a.limit b.limit h.limit k.limit in
    let told : a.rows ≡ b.rows = h.told ∙ ap (map (row_of rows)) (same_rows is_row h.hits k.hits h.exact k.exact) ∙ sym k.told in
    (λ i. record { limit = flag i; rows = told i })

module _ (is_row : Hit → Type 0) (has_limit is_crowded : Type 0) (rows : List GraphRow) where
  one_about : (a b : Result Answer AskFault) → IsReplyAbout is_row has_limit is_crowded rows a → IsReplyAbout is_row has_limit is_crowded rows b → a ≡ b
  one_about (Ok a) (Ok b) h k = ap (λ x. Ok x) (same_answer is_row has_limit rows a b h.1 k.1)
  one_about (Ok a) (Err f) h k = absurd (h.0 k.0)
  one_about (Err e) (Ok b) h k = absurd (k.0 h.0)
  one_about (Err e) (Err f) h k = ap (λ x. Err x) (h.1 ∙ sym k.1)

one_where : {X : Type 0} (o : Option X) (R : X → Result Answer AskFault → Type 0) (a b : Result Answer AskFault)
    → ((x : X) → R x a → R x b → a ≡ b) → IsSomeAnd o (λ x. R x a) → IsSomeAnd o (λ x. R x b) → a ≡ b
one_where None R a b one h k = absurd h
one_where (Some x) R a b one h k = one x h k

one_of : {X : Type 0} (r : Result NodeAt AskFault) (R : NodeAt → Result X AskFault → Type 0) (a b : Result X AskFault)
    → ((node : NodeAt) → R node a → R node b → a ≡ b)
    → MatchResult r (λ node. R node a) (λ fault. a ≡ Err fault) → MatchResult r (λ node. R node b) (λ fault. b ≡ Err fault) → a ≡ b
one_of (Ok node) R a b one h k = one node h k
one_of (Err fault) R a b one h k = h ∙ sym k

one_define : OneReply IsDefineReply
one_define bounds rows others path at a b same h k =
    let k2 = subst (λ rs. IsDefineReply bounds rs path at b) (sym same) k in
    one_of (meant is_reference_kind NoReference rows path at) (IsDefinitionReply bounds rows) a b
    (λ node x y. one_where (start (graphs_in rows) node)
    (λ (c : Config) reply. IsReplyAbout (IsDefinitionFrom bounds (graphs_in rows) c) (HasLimit bounds (graphs_in rows) c) (IsCrowded bounds (graphs_in rows) c) rows reply) a b
    (λ c u v. one_about (IsDefinitionFrom bounds (graphs_in rows) c) (HasLimit bounds (graphs_in rows) c) (IsCrowded bounds (graphs_in rows) c) rows a b u v) x y)
    h k2

one_references : OneReply IsReferencesReply
one_references bounds rows others path at a b same h k =
    let k2 = subst (λ rs. IsReferencesReply bounds rs path at b) (sym same) k in
    one_of (meant is_definition_kind NoDefinition rows path at) (IsReferenceReply bounds rows) a b
    (λ node x y. one_about (IsReferenceOf bounds (graphs_in rows) (hit_of node)) (HasAnyLimit bounds (graphs_in rows)) (IsAnyCrowded bounds (graphs_in rows)) rows a b x y)
    h k2

pub one_reply : QueriesHaveOneReply
one_reply = record { define = one_define; references = one_references }

module _ (is_crowded : Type 0) (rows : List GraphRow) (d : NodeAt) where
  one_told : (a b : Result (List Row) AskFault) → TellsUnless is_crowded rows d a → TellsUnless is_crowded rows d b → a ≡ b
  one_told (Ok a) (Ok b) h k =
      ap (λ x. Ok x) (h.1.2 ∙ ap (map (row_of rows)) (same_rows (IsReferenceOf usual (graphs_in rows) (hit_of d)) h.1.0 k.1.0 h.1.1 k.1.1) ∙ sym k.1.2)
  one_told (Ok a) (Err f) h k = absurd (h.0 k.0)
  one_told (Err e) (Ok b) h k = absurd (k.0 h.0)
  one_told (Err e) (Err f) h k = ap (λ x. Err x) (h.1 ∙ sym k.1)

pub one_callers : CallersHaveOneReply
one_callers rows others path at a b same h k =
    let k2 = subst (λ rs. IsCallersReply rs path at b) (sym same) k in
    one_of (meant is_definition_kind NoDefinition rows path at) (IsCallerReply rows) a b
    (λ node x y. one_told (IsOverrun (graphs_in rows) node) rows node a b x y)
    h k2
