-- The documents of a commit have one first fault, or files that are alike.
use Rattle.std.proofs.Common.{◌≡◌, ℕ, List, [], ◌∷◌, ◌++◌, map, Result, Ok, refl, sym, ap, subst, ◌∙◌}
use Rattle.std.specs.List.{AllByRecursion}
use Rattle.graph_nodes.specs.Graph.{Graph}
use Rattle.partial_path.specs.PathSets.{FileRules}
use Rattle.partial_path.specs.Walks.{IsWeight}
use Rattle.file_paths.proofs.WalkingLaws.{one_weight}
use Rattle.path_store.specs.Documents.{Doc, doc_of}
use Rattle.path_store.specs.Store.{kept_of}
use Rattle.index_gate.specs.declared.fault.FileFault.{FileFault}
use Rattle.index_gate.specs.Graphs.{graph_of_doc}
use Rattle.index_gate.specs.Indexed.{AreFilesOf, HasFault, HasNoFault, IsFirstFault, IsIndexed}
use Rattle.index_gate.proofs.Once.{one_fault, none_fault}
use Rattle.version_tree.specs.declared.edit.Edit.TheVariants as edit
use Rattle.version_tree.specs.Graphs.{GraphEdit, put_graph, remove_path}
use Rattle.nav_proto.specs.declared.request.FileEdit.{FileEdit}
use Rattle.nav_proto.specs.declared.request.FileEdit.TheVariants.{Put, Remove}
use Rattle.nav_session.specs.Requests.{docs_in, edits_with}
use Rattle.nav_session.proofs.Plain.{plain_edit}

same_graph : (g h : Graph) (r : Result Graph FileFault) → r ≡ Ok g → r ≡ Ok h → g ≡ h
same_graph g h r e f = cc

same_files : (doc : Doc) (f g : FileRules) → IsIndexed (kept_of doc f) → IsIndexed (kept_of doc g) → (f.graph ≡ g.graph) × (f.weight ≡ g.weight)
same_files doc f g a b =
    let e : f.graph ≡ g.graph = same_graph f.graph g.graph (graph_of_doc doc) a.graph b.graph in
    (e, one_weight f.graph f.weight g.weight a.paths.weight (subst (λ (x : Graph). IsWeight x g.weight) (sym e) b.paths.weight))

-- whatever files the documents have, the edits are alike
pub alike_edits : (edits : List FileEdit) (fs gs : List FileRules) → AreFilesOf (docs_in edits) fs → AreFilesOf (docs_in edits) gs
    → map plain_edit (edits_with edits fs) ≡ map plain_edit (edits_with edits gs)
alike_edits [] fs gs a b = refl
alike_edits (Put path text ∷ edits) [] gs a b = absurd a
alike_edits (Put path text ∷ edits) (f ∷ fs) [] a b = absurd b
alike_edits (Put path text ∷ edits) (f ∷ fs) (g ∷ gs) a b =
    let same = same_files (doc_of path text) f g a.0 b.0 in
    ap (λ (e : GraphEdit). (e, f.weight) ∷ map plain_edit (edits_with edits fs)) (ap (put_graph path) same.0)
    ∙ ap (λ (n : ℕ). (put_graph path g.graph, n) ∷ map plain_edit (edits_with edits fs)) same.1
    ∙ ap (λ (es : List (GraphEdit × ℕ)). (put_graph path g.graph, g.weight) ∷ es) (alike_edits edits fs gs a.1 b.1)
alike_edits (Remove path ∷ edits) fs gs a b = ap (λ (es : List (GraphEdit × ℕ)). (remove_path path, 0) ∷ es) (alike_edits edits fs gs a b)

same_head : (x y : Doc) (xs ys : List Doc) → x ∷ xs ≡ y ∷ ys → x ≡ y
same_head x y xs ys e = cc

same_tail : (x y : Doc) (xs ys : List Doc) → x ∷ xs ≡ y ∷ ys → xs ≡ ys
same_tail x y xs ys e = cc

-- the first document with a fault is one document
one_first : (b c r s : List Doc) (x y : Doc) (f g : FileFault) → b ++ x ∷ r ≡ c ++ y ∷ s
    → AllByRecursion HasNoFault b → AllByRecursion HasNoFault c → HasFault x f → HasFault y g → x ≡ y
one_first [] [] r s x y f g e u v h k = same_head x y r s e
one_first [] (z ∷ c) r s x y f g e u v h k = absurd (none_fault z f (subst (λ (d : Doc). HasFault d f) (same_head x z r (c ++ y ∷ s) e) h) v.0)
one_first (z ∷ b) [] r s x y f g e u v h k = absurd (none_fault z g (subst (λ (d : Doc). HasFault d g) (sym (same_head z y (b ++ x ∷ r) s e)) k) u.0)
one_first (z ∷ b) (w ∷ c) r s x y f g e u v h k = one_first b c r s x y f g (same_tail z w (b ++ x ∷ r) (c ++ y ∷ s) e) u.1 v.1 h k

pub one_first_fault : (docs : List Doc) (p q : List ℕ) (f g : FileFault) → IsFirstFault docs p f → IsFirstFault docs q g → (p ≡ q) × (f ≡ g)
one_first_fault docs p q f g a b =
    let same = one_first a.before b.before a.after b.after a.doc b.doc f g (sym a.split ∙ b.split) a.clean b.clean a.fault b.fault in
    (sym a.path ∙ ap (λ (d : Doc). d.path) same ∙ b.path, one_fault b.doc f g (subst (λ (d : Doc). HasFault d f) same a.fault) b.fault)

-- documents that have files have no fault
no_fault_in : (b r : List Doc) (x : Doc) (f : FileFault) (fs : List FileRules) → AreFilesOf (b ++ x ∷ r) fs → HasFault x f → ⊥
no_fault_in [] r x f [] a h = a
no_fault_in [] r x f (file ∷ fs) a h = none_fault x f h (file.graph, a.0.graph, a.0.light)
no_fault_in (z ∷ b) r x f [] a h = a
no_fault_in (z ∷ b) r x f (file ∷ fs) a h = no_fault_in b r x f fs a.1 h

pub fault_or_files : (docs : List Doc) (p : List ℕ) (f : FileFault) (fs : List FileRules) → IsFirstFault docs p f → AreFilesOf docs fs → ⊥
fault_or_files docs p f fs a b =
    no_fault_in a.before a.after a.doc f fs (subst (λ (ds : List Doc). AreFilesOf ds fs) a.split b) a.fault
