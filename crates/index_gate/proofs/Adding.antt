-- What one document adds.
use Rattle.std.specs.Prelude.{ℕ, ◌+◌, ◌≤◌, Bool, true, false, List, [], ◌∷◌, ◌++◌, None, Some, Result, Ok, MatchResult}
use Rattle.std.specs.Option.{is_some}
use Rattle.std.proofs.Common.{◌≡◌, refl, sym, subst, ◌∙◌, true≢false, inl, inr, arith}
use Rattle.graph_nodes.specs.Graph.{Graph}
use Rattle.partial_path.specs.PathSets.{FileRules}
use Rattle.partial_path.specs.Walks.{IsWeight}
use Rattle.file_paths.specs.Finds.{AddsWalks}
use Rattle.path_store.specs.Documents.{Doc}
use Rattle.path_store.specs.Store.{Kept, kept_of, find_doc, with_doc}
use Rattle.index_gate.specs.declared.fault.FileFault.{FileFault}
use Rattle.index_gate.specs.Graphs.{graph_of_doc}
use Rattle.index_gate.specs.Indexed.{IsIndexed, AreIndexed, docs_of, has_doc, CountsWalks, IsDocWeight}
use Rattle.index_gate.specs.Reading.{Finds, Adds}
use Rattle.index_gate.proofs.Held.{held_none, held_some, held_found, found_indexed, has_left, has_right, has_neither}

-- what a store finds
pub finds_some : (ks : List Kept) (doc : Doc) (file : FileRules) → Some file ≡ find_doc doc ks → AreIndexed ks → Finds ks doc (Some file)
finds_some ks doc file e all = (held_some doc ks file (sym e), found_indexed doc file ks (sym e) all)

pub finds_none : (ks : List Kept) (doc : Doc) → None ≡ find_doc doc ks → Finds ks doc None
finds_none ks doc e = held_none doc ks (sym e)

-- a document that the store holds, or that was added before
pub held_adds : (store fresh : List Kept) (doc : Doc) (steps : ℕ) → has_doc (docs_of store) doc ≡ true → Adds (docs_of store) doc fresh fresh steps steps
held_adds store fresh doc steps e = inl record {
  there = has_left (docs_of store) (docs_of fresh) doc e;
  pairs = refl;
  steps = refl;
}

pub fresh_adds : (store fresh : List Kept) (doc : Doc) (steps : ℕ) → has_doc (docs_of fresh) doc ≡ true → Adds (docs_of store) doc fresh fresh steps steps
fresh_adds store fresh doc steps e = inl record {
  there = has_right (docs_of store) (docs_of fresh) doc e;
  pairs = refl;
  steps = refl;
}

-- another document
with_other : (b : Bool) (doc : Doc) (file : FileRules) (ks : List Kept) → is_some (find_doc doc ks) ≡ b → b ≡ false → with_doc doc file ks ≡ ks ++ kept_of doc file ∷ []
with_other b doc file ks e f = rw (e ∙ f) refl

pub new_adds : (store fresh new : List Kept) (doc : Doc) (file : FileRules) (before after : ℕ) → has_doc (docs_of store) doc ≡ false → has_doc (docs_of fresh) doc ≡ false
    → IsIndexed (kept_of doc file) → CountsWalks file before after → new ≡ with_doc doc file fresh → Adds (docs_of store) doc fresh new before after
new_adds store fresh new doc file before after e f indexed steps put = inr record {
  absent = has_neither (docs_of store) (docs_of fresh) doc e f;
  file = file;
  indexed = indexed;
  pairs = put ∙ with_other (has_doc (docs_of fresh) doc) doc file fresh (held_found doc fresh) f;
  steps = steps;
}

-- it isn't held, so nothing need be shown of one that is
pub not_held : (store fresh : List Kept) (doc : Doc) (before after : ℕ) → has_doc (docs_of store) doc ≡ false → has_doc (docs_of fresh) doc ≡ false
    → has_doc (docs_of store ++ docs_of fresh) doc ≡ true → after ≡ before
not_held store fresh doc before after e f there = absurd (true≢false (sym there ∙ has_neither (docs_of store) (docs_of fresh) doc e f))

-- no step, or as many as the graph weighs
pub weight_none : (doc : Doc) (steps : ℕ) → (weight : ℕ) → IsDocWeight doc weight → steps ≤ steps + weight
weight_none doc steps weight w = omega arith

pub weight_is : (doc : Doc) (g : Graph) (walks : ℕ) → graph_of_doc doc ≡ Ok g → ((weight : ℕ) → IsWeight g weight → walks ≤ weight)
    → (weight : ℕ) → IsDocWeight doc weight → walks ≤ weight
weight_is doc g walks e few weight w = few weight (subst (λ (r : Result Graph FileFault). MatchResult r (λ g. IsWeight g weight) (λ _. weight ≡ 0)) e w)

pub counts : (file : FileRules) (g : Graph) (before walks : ℕ) → file.graph ≡ g → before ≡ 0 → AddsWalks g before walks → AddsWalks file.graph 0 walks
counts file g before walks e none adds = subst (λ n. AddsWalks file.graph n walks) none (subst (λ g. AddsWalks g before walks) (sym e) adds)
