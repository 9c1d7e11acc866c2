-- What holds while the documents are indexed one after the other.
use Rattle.std.specs.Prelude.{ℕ, ◌+◌, ◌≤◌, Bool, true, false, cond, List, [], ◌∷◌, ◌++◌, length, take, drop, get_or, ◌<◌}
use Rattle.std.specs.List.{AllByRecursion}
use Rattle.std.proofs.Common.{◌≡◌, refl, sym, ap, subst, ◌∙◌, inl, inr, arith}
use Rattle.std.proofs.lemmas.List.{append_assoc, append-nil, take_more, drop_more}
use Rattle.std.proofs.Math.Seq.{drop-append_seam}
use Rattle.partial_path.specs.PathSets.{FileRules}
use Rattle.path_store.specs.Documents.{Doc}
use Rattle.path_store.specs.Store.{Kept, kept_of, with_docs, HasSomeOf}
use Rattle.index_gate.specs.declared.fault.IndexFault.{IndexFault}
use Rattle.index_gate.specs.declared.fault.IndexFault.TheVariants as fault
use Rattle.index_gate.specs.Indexed.{IsIndexed, AreIndexed, AreFilesOf, HasNoFault, HasCause, docs_of, has_doc, missing, AddsMissing, AddsSome, CountsAllWalks, CountsWalks, IsDocWeight, AreDocWeights}
use Rattle.index_gate.specs.Reading.{Refuses, Adds, AddsNone, AddsOne}
use Rattle.index_gate.proofs.Held.{indexed_more, indexed_both, indexed_some, docs_more, docs_both}
use Rattle.index_gate.proofs.Missing.{AreNew, missing_if, missing_new, new_first, with_all_new}

-- some documents are done and have their files; what was added for them, with what is still missing of
-- those that are left, is what is missing of all
pub record IsUnderWay (held docs done left : List Doc) (given : List FileRules) (fresh : List Kept) (before now : ℕ) : Type 0 where
  pub split : docs ≡ done ++ left
  pub files : AreFilesOf done given
  pub added : docs_of fresh ++ missing (held ++ docs_of fresh) left ≡ missing held docs
  pub indexed : AreIndexed fresh
  pub counted : CountsAllWalks fresh before now
  pub few : (total : ℕ) → AreDocWeights (docs_of fresh) total → now ≤ before + total

pub begun : (held docs : List Doc) (steps : ℕ) → IsUnderWay held docs [] docs [] [] steps steps
begun held docs steps = record {
  split = refl;
  files = tt;
  added = ap (λ h. missing h docs) (append-nil held);
  indexed = tt;
  counted = refl;
  few = λ total w. omega arith;
}

-- one file more
files_more : (done : List Doc) (files : List FileRules) (doc : Doc) (file : FileRules) → AreFilesOf done files → IsIndexed (kept_of doc file) → AreFilesOf (done ++ doc ∷ []) (files ++ file ∷ [])
files_more [] [] doc file all one = (one, tt)
files_more [] (f ∷ files) doc file all one = absurd all
files_more (d ∷ done) [] doc file all one = absurd all
files_more (d ∷ done) (f ∷ files) doc file all one = (all.0, files_more done files doc file all.1 one)

walks_more : (ks : List Kept) (doc : Doc) (file : FileRules) (before now after : ℕ) → CountsAllWalks ks before now → CountsWalks file now after → CountsAllWalks (ks ++ kept_of doc file ∷ []) before after
walks_more [] doc file before now after all one = (after, subst (λ n. CountsWalks file n after) all one, refl)
walks_more (k ∷ ks) doc file before now after all one = (all.0, all.1, walks_more ks doc file all.0 now after all.2 one)

-- what documents weigh that are put together
pub weights_split : (xs ys : List Doc) (total : ℕ) → AreDocWeights (xs ++ ys) total → (a : ℕ) × (b : ℕ) × AreDocWeights xs a × AreDocWeights ys b × (total ≡ a + b)
weights_split [] ys total w = (0, total, refl, w, omega arith)
weights_split (x ∷ xs) ys total w =
    let rest = weights_split xs ys w.1 w.3 in
    (w.0 + rest.0, rest.1, (w.0, rest.0, w.2, rest.2, refl), rest.3, let e : total ≡ w.0 + w.1 = w.4 in let f : w.1 ≡ rest.0 + rest.1 = rest.4 in omega (arith, e, f))

-- a document that is held is passed over
pub passed : (held docs done left : List Doc) (files : List FileRules) (fresh new : List Kept) (before now after : ℕ) (doc : Doc) (file : FileRules)
    → IsUnderWay held docs done (doc ∷ left) files fresh before now → AddsNone held doc fresh new now after → IsIndexed (kept_of doc file)
    → IsUnderWay held docs (done ++ doc ∷ []) left (files ++ file ∷ []) new before after
passed held docs done left files fresh new before now after doc file u none one =
    subst (λ ks. IsUnderWay held docs (done ++ doc ∷ []) left (files ++ file ∷ []) ks before after) (sym none.pairs)
    (subst (λ n. IsUnderWay held docs (done ++ doc ∷ []) left (files ++ file ∷ []) fresh before n) (sym none.steps) record {
      split = u.split ∙ sym (append_assoc done (doc ∷ []) left);
      files = files_more done files doc file u.files one;
      added = ap (λ ds. docs_of fresh ++ ds) (sym (missing_if true (held ++ docs_of fresh) left doc none.there)) ∙ u.added;
      indexed = u.indexed;
      counted = u.counted;
      few = u.few;
    })

-- another is indexed
few_more : (fresh : List Kept) (doc : Doc) (file : FileRules) (before now after : ℕ)
    → ((total : ℕ) → AreDocWeights (docs_of fresh) total → now ≤ before + total) → ((weight : ℕ) → IsDocWeight doc weight → after ≤ now + weight)
    → (total : ℕ) → AreDocWeights (docs_of fresh ++ doc ∷ []) total → after ≤ before + total
few_more fresh doc file before now after few one total w =
    let parts = weights_split (docs_of fresh) (doc ∷ []) total w in
    let a : now ≤ before + parts.0 = few parts.0 parts.2 in
    let last = parts.3 in
    let b : after ≤ now + last.0 = one last.0 last.2 in
    let c : last.1 ≡ 0 = last.3 in
    let d : parts.1 ≡ last.0 + last.1 = last.4 in
    let e : total ≡ parts.0 + parts.1 = parts.4 in
    omega (arith, a, b, c, d, e)

pub indexed_one : (held docs done left : List Doc) (files : List FileRules) (fresh new : List Kept) (before now after : ℕ) (doc : Doc) (file : FileRules)
    → IsUnderWay held docs done (doc ∷ left) files fresh before now → AddsOne held doc fresh new now after → IsIndexed (kept_of doc file)
    → ((weight : ℕ) → IsDocWeight doc weight → after ≤ now + weight)
    → IsUnderWay held docs (done ++ doc ∷ []) left (files ++ file ∷ []) new before after
indexed_one held docs done left files fresh new before now after doc file u add one few =
    let k = kept_of doc add.file in
    subst (λ ks. IsUnderWay held docs (done ++ doc ∷ []) left (files ++ file ∷ []) ks before after) (sym add.pairs) record {
      split = u.split ∙ sym (append_assoc done (doc ∷ []) left);
      files = files_more done files doc file u.files one;
      added =
          ap (λ ds. ds ++ missing (held ++ docs_of (fresh ++ k ∷ [])) left) (docs_more fresh k)
          ∙ append_assoc (docs_of fresh) (doc ∷ []) (missing (held ++ docs_of (fresh ++ k ∷ [])) left)
          ∙ ap (λ h. docs_of fresh ++ doc ∷ missing h left) (ap (λ ds. held ++ ds) (docs_more fresh k) ∙ sym (append_assoc held (docs_of fresh) (doc ∷ [])))
          ∙ ap (λ ds. docs_of fresh ++ ds) (sym (missing_if false (held ++ docs_of fresh) left doc add.absent))
          ∙ u.added;
      indexed = indexed_more fresh k u.indexed add.indexed;
      counted = walks_more fresh doc add.file before now after u.counted add.steps;
      few = subst (λ ds. (total : ℕ) → AreDocWeights ds total → after ≤ before + total) (sym (docs_more fresh k)) (few_more fresh doc add.file before now after u.few few);
    }

pub one_more : (held docs done left : List Doc) (files : List FileRules) (fresh new : List Kept) (before now after : ℕ) (doc : Doc) (file : FileRules)
    → IsUnderWay held docs done (doc ∷ left) files fresh before now → Adds held doc fresh new now after → IsIndexed (kept_of doc file)
    → ((weight : ℕ) → IsDocWeight doc weight → after ≤ now + weight)
    → IsUnderWay held docs (done ++ doc ∷ []) left (files ++ file ∷ []) new before after
one_more held docs done left files fresh new before now after doc file u (inl none) one few = passed held docs done left files fresh new before now after doc file u none one
one_more held docs done left files fresh new before now after doc file u (inr add) one few = indexed_one held docs done left files fresh new before now after doc file u add one few

-- the same of a list that is gone over by its places
pub next_doc : (held docs : List Doc) (i : ℕ) (files : List FileRules) (fresh new : List Kept) (before now after : ℕ) (d : Doc) (file : FileRules)
    → i < length docs
    → IsUnderWay held docs (take i docs) (drop i docs) files fresh before now → Adds held (get_or docs i d) fresh new now after → IsIndexed (kept_of (get_or docs i d) file)
    → ((weight : ℕ) → IsDocWeight (get_or docs i d) weight → after ≤ now + weight)
    → IsUnderWay held docs (take (i + 1) docs) (drop (i + 1) docs) (files ++ file ∷ []) new before after
next_doc held docs i files fresh new before now after d file less u add one few =
    subst (λ ds. IsUnderWay held docs ds (drop (i + 1) docs) (files ++ file ∷ []) new before after) (sym (take_more docs i d less))
    (one_more held docs (take i docs) (drop (i + 1) docs) files fresh new before now after (get_or docs i d) file
    (subst (λ ds. IsUnderWay held docs (take i docs) ds files fresh before now) (drop_more docs i d less) u) add one few)

-- where the work ends with a fault
clean : (done : List Doc) (files : List FileRules) → AreFilesOf done files → AllByRecursion HasNoFault done
clean [] [] all = tt
clean [] (f ∷ files) all = absurd all
clean (d ∷ done) [] all = absurd all
clean (d ∷ done) (f ∷ files) all = ((f.graph, all.0.graph, all.0.light), clean done files all.1)

pub stopped : (held docs done left : List Doc) (files : List FileRules) (fresh : List Kept) (before now : ℕ) (doc : Doc) (why : IndexFault)
    → IsUnderWay held docs done (doc ∷ left) files fresh before now → Refuses doc why → HasCause docs why
stopped held docs done left files fresh before now doc (fault.BadFile path why) u r = record {
  before = done;
  doc = doc;
  after = left;
  split = u.split;
  clean = clean done files u.files;
  path = r.0;
  fault = r.1;
  told = r.2;
}
stopped held docs done left files fresh before now doc fault.NoMemory u r = tt

-- however the work on a document ends, the steps are few
few_if : (b : Bool) (held docs done left : List Doc) (files : List FileRules) (fresh : List Kept) (before now after : ℕ) (doc : Doc) (total : ℕ)
    → has_doc (held ++ docs_of fresh) doc ≡ b
    → IsUnderWay held docs done (doc ∷ left) files fresh before now
    → (has_doc (held ++ docs_of fresh) doc ≡ true → after ≡ now)
    → ((weight : ℕ) → IsDocWeight doc weight → after ≤ now + weight)
    → AreDocWeights (docs_of fresh ++ cond b (missing (held ++ docs_of fresh) left) (doc ∷ missing ((held ++ docs_of fresh) ++ doc ∷ []) left)) total
    → after ≤ before + total
few_if true held docs done left files fresh before now after doc total e u same few w =
    let parts = weights_split (docs_of fresh) (missing (held ++ docs_of fresh) left) total w in
    let a : now ≤ before + parts.0 = u.few parts.0 parts.2 in
    let b : after ≡ now = same e in
    let c : total ≡ parts.0 + parts.1 = parts.4 in
    omega (arith, a, b, c)
few_if false held docs done left files fresh before now after doc total e u same few w =
    let parts = weights_split (docs_of fresh) (doc ∷ missing ((held ++ docs_of fresh) ++ doc ∷ []) left) total w in
    let a : now ≤ before + parts.0 = u.few parts.0 parts.2 in
    let last = parts.3 in
    let b : after ≤ now + last.0 = few last.0 last.2 in
    let c : parts.1 ≡ last.0 + last.1 = last.4 in
    let d : total ≡ parts.0 + parts.1 = parts.4 in
    omega (arith, a, b, c, d)

pub few_stopped : (held docs done left : List Doc) (files : List FileRules) (fresh : List Kept) (before now after : ℕ) (doc : Doc)
    → IsUnderWay held docs done (doc ∷ left) files fresh before now
    → (has_doc (held ++ docs_of fresh) doc ≡ true → after ≡ now)
    → ((weight : ℕ) → IsDocWeight doc weight → after ≤ now + weight)
    → (total : ℕ) → AreDocWeights (missing held docs) total → after ≤ before + total
few_stopped held docs done left files fresh before now after doc u same few total w =
    few_if (has_doc (held ++ docs_of fresh) doc) held docs done left files fresh before now after doc total refl u same few
    (subst (λ ds. AreDocWeights ds total)
    (sym u.added ∙ ap (λ ds. docs_of fresh ++ ds) (missing_if (has_doc (held ++ docs_of fresh) doc) (held ++ docs_of fresh) left doc refl)) w)

-- between two documents
pub few_between : (held docs done left : List Doc) (files : List FileRules) (fresh : List Kept) (before now : ℕ)
    → IsUnderWay held docs done left files fresh before now → (total : ℕ) → AreDocWeights (missing held docs) total → now ≤ before + total
few_between held docs done left files fresh before now u total w =
    let parts = weights_split (docs_of fresh) (missing (held ++ docs_of fresh) left) total (subst (λ ds. AreDocWeights ds total) (sym u.added) w) in
    let a : now ≤ before + parts.0 = u.few parts.0 parts.2 in
    let c : total ≡ parts.0 + parts.1 = parts.4 in
    omega (arith, a, c)

-- what a store has, to which all that was added is put
fresh_new : (held docs done left : List Doc) (files : List FileRules) (fresh : List Kept) (before now : ℕ)
    → IsUnderWay held docs done left files fresh before now → AreNew held (docs_of fresh)
fresh_new held docs done left files fresh before now u =
    new_first held (docs_of fresh) (missing (held ++ docs_of fresh) left) (subst (AreNew held) (sym u.added) (missing_new held docs))

pub all_put : (old new : List Kept) (docs done : List Doc) (files : List FileRules) (fresh : List Kept) (before now : ℕ)
    → IsUnderWay (docs_of old) docs done [] files fresh before now → new ≡ with_docs fresh old → new ≡ old ++ fresh
all_put old new docs done files fresh before now u e = e ∙ with_all_new fresh old (fresh_new (docs_of old) docs done [] files fresh before now u)

pub all_added : (old new : List Kept) (docs done : List Doc) (files : List FileRules) (fresh : List Kept) (before now : ℕ)
    → IsUnderWay (docs_of old) docs done [] files fresh before now → new ≡ with_docs fresh old → AddsMissing docs old new
all_added old new docs done files fresh before now u e =
    (fresh, all_put old new docs done files fresh before now u e, sym (append-nil (docs_of fresh)) ∙ u.added)

-- all documents are done
pub all_files : (held docs done : List Doc) (files : List FileRules) (fresh : List Kept) (before now : ℕ)
    → IsUnderWay held docs done [] files fresh before now → AreFilesOf docs files
all_files held docs done files fresh before now u = subst (λ ds. AreFilesOf ds files) (sym (u.split ∙ append-nil done)) u.files

pub all_walks : (old new : List Kept) (docs done : List Doc) (files : List FileRules) (fresh : List Kept) (before now : ℕ)
    → IsUnderWay (docs_of old) docs done [] files fresh before now → new ≡ with_docs fresh old → CountsAllWalks (drop (length old) new) before now
all_walks old new docs done files fresh before now u e =
    subst (λ ks. CountsAllWalks ks before now)
    (sym (ap (drop (length old)) (all_put old new docs done files fresh before now u e) ∙ drop-append_seam old fresh)) u.counted

pub all_indexed : (old new : List Kept) (docs done : List Doc) (files : List FileRules) (fresh : List Kept) (before now : ℕ)
    → IsUnderWay (docs_of old) docs done [] files fresh before now → AreIndexed old → new ≡ with_docs fresh old → AreIndexed new
all_indexed old new docs done files fresh before now u all e =
    subst AreIndexed (sym (all_put old new docs done files fresh before now u e)) (indexed_both old fresh all u.indexed)

-- memory ran out while what was added was put to the store
some_put : (old new : List Kept) (docs : List Doc) (some rest : List Kept) → AreNew (docs_of old) (docs_of some ++ docs_of rest) → new ≡ with_docs some old → new ≡ old ++ some
some_put old new docs some rest all e = e ∙ with_all_new some old (new_first (docs_of old) (docs_of some) (docs_of rest) all)

split_new : (held : List Doc) (fresh some rest : List Kept) → fresh ≡ some ++ rest → AreNew held (docs_of fresh) → AreNew held (docs_of some ++ docs_of rest)
split_new held fresh some rest e all = subst (AreNew held) (ap docs_of e ∙ docs_both some rest) all

pub some_added : (old new : List Kept) (docs done : List Doc) (files : List FileRules) (fresh : List Kept) (before now : ℕ)
    → IsUnderWay (docs_of old) docs done [] files fresh before now → HasSomeOf fresh old new → AddsSome docs old new
some_added old new docs done files fresh before now u h =
    let fresh_are = fresh_new (docs_of old) docs done [] files fresh before now u in (
      h.0,
      docs_of h.1,
      some_put old new docs h.0 h.1 (split_new (docs_of old) fresh h.0 h.1 h.2 fresh_are) h.3,
      sym (docs_both h.0 h.1) ∙ ap docs_of (sym h.2) ∙ sym (append-nil (docs_of fresh)) ∙ u.added,
    )

pub some_indexed : (old new : List Kept) (docs done : List Doc) (files : List FileRules) (fresh : List Kept) (before now : ℕ)
    → IsUnderWay (docs_of old) docs done [] files fresh before now → AreIndexed old → HasSomeOf fresh old new → AreIndexed new
some_indexed old new docs done files fresh before now u all h =
    let fresh_are = fresh_new (docs_of old) docs done [] files fresh before now u in
    subst AreIndexed (sym (some_put old new docs h.0 h.1 (split_new (docs_of old) fresh h.0 h.1 h.2 fresh_are) h.3))
    (indexed_both old h.0 all (indexed_some h.0 h.1 (subst AreIndexed h.2 u.indexed)))

-- nothing was put to the store
pub none_added : (old : List Kept) (docs : List Doc) → AddsSome docs old old
none_added old docs = ([], missing (docs_of old) docs, sym (append-nil old), refl)
