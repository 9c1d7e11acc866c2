-- The numbers of the pairs of one digest, and what is found by them.
use Rattle.std.specs.Prelude.{◌≡◌, ℕ, ◌+◌, ◌-◌, cond, true, false, Bool, refl, List, [], ◌∷◌, ◌++◌, length, Option, None, Some}
use Rattle.std.specs.List.{slice_get}
use Rattle.std.specs.Option.{option_or}
use Rattle.std.specs.Str.{bytes_eq}
use Rattle.std.proofs.Common.{ap, sym, ◌∙◌, arith}
use Rattle.std.proofs.lemmas.Bool.{and_parts}
use Rattle.std.proofs.lemmas.Slice.Eq.{bytes_eq-Decides}
use Rattle.std.proofs.lemmas.List.{append_assoc}
use Rattle.std.proofs.lemmas.List.{length-append}
use Rattle.partial_path.specs.PathSets.{FileRules}
use Rattle.path_store.specs.Documents.{Doc, same_doc, digest_of}
use Rattle.path_store.specs.Store.{Kept, find_doc}
use Rattle.path_store.specs.Buckets.{numbers_of}
use Rattle.path_store.specs.Inside.{paths_for, found_at}

-- documents with the same path and bytes are one
pub doc_path : (a b : Doc) → a.path ≡ b.path → a.bytes ≡ b.bytes → a ≡ b
doc_path a b e f = λ i. record { path = e i; bytes = f i }

same_parts : (a b : Doc) → a.path ≡ b.path → a.bytes ≡ b.bytes → digest_of a ≡ digest_of b
same_parts a b e f = ap digest_of (doc_path a b e f)

-- the same document has the same digest
pub same_digest : (a b : Doc) → same_doc a b ≡ true → bytes_eq (digest_of a) (digest_of b) ≡ true
same_digest a b h =
    let parts = and_parts (bytes_eq a.path b.path) (bytes_eq a.bytes b.bytes) h in
    (bytes_eq-Decides (digest_of a) (digest_of b)).1 (same_parts a b ((bytes_eq-Decides a.path b.path).0 parts.0) ((bytes_eq-Decides a.bytes b.bytes).0 parts.1))

-- the pair at the end of the first ones
at_end : (pre : List Kept) (k : Kept) (ks : List Kept) → slice_get (pre ++ k ∷ ks) (length pre) ≡ Some k
at_end [] k ks = refl
at_end (p ∷ pre) k ks = at_end pre k ks

pub at_its_number : (first : ℕ) (pre : List Kept) (k : Kept) (ks : List Kept) → slice_get (pre ++ k ∷ ks) (first + length pre - first) ≡ Some k
at_its_number first pre k ks = ap (slice_get (pre ++ k ∷ ks)) (search arith) ∙ at_end pre k ks

-- one pair: its own digest's bucket has its number, and it is found by it where it is of the document
step : (doc : Doc) (first : ℕ) (all : List Kept) (n : ℕ) (rest : List ℕ) (k : Kept) (found : Option FileRules) (b s : Bool) → slice_get all (n - first) ≡ Some k → (s ≡ true → b ≡ true) → same_doc k.doc doc ≡ s → found_at doc first all rest ≡ found → found_at doc first all (cond b (n ∷ rest) rest) ≡ cond s (Some k.paths) found
step doc first all n rest k found true true at h is f = ap (λ o. option_or (paths_for doc o) (found_at doc first all rest)) at ∙ ap (λ t. option_or (cond t (Some k.paths) None) (found_at doc first all rest)) is
step doc first all n rest k found true false at h is f = ap (λ o. option_or (paths_for doc o) (found_at doc first all rest)) at ∙ ap (λ t. option_or (cond t (Some k.paths) None) (found_at doc first all rest)) is ∙ f
step doc first all n rest k found false true at h is f = search (h refl)
step doc first all n rest k found false false at h is f = f

-- the last of the first pairs is the first of the rest
moved : (doc : Doc) (first : ℕ) (pre : List Kept) (k : Kept) (ks : List Kept) (found : Option FileRules) → found_at doc first ((pre ++ k ∷ []) ++ ks) (numbers_of (digest_of doc) (first + length (pre ++ k ∷ [])) ks) ≡ found → found_at doc first (pre ++ k ∷ ks) (numbers_of (digest_of doc) (first + length pre + 1) ks) ≡ found
moved doc first pre k ks found h =
    ap (λ all. found_at doc first all (numbers_of (digest_of doc) (first + length pre + 1) ks)) (sym (append_assoc pre (k ∷ []) ks)) ∙
    ap (λ n. found_at doc first ((pre ++ k ∷ []) ++ ks) (numbers_of (digest_of doc) n ks)) (search (arith, length-append)) ∙ h

found_after : (doc : Doc) (first : ℕ) (pre ks : List Kept) → found_at doc first (pre ++ ks) (numbers_of (digest_of doc) (first + length pre) ks) ≡ find_doc doc ks
found_after doc first pre [] = refl
found_after doc first pre (k ∷ ks) =
    step doc first (pre ++ k ∷ ks) (first + length pre) (numbers_of (digest_of doc) (first + length pre + 1) ks) k (find_doc doc ks)
    (bytes_eq (digest_of k.doc) (digest_of doc)) (same_doc k.doc doc)
    (at_its_number first pre k ks) (same_digest k.doc doc) refl
    (moved doc first pre k ks (find_doc doc ks) (found_after doc first (pre ++ k ∷ []) ks))

-- what is found in the bucket of a document's digest is what is kept for the document
pub found_in_bucket : (doc : Doc) (first : ℕ) (kept : List Kept) → found_at doc first kept (numbers_of (digest_of doc) first kept) ≡ find_doc doc kept
found_in_bucket doc first kept = ap (λ n. found_at doc first kept (numbers_of (digest_of doc) n kept)) (search arith) ∙ found_after doc first [] kept

push_by : (bx bk : Bool) (first m n : ℕ) (old new : List ℕ) → m ≡ n → new ≡ cond bk (old ++ m ∷ []) old → cond bx (first ∷ new) new ≡ cond bk (cond bx (first ∷ old) old ++ n ∷ []) (cond bx (first ∷ old) old)
push_by true true first m n old new e h = ap (λ ns. first ∷ ns) (h ∙ ap (λ i. old ++ i ∷ []) e)
push_by true false first m n old new e h = ap (λ ns. first ∷ ns) h
push_by false true first m n old new e h = h ∙ ap (λ i. old ++ i ∷ []) e
push_by false false first m n old new e h = h

-- one pair more
pub numbers_of_push : (digest : List ℕ) (first : ℕ) (ks : List Kept) (k : Kept) → numbers_of digest first (ks ++ k ∷ []) ≡ cond (bytes_eq (digest_of k.doc) digest) (numbers_of digest first ks ++ (first + length ks) ∷ []) (numbers_of digest first ks)
numbers_of_push digest first [] k = ap (λ n. cond (bytes_eq (digest_of k.doc) digest) (n ∷ []) []) (search arith)
numbers_of_push digest first (x ∷ ks) k =
    push_by (bytes_eq (digest_of x.doc) digest) (bytes_eq (digest_of k.doc) digest) first (first + 1 + length ks) (first + length (x ∷ ks))
    (numbers_of digest (first + 1) ks) (numbers_of digest (first + 1) (ks ++ k ∷ [])) (search arith) (numbers_of_push digest (first + 1) ks k)
