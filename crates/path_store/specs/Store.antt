-- What a store of documents with their paths holds, and how it changes. A store is a list of pairs, the
-- oldest first.
use Rattle.std.specs.Prelude.{◌≡◌, ℕ, cond, nat_le, ◌+◌, List, [], ◌∷◌, ◌++◌, length, Option, None, Some, ⊤}
use Rattle.std.specs.Option.{is_some}
use Rattle.partial_path.specs.PathSets.{FileRules}
use Rattle.path_store.specs.Documents.{Doc, same_doc}

-- a document that is kept, with its paths
pub record Kept : Type 0 where
  pub doc : Doc
  pub paths : FileRules

-- the pair of these
abbrev pub kept_of : Doc → FileRules → Kept
kept_of doc paths = record { doc = doc; paths = paths }

-- the paths of the pair with that path and those bytes, where one is kept
abbrev pub find_doc : Doc → List Kept → Option FileRules
find_doc doc [] = None
find_doc doc (k ∷ ks) = cond (same_doc k.doc doc) (Some k.paths) (find_doc doc ks)

-- no two pairs have the same document
abbrev pub AreDistinct : List Kept → Type 0
AreDistinct [] = ⊤
AreDistinct (k ∷ ks) = (find_doc k.doc ks ≡ None) × AreDistinct ks

-- the pairs with one more, put last; a document that is held stays as it is
abbrev pub with_doc : Doc → FileRules → List Kept → List Kept
with_doc doc paths ks = cond (is_some (find_doc doc ks)) ks (ks ++ kept_of doc paths ∷ [])

-- the pairs with those of others, put last one after the other
abbrev pub with_docs : List Kept → List Kept → List Kept
with_docs [] ks = ks
with_docs (k ∷ more) ks = with_docs more (with_doc k.doc k.paths ks)

-- the pairs with some of others, the first of them, put last one after the other
abbrev pub HasSomeOf : List Kept → List Kept → List Kept → Type 0
HasSomeOf more old new = (some : List Kept) × (rest : List Kept) × (more ≡ some ++ rest) × (new ≡ with_docs some old)

-- what a pair costs: the weight of its paths, and the bytes of its document
abbrev pub cost_of_pair : Kept → ℕ
cost_of_pair k = k.paths.weight + length k.doc.bytes

-- what the pairs cost together
abbrev pub cost_of : List Kept → ℕ
cost_of [] = 0
cost_of (k ∷ ks) = cost_of_pair k + cost_of ks

-- the pairs without as many of the oldest as it takes for the rest to cost no more than the limit
abbrev pub swept : ℕ → List Kept → List Kept
swept limit [] = []
swept limit (k ∷ ks) = cond (nat_le (cost_of (k ∷ ks)) limit) (k ∷ ks) (swept limit ks)

-- the pair stands somewhere among these
abbrev pub StandsIn : Doc → FileRules → List Kept → Type 0
StandsIn doc paths ks = (before : List Kept) × (after : List Kept) × (ks ≡ before ++ kept_of doc paths ∷ after)

-- the one list is the end of the other
abbrev pub IsEndOf : List Kept → List Kept → Type 0
IsEndOf rest ks = (dropped : List Kept) × (dropped ++ rest ≡ ks)
