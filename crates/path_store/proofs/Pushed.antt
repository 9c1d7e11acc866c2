-- The parts of a store with one pair more.
use Rattle.std.specs.Prelude.{◌≡◌, ℕ, ◌+◌, cond, true, false, Bool, refl, List, [], ◌∷◌, ◌++◌, length, None}
use Rattle.std.specs.Bool.{Decides}
use Rattle.std.specs.Str.{bytes_eq}
use Rattle.std.proofs.Common.{ap, sym, ◌∙◌, arith}
use Rattle.std.proofs.lemmas.List.{length-append}
use Rattle.std.proofs.lemmas.Slice.Eq.{bytes_eq-Decides}
use Rattle.path_store.specs.declared.buckets.Buckets.{Buckets}
use Rattle.path_store.specs.Documents.{digest_of}
use Rattle.path_store.specs.Store.{Kept, find_doc, cost_of_pair}
use Rattle.path_store.specs.Buckets.{numbers_of, in_bucket, SetsBucket}
use Rattle.path_store.specs.Inside.{IsStore}
use Rattle.path_store.proofs.Filed.{numbers_of_push}
use Rattle.path_store.proofs.Sweeps.{cost_of_push}
use Rattle.path_store.proofs.Apart.{distinct_push}

-- the bucket of one digest has a number more, and each other one is as it was
filed_by : (digest d : List ℕ) (b : Bool) → Decides b (digest ≡ d) → (f g : List ℕ → List ℕ) → ((q : List ℕ) → f q ≡ g q) → (m n : ℕ) → m ≡ n → cond b (f digest ++ m ∷ []) (f d) ≡ cond b (g d ++ n ∷ []) (g d)
filed_by digest d true h f g same m n e = ap (λ xs. xs ++ m ∷ []) (same digest ∙ ap g (h.0 refl)) ∙ ap (λ i. g d ++ i ∷ []) e
filed_by digest d false h f g same m n e = same d

-- the buckets have the number of the new pair at its digest
abbrev pub HasNext : Buckets → Buckets → ℕ → Kept → Type 0
HasNext old new next k = SetsBucket old new (digest_of k.doc) (in_bucket old (digest_of k.doc) ++ next ∷ [])

at_each : (kept : List Kept) (first next total : ℕ) (old new : Buckets) (k : Kept) → IsStore kept first next total old → HasNext old new next k → (d : List ℕ) → in_bucket new d ≡ numbers_of d first (kept ++ k ∷ [])
at_each kept first next total old new k is h d =
    h d
    ∙ filed_by (digest_of k.doc) d (bytes_eq (digest_of k.doc) d) (bytes_eq-Decides (digest_of k.doc) d) (in_bucket old) (λ q. numbers_of q first kept) is.filed next (first + length kept) is.counted
    ∙ sym (numbers_of_push d first kept k)

pub store_push : (kept : List Kept) (first next total : ℕ) (old new : Buckets) (k : Kept) → IsStore kept first next total old → find_doc k.doc kept ≡ None → HasNext old new next k → IsStore (kept ++ k ∷ []) first (next + 1) (total + cost_of_pair k) new
store_push kept first next total old new k is none h =
    record {
      filed = at_each kept first next total old new k is h;
      counted = let e = is.counted in search (arith, length-append, e);
      summed = ap (λ t. t + cost_of_pair k) is.summed ∙ sym (cost_of_push kept k);
      distinct = distinct_push kept k is.distinct none;
    }
