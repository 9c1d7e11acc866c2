-- What a store has while another's pairs are moved into it.
use Rattle.std.specs.Prelude.{◌<◌, List, [], ◌∷◌, ◌++◌, length, drop, None, Some}
use Rattle.std.specs.List.{slice_get}
use Rattle.std.proofs.Common.{◌≡◌, refl, sym, ap, subst, ◌∙◌, arith}
use Rattle.std.proofs.lemmas.List.{append_assoc, append-nil}
use Rattle.std.proofs.lemmas.Option.{none-some, same_Some}
use Rattle.path_store.specs.Store.{Kept, with_doc, with_docs, HasSomeOf}

-- some of the other's pairs are kept, and the rest is left there
pub record HasMoved (more old left new : List Kept) : Type 0 where
  pub some : List Kept
  pub split : more ≡ some ++ left
  pub kept : new ≡ with_docs some old

-- one pair more
pub with_docs_more : (some : List Kept) (k : Kept) (ks : List Kept) → with_docs (some ++ k ∷ []) ks ≡ with_doc k.doc k.paths (with_docs some ks)
with_docs_more [] k ks = refl
with_docs_more (x ∷ some) k ks = with_docs_more some k (with_doc x.doc x.paths ks)

pub moved_none : (more ks : List Kept) → HasMoved more ks more ks
moved_none more ks = record { some = []; split = refl; kept = refl }

pub moved_more : (more old left new : List Kept) (k : Kept) → slice_get left 0 ≡ Some k → HasMoved more old left new
    → HasMoved more old (drop 1 left) (with_doc k.doc k.paths new)
moved_more more old [] new k e h = absurd (none-some k e)
moved_more more old (x ∷ left) new k e h = subst (λ y. HasMoved more old left (with_doc y.doc y.paths new)) (same_Some x k e) (one_more more old left new x h)
  where
    one_more : (more old left new : List Kept) (x : Kept) → HasMoved more old (x ∷ left) new → HasMoved more old left (with_doc x.doc x.paths new)
    one_more more old left new x h = record {
      some = h.some ++ x ∷ [];
      split = h.split ∙ sym (append_assoc h.some (x ∷ []) left);
      kept = ap (with_doc x.doc x.paths) h.kept ∙ sym (with_docs_more h.some x old);
    }

pub moved_all : (more old left new : List Kept) → slice_get left 0 ≡ None → HasMoved more old left new → new ≡ with_docs more old
moved_all more old [] new e h = h.kept ∙ ap (λ some. with_docs some old) (sym (h.split ∙ append-nil h.some))
moved_all more old (x ∷ left) new e h = absurd (none-some x (sym e))

pub moved_some : (more old left new : List Kept) → HasMoved more old left new → HasSomeOf more old new
moved_some more old left new h = (h.some, left, h.split, h.kept)

pub moved_shorter : (left : List Kept) (k : Kept) → slice_get left 0 ≡ Some k → length (drop 1 left) < length left
moved_shorter [] k e = absurd (none-some k e)
moved_shorter (x ∷ left) k e = search arith
