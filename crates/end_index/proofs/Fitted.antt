-- Marks of files put one behind the other, and marks of one file changed: the paths that they tell then.
use Rattle.std.proofs.Common.{◌≡◌, refl, sym, ◌∙◌, ap, subst, ℕ, zero, suc, ◌+◌, ◌<◌, List, [], ◌∷◌, ◌++◌, length, map, filter, set, true, false, cond, arith, All, append_assoc, append-nil}
use Rattle.std.specs.Prelude.{nat_eq, not}
use Rattle.std.specs.List.Sorted.{IsPermutation}
use Rattle.std.proofs.lemmas.Bool.Decides.{nat_tests}
use Rattle.std.proofs.lemmas.List.Concat.{flat_map-append}
use Rattle.std.proofs.lemmas.List.Elements.{All-push, filter-append}
use Rattle.std.proofs.lemmas.List.Sorted.{IsPermutation-refl, IsPermutation-trans, IsPermutation-append, IsPermutation-append_comm}
use Rattle.partial_path.specs.declared.end_table.EndMark.{EndMark}
use Rattle.end_index.specs.declared.place.EndPlace.{EndPlace}
use Rattle.end_index.specs.Ends.{AreListed, IsPartAt, PartView, all_of, end_place, is_of_other, placed}
use Rattle.end_index.specs.Runs.{AreByRank}
use Rattle.end_index.proofs.Filtered.{filtered}

abbrev Marks : Type 0
Marks = List (List EndMark)

-- files behind others
pub placed-append : (n : ℕ) (xs ys : Marks) → placed n (xs ++ ys) ≡ placed n xs ++ placed (n + length xs) ys
placed-append n [] ys = let none : n ≡ n + 0 = omega arith in ap (λ m. placed m ys) none
placed-append n (x ∷ xs) ys =
    let next : (n + 1) + length xs ≡ n + suc (length xs) = omega arith in
    ap (λ (ps : List EndPlace). map (end_place n) x ++ ps) (placed-append (n + 1) xs ys ∙ ap (λ m. placed (n + 1) xs ++ placed m ys) next)
    ∙ sym (append_assoc (map (end_place n) x) (placed (n + 1) xs) (placed (n + suc (length xs)) ys))

all-push : (shares : List (List EndPlace)) (places : List EndPlace) → all_of (shares ++ places ∷ []) ≡ all_of shares ++ places
all-push shares places =
    flat_map-append (λ (ps : List EndPlace). ps) shares (places ∷ []) ∙ ap (λ (ps : List EndPlace). all_of shares ++ ps) (append-nil places)

pub listed_more : (marks : Marks) (shares : List (List EndPlace)) (part : PartView) → AreListed marks shares → IsPartAt (length marks) part
    → AreListed (marks ++ part.marks) (shares ++ part.places ∷ [])
listed_more marks shares part listed at = record {
  all = subst (λ (ps : List EndPlace). IsPermutation ps (all_of (shares ++ part.places ∷ []))) (sym (placed-append 0 marks part.marks ∙ (let whole : 0 + length marks ≡ length marks = omega arith in ap (λ n. placed 0 marks ++ placed n part.marks) whole)))
      (subst (IsPermutation (placed 0 marks ++ placed (length marks) part.marks)) (sym (all-push shares part.places)) (IsPermutation-append _ _ _ _ listed.all at.all));
  order = All-push AreByRank shares part.places listed.order at.order;
}

-- the paths of one file, and those of the others

mine : (file : ℕ) (marks : List EndMark) → filter (is_of_other file) (map (end_place file) marks) ≡ []
mine file [] = refl
mine file (mark ∷ marks) =
    let same : nat_eq file file ≡ true = grind (arith, nat_tests) in
    ap (λ b. cond (not b) (end_place file mark ∷ filter (is_of_other file) (map (end_place file) marks)) (filter (is_of_other file) (map (end_place file) marks))) same
    ∙ mine file marks

others : (file n : ℕ) (marks : List EndMark) → nat_eq n file ≡ false → filter (is_of_other file) (map (end_place n) marks) ≡ map (end_place n) marks
others file n [] e = refl
others file n (mark ∷ marks) e =
    ap (λ b. cond (not b) (end_place n mark ∷ filter (is_of_other file) (map (end_place n) marks)) (filter (is_of_other file) (map (end_place n) marks))) e
    ∙ ap (λ (ps : List EndPlace). end_place n mark ∷ ps) (others file n marks e)

later : (file n : ℕ) (marks : Marks) → file < n → filter (is_of_other file) (placed n marks) ≡ placed n marks
later file n [] h = refl
later file n (m ∷ marks) h =
    let other : nat_eq n file ≡ false = grind (arith, nat_tests, h) in
    filter-append (is_of_other file) (map (end_place n) m) (placed (n + 1) marks)
    ∙ (λ i. others file n m other i ++ later file (n + 1) marks (omega (arith, h)) i)

-- one file has other marks: its paths go, and others come
pub placed-set : (n i : ℕ) (marks : Marks) (own : List EndMark) → i < length marks
    → IsPermutation (placed n (set marks i own)) (filter (is_of_other (n + i)) (placed n marks) ++ map (end_place (n + i)) own)
placed-set n i [] own h = absurd (omega arith)
placed-set n zero (m ∷ marks) own h =
    let none : n ≡ n + zero = omega arith in
    subst (λ k. IsPermutation (map (end_place n) own ++ placed (n + 1) marks) (filter (is_of_other k) (placed n (m ∷ marks)) ++ map (end_place k) own)) none
    (subst (λ (ps : List EndPlace). IsPermutation (map (end_place n) own ++ placed (n + 1) marks) (ps ++ map (end_place n) own))
    (sym (filter-append (is_of_other n) (map (end_place n) m) (placed (n + 1) marks) ∙ (λ i. mine n m i ++ later n (n + 1) marks (omega arith) i)))
    (IsPermutation-append_comm (map (end_place n) own) (placed (n + 1) marks)))
placed-set n (suc i) (m ∷ marks) own h =
    let next : (n + 1) + i ≡ n + suc i = omega arith in
    let other : nat_eq n (n + suc i) ≡ false = grind (arith, nat_tests) in
    let rest : IsPermutation (placed (n + 1) (set marks i own)) (filter (is_of_other (n + suc i)) (placed (n + 1) marks) ++ map (end_place (n + suc i)) own) =
    subst (λ k. IsPermutation (placed (n + 1) (set marks i own)) (filter (is_of_other k) (placed (n + 1) marks) ++ map (end_place k) own)) next
    (placed-set (n + 1) i marks own (omega (arith, h))) in
    subst (IsPermutation (map (end_place n) m ++ placed (n + 1) (set marks i own)))
    (sym (append_assoc (map (end_place n) m) (filter (is_of_other (n + suc i)) (placed (n + 1) marks)) (map (end_place (n + suc i)) own))
    ∙ ap (λ (ps : List EndPlace). ps ++ map (end_place (n + suc i)) own)
    (sym (filter-append (is_of_other (n + suc i)) (map (end_place n) m) (placed (n + 1) marks) ∙ ap (λ (ps : List EndPlace). ps ++ filter (is_of_other (n + suc i)) (placed (n + 1) marks)) (others (n + suc i) n m other))))
    (IsPermutation-append _ _ _ _ (IsPermutation-refl (map (end_place n) m)) rest)

-- what is listed once a file has other marks: the paths of the others as they stood, and behind them the last share with its own
pub listed_set : (i : ℕ) (marks : Marks) (own : List EndMark) (shares kept : List (List EndPlace)) (last sorted : List EndPlace) → i < length marks → AreListed marks shares
    → filter (is_of_other i) (all_of shares) ≡ all_of kept ++ last → All AreByRank kept → IsPermutation (last ++ map (end_place i) own) sorted → AreByRank sorted
    → AreListed (set marks i own) (kept ++ sorted ∷ [])
listed_set i marks own shares kept last sorted h listed parts order moved up = record {
  all =
      IsPermutation-trans _ _ _ (let whole : 0 + i ≡ i = omega arith in subst (λ k. IsPermutation (placed 0 (set marks i own)) (filter (is_of_other k) (placed 0 marks) ++ map (end_place k) own)) whole (placed-set 0 i marks own h))
      (IsPermutation-trans _ _ _ (IsPermutation-append _ _ _ _ (filtered (is_of_other i) (placed 0 marks) (all_of shares) listed.all) (IsPermutation-refl (map (end_place i) own)))
      (subst (λ (ps : List EndPlace). IsPermutation (ps ++ map (end_place i) own) (all_of (kept ++ sorted ∷ []))) (sym parts)
      (subst (λ (ps : List EndPlace). IsPermutation ps (all_of (kept ++ sorted ∷ []))) (sym (append_assoc (all_of kept) last (map (end_place i) own)))
      (subst (IsPermutation (all_of kept ++ (last ++ map (end_place i) own))) (sym (all-push kept sorted))
      (IsPermutation-append _ _ _ _ (IsPermutation-refl (all_of kept)) moved)))));
  order = All-push AreByRank kept sorted order up;
}

-- shares one by one: what is left of them without a file, and what all of them have
pub without_more : (file : ℕ) (done rest : List (List EndPlace)) (places kept : List EndPlace) (left new whole : List (List EndPlace)) → kept ≡ filter (is_of_other file) places
    → new ≡ left ++ kept ∷ [] → all_of left ++ filter (is_of_other file) (all_of (places ∷ rest)) ≡ filter (is_of_other file) (all_of whole)
    → all_of new ++ filter (is_of_other file) (all_of rest) ≡ filter (is_of_other file) (all_of whole)
without_more file done rest places kept left new whole is pushed e =
    ap (λ (ss : List (List EndPlace)). all_of ss ++ filter (is_of_other file) (all_of rest)) pushed
    ∙ ap (λ (ps : List EndPlace). ps ++ filter (is_of_other file) (all_of rest)) (all-push left kept ∙ ap (λ (ps : List EndPlace). all_of left ++ ps) is)
    ∙ append_assoc (all_of left) (filter (is_of_other file) places) (filter (is_of_other file) (all_of rest))
    ∙ sym (ap (λ (ps : List EndPlace). all_of left ++ ps) (filter-append (is_of_other file) places (all_of rest)))
    ∙ e
