-- Lists that are kept turned round.
use Rattle.std.proofs.Common.{◌≡◌, sym, ◌∙◌, ap, ℕ, ◌-◌, List, ◌++◌, length, take, drop, reverse, arith}
use Rattle.std.proofs.lemmas.List.{length-drop, length-reverse, reverse-append, reverse-reverse, take-append-drop}
use Rattle.std.proofs.Math.Seq.{take-append_seam}

-- what is behind the first elements is, turned round, what is before as many of the last
pub behind : {X : Type 0} (xs : List X) (n : ℕ) → reverse (take (length (reverse xs) - n) (reverse xs)) ≡ drop n xs
behind xs n =
    let split : reverse xs ≡ reverse (drop n xs) ++ reverse (take n xs) = ap reverse (sym (take-append-drop n xs)) ∙ reverse-append (take n xs) (drop n xs) in
    let count : length (reverse xs) - n ≡ length (reverse (drop n xs)) =
    (let a = length-reverse xs in let b = length-reverse (drop n xs) in let c = length-drop n xs in omega arith) in
    (λ i. reverse (take (count i) (split i))) ∙ ap reverse (take-append_seam (reverse (drop n xs)) (reverse (take n xs))) ∙ reverse-reverse (drop n xs)

-- the same of a list that is kept turned round, of which a copy of the last is told
pub behind_stored : {X : Type 0} (stored rest : List X) (n left : ℕ) → left ≡ length stored - n → rest ≡ take left stored
    → reverse rest ≡ drop n (reverse stored)
behind_stored stored rest n left many taken =
    let turned : reverse (reverse stored) ≡ stored = reverse-reverse stored in
    ap reverse (taken ∙ ap (λ k. take k stored) many)
    ∙ ap (λ ys. reverse (take (length ys - n) ys)) (sym turned)
    ∙ behind (reverse stored) n
