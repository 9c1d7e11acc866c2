-- The marks of texts, made byte by byte and symbol by symbol.
use Rattle.std.proofs.Common.{◌≡◌, refl, ◌∙◌, ap, ℕ, zero, suc, ◌+◌, ◌-◌, ◌<◌, ◌≤◌, List, [], length, min, take, drop, get_or, arith, inl, inr}
use Rattle.std.proofs.lemmas.Bool.{cases_lt}
use Rattle.std.proofs.lemmas.List.{drop_more, drop_all}
use Rattle.stacks_vars.specs.declared.patterns.SymOut.{SymOut}
use Rattle.partial_path.specs.Marks.{with_one, with_all, with_text, with_texts, made_texts}

-- a text's bytes one by one

pub byte_more : (mark i : ℕ) (bytes : List ℕ) → i < min (length bytes) 64
    → with_all mark (take (64 - i) (drop i bytes)) ≡ with_all (with_one mark (get_or bytes i 0)) (take (64 - (i + 1)) (drop (i + 1) bytes))
byte_more mark i bytes h =
    let more : 64 - i ≡ suc (64 - (i + 1)) = omega (arith, h) in
    let inside : i < length bytes = omega (arith, h) in
    λ k. with_all mark (take (more k) (drop_more bytes i 0 inside k))

pub bytes_over : (mark i : ℕ) (bytes : List ℕ) → min (length bytes) 64 ≤ i → with_all mark (take (64 - i) (drop i bytes)) ≡ mark
bytes_over mark i bytes h = elim (cases_lt i (length bytes)) [
  | inl inside ↦ (let none : 64 - i ≡ 0 = omega (arith, h, inside) in ap (λ n. with_all mark (take n (drop i bytes))) none)
  | inr past ↦ ap (λ bs. with_all mark (take (64 - i) bs)) (drop_all i bytes past) ∙ ap (with_all mark) (take_none (64 - i))
]
  where
    take_none : (n : ℕ) → take {A = ℕ} n [] ≡ []
    take_none zero = refl
    take_none (suc n) = refl

-- a path's symbols one by one

pub symbol_more : (mark i : ℕ) (made : List SymOut) (d : SymOut) → i < length made
    → with_texts mark (made_texts (drop i made)) ≡ with_texts (with_text mark (get_or made i d).symbol) (made_texts (drop (i + 1) made))
symbol_more mark i made d inside = ap (λ (outs : List SymOut). with_texts mark (made_texts outs)) (drop_more made i d inside)

pub symbols_over : (mark i : ℕ) (made : List SymOut) → length made ≤ i → with_texts mark (made_texts (drop i made)) ≡ mark
symbols_over mark i made past = ap (λ (outs : List SymOut). with_texts mark (made_texts outs)) (drop_all i made past)
