-- Entries of one seat, in beginnings of one log and in none.
use Rattle.std.proofs.Common.{◌≡◌, ℕ, zero, suc, ◌==◌, List, [], ◌∷◌, ◌++◌, length, replicate, slice_index, refl, ap, sym, ◌∙◌, arith, length-append, append-nil}
use Rattle.std.proofs.lemmas.List.Elements.{filter-append}
use Rattle.version_tree.specs.declared.entry.Entry.{Entry}
use Rattle.version_board.specs.Logs.{own, Begins, IsLater}
use Rattle.shared_board.specs.Bodies.{AreCounts}

none : {A : Type 0} (xs : List A) → length xs ≡ 0 → xs ≡ []
none [] e = refl
none (x ∷ xs) e = absurd (omega (arith, e))

-- a beginning with as many entries of a seat has all of them
pub own_all : (seat : ℕ) (a b : List Entry) → Begins a b → length (own seat a) ≡ length (own seat b) → own seat b ≡ own seat a
own_all seat a b p n =
    let cut : own seat b ≡ own seat a ++ own seat p.0 = ap (own seat) (sym p.1) ∙ filter-append (λ (e : Entry). e.seat == seat) a p.0 in
    let few : length (own seat p.0) ≡ 0 = omega (arith, n, ap length cut, length-append (own seat a) (own seat p.0)) in
    cut ∙ (ap (λ (t : List Entry). own seat a ++ t) (none (own seat p.0) few) ∙ append-nil (own seat a))

pub own_stays : (seat : ℕ) (a b : List Entry) → Begins a b → length (own seat a) ≡ length (own seat b) → IsLater seat a b
own_stays seat a b p n = record { begins = p; own_stay = own_all seat a b p n }

zeros : (n k : ℕ) → slice_index (replicate n 0) k ≡ 0
zeros zero k = refl
zeros (suc n) zero = refl
zeros (suc n) (suc k) = zeros n k

pub no_counts : (n : ℕ) → AreCounts (replicate n 0) []
no_counts n = record { each = λ k less. zeros n k; none = λ k more. refl }
