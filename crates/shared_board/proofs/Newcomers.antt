-- Seats that have seen nothing, one more and one more.
use Rattle.std.proofs.Common.{◌≡◌, ◌⊎◌, ℕ, zero, suc, ◌+◌, ◌<◌, List, [], ◌∷◌, ◌++◌, length, slice_get, refl, ap, sym, ◌∙◌, subst, arith, inl, inr, length-append, Some}
use Rattle.shared_board.specs.Seats.{Holder, newcomer, AreNewcomers}

get_left : (hs : List Holder) (x : Holder) (k : ℕ) → k < length hs → slice_get (hs ++ x ∷ []) k ≡ slice_get hs k
get_left [] x k less = absurd (omega arith)
get_left (h ∷ hs) x zero less = refl
get_left (h ∷ hs) x (suc k) less = get_left hs x k (omega arith)

get_end : (hs : List Holder) (x : Holder) → slice_get (hs ++ x ∷ []) (length hs) ≡ Some x
get_end [] x = refl
get_end (h ∷ hs) x = get_end hs x

pub newcomers_none : AreNewcomers 0 []
newcomers_none = record { all = refl; each = λ k less. absurd (omega arith) }

end_or : (n k : ℕ) → k < n + 1 → (k < n) ⊎ (k ≡ n)
end_or n k less = grind arith

each_with : (n : ℕ) (hs : List Holder) → AreNewcomers n hs → (k : ℕ) → (k < n) ⊎ (k ≡ n) → slice_get (hs ++ newcomer n ∷ []) k ≡ Some (newcomer k)
each_with n hs h k (inl less) = get_left hs (newcomer n) k (omega (arith, less, h.all)) ∙ h.each k less
each_with n hs h k (inr is) =
    let all : length hs ≡ k = h.all ∙ sym is in
    subst (λ (j : ℕ). slice_get (hs ++ newcomer n ∷ []) j ≡ Some (newcomer k)) all (get_end hs (newcomer n) ∙ ap (λ (j : ℕ). Some (newcomer j)) (sym is))

pub newcomers_push : (n : ℕ) (hs : List Holder) → AreNewcomers n hs → AreNewcomers (n + 1) (hs ++ newcomer n ∷ [])
newcomers_push n hs h =
    record {
      all = length-append hs (newcomer n ∷ []) ∙ ap (λ k. k + 1) h.all;
      each = λ k less. each_with n hs h k (end_or n k less);
    }
