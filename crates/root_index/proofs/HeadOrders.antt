-- Short texts with one head are the same, and six heads are those of a key.
use Rattle.std.proofs.Common.{◌≡◌, refl, sym, ◌∙◌, ap, subst, false, true, ℕ, zero, suc, ◌%◌, ◌<◌, ◌≤◌, drop, List, [], ◌∷◌, Option, Some, None, slice_get, arith}
use Rattle.std.specs.Ordering.{nat_cmp}
use Rattle.std.specs.Option.{is_some, option_cmp, option_map}
use Rattle.std.specs.declared.cmp.Ordering.{Ordering}
use Rattle.std.specs.declared.cmp.Ordering.TheVariants.{Equal}
use Rattle.std.specs.Cmp.Lexicographic.{slice_cmp}
use Rattle.stacks_vars.specs.Head.{IsHead}
use Rattle.stacks_vars.proofs.HeadLaws.{whole_stands, long_alike}
use Rattle.partial_path.specs.Heads.{IsHeadAt}
use Rattle.partial_path.proofs.HeadOrders.{some_head}
use Rattle.root_index.specs.Heads.{AreHeads, IsTailAt}

pub heads_same : (a b : ℕ) (x y : Option (List ℕ)) → IsHeadAt a x → IsHeadAt b y → a ≡ b → a % 256 ≤ 8 → Equal ≡ option_cmp (slice_cmp nat_cmp) x y
heads_same a b None None p q same whole = refl
heads_same a b None (Some y) p q same whole = absurd (let some = some_head b y q in omega (arith, p, same, some))
heads_same a b (Some x) None p q same whole = absurd (let some = some_head a x p in omega (arith, q, same, some))
heads_same a b (Some x) (Some y) p q same whole = whole_stands a b x y p q same whole

-- the heads of six places
pub six_heads : (a b c d e f : ℕ) (texts : List (List ℕ)) → IsHeadAt a (slice_get texts 0) → IsHeadAt b (slice_get texts 1) → IsHeadAt c (slice_get texts 2)
    → IsHeadAt d (slice_get texts 3) → IsHeadAt e (slice_get texts 4) → IsHeadAt f (slice_get texts 5) → AreHeads (a ∷ b ∷ c ∷ d ∷ e ∷ f ∷ []) texts
six_heads a b c d e f texts p q r s t u zero low = p
six_heads a b c d e f texts p q r s t u (suc zero) low = q
six_heads a b c d e f texts p q r s t u (suc (suc zero)) low = r
six_heads a b c d e f texts p q r s t u (suc (suc (suc zero))) low = s
six_heads a b c d e f texts p q r s t u (suc (suc (suc (suc zero)))) low = t
six_heads a b c d e f texts p q r s t u (suc (suc (suc (suc (suc zero))))) low = u
six_heads a b c d e f texts p q r s t u (suc (suc (suc (suc (suc (suc i)))))) low = absurd (omega (arith, low))

-- how the text stands to another, where there is one
abbrev pub side_to : List ℕ → Option (List ℕ) → Option Ordering
side_to w = option_map (λ (t : List ℕ). slice_cmp nat_cmp t w)

-- no head: no text
pub none_there : (n : ℕ) (o : Option (List ℕ)) (w : List ℕ) → IsHeadAt n o → n ≡ 0 → side_to w o ≡ None
none_there n None w p none = refl
none_there n (Some t) w p none = absurd (let some = some_head n t p in omega (arith, some, none))

-- a head: the heads tell how the text stands, where they tell it
pub side_told : (n : ℕ) (o : Option (List ℕ)) (w : List ℕ) (r : Ordering) → IsHeadAt n o → (n ≡ 0 → ⊥) → r ≡ option_cmp (slice_cmp nat_cmp) o (Some w)
    → side_to w o ≡ Some r
side_told n None w r p some is = absurd (some p)
side_told n (Some t) w r p some is = ap Some (sym is)

pub asks_told : (n : ℕ) (o : Option (List ℕ)) → IsHeadAt n o → (n ≡ 0 → ⊥) → true ≡ is_some o
asks_told n None p some = absurd (some p)
asks_told n (Some t) p some = refl

pub asks_none : (n : ℕ) (o : Option (List ℕ)) → IsHeadAt n o → n ≡ 0 → false ≡ is_some o
asks_none n None p none = refl
asks_none n (Some t) p none = absurd (let some = some_head n t p in omega (arith, some, none))

-- a head that another place doesn't have: its text isn't there
pub other_text : (a b : ℕ) (x y : Option (List ℕ)) → IsHeadAt a x → IsHeadAt b y → (a ≡ 0 → ⊥) → (a ≡ b → ⊥) → (text : List ℕ) × (x ≡ Some text) × (y ≡ Some text → ⊥)
other_text a b None y p q some other = absurd (some p)
other_text a b (Some text) y p q some other = (text, refl, λ e. other (p.value ∙ sym (subst (IsHeadAt b) e q).value))

-- texts of more than seven bytes with one head stand as their tails do
pub tails_told : (head : ℕ) (x y : Option (List ℕ)) (r : Ordering) → IsHeadAt head x → IsHeadAt head y → 8 < head % 256
    → r ≡ option_cmp (slice_cmp nat_cmp) (option_map (λ (t : List ℕ). drop 7 t) x) (option_map (λ (t : List ℕ). drop 7 t) y)
    → r ≡ option_cmp (slice_cmp nat_cmp) x y
tails_told head None y r p q long is = absurd (omega (arith, p, long))
tails_told head (Some t) None r p q long is = absurd (omega (arith, q, long))
tails_told head (Some t) (Some w) r p q long is = is ∙ sym (long_alike head head t w p q refl (λ short. omega (arith, short, long))).alike
