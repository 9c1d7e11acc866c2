-- What is known of variables against what they stand for: whether this begins so, and what is past it.
use Rattle.std.proofs.Common.{◌≡◌, ◌<◌, ℕ, zero, suc, List, [], ◌∷◌, ◌++◌, length, drop, set, replicate, Bool, true, false, ◌&&◌, slice_get, refl, sym, ap, ◌∙◌, arith}
use Rattle.std.specs.Option.{option_map_or}
use Rattle.stacks_vars.specs.declared.scopes.NodeAt.{NodeAt}
use Rattle.stacks_vars.specs.declared.patterns.Tail.{Tail}
use Rattle.stacks_vars.specs.declared.patterns.Tail.TheVariants.{Nil, Front, Item}
use Rattle.partial_path.specs.Apply.{Rests, rests_of, tail_scopes}
use Rattle.path_join.proofs.AndLaws.{and_assoc, and_last, and_first, and_second, and_both}
use Rattle.path_join.proofs.BeginsLaws.{begins, begins-append, begins_is, begins_whole}

-- the same first and the same others
pub same_cons : {X : Type 0} (x y : X) (xs ys : List X) → x ≡ y → xs ≡ ys → x ∷ xs ≡ y ∷ ys
same_cons x y xs ys h k = cc

pub same_rests : (a b : List NodeAt) (m n : List (List NodeAt)) → a ≡ b → m ≡ n → rests_of a m ≡ rests_of b n
same_rests a b m n h k = λ i. record { front = h i; items = k i }

-- whether each list begins with the known one of its place, there being as many
abbrev pub begins_all : List (List NodeAt) → List (List NodeAt) → Bool
begins_all [] [] = true
begins_all [] (s ∷ lists) = false
begins_all (k ∷ known) [] = false
begins_all (k ∷ known) (s ∷ lists) = begins k s && begins_all known lists

-- what is past the known ones
abbrev pub past_all : List (List NodeAt) → List (List NodeAt) → List (List NodeAt)
past_all [] lists = []
past_all (k ∷ known) [] = []
past_all (k ∷ known) (s ∷ lists) = drop (length k) s ∷ past_all known lists

-- whether what the variables stand for begins with what is known
abbrev pub fits : Rests → Rests → Bool
fits known rests = begins known.front rests.front && begins_all known.items rests.items

-- what the variables stand for past what is known
abbrev pub beyond : Rests → Rests → Rests
beyond known rests = rests_of (drop (length known.front) rests.front) (past_all known.items rests.items)

-- the list of one place, and none past the end
abbrev pub list_at : List (List NodeAt) → ℕ → List NodeAt
list_at lists i = option_map_or (λ (scopes : List NodeAt). scopes) (slice_get lists i) []

pub list_at-past : (known lists : List (List NodeAt)) (i : ℕ) → begins_all known lists ≡ true → list_at lists i ≡ list_at known i ++ list_at (past_all known lists) i
list_at-past [] [] i h = refl
list_at-past [] (s ∷ lists) i h = cc
list_at-past (k ∷ known) [] i h = cc
list_at-past (k ∷ known) (s ∷ lists) zero h = begins_is k s (and_first (begins k s) (begins_all known lists) h)
list_at-past (k ∷ known) (s ∷ lists) (suc i) h = list_at-past known lists i (and_second (begins k s) (begins_all known lists) h)

-- a variable stands for what is known of it and then for what is past that
pub tail_scopes-beyond : (known rests : Rests) (tail : Tail) → fits known rests ≡ true
    → tail_scopes rests tail ≡ tail_scopes known tail ++ tail_scopes (beyond known rests) tail
tail_scopes-beyond known rests Nil h = refl
tail_scopes-beyond known rests Front h =
    begins_is known.front rests.front (and_first (begins known.front rests.front) (begins_all known.items rests.items) h)
tail_scopes-beyond known rests (Item i) h =
    list_at-past known.items rests.items i (and_second (begins known.front rests.front) (begins_all known.items rests.items) h)

pub begins_all-length : (known lists : List (List NodeAt)) → begins_all known lists ≡ true → length known ≡ length lists
begins_all-length [] [] h = refl
begins_all-length [] (s ∷ lists) h = cc
begins_all-length (k ∷ known) [] h = cc
begins_all-length (k ∷ known) (s ∷ lists) h = ap suc (begins_all-length known lists (and_second (begins k s) (begins_all known lists) h))

-- more is known of one place
pub begins_all-set : (known lists : List (List NodeAt)) (i : ℕ) (more : List NodeAt) → i < length lists
    → begins_all (set known i (list_at known i ++ more)) lists ≡ (begins_all known lists && begins more (list_at (past_all known lists) i))
begins_all-set [] [] i more h = absurd (omega arith)
begins_all-set [] (s ∷ lists) i more h = refl
begins_all-set (k ∷ known) [] i more h = absurd (omega arith)
begins_all-set (k ∷ known) (s ∷ lists) zero more h =
    ap (λ (b : Bool). b && begins_all known lists) (begins-append k more s)
    ∙ and_last (begins k s) (begins more (drop (length k) s)) (begins_all known lists)
begins_all-set (k ∷ known) (s ∷ lists) (suc i) more h =
    ap (λ (b : Bool). begins k s && b) (begins_all-set known lists i more (omega arith))
    ∙ sym (and_assoc (begins k s) (begins_all known lists) (begins more (list_at (past_all known lists) i)))

-- what is known fits itself, and nothing fits all that has as many places
pub begins_all_itself : (known : List (List NodeAt)) → begins_all known known ≡ true
begins_all_itself [] = refl
begins_all_itself (k ∷ known) = and_both (begins k k) (begins_all known known) (begins_whole k) (begins_all_itself known)

pub begins_all_nothing : (lists : List (List NodeAt)) (n : ℕ) → length lists ≡ n → begins_all (replicate n []) lists ≡ true
begins_all_nothing [] zero h = refl
begins_all_nothing [] (suc n) h = absurd (omega arith)
begins_all_nothing (s ∷ lists) zero h = absurd (omega arith)
begins_all_nothing (s ∷ lists) (suc n) h = begins_all_nothing lists n (omega arith)

pub fits_itself : (known : Rests) → fits known known ≡ true
fits_itself known =
    and_both (begins known.front known.front) (begins_all known.items known.items) (begins_whole known.front) (begins_all_itself known.items)
