-- Reading with one token of lookahead: a tree and the tokens after it, or the tokens from the refused one on.
use Rattle.std.specs.Prelude.{◌≡◌, ℕ, zero, suc, Bool, true, false, if◌then◌else◌, List, [], ◌∷◌, Option, Some, None, Result, Ok, Err}
use Rattle.py_subset.specs.declared.token.Token.{Token}
use Rattle.py_subset.specs.declared.token.Mark.{Mark}
use Rattle.py_subset.specs.declared.token.Mark.TheVariants as m
use Rattle.py_subset.specs.declared.token_list.Stop.{Stop}
use Rattle.py_subset.specs.declared.token_list.Stop.TheVariants as stop
use Rattle.py_subset.specs.declared.tree.Word.{Word}
use Rattle.py_subset.specs.Marks.{same}
use Rattle.py_subset.specs.Language.{next}

-- what is read and the tokens after it, or the tokens from the refused one on
abbrev pub Reply : Type 0 → Type 0
Reply A = Result (A × List Token) (List Token)

-- a reading of the tokens' front
abbrev pub Parser : Type 0 → Type 0
Parser A = List Token → Reply A

-- first the one, and then what follows from its reply; a refusal ends it
infixl 10 ◌>>=◌
abbrev pub ◌>>=◌ : {A B : Type 0} → Reply A → (A × List Token → Reply B) → Reply B
(Ok x) >>= f = f x
(Err e) >>= f = Err e

-- the tokens after the next one
abbrev pub rest : List Token → List Token
rest [] = []
rest (t ∷ ts) = ts

-- the next token, where it stands for a value
abbrev pub told : {A : Type 0} → Option A → List Token → Reply A
told (Some x) ts = Ok (x, rest ts)
told None ts = Err ts

-- one token whose mark stands for a value
abbrev pub marked : {A : Type 0} → (Mark → Option A) → Parser A
marked f ts = told (f (next ts)) ts

-- one token with this mark
abbrev pub tok : Mark → Parser (Unit {0})
tok mark ts = if same (next ts) mark then Ok (tt, rest ts) else Err ts

-- a name
abbrev pub name : Parser Word
name [] = Err []
name (t ∷ ts) = if same t.mark m.Name then Ok (t.word, ts) else Err (t ∷ ts)

-- one after the other, and the tree of both
abbrev pub both : {A B C : Type 0} → (A → B → C) → Parser A → Parser B → Parser C
both f p q ts = p ts >>= λ r. q r.1 >>= λ s. Ok (f r.0 s.0, s.1)

-- the tree made of another tree
abbrev pub image : {A B : Type 0} → (A → B) → Parser A → Parser B
image f p ts = p ts >>= λ r. Ok (f r.0, r.1)

-- the one where the next mark begins it, else the other
abbrev pub choice : {A : Type 0} → (Mark → Bool) → Parser A → Parser A → Parser A
choice first p q ts = if first (next ts) then p ts else q ts

-- one where the next mark begins it, else none
abbrev pub opt : {A : Type 0} → (Mark → Bool) → Parser A → Parser (Option A)
opt first p ts = if first (next ts) then (p ts >>= λ r. Ok (Some r.0, r.1)) else Ok (None, ts)

-- a token before
infixr 12 ◌▹◌
abbrev pub ◌▹◌ : {A : Type 0} → Mark → Parser A → Parser A
(mark ▹ p) ts = tok mark ts >>= λ r. p r.1

-- a token after
infixl 11 ◌◃◌
abbrev pub ◌◃◌ : {A : Type 0} → Parser A → Mark → Parser A
(p ◃ mark) ts = p ts >>= λ r. tok mark r.1 >>= λ s. Ok (r.0, s.1)

-- Any number of them. Each takes a token, so that as many turns as there are tokens are enough.
abbrev pub star : {A : Type 0} → (Mark → Bool) → Parser A → ℕ → Parser (List A)
star first p zero ts = Err ts
star first p (suc n) ts =
    if first (next ts) then (p ts >>= λ r. star first p n r.1 >>= λ s. Ok (r.0 ∷ s.0, s.1))
    else Ok ([], ts)

-- further ones, each behind a comma, and whether a comma stands at the end
abbrev pub further : {A : Type 0} → (Mark → Bool) → Parser A → ℕ → Parser (List A × Bool)
further first p zero ts = Err ts
further first p (suc n) ts =
    if same (next ts) m.Comma then
    (if first (next (rest ts))
    then (p (rest ts) >>= λ r. further first p n r.1 >>= λ s. Ok ((r.0 ∷ s.0.0, s.0.1), s.1))
    else Ok (([], true), rest ts))
    else Ok (([], false), ts)

-- at least one, with commas between, and whether a comma stands at the end
abbrev pub several : {A : Type 0} → (Mark → Bool) → Parser A → ℕ → Parser (List A × Bool)
several first p n ts = p ts >>= λ r. further first p n r.1 >>= λ s. Ok ((r.0 ∷ s.0.0, s.0.1), s.1)

-- What a function returned, and the tokens that it left, are the reply, unless memory ran out.
abbrev pub Gives : {A : Type 0} → Result A Stop → List Token → Reply A → Type 0
Gives (Ok x) left r = r ≡ Ok (x, left)
Gives (Err stop.Refused) left r = r ≡ Err left
Gives (Err stop.NoMemory) left r = Unit {0}
