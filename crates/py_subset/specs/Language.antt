-- What a rule of the grammar reads: `L ts x us` says that `L` reads the tree x from the tokens ts up to us.
use Rattle.std.specs.Prelude.{◌≡◌, ◌⊎◌, Bool, true, false, List, [], ◌∷◌, Option, Some, None, if◌then◌else◌}
use Rattle.py_subset.specs.declared.token.Token.{Token}
use Rattle.py_subset.specs.declared.token.Mark.{Mark}
use Rattle.py_subset.specs.declared.token.Mark.TheVariants as m
use Rattle.py_subset.specs.declared.tree.Word.{Word}
use Rattle.py_subset.specs.Marks.{same}

-- what a rule reads: tokens, a tree, and the tokens after it
abbrev pub Language : Type 0 → Type 1
Language A = List Token → A → List Token → Type 0

-- the mark of the next token; END stands where the list ends
abbrev pub next : List Token → Mark
next [] = m.End
next (t ∷ ts) = t.mark

-- one token whose mark stands for a value
abbrev pub marked : {A : Type 0} → (Mark → Option A) → Language A
marked f [] x us = ⊥
marked f (t ∷ ts) x us = (f t.mark ≡ Some x) × (us ≡ ts)

-- the one mark that stands for nothing more
abbrev pub only : Mark → Mark → Option (Unit {0})
only mark other = if same other mark then Some tt else None

-- one token with this mark
abbrev pub tok : Mark → Language (Unit {0})
tok mark = marked (only mark)

-- a NAME
abbrev pub name : Language Word
name [] w us = ⊥
name (t ∷ ts) w us = (t.mark ≡ m.Name) × (w ≡ t.word) × (us ≡ ts)

-- one after the other, and the tree of both
abbrev pub both : {A B C : Type 0} → (A → B → C) → Language A → Language B → Language C
both {A} {B} {C} f L M ts z vs =
    (x : A) × (y : B) × (us : List Token) × L ts x us × M us y vs × (z ≡ f x y)

-- the tree made of another tree
abbrev pub image : {A B : Type 0} → (A → B) → Language A → Language B
image {A} {B} f L ts y us = (x : A) × L ts x us × (y ≡ f x)

-- the one or the other
abbrev pub either : {A : Type 0} → Language A → Language A → Language A
either L M ts x us = L ts x us ⊎ M ts x us

-- any number of them
abbrev pub star : {A : Type 0} → Language A → Language (List A)
star L ts [] us = us ≡ ts
star L ts (x ∷ xs) vs = (us : List Token) × L ts x us × star L us xs vs

-- one of them or none
abbrev pub opt : {A : Type 0} → Language A → Language (Option A)
opt L ts None us = us ≡ ts
opt L ts (Some x) us = L ts x us

-- further ones, each behind a comma, and whether a comma stands at the end
abbrev pub further : {A : Type 0} → Language A → List A → Bool → List Token → List Token → Type 0
further L [] false ts us = us ≡ ts
further L [] true ts us = tok m.Comma ts tt us
further L (x ∷ xs) c ts ws =
    (us : List Token) × (vs : List Token) × tok m.Comma ts tt us × L us x vs × further L xs c vs ws

-- at least one, with commas between, and whether a comma stands at the end
abbrev pub several : {A : Type 0} → Language A → Language (List A × Bool)
several {A} L ts z vs =
    (x : A) × (xs : List A) × (c : Bool) × (us : List Token) × L ts x us × further L xs c us vs
    × (z ≡ (x ∷ xs, c))

-- a token before
infixr 12 ◌▹◌
abbrev pub ◌▹◌ : {A : Type 0} → Mark → Language A → Language A
mark ▹ L = both (λ _ x. x) (tok mark) L

-- a token after
infixl 11 ◌◃◌
abbrev pub ◌◃◌ : {A : Type 0} → Language A → Mark → Language A
L ◃ mark = both (λ x _. x) L (tok mark)

-- unless a token with this mark comes next
abbrev pub unless : {A : Type 0} → Mark → Language A → Language A
unless mark L ts x us = (same (next ts) mark ≡ false) × L ts x us
