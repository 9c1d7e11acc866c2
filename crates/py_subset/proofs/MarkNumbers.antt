-- A mark is known by its number.
use Rattle.std.proofs.Common.{◌≡◌, ℕ, Bool, true, false, get_or, ◌<◌, List, [], ◌∷◌, length, lit<, refl, ap, sym, ◌∙◌}
use Rattle.std.proofs.lemmas.Bool.{eqb-true, eq-eqb}
use denote.Enum.Bare.{sameb, same_true, true_same}
use Rattle.py_subset.specs.contracts.token.Mark.{the_type}
use Rattle.py_subset.specs.declared.token.Mark.{Mark}
use Rattle.py_subset.specs.declared.token.Mark.TheVariants as m
use Rattle.py_subset.specs.Marks.{number, same}

-- all marks, each at its number
abbrev pub marks : List Mark
marks = m.Name ∷ m.Number ∷ m.Text ∷ m.Newline ∷ m.Indent ∷ m.Dedent ∷ m.End ∷ m.FalseWord ∷ m.NoneWord ∷ m.TrueWord ∷ m.And ∷ m.As ∷ m.Break ∷ m.Class ∷ m.Continue ∷ m.Def ∷ m.Elif ∷ m.Else ∷ m.For ∷ m.From ∷ m.If ∷ m.Import ∷ m.In ∷ m.Is ∷ m.Not ∷ m.Or ∷ m.Pass ∷ m.Return ∷ m.While ∷ m.Foreign ∷ m.OpenRound ∷ m.CloseRound ∷ m.OpenSquare ∷ m.CloseSquare ∷ m.OpenCurly ∷ m.CloseCurly ∷ m.Comma ∷ m.Colon ∷ m.Dot ∷ m.Assign ∷ m.Plus ∷ m.Minus ∷ m.Star ∷ m.Slash ∷ m.DoubleSlash ∷ m.Percent ∷ m.Power ∷ m.Ampersand ∷ m.Bar ∷ m.Caret ∷ m.Tilde ∷ m.ShiftLeft ∷ m.ShiftRight ∷ m.Less ∷ m.Greater ∷ m.LessEqual ∷ m.GreaterEqual ∷ m.EqualEqual ∷ m.NotEqual ∷ []

pub at_number : (a : Mark) → get_or marks (number a) m.End ≡ a
at_number m.Name = refl
at_number m.Number = refl
at_number m.Text = refl
at_number m.Newline = refl
at_number m.Indent = refl
at_number m.Dedent = refl
at_number m.End = refl
at_number m.FalseWord = refl
at_number m.NoneWord = refl
at_number m.TrueWord = refl
at_number m.And = refl
at_number m.As = refl
at_number m.Break = refl
at_number m.Class = refl
at_number m.Continue = refl
at_number m.Def = refl
at_number m.Elif = refl
at_number m.Else = refl
at_number m.For = refl
at_number m.From = refl
at_number m.If = refl
at_number m.Import = refl
at_number m.In = refl
at_number m.Is = refl
at_number m.Not = refl
at_number m.Or = refl
at_number m.Pass = refl
at_number m.Return = refl
at_number m.While = refl
at_number m.Foreign = refl
at_number m.OpenRound = refl
at_number m.CloseRound = refl
at_number m.OpenSquare = refl
at_number m.CloseSquare = refl
at_number m.OpenCurly = refl
at_number m.CloseCurly = refl
at_number m.Comma = refl
at_number m.Colon = refl
at_number m.Dot = refl
at_number m.Assign = refl
at_number m.Plus = refl
at_number m.Minus = refl
at_number m.Star = refl
at_number m.Slash = refl
at_number m.DoubleSlash = refl
at_number m.Percent = refl
at_number m.Power = refl
at_number m.Ampersand = refl
at_number m.Bar = refl
at_number m.Caret = refl
at_number m.Tilde = refl
at_number m.ShiftLeft = refl
at_number m.ShiftRight = refl
at_number m.Less = refl
at_number m.Greater = refl
at_number m.LessEqual = refl
at_number m.GreaterEqual = refl
at_number m.EqualEqual = refl
at_number m.NotEqual = refl

-- Marks with one number are one mark.
pub same-is : (a b : Mark) → same a b ≡ true → a ≡ b
same-is a b e = sym (at_number a) ∙ ap (λ (n : ℕ). get_or marks n m.End) (eqb-true (number a) (number b) e) ∙ at_number b

alike : (p q : Bool) → (p ≡ true → q ≡ true) → (q ≡ true → p ≡ true) → p ≡ q
alike true q f g = sym (f refl)
alike false true f g = g refl
alike false false f g = refl

-- What `==` answers at marks is the test of their numbers.
pub equal-same : (a b : Mark) → sameb the_type a b ≡ same a b
equal-same a b = alike (sameb the_type a b) (same a b) (λ e. eq-eqb (number a) (number b) (ap number (same_true the_type tt a b e))) (λ e. true_same the_type a b (same-is a b e))

pub number_small : (a : Mark) → number a < length marks
number_small m.Name = lit< tt
number_small m.Number = lit< tt
number_small m.Text = lit< tt
number_small m.Newline = lit< tt
number_small m.Indent = lit< tt
number_small m.Dedent = lit< tt
number_small m.End = lit< tt
number_small m.FalseWord = lit< tt
number_small m.NoneWord = lit< tt
number_small m.TrueWord = lit< tt
number_small m.And = lit< tt
number_small m.As = lit< tt
number_small m.Break = lit< tt
number_small m.Class = lit< tt
number_small m.Continue = lit< tt
number_small m.Def = lit< tt
number_small m.Elif = lit< tt
number_small m.Else = lit< tt
number_small m.For = lit< tt
number_small m.From = lit< tt
number_small m.If = lit< tt
number_small m.Import = lit< tt
number_small m.In = lit< tt
number_small m.Is = lit< tt
number_small m.Not = lit< tt
number_small m.Or = lit< tt
number_small m.Pass = lit< tt
number_small m.Return = lit< tt
number_small m.While = lit< tt
number_small m.Foreign = lit< tt
number_small m.OpenRound = lit< tt
number_small m.CloseRound = lit< tt
number_small m.OpenSquare = lit< tt
number_small m.CloseSquare = lit< tt
number_small m.OpenCurly = lit< tt
number_small m.CloseCurly = lit< tt
number_small m.Comma = lit< tt
number_small m.Colon = lit< tt
number_small m.Dot = lit< tt
number_small m.Assign = lit< tt
number_small m.Plus = lit< tt
number_small m.Minus = lit< tt
number_small m.Star = lit< tt
number_small m.Slash = lit< tt
number_small m.DoubleSlash = lit< tt
number_small m.Percent = lit< tt
number_small m.Power = lit< tt
number_small m.Ampersand = lit< tt
number_small m.Bar = lit< tt
number_small m.Caret = lit< tt
number_small m.Tilde = lit< tt
number_small m.ShiftLeft = lit< tt
number_small m.ShiftRight = lit< tt
number_small m.Less = lit< tt
number_small m.Greater = lit< tt
number_small m.LessEqual = lit< tt
number_small m.GreaterEqual = lit< tt
number_small m.EqualEqual = lit< tt
number_small m.NotEqual = lit< tt
