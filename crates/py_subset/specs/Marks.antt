-- Numbers of marks, by which two marks are told apart.
use Rattle.std.specs.Prelude.{ℕ, Bool, ◌==◌}
use Rattle.py_subset.specs.declared.token.Mark.{Mark}
use Rattle.py_subset.specs.declared.token.Mark.TheVariants as m

-- the number of a mark
abbrev pub number : Mark → ℕ
number m.Name = 0
number m.Number = 1
number m.Text = 2
number m.Newline = 3
number m.Indent = 4
number m.Dedent = 5
number m.End = 6
number m.FalseWord = 7
number m.NoneWord = 8
number m.TrueWord = 9
number m.And = 10
number m.As = 11
number m.Break = 12
number m.Class = 13
number m.Continue = 14
number m.Def = 15
number m.Elif = 16
number m.Else = 17
number m.For = 18
number m.From = 19
number m.If = 20
number m.Import = 21
number m.In = 22
number m.Is = 23
number m.Not = 24
number m.Or = 25
number m.Pass = 26
number m.Return = 27
number m.While = 28
number m.Foreign = 29
number m.OpenRound = 30
number m.CloseRound = 31
number m.OpenSquare = 32
number m.CloseSquare = 33
number m.OpenCurly = 34
number m.CloseCurly = 35
number m.Comma = 36
number m.Colon = 37
number m.Dot = 38
number m.Assign = 39
number m.Plus = 40
number m.Minus = 41
number m.Star = 42
number m.Slash = 43
number m.DoubleSlash = 44
number m.Percent = 45
number m.Power = 46
number m.Ampersand = 47
number m.Bar = 48
number m.Caret = 49
number m.Tilde = 50
number m.ShiftLeft = 51
number m.ShiftRight = 52
number m.Less = 53
number m.Greater = 54
number m.LessEqual = 55
number m.GreaterEqual = 56
number m.EqualEqual = 57
number m.NotEqual = 58

-- whether two marks are one
abbrev pub same : Mark → Mark → Bool
same a b = number a == number b
