-- A tree that is chosen from another one.
use Rattle.std.specs.Prelude.{◌≡◌, Option, Some}
use Rattle.py_subset.specs.Language.{Language}

-- the tree that is chosen from another tree, where one is
abbrev pub chosen : {A B : Type 0} → (A → Option B) → Language A → Language B
chosen {A} f L ts y us = (x : A) × L ts x us × (f x ≡ Some y)
