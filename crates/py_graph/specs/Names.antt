-- Names of modules: which parts a path gives.
use Rattle.std.specs.Prelude.{ℕ, ◌-◌, List, [], ◌∷◌, length, take, slice_get, Bool, false, not, ◌&&◌, ◌==◌, if◌then◌else◌, Option, Some, None, codes, eqb}
use Rattle.std.specs.List.{list_all, list_any, slice_split, ends_with}
use Rattle.std.specs.Str.{bytes_eq}
use Rattle.py_subset.specs.Pieces.{begins_name, is_in_name}

-- the keywords of Python
abbrev pub keywords : List (List ℕ)
keywords =
    codes "False" ∷ codes "None" ∷ codes "True" ∷ codes "and" ∷ codes "as" ∷ codes "assert"
    ∷ codes "async" ∷ codes "await" ∷ codes "break" ∷ codes "class" ∷ codes "continue"
    ∷ codes "def" ∷ codes "del" ∷ codes "elif" ∷ codes "else" ∷ codes "except"
    ∷ codes "finally" ∷ codes "for" ∷ codes "from" ∷ codes "global" ∷ codes "if"
    ∷ codes "import" ∷ codes "in" ∷ codes "is" ∷ codes "lambda" ∷ codes "nonlocal"
    ∷ codes "not" ∷ codes "or" ∷ codes "pass" ∷ codes "raise" ∷ codes "return" ∷ codes "try"
    ∷ codes "while" ∷ codes "with" ∷ codes "yield" ∷ []

-- whether the name is a keyword
abbrev pub is_keyword : List ℕ → Bool
is_keyword name = list_any (λ k. bytes_eq k name) keywords

-- a letter or `_`, then letters, digits, `_`
abbrev pub is_word : List ℕ → Bool
is_word [] = false
is_word (b ∷ bs) = begins_name b && list_all is_in_name bs

-- a name that is no keyword
abbrev pub is_name : List ℕ → Bool
is_name text = is_word text && not (is_keyword text)

-- whether the part is there, and is `__init__`
abbrev pub is_init : Option (List ℕ) → Bool
is_init None = false
is_init (Some part) = bytes_eq part (codes "__init__")

-- a last part `__init__` is taken off
abbrev pub without_init : List (List ℕ) → List (List ℕ)
without_init parts =
    if is_init (slice_get parts (length parts - 1)) then take (length parts - 1) parts else parts

-- the parts that what stands before `.py` is cut into at each `/`
abbrev pub parts_of : List ℕ → List (List ℕ)
parts_of stem = without_init (slice_split (λ b. b == 47) stem)

-- at least one part is left, and each is a name
abbrev pub are_names : List (List ℕ) → Bool
are_names [] = false
are_names (part ∷ parts) = list_all is_name (part ∷ parts)

-- these parts, where they are a module's name
abbrev pub named : List (List ℕ) → Option (List (List ℕ))
named parts = if are_names parts then Some parts else None

-- the parts of the module's name, where the path ends with `.py` and gives a name
abbrev pub module_name : List ℕ → Option (List (List ℕ))
module_name path =
    if ends_with eqb path (codes ".py") then named (parts_of (take (length path - 3) path))
    else None
