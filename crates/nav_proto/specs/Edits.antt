-- Which edits a commit has.
use Rattle.std.specs.Prelude.{ℕ, List, [], ◌∷◌, is_some, is_none, map, if◌then◌else◌, Option, Some, option_map, option_and_then, codes}
use Rattle.serde_json.specs.Data.{Data}
use Rattle.serde_json.specs.Find.{get, as_str}
use Rattle.json_values.specs.Numbers.{only_if}
use Rattle.json_values.specs.Lists.{list_of}
use Rattle.json_values.specs.Members.{is_among, other_in}
use Rattle.nav_proto.specs.declared.request.FileEdit.{FileEdit}
use Rattle.nav_proto.specs.declared.request.FileEdit.TheVariants.{Put, Remove}
use Rattle.nav_proto.specs.Texts.{text_of, is_path}

-- first the one, and then what follows from its value, where there is one
infixl 10 ◌>>=◌
abbrev pub ◌>>=◌ : {A B : Type 0} → Option A → (A → Option B) → Option B
o >>= f = option_and_then f o

-- the path that is the member of that name
abbrev pub path_in : List ℕ → Data → Option (List ℕ)
path_in name d = option_and_then (text_of is_path) (get name d)

-- an object of exactly `put`, a path, and `text`, a text
unfoldable pub put_of : Data → Option FileEdit
put_of d = do
  path ← path_in (codes "put") d
  text ← option_and_then as_str (get (codes "text") d)
  only_if (is_none (other_in (is_among (codes "put" ∷ codes "text" ∷ [])) d)) (Put path text)

-- an object of exactly `remove`, a path
unfoldable pub remove_of : Data → Option FileEdit
remove_of d = do
  path ← path_in (codes "remove") d
  only_if (is_none (other_in (is_among (codes "remove" ∷ [])) d)) (Remove path)

-- an edit
abbrev pub edit_of : Data → Option FileEdit
edit_of d = if is_some (get (codes "put") d) then put_of d else remove_of d

-- all the values, where there is one at each place
abbrev pub all_some : {A : Type 0} → List (Option A) → Option (List A)
all_some [] = Some []
all_some (o ∷ os) = option_and_then (λ x. option_map (λ xs. x ∷ xs) (all_some os)) o

-- an array of edits
unfoldable pub edits_of : Data → Option (List FileEdit)
edits_of d = option_and_then (λ items. all_some (map edit_of items)) (list_of d)
