-- Which documents of an editor are modules of the project.
use Rattle.std.specs.Prelude.{ℕ, ◌==◌, ◌&&◌, Bool, List, Option, None, Some, option_and_then, if◌then◌else◌, codes}
use Rattle.std.specs.List.{ends_with}
use Rattle.std.specs.Str.{is_utf8}
use Rattle.nav_proto.specs.Texts.{is_path}
use Rattle.lsp_wire.specs.Uris.{decoded, inside}

-- a path of a request that ends with `.py`
abbrev pub names_module : List ℕ → Bool
names_module path = is_path path && ends_with (λ a b. a == b) path (codes ".py")

-- the path of a module: such a path in UTF-8
abbrev pub is_module : List ℕ → Bool
is_module path = is_utf8 path && names_module path

-- the path, where it is one of a module
abbrev pub module_path : List ℕ → Option (List ℕ)
module_path path = if is_module path then Some path else None

-- the path in the project of the document that a URI names, where it is inside
abbrev pub path_under : List ℕ → List ℕ → Option (List ℕ)
path_under root uri =
    option_and_then (λ path. option_and_then module_path (inside root path)) (decoded uri)
