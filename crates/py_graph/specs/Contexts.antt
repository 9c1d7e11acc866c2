-- Where a statement stands.
use Rattle.std.specs.Prelude.{ℕ, ◌+◌, List, [], ◌∷◌, Option, Some, None, min}
use Rattle.py_subset.specs.declared.tree.Word.{Word}

-- the context of a statement
pub record Context : Type 0 where
  pub b : ℕ  -- the scope that takes bindings
  pub l : ℕ  -- the scope in which plain names are looked up
  pub o : ℕ  -- the nearest such scope that isn't a class's
  pub r : Option ℕ  -- the returns of the function
  pub class : Option (ℕ × ℕ)  -- the members m and the attributes a of the class whose block this is
  pub self : Option (List ℕ × ℕ)  -- a method's first parameter, and its class's attributes
  pub p : ℕ  -- a precedence

-- the greatest precedence that an edge can have
abbrev pub max_precedence : ℕ
max_precedence = 65535

-- the context of the statement at a place, from 1, of the block of a module, function or class
abbrev pub at_place : ℕ → Context → Context
at_place i c = record {
  b = c.b;
  l = c.l;
  o = c.o;
  r = c.r;
  class = c.class;
  self = c.self;
  p = min (i + 1) max_precedence;
}

-- the block of a module with this scope
abbrev pub in_module : ℕ → Context
in_module s = record { b = s; l = s; o = s; r = None; class = None; self = None; p = 0 }

-- the first parameter of a method, and the attributes of its class
abbrev pub self_of : Option (ℕ × ℕ) → List Word → Option (List ℕ × ℕ)
self_of (Some class) (x ∷ xs) = Some (x.text, class.1)
self_of (Some class) [] = None
self_of None xs = None

-- the block of a function with this scope and these returns
abbrev pub in_function : ℕ → ℕ → Option (List ℕ × ℕ) → Context
in_function s r self = record { b = s; l = s; o = s; r = Some r; class = None; self = self; p = 0 }

-- the block of a class: where it binds, where its names are looked up, and its members and attributes
abbrev pub in_class : ℕ → ℕ → ℕ × ℕ → Context → Context
in_class b l class c =
    record { b = b; l = l; o = c.o; r = None; class = Some class; self = None; p = 0 }
