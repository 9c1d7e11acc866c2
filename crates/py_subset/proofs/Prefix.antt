-- What a repetition has read, and what is left of it.
use Rattle.std.specs.Prelude.{List, ◌++◌, Ok, Err}
use Rattle.py_subset.specs.Parsers.{Reply}

abbrev pub with_front : {A : Type 0} → List A → Reply (List A) → Reply (List A)
with_front front (Ok x) = Ok (front ++ x.0, x.1)
with_front front (Err e) = Err e

abbrev pub with_front_flag : {A B : Type 0} → List A → Reply (List A × B) → Reply (List A × B)
with_front_flag front (Ok x) = Ok ((front ++ x.0.0, x.0.1), x.1)
with_front_flag front (Err e) = Err e
