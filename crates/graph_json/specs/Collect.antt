-- What a call answers, beside what is defined: the value, or the first fault.
use Rattle.std.specs.Prelude.{◌≡◌, ◌≢◌, ℕ, List, Option, Some, None, option_map, position, is_none, Result, Ok, Err}
use Rattle.std.specs.List.{filter_map}
use Rattle.graph_nodes.specs.declared.fault.GraphFault.TheVariants as GraphFault
use Rattle.graph_json.specs.declared.fault.GraphTextFault.{GraphTextFault}
use Rattle.graph_json.specs.declared.fault.GraphTextFault.TheVariants.{BadJson, BadShape, Graph, NoMemory, SameName, UnknownName}

-- first the one, and then what follows from its value; the first fault ends it
infixl 10 ◌>>=◌
abbrev pub ◌>>=◌ : {A B : Type 0} → Result A GraphTextFault → (A → Result B GraphTextFault)
    → Result B GraphTextFault
(Ok x) >>= f = f x
(Err e) >>= f = Err e

-- the value, unless there is a fault
abbrev pub unless : {A : Type 0} → Option GraphTextFault → A → Result A GraphTextFault
unless None x = Ok x
unless (Some fault) x = Err fault

-- all the values, or the fault of the first place that has none
unfoldable pub collected : {A : Type 0} → (ℕ → GraphTextFault) → List (Option A)
    → Result (List A) GraphTextFault
collected fault os = unless (option_map fault (position is_none os)) (filter_map (λ o. o) os)

-- the fault that a call answered is that of the definition; want of memory is free, and never a fault of the graph
abbrev pub Fails : {Y : Type 0} → GraphTextFault → Result Y GraphTextFault → Type 0
Fails NoMemory defined = Unit {0}
Fails BadJson defined = defined ≡ Err BadJson
Fails (BadShape part) defined = defined ≡ Err (BadShape part)
Fails (Graph fault) defined = (defined ≡ Err (Graph fault)) × (fault ≢ GraphFault.NoMemory)
Fails (SameName n) defined = defined ≡ Err (SameName n)
Fails (UnknownName part) defined = defined ≡ Err (UnknownName part)

-- a call answered what is defined, its value seen by the view
abbrev pub TextGives : {X Y : Type 0} → (X → Y) → Result X GraphTextFault → Result Y GraphTextFault
    → Type 0
TextGives view (Ok x) defined = defined ≡ Ok (view x)
TextGives view (Err e) defined = Fails e defined
