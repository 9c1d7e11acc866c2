-- What a function that carries out steps returns, and the graph that it leaves.
use Rattle.std.specs.Prelude.{◌≡◌, ℕ, List, Option, Some, None, Result, Ok, Err, IfOk}
use Rattle.std.specs.Global.{Vec}
use Rattle.graph_nodes.specs.Graph.{Graph}
use Rattle.py_graph.specs.Inside.{Grows}
use Rattle.py_graph.specs.declared.draft.Stop.{Stop}
use Rattle.py_graph.specs.declared.draft.Stop.TheVariants as stop

-- They are those of the steps, unless memory ran out.
abbrev pub Gives : {A : Type 0} → Result A Stop → Graph → Option (A × Graph) → Type 0
Gives (Ok x) new r = r ≡ Some (x, new)
Gives (Err stop.Full) new r = r ≡ None
Gives (Err stop.NoMemory) new r = Unit {0}

-- The same of these steps on the first graph, and the second graph has no node less.
abbrev pub Does : {A : Type 0} → Result A Stop → Graph → Graph → (Graph → Option (A × Graph)) → Type 0
Does result old new steps = Gives result new (steps old) × Grows old new

-- The same, and the second graph has what is returned.
abbrev pub Makes : {A : Type 0} → (Graph → A → Type 0) → Result A Stop → Graph → Graph → (Graph → Option (A × Graph)) → Type 0
Makes Has result old new steps = Does result old new steps × IfOk result (Has new)

-- what `Gives` says, with the value in a vector
abbrev pub GivesItems : Result (Vec ℕ) Stop → Graph → Option (List ℕ × Graph) → Type 0
GivesItems (Ok xs) new r = r ≡ Some (xs.items, new)
GivesItems (Err stop.Full) new r = r ≡ None
GivesItems (Err stop.NoMemory) new r = Unit {0}
