-- What came of asking a port for a link.
use Rattle.std.specs.Prelude.{List, [], ◌∷◌, Result, Ok, Err}
use Rattle.poll_many.specs.declared.port.Arrived.{Arrived}
use Rattle.poll_many.specs.declared.port.Arrived.TheVariants.{Link, NotYet}

-- the link that arrived, or none
abbrev pub links_in : {K E : Type 0} → Result (Arrived K) E → List K
links_in (Ok (Link link)) = link ∷ []
links_in (Ok NotYet) = []
links_in (Err error) = []
