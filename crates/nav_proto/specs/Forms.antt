-- The members of each form by a name for it; no public clause cites this.
use Rattle.std.specs.Prelude.{ℕ, List, [], ◌∷◌, codes}
use Rattle.nav_proto.specs.declared.members.Form.{Form}
use Rattle.nav_proto.specs.declared.members.Form.TheVariants.{Bare, User, Commit, Rule, NodeQuery, PlaceQuery, NodeCallers, PlaceCallers, Put, Remove, NodeLine}

-- the names of the members that the form may have
abbrev pub names_of : Form → List (List ℕ)
names_of Bare = codes "do" ∷ []
names_of User = codes "do" ∷ codes "user" ∷ []
names_of Commit = codes "do" ∷ codes "base" ∷ codes "edits" ∷ []
names_of Rule = codes "do" ∷ codes "user" ∷ codes "prefix" ∷ []
names_of NodeQuery = codes "do" ∷ codes "path" ∷ codes "node" ∷ codes "edges" ∷ codes "depth" ∷ []
names_of PlaceQuery =
    codes "do" ∷ codes "path" ∷ codes "line" ∷ codes "column" ∷ codes "edges" ∷ codes "depth" ∷ []
names_of NodeCallers = codes "do" ∷ codes "path" ∷ codes "node" ∷ []
names_of PlaceCallers = codes "do" ∷ codes "path" ∷ codes "line" ∷ codes "column" ∷ []
names_of Put = codes "put" ∷ codes "text" ∷ []
names_of Remove = codes "remove" ∷ []
names_of NodeLine = codes "node" ∷ []
