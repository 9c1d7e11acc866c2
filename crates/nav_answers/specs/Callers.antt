-- The reply to `callers`: who refers to a definition, where only what leads to it decides whether there are rows. Of want
-- of memory it tells nothing.
use Rattle.std.specs.Prelude.{◌≡◌, ℕ, List, map, Result, Ok, Err, IsSomeAnd, MatchResult, ◌⊎◌}
use Rattle.graph_nodes.specs.Graph.{Graph, is_definition_kind}
use Rattle.stacks_vars.specs.declared.scopes.NodeAt.{NodeAt}
use Rattle.partial_path.specs.Step.{start}
use Rattle.partial_path.specs.Counted.{IsCrowded}
use Rattle.version_tree.specs.declared.row.Row.{Row}
use Rattle.version_tree.specs.Graphs.{GraphRow}
use Rattle.whole_search.specs.declared.found.Hit.{Hit}
use Rattle.whole_search.specs.Answers.{AreReferences, IsAnyCrowded}
use Rattle.back_stitch.specs.Lists.{usual, HasMany, Reaches}
use Rattle.nav_answers.specs.declared.found.At.{At}
use Rattle.nav_answers.specs.declared.found.AskFault.{AskFault}
use Rattle.nav_answers.specs.declared.found.AskFault.TheVariants.{NoDefinition, Crowded}
use Rattle.nav_answers.specs.Replies.{graphs_in, hit_of, meant, row_of}

-- the reference is crowded within the bounds of a query that states none
abbrev pub IsCrowdedAt : List Graph → NodeAt → Type 0
IsCrowdedAt files r = IsSomeAnd (start files r) (IsCrowded usual files)

-- a reference from which a bounded complete run leads to the node is crowded
abbrev pub LeadsCrowded : List Graph → NodeAt → Type 0
LeadsCrowded files d = (r : NodeAt) × Reaches files d r × IsCrowdedAt files r

-- Too much leads to the node: where its back lists aren't too many, a reference that leads to it is crowded; where they
-- are, any reference of the files is.
abbrev pub IsOverrun : List Graph → NodeAt → Type 0
IsOverrun files d = ((HasMany files d → ⊥) × LeadsCrowded files d) ⊎ (HasMany files d × IsAnyCrowded usual files)

-- the rows are the references of the node, each once in file order
abbrev pub TellCallers : List GraphRow → NodeAt → List Row → Type 0
TellCallers rows d told = (hits : List Hit) × AreReferences usual (graphs_in rows) (hit_of d) hits × (told ≡ map (row_of rows) hits)

-- what is told of the node: its references, or crowded exactly where that is so
abbrev pub TellsUnless : Type 0 → List GraphRow → NodeAt → Result (List Row) AskFault → Type 0
TellsUnless is_crowded rows d (Ok told) = (is_crowded → ⊥) × TellCallers rows d told
TellsUnless is_crowded rows d (Err fault) = is_crowded × (fault ≡ Crowded)

-- the reply about a definition that is there
abbrev pub IsCallerReply : List GraphRow → NodeAt → Result (List Row) AskFault → Type 0
IsCallerReply rows d = TellsUnless (IsOverrun (graphs_in rows) d) rows d

-- the reply to `callers` at a place of the file with that path
abbrev pub IsCallersReply : List GraphRow → List ℕ → At → Result (List Row) AskFault → Type 0
IsCallersReply rows path at reply =
    MatchResult (meant is_definition_kind NoDefinition rows path at) (λ (d : NodeAt). IsCallerReply rows d reply) (λ fault. reply ≡ Err fault)
