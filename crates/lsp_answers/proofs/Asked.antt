-- Queries in the usual bounds, and what is told of targets.
use Rattle.std.proofs.Common.{◌≡◌, ◌≢◌, ◌∙◌, ap, ℕ, Bool, List, Result, Ok, Err, IfOk, inl, inr, subst}
use Rattle.partial_path.specs.declared.bounds.Bounds.{Bounds}
use Rattle.version_tree.specs.declared.row.Answer.{Answer}
use Rattle.version_tree.specs.declared.row.Row.{Row}
use Rattle.version_tree.specs.Graphs.{GraphRow}
use Rattle.nav_answers.specs.declared.found.At.{At}
use Rattle.nav_answers.specs.declared.found.AskFault.{AskFault}
use Rattle.nav_answers.specs.declared.found.AskFault.TheVariants as ask
use Rattle.nav_answers.specs.Replies.{IsReferencesOfAnyReply}
use Rattle.lsp_wire.specs.declared.reply.Outcome.{Outcome}
use Rattle.lsp_texts.specs.Texts.{Texts}
use Rattle.lsp_answers.specs.Queries.{usual, outcome_of_fault, AreTargets, IsUnion, TellsTargets, TellsReferences}

abbrev pub Reply : Type 1
Reply = Bounds → List GraphRow → List ℕ → At → Result Answer AskFault → Type 0

pub usual_is : (bounds : Bounds) → bounds.edges ≡ 128 → bounds.depth ≡ 48 → bounds ≡ usual
usual_is bounds e d = λ i. record { edges = e i; depth = d i }

pub in_usual : (IsReply : Reply) (files : List GraphRow) (bounds : Bounds) (path path' : List ℕ) (spot spot' : At) (found : Result Answer AskFault)
    → bounds.edges ≡ 128 → bounds.depth ≡ 48 → path ≡ path' → spot ≡ spot' → IsReply bounds files path spot found → IsReply usual files path' spot' found
in_usual IsReply files bounds path path' spot spot' found e d p a h =
    subst (λ (x : At). IsReply usual files path' x found) a
    (subst (λ (x : List ℕ). IsReply usual files x spot found) p
    (subst (λ (x : Bounds). IsReply x files path spot found) (usual_is bounds e d) h))

pub tells_if : {E : Type 0} (files : List GraphRow) (root : List ℕ) (texts : Texts) (declaration : Bool) (path : List ℕ) (spot : At) (targets : List Row) (r : Result Outcome E)
    → AreTargets files path spot (Ok targets) → IfOk r (TellsTargets files root texts targets declaration) → IfOk r (TellsReferences files root texts declaration path spot)
tells_if files root texts declaration path spot targets (Ok outcome) exact h = record { targets = Ok targets; exact = exact; told = h }
tells_if files root texts declaration path spot targets (Err e) exact h = tt

-- what was found of targets, where it isn't want of memory, is the reply about them
abbrev pub IsFound : List GraphRow → List Row → Result (List Row) AskFault → Type 0
IsFound files targets found = found ≢ Err ask.NoMemory → IsReferencesOfAnyReply usual files targets found

-- the union of the references, or that they are crowded
pub tells_union : {E : Type 0} (files : List GraphRow) (root : List ℕ) (texts : Texts) (targets : List Row) (declaration : Bool) (r : Result Outcome E)
    → IfOk r (λ outcome. IsUnion files root texts targets declaration outcome) → IfOk r (TellsTargets files root texts targets declaration)
tells_union files root texts targets declaration (Ok outcome) h = inl h
tells_union files root texts targets declaration (Err e) h = tt

pub tells_crowded : {E : Type 0} (files : List GraphRow) (root : List ℕ) (texts : Texts) (targets : List Row) (declaration : Bool) (fault : AskFault) (r : Result Outcome E)
    → ((fault ≡ ask.NoMemory → ⊥) → IsReferencesOfAnyReply usual files targets (Err fault))
    → IfOk r (λ outcome. outcome ≡ outcome_of_fault fault) → IfOk r (λ _. fault ≡ ask.NoMemory → ⊥) → IfOk r (TellsTargets files root texts targets declaration)
tells_crowded files root texts targets declaration fault (Ok outcome) reply told definite =
    let crowded = reply definite in
    inr (crowded.0, told ∙ ap outcome_of_fault crowded.1)
tells_crowded files root texts targets declaration fault (Err e) reply told definite = tt

pub no_other : (fault : AskFault) → (fault ≡ ask.NoMemory → ⊥) → ◌≡◌ {A = Result (List Row) AskFault} (Err fault) (Err ask.NoMemory) → ⊥
no_other fault h e = let same : fault ≡ ask.NoMemory = cc in h same
