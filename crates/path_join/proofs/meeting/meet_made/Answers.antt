-- Where either list is at its end, all is met as far as both go.
use Rattle.std.proofs.Common.{◌≡◌, List, [], ◌∷◌, refl, sym, ◌∙◌, inl, inr, Some}
use Rattle.std.specs.Prelude.{◌⊎◌}
use Rattle.std.proofs.lemmas.Slice.Zip.{either_empty_from_Zip}
use Rattle.stacks_vars.specs.declared.patterns.SymPat.{SymPat}
use Rattle.stacks_vars.specs.declared.patterns.SymOut.{SymOut}
use Rattle.partial_path.specs.Apply.{Rests}
use Rattle.path_join.specs.Tables.{meet_made}
use Rattle.path_join.proofs.meeting.meet_made.Goals as goal

met-nil : (known : Rests) (pats : List SymPat) (outs : List SymOut) → (pats ≡ []) ⊎ (outs ≡ []) → meet_made known pats outs ≡ Some known
met-nil known [] outs h = refl
met-nil known (pat ∷ pats) [] h = refl
met-nil known (pat ∷ pats) (out ∷ outs) (inl h) = cc
met-nil known (pat ∷ pats) (out ∷ outs) (inr h) = cc

pub returns : goal.returns
returns c =
    sym c.loop-pat.invariant.left
    ∙ met-nil c.loop-pat.known _ _ (either_empty_from_Zip c.loop-pat.pat-iterator c.next.new.self c.next.result c.in-None.is c.next.ensures.steps)
