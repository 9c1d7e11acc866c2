-- What a commit at a head is for a seat that has seen a beginning of it.
use Rattle.std.proofs.Common.{◌≡◌, ℕ, List, [], ◌∷◌, ◌++◌, length, ap, ◌∙◌, Option, None}
use Rattle.version_tree.specs.declared.edit.Edit.{Edit}
use Rattle.version_tree.specs.declared.entry.Entry.{Entry}
use Rattle.version_board.specs.Logs.{own, entry, refusal, FitsHead, IsLater, IsExtended}

pub extended_from : (seat : ℕ) (base : Option ℕ) (edits : List Edit) (seen head next : List Entry) → IsLater seat seen head → FitsHead base (length head)
    → refusal head edits ≡ None → next ≡ head ++ entry seat (length (own seat head)) edits ∷ [] → IsExtended seat base edits seen next
extended_from seat base edits seen head next later fits fit is =
    record {
      head = head;
      later = later;
      base_fits = fits;
      fit = fit;
      appended = is ∙ ap (λ (n : ℕ). head ++ entry seat n edits ∷ []) (ap length later.own_stay);
    }
