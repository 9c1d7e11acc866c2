-- What seats find of the newest log, where it is shown or memory for that is refused.
use Rattle.std.proofs.Common.{◌≡◌, true, List, [], ◌∷◌, ◌++◌, Result, Ok, Err, OnOk, OnErr, refl, sym, subst, arith, append-nil}
use Rattle.std.specs.Result.{is_ok}
use Rattle.version_tree.specs.declared.entry.Entry.{Entry}
use Rattle.shared_board.specs.Desks.{IsNearlyShown}

shown_all : (is_shown : List Entry → Type 0) (log : List Entry) → is_shown log → IsNearlyShown is_shown log
shown_all is_shown log h = record { found = log; there = h; rest = []; whole = append-nil log; few = omega arith }

shown_but_one : (is_shown : List Entry → Type 0) (log : List Entry) (e : Entry) → is_shown log → IsNearlyShown is_shown (log ++ e ∷ [])
shown_but_one is_shown log e h = record { found = log; there = h; rest = e ∷ []; whole = refl; few = omega arith }

-- a log with one entry more is shown, where the one before is
pub shown_after : {E : Type 0} (before after : List Entry → Type 0) (log next : List Entry) (e : Entry) (r : Result (Unit {0}) E)
    → before log → next ≡ log ++ e ∷ [] → OnOk r (after next) → OnErr r ((l : List Entry) → before l → after l)
    → (is_ok r ≡ true → after next) × IsNearlyShown after next
shown_after before after log next e (Ok u) h is ok stays = (λ _. ok, shown_all after next ok)
shown_after before after log next e (Err x) h is ok stays = (λ no. absurd cc, subst (IsNearlyShown after) (sym is) (shown_but_one after log e (stays log h)))
