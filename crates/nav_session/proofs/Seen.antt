-- What a session sees of a log that goes on.
use Rattle.std.proofs.Common.{◌≡◌, ℕ, ◌+◌, ◌≤◌, List, [], ◌∷◌, ◌++◌, length, take, Option, Some, refl, sym, ap, subst, ◌∙◌, arith, length-append, append_assoc}
use Rattle.std.proofs.Math.Seq.{take-append_seam}
use Rattle.std.proofs.lemmas.List.{take_all}
use Rattle.version_tree.specs.declared.entry.Entry.{Entry}
use Rattle.version_board.specs.Logs.{Begins, IsLater, own}
use Rattle.nav_proto.specs.declared.reply.Reply.TheVariants.{Version}
use Rattle.nav_session.specs.Sessions.{Sees, Session, asked_by}
use Rattle.nav_session.specs.Sessions as sessions
use Rattle.nav_session.specs.Desks.{OnDesk, GoesOn, moment, session_at}

-- a log that begins another one is its first entries
pub taken_first : (log log' : List Entry) → Begins log log' → take (length log) log' ≡ log
taken_first log log' (more, e) = subst (λ (l : List Entry). take (length log) l ≡ log) e (take-append_seam log more)

pub no_longer : (log log' : List Entry) → Begins log log' → length log ≤ length log'
no_longer log log' (more, e) = let n = ap length e in let m = length-append log more in omega (arith, n, m)

pub begins_after : (a b c : List Entry) → Begins a b → Begins b c → Begins a c
begins_after a b c (more, e) (rest, f) =
    (more ++ rest, sym (append_assoc a more rest) ∙ ap (λ (l : List Entry). l ++ rest) e ∙ f)

pub sees_later : (seat : ℕ) (log log' : List Entry) → IsLater seat log log' → Sees seat log' (length log) (length log')
sees_later seat log log' l = record {
  no_less = no_longer log log' l.begins;
  there = omega arith;
  own_stay = ap (own seat) (take_all (length log') log' (omega arith)) ∙ l.own_stay ∙ sym (ap (own seat) (taken_first log log' l.begins));
}

pub later_goes_on : (seat seat' : ℕ) (log log' : List Entry) (pin pin' : ℕ) (desk desk' : OnDesk) → seat' ≡ seat → IsLater seat log log' → desk'.keeps ≡ desk.keeps
    → GoesOn (moment seat log pin desk) (moment seat' log' pin' desk')
later_goes_on seat seat' log log' pin pin' desk desk' e l same = record { seat = e; begins = l.begins; keeps = same }

-- the number that a reply tells of a version that holds all that is seen
pub told_all : (log : List Entry) (pin number : ℕ) → pin ≡ length log → number ≡ length (take pin log) → number ≡ length log
told_all log pin number p n = n ∙ ap length (take_all pin log (omega (arith, p)))

pub newest : (log : List Entry) (user : List ℕ) (pin : ℕ) (o : Option (List ℕ)) → pin ≡ length log → o ≡ Some user
    → session_at (length log) pin o ≡ asked_by (length log) user (length log)
newest log user pin o p e = ap (session_at (length log) pin) e ∙ ap (λ (n : ℕ). asked_by (length log) user n) p

pub pinned_newest : (seat : ℕ) (log log' : List Entry) (user : List ℕ) (pin number : ℕ) (o : Option (List ℕ))
    → IsLater seat log log' → pin ≡ length log' → number ≡ length (take pin log') → o ≡ Some user
    → sessions.Pins seat log' (length log) user (Version number) (session_at (length log') pin o)
pinned_newest seat log log' user pin number o l p n e = record {
  head = length log';
  sees = sees_later seat log log' l;
  told = ap Version (told_all log' pin number p n);
  pinned = newest log' user pin o p e;
}
