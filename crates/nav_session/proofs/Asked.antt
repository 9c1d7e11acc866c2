-- Replies that need a user, or the operator.
use Rattle.std.proofs.Common.{◌≡◌, ℕ, Bool, true, false, List, Option, Some, None, refl, sym, ap, if◌then◌else◌}
use Rattle.std.specs.Option.{is_some, unwrap_or}
use Rattle.std.specs.Prelude.{MatchBool}
use Rattle.nav_proto.specs.declared.reply.Reply.{Reply}
use Rattle.nav_proto.specs.declared.reply.Reply.TheVariants.{Plain}
use Rattle.nav_proto.specs.declared.reply.PlainError.{PlainError}
use Rattle.nav_proto.specs.declared.reply.PlainError.TheVariants.{NoUser, Forbidden}
use Rattle.nav_session.specs.Requests.{is_operator}
use Rattle.nav_session.specs.Sessions.{Session, Asker, Stays, asker_of, IfNamed, IfOperator}
use Rattle.nav_session.specs.Desks.{session_at}
use Rattle.nav_session.specs.Inside.{change_refusal}

none_some : (error : PlainError) → None ≡ Some error → ⊥
none_some error e = cc

true_false : true ≡ false → ⊥
true_false e = cc

pub named_by : (seen pin : ℕ) (user : Option (List ℕ)) (reply : Reply) (after : Session) (replied : Asker → Type 0)
    → is_some user ≡ true → ((u : List ℕ) → user ≡ Some u → replied (asker_of pin u)) → IfNamed (session_at seen pin user) reply after replied
named_by seen pin (Some u) reply after replied some r = r u refl
named_by seen pin None reply after replied some r = absurd (true_false (sym some))

pub unnamed : (seen pin : ℕ) (user : Option (List ℕ)) (replied : Asker → Type 0)
    → is_some user ≡ false → IfNamed (session_at seen pin user) (Plain NoUser) (session_at seen pin user) replied
unnamed seen pin None replied none = record { told = refl; same = refl }
unnamed seen pin (Some u) replied none = absurd (true_false none)

-- what the operator may do, and what others may not
allowed : (b : Bool) (A B : Type 0) → (if b then None else Some Forbidden) ≡ None → A → MatchBool b A B
allowed true A B e a = a
allowed false A B e a = absurd (none_some Forbidden (sym e))

pub operator_by : (seen pin : ℕ) (user : Option (List ℕ)) (reply : Reply) (after : Session) (replied : Asker → Type 0)
    → change_refusal user ≡ None → ((u : List ℕ) → user ≡ Some u → replied (asker_of pin u)) → IfOperator (session_at seen pin user) reply after replied
operator_by seen pin (Some u) reply after replied none r =
    allowed (is_operator u) (replied (asker_of pin u)) (Stays (Plain Forbidden) (session_at seen pin (Some u)) reply after) none (r u refl)
operator_by seen pin None reply after replied none r = absurd (none_some NoUser (sym none))

forbidden : (b : Bool) (A : Type 0) (before : Session) (error : PlainError)
    → (if b then None else Some Forbidden) ≡ Some error → MatchBool b A (Stays (Plain Forbidden) before (Plain error) before)
forbidden true A before error e = absurd (none_some error e)
forbidden false A before error e = record { told = ap (λ (o : Option PlainError). Plain (unwrap_or o NoUser)) (sym e); same = refl }

pub refused_change : (seen pin : ℕ) (user : Option (List ℕ)) (error : PlainError) (replied : Asker → Type 0)
    → change_refusal user ≡ Some error → IfOperator (session_at seen pin user) (Plain error) (session_at seen pin user) replied
refused_change seen pin None error replied e = record { told = ap (λ (o : Option PlainError). Plain (unwrap_or o NoUser)) (sym e); same = refl }
refused_change seen pin (Some u) error replied e =
    forbidden (is_operator u) (replied (asker_of pin u)) (session_at seen pin (Some u)) error e
