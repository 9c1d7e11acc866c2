-- What comes of naming the operator.
use Rattle.std.proofs.Common.{◌≡◌, ℕ, List, length, take, Option, Some, None, IfSome, sym, ap, subst, ◌∙◌}
use Rattle.std.proofs.lemmas.Option.{none-some, same_Some}
use Rattle.version_tree.specs.declared.entry.Entry.{Entry}
use Rattle.version_tree.specs.Contents.{FileRow, replay, granted_rows}
use Rattle.nav_proto.specs.declared.reply.Reply.{Reply}
use Rattle.nav_proto.specs.declared.request.Request.TheVariants.{Hello}
use Rattle.nav_session.specs.Sessions.{Asker, Sees, asker_of, asked_by, IsAnswered}
use Rattle.nav_session.specs.Desks.{HasItsView, session_at, moment}
use Rattle.nav_session.specs.Desks as desks
use Rattle.lsp_texts.specs.Texts.{texts_in}
use Rattle.nav_lsp.specs.declared.editor.Editor.{Editor}
use Rattle.nav_lsp.specs.Editing.{operator, opened}
use Rattle.nav_lsp.specs.Held.{editing_at}
use Rattle.nav_lsp.specs.Turns.{IsFresh, BeginsToEdit}

-- the user that a session names, and how much it pins
asker_is : (seen pin head pinned : ℕ) (user : Option (List ℕ)) (name : List ℕ) → session_at seen pin user ≡ asked_by head name pinned
    → (user ≡ Some name) × (pin ≡ pinned)
asker_is seen pin head pinned None name e = absurd (none-some (asker_of pinned name) (ap (λ s. s.asker) e))
asker_is seen pin head pinned (Some u) name e =
    let same = same_Some (asker_of pin u) (asker_of pinned name) (ap (λ s. s.asker) e) in
    (ap (λ (a : Asker). Some a.user) same, ap (λ (a : Asker). a.pin) same)

-- the editor with this desk and nothing else made of it
pub record HasDesk (old new : Editor) : Type 0 where
  pub phase : new.phase ≡ old.phase
  pub root : new.root.items ≡ old.root.items
  pub texts : new.texts ≡ old.texts
  pub view : new.view ≡ old.view

opens : (n pin : ℕ) (old held : Editor) → IsFresh old → HasDesk old held → pin ≡ n → editing_at n pin held ≡ opened n
opens n pin old held f d e = λ i. record {
  phase = (d.phase ∙ f.phase) i;
  root = (d.root ∙ f.root) i;
  texts = λ path. (ap (λ t. texts_in t path) d.texts ∙ f.texts path) i;
  seen = n;
  pin = e i;
}

ready_where : (v : Option (List FileRow)) (rows : List FileRow) → v ≡ None → IfSome v (λ r. r ≡ rows)
ready_where None rows e = tt
ready_where (Some v) rows e = absurd (none-some v (sym e))

begins_to_edit : (seat : ℕ) (log log' : List Entry) (pin pin' : ℕ) (user : List ℕ) (old new : Editor) (reply : Reply)
    → user ≡ operator → IsFresh old → HasDesk old new
    → IsAnswered seat log' (session_at (length log) pin old.desk.user) (Hello user) reply (session_at (length log') pin' new.desk.user)
    → HasItsView new.desk log' pin' → BeginsToEdit seat log log' pin' new
begins_to_edit seat log log' pin pin' user old new reply e f d p view =
    let head : length log' ≡ p.head = ap (λ s. s.seen) p.pinned in
    let a = asker_is (length log') pin' p.head p.head new.desk.user user p.pinned in
    record {
      sees = subst (λ (n : ℕ). Sees seat log' (length log) n) (sym head) p.sees;
      opens = opens (length log') pin' old new f d (a.1 ∙ sym head);
      ready = record {
        user = a.0 ∙ ap Some e;
        desk_view = view;
        view = ready_where new.view (granted_rows operator (replay (take pin' log'))) (d.view ∙ f.view);
      };
    }

pub named : (seat seat' : ℕ) (log log' : List Entry) (pin pin' : ℕ) (user : List ℕ) (old new : Editor) (reply : Reply)
    → user ≡ operator → IsFresh old → HasDesk old new
    → desks.Replies (λ log before reply after. IsAnswered seat log before (Hello user) reply after) (moment seat log pin old.desk) (moment seat' log' pin' new.desk) reply
    → BeginsToEdit seat log log' pin' new
named seat seat' log log' pin pin' user old new reply e f d r = begins_to_edit seat log log' pin pin' user old new reply e f d r.due r.view
