-- What comes of a commit of one edit by the operator.
use Rattle.std.proofs.Common.{◌≡◌, inl, inr, arith, ℕ, ◌+◌, ◌≤◌, Bool, List, [], ◌∷◌, Option, Some, None, ap, subst}
use Rattle.std.proofs.lemmas.Option.{none-some, same_Some}
use Rattle.path_store.specs.Store.{cost_of, swept}
use Rattle.path_store.proofs.Members.{fits}
use Rattle.version_tree.specs.declared.edit.Edit.{Edit}
use Rattle.version_tree.specs.declared.entry.Entry.{Entry}
use Rattle.nav_proto.specs.declared.request.FileEdit.{FileEdit}
use Rattle.nav_proto.specs.declared.request.Request.TheVariants.{Commit}
use Rattle.nav_proto.specs.declared.reply.Reply.{Reply}
use Rattle.nav_session.specs.Sessions.{Asker, asker_of, asked_by, IsAnswered, IsCommitted, IsJudged}
use Rattle.nav_session.specs.Desks.{OnDesk, session_at, is_accepted}
use Rattle.nav_lsp.specs.Editing.{operator}
use Rattle.nav_lsp.specs.Held.{CommitsOne}

user_of : (seen pin head pinned : ℕ) (user : Option (List ℕ)) (name : List ℕ) → session_at seen pin user ≡ asked_by head name pinned → user ≡ Some name
user_of seen pin head pinned None name e = absurd (none-some (asker_of pinned name) (ap (λ s. s.asker) e))
user_of seen pin head pinned (Some u) name e =
    ap (λ (a : Asker). Some a.user) (same_Some (asker_of pin u) (asker_of pinned name) (ap (λ s. s.asker) e))

judged : (seat : ℕ) (log : List Entry) (seen pin : ℕ) (edits : List Edit) (reply : Reply) (seen' pin' : ℕ) (user : Option (List ℕ))
    → IsJudged seat log seen (asker_of pin operator) None edits reply (session_at seen' pin' user) → user ≡ Some operator
judged seat log seen pin edits reply seen' pin' user (inl r) = user_of seen' pin' r.head pin user operator r.same
judged seat log seen pin edits reply seen' pin' user (inr a) = user_of seen' pin' (a.head + 1) (a.head + 1) user operator a.pinned

committed : (seat : ℕ) (log : List Entry) (seen pin : ℕ) (edits : List FileEdit) (reply : Reply) (seen' pin' : ℕ) (user : Option (List ℕ))
    → IsCommitted seat log (asked_by seen operator pin) (asker_of pin operator) None edits reply (session_at seen' pin' user) → user ≡ Some operator
committed seat log seen pin edits reply seen' pin' user (inl b) = user_of seen' pin' seen pin user operator b.stays.same
committed seat log seen pin edits reply seen' pin' user (inr f) = judged seat log seen pin _ reply seen' pin' user f.judged

-- the operator is still named
pub still_named : (seat : ℕ) (log : List Entry) (seen pin : ℕ) (edits : List FileEdit) (reply : Reply) (seen' pin' : ℕ) (user user' : Option (List ℕ))
    → user ≡ Some operator → IsAnswered seat log (session_at seen pin user) (Commit None edits) reply (session_at seen' pin' user') → user' ≡ Some operator
still_named seat log seen pin edits reply seen' pin' user user' e h =
    committed seat log seen pin edits reply seen' pin' user'
    (subst (λ (u : Option (List ℕ)). IsAnswered seat log (session_at seen pin u) (Commit None edits) reply (session_at seen' pin' user')) e h)

pub commits_one : (seat : ℕ) (log : List Entry) (seen pin : ℕ) (edit : FileEdit) (reply : Reply) (seen' pin' : ℕ) (user user' : Option (List ℕ)) (accepted : Bool)
    → user ≡ Some operator → accepted ≡ is_accepted reply
    → IsAnswered seat log (session_at seen pin user) (Commit None (edit ∷ [])) reply (session_at seen' pin' user')
    → CommitsOne seat log seen pin seen' pin' edit accepted
commits_one seat log seen pin edit reply seen' pin' user user' accepted e told h =
    let named = still_named seat log seen pin (edit ∷ []) reply seen' pin' user user' e h in
    record {
      answer = reply;
      committed = subst (λ (u : Option (List ℕ)). IsAnswered seat log (asked_by seen operator pin) (Commit None (edit ∷ [])) reply (session_at seen' pin' u)) named
          (subst (λ (u : Option (List ℕ)). IsAnswered seat log (session_at seen pin u) (Commit None (edit ∷ [])) reply (session_at seen' pin' user')) e h);
      told = told;
    }

-- what is left once the documents went costs nothing
pub lets_go : (old new : OnDesk) → new ≡ record old { store = swept 0 old.store } → cost_of new.store ≡ 0
lets_go old new is =
    let few : cost_of (swept 0 old.store) ≤ 0 = fits 0 old.store in
    let same : cost_of new.store ≡ cost_of (swept 0 old.store) = ap (λ (d : OnDesk). cost_of d.store) is in
    omega (arith, few, same)
