-- How a board judges edits, as a transcript tells it.
use Rattle.std.proofs.Common.{◌≡◌, ◌≢◌, ℕ, ◌+◌, ◌≤◌, Bool, true, false, not, nat_eq, List, [], ◌∷◌, ◌++◌, length, take, Option, Some, None, Result, Ok, Err, IfOk, OnErr, refl, sym, ap, subst, ◌∙◌, arith, length-append, append_assoc, inl, inr, if◌then◌else◌, slice_get}
use Rattle.std.proofs.Math.Seq.{take-append_seam}
use Rattle.std.proofs.lemmas.List.{take_all}
use Rattle.std.proofs.lemmas.Option.{slice_get-get_or}
use Rattle.std.proofs.lemmas.Bool.Decides.{nat_tests}
use Rattle.std.specs.Option.{option_map}
use Rattle.version_tree.specs.declared.edit.Edit.{Edit}
use Rattle.version_tree.specs.declared.edit.EditFault.{EditFault}
use Rattle.version_tree.specs.declared.edit.EditFault.TheVariants as edit
use Rattle.version_tree.specs.declared.entry.Entry.{Entry}
use Rattle.version_board.specs.declared.fault.CommitFault.{CommitFault}
use Rattle.version_board.specs.declared.fault.CommitFault.TheVariants as why
use Rattle.version_board.specs.Logs.{Begins, IsLater, IsExtended, IsStale, IsRefused, FitsHead, own, entry, refusal}
use Rattle.nav_proto.specs.declared.reply.Reply.{Reply}
use Rattle.nav_proto.specs.declared.reply.Reply.TheVariants.{Version, Stale}
use Rattle.nav_session.specs.Refusals.{commit_reply, edit_reply, is_stale, verdict}
use Rattle.nav_session.specs.Sessions.{Sees, Session, IsJudged, asker_of, asked_by}
use Rattle.nav_session.specs.Desks.{OnDesk, GoesOn, is_accepted, is_indexed, moment, session_at}
use Rattle.nav_session.proofs.Seen.{taken_first, no_longer, begins_after, sees_later, told_all, newest}

-- whether a base is stale
pub fits : (base : Option ℕ) (head : ℕ) → FitsHead base head → is_stale base head ≡ false
fits None head f = refl
fits (Some b) head f = let e = f b refl in grind (arith, nat_tests, e)

none_some : (b : ℕ) → None ≡ Some b → ⊥
none_some b e = cc

none_fits : (head : ℕ) → FitsHead None head
none_fits head b e = absurd (none_some b e)

pub fits_not : (base : Option ℕ) (head : ℕ) → (FitsHead base head → ⊥) → is_stale base head ≡ true
fits_not None head f = absurd (f (none_fits head))
fits_not (Some b) head f = let g = f in grind (arith, nat_tests)

extended_log : (seat : ℕ) (base : Option ℕ) (edits : List Edit) (log log' : List Entry) → (x : IsExtended seat base edits log log') → Begins x.head log'
extended_log seat base edits log log' x = (entry seat (length (own seat log)) edits ∷ [], sym x.appended)

pub extended_goes_on : (seat : ℕ) (base : Option ℕ) (edits : List Edit) (log log' : List Entry) → IsExtended seat base edits log log' → Begins log log'
extended_goes_on seat base edits log log' x = begins_after log x.head log' x.later.begins (extended_log seat base edits log log' x)

-- what the board says of the head is the verdict
verdict_fits : (base : Option ℕ) (log : List Entry) (edits : List Edit) → FitsHead base (length log) → verdict base log edits ≡ option_map edit_reply (refusal log edits)
verdict_fits base log edits f = ap (λ (b : Bool). if b then Some (Stale (length log)) else option_map edit_reply (refusal log edits)) (fits base (length log) f)

verdict_stale : (base : Option ℕ) (log : List Entry) (edits : List Edit) → (FitsHead base (length log) → ⊥) → verdict base log edits ≡ Some (Stale (length log))
verdict_stale base log edits f = ap (λ (b : Bool). if b then Some (Stale (length log)) else option_map edit_reply (refusal log edits)) (fits_not base (length log) f)

get_last : (log : List Entry) (e : Entry) → slice_get (log ++ e ∷ []) (length log) ≡ Some e
get_last [] e = refl
get_last (x ∷ log) e = get_last log e

pub accepted : (seat : ℕ) (log log' : List Entry) (user : List ℕ) (pin pin' number : ℕ) (base : Option ℕ) (edits : List Edit) (o : Option (List ℕ))
    → IsExtended seat base edits log log' → pin' ≡ length log' → number ≡ length (take pin' log') → o ≡ Some user
    → IsJudged seat log' (length log) (asker_of pin user) base edits (Version number) (session_at (length log') pin' o)
accepted seat log log' user pin pin' number base edits o x p n e =
    let h = x.head in
    let first : take (length h) log' ≡ h = taken_first h log' (extended_log seat base edits log log' x) in
    let begin : take (length log) log' ≡ log = taken_first log log' (extended_goes_on seat base edits log log' x) in
    let long : length log' ≡ length h + 1 = ap length x.appended ∙ length-append h (entry seat (length (own seat log)) edits ∷ []) in
    let own_h : own seat (take (length h) log') ≡ own seat log = ap (own seat) first ∙ x.later.own_stay in
    inr (record {
      head = length h;
      sees = record {
        no_less = no_longer log h x.later.begins;
        there = omega (arith, long);
        own_stay = own_h ∙ sym (ap (own seat) begin);
      };
      due = ap (λ (l : List Entry). verdict base l edits) first ∙ verdict_fits base h edits x.base_fits ∙ ap (option_map edit_reply) x.fit;
      entered = ap (λ (l : List Entry). slice_get l (length h)) x.appended ∙ get_last h (entry seat (length (own seat log)) edits)
          ∙ ap (λ (n : ℕ). Some (entry seat n edits)) (ap length (sym own_h));
      told = ap Version (told_all log' pin' number p n ∙ long);
      pinned = newest log' user pin' o p e ∙ ap (λ (n : ℕ). asked_by n user n) long;
    })

pub stale : (seat : ℕ) (log log' : List Entry) (user : List ℕ) (pin pin' n : ℕ) (base : Option ℕ) (edits : List Edit) (o : Option (List ℕ))
    → IsLater seat log log' → IsStale base (length log') n → pin' ≡ pin → o ≡ Some user
    → IsJudged seat log' (length log) (asker_of pin user) base edits (Stale n) (session_at (length log') pin' o)
stale seat log log' user pin pin' n base edits o l (told, not_fit) p e =
    inl (record {
      head = length log';
      sees = sees_later seat log log' l;
      due = ap (λ (l : List Entry). verdict base l edits) (take_all (length log') log' (omega arith)) ∙ verdict_stale base log' edits not_fit ∙ ap (λ (n : ℕ). Some (Stale n)) (sym told);
      same = ap (session_at (length log') pin') e ∙ ap (λ (n : ℕ). asked_by (length log') user n) p;
    })

pub refused : (seat : ℕ) (log log' : List Entry) (user : List ℕ) (pin pin' : ℕ) (base : Option ℕ) (edits : List Edit) (fault : EditFault) (o : Option (List ℕ))
    → IsLater seat log log' → IsRefused base edits log' fault → pin' ≡ pin → o ≡ Some user
    → IsJudged seat log' (length log) (asker_of pin user) base edits (edit_reply fault) (session_at (length log') pin' o)
refused seat log log' user pin pin' base edits fault o l r p e =
    inl (record {
      head = length log';
      sees = sees_later seat log log' l;
      due = ap (λ (l : List Entry). verdict base l edits) (take_all (length log') log' (omega arith)) ∙ verdict_fits base log' edits r.base_fits ∙ ap (option_map edit_reply) r.there;
      same = ap (session_at (length log') pin') e ∙ ap (λ (n : ℕ). asked_by (length log') user n) p;
    })

pub extended_moment : (seat seat' : ℕ) (base : Option ℕ) (edits : List Edit) (log log' : List Entry) (pin pin' : ℕ) (desk desk' : OnDesk)
    → seat' ≡ seat → IsExtended seat base edits log log' → desk'.keeps ≡ desk.keeps → GoesOn (moment seat log pin desk) (moment seat' log' pin' desk')
extended_moment seat seat' base edits log log' pin pin' desk desk' e x same = record { seat = e; begins = extended_goes_on seat base edits log log' x; keeps = same }

-- a commit that edits refuse had its documents indexed
pub edits_indexed : (fault : EditFault) → is_indexed (edit_reply fault) ≡ true
edits_indexed (edit.Twice path) = refl
edits_indexed _ = refl

-- what is told of a commit that the board refuses is the verdict
refused_so : (seat : ℕ) (log log' : List Entry) (user : List ℕ) (pin pin' : ℕ) (base : Option ℕ) (edits : List Edit) (fault : CommitFault) (o : Option (List ℕ))
    → fault ≢ why.NoMemory → IsLater seat log log' → ((n : ℕ) → fault ≡ why.Stale n → IsStale base (length log') n)
    → ((e : EditFault) → fault ≡ why.Edit e → IsRefused base edits log' e) → pin' ≡ pin → o ≡ Some user
    → IsJudged seat log' (length log) (asker_of pin user) base edits (commit_reply fault) (session_at (length log') pin' o)
refused_so seat log log' user pin pin' base edits (why.Stale n) o d l s r p e = stale seat log log' user pin pin' n base edits o l (s n refl) p e
refused_so seat log log' user pin pin' base edits (why.Edit fault) o d l s r p e = refused seat log log' user pin pin' base edits fault o l (r fault refl) p e
refused_so seat log log' user pin pin' base edits why.NoMemory o d l s r p e = absurd (d refl)

-- the same where the one other answer is want of memory
pub judged : {E : Type 0} (seat : ℕ) (log log' : List Entry) (pin pin' : ℕ) (base : Option ℕ) (edits : List Edit) (fault : CommitFault) (o : Option (List ℕ)) (r : Result Reply E)
    → IfOk r (λ reply. reply ≡ commit_reply fault) → IfOk r (λ _. fault ≢ why.NoMemory)
    → IsLater seat log log' → ((n : ℕ) → fault ≡ why.Stale n → IsStale base (length log') n)
    → ((e : EditFault) → fault ≡ why.Edit e → IsRefused base edits log' e) → pin' ≡ pin
    → IfOk r (λ reply. (user : List ℕ) → o ≡ Some user → IsJudged seat log' (length log) (asker_of pin user) base edits reply (session_at (length log') pin' o))
judged seat log log' pin pin' base edits fault o (Err e) told d l s f p = tt
judged seat log log' pin pin' base edits fault o (Ok reply) told d l s f p = λ user n.
    subst (λ (x : Reply). IsJudged seat log' (length log) (asker_of pin user) base edits x (session_at (length log') pin' o)) (sym told)
    (refused_so seat log log' user pin pin' base edits fault o d l s f p n)

commit_indexed : (fault : CommitFault) → is_indexed (commit_reply fault) ≡ true
commit_indexed (why.Stale n) = refl
commit_indexed (why.Edit fault) = edits_indexed fault
commit_indexed why.NoMemory = refl

pub commits_indexed : {E : Type 0} (fault : CommitFault) (r : Result Reply E) → IfOk r (λ reply. reply ≡ commit_reply fault) → IfOk r (λ reply. is_indexed reply ≡ true)
commits_indexed fault (Err e) told = tt
commits_indexed fault (Ok reply) told = ap is_indexed told ∙ commit_indexed fault

-- whatever came of it, no entry of the seat was added
pub own_stays : {E : Type 0} (seat : ℕ) (log log' : List Entry) (r : Result Reply E) → IsLater seat log log'
    → IfOk r (λ reply. is_accepted reply ≡ false → own seat log' ≡ own seat log) × OnErr r (own seat log' ≡ own seat log)
own_stays seat log log' (Ok reply) l = (λ no. l.own_stay, tt)
own_stays seat log log' (Err e) l = (tt, l.own_stay)
