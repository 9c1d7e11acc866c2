-- What comes of a commit that a user may make.
use Rattle.std.proofs.Common.{◌≡◌, ℕ, Bool, true, false, List, length, Option, Some, None, refl, sym, ap, subst, ◌∙◌, inl, inr, if◌then◌else◌, map, drop, [], ◌∷◌, ◌++◌, arith, append-nil}
use Rattle.std.specs.Prelude.{MatchBool, IfOk, IfSome, ◌⊎◌, Result, Ok, Err, take}
use Rattle.nav_session.specs.declared.drafts.Draft.{Draft}
use Rattle.partial_path.specs.PathSets.{FileRules}
use Rattle.path_store.specs.Store.{Kept, swept}
use Rattle.index_gate.specs.declared.fault.FileFault.{FileFault}
use Rattle.index_gate.specs.declared.fault.IndexFault.{IndexFault}
use Rattle.index_gate.specs.declared.fault.IndexFault.TheVariants as index
use Rattle.path_store.specs.Documents.{Doc}
use Rattle.index_gate.specs.Indexed.{AddsMissing, AreFilesOf, CountsAllWalks, HasCause, IsFirstFault, docs_of, missing}
use Rattle.std.proofs.lemmas.List.{drop_all}
use Rattle.version_tree.specs.declared.edit.Edit.{Edit}
use Rattle.version_tree.specs.declared.entry.Entry.{Entry}
use Rattle.version_tree.specs.Contents.{FileRow, replay, granted_rows}
use Rattle.version_tree.specs.declared.edit.Edit.TheVariants as edit
use Rattle.nav_proto.specs.declared.request.FileEdit.{FileEdit}
use Rattle.nav_proto.specs.declared.request.FileEdit.TheVariants as asked
use Rattle.nav_proto.specs.declared.reply.Reply.{Reply}
use Rattle.nav_proto.specs.declared.reply.Reply.TheVariants.{BadFile, Plain}
use Rattle.nav_proto.specs.declared.reply.PlainError.{PlainError}
use Rattle.nav_session.specs.BadFiles.{file_error}
use Rattle.nav_session.specs.Requests.{docs_in, edits_with}
use Rattle.nav_session.specs.Sessions.{IfOperator, IsCommitted, IsJudged, asker_of}
use Rattle.nav_session.specs.Desks.{Moment, OnDesk, AddsDocs, HasItsView, Replies, is_accepted, is_indexed, moment, session_at, session_of}
use Rattle.version_board.specs.Logs.{own}
use Rattle.nav_session.specs.Inside.{CommitsAs, PutsIn, change_refusal, draft_of, filled}
use Rattle.nav_session.proofs.Asked.{operator_by, refused_change}

-- the edits without their documents, filled with the files of those, are the edits that were asked for
pub filled_edits : (edits : List FileEdit) (files : List FileRules) → filled (map draft_of edits) files ≡ edits_with edits files
filled_edits [] files = refl
filled_edits (asked.Put path text ∷ edits) [] = refl
filled_edits (asked.Put path text ∷ edits) (file ∷ files) = ap (λ es. edit.Put path file ∷ es) (filled_edits edits files)
filled_edits (asked.Remove path ∷ edits) files = ap (λ es. edit.Remove path ∷ es) (filled_edits edits files)

-- a commit with a document that has a fault leaves all as it was
pub bad_file : (m : Moment) (base : Option ℕ) (edits : List FileEdit) (path : List ℕ) (fault : FileFault)
    → IsFirstFault (docs_in edits) path fault → CommitsAs base edits m m (BadFile path (file_error fault))
bad_file m base edits path fault f = record {
  committed = λ user e. inl (record { path = path; fault = fault; first = f; stays = record { told = refl; same = refl } });
  no_entry = λ e. refl;
  store = refl;
  view = inr (refl, refl, refl, refl);
}

-- the same, where this is the fault that was told of the documents
pub bad_document : (m : Moment) (base : Option ℕ) (edits : List FileEdit) (docs : List Doc) (path : List ℕ) (why : FileFault) (told : IndexFault)
    → docs ≡ docs_in edits → told ≡ index.BadFile path why → HasCause docs told → CommitsAs base edits m m (BadFile path (file_error why))
bad_document m base edits docs path why told is_docs is h =
    bad_file m base edits path why
    (subst (λ (ds : List Doc). IsFirstFault ds path why) is_docs (subst (λ (f : IndexFault). HasCause docs f) is h))

-- a commit whose documents have these files comes before the board
pub judged : (seat : ℕ) (log : List Entry) (pin : ℕ) (s mid : List Kept) (user : Option (List ℕ)) (view : Option (List FileRow)) (keeps : ℕ) (new : Moment)
    (base : Option ℕ) (edits : List FileEdit) (files : List FileRules) (reply : Reply)
    → AreFilesOf (docs_in edits) files → AddsMissing (docs_in edits) s mid
    → PutsIn base (filled (map draft_of edits) files) (moment seat log pin (record { store = mid; user = user; view = view; keeps = keeps })) new reply
    → CommitsAs base edits (moment seat log pin (record { store = s; user = user; view = view; keeps = keeps })) new reply
judged seat log pin s mid user view keeps new base edits files reply are adds p = record {
  committed = λ u e. inr (record {
    files = files;
    indexed = are;
    judged = subst (λ (es : List Edit). IsJudged seat new.log (length log) (asker_of pin u) base es reply (session_of new)) (filled_edits edits files) (p.judged u e);
  });
  no_entry = p.no_entry;
  store = subst (λ (b : Bool). MatchBool b (AddsDocs keeps (docs_in edits) reply s new.desk.store) (new.desk.store ≡ s)) (sym p.indexed)
      (record { all = mid; adds = adds; kept = p.kept });
  view = inl p.no_view;
}

-- the same where the documents and the drafts were taken out of the edits
pub judged_docs : {E : Type 0} (seat : ℕ) (log : List Entry) (pin : ℕ) (desk : OnDesk) (s mid : List Kept) (user : Option (List ℕ)) (view : Option (List FileRow)) (keeps : ℕ) (new : Moment)
    (base : Option ℕ) (edits : List FileEdit) (docs : List Doc) (drafts : List Draft) (files : List FileRules) (r : Result Reply E)
    → desk ≡ record { store = s; user = user; view = view; keeps = keeps } → docs ≡ docs_in edits → drafts ≡ map draft_of edits
    → AreFilesOf docs files → AddsMissing docs s mid
    → IfOk r (PutsIn base (filled drafts files) (moment seat log pin (record { store = mid; user = user; view = view; keeps = keeps })) new)
    → IfOk r (CommitsAs base edits (moment seat log pin desk) new)
judged_docs seat log pin desk s mid user view keeps new base edits docs drafts files (Err e) is_desk is_docs is_drafts are adds p = tt
judged_docs seat log pin desk s mid user view keeps new base edits docs drafts files (Ok reply) is_desk is_docs is_drafts are adds p =
    subst (λ (d : OnDesk). CommitsAs base edits (moment seat log pin d) new reply) (sym is_desk)
    (judged seat log pin s mid user view keeps new base edits files reply
    (subst (λ (ds : List Doc). AreFilesOf ds files) is_docs are)
    (subst (λ (ds : List Doc). AddsMissing ds s mid) is_docs adds)
    (subst (λ (ds : List Draft). PutsIn base (filled ds files) (moment seat log pin (record { store = mid; user = user; view = view; keeps = keeps })) new reply) is_drafts p))

-- what is kept of a view is still the user's
view_kept : (old new : Moment) → HasItsView old.desk old.log old.pin
    → (new.desk.view ≡ None) ⊎ ((new.log ≡ old.log) × (new.pin ≡ old.pin) × (new.desk.view ≡ old.desk.view) × (new.desk.user ≡ old.desk.user))
    → HasItsView new.desk new.log new.pin
view_kept old new h (inl none) =
    subst (λ (v : Option (List FileRow)). IfSome v (λ rows. IfSome new.desk.user (λ user. rows ≡ granted_rows user (replay (take new.pin new.log))))) (sym none) tt
view_kept old new h (inr (l, p, v, u)) =
    let at_view = subst (λ (x : Option (List FileRow)). IfSome x (λ rows. IfSome old.desk.user (λ user. rows ≡ granted_rows user (replay (take old.pin old.log))))) (sym v) h in
    let at_user = subst (λ (x : Option (List ℕ)). IfSome new.desk.view (λ rows. IfSome x (λ user. rows ≡ granted_rows user (replay (take old.pin old.log))))) (sym u) at_view in
    let at_pin = subst (λ (n : ℕ). IfSome new.desk.view (λ rows. IfSome new.desk.user (λ user. rows ≡ granted_rows user (replay (take n old.log))))) (sym p) at_user in
    subst (λ (es : List Entry). IfSome new.desk.view (λ rows. IfSome new.desk.user (λ user. rows ≡ granted_rows user (replay (take new.pin es))))) (sym l) at_pin

-- the reply to a commit of a user that may make it
pub allowed_reply : (old new : Moment) (base : Option ℕ) (edits : List FileEdit) (reply : Reply)
    → change_refusal old.desk.user ≡ None → HasItsView old.desk old.log old.pin → CommitsAs base edits old new reply
    → Replies (λ log before told after. IfOperator before told after (λ asker. IsCommitted old.seat log before asker base edits told after)) old new reply
allowed_reply old new base edits reply none h c = record {
  due = operator_by (length old.log) old.pin old.desk.user reply (session_of new)
      (λ asker. IsCommitted old.seat new.log (session_of old) asker base edits reply (session_of new)) none c.committed;
  view = view_kept old new h c.view;
  no_entry = c.no_entry;
}

-- the reply to a commit of one that may not
pub refused_reply : (m : Moment) (base : Option ℕ) (edits : List FileEdit) (error : PlainError)
    → change_refusal m.desk.user ≡ Some error → HasItsView m.desk m.log m.pin
    → Replies (λ log before told after. IfOperator before told after (λ asker. IsCommitted m.seat log before asker base edits told after)) m m (Plain error)
refused_reply m base edits error e h = record {
  due = refused_change (length m.log) m.pin m.desk.user error
      (λ asker. IsCommitted m.seat m.log (session_of m) asker base edits (Plain error) (session_of m)) e;
  view = h;
  no_entry = λ n. refl;
}

none_mapped : (ks : List Kept) → docs_of ks ≡ [] → ks ≡ []
none_mapped [] e = refl
none_mapped (k ∷ ks) e = cc

-- without documents nothing is walked
pub no_docs_no_steps : (docs : List Doc) (old new : List Kept) (before after : ℕ) → docs ≡ [] → AddsMissing docs old new
    → CountsAllWalks (drop (length old) new) before after → after ≡ before
no_docs_no_steps docs old new before after none (added, whole, missing_ones) counts =
    let empty : added ≡ [] = none_mapped added (missing_ones ∙ ap (missing (docs_of old)) none) in
    let same : new ≡ old = whole ∙ ap (λ (ks : List Kept). old ++ ks) empty ∙ append-nil old in
    let rest : drop (length old) new ≡ [] = drop_all (length old) new (omega (arith, ap length same)) in
    subst (λ (ks : List Kept). CountsAllWalks ks before after) rest counts

-- edits that came before the board, and the store after it
pub swept_after : (seat seat' : ℕ) (log log' : List Entry) (pin pin' : ℕ) (desk mid new : OnDesk) (base : Option ℕ) (given edits : List Edit) (reply : Reply)
    → given ≡ edits
    → ((user : List ℕ) → desk.user ≡ Some user → IsJudged seat log' (length log) (asker_of pin user) base given reply (session_at (length log') pin' mid.user))
    → (is_accepted reply ≡ false → own seat log' ≡ own seat log) → is_indexed reply ≡ true
    → mid ≡ record desk { view = None }
    → new ≡ record mid { store = if is_accepted reply then swept mid.keeps mid.store else mid.store }
    → PutsIn base edits (moment seat log pin desk) (moment seat' log' pin' new) reply
swept_after seat seat' log log' pin pin' desk mid new base given edits reply same judged no_entry indexed is_mid is_new =
    subst (λ (d : OnDesk). PutsIn base edits (moment seat log pin desk) (moment seat' log' pin' d) reply) (sym is_new)
    (record {
      judged = λ u e. subst (λ (es : List Edit). IsJudged seat log' (length log) (asker_of pin u) base es reply (session_at (length log') pin' mid.user)) same (judged u e);
      no_entry = no_entry;
      indexed = indexed;
      kept = ap (λ (d : OnDesk). if is_accepted reply then swept d.keeps d.store else d.store) is_mid;
      user = ap (λ (d : OnDesk). d.user) is_mid;
      keeps = ap (λ (d : OnDesk). d.keeps) is_mid;
      no_view = ap (λ (d : OnDesk). d.view) is_mid;
    })
