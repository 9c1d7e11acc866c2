-- What comes of a text that is put, and of a document that is closed.
use Rattle.std.proofs.Common.{◌≡◌, ℕ, Bool, List, Option, Some, None, if◌then◌else◌, refl, ap, subst, ◌∙◌}
use Rattle.std.specs.Prelude.{MatchOption}
use Rattle.version_tree.specs.declared.entry.Entry.{Entry}
use Rattle.nav_proto.specs.declared.request.FileEdit.{FileEdit}
use Rattle.nav_proto.specs.declared.request.FileEdit.TheVariants.{Put, Remove}
use Rattle.nav_session.specs.Desks.{OnDesk}
use Rattle.lsp_answers.specs.Documents.{path_under}
use Rattle.lsp_texts.specs.declared.open_texts.OpenTexts.{OpenTexts}
use Rattle.lsp_texts.specs.Texts.{Texts, AreSame, texts_in, with_text}
use Rattle.nav_lsp.specs.declared.editor.Editor.{Editor}
use Rattle.nav_lsp.specs.Held.{CommitsOne, editing_at}
use Rattle.nav_lsp.specs.Replies.{RepliesWith, Commits, IsPut, IsClosed}

-- texts that are the same at each path are the same
same_texts : (old new : Texts) → AreSame old new → new ≡ old
same_texts old new h = λ i path. h path i

-- the texts with this one at the path, or without one, where that is accepted
abbrev texts_if : Bool → List ℕ → Option (List ℕ) → Texts → Texts
texts_if accepted path text texts = if accepted then with_text path text texts else texts

-- One edit was committed by an editor, whose texts were the same up to then. It keeps the desk and the texts from then on.
committed : (seat : ℕ) (log : List Entry) (seen pin seen' pin' : ℕ) (old mid : Editor) (desk : OnDesk) (texts : OpenTexts)
    (path : List ℕ) (edit : FileEdit) (text : Option (List ℕ)) (accepted : Bool)
    → CommitsOne seat log seen pin seen' pin' edit accepted
    → mid.phase ≡ old.phase → mid.root.items ≡ old.root.items → texts_in mid.texts ≡ texts_in old.texts
    → AreSame (texts_if accepted path text (texts_in mid.texts)) (texts_in texts)
    → Commits seat log (editing_at seen pin old) path edit text None (editing_at seen' pin' (record mid { desk = desk; texts = texts }))
committed seat log seen pin seen' pin' old mid desk texts path edit text accepted c phase root held same = record {
  told = refl;
  answer = c.answer;
  committed = c.committed;
  texts = same_texts (texts_if accepted path text (texts_in mid.texts)) (texts_in texts) same
      ∙ ap (texts_if accepted path text) held
      ∙ ap (λ (b : Bool). texts_if b path text (texts_in old.texts)) c.told;
  same_phase = phase;
  same_root = root;
}

-- A text was put: room was made for it, and then it was committed and kept.
pub has_put : (seat : ℕ) (log : List Entry) (seen pin seen' pin' : ℕ) (old mid : Editor) (roomy texts : OpenTexts) (desk : OnDesk)
    (uri path text : List ℕ) (accepted : Bool)
    → Some path ≡ path_under old.root.items uri
    → AreSame (texts_in old.texts) (texts_in roomy) → mid ≡ record old { texts = roomy; view = None }
    → CommitsOne seat log seen pin seen' pin' (Put path text) accepted
    → AreSame (texts_if accepted path (Some text) (texts_in mid.texts)) (texts_in texts)
    → IsPut seat log (editing_at seen pin old) uri text None (editing_at seen' pin' (record mid { desk = desk; texts = texts }))
has_put seat log seen pin seen' pin' old mid roomy texts desk uri path text accepted inside room made c same =
    let new : Editor = record mid { desk = desk; texts = texts } in
    subst (λ (o : Option (List ℕ)). MatchOption o (RepliesWith None (editing_at seen pin old) None (editing_at seen' pin' new))
    (λ p. Commits seat log (editing_at seen pin old) p (Put p text) (Some text) None (editing_at seen' pin' new))) inside
    (committed seat log seen pin seen' pin' old mid desk texts path (Put path text) (Some text) accepted c
    (ap (λ (e : Editor). e.phase) made) (ap (λ (e : Editor). e.root.items) made)
    (ap (λ (e : Editor). texts_in e.texts) made ∙ same_texts (texts_in old.texts) (texts_in roomy) room) same)

-- A document was closed.
pub has_closed : (seat : ℕ) (log : List Entry) (seen pin seen' pin' : ℕ) (old mid : Editor) (texts : OpenTexts) (desk : OnDesk)
    (uri path : List ℕ) (accepted : Bool)
    → Some path ≡ path_under old.root.items uri → mid ≡ record old { view = None }
    → CommitsOne seat log seen pin seen' pin' (Remove path) accepted
    → AreSame (texts_if accepted path None (texts_in mid.texts)) (texts_in texts)
    → IsClosed seat log (editing_at seen pin old) uri None (editing_at seen' pin' (record mid { desk = desk; texts = texts }))
has_closed seat log seen pin seen' pin' old mid texts desk uri path accepted inside made c same =
    let new : Editor = record mid { desk = desk; texts = texts } in
    subst (λ (o : Option (List ℕ)). MatchOption o (RepliesWith None (editing_at seen pin old) None (editing_at seen' pin' new))
    (λ p. Commits seat log (editing_at seen pin old) p (Remove p) None None (editing_at seen' pin' new))) inside
    (committed seat log seen pin seen' pin' old mid desk texts path (Remove path) None accepted c
    (ap (λ (e : Editor). e.phase) made) (ap (λ (e : Editor). e.root.items) made) (ap (λ (e : Editor). texts_in e.texts) made) same)
