-- What a session leaves of the store: each way out of its loop, and the next turn, at a desk.
use Rattle.std.proofs.Common.{◌≡◌, ◌≢◌, ℕ, ◌+◌, ◌<◌, ◌≤◌, true, false, List, [], ◌∷◌, ◌++◌, length, Option, Some, None, Result, Ok, Err, refl, sym, subst, ◌∙◌}
use Rattle.std.specs.Io.KnownBytes.{append_known}
use Rattle.path_store.specs.Store.{Kept}
use Rattle.version_tree.specs.declared.entry.Entry.{Entry}
use Rattle.nav_io.specs.Reading.{Reading}
use Rattle.nav_io.specs.Write.{HoldsPrefix}
use Rattle.nav_proto.specs.declared.reply.Reply.{Reply}
use Rattle.nav_proto.specs.Requests.{request_from}
use Rattle.nav_session.specs.declared.step.Step.{Step}
use Rattle.nav_session.specs.declared.halt.Halt.{Halt}
use Rattle.nav_session.specs.declared.halt.Halt.TheVariants.{SourceFailed, NoMemory, LongLine}
use Rattle.nav_session.specs.declared.serving.End.{End}
use Rattle.nav_session.specs.Halts.{status_of}
use Rattle.nav_session.specs.Transcripts.{max_lines}
use Rattle.nav_session.specs.Desks.{OnDesk, Moment, AddsOnly, AreKept, KeepsDocsOf}
use Rattle.nav_session.specs.Serving.{ServesAtDesk, standing}
use Rattle.nav_session.specs.Turns.{Spot, spot, AnswersNext, FindsEnd, StopsNext, LooksOn, LeavesStore, status_at_end}
use Rattle.nav_session.specs.UnderWay.{IsAtDesk}
use Rattle.nav_session.proofs.Kept.{adds_none, left_by, stays_by, kept_more}
use Rattle.nav_session.proofs.UnderWay.{ServesThese, under_way, ends_at_end, stops_next, HasOneMore, one_more, goes_on, ends_at_quit, stops_writing, looks_on, stops_first}

-- a session whose lines made this of the store, which is so left, or has documents more where memory was refused
keeps : (status seat : ℕ) (log log' : List Entry) (desk desk' : OnDesk) (made : List Kept) (left left' held held' : Option (List ℕ)) (done : List (List ℕ)) (replies : List Reply)
    → ServesThese seat log log' left left' held held' status done replies → desk'.keeps ≡ desk.keeps → AreKept desk.keeps done replies desk.store made
    → (status ≢ 5 → desk'.store ≡ made) → AddsOnly made desk'.store → ServesAtDesk seat (standing log desk) (standing log' desk') left left' held held' status
keeps status seat log log' desk desk' made left left' held held' done replies t same kept stays adds = record {
  served = t.served;
  same = same;
  made = made;
  kept = subst (λ (ls : List (List ℕ)). AreKept desk.keeps ls t.served.replies desk.store made) (sym t.lines)
      (subst (λ (rs : List Reply). AreKept desk.keeps done rs desk.store made) (sym t.told) kept);
  stays = stays;
  adds = adds;
}

-- the same where it is left so
keeps_so : (status seat : ℕ) (log log' : List Entry) (desk desk' : OnDesk) (left left' held held' : Option (List ℕ)) (done : List (List ℕ)) (replies : List Reply)
    → ServesThese seat log log' left left' held held' status done replies → desk'.keeps ≡ desk.keeps → AreKept desk.keeps done replies desk.store desk'.store
    → ServesAtDesk seat (standing log desk) (standing log' desk') left left' held held' status
keeps_so status seat log log' desk desk' left left' held held' done replies t same kept =
    keeps status seat log log' desk desk' desk'.store left left' held held' done replies t same kept (λ other. refl) (adds_none desk'.store desk'.store refl)

-- before the first line
pub at_desk : (m : Moment) (reader : Reading) (left held : Option (List ℕ)) → reader ≡ record { front = []; ended = false }
    → m.desk.user ≡ None → m.desk.view ≡ None → IsAtDesk 0 m.seat m.log m.desk left held (spot m reader left) held
at_desk m reader left held fresh nobody none = record { under_way = under_way m reader left held fresh nobody none; same = refl; kept = refl }

-- memory for the reader was refused
pub passes_first : (r : Result End Halt) (m : Moment) (left held : Option (List ℕ)) → m.desk.user ≡ None → m.desk.view ≡ None
    → r ≡ Err NoMemory → ServesAtDesk m.seat (standing m.log m.desk) (standing m.log m.desk) left left held held (status_at_end r)
passes_first r m left held nobody none e =
    subst (λ (o : Result End Halt). ServesAtDesk m.seat (standing m.log m.desk) (standing m.log m.desk) left left held held (status_at_end o)) (sym e)
    (keeps_so 5 m.seat m.log m.log m.desk m.desk left left held held [] [] (stops_first m left held nobody none) refl refl)

-- no line was answered, for that reason
pub passes_turn : (r : Result End Halt) (reason : Halt) (count seat : ℕ) (log : List Entry) (desk : OnDesk) (left held held' : Option (List ℕ)) (old new : Spot)
    → r ≡ Err reason → IsAtDesk count seat log desk left held old held' → count < max_lines → StopsNext old new reason
    → LeavesStore (Err reason) old.session.desk.store new.session.desk.store
    → ServesAtDesk seat (standing log desk) (standing new.session.log new.session.desk) left new.left held held' (status_at_end r)
passes_turn r reason count seat log desk left held held' old new e d within s leaves =
    let u = d.under_way in
    subst (λ (o : Result End Halt). ServesAtDesk seat (standing log desk) (standing new.session.log new.session.desk) left new.left held held' (status_at_end o)) (sym e)
    (keeps (status_of reason) seat log new.session.log desk new.session.desk old.session.desk.store left new.left held held' u.done u.replies
    (stops_next reason count seat log left held held' old new u within s) (s.stays.goes_on.keeps ∙ d.same) d.kept
    (λ other. stays_by reason old.session.desk.store new.session.desk.store leaves (λ five. other five))
    (left_by reason old.session.desk.store new.session.desk.store leaves))

-- no line was left
pub ends_with_input : (count seat : ℕ) (log : List Entry) (desk : OnDesk) (left held held' : Option (List ℕ)) (old new : Spot)
    → IsAtDesk count seat log desk left held old held' → count ≤ max_lines → FindsEnd old new → new.session.desk.store ≡ old.session.desk.store
    → ServesAtDesk seat (standing log desk) (standing new.session.log new.session.desk) left new.left held held' 0
ends_with_input count seat log desk left held held' old new d within f same =
    let u = d.under_way in
    keeps 0 seat log new.session.log desk new.session.desk old.session.desk.store left new.left held held' u.done u.replies
    (ends_at_end count seat log left held held' old new u within f) (f.stays.goes_on.keeps ∙ d.same) d.kept
    (λ other. same) (adds_none old.session.desk.store new.session.desk.store same)

-- the next line was answered, and what it made of the store
made_by : (count seat : ℕ) (log : List Entry) (desk : OnDesk) (left held held' : Option (List ℕ)) (old new : Spot) (step : Step)
    → (d : IsAtDesk count seat log desk left held old held') → (a : AnswersNext old new step)
    → AreKept desk.keeps (d.under_way.done ++ a.line ∷ []) (d.under_way.replies ++ a.answers.reply ∷ []) desk.store new.session.desk.store
made_by count seat log desk left held held' old new step d a =
    kept_more desk.keeps d.under_way.done d.under_way.replies a.line a.answers.reply desk.store old.session.desk.store new.session.desk.store d.kept
    (subst (λ (n : ℕ). KeepsDocsOf n (request_from a.line) a.answers.reply old.session.desk.store new.session.desk.store) d.same a.answers.store)

-- its reply was written, and the session goes on
pub goes_on_at : (count seat : ℕ) (log : List Entry) (desk : OnDesk) (left held held' held'' : Option (List ℕ)) (old new : Spot) (step : Step)
    → IsAtDesk count seat log desk left held old held' → AnswersNext old new step → step.quit ≡ false
    → held'' ≡ append_known held' step.reply → IsAtDesk (count + 1) seat log desk left held new held''
goes_on_at count seat log desk left held held' held'' old new step d a quit wrote = record {
  under_way = goes_on count seat log left held held' held'' new step
      (one_more count seat log left held held' old new step d.under_way a) quit wrote;
  same = a.goes_on.keeps ∙ d.same;
  kept = made_by count seat log desk left held held' old new step d a;
}

-- it was written, and the line ends the session
pub ends_with_quit : (count seat : ℕ) (log : List Entry) (desk : OnDesk) (left held held' held'' : Option (List ℕ)) (old new : Spot) (step : Step)
    → IsAtDesk count seat log desk left held old held' → AnswersNext old new step → count < max_lines → step.quit ≡ true
    → held'' ≡ append_known held' step.reply
    → ServesAtDesk seat (standing log desk) (standing new.session.log new.session.desk) left new.left held held'' 0
ends_with_quit count seat log desk left held held' held'' old new step d a within quit wrote =
    let h = one_more count seat log left held held' old new step d.under_way a in
    keeps_so 0 seat log new.session.log desk new.session.desk left new.left held held''
    (d.under_way.done ++ a.line ∷ []) (d.under_way.replies ++ a.answers.reply ∷ [])
    (ends_at_quit count seat log left held held' held'' new step h within quit wrote) (a.goes_on.keeps ∙ d.same)
    (made_by count seat log desk left held held' old new step d a)

-- the writing stopped
pub passes_write : (r : Result End Halt) (reason : Halt) (count seat : ℕ) (log : List Entry) (desk : OnDesk) (left held held' held'' : Option (List ℕ)) (old new : Spot) (step : Step)
    → r ≡ Err reason → IsAtDesk count seat log desk left held old held' → AnswersNext old new step → count < max_lines
    → HoldsPrefix held' step.reply held'' → (reason ≡ SourceFailed → ⊥) → (reason ≡ LongLine → ⊥)
    → ServesAtDesk seat (standing log desk) (standing new.session.log new.session.desk) left new.left held held'' (status_at_end r)
passes_write r reason count seat log desk left held held' held'' old new step e d a within prefix no_source no_long =
    let h = one_more count seat log left held held' old new step d.under_way a in
    subst (λ (o : Result End Halt). ServesAtDesk seat (standing log desk) (standing new.session.log new.session.desk) left new.left held held'' (status_at_end o)) (sym e)
    (keeps_so (status_of reason) seat log new.session.log desk new.session.desk left new.left held held''
    (d.under_way.done ++ a.line ∷ []) (d.under_way.replies ++ a.answers.reply ∷ [])
    (stops_writing reason count seat log left held held' held'' new step h within prefix no_source no_long) (a.goes_on.keeps ∙ d.same)
    (made_by count seat log desk left held held' old new step d a))

-- as many lines were answered as may be
pub looks_round : (r : Result End Halt) (m : Moment) (new : Reading) (left' : Option (List ℕ)) (count seat : ℕ) (log : List Entry) (desk : OnDesk) (left held held' : Option (List ℕ)) (old : Reading) (left0 : Option (List ℕ))
    → IsAtDesk count seat log desk left held (spot m old left0) held' → count ≡ max_lines → LooksOn old new left0 left' r
    → ServesAtDesk seat (standing log desk) (standing m.log m.desk) left left' held held' (status_at_end r)
looks_round r m new left' count seat log desk left held held' old left0 d full looks =
    keeps_so (status_at_end r) seat log m.log desk m.desk left left' held held' d.under_way.done d.under_way.replies
    (looks_on r m new left' count seat log left held held' old left0 d.under_way full looks) d.same d.kept
