-- The session of an editor between two messages, and what each way to end it from there says of the whole.
use Rattle.std.proofs.Common.{◌≡◌, ℕ, ◌+◌, ◌<◌, Bool, true, false, List, [], ◌∷◌, ◌++◌, length, take, Option, Result, Ok, Err, refl, sym, ap, subst, ◌∙◌, arith, append_assoc, append-nil}
use Rattle.std.specs.Io.KnownBytes.{append_known}
use Rattle.version_tree.specs.declared.entry.Entry.{Entry}
use Rattle.version_board.specs.Logs.{Begins, own}
use Rattle.nav_io.specs.Reading.{Reading}
use Rattle.nav_io.specs.Write.{HoldsPrefix}
use Rattle.lsp_wire.specs.declared.reply.Reply.{Reply}
use Rattle.lsp_messages.specs.declared.halt.Halt.{Halt}
use Rattle.lsp_messages.specs.declared.halt.Halt.TheVariants.{SourceFailed, NoMemory, Large, Broken}
use Rattle.lsp_messages.specs.declared.receiving.More.{More}
use Rattle.lsp_messages.specs.declared.receiving.More.TheVariants as more
use Rattle.lsp_messages.specs.Inputs.{max_messages}
use Rattle.lsp_messages.specs.Serving.{reply_frame, Serves}
use Rattle.lsp_messages.specs.Turns.{LooksOn}
use Rattle.lsp_messages.proofs.UnderWay.{IsUnderWay, under_way, told_later, ends_at_end, stops_reading, HasOneMore, TellsMore, one_more, goes_on, ends_at_exit, stops_writing, looks_on, status_after, stops_first}
use Rattle.nav_session.specs.Sessions.{Sees}
use Rattle.nav_lsp.specs.declared.serving.End.{End}
use Rattle.nav_lsp.specs.declared.serving.End.TheVariants.{Exit}
use Rattle.nav_lsp.specs.declared.serving.Step.{Step}
use Rattle.nav_lsp.specs.Editing.{Editing, opened, is_shut}
use Rattle.nav_lsp.specs.Held.{IsReady}
use Rattle.nav_lsp.specs.Transcripts.{AreReplies, IsTold}
use Rattle.nav_lsp.specs.Serving.{ServesEditor}
use Rattle.nav_lsp.specs.Turns.{Spot, editing_of, HasNoEntry, BeginsToEdit, AnswersNext, FindsEnd, StopsNext, end_before, status_at_end}
use Rattle.nav_lsp.proofs.Later.{taken_first, sees_later, replies_later, replies_more}

-- Messages and their replies over the log as it is now, and the session after them.
pub record IsToldNow (seat begin : ℕ) (log : List Entry) (now : Editing) (messages : List (List ℕ)) (replies : List (Option Reply)) (shut : Bool) : Type 0 where
  pub head : ℕ
  pub sees : Sees seat log begin head
  pub replied : AreReplies seat log (opened head) messages replies now
  pub shuts : shut ≡ is_shut now.phase

-- they are a transcript over a longer log without an entry more of the seat
told_at_end : (seat begin : ℕ) (log log' : List Entry) (now : Editing) (messages : List (List ℕ)) (replies : List (Option Reply)) (shut : Bool)
    → now.seen ≡ length log → Begins log log' → own seat log' ≡ own seat log
    → IsToldNow seat begin log now messages replies shut → IsTold seat begin log' messages replies shut
told_at_end seat begin log log' now messages replies shut seen begins stay t = record {
  transcript = record {
    head = t.head;
    sees = sees_later seat log log' begin t.head begins t.sees;
    last = now;
    replied = replies_later seat log log' (opened t.head) messages replies now begins t.replied;
    no_other = ap (λ (n : ℕ). own seat (take n log')) seen ∙ ap (own seat) (taken_first log log' begins) ∙ sym stay;
  };
  shuts = t.shuts;
}

-- a message more, with the log grown by what it commits
told_more : (seat begin : ℕ) (log log' : List Entry) (now now' : Editing) (bytes : List ℕ) (reply : Option Reply) (messages : List (List ℕ)) (replies : List (Option Reply)) (shut : Bool)
    → Begins log log' → AreReplies seat log' now (bytes ∷ []) (reply ∷ []) now'
    → IsToldNow seat begin log now messages replies shut → IsToldNow seat begin log' now' (messages ++ bytes ∷ []) (replies ++ reply ∷ []) (is_shut now'.phase)
told_more seat begin log log' now now' bytes reply messages replies shut begins one t = record {
  head = t.head;
  sees = sees_later seat log log' begin t.head begins t.sees;
  replied = subst (λ (e : Editing). AreReplies seat log' (opened t.head) (messages ++ bytes ∷ []) (replies ++ reply ∷ []) e) (sym one.2)
      (replies_more seat log' (opened t.head) messages replies now bytes reply one.0
      (replies_later seat log log' (opened t.head) messages replies now begins t.replied) one.1);
  shuts = refl;
}

begins_after : (a b c : List Entry) → Begins a b → Begins b c → Begins a c
begins_after a b c (more, e) (rest, f) =
    (more ++ rest, sym (append_assoc a more rest) ∙ ap (λ (l : List Entry). l ++ rest) e ∙ f)

-- what is told between two messages
abbrev pub ToldAt : ℕ → List Entry → Spot → List (List ℕ) → List (Option Reply) → Bool → Type 0
ToldAt seat log now messages replies shut = IsToldNow seat (length log) now.log (editing_of now) messages replies shut

-- So many messages were answered, and their replies are written.
pub record IsServing (count seat : ℕ) (log : List Entry) (left held : Option (List ℕ)) (now : Spot) (held' : Option (List ℕ)) : Type 0 where
  pub same_seat : now.seat ≡ seat
  pub begins : Begins log now.log
  pub ready : IsReady now.editor now.log now.pin
  pub under_way : IsUnderWay (IsToldNow seat (length log) now.log (editing_of now)) count (is_shut now.editor.phase) left held now.reader now.left held'

-- before the first message
pub serving_first : (seat : ℕ) (log : List Entry) (left held : Option (List ℕ)) (now : Spot)
    → HasNoEntry seat now.seat log now.log → BeginsToEdit seat log now.log now.pin now.editor
    → now.reader ≡ record { front = []; ended = false } → now.left ≡ left → IsServing 0 seat log left held now held
serving_first seat log left held now stays b fresh same = record {
  same_seat = stays.goes_on.seat;
  begins = stays.goes_on.begins;
  ready = b.ready;
  under_way = subst (λ (l : Option (List ℕ)). IsUnderWay (IsToldNow seat (length log) now.log (editing_of now)) 0 (is_shut now.editor.phase) left held now.reader l held) (sym same)
      (under_way (IsToldNow seat (length log) now.log (editing_of now)) (is_shut now.editor.phase) now.reader left held fresh
      (record { head = length now.log; sees = b.sees; replied = b.opens; shuts = refl }));
}

-- It stopped before a message more.
own_at : (seat : ℕ) (old new : Spot) → old.seat ≡ seat → HasNoEntry old.seat new.seat old.log new.log → own seat new.log ≡ own seat old.log
own_at seat old new e s = subst (λ (n : ℕ). own n new.log ≡ own n old.log) e s.own_stay

ends_later : (count seat : ℕ) (log : List Entry) (left held : Option (List ℕ)) (old new : Spot) (held' : Option (List ℕ))
    → IsServing count seat log left held old held' → HasNoEntry old.seat new.seat old.log new.log
    → IsUnderWay (IsTold seat (length log) new.log) count (is_shut old.editor.phase) left held old.reader old.left held'
ends_later count seat log left held old new held' s stays =
    told_later (IsToldNow seat (length log) old.log (editing_of old)) (IsTold seat (length log) new.log) count (is_shut old.editor.phase) left held old.reader old.left held'
    (λ done replies shut t. told_at_end seat (length log) old.log new.log (editing_of old) done replies shut refl stays.goes_on.begins
    (own_at seat old new s.same_seat stays) t)
    s.under_way

begins_later : (count seat : ℕ) (log : List Entry) (left held : Option (List ℕ)) (old new : Spot) (held' : Option (List ℕ))
    → IsServing count seat log left held old held' → HasNoEntry old.seat new.seat old.log new.log → Begins log new.log
begins_later count seat log left held old new held' s stays = begins_after log old.log new.log s.begins stays.goes_on.begins

-- the input ended
pub serves_to_end : (count seat : ℕ) (log : List Entry) (left held : Option (List ℕ)) (old new : Spot) (held' : Option (List ℕ))
    → IsServing count seat log left held old held' → count < max_messages → FindsEnd old new
    → ServesEditor seat log new.log left new.left held held' 0
serves_to_end count seat log left held old new held' s within f = record {
  begins = begins_later count seat log left held old new held' s f.stays;
  served = ends_at_end (IsTold seat (length log) new.log) count (is_shut old.editor.phase) left held old.reader new.reader old.left new.left held'
      (ends_later count seat log left held old new held' s f.stays) within f.read;
}

-- no message could be read, or memory was wanting behind one that was
pub serves_to_stop : (r : Result End Halt) (reason : Halt) (shut : Bool) (count seat : ℕ) (log : List Entry) (left held : Option (List ℕ)) (old new : Spot) (held' : Option (List ℕ))
    → r ≡ Err reason → IsServing count seat log left held old held' → count < max_messages → StopsNext old new reason
    → ServesEditor seat log new.log left new.left held held' (status_at_end shut r)
serves_to_stop r reason shut count seat log left held old new held' e s within f = record {
  begins = begins_later count seat log left held old new held' s f.stays;
  served = subst (λ (o : Result End Halt). Serves (IsTold seat (length log) new.log) left new.left held held' (status_at_end shut o)) (sym e)
      (stops_reading (IsTold seat (length log) new.log) reason count (is_shut old.editor.phase) left held old.reader new.reader old.left new.left held'
      (ends_later count seat log left held old new held' s f.stays) within f.why);
}

-- A message more was answered.
replied_once : (seat : ℕ) (old new : Spot) (step : Step) → old.seat ≡ seat → (a : AnswersNext old new step)
    → AreReplies seat new.log (editing_of old) (a.bytes ∷ []) (step.reply ∷ []) (editing_of new)
replied_once seat old new step e a =
    subst (λ (n : ℕ). AreReplies n new.log (editing_of old) (a.bytes ∷ []) (step.reply ∷ []) (editing_of new)) e
    (editing_of new, a.replied, refl)

more_now : (count seat : ℕ) (log : List Entry) (left held : Option (List ℕ)) (old new : Spot) (held' : Option (List ℕ)) (step : Step)
    → IsServing count seat log left held old held' → (a : AnswersNext old new step)
    → TellsMore (IsToldNow seat (length log) old.log (editing_of old)) (is_shut old.editor.phase)
    (IsToldNow seat (length log) new.log (editing_of new)) (is_shut new.editor.phase) a.bytes step.reply
more_now count seat log left held old new held' step s a =
    λ done replies t. told_more seat (length log) old.log new.log (editing_of old) (editing_of new) a.bytes step.reply done replies (is_shut old.editor.phase)
    a.goes_on.begins (replied_once seat old new step s.same_seat a) t

one_now : (count seat : ℕ) (log : List Entry) (left held : Option (List ℕ)) (old new : Spot) (held' : Option (List ℕ)) (step : Step)
    → IsServing count seat log left held old held' → AnswersNext old new step
    → HasOneMore (IsToldNow seat (length log) new.log (editing_of new)) count (is_shut new.editor.phase) left held new.reader new.left held' step.reply step.exit
one_now count seat log left held old new held' step s a =
    one_more (IsToldNow seat (length log) old.log (editing_of old)) (IsToldNow seat (length log) new.log (editing_of new)) count
    (is_shut old.editor.phase) (is_shut new.editor.phase) left held old.reader new.reader old.left new.left held' a.bytes step.reply step.exit
    s.under_way a.read a.exit (more_now count seat log left held old new held' step s a)

one_at_end : (count seat : ℕ) (log : List Entry) (left held : Option (List ℕ)) (old new : Spot) (held' : Option (List ℕ)) (step : Step)
    → IsServing count seat log left held old held' → AnswersNext old new step
    → HasOneMore (IsTold seat (length log) new.log) count (is_shut new.editor.phase) left held new.reader new.left held' step.reply step.exit
one_at_end count seat log left held old new held' step s a =
    one_more (IsToldNow seat (length log) old.log (editing_of old)) (IsTold seat (length log) new.log) count
    (is_shut old.editor.phase) (is_shut new.editor.phase) left held old.reader new.reader old.left new.left held' a.bytes step.reply step.exit
    s.under_way a.read a.exit
    (λ done replies t. told_at_end seat (length log) new.log new.log (editing_of new) (done ++ a.bytes ∷ []) (replies ++ step.reply ∷ []) (is_shut new.editor.phase)
    refl ([], append-nil new.log) refl (more_now count seat log left held old new held' step s a done replies t))

begins_more : (count seat : ℕ) (log : List Entry) (left held : Option (List ℕ)) (old new : Spot) (held' : Option (List ℕ)) (step : Step)
    → IsServing count seat log left held old held' → AnswersNext old new step → Begins log new.log
begins_more count seat log left held old new held' step s a = begins_after log old.log new.log s.begins a.goes_on.begins

-- its reply was written, and the session goes on
pub serves_on : (count seat : ℕ) (log : List Entry) (left held : Option (List ℕ)) (old new : Spot) (held' held'' : Option (List ℕ)) (step : Step)
    → IsServing count seat log left held old held' → AnswersNext old new step → step.exit ≡ false → held'' ≡ append_known held' (reply_frame step.reply)
    → IsServing (count + 1) seat log left held new held''
serves_on count seat log left held old new held' held'' step s a none wrote = record {
  same_seat = a.goes_on.seat ∙ s.same_seat;
  begins = begins_more count seat log left held old new held' step s a;
  ready = a.ready;
  under_way = goes_on (IsToldNow seat (length log) new.log (editing_of new)) count (is_shut new.editor.phase) left held new.reader new.left held' held'' step.reply step.exit
      (one_now count seat log left held old new held' step s a) none wrote;
}

-- it was written, and the message ends the session
pub serves_to_exit : (count seat : ℕ) (log : List Entry) (left held : Option (List ℕ)) (old new : Spot) (held' held'' : Option (List ℕ)) (step : Step)
    → IsServing count seat log left held old held' → count < max_messages → AnswersNext old new step → step.exit ≡ true
    → held'' ≡ append_known held' (reply_frame step.reply)
    → ServesEditor seat log new.log left new.left held held'' (status_at_end (is_shut new.editor.phase) (Ok Exit))
serves_to_exit count seat log left held old new held' held'' step s within a exit wrote = record {
  begins = begins_more count seat log left held old new held' step s a;
  served = ends_at_exit (IsTold seat (length log) new.log) count (is_shut new.editor.phase) left held new.reader new.left held' held'' step.reply step.exit
      (one_at_end count seat log left held old new held' step s a) within exit wrote;
}

-- the writing stopped
pub serves_to_write : (r : Result End Halt) (reason : Halt) (shut : Bool) (count seat : ℕ) (log : List Entry) (left held : Option (List ℕ)) (old new : Spot) (held' held'' : Option (List ℕ)) (step : Step)
    → r ≡ Err reason → IsServing count seat log left held old held' → count < max_messages → AnswersNext old new step
    → HoldsPrefix held' (reply_frame step.reply) held'' → (reason ≡ SourceFailed → ⊥) → (reason ≡ Large → ⊥) → (reason ≡ Broken → ⊥)
    → ServesEditor seat log new.log left new.left held held'' (status_at_end shut r)
serves_to_write r reason shut count seat log left held old new held' held'' step e s within a prefix no_source no_large no_broken = record {
  begins = begins_more count seat log left held old new held' step s a;
  served = subst (λ (o : Result End Halt). Serves (IsTold seat (length log) new.log) left new.left held held'' (status_at_end shut o)) (sym e)
      (stops_writing (IsTold seat (length log) new.log) reason count (is_shut new.editor.phase) left held new.reader new.left held' held'' step.reply step.exit
      (one_at_end count seat log left held old new held' step s a) within prefix no_source no_large no_broken);
}

-- Behind as many messages as may be: what stands there, by what was found.
abbrev pub end_found : Result More Halt → Result End Halt
end_found (Ok more) = Ok (end_before more)
end_found (Err reason) = Err reason

status_found : (shut : Bool) (r : Result More Halt) → status_after r ≡ status_at_end shut (end_found r)
status_found shut (Ok more.Nothing) = refl
status_found shut (Ok more.Bytes) = refl
status_found shut (Err reason) = refl

pub serves_most : (r : Result More Halt) (end : Result End Halt) (shut : Bool) (count seat : ℕ) (log : List Entry) (left held : Option (List ℕ)) (old : Spot) (new : Reading) (left' held' : Option (List ℕ))
    → end ≡ end_found r → count ≡ max_messages → IsServing count seat log left held old held' → LooksOn old.reader new old.left left' r
    → ServesEditor seat log old.log left left' held held' (status_at_end shut end)
serves_most r end shut count seat log left held old new left' held' e full s l =
    let stays : HasNoEntry old.seat old.seat old.log old.log = record {
      goes_on = record { seat = refl; begins = ([], append-nil old.log) };
      own_stay = refl;
    } in
    record {
      begins = s.begins;
      served = subst (λ (n : ℕ). Serves (IsTold seat (length log) old.log) left left' held held' n) (status_found shut r ∙ ap (status_at_end shut) (sym e))
          (looks_on (IsTold seat (length log) old.log) r count (is_shut old.editor.phase) left held old.reader new old.left left' held'
          (subst (λ (n : ℕ). IsUnderWay (IsTold seat (length log) old.log) n (is_shut old.editor.phase) left held old.reader old.left held') full
          (ends_later count seat log left held old old held' s stays)) l);
    }

-- It was refused memory before its first message.
pub told_nothing : (seat : ℕ) (log log' : List Entry) → Begins log log' → own seat log' ≡ own seat log → IsTold seat (length log) log' [] [] false
told_nothing seat log log' begins stay =
    told_at_end seat (length log) log log' (opened (length log)) [] [] false refl begins stay
    (record { head = length log; sees = record { no_less = omega arith; there = omega arith; own_stay = refl }; replied = refl; shuts = refl })

pub serves_nothing : (r : Result End Halt) (reason : Halt) (shut : Bool) (seat seat' : ℕ) (log log' : List Entry) (left held : Option (List ℕ))
    → r ≡ Err reason → reason ≡ NoMemory → HasNoEntry seat seat' log log' → ServesEditor seat log log' left left held held (status_at_end shut r)
serves_nothing r reason shut seat seat' log log' left held e none stays = record {
  begins = stays.goes_on.begins;
  served = subst (λ (o : Result End Halt). Serves (IsTold seat (length log) log') left left held held (status_at_end shut o)) (sym (e ∙ ap Err none))
      (stops_first (IsTold seat (length log) log') false left held (told_nothing seat log log' stays.goes_on.begins stays.own_stay));
}

pub seat_still : (seat old new : ℕ) → new ≡ old → old ≡ seat → new ≡ seat
seat_still seat old new e same = e ∙ same

-- before anything was done
pub no_entry : (seat : ℕ) (log : List Entry) → HasNoEntry seat seat log log
no_entry seat log = record {
  goes_on = record { seat = refl; begins = ([], append-nil log) };
  own_stay = refl;
}
