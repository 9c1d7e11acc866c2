-- What keeps a session standing for its starts, and how each way to end it is one of a session over a source and a sink.
use Rattle.std.proofs.Common.{◌≡◌, ℕ, ◌+◌, ◌<◌, ◌≤◌, Bool, true, false, true≢false, Result, Ok, Err, MatchBool, List, [], ◌++◌, length, drop, take, Option, Some, None, IfSome, refl, sym, ap, subst, ◌∙◌, arith, append_assoc, append-nil}
use Rattle.std.proofs.lemmas.Option.{none-some, same_Some}
use Rattle.std.specs.Io.KnownBytes.{append_known, prepend_known}
use Rattle.version_tree.specs.declared.entry.Entry.{Entry}
use Rattle.nav_io.specs.Lines.{line_max, HasNoNewline}
use Rattle.nav_io.specs.Reading.{Reading}
use Rattle.nav_io.proofs.Written.{append_known-nil, append_known-append}
use Rattle.nav_session.specs.declared.step.Step.{Step}
use Rattle.nav_session.specs.declared.halt.Halt.{Halt}
use Rattle.nav_session.specs.declared.halt.Halt.TheVariants.{SourceFailed, SinkFailed, NoMemory, LongLine}
use Rattle.nav_session.specs.declared.serving.End.TheVariants.{Full}
use Rattle.nav_session.specs.Halts.{status_of}
use Rattle.nav_session.specs.Transcripts.{max_lines}
use Rattle.nav_session.specs.Desks.{OnDesk, Moment, moment}
use Rattle.nav_session.specs.Serving.{AreAllTaken, Serves, writes_all, answers_all}
use Rattle.nav_session.specs.Turns.{Spot, spot, AnswersNext, StopsNext}
use Rattle.nav_session.specs.UnderWay.{IsUnderWay}
use Rattle.nav_session.proofs.Reached.{taken_of, all_taken_of}
use Rattle.nav_session.proofs.Turned.{no_entry}
use Rattle.nav_session.proofs.UnderWay.{under_way, served_short, has_answered, ends_at_end, stops_next, HasOneMore, one_more, goes_on, ends_at_quit, looks_on}
use Rattle.nav_poll.specs.Polling.{Seen, Start, start_at, HasServed, IsWritten, IsGoing, status_so_far, StandsFor, HasCaughtUp}
use Rattle.nav_poll.specs.Turns.{Pushes, Pulls}
use Rattle.nav_poll.proofs.Fronts.{reads_end, byte_some, after_byte}
use Rattle.nav_poll.proofs.Pulled.{pulled_read, lost_kept}

-- what is seen, of these parts
abbrev pub at : Spot → Option (List ℕ) → List ℕ → ℕ → Bool → Option ℕ → Seen
at now held out lines quit ended = record { now = now; held = held; out = out; lines = lines; quit = quit; ended = ended }

-- What is served to a list is served to the link, as far as it is pushed.
pub over_link : (status seat : ℕ) (log log' : List Entry) (left left' held held' : Option (List ℕ)) (pushed out : List ℕ)
    → Serves seat log log' left left' (Some []) (Some (pushed ++ out)) status
    → held' ≡ append_known held pushed → (writes_all status ≡ true → out ≡ [])
    → Serves seat log log' left left' held held' status
over_link status seat log log' left left' held held' pushed out h holds done = record {
  begins = h.begins;
  answered = h.answered;
  replies = h.replies;
  transcript = h.transcript;
  last = h.last;
  first = h.first;
  taken = h.taken;
  written = pushed;
  unwritten = out ++ h.unwritten;
  text = sym (append_assoc pushed out h.unwritten) ∙ ap (λ (t : List ℕ). t ++ h.unwritten) same ∙ h.text;
  holds = holds;
  whole = λ e. sym (append-nil pushed) ∙ ap (λ (t : List ℕ). pushed ++ t) (sym (done e)) ∙ same ∙ h.whole e;
  all = h.all;
  ends = h.ends;
  short = h.short;
}
  where
    same : pushed ++ out ≡ h.written
    same = same_Some _ _ h.holds

-- As much is said of a session that ended for another cause, of which no more is said.
pub hindered : (status other seat : ℕ) (log log' : List Entry) (left left' held held' : Option (List ℕ))
    → Serves seat log log' left left' held held' status → writes_all other ≡ false → answers_all other ≡ false → (other ≡ 3 → ⊥)
    → Serves seat log log' left left' held held' other
hindered status other seat log log' left left' held held' h not_whole not_all no_three = record {
  begins = h.begins;
  answered = h.answered;
  replies = h.replies;
  transcript = h.transcript;
  last = h.last;
  first = h.first;
  taken = h.taken;
  written = h.written;
  unwritten = h.unwritten;
  text = h.text;
  holds = h.holds;
  whole = λ e. absurd (true≢false (sym e ∙ not_whole));
  all = λ e. absurd (true≢false (sym e ∙ not_all));
  ends = λ e. absurd (true≢false (sym e ∙ not_all));
  short = λ e. absurd (no_three e);
}

-- A session that is under way is served so far, also where bytes behind its lines are lost.
pub under_way_served : (status count seat : ℕ) (log : List Entry) (left held held' : Option (List ℕ)) (now : Spot) (front : List ℕ) (left' : Option (List ℕ))
    → IsUnderWay count seat log left held now held' → count ≤ max_lines → prepend_known front left' ≡ prepend_known now.reader.front now.left
    → answers_all status ≡ false → (status ≡ 3 → ⊥) → Serves seat log now.session.log left left' held held' status
under_way_served status count seat log left held held' now front left' u within kept not_all no_three =
    (served_short status seat log now.session.log left left' held held' u.done u.replies
    (has_answered count seat log left held held' now (spot now.session now.reader left') u within
    (no_entry now.session now.reader now.reader now.left left')
    (taken_of u.done left now.reader front now.left left' kept u.read))
    u.holds not_all (λ e. absurd (no_three e))).served

-- It has answered all whole lines that were taken, where none is in front and the end isn't met.
pub under_way_caught_up : (count seat : ℕ) (log : List Entry) (left held held' : Option (List ℕ)) (now : Spot)
    → IsUnderWay count seat log left held now held' → count ≤ max_lines → now.reader.ended ≡ false → HasNoNewline now.reader.front
    → Serves seat log now.session.log left now.left held held' 3
under_way_caught_up count seat log left held held' now u within going none =
    (served_short 3 seat log now.session.log left now.left held held' u.done u.replies
    (has_answered count seat log left held held' now now u within (no_entry now.session now.reader now.reader now.left now.left)
    (taken_of u.done left now.reader now.reader.front now.left now.left refl u.read))
    u.holds refl
    (λ _. all_taken_of u.done left now.reader now.reader.front now.left now.left refl none going u.passed.no_quit u.read)).served

-- A session that goes on is served so far.
going_by : (q : Bool) (status : ℕ) (s : Start) (now : Spot) (held : Option (List ℕ)) (pushed out : List ℕ) (lines : ℕ)
    → lines ≤ max_lines → held ≡ append_known s.held pushed
    → MatchBool q (Serves s.seat s.log now.session.log s.left now.left (Some []) (Some (pushed ++ out)) 0)
    (IsUnderWay lines s.seat s.log s.left (Some []) now (Some (pushed ++ out)))
    → writes_all status ≡ false → answers_all status ≡ false → (status ≡ 3 → ⊥)
    → Serves s.seat s.log now.session.log s.left now.left s.held held status
going_by true status s now held pushed out lines few holds written not_whole not_all no_three =
    over_link status s.seat s.log now.session.log s.left now.left s.held held pushed out
    (hindered 0 status s.seat s.log now.session.log s.left now.left (Some []) (Some (pushed ++ out)) written not_whole not_all no_three)
    holds (λ e. absurd (true≢false (sym e ∙ not_whole)))
going_by false status s now held pushed out lines few holds written not_whole not_all no_three =
    over_link status s.seat s.log now.session.log s.left now.left s.held held pushed out
    (under_way_served status lines s.seat s.log s.left (Some []) (Some (pushed ++ out)) now now.reader.front now.left written few refl not_all no_three)
    holds (λ e. absurd (true≢false (sym e ∙ not_whole)))

pub going_served : (status : ℕ) (s : Start) (v : Seen) → IsGoing s v → writes_all status ≡ false → answers_all status ≡ false → (status ≡ 3 → ⊥)
    → HasServed s v status
going_served status s v g not_whole not_all no_three =
    going_by v.quit status s v.now v.held g.pushed v.out v.lines g.few g.holds g.written not_whole not_all no_three

no_three_in_five : ◌≡◌ {A = ℕ} 5 3 → ⊥
no_three_in_five e = omega (arith, e)

-- It stands for the start then, and so it does where it has ended as one may.
pub stands_going : (s : Start) (now : Spot) (held : Option (List ℕ)) (out : List ℕ) (lines : ℕ) (quit : Bool)
    → IsGoing s (at now held out lines quit None) → StandsFor s (at now held out lines quit None)
stands_going s now held out lines quit g = record {
  served = going_served 5 s (at now held out lines quit None) g refl refl no_three_in_five;
  goes_on = λ _. g;
}

pub stands_ended : (s : Start) (v : Seen) (status : ℕ) → v.ended ≡ Some status → HasServed s v status → StandsFor s v
stands_ended s v status e h = record {
  served = subst (λ (o : Option ℕ). HasServed s v (status_so_far o)) (sym e) h;
  goes_on = λ none. absurd (none-some status (sym none ∙ e));
}

-- At its start.
pub begins : (m : Moment) (r : Reading) (held left : Option (List ℕ)) → r ≡ record { front = []; ended = false }
    → m.desk.user ≡ None → m.desk.view ≡ None
    → StandsFor (start_at m.seat m.log held left) (at (spot m r left) held [] 0 false None)
begins m r held left fresh nobody no_view =
    stands_going (start_at m.seat m.log held left) (spot m r left) held [] 0 false (record {
      pushed = [];
      holds = sym (append_known-nil held);
      few = omega arith;
      written = under_way m r left (Some []) fresh nobody no_view;
    })

-- The link took more of what was to be pushed.
pub pushes_on : (s : Start) (now : Spot) (held held' : Option (List ℕ)) (out out' : List ℕ) (lines : ℕ) (quit : Bool)
    → Pushes out out' held held' → IsGoing s (at now held out lines quit None) → IsGoing s (at now held' out' lines quit None)
pushes_on s now held held' out out' lines quit p g = record {
  pushed = g.pushed ++ p.pushed;
  holds = p.holds ∙ ap (λ (k : Option (List ℕ)). append_known k p.pushed) g.holds ∙ sym (append_known-append s.held g.pushed p.pushed);
  few = g.few;
  written = subst (λ (text : List ℕ). IsWritten s (at now held' out' lines quit None) text)
      (ap (λ (t : List ℕ). g.pushed ++ t) p.split ∙ sym (append_assoc g.pushed p.pushed out')) g.written;
}

-- More was pulled, or the end is met.
pub pulls_on : (s : Start) (m : Moment) (r r' : Reading) (left left' held : Option (List ℕ)) (out : List ℕ) (lines : ℕ)
    → r.ended ≡ false → Pulls r r' left left'
    → IsGoing s (at (spot m r left) held out lines false None) → IsGoing s (at (spot m r' left') held out lines false None)
pulls_on s m r r' left left' held out lines going p g =
    let u = g.written in
    record {
      pushed = g.pushed;
      holds = g.holds;
      few = g.few;
      written = record {
        done = u.done;
        replies = u.replies;
        so_many = u.so_many;
        same_seat = u.same_seat;
        begins = u.begins;
        view = u.view;
        passed = u.passed;
        read = pulled_read u.done s.left r r' left left' going p u.read;
        replied = u.replied;
        holds = u.holds;
      };
    }

-- The next line is answered: its reply is to be pushed.
more_of : (s : Start) (old new : Spot) (held : Option (List ℕ)) (lines : ℕ) (step : Step)
    → AnswersNext old new step → (g : IsGoing s (at old held [] lines false None))
    → HasOneMore lines s.seat s.log s.left (Some []) new (Some (g.pushed ++ [])) step
more_of s old new held lines step a g = one_more lines s.seat s.log s.left (Some []) (Some (g.pushed ++ [])) old new step g.written a

written_more : (pushed line : List ℕ) → ◌≡◌ {A = Option (List ℕ)} (Some (pushed ++ line)) (append_known (Some (pushed ++ [])) line)
written_more pushed line = ap (λ (t : List ℕ). Some (t ++ line)) (sym (append-nil pushed))

answered_by : (q : Bool) (s : Start) (new : Spot) (pushed : List ℕ) (lines : ℕ) (step : Step) → step.quit ≡ q → lines < max_lines
    → HasOneMore lines s.seat s.log s.left (Some []) new (Some (pushed ++ [])) step
    → MatchBool q (Serves s.seat s.log new.session.log s.left new.left (Some []) (Some (pushed ++ step.reply)) 0)
    (IsUnderWay (lines + 1) s.seat s.log s.left (Some []) new (Some (pushed ++ step.reply)))
answered_by true s new pushed lines step is within h =
    (ends_at_quit lines s.seat s.log s.left (Some []) (Some (pushed ++ [])) (Some (pushed ++ step.reply)) new step
    h within is (written_more pushed step.reply)).served
answered_by false s new pushed lines step is within h =
    goes_on lines s.seat s.log s.left (Some []) (Some (pushed ++ [])) (Some (pushed ++ step.reply)) new step
    h is (written_more pushed step.reply)

pub answers_on : (s : Start) (old new : Spot) (held : Option (List ℕ)) (lines : ℕ) (step : Step) → lines < max_lines
    → AnswersNext old new step → IsGoing s (at old held [] lines false None)
    → IsGoing s (at new held step.reply (lines + 1) step.quit None)
answers_on s old new held lines step within a g = record {
  pushed = g.pushed;
  holds = g.holds;
  few = omega (arith, within);
  written = answered_by step.quit s new g.pushed lines step refl within (more_of s old new held lines step a g);
}

-- It ends before the next line.
pub ends_stopped : (reason : Halt) (s : Start) (old new : Spot) (held : Option (List ℕ)) (lines : ℕ) → lines < max_lines
    → StopsNext old new reason → (g : IsGoing s (at old held [] lines false None))
    → Serves s.seat s.log new.session.log s.left new.left s.held held (status_of reason)
ends_stopped reason s old new held lines within stops g =
    over_link (status_of reason) s.seat s.log new.session.log s.left new.left s.held held g.pushed []
    (stops_next reason lines s.seat s.log s.left (Some []) (Some (g.pushed ++ [])) old new g.written within stops).served
    g.holds (λ e. refl)

-- It ends at the end of the input.
pub ends_all : (s : Start) (m : Moment) (r : Reading) (left held : Option (List ℕ)) (lines : ℕ) → r.ended ≡ true → r.front ≡ []
    → (g : IsGoing s (at (spot m r left) held [] lines false None))
    → Serves s.seat s.log m.log s.left left s.held held 0
ends_all s m r left held lines ended empty g =
    over_link 0 s.seat s.log m.log s.left left s.held held g.pushed []
    (ends_at_end lines s.seat s.log s.left (Some []) (Some (g.pushed ++ [])) (spot m r left) (spot m r left) g.written g.few
    (record { read = reads_end r left ended empty; stays = no_entry m r r left left })).served
    g.holds (λ e. refl)

-- It ends behind the line that ends it.
pub ends_quit : (s : Start) (now : Spot) (held : Option (List ℕ)) (lines : ℕ)
    → (g : IsGoing s (at now held [] lines true None)) → Serves s.seat s.log now.session.log s.left now.left s.held held 0
ends_quit s now held lines g =
    over_link 0 s.seat s.log now.session.log s.left now.left s.held held g.pushed [] g.written g.holds (λ e. refl)

-- It ends behind as many lines as may be.
full_of : (lines : ℕ) → lines ≤ max_lines → 1000000 ≤ lines → lines ≡ max_lines
full_of lines few full = omega (arith, few, full)

pub ends_full : (s : Start) (m : Moment) (r : Reading) (left held : Option (List ℕ)) (lines : ℕ) → 1000000 ≤ lines → 0 < length r.front
    → (g : IsGoing s (at (spot m r left) held [] lines false None))
    → Serves s.seat s.log m.log s.left left s.held held 7
ends_full s m r left held lines full some g =
    over_link 7 s.seat s.log m.log s.left left s.held held g.pushed []
    (looks_on (Ok Full) m (record { front = drop 1 r.front; ended = r.ended }) left lines s.seat s.log s.left (Some []) (Some (g.pushed ++ [])) r left
    g.written (full_of lines g.few full)
    (record { next = Some (take 1 r.front); byte = byte_some r left some; after = after_byte r left some; tells = refl })).served
    g.holds (λ e. refl)

-- The link took the replies to all whole lines that were pulled.
pub caught_up : (s : Start) (now : Spot) (held : Option (List ℕ)) (lines : ℕ) → now.reader.ended ≡ false → HasNoNewline now.reader.front
    → (g : IsGoing s (at now held [] lines false None)) → Serves s.seat s.log now.session.log s.left now.left s.held held 3
caught_up s now held lines going none g =
    over_link 3 s.seat s.log now.session.log s.left now.left s.held held g.pushed []
    (under_way_caught_up lines s.seat s.log s.left (Some []) (Some (g.pushed ++ [])) now g.written g.few going none)
    g.holds (λ e. refl)

-- Memory is refused where bytes were pulled.
pub ends_lost : (s : Start) (m : Moment) (r : Reading) (left left' held : Option (List ℕ)) (lines : ℕ) (pulled : List ℕ)
    → left ≡ prepend_known pulled left' → (g : IsGoing s (at (spot m r left) held [] lines false None))
    → Serves s.seat s.log m.log s.left left' s.held held 5
ends_lost s m r left left' held lines pulled split g =
    over_link 5 s.seat s.log m.log s.left left' s.held held g.pushed []
    (under_way_served 5 lines s.seat s.log s.left (Some []) (Some (g.pushed ++ [])) (spot m r left) (r.front ++ pulled) left' g.written g.few
    (lost_kept r.front pulled left left' split) refl no_three_in_five)
    g.holds (λ e. refl)
