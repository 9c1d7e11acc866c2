-- A session between two lines, and what each way to end it from there says of the whole.
use Rattle.std.proofs.Common.{◌≡◌, ◌≢◌, ◌⊎◌, inl, inr, ℕ, ◌+◌, ◌<◌, ◌≤◌, Bool, true, false, true≢false, IsTrue, List, [], ◌∷◌, ◌++◌, length, take, Option, Some, None, IfSome, Result, Ok, Err, OnOk, OnErr, flat_map, option_map, option_to_list, refl, sym, ap, subst, ◌∙◌, arith, append_assoc, append-nil, length-append, take_all, length-take-le}
use Rattle.std.proofs.lemmas.Grind.{flat_map-append}
use Rattle.std.proofs.lemmas.Option.{none-some, same_Some, IfSome_then}
use Rattle.std.specs.List.{AllByRecursion}
use Rattle.std.specs.Io.KnownBytes.{append_known, prepend_known, IsAtEnd}
use Rattle.version_tree.specs.declared.entry.Entry.{Entry}
use Rattle.version_board.specs.Logs.{Begins, own}
use Rattle.nav_io.specs.declared.lines.LineError.TheVariants as line_error
use Rattle.nav_io.specs.Lines.{line_max, line_len, first_line, line_at_front, after_line, lines, HasNoNewline}
use Rattle.nav_io.specs.Reading.{Reading, ahead, AfterError, AfterBytes, AfterBytesError, bytes_at_front, bytes_or_none}
use Rattle.nav_io.specs.Write.{HoldsPrefix}
use Rattle.nav_io.proofs.Cuts.{line_len-le}
use Rattle.nav_io.proofs.CutLaws.{lines-cut}
use Rattle.nav_io.proofs.FrontLaws.{bytes-some}
use Rattle.nav_io.proofs.Written.{append_known-nil, append_known-append}
use Rattle.nav_proto.specs.declared.reply.Reply.{Reply}
use Rattle.nav_proto.specs.Replies.{reply_text}
use Rattle.nav_session.specs.declared.step.Step.{Step}
use Rattle.nav_session.specs.declared.halt.Halt.{Halt}
use Rattle.nav_session.specs.declared.halt.Halt.TheVariants.{SourceFailed, SinkFailed, NoMemory, LongLine}
use Rattle.nav_session.specs.declared.serving.End.{End}
use Rattle.nav_session.specs.declared.serving.End.TheVariants.{Answered, Full}
use Rattle.nav_session.specs.Halts.{status_of}
use Rattle.nav_session.specs.Requests.{is_quit}
use Rattle.nav_session.specs.Sessions.{Session, opened, IsReplyTo}
use Rattle.nav_session.specs.Transcripts.{AreReplies, IsTranscript, with_newline, replies_text, max_lines, to_answer, Ending, AtEnd, AtQuit, AtLongLine, AtMost, ending, status_at}
use Rattle.nav_session.specs.Desks.{OnDesk, Moment, moment, session_at, session_of, HasItsView, GoesOn}
use Rattle.nav_session.specs.Serving.{AreFirst, AreTaken, AreAllTaken, OnlyLastQuits, writes_all, answers_all, Serves}
use Rattle.nav_session.specs.Turns.{Spot, spot, ReadsLine, AnswersNext, HasNoEntry, FindsEnd, HasStopReason, StopsNext, FindsByte, LooksOn, end_before, status_of_end, status_at_end}
use Rattle.nav_session.specs.UnderWay.{IsShort, IsNoQuit, ArePassed, HasRead, IsUnderWay}
use Rattle.nav_session.proofs.Seen.{taken_first, begins_after}
use Rattle.nav_session.proofs.Chains.{chain_more}
use Rattle.nav_session.proofs.Longer.{replies_longer}
use Rattle.nav_session.proofs.Passed.{AreAll, passed_first, answered_first, all_at_end, all_at_quit, all_at_long_line, all_at_most, one_line_more}
use Rattle.nav_session.proofs.Turned.{no_entry}
use Rattle.nav_session.proofs.Reached.{ahead-there, of_ahead, read_on, read_nothing, taken_of, taken_less, all_taken_of, all_more}

pub no_view : (desk : OnDesk) (log : List Entry) (pin : ℕ) → desk.view ≡ None → HasItsView desk log pin
no_view desk log pin e = rw e tt

pub opened_of : (m : Moment) → m.desk.user ≡ None → session_of m ≡ opened (length m.log)
opened_of m e = ap (session_at (length m.log) m.pin) e

-- before the first line
abbrev pub under_way : (m : Moment) (reader : Reading) (left held : Option (List ℕ)) → reader ≡ record { front = []; ended = false }
    → m.desk.user ≡ None → m.desk.view ≡ None → IsUnderWay 0 m.seat m.log left held (spot m reader left) held
under_way m reader left held fresh nobody none = record {
  done = [];
  replies = [];
  so_many = refl;
  same_seat = refl;
  begins = ([], append-nil m.log);
  view = no_view m.desk m.log m.pin none;
  passed = record { short = tt; no_quit = tt };
  read = subst (λ (r : Reading). HasRead [] left r left) (sym fresh) (read_nothing left);
  replied = opened_of m nobody;
  holds = sym (append_known-nil held);
}

-- what was answered of an input, where so much of it is taken
pub record HasAnswered (seat : ℕ) (log log' : List Entry) (left left' : Option (List ℕ)) (done : List (List ℕ)) (replies : List Reply) : Type 0 where
  pub begins : Begins log log'
  pub transcript : IsTranscript seat (length log) log' done replies
  pub last : OnlyLastQuits done
  pub first : IfSome left (λ input. AreFirst done (to_answer max_lines (lines input)))
  pub taken : AreTaken done left left'

-- A session was served, in which these lines were answered with these replies.
pub record ServesThese (seat : ℕ) (log log' : List Entry) (left left' held held' : Option (List ℕ)) (status : ℕ) (done : List (List ℕ)) (replies : List Reply) : Type 0 where
  pub served : Serves seat log log' left left' held held' status
  pub lines : served.answered ≡ done
  pub told : served.replies ≡ replies

not_three : (reason : Ending) → status_at reason ≡ 3 → ⊥
not_three AtEnd e = omega (arith, e)
not_three AtQuit e = omega (arith, e)
not_three AtLongLine e = omega (arith, e)
not_three AtMost e = omega (arith, e)

-- A session ended in which these lines were answered: of their replies' text this was written, and the status tells why no
-- more lines were.
served_with : (status seat : ℕ) (log log' : List Entry) (left left' held held' : Option (List ℕ)) (done : List (List ℕ)) (replies : List Reply) (written unwritten : List ℕ)
    → HasAnswered seat log log' left left' done replies → written ++ unwritten ≡ replies_text replies → held' ≡ append_known held written
    → (writes_all status ≡ true → written ≡ replies_text replies)
    → (answers_all status ≡ true → IfSome left (λ input. (done ≡ to_answer max_lines (lines input)) × (status ≡ status_at (ending max_lines (lines input)))))
    → (status ≡ 3 → AreAllTaken done left left') → ServesThese seat log log' left left' held held' status done replies
served_with status seat log log' left left' held held' done replies written unwritten h text holds whole all short = record {
  served = record {
    begins = h.begins;
    answered = done;
    replies = replies;
    transcript = h.transcript;
    last = h.last;
    first = h.first;
    taken = h.taken;
    written = written;
    unwritten = unwritten;
    text = text;
    holds = holds;
    whole = whole;
    all = λ e. IfSome_then left (all e) (λ input a. a.0);
    ends = λ e. IfSome_then left (all e) (λ input a. a.1);
    short = short;
  };
  lines = refl;
  told = refl;
}

-- These are all its lines.
served_all : (reason : Ending) (seat : ℕ) (log log' : List Entry) (left left' held held' : Option (List ℕ)) (done : List (List ℕ)) (replies : List Reply)
    → HasAnswered seat log log' left left' done replies → held' ≡ append_known held (replies_text replies)
    → IfSome left (λ input. AreAll done (lines input) reason) → ServesThese seat log log' left left' held held' (status_at reason) done replies
served_all reason seat log log' left left' held held' done replies h holds all =
    served_with (status_at reason) seat log log' left left' held held' done replies (replies_text replies) [] h (append-nil (replies_text replies)) holds
    (λ _. refl)
    (λ _. IfSome_then left all (λ input a. (a.all, ap status_at (sym a.ends))))
    (λ e. absurd (not_three reason e))

-- It stopped before a line that it didn't answer.
pub served_short : (status seat : ℕ) (log log' : List Entry) (left left' held held' : Option (List ℕ)) (done : List (List ℕ)) (replies : List Reply)
    → HasAnswered seat log log' left left' done replies → held' ≡ append_known held (replies_text replies)
    → answers_all status ≡ false → (status ≡ 3 → AreAllTaken done left left') → ServesThese seat log log' left left' held held' status done replies
served_short status seat log log' left left' held held' done replies h holds not_all short =
    served_with status seat log log' left left' held held' done replies (replies_text replies) [] h (append-nil (replies_text replies)) holds
    (λ _. refl) (λ e. absurd (true≢false (sym e ∙ not_all))) short

-- It stopped in the reply to its last line.
pub served_part : (status seat : ℕ) (log log' : List Entry) (left left' held held' : Option (List ℕ)) (done : List (List ℕ)) (replies : List Reply) (written unwritten : List ℕ)
    → HasAnswered seat log log' left left' done replies → written ++ unwritten ≡ replies_text replies → held' ≡ append_known held written
    → answers_all status ≡ false → writes_all status ≡ false → (status ≡ 3 → ⊥) → ServesThese seat log log' left left' held held' status done replies
served_part status seat log log' left left' held held' done replies written unwritten h text holds not_all not_whole no_three =
    served_with status seat log log' left left' held held' done replies written unwritten h text holds
    (λ e. absurd (true≢false (sym e ∙ not_whole))) (λ e. absurd (true≢false (sym e ∙ not_all))) (λ e. absurd (no_three e))

-- the transcript over the log as it is now, and over a longer one without an entry more of the seat
transcript_now : (seat begin : ℕ) (m : Moment) (done : List (List ℕ)) (replies : List Reply)
    → AreReplies seat m.log (opened begin) done replies (session_of m) → IsTranscript seat begin m.log done replies
transcript_now seat begin m done replies replied = record {
  last = session_of m;
  replied = replied;
  no_other = ap (own seat) (take_all (length m.log) m.log (omega arith));
}

transcript_later : (seat begin : ℕ) (m : Moment) (log' : List Entry) (done : List (List ℕ)) (replies : List Reply)
    → Begins m.log log' → own seat log' ≡ own seat m.log
    → AreReplies seat m.log (opened begin) done replies (session_of m) → IsTranscript seat begin log' done replies
transcript_later seat begin m log' done replies begins same replied = record {
  last = session_of m;
  replied = replies_longer seat m.log log' (opened begin) done replies (session_of m) begins replied;
  no_other = ap (own seat) (taken_first m.log log' begins) ∙ sym same;
}

-- the lines that are ahead
others_of : (done : List (List ℕ)) (left : Option (List ℕ)) (reader : Reading) (left' : Option (List ℕ)) → HasRead done left reader left'
    → IfSome left (λ input. (rest : List (List ℕ)) × (lines input ≡ done ++ rest))
others_of done left reader left' h = IfSome_then left h.told (λ input r. (lines r.text, r.others))

first_of : (done : List (List ℕ)) (left : Option (List ℕ)) (reader : Reading) (left' : Option (List ℕ)) → HasRead done left reader left'
    → ArePassed done → length done ≤ max_lines → IfSome left (λ input. AreFirst done (to_answer max_lines (lines input)))
first_of done left reader left' h p within =
    IfSome_then left (others_of done left reader left' h) (λ input o. passed_first (lines input) done o.0 o.1 p within)

-- a line more, which isn't asked whether it ends the session
more_first_of : (done : List (List ℕ)) (line : List ℕ) (left : Option (List ℕ)) (reader : Reading) (left' : Option (List ℕ))
    → HasRead (done ++ line ∷ []) left reader left' → ArePassed done → IsShort line → length done < max_lines
    → IfSome left (λ input. AreFirst (done ++ line ∷ []) (to_answer max_lines (lines input)))
more_first_of done line left reader left' h p short within =
    IfSome_then left (others_of (done ++ line ∷ []) left reader left' h)
    (λ input o. answered_first (lines input) done o.0 line (o.1 ∙ one_line_more done o.0 line) p within short)

-- where none of the lines is a `quit`, one more may be
last_with : (done : List (List ℕ)) (line : List ℕ) → AllByRecursion IsNoQuit done → OnlyLastQuits (done ++ line ∷ [])
last_with [] line none = tt
last_with (a ∷ []) line none = (none.0, tt)
last_with (a ∷ b ∷ done) line none = (none.0, last_with (b ∷ done) line none.1)

last_of : (done : List (List ℕ)) → ArePassed done → OnlyLastQuits done
last_of done p = by done p.no_quit
  where
    by : (xs : List (List ℕ)) → AllByRecursion IsNoQuit xs → OnlyLastQuits xs
    by [] none = tt
    by (a ∷ []) none = tt
    by (a ∷ b ∷ more) none = (none.0, by (b ∷ more) none.1)

-- The session stopped or ended before a line more.
pub has_answered : (count seat : ℕ) (log : List Entry) (left held held' : Option (List ℕ)) (old new : Spot) → (u : IsUnderWay count seat log left held old held')
    → count ≤ max_lines → HasNoEntry old new → AreTaken u.done left new.left
    → HasAnswered seat log new.session.log left new.left u.done u.replies
has_answered count seat log left held held' old new u within s taken =
    let own_stays : own seat new.session.log ≡ own seat old.session.log =
    subst (λ (n : ℕ). own n new.session.log ≡ own n old.session.log) u.same_seat s.no_entry in
    record {
      begins = begins_after log old.session.log new.session.log u.begins s.goes_on.begins;
      transcript = transcript_later seat (length log) old.session new.session.log u.done u.replies s.goes_on.begins own_stays u.replied;
      last = last_of u.done u.passed;
      first = first_of u.done left old.reader old.left u.read u.passed (omega (arith, within, u.so_many));
      taken = taken;
    }

-- at the end of the input nothing is ahead
none_front : (text : List ℕ) → None ≡ line_at_front text → text ≡ []
none_front [] e = refl
none_front (byte ∷ more) e = absurd (none-some (first_line (byte ∷ more)) e)

end_text : (text : List ℕ) (old new : Reading) (left left' : Option (List ℕ)) → (IsTrue old.ended → IsAtEnd left)
    → prepend_known old.front left ≡ Some text → ReadsLine old new left left' None → text ≡ []
end_text text old new left left' at_end there read = none_front text (of_ahead (λ t. None ≡ line_at_front t) text old left at_end there read.line)

kept_at_end : (text : List ℕ) (old new : Reading) (left left' : Option (List ℕ)) → (IsTrue old.ended → IsAtEnd left)
    → prepend_known old.front left ≡ Some text → ReadsLine old new left left' None → prepend_known new.front left' ≡ prepend_known old.front left
kept_at_end text old new left left' at_end there read =
    let none = end_text text old new left left' at_end there read in
    sym (ahead-there new left' (read.after.at_end at_end)) ∙ read.after.rest
    ∙ ap (λ known. option_map after_line known) (ahead-there old left at_end ∙ there ∙ ap Some none) ∙ ap Some (sym none) ∙ sym there

end_taken : (done : List (List ℕ)) (input : Option (List ℕ)) (old new : Reading) (left left' : Option (List ℕ))
    → HasRead done input old left → ReadsLine old new left left' None → AreTaken done input left'
end_taken done None old new left left' h read =
    let gone : left ≡ None = h.untold refl in
    let later : prepend_known new.front left' ≡ prepend_known old.front left =
    sym (ahead-there new left' (read.after.at_end h.at_end)) ∙ read.after.rest
    ∙ ap (λ known. option_map after_line (ahead old known)) gone ∙ sym (ap (λ known. prepend_known old.front known) gone) in
    taken_of done None old new.front left left' later h
end_taken done (Some input) old new left left' h read =
    taken_of done (Some input) old new.front left left' (kept_at_end h.told.text old new left left' h.at_end h.told.there read) h

pub ends_at_end : (count seat : ℕ) (log : List Entry) (left held held' : Option (List ℕ)) (old new : Spot)
    → (u : IsUnderWay count seat log left held old held') → count ≤ max_lines → FindsEnd old new
    → ServesThese seat log new.session.log left new.left held held' 0 u.done u.replies
ends_at_end count seat log left held held' old new u within f =
    served_all AtEnd seat log new.session.log left new.left held held' u.done u.replies
    (has_answered count seat log left held held' old new u within f.stays (end_taken u.done left old.reader new.reader old.left new.left u.read f.read))
    u.holds
    (IfSome_then left u.read.told (λ input r.
    let none = end_text r.text old.reader new.reader old.left new.left u.read.at_end r.there f.read in
    all_at_end (lines input) u.done (r.others ∙ ap (λ (t : List ℕ). u.done ++ lines t) none) u.passed (omega (arith, within, u.so_many))))

-- it stopped before the line was answered
long_front : (text : List ℕ) → line_max < line_len text → (line : List ℕ) × (rest : List (List ℕ)) × (lines text ≡ line ∷ rest) × (line_max < length line)
long_front [] long = absurd (omega (arith, long))
long_front (byte ∷ more) long =
    let text : List ℕ = byte ∷ more in
    let size : length (first_line text) ≡ line_len text = length-take-le (line_len text) text (line_len-le text) in
    (first_line text, lines (after_line text), lines-cut text, omega (arith, long, size))

pub stops_next : (reason : Halt) (count seat : ℕ) (log : List Entry) (left held held' : Option (List ℕ)) (old new : Spot)
    → (u : IsUnderWay count seat log left held old held') → count < max_lines → StopsNext old new reason
    → ServesThese seat log new.session.log left new.left held held' (status_of reason) u.done u.replies
stops_next SourceFailed count seat log left held held' old new u within s =
    let fault = s.why.fault refl in
    served_short 3 seat log new.session.log left new.left held held' u.done u.replies
    (has_answered count seat log left held held' old new u (omega (arith, within)) s.stays
    (taken_of u.done left old.reader new.reader.front old.left new.left s.why.kept u.read))
    u.holds refl
    (λ e. all_taken_of u.done left old.reader new.reader.front old.left new.left s.why.kept fault.0 (sym s.why.same_end ∙ fault.1) u.passed.no_quit u.read)
stops_next LongLine count seat log left held held' old new u within s =
    served_all AtLongLine seat log new.session.log left new.left held held' u.done u.replies
    (has_answered count seat log left held held' old new u (omega (arith, within)) s.stays
    (taken_of u.done left old.reader new.reader.front old.left new.left s.why.0.kept u.read))
    u.holds
    (IfSome_then left u.read.told (λ input r.
    let long = of_ahead (λ t. line_max < line_len t) r.text old.reader old.left u.read.at_end r.there s.why.1 in
    let f = long_front r.text long in
    all_at_long_line (lines input) u.done f.1 f.0 (r.others ∙ ap (λ (ls : List (List ℕ)). u.done ++ ls) f.2) u.passed (omega (arith, within, u.so_many)) f.3))
stops_next NoMemory count seat log left held held' old new u within s =
    served_short 5 seat log new.session.log left new.left held held' u.done u.replies
    (has_answered count seat log left held held' old new u (omega (arith, within)) s.stays (taken s.why))
    u.holds refl (λ e. absurd (omega (arith, e)))
  where
    taken : AfterError old.reader new.reader old.left new.left line_error.NoMemory ⊎ ((line : List ℕ) × ReadsLine old.reader new.reader old.left new.left (Some line))
        → AreTaken u.done left new.left
    taken (inl e) = taken_of u.done left old.reader new.reader.front old.left new.left e.kept u.read
    taken (inr (line, read)) =
        taken_less u.done line left new.left
        (taken_of (u.done ++ line ∷ []) left new.reader new.reader.front new.left new.left refl
        (read_on u.done line left old.reader new.reader old.left new.left read u.read))
stops_next SinkFailed count seat log left held held' old new u within s = absurd s.why

-- The line behind those that were answered was answered too, and its reply isn't written yet.
pub record HasOneMore (count seat : ℕ) (log : List Entry) (left held : Option (List ℕ)) (now : Spot) (held' : Option (List ℕ)) (step : Step) : Type 0 where
  pub done : List (List ℕ)
  pub line : List ℕ
  pub replies : List Reply
  pub reply : Reply
  pub so_many : length done ≡ count
  pub same_seat : now.session.seat ≡ seat
  pub begins : Begins log now.session.log
  pub view : HasItsView now.session.desk now.session.log now.session.pin
  pub passed : ArePassed done
  pub short : IsShort line
  pub quit : step.quit ≡ is_quit line
  pub read : HasRead (done ++ line ∷ []) left now.reader now.left
  pub replied : AreReplies seat now.session.log (opened (length log)) (done ++ line ∷ []) (replies ++ reply ∷ []) (session_of now.session)
  pub printed : step.reply ≡ with_newline (reply_text reply)
  pub holds : held' ≡ append_known held (replies_text replies)

abbrev pub one_more : (count seat : ℕ) (log : List Entry) (left held held' : Option (List ℕ)) (old new : Spot) (step : Step)
    → IsUnderWay count seat log left held old held' → AnswersNext old new step → HasOneMore count seat log left held new held' step
one_more count seat log left held held' old new step u a =
    let due : IsReplyTo seat new.session.log (session_of old.session) a.line a.answers.reply (session_of new.session) =
    subst (λ (n : ℕ). IsReplyTo n new.session.log (session_of old.session) a.line a.answers.reply (session_of new.session)) u.same_seat a.answers.due in
    record {
      done = u.done;
      line = a.line;
      replies = u.replies;
      reply = a.answers.reply;
      so_many = u.so_many;
      same_seat = a.goes_on.seat ∙ u.same_seat;
      begins = begins_after log old.session.log new.session.log u.begins a.goes_on.begins;
      view = a.answers.view;
      passed = u.passed;
      short = a.read.short;
      quit = a.quit;
      read = read_on u.done a.line left old.reader new.reader old.left new.left a.read u.read;
      replied = chain_more (IsReplyTo seat new.session.log) (opened (length log)) u.done u.replies (session_of old.session) a.line a.answers.reply (session_of new.session)
          (replies_longer seat old.session.log new.session.log (opened (length log)) u.done u.replies (session_of old.session) a.goes_on.begins u.replied) due;
      printed = a.answers.printed;
      holds = u.holds;
    }

text_more : (replies : List Reply) (reply : Reply) → replies_text (replies ++ reply ∷ []) ≡ replies_text replies ++ with_newline (reply_text reply)
text_more replies reply =
    flat_map-append (λ (r : Reply). with_newline (reply_text r)) replies (reply ∷ [])
    ∙ ap (λ (t : List ℕ). replies_text replies ++ t) (append-nil (with_newline (reply_text reply)))

pub holds_more : (replies : List Reply) (reply : Reply) (text : List ℕ) (held held' held'' : Option (List ℕ)) → text ≡ with_newline (reply_text reply)
    → held' ≡ append_known held (replies_text replies) → held'' ≡ append_known held' text
    → held'' ≡ append_known held (replies_text (replies ++ reply ∷ []))
holds_more replies reply text held held' held'' printed holds wrote =
    wrote ∙ ap (λ (t : List ℕ). append_known held' t) printed
    ∙ ap (λ known. append_known known (with_newline (reply_text reply))) holds
    ∙ sym (append_known-append held (replies_text replies) (with_newline (reply_text reply)))
    ∙ ap (append_known held) (sym (text_more replies reply))

-- the reply was written, and the session goes on
abbrev pub goes_on : (count seat : ℕ) (log : List Entry) (left held held' held'' : Option (List ℕ)) (now : Spot) (step : Step)
    → HasOneMore count seat log left held now held' step → step.quit ≡ false → held'' ≡ append_known held' step.reply
    → IsUnderWay (count + 1) seat log left held now held''
goes_on count seat log left held held' held'' now step h quit wrote =
    let size = length-append h.done (h.line ∷ []) in
    record {
      done = h.done ++ h.line ∷ [];
      replies = h.replies ++ h.reply ∷ [];
      so_many = omega (arith, size, h.so_many);
      same_seat = h.same_seat;
      begins = h.begins;
      view = h.view;
      passed = record {
        short = all_more IsShort h.done h.line h.passed.short h.short;
        no_quit = all_more IsNoQuit h.done h.line h.passed.no_quit (sym h.quit ∙ quit);
      };
      read = h.read;
      replied = h.replied;
      holds = holds_more h.replies h.reply step.reply held held' held'' h.printed h.holds wrote;
    }

has_answered_more : (count seat : ℕ) (log : List Entry) (left held held' : Option (List ℕ)) (now : Spot) (step : Step)
    → (h : HasOneMore count seat log left held now held' step) → count < max_lines
    → HasAnswered seat log now.session.log left now.left (h.done ++ h.line ∷ []) (h.replies ++ h.reply ∷ [])
has_answered_more count seat log left held held' now step h within = record {
  begins = h.begins;
  transcript = transcript_now seat (length log) now.session (h.done ++ h.line ∷ []) (h.replies ++ h.reply ∷ []) h.replied;
  last = last_with h.done h.line h.passed.no_quit;
  first = more_first_of h.done h.line left now.reader now.left h.read h.passed h.short (omega (arith, within, h.so_many));
  taken = taken_of (h.done ++ h.line ∷ []) left now.reader now.reader.front now.left now.left refl h.read;
}

-- it was written, and the line ends the session
pub ends_at_quit : (count seat : ℕ) (log : List Entry) (left held held' held'' : Option (List ℕ)) (now : Spot) (step : Step)
    → (h : HasOneMore count seat log left held now held' step) → count < max_lines → step.quit ≡ true
    → held'' ≡ append_known held' step.reply → ServesThese seat log now.session.log left now.left held held'' 0 (h.done ++ h.line ∷ []) (h.replies ++ h.reply ∷ [])
ends_at_quit count seat log left held held' held'' now step h within quit wrote =
    served_all AtQuit seat log now.session.log left now.left held held'' (h.done ++ h.line ∷ []) (h.replies ++ h.reply ∷ [])
    (has_answered_more count seat log left held held' now step h within)
    (holds_more h.replies h.reply step.reply held held' held'' h.printed h.holds wrote)
    (IfSome_then left (others_of (h.done ++ h.line ∷ []) left now.reader now.left h.read) (λ input o.
    all_at_quit (lines input) h.done o.0 h.line (o.1 ∙ one_line_more h.done o.0 h.line) h.passed (omega (arith, within, h.so_many)) h.short (sym h.quit ∙ quit)))

-- the writing stopped
part_text : (replies : List Reply) (reply : Reply) (text part rest : List ℕ) → text ≡ with_newline (reply_text reply) → text ≡ part ++ rest
    → (replies_text replies ++ part) ++ rest ≡ replies_text (replies ++ reply ∷ [])
part_text replies reply text part rest printed cut =
    append_assoc (replies_text replies) part rest
    ∙ ap (λ (t : List ℕ). replies_text replies ++ t) (sym cut ∙ printed)
    ∙ sym (text_more replies reply)

part_holds : (replies : List Reply) (part : List ℕ) (held held' held'' : Option (List ℕ)) → held' ≡ append_known held (replies_text replies)
    → held'' ≡ append_known held' part → held'' ≡ append_known held (replies_text replies ++ part)
part_holds replies part held held' held'' holds wrote =
    wrote ∙ ap (λ known. append_known known part) holds ∙ sym (append_known-append held (replies_text replies) part)

stops_with : (status count seat : ℕ) (log : List Entry) (left held held' held'' : Option (List ℕ)) (now : Spot) (step : Step)
    → (h : HasOneMore count seat log left held now held' step) → count < max_lines
    → HoldsPrefix held' step.reply held'' → answers_all status ≡ false → writes_all status ≡ false → (status ≡ 3 → ⊥)
    → ServesThese seat log now.session.log left now.left held held'' status (h.done ++ h.line ∷ []) (h.replies ++ h.reply ∷ [])
stops_with status count seat log left held held' held'' now step h within prefix not_all not_whole no_three =
    served_part status seat log now.session.log left now.left held held'' (h.done ++ h.line ∷ []) (h.replies ++ h.reply ∷ [])
    (replies_text h.replies ++ prefix.0) prefix.1
    (has_answered_more count seat log left held held' now step h within)
    (part_text h.replies h.reply step.reply prefix.0 prefix.1 h.printed prefix.2)
    (part_holds h.replies prefix.0 held held' held'' h.holds prefix.3)
    not_all not_whole no_three

pub stops_writing : (reason : Halt) (count seat : ℕ) (log : List Entry) (left held held' held'' : Option (List ℕ)) (now : Spot) (step : Step)
    → (h : HasOneMore count seat log left held now held' step) → count < max_lines
    → HoldsPrefix held' step.reply held'' → (reason ≡ SourceFailed → ⊥) → (reason ≡ LongLine → ⊥)
    → ServesThese seat log now.session.log left now.left held held'' (status_of reason) (h.done ++ h.line ∷ []) (h.replies ++ h.reply ∷ [])
stops_writing SourceFailed count seat log left held held' held'' now step h within prefix no_source no_long = absurd (no_source refl)
stops_writing LongLine count seat log left held held' held'' now step h within prefix no_source no_long = absurd (no_long refl)
stops_writing SinkFailed count seat log left held held' held'' now step h within prefix no_source no_long =
    stops_with 4 count seat log left held held' held'' now step h within prefix refl refl (λ e. omega (arith, e))
stops_writing NoMemory count seat log left held held' held'' now step h within prefix no_source no_long =
    stops_with 5 count seat log left held held' held'' now step h within prefix refl refl (λ e. omega (arith, e))

-- Behind as many lines as may be: whether a byte is next.
no_byte : (text : List ℕ) → None ≡ bytes_at_front 1 text → text ≡ []
no_byte [] e = refl
no_byte (byte ∷ more) e =
    let some : 1 ≤ length (byte ∷ more) = omega arith in
    absurd (none-some (take 1 (byte ∷ more)) (e ∙ bytes-some 1 (byte ∷ more) some))

some_byte : (text bytes : List ℕ) → Some bytes ≡ bytes_at_front 1 text → (line : List ℕ) × (rest : List (List ℕ)) × (lines text ≡ line ∷ rest)
some_byte [] bytes e = absurd (none-some bytes (sym e))
some_byte (byte ∷ more) bytes e = (first_line (byte ∷ more), lines (after_line (byte ∷ more)), lines-cut (byte ∷ more))

abbrev reason_of_end : End → Ending
reason_of_end Answered = AtEnd
reason_of_end Full = AtMost

status_of_reason : (end : End) → status_at (reason_of_end end) ≡ status_of_end end
status_of_reason Answered = refl
status_of_reason Full = refl

all_before : (next : Option (List ℕ)) (input text : List ℕ) (done : List (List ℕ)) → lines input ≡ done ++ lines text → ArePassed done → length done ≡ max_lines
    → next ≡ bytes_at_front 1 text → AreAll done (lines input) (reason_of_end (end_before next))
all_before None input text done others p full e =
    all_at_end (lines input) done (others ∙ ap (λ (t : List ℕ). done ++ lines t) (no_byte text e)) p (omega (arith, full))
all_before (Some bytes) input text done others p full e =
    let f = some_byte text bytes e in
    all_at_most (lines input) done f.1 f.0 (others ∙ ap (λ (ls : List (List ℕ)). done ++ ls) f.2) p full

finds_byte : (end : End) (m : Moment) (new : Reading) (left' : Option (List ℕ)) (count seat : ℕ) (log : List Entry) (left held held' : Option (List ℕ)) (old : Reading) (left0 : Option (List ℕ))
    → (u : IsUnderWay count seat log left held (spot m old left0) held') → count ≡ max_lines → FindsByte old new left0 left' end
    → ServesThese seat log m.log left left' held held' (status_of_end end) u.done u.replies
finds_byte end m new left' count seat log left held held' old left0 u full f =
    subst (λ (s : ℕ). ServesThese seat log m.log left left' held held' s u.done u.replies) (ap (λ (e : End). status_at (reason_of_end e)) (sym f.tells) ∙ status_of_reason end)
    (served_all (reason_of_end (end_before f.next)) seat log m.log left left' held held' u.done u.replies
    (has_answered count seat log left held held' (spot m old left0) (spot m new left') u (omega (arith, full)) (no_entry m old new left0 left')
    (taken_of u.done left old (bytes_or_none f.next ++ new.front) left0 left' f.after.kept u.read))
    u.holds
    (IfSome_then left u.read.told (λ input r.
    all_before f.next input r.text u.done r.others u.passed (u.so_many ∙ full)
    (of_ahead (λ t. f.next ≡ bytes_at_front 1 t) r.text old left0 u.read.at_end r.there f.byte))))

nothing_in_front : (front : List ℕ) → length front < 1 → HasNoNewline front
nothing_in_front [] few = refl
nothing_in_front (byte ∷ front) few = absurd (omega (arith, few))

pub looks_on : (r : Result End Halt) (m : Moment) (new : Reading) (left' : Option (List ℕ)) (count seat : ℕ) (log : List Entry) (left held held' : Option (List ℕ)) (old : Reading) (left0 : Option (List ℕ))
    → (u : IsUnderWay count seat log left held (spot m old left0) held') → count ≡ max_lines → LooksOn old new left0 left' r
    → ServesThese seat log m.log left left' held held' (status_at_end r) u.done u.replies
looks_on (Ok end) m new left' count seat log left held held' old left0 u full f =
    finds_byte end m new left' count seat log left held held' old left0 u full f
looks_on (Err SourceFailed) m new left' count seat log left held held' old left0 u full e =
    let fault = e.fault refl in
    served_short 3 seat log m.log left left' held held' u.done u.replies
    (has_answered count seat log left held held' (spot m old left0) (spot m new left') u (omega (arith, full)) (no_entry m old new left0 left')
    (taken_of u.done left old new.front left0 left' e.kept u.read))
    u.holds refl
    (λ _. all_taken_of u.done left old new.front left0 left' e.kept (nothing_in_front new.front fault.0) (sym e.same_end ∙ fault.1) u.passed.no_quit u.read)
looks_on (Err NoMemory) m new left' count seat log left held held' old left0 u full e =
    served_short 5 seat log m.log left left' held held' u.done u.replies
    (has_answered count seat log left held held' (spot m old left0) (spot m new left') u (omega (arith, full)) (no_entry m old new left0 left')
    (taken_of u.done left old new.front left0 left' e.kept u.read))
    u.holds refl (λ three. absurd (omega (arith, three)))
looks_on (Err LongLine) m new left' count seat log left held held' old left0 u full e = absurd e
looks_on (Err SinkFailed) m new left' count seat log left held held' old left0 u full e = absurd e

-- It was refused memory before its first line.
pub stops_first : (m : Moment) (left held : Option (List ℕ)) → m.desk.user ≡ None → m.desk.view ≡ None
    → ServesThese m.seat m.log m.log left left held held 5 [] []
stops_first m left held nobody none =
    let fresh : Reading = record { front = []; ended = false } in
    let u = under_way m fresh left held refl nobody none in
    served_short 5 m.seat m.log m.log left left held held u.done u.replies
    (has_answered 0 m.seat m.log left held held (spot m fresh left) (spot m fresh left) u (omega arith) (no_entry m fresh fresh left left)
    (taken_of u.done left fresh [] left left refl u.read))
    u.holds refl (λ three. absurd (omega (arith, three)))
