-- A session between two messages, and what each way to end it from there says of the whole. Lemmas for callers that
-- read, answer and write in turn.
use Rattle.std.proofs.Common.{◌≡◌, ◌⊎◌, inl, inr, ℕ, ◌+◌, ◌-◌, ◌<◌, ◌≤◌, suc, Bool, true, false, true≢false, List, [], ◌∷◌, ◌++◌, length, Option, Some, None, IfSome, Result, Ok, Err, if◌then◌else◌, refl, sym, ap, subst, ◌∙◌, arith, append_assoc, append-nil, length-append}
use Rattle.std.proofs.lemmas.Grind.{flat_map-append}
use Rattle.std.proofs.lemmas.Option.{IfSome_then}
use Rattle.std.specs.Io.KnownBytes.{append_known, prepend_known}
use Rattle.nav_io.specs.Reading.{Reading, ahead}
use Rattle.nav_io.specs.Write.{HoldsPrefix}
use Rattle.nav_io.proofs.Written.{append_known-nil, append_known-append}
use Rattle.lsp_frames.specs.Frames.{Cut, Nothing, Malformed, Large as too_large, Unfinished, Frame, cut, is_short, body_of, rest_of}
use Rattle.lsp_frames.specs.declared.reader.FrameError.TheVariants as frame
use Rattle.lsp_wire.specs.declared.reply.Reply.{Reply}
use Rattle.lsp_messages.specs.declared.halt.Halt.{Halt}
use Rattle.lsp_messages.specs.declared.halt.Halt.TheVariants.{SourceFailed, SinkFailed, NoMemory, Large, Broken}
use Rattle.lsp_messages.specs.declared.receiving.More.{More}
use Rattle.lsp_messages.specs.declared.receiving.More.TheVariants as more
use Rattle.lsp_messages.specs.Ends.{status_of, writes_all, answers_all}
use Rattle.lsp_messages.specs.Inputs.{max_messages, is_exit, whole_body, up_to_exit, to_answer, Ending, AtEnd, AtExit, AtBroken, AtLarge, AtMost, ending_full, ending_with, ending, status_at, AreFrames, HaveNoExit}
use Rattle.lsp_messages.specs.Reached.{AreFirst, HasRead, AreTaken, AreAllTaken}
use Rattle.lsp_messages.specs.Serving.{Told, reply_frame, replies_text, Serves}
use Rattle.lsp_messages.specs.Turns.{ReadsFrame, FailsToRead, ReadsNext, LooksOn}
use Rattle.lsp_messages.proofs.Behind.{to_answer-cut, ending-cut, stands_behind}
use Rattle.lsp_messages.proofs.Reached.{read_nothing, read_on, taken_of, all_taken_of, IsAhead, ahead_of, of_ahead}

-- So many messages were answered of what the source had, none of them an `exit`, and their replies are written.
pub record IsUnderWay (IsTold : Told) (count : ℕ) (shut : Bool) (left held : Option (List ℕ)) (reader : Reading) (left' held' : Option (List ℕ)) : Type 0 where
  pub done : List (List ℕ)
  pub replies : List (Option Reply)
  pub so_many : length done ≡ count
  pub no_exit : HaveNoExit done
  pub read : HasRead done left reader left'
  pub told : IsTold done replies shut
  pub holds : held' ≡ append_known held (replies_text replies)

-- before the first message
pub under_way : (IsTold : Told) (shut : Bool) (reader : Reading) (left held : Option (List ℕ)) → reader ≡ record { front = []; ended = false }
    → IsTold [] [] shut → IsUnderWay IsTold 0 shut left held reader left held
under_way IsTold shut reader left held fresh told = record {
  done = [];
  replies = [];
  so_many = refl;
  no_exit = tt;
  read = subst (λ (r : Reading). HasRead [] left r left) (sym fresh) (read_nothing left);
  told = told;
  holds = sym (append_known-nil held);
}

-- what else is told is told in another way
pub told_later : (IsTold IsTold' : Told) (count : ℕ) (shut : Bool) (left held : Option (List ℕ)) (reader : Reading) (left' held' : Option (List ℕ))
    → ((done : List (List ℕ)) (replies : List (Option Reply)) (s : Bool) → IsTold done replies s → IsTold' done replies s)
    → IsUnderWay IsTold count shut left held reader left' held' → IsUnderWay IsTold' count shut left held reader left' held'
told_later IsTold IsTold' count shut left held reader left' held' f u = record {
  done = u.done;
  replies = u.replies;
  so_many = u.so_many;
  no_exit = u.no_exit;
  read = u.read;
  told = f u.done u.replies shut u.told;
  holds = u.holds;
}

-- which messages were answered, where so many bytes were taken
pub record HasAnswered (IsTold : Told) (shut : Bool) (left left' : Option (List ℕ)) (done : List (List ℕ)) (replies : List (Option Reply)) : Type 0 where
  pub told : IsTold done replies shut
  pub first : IfSome left (λ input. AreFirst done (to_answer max_messages input))
  pub taken : AreTaken done left left'

-- these are all that are to be answered, and why no more are
pub record AreAll (done : List (List ℕ)) (input : List ℕ) (reason : Ending) : Type 0 where
  pub all : done ≡ to_answer max_messages input
  pub ends : ending max_messages input ≡ reason

not_three : (shut : Bool) (reason : Ending) → status_at shut reason ≡ 3 → ⊥
not_three shut AtEnd e = omega (arith, e)
not_three true AtExit e = omega (arith, e)
not_three false AtExit e = omega (arith, e)
not_three shut AtBroken e = omega (arith, e)
not_three shut AtLarge e = omega (arith, e)
not_three shut AtMost e = omega (arith, e)

-- A session ended in which these messages were answered: of their replies' text this was written, and the status tells why
-- no more messages were.
served_with : (IsTold : Told) (shut : Bool) (status : ℕ) (left left' held held' : Option (List ℕ)) (done : List (List ℕ)) (replies : List (Option Reply)) (written unwritten : List ℕ)
    → HasAnswered IsTold shut left left' done replies → written ++ unwritten ≡ replies_text replies → held' ≡ append_known held written
    → (writes_all status ≡ true → written ≡ replies_text replies)
    → (answers_all status ≡ true → IfSome left (λ input. (done ≡ to_answer max_messages input) × (status ≡ status_at shut (ending max_messages input))))
    → (status ≡ 3 → AreAllTaken done left left') → Serves IsTold left left' held held' status
served_with IsTold shut status left left' held held' done replies written unwritten h text holds whole all short = record {
  answered = done;
  replies = replies;
  shut = shut;
  told = h.told;
  first = h.first;
  taken = h.taken;
  written = written;
  unwritten = unwritten;
  text = text;
  holds = holds;
  whole = whole;
  all = λ e. IfSome_then left (all e) (λ input a. a.0);
  ends = λ e. IfSome_then left (all e) (λ input a. a.1);
  short = short;
}

-- These are all its messages.
served_all : (IsTold : Told) (shut : Bool) (reason : Ending) (status : ℕ) (left left' held held' : Option (List ℕ)) (done : List (List ℕ)) (replies : List (Option Reply))
    → HasAnswered IsTold shut left left' done replies → held' ≡ append_known held (replies_text replies)
    → IfSome left (λ input. AreAll done input reason) → status ≡ status_at shut reason → Serves IsTold left left' held held' status
served_all IsTold shut reason status left left' held held' done replies h holds all is =
    served_with IsTold shut status left left' held held' done replies (replies_text replies) [] h (append-nil (replies_text replies)) holds
    (λ _. refl)
    (λ _. IfSome_then left all (λ input a. (a.all, is ∙ ap (status_at shut) (sym a.ends))))
    (λ e. absurd (not_three shut reason (sym is ∙ e)))

-- It stopped before a message that it didn't answer.
served_short : (IsTold : Told) (shut : Bool) (status : ℕ) (left left' held held' : Option (List ℕ)) (done : List (List ℕ)) (replies : List (Option Reply))
    → HasAnswered IsTold shut left left' done replies → held' ≡ append_known held (replies_text replies)
    → answers_all status ≡ false → (status ≡ 3 → AreAllTaken done left left') → Serves IsTold left left' held held' status
served_short IsTold shut status left left' held held' done replies h holds not_all short =
    served_with IsTold shut status left left' held held' done replies (replies_text replies) [] h (append-nil (replies_text replies)) holds
    (λ _. refl) (λ e. absurd (true≢false (sym e ∙ not_all))) short

-- It stopped in the reply to its last message.
served_part : (IsTold : Told) (shut : Bool) (status : ℕ) (left left' held held' : Option (List ℕ)) (done : List (List ℕ)) (replies : List (Option Reply)) (written unwritten : List ℕ)
    → HasAnswered IsTold shut left left' done replies → written ++ unwritten ≡ replies_text replies → held' ≡ append_known held written
    → answers_all status ≡ false → writes_all status ≡ false → (status ≡ 3 → ⊥) → Serves IsTold left left' held held' status
served_part IsTold shut status left left' held held' done replies written unwritten h text holds not_all not_whole no_three =
    served_with IsTold shut status left left' held held' done replies written unwritten h text holds
    (λ e. absurd (true≢false (sym e ∙ not_whole))) (λ e. absurd (true≢false (sym e ∙ not_all))) (λ e. absurd (no_three e))

-- which messages and which ending stand behind those at the front of an input
behind_all : (done : List (List ℕ)) (input rest : List ℕ) (n : ℕ) → AreFrames done input rest → HaveNoExit done → length done + n ≡ max_messages
    → (to_answer max_messages input ≡ done ++ to_answer n rest) × (ending max_messages input ≡ ending n rest)
behind_all done input rest n f go all =
    let b = stands_behind done input rest n f go in
    (ap (λ k. to_answer k input) (sym all) ∙ b.messages, ap (λ k. ending k input) (sym all) ∙ b.ends)

left_over : (n : ℕ) → n ≤ max_messages → (k : ℕ) × (n + k ≡ max_messages)
left_over n within = (max_messages - n, omega (arith, within))

first_of : (done : List (List ℕ)) (input rest : List ℕ) → AreFrames done input rest → HaveNoExit done → length done ≤ max_messages
    → AreFirst done (to_answer max_messages input)
first_of done input rest f go within =
    let (k, all) = left_over (length done) within in
    (to_answer k rest, sym (behind_all done input rest k f go all).0)

left_more : (n : ℕ) → n < max_messages → (k : ℕ) × (n + suc k ≡ max_messages)
left_more n within = (max_messages - n - 1, omega (arith, within))

-- where no whole frame stands behind them
none_to_answer : (n : ℕ) (rest : List ℕ) (c : Cut) → cut rest ≡ c → whole_body c ≡ None → to_answer (suc n) rest ≡ []
none_to_answer n rest c is none = to_answer-cut n rest c is ∙ ap (λ o. up_to_exit o (to_answer n (rest_of c))) none

all_before : (done : List (List ℕ)) (input rest : List ℕ) (c : Cut) (reason : Ending) → AreFrames done input rest → HaveNoExit done → length done < max_messages
    → cut rest ≡ c → whole_body c ≡ None → ((later : Ending) → ending_with c later ≡ reason) → AreAll done input reason
all_before done input rest c reason f go within is none tells =
    let (k, all) = left_more (length done) within in
    let b = behind_all done input rest (suc k) f go all in
    record {
      all = sym (b.0 ∙ ap (λ more. done ++ more) (none_to_answer k rest c is none) ∙ append-nil done);
      ends = b.1 ∙ ending-cut k rest c is ∙ tells (ending k (rest_of c));
    }

none_at_zero : (rest : List ℕ) → to_answer 0 rest ≡ []
unfolding to_answer
none_at_zero rest = refl

full_at_zero : (rest : List ℕ) → ending 0 rest ≡ ending_full (cut rest)
unfolding ending
full_at_zero rest = refl

all_full : (done : List (List ℕ)) (input rest : List ℕ) (c : Cut) (reason : Ending) → AreFrames done input rest → HaveNoExit done → length done ≡ max_messages
    → cut rest ≡ c → ending_full c ≡ reason → AreAll done input reason
all_full done input rest c reason f go full is tells =
    let b = behind_all done input rest 0 f go (omega (arith, full)) in
    record {
      all = sym (b.0 ∙ ap (λ more. done ++ more) (none_at_zero rest) ∙ append-nil done);
      ends = b.1 ∙ full_at_zero rest ∙ ap ending_full is ∙ tells;
    }

-- what stands there by what is read of it
nothing_there : (c : Cut) → body_of c ≡ Ok None → c ≡ Nothing
nothing_there Nothing e = refl
nothing_there Malformed e = cc
nothing_there too_large e = cc
nothing_there Unfinished e = cc
nothing_there (Frame bytes rest) e = cc

whole_there : (c : Cut) (bytes : List ℕ) → body_of c ≡ Ok (Some bytes) → (rest : List ℕ) × (c ≡ Frame bytes rest)
whole_there Nothing bytes e = cc
whole_there Malformed bytes e = cc
whole_there too_large bytes e = cc
whole_there Unfinished bytes e = cc
whole_there (Frame body rest) bytes e = (rest, ap (λ b. Frame b rest) cc)

broken_there : (c : Cut) → body_of c ≡ Err frame.Broken → (whole_body c ≡ None) × ((later : Ending) → ending_with c later ≡ AtBroken) × (ending_full c ≡ AtMost)
broken_there Nothing e = cc
broken_there Malformed e = (refl, λ later. refl, refl)
broken_there too_large e = cc
broken_there Unfinished e = (refl, λ later. refl, refl)
broken_there (Frame body rest) e = cc

large_there : (c : Cut) → body_of c ≡ Err frame.TooLong → (whole_body c ≡ None) × ((later : Ending) → ending_with c later ≡ AtLarge) × (ending_full c ≡ AtMost)
large_there Nothing e = cc
large_there Malformed e = cc
large_there too_large e = (refl, λ later. refl, refl)
large_there Unfinished e = cc
large_there (Frame body rest) e = cc

-- where the source tells its bytes, what is ahead of the messages
there_of : (done : List (List ℕ)) (left : Option (List ℕ)) (reader : Reading) (left' : Option (List ℕ)) → HasRead done left reader left'
    → IfSome left (λ input. IsAhead done input reader left')
there_of done None reader left' h = tt
there_of done (Some input) reader left' h = ahead_of done input reader left' h

-- where a fact of what is ahead is told
all_by : (P : List ℕ → Type 0) (done : List (List ℕ)) (reason : Ending) (left : Option (List ℕ)) (reader : Reading) (left' : Option (List ℕ)) → HasRead done left reader left'
    → IfSome (ahead reader left') P → ((input text : List ℕ) → AreFrames done input text → P text → AreAll done input reason)
    → IfSome left (λ input. AreAll done input reason)
all_by P done reason left reader left' h ahead_is f =
    IfSome_then left (there_of done left reader left' h) (λ input a. f input a.text a.frames (of_ahead P done input reader left' a ahead_is))

answered_so_far : (IsTold : Told) (count : ℕ) (shut : Bool) (left held : Option (List ℕ)) (reader : Reading) (left' held' : Option (List ℕ))
    → (u : IsUnderWay IsTold count shut left held reader left' held') → count ≤ max_messages → (left'' : Option (List ℕ)) → AreTaken u.done left left''
    → HasAnswered IsTold shut left left'' u.done u.replies
answered_so_far IsTold count shut left held reader left' held' u within left'' taken = record {
  told = u.told;
  first = IfSome_then left (there_of u.done left reader left' u.read) (λ input a. first_of u.done input a.text a.frames u.no_exit (omega (arith, within, u.so_many)));
  taken = taken;
}

-- at the end of the input
pub ends_at_end : (IsTold : Told) (count : ℕ) (shut : Bool) (left held : Option (List ℕ)) (old new : Reading) (left0 left' held' : Option (List ℕ))
    → IsUnderWay IsTold count shut left held old left0 held' → count < max_messages → ReadsFrame old new left0 left' None
    → Serves IsTold left left' held held' 0
ends_at_end IsTold count shut left held old new left0 left' held' u within r =
    served_all IsTold shut AtEnd 0 left left' held held' u.done u.replies
    (answered_so_far IsTold count shut left held old left0 held' u (omega (arith, within)) left'
    (taken_of u.done left old new.front left0 left' r.after.kept u.read))
    u.holds
    (all_by (λ text. body_of (cut text) ≡ Ok None) u.done AtEnd left old left0 u.read r.frame
    (λ input text f is. all_before u.done input text Nothing AtEnd f u.no_exit (omega (arith, within, u.so_many)) (nothing_there (cut text) is) refl (λ later. refl)))
    refl

-- no message could be read, or memory was wanting behind one that was
pub stops_reading : (IsTold : Told) (reason : Halt) (count : ℕ) (shut : Bool) (left held : Option (List ℕ)) (old new : Reading) (left0 left' held' : Option (List ℕ))
    → IsUnderWay IsTold count shut left held old left0 held' → count < max_messages
    → ReadsNext old new left0 left' (Err reason) → Serves IsTold left left' held held' (status_of reason)
stops_reading IsTold SourceFailed count shut left held old new left0 left' held' u within s =
    served_short IsTold shut 3 left left' held held' u.done u.replies
    (answered_so_far IsTold count shut left held old left0 held' u (omega (arith, within)) left' (taken_of u.done left old new.front left0 left' s.after.kept u.read))
    u.holds refl (λ e. all_taken_of u.done left old new.front left0 left' s.after.kept (s.after.fault refl).0 u.no_exit u.read)
stops_reading IsTold Broken count shut left held old new left0 left' held' u within s =
    served_all IsTold shut AtBroken 9 left left' held held' u.done u.replies
    (answered_so_far IsTold count shut left held old left0 held' u (omega (arith, within)) left' (taken_of u.done left old new.front left0 left' s.after.kept u.read))
    u.holds
    (all_by (λ text. body_of (cut text) ≡ Err frame.Broken) u.done AtBroken left old left0 u.read (s.why refl)
    (λ input text f is. let t = broken_there (cut text) is in
    all_before u.done input text (cut text) AtBroken f u.no_exit (omega (arith, within, u.so_many)) refl t.0 t.1))
    refl
stops_reading IsTold Large count shut left held old new left0 left' held' u within s =
    served_all IsTold shut AtLarge 6 left left' held held' u.done u.replies
    (answered_so_far IsTold count shut left held old left0 held' u (omega (arith, within)) left' (taken_of u.done left old new.front left0 left' s.after.kept u.read))
    u.holds
    (all_by (λ text. body_of (cut text) ≡ Err frame.TooLong) u.done AtLarge left old left0 u.read (s.large refl)
    (λ input text f is. let t = large_there (cut text) is in
    all_before u.done input text (cut text) AtLarge f u.no_exit (omega (arith, within, u.so_many)) refl t.0 t.1))
    refl
stops_reading IsTold NoMemory count shut left held old new left0 left' held' u within s =
    served_short IsTold shut 5 left left' held held' u.done u.replies
    (answered_so_far IsTold count shut left held old left0 held' u (omega (arith, within)) left' (taken s))
    u.holds refl (λ e. absurd (omega (arith, e)))
  where
    taken : FailsToRead old new left0 left' frame.NoMemory ⊎ ((bytes : List ℕ) × ReadsFrame old new left0 left' (Some bytes)) → AreTaken u.done left left'
    taken (inl e) = taken_of u.done left old new.front left0 left' e.after.kept u.read
    taken (inr (bytes, r)) = taken_of u.done left old (r.after.kept.0 ++ new.front) left0 left' r.after.kept.2 u.read
stops_reading IsTold SinkFailed count shut left held old new left0 left' held' u within s = absurd s

-- The message behind those that were answered was answered too, and its reply isn't written yet.
pub record HasOneMore (IsTold : Told) (count : ℕ) (shut : Bool) (left held : Option (List ℕ)) (reader : Reading) (left' held' : Option (List ℕ))
    (reply : Option Reply) (exit : Bool) : Type 0 where
  pub done : List (List ℕ)
  pub bytes : List ℕ
  pub replies : List (Option Reply)
  pub so_many : length done ≡ count
  pub no_exit : HaveNoExit done
  pub exit_is : exit ≡ is_exit bytes
  pub read : HasRead (done ++ bytes ∷ []) left reader left'
  pub told : IsTold (done ++ bytes ∷ []) (replies ++ reply ∷ []) shut
  pub holds : held' ≡ append_known held (replies_text replies)

-- what is told of one message more
abbrev pub TellsMore : Told → Bool → Told → Bool → List ℕ → Option Reply → Type 0
TellsMore IsTold shut IsTold' shut' bytes reply =
    (done : List (List ℕ)) (replies : List (Option Reply)) → IsTold done replies shut → IsTold' (done ++ bytes ∷ []) (replies ++ reply ∷ []) shut'

pub one_more : (IsTold IsTold' : Told) (count : ℕ) (shut shut' : Bool) (left held : Option (List ℕ)) (old new : Reading) (left0 left' held' : Option (List ℕ))
    (bytes : List ℕ) (reply : Option Reply) (exit : Bool)
    → IsUnderWay IsTold count shut left held old left0 held' → ReadsFrame old new left0 left' (Some bytes) → exit ≡ is_exit bytes
    → TellsMore IsTold shut IsTold' shut' bytes reply → HasOneMore IsTold' count shut' left held new left' held' reply exit
one_more IsTold IsTold' count shut shut' left held old new left0 left' held' bytes reply exit u r e f = record {
  done = u.done;
  bytes = bytes;
  replies = u.replies;
  so_many = u.so_many;
  no_exit = u.no_exit;
  exit_is = e;
  read = read_on u.done bytes left old new left0 left' r u.read;
  told = f u.done u.replies u.told;
  holds = u.holds;
}

text_more : (replies : List (Option Reply)) (reply : Option Reply) → replies_text (replies ++ reply ∷ []) ≡ replies_text replies ++ reply_frame reply
text_more replies reply =
    flat_map-append reply_frame replies (reply ∷ [])
    ∙ ap (λ (t : List ℕ). replies_text replies ++ t) (append-nil (reply_frame reply))

holds_more : (replies : List (Option Reply)) (reply : Option Reply) (held held' held'' : Option (List ℕ))
    → held' ≡ append_known held (replies_text replies) → held'' ≡ append_known held' (reply_frame reply)
    → held'' ≡ append_known held (replies_text (replies ++ reply ∷ []))
holds_more replies reply held held' held'' holds wrote =
    wrote ∙ ap (λ known. append_known known (reply_frame reply)) holds
    ∙ sym (append_known-append held (replies_text replies) (reply_frame reply))
    ∙ ap (append_known held) (sym (text_more replies reply))

no_exit_more : (done : List (List ℕ)) (bytes : List ℕ) → HaveNoExit done → is_exit bytes ≡ false → HaveNoExit (done ++ bytes ∷ [])
no_exit_more [] bytes go e = (e, tt)
no_exit_more (b ∷ done) bytes go e = (go.0, no_exit_more done bytes go.1 e)

-- the reply was written, and the session goes on
pub goes_on : (IsTold : Told) (count : ℕ) (shut : Bool) (left held : Option (List ℕ)) (reader : Reading) (left' held' held'' : Option (List ℕ)) (reply : Option Reply) (exit : Bool)
    → HasOneMore IsTold count shut left held reader left' held' reply exit → exit ≡ false → held'' ≡ append_known held' (reply_frame reply)
    → IsUnderWay IsTold (count + 1) shut left held reader left' held''
goes_on IsTold count shut left held reader left' held' held'' reply exit h none wrote =
    let size = length-append h.done (h.bytes ∷ []) in
    record {
      done = h.done ++ h.bytes ∷ [];
      replies = h.replies ++ reply ∷ [];
      so_many = omega (arith, size, h.so_many);
      no_exit = no_exit_more h.done h.bytes h.no_exit (sym h.exit_is ∙ none);
      read = h.read;
      told = h.told;
      holds = holds_more h.replies reply held held' held'' h.holds wrote;
    }

-- messages at the front, where one more stands behind them
one_before : (done : List (List ℕ)) (bytes text rest : List ℕ) → AreFrames (done ++ bytes ∷ []) text rest
    → (mid : List ℕ) × AreFrames done text mid × (cut mid ≡ Frame bytes rest)
one_before [] bytes text rest f = (text, refl, f.1 ∙ ap (Frame bytes) f.2)
one_before (b ∷ done) bytes text rest f = let m = one_before done bytes f.0 rest f.2 in (m.0, (f.0, f.1, m.1), m.2)

more_to_answer : (done : List (List ℕ)) (bytes input rest : List ℕ) → AreFrames (done ++ bytes ∷ []) input rest → HaveNoExit done → length done < max_messages
    → AreFirst (done ++ bytes ∷ []) (to_answer max_messages input)
more_to_answer done bytes input rest f go within =
    let (k, all) = left_more (length done) within in
    let m = one_before done bytes input rest f in
    let b = behind_all done input m.0 (suc k) m.1 go all in
    let behind : List (List ℕ) = if is_exit bytes then [] else to_answer k rest in
    (behind, append_assoc done (bytes ∷ []) behind ∙ sym (b.0 ∙ ap (λ more. done ++ more) (to_answer-cut k m.0 (Frame bytes rest) m.2)))

answered_more : (IsTold : Told) (count : ℕ) (shut : Bool) (left held : Option (List ℕ)) (reader : Reading) (left' held' : Option (List ℕ)) (reply : Option Reply) (exit : Bool)
    → (h : HasOneMore IsTold count shut left held reader left' held' reply exit) → count < max_messages
    → HasAnswered IsTold shut left left' (h.done ++ h.bytes ∷ []) (h.replies ++ reply ∷ [])
answered_more IsTold count shut left held reader left' held' reply exit h within = record {
  told = h.told;
  first = IfSome_then left (there_of (h.done ++ h.bytes ∷ []) left reader left' h.read)
      (λ input a. more_to_answer h.done h.bytes input a.text a.frames h.no_exit (omega (arith, within, h.so_many)));
  taken = taken_of (h.done ++ h.bytes ∷ []) left reader reader.front left' left' refl h.read;
}

all_at_exit : (done : List (List ℕ)) (bytes input rest : List ℕ) → AreFrames (done ++ bytes ∷ []) input rest → HaveNoExit done → length done < max_messages
    → is_exit bytes ≡ true → AreAll (done ++ bytes ∷ []) input AtExit
all_at_exit done bytes input rest f go within exit =
    let (k, all) = left_more (length done) within in
    let m = one_before done bytes input rest f in
    let b = behind_all done input m.0 (suc k) m.1 go all in
    record {
      all = sym (b.0 ∙ ap (λ more. done ++ more) (to_answer-cut k m.0 (Frame bytes rest) m.2
          ∙ ap (λ (e : Bool). bytes ∷ (if e then [] else to_answer k rest)) exit));
      ends = b.1 ∙ ending-cut k m.0 (Frame bytes rest) m.2 ∙ ap (λ (e : Bool). if e then AtExit else ending k rest) exit;
    }

-- it was written, and the message ends the session
pub ends_at_exit : (IsTold : Told) (count : ℕ) (shut : Bool) (left held : Option (List ℕ)) (reader : Reading) (left' held' held'' : Option (List ℕ)) (reply : Option Reply) (exit : Bool)
    → HasOneMore IsTold count shut left held reader left' held' reply exit → count < max_messages → exit ≡ true → held'' ≡ append_known held' (reply_frame reply)
    → Serves IsTold left left' held held'' (status_at shut AtExit)
ends_at_exit IsTold count shut left held reader left' held' held'' reply exit h within is wrote =
    served_all IsTold shut AtExit (status_at shut AtExit) left left' held held'' (h.done ++ h.bytes ∷ []) (h.replies ++ reply ∷ [])
    (answered_more IsTold count shut left held reader left' held' reply exit h within)
    (holds_more h.replies reply held held' held'' h.holds wrote)
    (IfSome_then left (there_of (h.done ++ h.bytes ∷ []) left reader left' h.read)
    (λ input a. all_at_exit h.done h.bytes input a.text a.frames h.no_exit (omega (arith, within, h.so_many)) (sym h.exit_is ∙ is)))
    refl

-- the writing stopped
part_text : (replies : List (Option Reply)) (reply : Option Reply) (part rest : List ℕ) → reply_frame reply ≡ part ++ rest
    → (replies_text replies ++ part) ++ rest ≡ replies_text (replies ++ reply ∷ [])
part_text replies reply part rest cut =
    append_assoc (replies_text replies) part rest ∙ ap (λ (t : List ℕ). replies_text replies ++ t) (sym cut) ∙ sym (text_more replies reply)

part_holds : (replies : List (Option Reply)) (part : List ℕ) (held held' held'' : Option (List ℕ)) → held' ≡ append_known held (replies_text replies)
    → held'' ≡ append_known held' part → held'' ≡ append_known held (replies_text replies ++ part)
part_holds replies part held held' held'' holds wrote =
    wrote ∙ ap (λ known. append_known known part) holds ∙ sym (append_known-append held (replies_text replies) part)

stops_with : (IsTold : Told) (status count : ℕ) (shut : Bool) (left held : Option (List ℕ)) (reader : Reading) (left' held' held'' : Option (List ℕ)) (reply : Option Reply) (exit : Bool)
    → HasOneMore IsTold count shut left held reader left' held' reply exit → count < max_messages → HoldsPrefix held' (reply_frame reply) held''
    → answers_all status ≡ false → writes_all status ≡ false → (status ≡ 3 → ⊥) → Serves IsTold left left' held held'' status
stops_with IsTold status count shut left held reader left' held' held'' reply exit h within prefix not_all not_whole no_three =
    served_part IsTold shut status left left' held held'' (h.done ++ h.bytes ∷ []) (h.replies ++ reply ∷ [])
    (replies_text h.replies ++ prefix.0) prefix.1
    (answered_more IsTold count shut left held reader left' held' reply exit h within)
    (part_text h.replies reply prefix.0 prefix.1 prefix.2)
    (part_holds h.replies prefix.0 held held' held'' h.holds prefix.3)
    not_all not_whole no_three

pub stops_writing : (IsTold : Told) (reason : Halt) (count : ℕ) (shut : Bool) (left held : Option (List ℕ)) (reader : Reading) (left' held' held'' : Option (List ℕ)) (reply : Option Reply) (exit : Bool)
    → HasOneMore IsTold count shut left held reader left' held' reply exit → count < max_messages → HoldsPrefix held' (reply_frame reply) held''
    → (reason ≡ SourceFailed → ⊥) → (reason ≡ Large → ⊥) → (reason ≡ Broken → ⊥) → Serves IsTold left left' held held'' (status_of reason)
stops_writing IsTold SourceFailed count shut left held reader left' held' held'' reply exit h within prefix no_source no_large no_broken = absurd (no_source refl)
stops_writing IsTold Large count shut left held reader left' held' held'' reply exit h within prefix no_source no_large no_broken = absurd (no_large refl)
stops_writing IsTold Broken count shut left held reader left' held' held'' reply exit h within prefix no_source no_large no_broken = absurd (no_broken refl)
stops_writing IsTold SinkFailed count shut left held reader left' held' held'' reply exit h within prefix no_source no_large no_broken =
    stops_with IsTold 4 count shut left held reader left' held' held'' reply exit h within prefix refl refl (λ e. omega (arith, e))
stops_writing IsTold NoMemory count shut left held reader left' held' held'' reply exit h within prefix no_source no_large no_broken =
    stops_with IsTold 5 count shut left held reader left' held' held'' reply exit h within prefix refl refl (λ e. omega (arith, e))

-- Behind as many messages as may be: whether more stands there.
abbrev pub ending_before : More → Ending
ending_before more.Nothing = AtEnd
ending_before more.Bytes = AtMost

abbrev pub status_after : Result More Halt → ℕ
status_after (Ok more.Nothing) = 0
status_after (Ok more.Bytes) = 7
status_after (Err reason) = status_of reason

looked : (IsTold : Told) (reason : Ending) (status : ℕ) (shut : Bool) (P : List ℕ → Type 0) (left held : Option (List ℕ)) (old : Reading) (front : List ℕ) (left0 left' held' : Option (List ℕ))
    → IsUnderWay IsTold max_messages shut left held old left0 held' → prepend_known front left' ≡ prepend_known old.front left0 → IfSome (ahead old left0) P
    → ((text : List ℕ) → P text → ending_full (cut text) ≡ reason) → status ≡ status_at shut reason → Serves IsTold left left' held held' status
looked IsTold reason status shut P left held old front left0 left' held' u kept ahead_is f is =
    served_all IsTold shut reason status left left' held held' u.done u.replies
    (answered_so_far IsTold max_messages shut left held old left0 held' u (omega arith) left' (taken_of u.done left old front left0 left' kept u.read))
    u.holds
    (all_by P u.done reason left old left0 u.read ahead_is
    (λ input text fs p. all_full u.done input text (cut text) reason fs u.no_exit u.so_many refl (f text p)))
    is

short_look : (IsTold : Told) (status : ℕ) (shut : Bool) (left held : Option (List ℕ)) (old new : Reading) (left0 left' held' : Option (List ℕ))
    → (u : IsUnderWay IsTold max_messages shut left held old left0 held') → prepend_known new.front left' ≡ prepend_known old.front left0
    → answers_all status ≡ false → (status ≡ 3 → is_short (cut new.front) ≡ true) → Serves IsTold left left' held held' status
short_look IsTold status shut left held old new left0 left' held' u kept not_all short =
    served_short IsTold shut status left left' held held' u.done u.replies
    (answered_so_far IsTold max_messages shut left held old left0 held' u (omega arith) left' (taken_of u.done left old new.front left0 left' kept u.read))
    u.holds not_all (λ e. all_taken_of u.done left old new.front left0 left' kept (short e) u.no_exit u.read)

pub looks_on : (IsTold : Told) (r : Result More Halt) (count : ℕ) (shut : Bool) (left held : Option (List ℕ)) (old new : Reading) (left0 left' held' : Option (List ℕ))
    → IsUnderWay IsTold max_messages shut left held old left0 held' → LooksOn old new left0 left' r → Serves IsTold left left' held held' (status_after r)
looks_on IsTold (Ok more.Nothing) count shut left held old new left0 left' held' u r =
    looked IsTold AtEnd 0 shut (λ text. body_of (cut text) ≡ Ok None) left held old new.front left0 left' held' u r.after.kept r.frame
    (λ text is. ap ending_full (nothing_there (cut text) is)) refl
looks_on IsTold (Ok more.Bytes) count shut left held old new left0 left' held' u (inl s) =
    looked IsTold AtMost 7 shut (λ text. body_of (cut text) ≡ Err frame.Broken) left held old new.front left0 left' held' u s.after.kept (s.why refl)
    (λ text is. (broken_there (cut text) is).2) refl
looks_on IsTold (Ok more.Bytes) count shut left held old new left0 left' held' u (inr (inl s)) =
    looked IsTold AtMost 7 shut (λ text. body_of (cut text) ≡ Err frame.TooLong) left held old new.front left0 left' held' u s.after.kept (s.large refl)
    (λ text is. (large_there (cut text) is).2) refl
looks_on IsTold (Ok more.Bytes) count shut left held old new left0 left' held' u (inr (inr (bytes, r))) =
    looked IsTold AtMost 7 shut (λ text. body_of (cut text) ≡ Ok (Some bytes)) left held old (r.after.kept.0 ++ new.front) left0 left' held' u r.after.kept.2 r.frame
    (λ text is. ap ending_full (whole_there (cut text) bytes is).1) refl
looks_on IsTold (Err SourceFailed) count shut left held old new left0 left' held' u s =
    short_look IsTold 3 shut left held old new left0 left' held' u s.after.kept refl (λ e. (s.after.fault refl).0)
looks_on IsTold (Err NoMemory) count shut left held old new left0 left' held' u s =
    short_look IsTold 5 shut left held old new left0 left' held' u s.after.kept refl (λ e. absurd (omega (arith, e)))
looks_on IsTold (Err Broken) count shut left held old new left0 left' held' u s = absurd s
looks_on IsTold (Err Large) count shut left held old new left0 left' held' u s = absurd s
looks_on IsTold (Err SinkFailed) count shut left held old new left0 left' held' u s = absurd s

-- It was refused memory before its first message.
pub stops_first : (IsTold : Told) (shut : Bool) (left held : Option (List ℕ)) → IsTold [] [] shut → Serves IsTold left left held held 5
stops_first IsTold shut left held told =
    let fresh : Reading = record { front = []; ended = false } in
    let u = under_way IsTold shut fresh left held refl told in
    served_short IsTold shut 5 left left held held u.done u.replies
    (answered_so_far IsTold 0 shut left held fresh left held u (omega arith) left (taken_of u.done left fresh [] left left refl u.read))
    u.holds refl (λ e. absurd (omega (arith, e)))
