-- What a command that was done on a board of its own wrote, against its one output.
use Rattle.std.proofs.Common.{◌≡◌, ◌∙◌, ◌||◌, ◌==◌, ◌⊎◌, inl, inr, ℕ, Bool, true, false, List, [], ◌++◌, append-nil, Option, Some, None, IfSome, refl, sym, ap, subst, true≢false}
use Rattle.std.specs.Io.KnownBytes.{append_known}
use Rattle.std.proofs.lemmas.Bool.{eqb-true}
use Rattle.std.proofs.lemmas.List.{append_assoc}
use Rattle.std.proofs.lemmas.List.Concat.{flat_map-append}
use Rattle.version_tree.specs.declared.entry.Entry.{Entry}
use Rattle.version_board.specs.Logs.{own}
use Rattle.nav_io.specs.Lines.{lines}
use Rattle.nav_io.specs.Write.{HoldsPrefix}
use Rattle.nav_proto.specs.declared.reply.Reply.{Reply}
use Rattle.nav_proto.specs.Replies.{reply_text}
use Rattle.nav_session.specs.Laws.{FirstLinesHaveOneScript}
use Rattle.nav_session.specs.Serving.{AreFirst, Serves}
use Rattle.nav_session.specs.Transcripts.{IsTranscript, ending, max_lines, replies_text, status_at, to_answer, with_newline}
use Rattle.lsp_wire.specs.declared.reply.Reply.{Reply as Answer}
use Rattle.lsp_messages.specs.Inputs.{ending as ending_of, max_messages, status_at as status_of, to_answer as messages_of}
use Rattle.lsp_messages.specs.Reached.{AreFirst as AreFirstMessages}
use Rattle.lsp_messages.specs.Serving.{reply_frame, replies_text as frames_of}
use Rattle.nav_lsp.specs.Laws.{MessagesHaveOneScript}
use Rattle.nav_lsp.specs.Serving.{ServesEditor}
use Rattle.nav_lsp.specs.Transcripts.{IsTold}
use Rattle.nav_demo.specs.Laws.{TreesHaveOneSummary}
use Rattle.nav_demo.specs.Summary.{Demonstrates, IsSummary}
use Rattle.nav_doors.specs.Connections.{Outside as Doors}
use Rattle.nav_doors.specs.Houses.{House}
use Rattle.nav_serve.specs.declared.words.Command.{Command}
use Rattle.nav_serve.specs.declared.words.Command.TheVariants.{Once, Upgrade, Run, Lsp, Demo, Serve}
use Rattle.nav_serve.specs.declared.tasks.Task.{Task}
use Rattle.nav_serve.specs.declared.tasks.Task.TheVariants as task
use Rattle.nav_serve.specs.Outside.{Outside, scene, seen}
use Rattle.nav_serve.specs.Performed.{DoesTask}
use Rattle.nav_serve.specs.Taken.{IsBeginning, IsOutput}
use Rattle.nav_serve.specs.Outputs.{IsDemonstration}
use Rattle.nav_serve.specs.Headline.{BeginsOutput, Gives, Keeps, KeepsAlone, input_of, promise, used_by}
use Rattle.nav_serve.proofs.CallerLemmas.{append_known-nil}
use Rattle.nav_serve.proofs.OneOutput.{one_demo, one_task}

if_some : {X : Type 0} (P Q : X → Type 0) (o : Option X) → ((x : X) → P x → Q x) → IfSome o P → IfSome o Q
if_some P Q None f h = h
if_some P Q (Some x) f h = f x h

if_both : {X : Type 0} (P Q R : X → Type 0) (o : Option X) → ((x : X) → P x → Q x → R x) → IfSome o P → IfSome o Q → IfSome o R
if_both P Q R None f h k = h
if_both P Q R (Some x) f h k = f x h k

-- a part of a text begins what the text begins
part_begins : (written unwritten text more output : List ℕ) → written ++ unwritten ≡ text → text ++ more ≡ output → (rest : List ℕ) × (written ++ rest ≡ output)
part_begins written unwritten text more output cut is =
    (unwritten ++ more, sym (append_assoc written unwritten more) ∙ ap (λ (t : List ℕ). t ++ more) cut ∙ is)

-- ---- `run`

writes_too : (a b c d : Bool) → (a || b || c) ≡ true → (a || d || b || c) ≡ true
writes_too true b c d e = refl
writes_too false b c true e = refl
writes_too false b c false e = e

more_lines : FirstLinesHaveOneScript → (log : List Entry) (answered : List (List ℕ)) (replies : List Reply) (written unwritten input : List ℕ) → own 0 log ≡ log
    → IsTranscript 0 0 log answered replies → written ++ unwritten ≡ replies_text replies → AreFirst answered (to_answer max_lines (lines input)) → BeginsOutput Run written input
more_lines law log answered replies written unwritten input all_own transcript cut first output status (script, ends) =
    let behind = law 0 log script.log answered first.0 replies script.replies all_own script.all_own transcript
    (subst (λ (ls : List (List ℕ)). IsTranscript 0 0 script.log ls script.replies) (sym first.1) script.transcript) in
    part_begins written unwritten (replies_text replies) (replies_text behind.0) output cut
    (sym (flat_map-append (λ (reply : Reply). with_newline (reply_text reply)) replies behind.0) ∙ ap replies_text behind.1 ∙ sym script.text)

gives_run : FirstLinesHaveOneScript → (log : List Entry) (left left' held held' : Option (List ℕ)) (f k f' k' status : ℕ) → own 0 log ≡ log
    → Serves 0 [] log left left' held held' status → Gives Run (seen left f held k) (seen left' f' held' k') status
gives_run law log left left' held held' f k f' k' status all_own s = record {
  written = s.written;
  holds = s.holds;
  whole = λ all. if_both (λ input. s.answered ≡ to_answer max_lines (lines input)) (λ input. status ≡ status_at (ending max_lines (lines input)))
      (λ input. (promise Run).output input s.written status) left
      (λ input is ends. (
        record {
          log = log;
          all_own = all_own;
          replies = s.replies;
          transcript = subst (λ (ls : List (List ℕ)). IsTranscript 0 0 log ls s.replies) is s.transcript;
          text = s.whole (writes_too (status == 0) (status == 6) (status == 7) (status == 3) all);
        },
        ends,
      )) (s.all all) (s.ends all);
  begins = if_some (λ input. AreFirst s.answered (to_answer max_lines (lines input))) (BeginsOutput Run s.written) left
      (λ input first. more_lines law log s.answered s.replies s.written s.unwritten input all_own s.transcript s.text first) s.first;
}

-- ---- `lsp`

frames_too : (a b c d e f : Bool) → (a || b || c || d || e) ≡ true → (a || b || f || c || d || e) ≡ true
frames_too true b c d e f is = refl
frames_too false true c d e f is = refl
frames_too false false c d e true is = refl
frames_too false false c d e false is = is

more_messages : MessagesHaveOneScript → (log : List Entry) (answered : List (List ℕ)) (replies : List (Option Answer)) (shut : Bool) (written unwritten input : List ℕ) → own 0 log ≡ log
    → IsTold 0 0 log answered replies shut → written ++ unwritten ≡ frames_of replies → AreFirstMessages answered (messages_of max_messages input) → BeginsOutput Lsp written input
more_messages law log answered replies shut written unwritten input all_own told cut first output status (shut', script, ends) =
    let behind = law 0 log script.log answered first.0 replies script.replies shut shut' all_own script.all_own told
    (subst (λ (ms : List (List ℕ)). IsTold 0 0 script.log ms script.replies shut') (sym first.1) script.told) in
    part_begins written unwritten (frames_of replies) (frames_of behind.rest) output cut
    (sym (flat_map-append reply_frame replies behind.rest) ∙ ap frames_of behind.begin ∙ sym script.text)

gives_lsp : MessagesHaveOneScript → (log : List Entry) (left left' held held' : Option (List ℕ)) (f k f' k' status : ℕ) → own 0 log ≡ log
    → ServesEditor 0 [] log left left' held held' status → Gives Lsp (seen left f held k) (seen left' f' held' k') status
gives_lsp law log left left' held held' f k f' k' status all_own editor =
    let s = editor.served in
    record {
      written = s.written;
      holds = s.holds;
      whole = λ all. if_both (λ input. s.answered ≡ messages_of max_messages input) (λ input. status ≡ status_of s.shut (ending_of max_messages input))
          (λ input. (promise Lsp).output input s.written status) left
          (λ input is ends. (
            s.shut,
            record {
              log = log;
              all_own = all_own;
              replies = s.replies;
              told = subst (λ (ms : List (List ℕ)). IsTold 0 0 log ms s.replies s.shut) is s.told;
              text = s.whole (frames_too (status == 0) (status == 1) (status == 6) (status == 7) (status == 9) (status == 3) all);
            },
            ends,
          )) (s.all all) (s.ends all);
      begins = if_some (λ input. AreFirstMessages s.answered (messages_of max_messages input)) (BeginsOutput Lsp s.written) left
          (λ input first. more_messages law log s.answered s.replies s.shut s.written s.unwritten input all_own s.told s.text first) s.first;
    }

-- ---- `once` and `upgrade`

-- the bytes begin each output of the task
abbrev BeginsTask : Task → List ℕ → List ℕ → Type 0
BeginsTask task written input =
    (output : List ℕ) (status : ℕ) → IsOutput task input output × (status ≡ 0) → (rest : List ℕ) × (written ++ rest ≡ output)

record GivesTask (task : Task) (left held held' : Option (List ℕ)) (status : ℕ) : Type 0 where
  written : List ℕ
  holds : held' ≡ append_known held written
  whole : (status == 0) ≡ true → IfSome left (λ input. IsOutput task input written × (status ≡ 0))
  begins : IfSome left (BeginsTask task written)

task_begins : (task : Task) (input written : List ℕ) → IsBeginning task input written → BeginsTask task written input
task_begins task input written (inl none) output status h = (output, ap (λ (w : List ℕ). w ++ output) none)
task_begins task input written (inr (rest, is)) output status h = (rest, one_task task input (written ++ rest) output is h.0)

gives_task : (task : Task) (old new : Outside) (status : ℕ) → DoesTask task old new status → GivesTask task old.left old.held new.held status
gives_task task old new status h = by (status == 0) refl
  where
    by : (zero : Bool) → (status == 0) ≡ zero → GivesTask task old.left old.held new.held status
    by true e =
        let is : status ≡ 0 = eqb-true status 0 e in
        let all = h.answered is in
        record {
          written = all.0;
          holds = all.1;
          whole = λ _. if_some (λ input. IsOutput task input all.0) (λ input. IsOutput task input all.0 × (status ≡ 0)) old.left (λ input one. (one, is)) all.2;
          begins = if_some (λ input. IsOutput task input all.0) (BeginsTask task all.0) old.left
              (λ input one output s k. ([], append-nil all.0 ∙ one_task task input all.0 output one k.0)) all.2;
        }
    by false e = record {
      written = h.begun.0;
      holds = h.begun.1;
      whole = λ zero. absurd (cc (e, zero));
      begins = if_some (λ input. IsBeginning task input h.begun.0) (BeginsTask task h.begun.0) old.left (λ input one. task_begins task input h.begun.0 one) h.begun.2;
    }

-- ---- `demo`

shown : (log : List Entry) (files start : ℕ) (text : List ℕ) → own 0 log ≡ log → IsSummary 0 0 log files start text → IsDemonstration files start (with_newline text)
shown log files start text all_own is = record { log = log; all_own = all_own; summary = text; is_summary = is; text = refl }

gives_demo : TreesHaveOneSummary → (log : List Entry) (files start : ℕ) (left left' held held' : Option (List ℕ)) (f k f' k' status : ℕ) → own 0 log ≡ log
    → Demonstrates 0 [] log held held' files start status → Gives (Demo files start) (seen left f held k) (seen left' f' held' k') status
gives_demo law log files start left left' held held' f k f' k' status all_own h = by (status == 0) refl
  where
    by_begun : (status == 0) ≡ false → (held' ≡ held) ⊎ ((text : List ℕ) × IsSummary 0 0 log files start text × HoldsPrefix held (with_newline text) held')
        → Gives (Demo files start) (seen left f held k) (seen left' f' held' k') status
    by_begun e (inl none) = record {
      written = [];
      holds = none ∙ append_known-nil held;
      whole = λ zero. absurd (cc (e, zero));
      begins = λ output s is. (output, refl);
    }
    by_begun e (inr (text, is, prefix)) = record {
      written = prefix.0;
      holds = prefix.3;
      whole = λ zero. absurd (cc (e, zero));
      begins = λ output s one. (prefix.1, sym prefix.2 ∙ one_demo law files start (with_newline text) output (shown log files start text all_own is) one.0);
    }

    by : (zero : Bool) → (status == 0) ≡ zero → Gives (Demo files start) (seen left f held k) (seen left' f' held' k') status
    by true e =
        let is : status ≡ 0 = eqb-true status 0 e in
        let all = h.whole is in
        let one = shown log files start all.0 all_own all.1 in
        record {
          written = with_newline all.0;
          holds = all.2;
          whole = λ _. (one, is);
          begins = λ output s k. ([], append-nil (with_newline all.0) ∙ one_demo law files start (with_newline all.0) output one k.0);
        }
    by false e = by_begun e h.begun

-- ---- every command

gives : {D S K : Type 0} (o : Doors D S K) → FirstLinesHaveOneScript → MessagesHaveOneScript → TreesHaveOneSummary
    → (command : Command) (log : List Entry) (left left' held held' : Option (List ℕ)) (f k f' k' : ℕ) (house house' : House D) (status : ℕ)
    → own 0 log ≡ log → (promise command).does o (scene (seen left f held k) house 0 []) (scene (seen left' f' held' k') house' 0 log) status
    → ((promise command).uses.sink ≡ false → held' ≡ held) → Gives command (seen left f held k) (seen left' f' held' k') status
gives o law1 law2 law3 Once log left left' held held' f k f' k' house house' status all_own does stays =
    let g = gives_task task.Once (seen left f held k) (seen left' f' held' k') status does in
    record { written = g.written; holds = g.holds; whole = g.whole; begins = g.begins }
gives o law1 law2 law3 Upgrade log left left' held held' f k f' k' house house' status all_own does stays =
    let g = gives_task task.Upgrade (seen left f held k) (seen left' f' held' k') status does in
    record { written = g.written; holds = g.holds; whole = g.whole; begins = g.begins }
gives o law1 law2 law3 Run log left left' held held' f k f' k' house house' status all_own does stays =
    gives_run law1 log left left' held held' f k f' k' status all_own does
gives o law1 law2 law3 Lsp log left left' held held' f k f' k' house house' status all_own does stays =
    gives_lsp law2 log left left' held held' f k f' k' status all_own does
gives o law1 law2 law3 (Demo files start) log left left' held held' f k f' k' house house' status all_own does stays =
    gives_demo law3 log files start left left' held held' f k f' k' status all_own does
gives o law1 law2 law3 (Serve port doors connections) log left left' held held' f k f' k' house house' status all_own does stays = record {
  written = [];
  holds = stays refl ∙ append_known-nil held;
  whole = λ all. absurd (true≢false (sym all));
  begins = λ output s none. absurd none;
}

-- the same where there is a command
gives_some : {D S K : Type 0} (o : Doors D S K) → FirstLinesHaveOneScript → MessagesHaveOneScript → TreesHaveOneSummary
    → (command : Option Command) (log : List Entry) (left left' held held' : Option (List ℕ)) (f k f' k' : ℕ) (house house' : House D) (status : ℕ)
    → own 0 log ≡ log → IfSome command (λ one. (promise one).does o (scene (seen left f held k) house 0 []) (scene (seen left' f' held' k') house' 0 log) status)
    → ((used_by command).sink ≡ false → held' ≡ held) → IfSome command (λ one. Gives one (seen left f held k) (seen left' f' held' k') status)
gives_some o law1 law2 law3 None log left left' held held' f k f' k' house house' status all_own does stays = tt
gives_some o law1 law2 law3 (Some one) log left left' held held' f k f' k' house house' status all_own does stays =
    gives o law1 law2 law3 one log left left' held held' f k f' k' house house' status all_own does stays

-- what is kept of the command that the words are, on a board that was made
pub keeps_alone : {D S K : Type 0} (o : Doors D S K) → FirstLinesHaveOneScript → MessagesHaveOneScript → TreesHaveOneSummary
    → (found command : Option Command) (begin log : List Entry) (left left' held held' : Option (List ℕ)) (f k f' k' : ℕ) (house house' : House D) (status : ℕ)
    → found ≡ command → begin ≡ [] → own 0 log ≡ log
    → Keeps o found (scene (seen left f held k) house 0 begin) (scene (seen left' f' held' k') house' 0 log) status
    → ((used_by found).sink ≡ false → held' ≡ held)
    → KeepsAlone o command (seen left f held k) (seen left' f' held' k') house house' status
keeps_alone o law1 law2 law3 found command begin log left left' held held' f k f' k' house house' status is empty all_own keeps stays =
    let kept = subst (λ (es : List Entry). Keeps o found (scene (seen left f held k) house 0 es) (scene (seen left' f' held' k') house' 0 log) status) empty keeps in
    let one : KeepsAlone o found (seen left f held k) (seen left' f' held' k') house house' status = record {
      log = log;
      all_own = all_own;
      keeps = kept;
      gives = gives_some o law1 law2 law3 found log left left' held held' f k f' k' house house' status all_own kept.does stays;
    } in
    subst (λ (c : Option Command). KeepsAlone o c (seen left f held k) (seen left' f' held' k') house house' status) is one

-- a command that was refused memory before it began
not_all : (command : Command) → (promise command).all 5 ≡ false
not_all Once = refl
not_all Upgrade = refl
not_all Run = refl
not_all Lsp = refl
not_all (Demo files start) = refl
not_all (Serve port doors connections) = refl

nothing_begins : (command : Command) (input : Option (List ℕ)) → IfSome input (BeginsOutput command [])
nothing_begins command None = tt
nothing_begins command (Some input) = λ output status is. (output, refl)

at_five : (command : Option Command) (left held : Option (List ℕ)) (f k : ℕ) → IfSome command (λ one. Gives one (seen left f held k) (seen left f held k) 5)
at_five None left held f k = tt
at_five (Some command) left held f k = record {
  written = [];
  holds = append_known-nil held;
  whole = λ all. absurd (true≢false (sym all ∙ not_all command));
  begins = nothing_begins command (input_of command left);
}

pub gives_nothing : (command : Option Command) (left held : Option (List ℕ)) (f k status : ℕ) → status ≡ 5
    → IfSome command (λ one. Gives one (seen left f held k) (seen left f held k) status)
gives_nothing command left held f k status five =
    subst (λ (s : ℕ). IfSome command (λ one. Gives one (seen left f held k) (seen left f held k) s)) (sym five) (at_five command left held f k)
