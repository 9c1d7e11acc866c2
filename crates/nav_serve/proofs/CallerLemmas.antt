-- What callers of the program as a function need beside its contract.
use Rattle.std.proofs.Common.{◌≡◌, ◌⊎◌, ◌≤◌, ℕ, List, [], inl, inr, refl, sym, ap, subst, append-nil, le_refl, true≢false, Option, Some, None, IfSome, IsTrue}
use Rattle.std.specs.Io.KnownBytes.{append_known}
use Rattle.version_tree.specs.declared.entry.Entry.{Entry}
use Rattle.nav_session.proofs.CallerLemmas.{served_nothing}
use Rattle.nav_io.specs.Faults.{HasRisen}
use Rattle.nav_lsp.proofs.CallerLemmas.{edited_nothing}
use Rattle.nav_demo.specs.Summary.{ends_demo}
use Rattle.nav_demo.proofs.Shown.{shown_nothing}
use Rattle.nav_doors.specs.Connections.{Outside as Doors}
use Rattle.nav_doors.specs.Houses.{House}
use Rattle.nav_doors.proofs.Housed.{opened_nothing}
use Rattle.nav_serve.specs.declared.words.Command.{Command}
use Rattle.nav_serve.specs.declared.words.Command.TheVariants.{Once, Upgrade, Run, Lsp, Demo, Serve}
use Rattle.nav_serve.specs.declared.tasks.Task.{Task}
use Rattle.nav_serve.specs.declared.tasks.Task.TheVariants as task
use Rattle.nav_serve.specs.Outside.{HasCause, HasNoFault, Scene, scene, seen}
use Rattle.nav_serve.specs.Taken.{IsBeginning}
use Rattle.nav_serve.specs.Performed.{DoesTask}
use Rattle.nav_serve.specs.Headline.{Keeps, may_end, promise}

-- nothing more was written
pub append_known-nil : (held : Option (List ℕ)) → held ≡ append_known held []
append_known-nil None = refl
append_known-nil (Some bytes) = ap Some (sym (append-nil bytes))

-- nothing is the beginning of an output
pub nothing_begins : (task : Task) (left : Option (List ℕ)) → IfSome left (λ input. IsBeginning task input [])
nothing_begins task None = tt
nothing_begins task (Some input) = inl refl

did_nothing : (task : Task) (left held : Option (List ℕ)) (source_faults sink_faults : ℕ)
    → DoesTask task (seen left source_faults held sink_faults) (seen left source_faults held sink_faults) 5
did_nothing task left held source_faults sink_faults = record {
  answered = λ e. cc;
  not_long = λ e. cc;
  begun = ([], append_known-nil held, nothing_begins task left);
  short = λ e. cc;
  silent = λ e. refl;
  long = λ e. cc;
  silent_long = λ e. refl;
}

-- a command that is refused memory before it begins
does_nothing : {D S K : Type 0} (o : Doors D S K) (command : Command) (left held : Option (List ℕ)) (f k : ℕ) (house : House D) (seat : ℕ) (log : List Entry)
    → (promise command).does o (scene (seen left f held k) house seat log) (scene (seen left f held k) house seat log) 5
does_nothing o Once left held f k house seat log = did_nothing task.Once left held f k
does_nothing o Upgrade left held f k house seat log = did_nothing task.Upgrade left held f k
does_nothing o Run left held f k house seat log = served_nothing seat log left held
does_nothing o Lsp left held f k house seat log = edited_nothing seat log left held
does_nothing o (Demo files start) left held f k house seat log = shown_nothing seat log held files start
does_nothing o (Serve port doors connections) left held f k house seat log = opened_nothing o doors connections house

-- words that couldn't be read for want of memory, whatever they are
none_done : {D S K : Type 0} (o : Doors D S K) (command : Option Command) (left held : Option (List ℕ)) (f k : ℕ) (house : House D) (seat : ℕ) (log : List Entry)
    → IfSome command (λ one. (promise one).does o (scene (seen left f held k) house seat log) (scene (seen left f held k) house seat log) 5)
none_done o None left held f k house seat log = tt
none_done o (Some one) left held f k house seat log = does_nothing o one left held f k house seat log

may_end_unread : (command : Option Command) → IsTrue (may_end command 5)
may_end_unread None = refl
may_end_unread (Some Once) = refl
may_end_unread (Some Upgrade) = refl
may_end_unread (Some Run) = refl
may_end_unread (Some Lsp) = refl
may_end_unread (Some (Demo files start)) = refl
may_end_unread (Some (Serve port doors connections)) = refl

ends_unread : (command : Option Command) (left : Option (List ℕ)) → IfSome command (λ one. (promise one).unhindered left 5)
ends_unread None left = tt
ends_unread (Some Once) left = inr (inl refl)
ends_unread (Some Upgrade) left = inr (inl refl)
ends_unread (Some Run) left = refl
ends_unread (Some Lsp) left = refl
ends_unread (Some (Demo files start)) left = refl
ends_unread (Some (Serve port doors connections)) left = refl

-- the source stays as it was, and the status doesn't blame it
pub blames_sink : (left held held' : Option (List ℕ)) (f k k' status : ℕ) → (status ≡ 3 → ⊥) → (status ≡ 4 → HasRisen k k') → k ≤ k'
    → HasCause (seen left f held k) (seen left f held' k') status
blames_sink left held held' f k k' status no_source sink_failed sink_count = record {
  source_failed = λ e. absurd (no_source e);
  sink_failed = sink_failed;
  source_count = le_refl f;
  sink_count = sink_count;
}

pub no_source_in_demo : (status : ℕ) → IsTrue (ends_demo status) → status ≡ 3 → ⊥
no_source_in_demo status ends e = true≢false (sym (subst (λ (s : ℕ). IsTrue (ends_demo s)) e ends))

-- nothing outside changed, and the status blames nothing of it
pub blames_none : (left held : Option (List ℕ)) (f k status : ℕ) → (status ≡ 3 → ⊥) → (status ≡ 4 → ⊥)
    → HasCause (seen left f held k) (seen left f held k) status
blames_none left held f k status no_source no_sink =
    blames_sink left held held f k k status no_source (λ e. absurd (no_sink e)) (le_refl k)

keeps_at_five : {D S K : Type 0} (o : Doors D S K) (command : Option Command) (left held : Option (List ℕ)) (f k : ℕ) (house : House D) (seat : ℕ) (log : List Entry)
    → Keeps o command (scene (seen left f held k) house seat log) (scene (seen left f held k) house seat log) 5
keeps_at_five o command left held f k house seat log = record {
  ends = may_end_unread command;
  causes = blames_none left held f k 5 (λ e. cc) (λ e. cc);
  complete = λ none. ends_unread command left;
  does = none_done o command left held f k house seat log;
  same_seat = refl;
}

-- memory was refused before the command began
pub keeps_refused : {D S K : Type 0} (o : Doors D S K) (command : Option Command) (left held : Option (List ℕ)) (f k : ℕ) (house : House D) (seat : ℕ) (log : List Entry) (status : ℕ)
    → status ≡ 5 → Keeps o command (scene (seen left f held k) house seat log) (scene (seen left f held k) house seat log) status
keeps_refused o command left held f k house seat log status five =
    subst (λ (s : ℕ). Keeps o command (scene (seen left f held k) house seat log) (scene (seen left f held k) house seat log) s) (sym five)
    (keeps_at_five o command left held f k house seat log)

-- the words are no command
keeps_no_command : {D S K : Type 0} (o : Doors D S K) (command : Option Command) (left held : Option (List ℕ)) (f k : ℕ) (house : House D) (seat : ℕ) (log : List Entry)
    → command ≡ None → Keeps o command (scene (seen left f held k) house seat log) (scene (seen left f held k) house seat log) 2
keeps_no_command o None left held f k house seat log none = record {
  ends = refl;
  causes = blames_none left held f k 2 (λ e. cc) (λ e. cc);
  complete = λ none. tt;
  does = tt;
  same_seat = refl;
}
keeps_no_command o (Some one) left held f k house seat log none = absurd (cc none)

-- there is no command, as the status tells: the words are none, or memory was refused before they were read
pub keeps_without : {D S K : Type 0} (o : Doors D S K) (command : Option Command) (left held : Option (List ℕ)) (f k : ℕ) (house : House D) (seat : ℕ) (log : List Entry) (status : ℕ)
    → ((status ≡ 2) × (command ≡ None)) ⊎ (status ≡ 5)
    → Keeps o command (scene (seen left f held k) house seat log) (scene (seen left f held k) house seat log) status
keeps_without o command left held f k house seat log status (inl both) =
    subst (λ (s : ℕ). Keeps o command (scene (seen left f held k) house seat log) (scene (seen left f held k) house seat log) s) (sym both.0)
    (keeps_no_command o command left held f k house seat log both.1)
keeps_without o command left held f k house seat log status (inr five) = keeps_refused o command left held f k house seat log status five

-- the command that was found was carried out
pub keeps_one : {D S K : Type 0} (o : Doors D S K) (found : Option Command) (one : Command) (before after : Scene D) (status : ℕ) → found ≡ Some one
    → IsTrue ((promise one).ends status) → HasCause before.outside after.outside status
    → (HasNoFault before.outside after.outside → (promise one).unhindered before.outside.left status)
    → (promise one).does o before after status → after.seat ≡ before.seat → Keeps o found before after status
keeps_one o found one before after status is ends causes complete does seat =
    let kept : Keeps o (Some one) before after status =
    record { ends = ends; causes = causes; complete = complete; does = does; same_seat = seat } in
    subst (λ (c : Option Command). Keeps o c before after status) (sym is) kept
