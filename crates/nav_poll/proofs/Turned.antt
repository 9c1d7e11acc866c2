-- What each part of a poll makes of a session that goes on, for each start that it stands for.
use Rattle.std.proofs.Common.{◌≡◌, ◌⊎◌, inl, inr, ℕ, ◌+◌, ◌<◌, ◌≤◌, Bool, true, false, List, [], ◌++◌, length, Option, Some, None, Result, Ok, Err, refl, sym, ap, subst, ◌∙◌, arith}
use Rattle.std.specs.Io.KnownBytes.{prepend_known}
use Rattle.version_tree.specs.declared.entry.Entry.{Entry}
use Rattle.nav_io.specs.Faults.{HasRisen}
use Rattle.nav_io.specs.Lines.{HasNoNewline}
use Rattle.nav_io.specs.Reading.{Reading}
use Rattle.nav_session.specs.declared.step.Step.{Step}
use Rattle.nav_session.specs.declared.halt.Halt.{Halt}
use Rattle.nav_session.specs.declared.halt.Halt.TheVariants.{SourceFailed, SinkFailed, NoMemory, LongLine}
use Rattle.nav_session.specs.Halts.{status_of}
use Rattle.nav_session.specs.Transcripts.{max_lines}
use Rattle.nav_session.specs.Desks.{OnDesk, Moment, moment}
use Rattle.nav_session.specs.Turns.{Spot, spot, AnswersNext}
use Rattle.nav_poll.specs.declared.link.Counts.{Counts}
use Rattle.nav_poll.specs.declared.went.Went.{Went}
use Rattle.nav_poll.specs.declared.went.Went.TheVariants.{On, Waits}
use Rattle.nav_poll.specs.Links.{NoneFell}
use Rattle.nav_poll.specs.Polling.{Seen, Start, HasServed, IsGoing, StandsFor, HasCaughtUp, WaitsForLink}
use Rattle.nav_poll.specs.Turns.{Pushes, Pulls, TakesLine}
use Rattle.nav_poll.proofs.Standing.{at, going_served, stands_going, stands_ended, pushes_on, pulls_on, answers_on, ends_stopped, ends_all, ends_quit, ends_full, caught_up, ends_lost}

-- a session that stands for a start and has not ended goes on since
going_of : (s : Start) (now : Spot) (held : Option (List ℕ)) (out : List ℕ) (lines : ℕ) (quit : Bool) (ended : Option ℕ) → ended ≡ None
    → StandsFor s (at now held out lines quit ended) → IsGoing s (at now held out lines quit None)
going_of s now held out lines quit ended e h = subst (λ (o : Option ℕ). IsGoing s (at now held out lines quit o)) e (h.goes_on e)

-- the same where all is pushed and the last line doesn't end it
pushed_of : (s : Start) (now : Spot) (held : Option (List ℕ)) (out : List ℕ) (lines : ℕ) (quit : Bool) (ended : Option ℕ) → ended ≡ None
    → out ≡ [] → quit ≡ false → StandsFor s (at now held out lines quit ended) → IsGoing s (at now held [] lines false None)
pushed_of s now held out lines quit ended e none on h =
    subst (λ (q : Bool). IsGoing s (at now held [] lines q None)) on
    (subst (λ (o : List ℕ). IsGoing s (at now held o lines quit None)) none (going_of s now held out lines quit ended e h))

-- More is pushed.
pub flushed_by : (s : Start) (m : Moment) (r : Reading) (left left' held held' : Option (List ℕ)) (out out' : List ℕ) (lines : ℕ) (quit : Bool) (ended : Option ℕ)
    → ended ≡ None → Pushes out out' held held' → left' ≡ left → StandsFor s (at (spot m r left) held out lines quit ended)
    → StandsFor s (at (spot m r left') held' out' lines quit ended)
flushed_by s m r left left' held held' out out' lines quit ended e p same h =
    subst (λ (o : Option ℕ). StandsFor s (at (spot m r left') held' out' lines quit o)) (sym e)
    (subst (λ (l : Option (List ℕ)). StandsFor s (at (spot m r l) held' out' lines quit None)) (sym same)
    (stands_going s (spot m r left) held' out' lines quit
    (pushes_on s (spot m r left) held held' out out' lines quit p (going_of s (spot m r left) held out lines quit ended e h))))

failed_by : (reason : Halt) (s : Start) (v : Seen) → (reason ≡ SourceFailed → ⊥) → (reason ≡ LongLine → ⊥) → IsGoing s v → HasServed s v (status_of reason)
failed_by SourceFailed s v no_source no_long g = absurd (no_source refl)
failed_by SinkFailed s v no_source no_long g = going_served 4 s v g refl refl (λ e. absurd (omega (arith, e)))
failed_by NoMemory s v no_source no_long g = going_served 5 s v g refl refl (λ e. absurd (omega (arith, e)))
failed_by LongLine s v no_source no_long g = absurd (no_long refl)

-- A push is refused.
pub push_failed : (reason : Halt) (s : Start) (m : Moment) (r : Reading) (left left' held held' : Option (List ℕ)) (out out' : List ℕ) (lines : ℕ) (quit : Bool) (ended : Option ℕ)
    → ended ≡ None → Pushes out out' held held' → left' ≡ left → (reason ≡ SourceFailed → ⊥) → (reason ≡ LongLine → ⊥)
    → StandsFor s (at (spot m r left) held out lines quit ended)
    → StandsFor s (at (spot m r left') held' out' lines quit (Some (status_of reason)))
push_failed reason s m r left left' held held' out out' lines quit ended e p same no_source no_long h =
    subst (λ (l : Option (List ℕ)). StandsFor s (at (spot m r l) held' out' lines quit (Some (status_of reason)))) (sym same)
    (stands_ended s (at (spot m r left) held' out' lines quit (Some (status_of reason))) (status_of reason) refl
    (failed_by reason s (at (spot m r left) held' out' lines quit None) no_source no_long
    (pushes_on s (spot m r left) held held' out out' lines quit p (going_of s (spot m r left) held out lines quit ended e h))))

-- The next line is answered, and its reply taken up.
pub answered_by : (s : Start) (old new : Spot) (held : Option (List ℕ)) (out : List ℕ) (lines : ℕ) (quit : Bool) (ended : Option ℕ) (step : Step)
    → ended ≡ None → out ≡ [] → quit ≡ false → lines < max_lines → AnswersNext old new step → StandsFor s (at old held out lines quit ended)
    → StandsFor s (at new held step.reply (lines + 1) step.quit ended)
answered_by s old new held out lines quit ended step e none on within a h =
    subst (λ (o : Option ℕ). StandsFor s (at new held step.reply (lines + 1) step.quit o)) (sym e)
    (stands_going s new held step.reply (lines + 1) step.quit
    (answers_on s old new held lines step within a (pushed_of s old held out lines quit ended e none on h)))

-- The next line can't be answered, and nobody is named any more.
pub halted_by : (reason : Halt) (s : Start) (old : Spot) (seat : ℕ) (log : List Entry) (pin : ℕ) (desk desk' : OnDesk) (r : Reading) (left held : Option (List ℕ)) (out : List ℕ) (lines : ℕ) (quit : Bool) (ended : Option ℕ)
    → ended ≡ None → out ≡ [] → quit ≡ false → lines < max_lines → TakesLine old (spot (moment seat log pin desk) r left) (Err reason)
    → StandsFor s (at old held out lines quit ended)
    → StandsFor s (at (spot (moment seat log pin desk') r left) held out lines quit (Some (status_of reason)))
halted_by SourceFailed s old seat log pin desk desk' r left held out lines quit ended e none on within takes h = absurd takes
halted_by SinkFailed s old seat log pin desk desk' r left held out lines quit ended e none on within takes h = absurd takes
halted_by NoMemory s old seat log pin desk desk' r left held out lines quit ended e none on within takes h =
    stands_ended s (at (spot (moment seat log pin desk') r left) held out lines quit (Some 5)) 5 refl
    (ends_stopped NoMemory s old (spot (moment seat log pin desk) r left) held lines within takes (pushed_of s old held out lines quit ended e none on h))
halted_by LongLine s old seat log pin desk desk' r left held out lines quit ended e none on within takes h =
    stands_ended s (at (spot (moment seat log pin desk') r left) held out lines quit (Some 6)) 6 refl
    (ends_stopped LongLine s old (spot (moment seat log pin desk) r left) held lines within takes (pushed_of s old held out lines quit ended e none on h))

-- The input ends.
pub all_by : (s : Start) (m : Moment) (r : Reading) (left held : Option (List ℕ)) (out : List ℕ) (lines : ℕ) (quit : Bool) (ended : Option ℕ)
    → ended ≡ None → out ≡ [] → quit ≡ false → r.ended ≡ true → r.front ≡ [] → StandsFor s (at (spot m r left) held out lines quit ended)
    → StandsFor s (at (spot m r left) held out lines quit (Some 0))
all_by s m r left held out lines quit ended e none on at_end empty h =
    stands_ended s (at (spot m r left) held out lines quit (Some 0)) 0 refl
    (ends_all s m r left held lines at_end empty (pushed_of s (spot m r left) held out lines quit ended e none on h))

-- The last line ends the session.
pub quit_by : (s : Start) (now : Spot) (held : Option (List ℕ)) (out : List ℕ) (lines : ℕ) (quit : Bool) (ended : Option ℕ)
    → ended ≡ None → out ≡ [] → quit ≡ true → StandsFor s (at now held out lines quit ended)
    → StandsFor s (at now held out lines quit (Some 0))
quit_by s now held out lines quit ended e none on h =
    stands_ended s (at now held out lines quit (Some 0)) 0 refl
    (ends_quit s now held lines
    (subst (λ (q : Bool). IsGoing s (at now held [] lines q None)) on
    (subst (λ (o : List ℕ). IsGoing s (at now held o lines quit None)) none (going_of s now held out lines quit ended e h))))

-- A byte stands behind as many lines as may be.
pub full_by : (s : Start) (m : Moment) (r : Reading) (left held : Option (List ℕ)) (out : List ℕ) (lines : ℕ) (quit : Bool) (ended : Option ℕ)
    → ended ≡ None → out ≡ [] → quit ≡ false → 1000000 ≤ lines → 0 < length r.front → StandsFor s (at (spot m r left) held out lines quit ended)
    → (r' : Reading) → StandsFor s (at (spot m r' left) held out lines quit (Some 7))
full_by s m r left held out lines quit ended e none on full some h r' =
    stands_ended s (at (spot m r' left) held out lines quit (Some 7)) 7 refl
    (ends_full s m r left held lines full some (pushed_of s (spot m r left) held out lines quit ended e none on h))

-- Memory is refused, and bytes that were pulled may be lost.
pub lost_by : (s : Start) (m : Moment) (r : Reading) (left left' held : Option (List ℕ)) (out : List ℕ) (lines : ℕ) (quit : Bool) (ended : Option ℕ)
    → ended ≡ None → out ≡ [] → quit ≡ false → ((pulled : List ℕ) × (left ≡ prepend_known pulled left'))
    → StandsFor s (at (spot m r left) held out lines quit ended)
    → (r' : Reading) → StandsFor s (at (spot m r' left') held out lines quit (Some 5))
lost_by s m r left left' held out lines quit ended e none on (pulled, split) h r' =
    stands_ended s (at (spot m r' left') held out lines quit (Some 5)) 5 refl
    (ends_lost s m r left left' held lines pulled split (pushed_of s (spot m r left) held out lines quit ended e none on h))

-- Nothing more is pulled: the link took the replies to all whole lines that were.
pub caught_up_by : (s : Start) (m : Moment) (r : Reading) (left held : Option (List ℕ)) (out : List ℕ) (lines : ℕ) (quit : Bool) (ended : Option ℕ)
    → ended ≡ None → out ≡ [] → quit ≡ false → r.ended ≡ false → HasNoNewline r.front → StandsFor s (at (spot m r left) held out lines quit ended)
    → HasCaughtUp s (at (spot m r left) held out lines quit ended)
caught_up_by s m r left held out lines quit ended e none on going line h =
    caught_up s (spot m r left) held lines going line (pushed_of s (spot m r left) held out lines quit ended e none on h)

-- A pull: bytes came or the end, or nothing yet.
pub pulled_by : (went : Went) (s : Start) (m : Moment) (r r' : Reading) (left left' held held' : Option (List ℕ)) (out : List ℕ) (lines : ℕ) (quit : Bool) (ended : Option ℕ)
    → ended ≡ None → out ≡ [] → quit ≡ false → r.ended ≡ false → held' ≡ held
    → (went ≡ On → Pulls r r' left left') → (went ≡ Waits → (r' ≡ r) × (left' ≡ left))
    → StandsFor s (at (spot m r left) held out lines quit ended) → StandsFor s (at (spot m r' left') held' out lines quit ended)
pulled_by On s m r r' left left' held held' out lines quit ended e none on going same pulls stays h =
    subst (λ (k : Option (List ℕ)). StandsFor s (at (spot m r' left') k out lines quit ended)) (sym same)
    (subst (λ (o : Option ℕ). StandsFor s (at (spot m r' left') held out lines quit o)) (sym e)
    (subst (λ (q : Bool). StandsFor s (at (spot m r' left') held out lines q None)) (sym on)
    (stands_going s (spot m r' left') held out lines false
    (pulls_on s m r r' left left' held out lines going (pulls refl)
    (subst (λ (q : Bool). IsGoing s (at (spot m r left) held out lines q None)) on
    (going_of s (spot m r left) held out lines quit ended e h))))))
pulled_by Waits s m r r' left left' held held' out lines quit ended e none on going same pulls stays h =
    let there = stays refl in
    subst (λ (k : Option (List ℕ)). StandsFor s (at (spot m r' left') k out lines quit ended)) (sym same)
    (subst (λ (l : Option (List ℕ)). StandsFor s (at (spot m r' l) held out lines quit ended)) (sym there.1)
    (subst (λ (x : Reading). StandsFor s (at (spot m x left) held out lines quit ended)) (sym there.0) h))

-- A pull is refused.
pub pull_failed : (reason : Halt) (s : Start) (m : Moment) (r : Reading) (left left' held held' : Option (List ℕ)) (out : List ℕ) (lines : ℕ) (quit : Bool) (ended : Option ℕ)
    → ended ≡ None → out ≡ [] → quit ≡ false → r.ended ≡ false → HasNoNewline r.front → held' ≡ held
    → ((pulled : List ℕ) × (left ≡ prepend_known pulled left')) → (reason ≡ SourceFailed → left' ≡ left)
    → (reason ≡ SinkFailed → ⊥) → (reason ≡ LongLine → ⊥)
    → StandsFor s (at (spot m r left) held out lines quit ended)
    → (r' : Reading) → StandsFor s (at (spot m r' left') held' out lines quit (Some (status_of reason)))
pull_failed SourceFailed s m r left left' held held' out lines quit ended e none on going line same lost there no_sink no_long h r' =
    subst (λ (k : Option (List ℕ)). StandsFor s (at (spot m r' left') k out lines quit (Some 3))) (sym same)
    (subst (λ (l : Option (List ℕ)). StandsFor s (at (spot m r' l) held out lines quit (Some 3))) (sym (there refl))
    (stands_ended s (at (spot m r' left) held out lines quit (Some 3)) 3 refl
    (caught_up s (spot m r left) held lines going line (pushed_of s (spot m r left) held out lines quit ended e none on h))))
pull_failed NoMemory s m r left left' held held' out lines quit ended e none on going line same lost there no_sink no_long h r' =
    subst (λ (k : Option (List ℕ)). StandsFor s (at (spot m r' left') k out lines quit (Some 5))) (sym same)
    (lost_by s m r left left' held out lines quit ended e none on lost h r')
pull_failed SinkFailed s m r left left' held held' out lines quit ended e none on going line same lost there no_sink no_long h r' = absurd (no_sink refl)
pull_failed LongLine s m r left left' held held' out lines quit ended e none on going line same lost there no_sink no_long h r' = absurd (no_long refl)

-- A poll that began before waits too.
risen_later : (a b c : ℕ) → a ≤ b → HasRisen b c → HasRisen a c
risen_later a b c within h = omega (arith, within, h)

pub waits_later : (a b c : Counts) (v : Seen) → NoneFell a b → WaitsForLink b c v → WaitsForLink a c v
waits_later a b c v fell (inl written) = inl (risen_later a.write_waits b.write_waits c.write_waits fell.write_waits written)
waits_later a b c v fell (inr (read, caught)) = inr (risen_later a.read_waits b.read_waits c.read_waits fell.read_waits read, caught)

-- a session that goes on may do so much, and one that has ended nothing
abbrev pub weight : Option ℕ → ℕ → ℕ
weight None n = n + 1
weight (Some status) n = 0

pub weight_falls : (e e' : Option ℕ) (n n' : ℕ) → e ≡ None → (e' ≡ None → n' < n) → weight e' n' < weight e n
weight_falls None None n n' none less = let l = less refl in omega (arith, l)
weight_falls None (Some status) n n' none less = omega arith
weight_falls (Some status) e' n n' none less = absurd (cc)
