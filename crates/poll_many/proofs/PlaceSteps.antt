-- What a step makes of the session at a place.
use Rattle.std.proofs.Common.{◌≡◌, ◌≢◌, inl, inr, ℕ, ◌≤◌, ◌==◌, ◌||◌, Bool, true, false, IsTrue, if◌then◌else◌, [], ◌∷◌, Option, None, Some, IfSome, refl, ap, sym, subst, ◌∙◌, arith}
use Rattle.nav_io.specs.Faults.{HasRisen}
use Rattle.nav_io.specs.Told.{append_told, HasOut}
use Rattle.nav_session.specs.Desks.{OnDesk}
use Rattle.nav_session.specs.Serving.{ends_session, ends_unhindered}
use Rattle.nav_session.proofs.CallerLemmas.{served_nothing}
use Rattle.nav_poll.specs.Links.{NoneFell}
use Rattle.nav_poll.specs.Polling.{Polling, KeepsStarts, seen}
use Rattle.poll_many.specs.Connections.{Outside, Connection, HasNoFault, IsServed}
use Rattle.poll_many.specs.Places.{IsOpen, IsStanding, Ends, BeginsWith, TakesLink, TakesTurn, Closes, seat_at, log_at, open_at, is_lost}
use Rattle.poll_many.specs.declared.place.Asked.TheVariants.{Given}
use Rattle.poll_many.specs.declared.place.Turn.TheVariants.{Ended}
use Rattle.nav_poll.specs.declared.link.Counts.{Counts}
use Rattle.poll_many.specs.declared.place.Open.{Open}
use Rattle.poll_many.specs.declared.place.Place.{Place}
use Rattle.poll_many.specs.declared.place.Place.TheVariants.{Free, Busy, Lost}

pub risen_before : (a b c : ℕ) → a ≤ b → HasRisen b c → HasRisen a c
risen_before a b c le risen = omega (arith, le, risen)

pub risen_later : (a b c : ℕ) → HasRisen a b → b ≤ c → HasRisen a c
risen_later a b c risen le = omega (arith, risen, le)

fell_none : (a b c : Counts) → NoneFell a b → NoneFell b c → NoneFell a c
fell_none a b c h k = record {
  read_faults = omega (arith, h.read_faults, k.read_faults);
  write_faults = omega (arith, h.write_faults, k.write_faults);
  read_waits = omega (arith, h.read_waits, k.read_waits);
  write_waits = omega (arith, h.write_waits, k.write_waits);
}

pub other : (a b : ℕ) → a ≢ b → (a == b) ≡ false
other a b not = grind (arith, not)

drop_two : (a b c d : Bool) → (a || false || false || b || c || d) ≡ true → (a || b || c || d) ≡ true
drop_two true b c d e = refl
drop_two false b c d e = e

-- a session that no fault ended ends as one that nothing outside hinders
unhindered_end : (status : ℕ) → IsTrue (ends_session status) → status ≢ 3 → status ≢ 4 → IsTrue (ends_unhindered status)
unhindered_end status ends three four =
    drop_two (status == 0) (status == 5) (status == 6) (status == 7) (rw (other status 3 three, other status 4 four) at ends)

unhindered_by : (old new : Counts) (ended : Option ℕ) → IfSome ended (λ status. IsTrue (ends_session status))
    → (ended ≡ Some 3 → HasRisen old.read_faults new.read_faults) → (ended ≡ Some 4 → HasRisen old.write_faults new.write_faults)
    → HasNoFault old new → IfSome ended (λ status. IsTrue (ends_unhindered status))
unhindered_by old new None ends read write none = tt
unhindered_by old new (Some status) ends read write none =
    unhindered_end status ends (λ three. none.read (read (ap Some three))) (λ four. none.write (write (ap Some four)))

-- the connection of an open session that was polled on to another state
abbrev pub connection_of : {P B K : Type 0} → Outside P B K → Open B K → Polling B K → Connection K
connection_of o s q = record {
  given = s.given.value;
  back = q.link;
  seat = o.seat s.before.value;
  before = o.log s.before.value;
  after = o.log q.board;
  status = q.ended;
}

pub served_now : {P B K : Type 0} (o : Outside P B K) (s : Open B K) (q : Polling B K) → IsOpen o s
    → KeepsStarts (seen o.seat o.log o.pin o.left o.held s.polled) (seen o.seat o.log o.pin o.left o.held q)
    → NoneFell (o.counts s.polled.link) (o.counts q.link)
    → IfSome q.ended (λ status. IsTrue (ends_session status))
    → (q.ended ≡ Some 3 → HasRisen (o.counts s.polled.link).read_faults (o.counts q.link).read_faults)
    → (q.ended ≡ Some 4 → HasRisen (o.counts s.polled.link).write_faults (o.counts q.link).write_faults)
    → IsServed o (connection_of o s q)
served_now o s q h keeps fell ends read write =
    let read' : q.ended ≡ Some 3 → HasRisen (o.counts s.given.value).read_faults (o.counts q.link).read_faults =
    λ e. risen_before (o.counts s.given.value).read_faults (o.counts s.polled.link).read_faults (o.counts q.link).read_faults h.counts.read_faults (read e) in
    let write' : q.ended ≡ Some 4 → HasRisen (o.counts s.given.value).write_faults (o.counts q.link).write_faults =
    λ e. risen_before (o.counts s.given.value).write_faults (o.counts s.polled.link).write_faults (o.counts q.link).write_faults h.counts.write_faults (write e) in
    record {
      session = (keeps _ h.stands).served;
      ends = ends;
      read_failed = read';
      write_failed = write';
      unhindered = unhindered_by (o.counts s.given.value) (o.counts q.link) q.ended ends read' write';
      counts = fell_none (o.counts s.given.value) (o.counts s.polled.link) (o.counts q.link) h.counts fell;
    }

-- the session is over, and its link came back
pub over_now : {P B K : Type 0} (o : Outside P B K) (s : Open B K) (q : Polling B K) (p' : Place B K) (port port' : P) (link : K)
    → IsServed o (connection_of o s q) → IsStanding o p' → seat_at o p' ≡ o.seat s.before.value → log_at o p' ≡ o.log q.board → open_at p' ≡ []
    → (q.ended ≡ Some 5 → is_lost p' ≡ true) → link ≡ q.link → o.gave port' ≡ o.gave port → o.got_back port' ≡ append_told (o.got_back port) (link ∷ [])
    → Ends o (Busy s) p' port port' (connection_of o s q)
over_now o s q p' port port' link served standing seat log none lost same gave back = record {
  keeps = record { standing = standing; seat = seat; lost = λ e. absurd (cc e) };
  over = record { served = served; seat = refl; before = refl; after = sym log; no_link = none; lost = lost };
  link = refl;
  same_given = gave;
  got_back = back ∙ ap (λ k. append_told (o.got_back port) (k ∷ [])) same;
}

-- a session as it stands, with no status
pub broken_now : {P B K : Type 0} (o : Outside P B K) (s : Open B K) → IsOpen o s → IsServed o (connection_of o s s.polled)
broken_now o s h =
    served_now o s s.polled h (λ start stands. stands)
    (record { read_faults = omega arith; write_faults = omega arith; read_waits = omega arith; write_waits = omega arith })
    (subst (λ (e : Option ℕ). IfSome e (λ status. IsTrue (ends_session status))) (sym h.going) tt)
    (λ e. absurd (cc (sym h.going ∙ e))) (λ e. absurd (cc (sym h.going ∙ e)))

-- a link for which no session could be made
abbrev pub starved_with : {P B K : Type 0} → Outside P B K → B → K → Connection K
starved_with o board link = record {
  given = link;
  back = link;
  seat = o.seat board;
  before = o.log board;
  after = o.log board;
  status = Some 5;
}

served_none : {P B K : Type 0} (o : Outside P B K) (board : B) (link : K) → IsServed o (starved_with o board link)
served_none o board link = record {
  session = served_nothing (o.seat board) (o.log board) (o.left link) (o.held link);
  ends = cc;
  read_failed = λ e. absurd (cc e);
  write_failed = λ e. absurd (cc e);
  unhindered = λ none. cc;
  counts = record { read_faults = omega arith; write_faults = omega arith; read_waits = omega arith; write_waits = omega arith };
}

-- a link that arrived for a free seat began a session, or starved
pub began_with : {P B K : Type 0} (o : Outside P B K) (desk : OnDesk) (board : B) (link : K) (p' : Place B K) (port mid port' : P)
    → o.gave mid ≡ append_told (o.gave port) (link ∷ []) → o.got_back mid ≡ o.got_back port → HasOut (o.gave mid) (o.got_back mid) 1
    → BeginsWith o board link p' mid port'
    → TakesLink o (Free desk board) p' port port' Given
began_with o desk board link p' port mid port' gave back out b = elim b.4 [
  | inl begun ↦ inl (record {
    keeps = record { standing = b.1; seat = b.2; lost = λ e. absurd (cc e) };
    link = link;
    same_log = b.3;
    no_link = refl;
    new_link = begun.0;
    gave = b.0 ∙ gave;
    out = subst (λ g. HasOut g (o.got_back port') 1) (sym b.0) (subst (λ r. HasOut (o.gave mid) r 1) (sym begun.1) out);
    same_back = begun.1 ∙ back;
  })
  | inr starved ↦ inr (
    starved_with o board link,
    record {
      keeps = record { standing = b.1; seat = b.2; lost = λ e. starved.0 };
      over = record { served = served_none o board link; seat = refl; before = refl; after = sym b.3; no_link = starved.1; lost = λ e. starved.0 };
      no_link = refl;
      told = refl;
      out = subst (λ g. HasOut g (o.got_back port) 1) gave (subst (λ r. HasOut (o.gave mid) r 1) back out);
      gave = b.0 ∙ gave;
      got_back = starved.2 ∙ ap (λ r. append_told r (link ∷ [])) back;
    },
  )
]

-- a session that was broken off leaves its seat free
pub broken_off_at : {P B K : Type 0} (o : Outside P B K) (p : Place B K) (s : Open B K) (desk : OnDesk) (board : B) (link : K) (port port' : P)
    → p ≡ Busy s → IsStanding o p → board ≡ s.polled.board → link ≡ s.polled.link
    → o.gave port' ≡ o.gave port → o.got_back port' ≡ append_told (o.got_back port) (link ∷ []) → Closes o p (Free desk board) port port'
broken_off_at o p s desk board link port port' is standing same_board same_link gave back =
    let h : IsOpen o s = subst (IsStanding o) is standing in
    subst (λ q. Closes o q (Free desk board) port port') (sym is)
    (inr (
      connection_of o s s.polled,
      over_now o s s.polled (Free desk board) port port' link (broken_now o s h) tt
          (ap o.seat same_board ∙ h.seat) (ap o.log same_board) refl (λ e. absurd (cc (sym h.going ∙ e))) same_link gave back,
    ))

-- what stands at a place whose session ended with a status, and what is told of it
record RestsSo {P B K : Type 0} (o : Outside P B K) (board : B) (status : ℕ) (p' : Place B K) : Type 0 where
  standing : IsStanding o p'
  seat : seat_at o p' ≡ o.seat board
  log : log_at o p' ≡ o.log board
  none : open_at p' ≡ []
  lost : status ≡ 5 → is_lost p' ≡ true

rests_so : {P B K : Type 0} (o : Outside P B K) (desk : OnDesk) (board : B) (status : ℕ) (refused : Bool) (p' : Place B K)
    → (status == 5) ≡ refused → p' ≡ (if refused then Lost board else Free desk board) → RestsSo o board status p'
rests_so o desk board status true p' test is = subst (RestsSo o board status) (sym is) (record { standing = tt; seat = refl; log = refl; none = refl; lost = λ e. refl })
rests_so o desk board status false p' test is = subst (RestsSo o board status) (sym is) (record {
  standing = tt;
  seat = refl;
  log = refl;
  none = refl;
  lost = λ e. absurd (cc (sym test ∙ ap (λ (n : ℕ). n == 5) e));
})

some_same : (x y : ℕ) → Some x ≡ Some y → x ≡ y
some_same x y e = cc e

-- a poll ended the session
pub ended_now : {P B K : Type 0} (o : Outside P B K) (s : Open B K) (q : Polling B K) (status : ℕ) (desk : OnDesk) (board : B) (link : K) (p' : Place B K) (port port' : P)
    → IsOpen o s
    → KeepsStarts (seen o.seat o.log o.pin o.left o.held s.polled) (seen o.seat o.log o.pin o.left o.held q)
    → o.seat q.board ≡ o.seat s.polled.board
    → NoneFell (o.counts s.polled.link) (o.counts q.link)
    → q.ended ≡ Some status
    → IsTrue (ends_session status)
    → (status ≡ 3 → HasRisen (o.counts s.polled.link).read_faults (o.counts q.link).read_faults)
    → (status ≡ 4 → HasRisen (o.counts s.polled.link).write_faults (o.counts q.link).write_faults)
    → board ≡ q.board → link ≡ q.link → p' ≡ (if status == 5 then Lost board else Free desk board)
    → o.gave port' ≡ o.gave port → o.got_back port' ≡ append_told (o.got_back port) (link ∷ [])
    → TakesTurn o (Busy s) p' port port' Ended
ended_now o s q status desk board link p' port port' h keeps same_seat fell ended ends read write same_board same_link is gave back =
    let served = served_now o s q h keeps fell
    (subst (λ (e : Option ℕ). IfSome e (λ n. IsTrue (ends_session n))) (sym ended) ends)
    (λ e. read (some_same status 3 (sym ended ∙ e))) (λ e. write (some_same status 4 (sym ended ∙ e))) in
    let rests = rests_so o desk board status (status == 5) p' refl is in (
      connection_of o s q,
      over_now o s q p' port port' link served rests.standing
          (rests.seat ∙ (ap o.seat same_board ∙ (same_seat ∙ h.seat))) (rests.log ∙ ap o.log same_board) rests.none
          (λ e. rests.lost (some_same status 5 (sym ended ∙ e))) same_link gave back,
      (λ e. absurd (cc (sym ended ∙ e))),
    )
