-- What serving a port came to for all seats of a board.
use Rattle.std.proofs.Common.{◌≡◌, ◌≢◌, ◌⊎◌, inl, inr, ℕ, ◌==◌, ◌||◌, Bool, true, false, IsTrue, IfSome, List, [], ◌∷◌, ◌++◌, length, slice_get, Option, None, Some, refl, ap, sym, subst, ◌∙◌, arith, append-nil}
use Rattle.std.specs.List.{AllByRecursion}
use Rattle.std.specs.List.Sorted.{IsPermutation}
use Rattle.std.specs.Io.KnownBytes.{append_known}
use Rattle.std.proofs.lemmas.Option.{same_Some, slice_get_within}
use Rattle.std.proofs.lemmas.List.Sorted.{IsPermutation-refl}
use Rattle.version_tree.specs.declared.entry.Entry.{Entry}
use Rattle.shared_board.specs.Seats.{Holder, AreSeats, IsLogOfAll}
use Rattle.nav_poll.specs.declared.link.Link as links
use Rattle.nav_session.specs.Serving.{Serves, ends_unhindered, answers_all}
use Rattle.nav_poll.specs.Polling.{status_so_far}
use Rattle.poll_many.specs.Connections.{Outside, Connection, HasNoFault, IsServed, IsAnswered, HaveMemory, FollowEachOther, of_seat, links_given, broken_off, ends_port, outside_of_seats}
use Rattle.poll_many.specs.Places.{boards_of, log_at}
use Rattle.poll_many.specs.Ports.{ServesPort}
use Rattle.poll_many.specs.Rounds.{AreFinished, AreServed, IsRefused, ServesAll}
use Rattle.poll_many.specs.declared.call.Call.{Call}
use Rattle.poll_many.specs.declared.place.Place.{Place}
use Rattle.poll_many.specs.declared.port.Port as ports
use Rattle.poll_many.proofs.PlaceLists.{told_nothing}
use Rattle.poll_many.proofs.PlaceSteps.{other}
use Rattle.poll_many.proofs.PortServed.{AllRestAt, standing_rests, boards_len, board_there, none_open, stands_in}

module _ {P K : Type 0} (p : ports.Ghosts P K) (l : links.Ghosts K) where
  abbrev o : Outside P Holder K
  o = outside_of_seats p l

  drop_mid : (a b c : Bool) → (a || false || b || c) ≡ true → (a || b || c) ≡ true
  drop_mid true b c e = refl
  drop_mid false b c e = e

  or_more : (a x b c : Bool) → (a || b || c) ≡ true → (a || x || b || c) ≡ true
  or_more true x b c e = refl
  or_more false true b c e = refl
  or_more false false b c e = e

  answers : (status : ℕ) → IsTrue (ends_unhindered status) → status ≢ 5 → answers_all status ≡ true
  answers status ends not = drop_mid (status == 0) (status == 6) (status == 7) (rw (other status 5 not) at ends)

  -- a session that ended, with memory and without a fault, was answered in full
  answered_at : (c : Connection K) (status : Option ℕ) → c.status ≡ status → IsServed o c → c.status ≢ Some 5 → c.status ≢ None
      → HasNoFault (o.counts c.given) (o.counts c.back) → IsAnswered o c
  answered_at c None e s memory some none = absurd (some e)
  answered_at c (Some status) e s memory some none =
      let ends : IsTrue (ends_unhindered status) =
      subst (λ (told : Option ℕ). IfSome told (λ n. IsTrue (ends_unhindered n))) e (s.unhindered none) in
      let session : Serves c.seat c.before c.after (o.left c.given) (o.left c.back) (o.held c.given) (o.held c.back) status =
      subst (λ (told : Option ℕ). Serves c.seat c.before c.after (o.left c.given) (o.left c.back) (o.held c.given) (o.held c.back) (status_so_far told)) e s.session in
      let all = answers status ends (λ five. memory (e ∙ ap Some five)) in
      record {
        answered = session.answered;
        replies = session.replies;
        transcript = session.transcript;
        all = session.all all;
        holds = session.holds ∙ ap (append_known (o.held c.given)) (session.whole (or_more (status == 0) (status == 3) (status == 6) (status == 7) all));
      }

  all_answered : (cs : List (Connection K)) → AllByRecursion (IsServed o) cs → HaveMemory cs
      → AllByRecursion (λ (c : Connection K). c.status ≢ None → HasNoFault (o.counts c.given) (o.counts c.back) → IsAnswered o c) cs
  all_answered [] s memory = tt
  all_answered (c ∷ cs) s memory = ((λ some none. answered_at c c.status refl s.0 memory.0 some none), all_answered cs s.1 memory.1)

  none_of : {X : Type 0} (xs : List X) → length xs ≡ 0 → xs ≡ []
  none_of [] e = refl
  none_of (x ∷ xs) e = absurd (omega (arith, e))

  five_or : (n : ℕ) → (n ≡ 5) ⊎ (n ≢ 5)
  five_or n = grind arith

  same_five : (status looped : ℕ) → (status ≢ 5 → status ≡ looped) → looped ≡ 5 → status ≡ 5
  same_five status looped same five = elim (five_or status) [
    | inl is ↦ is
    | inr not ↦ same not ∙ five
  ]

  module _ (call : Call P Holder) (port' : P) (places : List (Place Holder K)) (looped : ℕ) (f : AreFinished o call port' places looped) (count : ℕ) (are : AreSeats count call.seats.value.items) where
    rest : AllRestAt o places
    rest = λ n p e. standing_rests o p (f.under_way.standing n p e).0 (f.rest n p e)

    ended_len : length (boards_of places) ≡ length call.seats.value.items
    ended_len = boards_len o places rest ∙ f.under_way.all_places

    place_there : (n : ℕ) (seat : Holder) → slice_get call.seats.value.items n ≡ Some seat → (p : Place Holder K) × (slice_get places n ≡ Some p)
    place_there n seat e = stands_in places n (omega (arith, slice_get_within call.seats.value.items n seat e, f.under_way.all_places))

    -- the seats are all seats still
    pub still_seats : AreSeats count (boards_of places)
    still_seats = record {
      all = ended_len ∙ are.all;
      names = λ n holder e.
          let p = stands_in places n (omega (arith, slice_get_within (boards_of places) n holder e, boards_len o places rest)) in
          (board_there o places rest n p.0 holder p.1 e).0 ∙ (f.under_way.standing n p.0 p.1).1;
    }

    pub port_served : (status : ℕ) → (status ≢ 5 → status ≡ looped) → IsTrue (ends_port status)
        → (status ≢ 5 → (log : List Entry) × IsLogOfAll (boards_of places) log)
        → ServesPort o call.most call.port.value port' call.seats.value.items status
    port_served status same ends one_log = record {
      over = f.under_way.over;
      served = f.under_way.served;
      got_back = f.under_way.got_back;
      given = f.under_way.given;
      gave = f.under_way.gave;
      all_back = subst (λ (ls : List K). IsPermutation f.under_way.given ls) (append-nil (links_given f.under_way.over))
          (subst (λ (ls : List K). IsPermutation f.under_way.given (links_given f.under_way.over ++ ls)) (none_open o places rest) f.under_way.all_back);
      few = omega (arith, f.under_way.so_many);
      ended = boards_of places;
      all_seats = ended_len;
      names = λ n seat seat' e g.
          let p = place_there n seat e in
          (board_there o places rest n p.0 seat' p.1 g).0 ∙ ((f.under_way.standing n p.0 p.1).1 ∙ sym (are.names n seat e));
      of_seats = f.under_way.of_seats;
      follow = λ n seat seat' e g.
          let p = place_there n seat e in
          subst (λ (l : List Entry). FollowEachOther seat.log (of_seat seat.seat f.under_way.over) l) (sym (board_there o places rest n p.0 seat' p.1 g).1)
          (subst (λ (m : ℕ). FollowEachOther seat.log (of_seat m f.under_way.over) (log_at o p.0)) (sym (are.names n seat e))
          (f.under_way.follow n seat p.0 e p.1));
      one_log = one_log;
      ends = ends;
      all = λ zero_is.
          let a = f.all (sym (same (λ five. omega (arith, zero_is, five))) ∙ zero_is) in
          omega (arith, f.under_way.so_many, a.0);
      whole = λ zero_is.
          let a = f.all (sym (same (λ five. omega (arith, zero_is, five))) ∙ zero_is) in
          none_of (broken_off f.under_way.over) (omega (arith, f.under_way.broken, a.1));
      broken = omega (arith, f.under_way.broken, f.few, f.under_way.all_places);
      memory = λ not. f.under_way.memory (f.memory (λ five. not (same_five status looped same five)));
      answered = λ not. all_answered f.under_way.over f.under_way.served (f.under_way.memory (f.memory (λ five. not (same_five status looped same five))));
      failed = λ eight. f.failed (sym (same (λ five. omega (arith, eight, five))) ∙ eight);
      count = f.under_way.count;
    }

  -- memory was refused before any link was asked for
  pub port_refused : (most count : ℕ) (port : P) (seats : List Holder) → AreSeats count seats → ServesPort o most port port seats 5
  port_refused most count port seats are = record {
    over = [];
    served = tt;
    got_back = told_nothing (o.got_back port);
    given = [];
    gave = told_nothing (o.gave port);
    all_back = IsPermutation-refl [];
    few = omega arith;
    ended = seats;
    all_seats = refl;
    names = λ n seat seat' e g. ap (λ (h : Holder). h.seat) (same_Some seat' seat (sym g ∙ e));
    of_seats = tt;
    follow = λ n seat seat' e g. ap (λ (h : Holder). h.log) (same_Some seat' seat (sym g ∙ e));
    one_log = λ not. absurd (not refl);
    ends = cc;
    all = λ e. absurd (omega (arith, e));
    whole = λ e. absurd (omega (arith, e));
    broken = omega arith;
    memory = λ not. tt;
    answered = λ not. tt;
    failed = λ e. absurd (omega (arith, e));
    count = omega arith;
  }

  still_by : (call : Call P Holder) (port' : P) (places : List (Place Holder K)) (looped count : ℕ) (seats seats' : List Holder)
      → AreFinished o call port' places looped → call.seats.value.items ≡ seats → seats' ≡ boards_of places → AreSeats count seats → AreSeats count seats'
  still_by call port' places looped count seats seats' f same left are =
      subst (AreSeats count) (sym left) (still_seats call port' places looped f count (subst (AreSeats count) (sym same) are))

  -- after the rounds they are all seats still
  pub still_all : (most count : ℕ) (port port' : P) (seats seats' : List Holder) (looped : ℕ)
      → ServesAll o most port port' seats seats' looped → AreSeats count seats → AreSeats count seats'
  still_all most count port port' seats seats' looped (inl r) are = subst (AreSeats count) (sym r.same_seats) are
  still_all most count port port' seats seats' looped (inr s) are = still_by s.call port' s.places looped count seats seats' s.finished s.seats_are s.left are

  served_by : (most count : ℕ) (port port' : P) (seats seats' : List Holder) (looped : ℕ) → (s : AreServed o most port port' seats seats' looped)
      → AreSeats count seats → (status : ℕ) → (status ≢ 5 → status ≡ looped) → IsTrue (ends_port status)
      → (status ≢ 5 → (log : List Entry) × IsLogOfAll seats' log) → ServesPort o most port port' seats status
  served_by most count port port' seats seats' looped s are status same ends one_log =
      let log : status ≢ 5 → (log : List Entry) × IsLogOfAll (boards_of s.places) log =
      λ not. let l = one_log not in (l.0, subst (λ (hs : List Holder). IsLogOfAll hs l.0) s.left l.1) in
      let served = port_served s.call port' s.places looped s.finished count (subst (AreSeats count) (sym s.seats_are) are) status same ends log in
      subst (λ (n : ℕ). ServesPort o n port port' seats status) s.most_is
      (subst (λ (q : P). ServesPort o s.call.most q port' seats status) s.port_is
      (subst (λ (hs : List Holder). ServesPort o s.call.most s.call.port.value port' hs status) s.seats_are served))

  refused_by : (most count : ℕ) (port port' : P) (seats seats' : List Holder) (looped status : ℕ) → IsRefused port port' seats seats' looped
      → AreSeats count seats → (status ≢ 5 → status ≡ looped) → ServesPort o most port port' seats status
  refused_by most count port port' seats seats' looped status r are same =
      subst (λ (n : ℕ). ServesPort o most port port' seats n) (sym (same_five status looped same r.told))
      (subst (λ (q : P). ServesPort o most port q seats 5) (sym r.same_port) (port_refused most count port seats are))

  ends_as : (status looped : ℕ) → (status ≢ 5 → status ≡ looped) → IsTrue (ends_port looped) → IsTrue (ends_port status)
  ends_as status looped same ends = elim (five_or status) [
    | inl five ↦ subst (λ (n : ℕ). IsTrue (ends_port n)) (sym five) cc
    | inr not ↦ subst (λ (n : ℕ). IsTrue (ends_port n)) (sym (same not)) ends
  ]

  -- the seats were brought together, or couldn't be
  pub all_served : (most count : ℕ) (port port' : P) (seats seats' : List Holder) (looped : ℕ) → ServesAll o most port port' seats seats' looped
      → AreSeats count seats → (status : ℕ) → (status ≢ 5 → status ≡ looped)
      → (status ≢ 5 → (log : List Entry) × IsLogOfAll seats' log) → ServesPort o most port port' seats status
  all_served most count port port' seats seats' looped (inl r) are status same one_log = refused_by most count port port' seats seats' looped status r are same
  all_served most count port port' seats seats' looped (inr s) are status same one_log =
      served_by most count port port' seats seats' looped s are status same (ends_as status looped same s.finished.ends) one_log
