-- What is known of all places while a step is made at one of them.
use Rattle.std.proofs.Common.{◌≡◌, ◌≢◌, ◌⊎◌, inl, inr, ℕ, ◌+◌, ◌-◌, ◌<◌, ◌≤◌, ◌==◌, Bool, true, false, List, [], ◌∷◌, ◌++◌, length, slice_get, set, Option, None, Some, is_none, refl, ap, sym, subst, ◌∙◌, arith, append-nil, length-append}
use Rattle.std.specs.List.{flat_map}
use Rattle.std.specs.List.Sorted.{IsPermutation}
use Rattle.std.proofs.lemmas.Option.{same_Some, slice_get_within}
use Rattle.std.proofs.lemmas.List.{length-set}
use Rattle.std.proofs.lemmas.List.Elements.{filter-append}
use Rattle.std.proofs.lemmas.List.Sorted.{length_permutation}
use Rattle.version_tree.specs.declared.entry.Entry.{Entry}
use Rattle.nav_io.specs.Told.{append_told, HasOut}
use Rattle.poll_many.specs.Connections.{Outside, Connection, IsServed, FollowEachOther, of_seat, links_given, links_back, broken_off}
use Rattle.poll_many.specs.Places.{KeepsSeat, Stays, Begins, IsOver, Ends, Starves, TakesLink, TakesTurn, Closes, IsStanding, seat_at, log_at, open_at, open_links, is_lost, is_busy}
use Rattle.poll_many.specs.Rounds.{IsUnderWay, NoneLost, RestBefore, still_wanted}
use Rattle.poll_many.specs.declared.call.Call.{Call}
use Rattle.poll_many.specs.declared.place.Asked.{Asked}
use Rattle.poll_many.specs.declared.place.Asked.TheVariants.{Unasked, Given, NotYet, Failed}
use Rattle.poll_many.specs.declared.place.Place.{Place}
use Rattle.poll_many.specs.declared.place.Place.TheVariants.{Free, Busy, Lost, Away}
use Rattle.poll_many.specs.declared.place.Turn.{Turn}
use Rattle.poll_many.specs.declared.place.Turn.TheVariants.{Waits, Ended}
use Rattle.poll_many.proofs.PlaceLists.{cut_at, got, put_here, put_there, same_or, links_at, links_put, permuted_in, permuted_over, has_out, had_room, told_one, told_one_more, all_last, map_last}

module _ {P B K : Type 0} (o : Outside P B K) (places : List (Place B K)) (n : ℕ) (p p' : Place B K) (is : slice_get places n ≡ Some p) (keeps : KeepsSeat o p p') where
  -- each place stands
  standing_put : ((k : ℕ) (q : Place B K) → slice_get places k ≡ Some q → IsStanding o q × (seat_at o q ≡ k))
      → (k : ℕ) (q : Place B K) → slice_get (set places n p') k ≡ Some q → IsStanding o q × (seat_at o q ≡ k)
  standing_put all k q e = elim (got places n p p' k q is e) [
    | inl h ↦ (subst (IsStanding o) (sym h.1) keeps.standing, ap (seat_at o) h.1 ∙ (keeps.seat ∙ ((all n p is).1 ∙ sym h.0)))
    | inr h ↦ all k q h.1
  ]

  not_lost : (b : Bool) → is_lost p ≡ b → is_lost p' ≡ false → is_lost p ≡ false
  not_lost true e none = absurd (cc (sym (keeps.lost e) ∙ none))
  not_lost false e none = e

  -- where no seat is lost now, none was
  none_lost : NoneLost (set places n p') → NoneLost places
  none_lost none k q e = elim (same_or k n) [
    | inl same ↦
        let there : slice_get places n ≡ Some q = subst (λ (m : ℕ). slice_get places m ≡ Some q) same e in
        subst (λ (r : Place B K). is_lost r ≡ false) (same_Some p q (sym is ∙ there)) (not_lost (is_lost p) refl (none n p' (put_here places n p p' is)))
    | inr not ↦ none k q (put_there places n k p' not ∙ e)
  ]

follow_last : {K : Type 0} (log : List Entry) (cs : List (Connection K)) (end : List Entry) (c : Connection K)
    → FollowEachOther log cs end → c.before ≡ end → FollowEachOther log (cs ++ c ∷ []) c.after
follow_last log [] end c h before = (before ∙ h, refl)
follow_last log (x ∷ cs) end c h before = (h.0, follow_last x.after cs end c h.1 before)

-- the connections of a seat, with one of it or of another behind them
of_seat_own : {K : Type 0} (seat : ℕ) (cs : List (Connection K)) (c : Connection K) → c.seat ≡ seat → of_seat seat (cs ++ c ∷ []) ≡ of_seat seat cs ++ c ∷ []
of_seat_own {K} seat cs c e =
    let test : (c.seat == seat) ≡ true = grind (arith, e) in
    filter-append (λ (d : Connection K). d.seat == seat) cs (c ∷ []) ∙ ap (λ w. of_seat seat cs ++ w) (rw test refl)

of_seat_other : {K : Type 0} (seat : ℕ) (cs : List (Connection K)) (c : Connection K) → c.seat ≢ seat → of_seat seat (cs ++ c ∷ []) ≡ of_seat seat cs
of_seat_other {K} seat cs c e =
    let test : (c.seat == seat) ≡ false = grind (arith, e) in
    filter-append (λ (d : Connection K). d.seat == seat) cs (c ∷ []) ∙ (ap (λ w. of_seat seat cs ++ w) (rw test refl) ∙ append-nil (of_seat seat cs))

module _ {P B K : Type 0} (o : Outside P B K) (places : List (Place B K)) (n : ℕ) (p p' : Place B K) (is : slice_get places n ≡ Some p) (seats : List B) (over : List (Connection K)) where
  -- the sessions of each seat follow each other, where nothing ended
  follow_same : log_at o p' ≡ log_at o p
      → ((k : ℕ) (seat : B) (q : Place B K) → slice_get seats k ≡ Some seat → slice_get places k ≡ Some q → FollowEachOther (o.log seat) (of_seat k over) (log_at o q))
      → (k : ℕ) (seat : B) (q : Place B K) → slice_get seats k ≡ Some seat → slice_get (set places n p') k ≡ Some q → FollowEachOther (o.log seat) (of_seat k over) (log_at o q)
  follow_same same all k seat q e f = elim (got places n p p' k q is f) [
    | inl h ↦
        let there : slice_get places k ≡ Some p = subst (λ (m : ℕ). slice_get places m ≡ Some p) (sym h.0) is in
        subst (λ (l : List Entry). FollowEachOther (o.log seat) (of_seat k over) l) (sym (ap (log_at o) h.1 ∙ same)) (all k seat p e there)
    | inr h ↦ all k seat q e h.1
  ]

  -- and where a connection of the place ended
  follow_over : (c : Connection K) → c.seat ≡ n → c.before ≡ log_at o p → c.after ≡ log_at o p'
      → ((k : ℕ) (seat : B) (q : Place B K) → slice_get seats k ≡ Some seat → slice_get places k ≡ Some q → FollowEachOther (o.log seat) (of_seat k over) (log_at o q))
      → (k : ℕ) (seat : B) (q : Place B K) → slice_get seats k ≡ Some seat → slice_get (set places n p') k ≡ Some q → FollowEachOther (o.log seat) (of_seat k (over ++ c ∷ [])) (log_at o q)
  follow_over c own before after all k seat q e f = elim (got places n p p' k q is f) [
    | inl h ↦
        let there : slice_get places k ≡ Some p = subst (λ (m : ℕ). slice_get places m ≡ Some p) (sym h.0) is in
        let more = follow_last (o.log seat) (of_seat k over) (log_at o p) c (all k seat p e there) before in
        subst (λ (l : List Entry). FollowEachOther (o.log seat) (of_seat k (over ++ c ∷ [])) l) (after ∙ sym (ap (log_at o) h.1))
        (subst (λ (cs : List (Connection K)). FollowEachOther (o.log seat) cs c.after) (sym (of_seat_own k over c (own ∙ sym h.0))) more)
    | inr h ↦
        let other : c.seat ≢ k = (λ (same : c.seat ≡ k). h.0 (sym same ∙ own)) in
        subst (λ (cs : List (Connection K)). FollowEachOther (o.log seat) cs (log_at o q)) (sym (of_seat_other k over c other)) (all k seat q e h.1)
  ]

at_most_one : {K : Type 0} (c : Connection K) (b : Bool) → is_none c.status ≡ b → length (broken_off (c ∷ [])) ≤ 1
at_most_one c true e = rw e (omega arith)
at_most_one c false e = rw e (omega arith)

broken_more : {K : Type 0} (cs : List (Connection K)) (c : Connection K) → length (broken_off (cs ++ c ∷ [])) ≤ length (broken_off cs) + 1
broken_more {K} cs c =
    let e = ap length (filter-append (λ (d : Connection K). is_none d.status) cs (c ∷ [])) in
    let a = length-append (broken_off cs) (broken_off (c ∷ [])) in
    let one = at_most_one c (is_none c.status) refl in
    omega (arith, e, a, one)

is_some_status : (status : Option ℕ) → status ≢ None → is_none status ≡ false
is_some_status None some = absurd (some refl)
is_some_status (Some s) some = refl

broken_same : {K : Type 0} (cs : List (Connection K)) (c : Connection K) → c.status ≢ None → broken_off (cs ++ c ∷ []) ≡ broken_off cs
broken_same {K} cs c some =
    let test = is_some_status c.status some in
    filter-append (λ (d : Connection K). is_none d.status) cs (c ∷ []) ∙ (ap (λ w. broken_off cs ++ w) (rw test refl) ∙ append-nil (broken_off cs))

length_over : {K : Type 0} (cs : List (Connection K)) → length (links_back cs) ≡ length (links_given cs)
length_over [] = refl
length_over (c ∷ cs) = omega (arith, length_over cs)

-- as many links came back as sessions are over
pub out_now : {P B K : Type 0} (o : Outside P B K) (call : Call P B) (cut wanted : ℕ) (port : P) (places : List (Place B K)) (u : IsUnderWay o call cut wanted port places)
    → length u.given ≡ length (links_back u.over) + length (open_links places)
out_now o call cut wanted port places u =
    let e = length_permutation _ _ u.all_back in
    let a = length-append (links_given u.over) (open_links places) in
    let m = length_over u.over in
    omega (arith, e, a, m)

out_by : {P B K : Type 0} (o : Outside P B K) (call : Call P B) (cut wanted : ℕ) (port : P) (places : List (Place B K)) (u : IsUnderWay o call cut wanted port places)
    → 1 ≤ length (open_links places) → (u.given ≡ []) ⊎ HasOut (o.gave call.port.value) (o.got_back call.port.value) 0
    → HasOut (o.gave port) (o.got_back port) 1
out_by o call cut wanted port places u some (inl none) =
    let e = out_now o call cut wanted port places u in let z = ap length none in absurd (omega (arith, e, z, some))
out_by o call cut wanted port places u some (inr room) =
    let e = out_now o call cut wanted port places u in
    subst (λ g. HasOut g (o.got_back port) 1) (sym u.gave) (subst (λ b. HasOut (append_told (o.gave call.port.value) u.given) b 1) (sym u.got_back)
    (has_out (o.gave call.port.value) (o.got_back call.port.value) u.given (links_back u.over) 1 room (omega (arith, e, some))))

busy_links : {B K : Type 0} (p : Place B K) → is_busy p ≡ true → length (open_at p) ≡ 1
busy_links (Free desk board) e = absurd (cc e)
busy_links (Busy s) e = refl
busy_links (Lost board) e = absurd (cc e)
busy_links Away e = absurd (cc e)

-- where a session is open its link is out
pub busy_out : {P B K : Type 0} (o : Outside P B K) (call : Call P B) (cut wanted : ℕ) (port : P) (places : List (Place B K)) (n : ℕ) (p : Place B K)
    → slice_get places n ≡ Some p → IsUnderWay o call cut wanted port places → is_busy p ≡ true → HasOut (o.gave port) (o.got_back port) 1
busy_out {P} {B} {K} o call cut wanted port places n p is u busy =
    let c = cut_at places n p is in
    let e = ap length (links_at open_at places n p c (open_at p) refl) in
    let a = length-append (flat_map open_at c.front) (open_at p ++ flat_map open_at c.behind) in
    let b = length-append (open_at p) (flat_map open_at c.behind) in
    let one = busy_links p busy in
    out_by o call cut wanted port places u (omega (arith, e, a, b, one)) u.room

-- a step at a place that stays as far as it was
pub stayed : {P B K : Type 0} (o : Outside P B K) (call : Call P B) (cut wanted : ℕ) (port port' : P) (places : List (Place B K)) (n : ℕ) (p p' : Place B K)
    → slice_get places n ≡ Some p → o.faults port ≤ o.faults port' → Stays o p p' port port'
    → IsUnderWay o call cut wanted port places → IsUnderWay o call cut wanted port' (set places n p')
stayed {P} {B} {K} o call cut wanted port port' places n p p' is less s u =
    let c = cut_at places n p is in
    let links : open_links (set places n p') ≡ open_links places =
    links_put open_at places n p p' c (open_at p) s.same_link ∙ sym (links_at open_at places n p c (open_at p) refl) in
    record {
      over = u.over;
      served = u.served;
      got_back = s.same_back ∙ u.got_back;
      given = u.given;
      gave = s.same_given ∙ u.gave;
      all_back = subst (λ (ls : List K). IsPermutation u.given (links_given u.over ++ ls)) (sym links) u.all_back;
      so_many = u.so_many;
      room = u.room;
      all_places = length-set places n p' ∙ u.all_places;
      standing = standing_put o places n p p' is s.keeps u.standing;
      follow = follow_same o places n p p' is call.seats.value.items u.over s.same_log u.follow;
      of_seats = u.of_seats;
      broken = u.broken;
      memory = λ none. u.memory (none_lost o places n p p' is s.keeps none);
      count = omega (arith, less, u.count);
    }

room_at_first : {P B K : Type 0} (o : Outside P B K) (call : Call P B) (cut wanted : ℕ) (port port' : P) (places : List (Place B K)) (link : K)
    → (u : IsUnderWay o call cut wanted port places) → HasOut (append_told (o.gave port) (link ∷ [])) (o.got_back port) 1
    → (u.given ≡ []) ⊎ HasOut (o.gave call.port.value) (o.got_back call.port.value) 0 → HasOut (o.gave call.port.value) (o.got_back call.port.value) 0
room_at_first o call cut wanted port port' places link u out (inr room) = room
room_at_first o call cut wanted port port' places link u out (inl none) =
    had_room (o.gave call.port.value) (o.got_back call.port.value) u.given (links_back u.over) link
    (subst (λ g. HasOut (append_told g (link ∷ [])) (append_told (o.got_back call.port.value) (links_back u.over)) 1) u.gave
    (subst (λ b. HasOut (append_told (o.gave port) (link ∷ [])) b 1) u.got_back out))
    (let z = ap length none in omega (arith, z))

-- a session began at a place
pub begun : {P B K : Type 0} (o : Outside P B K) (call : Call P B) (cut wanted : ℕ) (port port' : P) (places : List (Place B K)) (n : ℕ) (p p' : Place B K)
    → slice_get places n ≡ Some p → o.faults port ≤ o.faults port' → 0 < wanted → Begins o p p' port port'
    → IsUnderWay o call cut wanted port places → IsUnderWay o call cut (wanted - 1) port' (set places n p')
begun {P} {B} {K} o call cut wanted port port' places n p p' is less some s u =
    let c = cut_at places n p is in
    let links = links_put open_at places n p p' c (s.link ∷ []) s.new_link in
    let before = links_at open_at places n p c [] s.no_link in
    let out : HasOut (append_told (o.gave port) (s.link ∷ [])) (o.got_back port) 1 =
    subst (λ g. HasOut g (o.got_back port) 1) s.gave (subst (λ b. HasOut (o.gave port') b 1) s.same_back s.out) in
    record {
      over = u.over;
      served = u.served;
      got_back = s.same_back ∙ u.got_back;
      given = u.given ++ s.link ∷ [];
      gave = told_one (o.gave call.port.value) (o.gave port) (o.gave port') u.given s.link u.gave s.gave;
      all_back = subst (λ (ls : List K). IsPermutation (u.given ++ s.link ∷ []) (links_given u.over ++ ls)) (sym links)
          (permuted_in u.given (links_given u.over) (flat_map open_at c.front) (flat_map open_at c.behind) s.link
          (subst (λ (ls : List K). IsPermutation u.given (links_given u.over ++ ls)) before u.all_back));
      so_many = let a = length-append u.given (s.link ∷ []) in omega (arith, a, some, u.so_many);
      room = inr (room_at_first o call cut wanted port port' places s.link u out u.room);
      all_places = length-set places n p' ∙ u.all_places;
      standing = standing_put o places n p p' is s.keeps u.standing;
      follow = follow_same o places n p p' is call.seats.value.items u.over s.same_log u.follow;
      of_seats = u.of_seats;
      broken = u.broken;
      memory = λ none. u.memory (none_lost o places n p p' is s.keeps none);
      count = omega (arith, less, u.count);
    }

-- what a connection that is over tells of its seat, and of memory
seat_inside : {P B K : Type 0} (o : Outside P B K) (call : Call P B) (cut wanted : ℕ) (port : P) (places : List (Place B K)) (n : ℕ) (p : Place B K) (c : Connection K)
    → slice_get places n ≡ Some p → IsUnderWay o call cut wanted port places → c.seat ≡ n → c.seat < length call.seats.value.items
seat_inside o call cut wanted port places n p c is u own = omega (arith, slice_get_within places n p is, u.all_places, own)

has_memory : {P B K : Type 0} (o : Outside P B K) (places : List (Place B K)) (n : ℕ) (p p' : Place B K) (c : Connection K)
    → slice_get places n ≡ Some p → IsOver o p p' c → NoneLost (set places n p') → c.status ≢ Some 5
has_memory o places n p p' c is over none refused = cc (sym (over.lost refused) ∙ none n p' (put_here places n p p' is))

-- a session at a place is over
pub ended : {P B K : Type 0} (o : Outside P B K) (call : Call P B) (cut cut' wanted : ℕ) (port port' : P) (places : List (Place B K)) (n : ℕ) (p p' : Place B K) (c : Connection K)
    → slice_get places n ≡ Some p → o.faults port ≤ o.faults port' → Ends o p p' port port' c
    → (u : IsUnderWay o call cut wanted port places) → length (broken_off (u.over ++ c ∷ [])) ≤ cut'
    → IsUnderWay o call cut' wanted port' (set places n p')
ended {P} {B} {K} o call cut cut' wanted port port' places n p p' c is less s u broken =
    let d = cut_at places n p is in
    let links = links_put open_at places n p p' d [] s.over.no_link in
    let before = links_at open_at places n p d (c.given ∷ []) s.link in
    let own : c.seat ≡ n = s.over.seat ∙ (u.standing n p is).1 in
    record {
      over = u.over ++ c ∷ [];
      served = all_last (IsServed o) u.over c u.served s.over.served;
      got_back = told_one_more (λ (x : Connection K). x.back) (o.got_back call.port.value) (o.got_back port) (o.got_back port') u.over c u.got_back s.got_back;
      given = u.given;
      gave = s.same_given ∙ u.gave;
      all_back = subst (λ (ls : List K). IsPermutation u.given (ls ++ open_links (set places n p'))) (sym (map_last (λ (x : Connection K). x.given) u.over c))
          (subst (λ (ls : List K). IsPermutation u.given ((links_given u.over ++ c.given ∷ []) ++ ls)) (sym links)
          (permuted_over u.given (links_given u.over) (flat_map open_at d.front) (flat_map open_at d.behind) c.given
          (subst (λ (ls : List K). IsPermutation u.given (links_given u.over ++ ls)) before u.all_back)));
      so_many = u.so_many;
      room = u.room;
      all_places = length-set places n p' ∙ u.all_places;
      standing = standing_put o places n p p' is s.keeps u.standing;
      follow = follow_over o places n p p' is call.seats.value.items u.over c own s.over.before s.over.after u.follow;
      of_seats = all_last (λ (x : Connection K). x.seat < length call.seats.value.items) u.over c u.of_seats (seat_inside o call cut wanted port places n p c is u own);
      broken = broken;
      memory = λ none. all_last (λ (x : Connection K). x.status ≢ Some 5) u.over c (u.memory (none_lost o places n p p' is s.keeps none)) (has_memory o places n p p' c is s.over none);
      count = omega (arith, less, u.count);
    }

-- no session could be made for a link
pub starved : {P B K : Type 0} (o : Outside P B K) (call : Call P B) (cut wanted : ℕ) (port port' : P) (places : List (Place B K)) (n : ℕ) (p p' : Place B K) (c : Connection K)
    → slice_get places n ≡ Some p → o.faults port ≤ o.faults port' → 0 < wanted → Starves o p p' port port' c
    → IsUnderWay o call cut wanted port places → IsUnderWay o call cut (wanted - 1) port' (set places n p')
starved {P} {B} {K} o call cut wanted port port' places n p p' c is less some s u =
    let d = cut_at places n p is in
    let links = links_put open_at places n p p' d [] s.over.no_link in
    let before = links_at open_at places n p d [] s.no_link in
    let own : c.seat ≡ n = s.over.seat ∙ (u.standing n p is).1 in
    record {
      over = u.over ++ c ∷ [];
      served = all_last (IsServed o) u.over c u.served s.over.served;
      got_back = told_one_more (λ (x : Connection K). x.back) (o.got_back call.port.value) (o.got_back port) (o.got_back port') u.over c u.got_back s.got_back;
      given = u.given ++ c.given ∷ [];
      gave = told_one (o.gave call.port.value) (o.gave port) (o.gave port') u.given c.given u.gave s.gave;
      all_back = subst (λ (ls : List K). IsPermutation (u.given ++ c.given ∷ []) (ls ++ open_links (set places n p'))) (sym (map_last (λ (x : Connection K). x.given) u.over c))
          (subst (λ (ls : List K). IsPermutation (u.given ++ c.given ∷ []) ((links_given u.over ++ c.given ∷ []) ++ ls)) (sym links)
          (permuted_over (u.given ++ c.given ∷ []) (links_given u.over) (flat_map open_at d.front) (flat_map open_at d.behind) c.given
          (permuted_in u.given (links_given u.over) (flat_map open_at d.front) (flat_map open_at d.behind) c.given
          (subst (λ (ls : List K). IsPermutation u.given (links_given u.over ++ ls)) before u.all_back))));
      so_many = let a = length-append u.given (c.given ∷ []) in omega (arith, a, some, u.so_many);
      room = inr (room_at_first o call cut wanted port port' places c.given u s.out u.room);
      all_places = length-set places n p' ∙ u.all_places;
      standing = standing_put o places n p p' is s.keeps u.standing;
      follow = follow_over o places n p p' is call.seats.value.items u.over c own s.over.before s.over.after u.follow;
      of_seats = all_last (λ (x : Connection K). x.seat < length call.seats.value.items) u.over c u.of_seats (seat_inside o call cut wanted port places n p c is u own);
      broken = let e = ap length (broken_same u.over c (λ none. cc (sym none ∙ s.told))) in omega (arith, e, u.broken);
      memory = λ none. all_last (λ (x : Connection K). x.status ≢ Some 5) u.over c (u.memory (none_lost o places n p p' is s.keeps none)) (has_memory o places n p p' c is s.over none);
      count = omega (arith, less, u.count);
    }

-- the port was asked for a link for a place
pub took : {P B K : Type 0} (o : Outside P B K) (call : Call P B) (wanted : ℕ) (port port' : P) (places : List (Place B K)) (n : ℕ) (p p' : Place B K) (asked : Asked)
    → slice_get places n ≡ Some p → o.faults port ≤ o.faults port' → 0 < wanted → TakesLink o p p' port port' asked
    → IsUnderWay o call 0 wanted port places → IsUnderWay o call 0 (still_wanted asked wanted) port' (set places n p')
took o call wanted port port' places n p p' Unasked is less some t u = stayed o call 0 wanted port port' places n p p' is less t u
took o call wanted port port' places n p p' NotYet is less some t u = stayed o call 0 wanted port port' places n p p' is less t u
took o call wanted port port' places n p p' Failed is less some t u = stayed o call 0 wanted port port' places n p p' is less t u
took o call wanted port port' places n p p' Given is less some t u = elim t [
  | inl begins ↦ begun o call 0 wanted port port' places n p p' is less some begins u
  | inr starves ↦ starved o call 0 wanted port port' places n p p' starves.0 is less some starves.1 u
]

-- a place had its turn
pub turned : {P B K : Type 0} (o : Outside P B K) (call : Call P B) (wanted : ℕ) (port port' : P) (places : List (Place B K)) (n : ℕ) (p p' : Place B K) (turn : Turn)
    → slice_get places n ≡ Some p → o.faults port ≤ o.faults port' → TakesTurn o p p' port port' turn
    → IsUnderWay o call 0 wanted port places → IsUnderWay o call 0 wanted port' (set places n p')
turned o call wanted port port' places n p p' Waits is less t u = stayed o call 0 wanted port port' places n p p' is less t u
turned o call wanted port port' places n p p' Ended is less t u =
    ended o call 0 0 wanted port port' places n p p' t.0 is less t.1 u
    (let e = ap length (broken_same u.over t.0 t.2) in omega (arith, e, u.broken))

-- at most so many were broken off, and so at most more
pub weaker : {P B K : Type 0} (o : Outside P B K) (call : Call P B) (cut cut' wanted : ℕ) (port : P) (places : List (Place B K)) → cut ≤ cut'
    → IsUnderWay o call cut wanted port places → IsUnderWay o call cut' wanted port places
weaker o call cut cut' wanted port places less u = record {
  over = u.over;
  served = u.served;
  got_back = u.got_back;
  given = u.given;
  gave = u.gave;
  all_back = u.all_back;
  so_many = u.so_many;
  room = u.room;
  all_places = u.all_places;
  standing = u.standing;
  follow = u.follow;
  of_seats = u.of_seats;
  broken = omega (arith, u.broken, less);
  memory = u.memory;
  count = u.count;
}

-- the port settled
pub settled : {P B K : Type 0} (o : Outside P B K) (call : Call P B) (cut wanted : ℕ) (port port' : P) (places : List (Place B K))
    → o.gave port' ≡ o.gave port → o.got_back port' ≡ o.got_back port → o.faults port ≤ o.faults port'
    → IsUnderWay o call cut wanted port places → IsUnderWay o call cut wanted port' places
settled o call cut wanted port port' places gave back less u = record {
  over = u.over;
  served = u.served;
  got_back = back ∙ u.got_back;
  given = u.given;
  gave = gave ∙ u.gave;
  all_back = u.all_back;
  so_many = u.so_many;
  room = u.room;
  all_places = u.all_places;
  standing = u.standing;
  follow = u.follow;
  of_seats = u.of_seats;
  broken = u.broken;
  memory = u.memory;
  count = omega (arith, less, u.count);
}

-- a place was closed
pub closed : {P B K : Type 0} (o : Outside P B K) (call : Call P B) (cut wanted : ℕ) (port port' : P) (places : List (Place B K)) (n : ℕ) (p p' : Place B K)
    → slice_get places n ≡ Some p → o.faults port ≤ o.faults port' → Closes o p p' port port'
    → IsUnderWay o call cut wanted port places → IsUnderWay o call (cut + 1) wanted port' (set places n p')
closed o call cut wanted port port' places n p p' is less (inl stays) u =
    weaker o call cut (cut + 1) wanted port' (set places n p') (omega arith) (stayed o call cut wanted port port' places n p p' is less stays u)
closed o call cut wanted port port' places n p p' is less (inr ends) u =
    ended o call cut (cut + 1) wanted port port' places n p p' ends.0 is less ends.1 u
    (let e = broken_more u.over ends.0 in omega (arith, e, u.broken))

k_before : (k n : ℕ) → k < n + 1 → k ≢ n → k < n
k_before k n less not = grind (arith, less, not)

-- one place more at which no session is open
pub rest_put : {B K : Type 0} (places : List (Place B K)) (n : ℕ) (p p' : Place B K) → slice_get places n ≡ Some p → is_busy p' ≡ false
    → RestBefore n places → RestBefore (n + 1) (set places n p')
rest_put places n p p' is rests before k q less e = elim (got places n p p' k q is e) [
  | inl h ↦ ap is_busy h.1 ∙ rests
  | inr h ↦ before k q (k_before k n less h.0) h.1
]
